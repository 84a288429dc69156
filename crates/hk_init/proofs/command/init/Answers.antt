use Rattle.std.proofs.Common.{rules, ◌≡◌, Err}
use Rattle.hk_init.specs.Lines.{founded_line, open_words}
use Rattle.hk_init.proofs.Joining.{init_ends, init_goes_on}
use Rattle.hk_init.proofs.command.init.Goals as goal

pub returns-in_err-found_group-clause-does : goal.returns-in_err-found_group-clause-does
returns-in_err-found_group-clause-does g c =
    let words : c.deref.result.now ≡ open_words c.args.group.now c.args.founding = search rules in
    let is : c.from_residual.result ≡ Err c.in_err-found_group.field-0.0 = search rules in
    init_ends c.args.group.now c.deref.result.now c.args.count c.args.founding _ _ (g.K.Sink.held c.args.sink.now) _ _ words c.in_err-found_group.ensures is

pub returns-clause-does : goal.returns-clause-does
returns-clause-does g c =
    let words : c.deref.result.now ≡ open_words c.args.group.now c.args.founding = search rules in
    let line : c.deref-2.result.now ≡ founded_line c.args.founding = search rules in
    init_goes_on c.args.group.now c.deref.result.now c.deref-2.result.now c.args.count c.args.founding _ _ _ _ _ _ words line c.in_ok-found_group.ensures c.write.ensures.written
