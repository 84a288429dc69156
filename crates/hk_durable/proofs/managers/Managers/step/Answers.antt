use Rattle.std.proofs.Common.{rules, ◌≡◌, ◌<◌, length, slice_get, Some, Err, refl, arith}
use Rattle.std.proofs.lemmas.Option.{slice_get_read}
use Rattle.hk_durable.proofs.Sound.{refusal_told}
use Rattle.hk_durable.proofs.managers.Managers.step.Goals as goal

pub returns-in_err-out-clause-refused : goal.returns-in_err-out-clause-refused
returns-in_err-out-clause-refused c =
    let items = c.self.inside.items.items in
    let m = c.index_mut.result.now in
    let below : c.from.result < length items = omega (arith, c.self.invariant.eight, c.from.ensures, c.requires.shard) in
    let at : slice_get items c.from.result ≡ Some m = slice_get_read items (length items) c.from.result m refl below c.index_mut.ensures.value in
    let there : slice_get c.args.self.now c.args.shard ≡ Some m = search (rules, at) in
    let is : c.from_residual.result ≡ Err c.in_err-out.field-0.0 = search rules in
    refusal_told c.from_residual.result c.in_err-out.field-0.0 c.args.self.now c.args.shard c.args.event.now m c.step.new.manager is there c.in_err-out.ensures.made
