use Rattle.std.proofs.Common.{rules, ◌≡◌, Err}
use Rattle.hk_init.specs.Phases.{Looks}
use Rattle.hk_init.specs.Init.{IsAgreed}
use Rattle.hk_init.proofs.Joining.{then_ends, then_goes_on, founding_behind, agreed_by}
use Rattle.hk_init.proofs.command.found_group.Goals as goal

pub returns-in_err-states : goal.returns-in_err-states
returns-in_err-states g c =
    let is : c.from_residual.result ≡ Err c.in_err-states.field-0.0 = search rules in
    founding_behind c.args.words.now c.args.count c.args.founding c.read_clock-began.result _ _ _ _ c.read_clock-began.ensures
    (then_ends (Looks c.args.count c.args.founding) (IsAgreed c.args.words.now c.args.count c.args.founding c.read_clock-began.result) _ _ _ _ c.in_err-states.ensures is)

pub returns : goal.returns
returns g c =
    let same : c.as_slice.result.now ≡ c.in_ok-states.states = search rules in
    founding_behind c.args.words.now c.args.count c.args.founding c.read_clock-began.result _ _ _ _ c.read_clock-began.ensures
    (then_goes_on (Looks c.args.count c.args.founding) (IsAgreed c.args.words.now c.args.count c.args.founding c.read_clock-began.result) _ _ _ _ _ c.in_ok-states.ensures
    (agreed_by c.args.words.now c.args.count c.args.founding c.read_clock-began.result c.in_ok-states.states c.as_slice.result.now _ _ _ same c.in_ok-states.ensures.2.1 c.found_with.ensures))
