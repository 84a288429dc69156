use Rattle.std.proofs.Common.{rules, ◌≡◌, Err}
use Rattle.hk_init.proofs.Looking.{look_fails, look_lacks, look_goes_on}
use Rattle.hk_init.proofs.looks.look_at_all.Goals as goal

pub returns-in_err-state : goal.returns-in_err-state
returns-in_err-state g c =
    let is : c.from_residual.result ≡ Err c.in_err-state.field-0.0 = search rules in
    look_fails c.args.count c.args.founding c.loop-place.states c.loop-place.place _ _ _ _ _ c.loop-place.invariant c.loop-place-test.true c.in_err-state.ensures is

pub returns-in_default : goal.returns-in_default
returns-in_default g c =
    look_lacks c.args.count c.args.founding c.loop-place.states c.loop-place.place _ _ _ _ c.loop-place.invariant c.loop-place-test.true c.in_ok-state.ensures.1

pub loop-place-preserved : goal.loop-place-preserved
loop-place-preserved g c =
    look_goes_on c.args.founding c.loop-place.states c.loop-place.place _ _ _ c.in_ok-state.state _ c.loop-place.invariant c.in_ok-state.ensures c.in-Ok.ensures.ok
