use Rattle.std.proofs.Common.{rules, ◌≡◌, None}
use Rattle.hk_init.specs.Leaving.{node_told}
use Rattle.hk_init.proofs.Finding.{lookup_finds, lookup_goes_on}
use Rattle.hk_init.proofs.lookup.look_up.Goals as goal

pub returns-in-Some : goal.returns-in-Some
returns-in-Some g c =
    let kept = c.loop-place.invariant in
    lookup_finds c.args.host c.args.count kept.0 c.loop-place.place c.loop-place.told _ _ _ c.ask-outcome.result (record { 0 = c.in-Some.node }) kept.1 c.loop-place-test.true c.ask-outcome.ensures c.in-Some.ensures

pub loop-place-preserved : goal.loop-place-preserved
loop-place-preserved g c =
    let kept = c.loop-place.invariant in
    let is : None ≡ node_told c.args.host c.ask-outcome.result = search rules in
    lookup_goes_on c.args.host kept.0 c.loop-place.place c.loop-place.told _ _ _ c.ask-outcome.result _ _ kept.1 c.ask-outcome.ensures is c.untold.ensures c.later-told.ensures
