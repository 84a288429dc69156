-- What runs come to.
use Rattle.std.proofs.Common.{◌≡◌, ◌+◌, List, length, ap, subst, arith}
use Rattle.hk_safety.specs.Run.{RunState, RunsAreLegal}
use Rattle.hk_script.specs.Drawn.{numbers_from, group_of}
use Rattle.hk_storm.specs.declared.opts.StormOpts.{StormOpts}
use Rattle.hk_storm.specs.declared.groups.StormGroup.{StormGroup}
use Rattle.hk_storm.specs.declared.calls.StormCall.{StormCall}
use Rattle.hk_storm.specs.declared.outcomes.Outcomes.{Outcomes}
use Rattle.hk_storm.specs.declared.compare.Unlike.{Unlike}
use Rattle.hk_storm.specs.Calls.{drawn_calls, all_calls, AreDrawn, IsUnlike}
use Rattle.hk_storm.specs.Outcomes.{no_outcomes, outcomes_of}
use Rattle.hk_storm.specs.Concluded.{AreAssembled, EachRun, AreLegal, AreUnasked}
use Rattle.hk_storm.proofs.Drawing.{drawn_length}
use Rattle.hk_storm.proofs.Outcoming.{total, runs_total}
use Rattle.hk_storm.proofs.Concluding.{are_legal}

module _ (opts : StormOpts) (groups : List StormGroup) (runs : List RunState) (came : AreAssembled (group_of opts.nodes) groups runs) (drawn made : List StormCall) (drawn_is : drawn ≡ drawn_calls opts) (made_is : made ≡ all_calls runs) where
  pub come_to_legal : RunsAreLegal → EachRun runs → (outcomes : Outcomes) → outcomes ≡ outcomes_of runs → AreDrawn drawn made → AreLegal opts groups outcomes
  come_to_legal legal each outcomes counted same =
      let are : AreDrawn (drawn_calls opts) (all_calls runs) = subst (λ (l : List StormCall). AreDrawn l (all_calls runs)) drawn_is (subst (AreDrawn drawn) made_is same) in
      let sum : total (outcomes_of runs) ≡ total no_outcomes + length (all_calls runs) = runs_total no_outcomes runs in
      let all : length (all_calls runs) ≡ length (drawn_calls opts) = are.all in
      let many : length (drawn_calls opts) ≡ opts.calls = drawn_length opts (numbers_from opts.start) 0 opts.calls in
      let same_total : total outcomes ≡ total (outcomes_of runs) = ap total counted in
      record {
        runs = runs;
        came = came;
        drawn = are;
        legal = are_legal legal runs each;
        counted = counted;
        added = omega (arith, same_total, sum, all, many);
      }

  pub come_to_unasked : (unlike : Unlike) → IsUnlike drawn made unlike → AreUnasked opts groups unlike
  come_to_unasked unlike is = record { runs = runs; came = came; told = subst (λ (l : List StormCall). IsUnlike l (all_calls runs) unlike) drawn_is (subst (λ (l : List StormCall). IsUnlike drawn l unlike) made_is is) }
