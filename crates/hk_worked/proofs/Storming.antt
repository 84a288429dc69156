-- What the journals of two calls tell.
use Rattle.std.proofs.Common.{◌≡◌, ◌≢◌, ◌<◌, ℕ, zero, suc, List, [], ◌∷◌, ◌++◌, Some, Ok, refl, sym, ap, subst, inl, inr, arith, slice_get, codes, decimal}
use Rattle.hk_base.specs.declared.stamp.NodeId.{NodeId}
use Rattle.hk_base.specs.declared.call.Op.TheVariants.{Read}
use Rattle.hk_safety.specs.Run.{RunState, IsRun, RunsAreLegal}
use Rattle.hk_merge.specs.declared.note.Note.{Note}
use Rattle.hk_merge.specs.Merged.{Rises, journal_of}
use Rattle.hk_merge.specs.Placed.{MergedAreMerged}
use Rattle.hk_assemble.specs.Assembled.{IsAssembled}
use Rattle.hk_script.specs.Drawn.{ask_drawn, op_drawn, group_of}
use Rattle.hk_storm.specs.declared.calls.StormCall.{StormCall}
use Rattle.hk_storm.specs.declared.outcomes.Outcomes.{Outcomes}
use Rattle.hk_storm.specs.declared.report.Report.TheVariants.{Legal, Unasked}
use Rattle.hk_storm.specs.declared.compare.Unlike.{Unlike}
use Rattle.hk_storm.specs.Calls.{drawn_from, drawn_calls, all_calls, IsAsOften, AreDrawn, IsFirstUnlike, IsUnlike}
use Rattle.hk_storm.specs.Outcomes.{with_calls, outcomes_of}
use Rattle.hk_storm.specs.Storm.{IsGroup, AreGroups}
use Rattle.hk_storm.specs.Text.{report_text}
use Rattle.hk_storm.specs.Concluded.{AreAssembled, AreLegal, AreUnasked}
use Rattle.hk_worked.specs.Journals.{first_node, second_node, key, write, journals, note}
use Rattle.hk_worked.specs.Assembling.{header, run}
use Rattle.hk_worked.specs.Storming.{opts, idle, left, WorkedStorm}
use Rattle.hk_worked.proofs.Merging.{rises}
use Rattle.hk_worked.proofs.Assembling.{comes, is_run, comes_unread, unread}

abbrev first_drawn : StormCall
first_drawn = record { node = first_node; key = key; op = write }

abbrev second_drawn : StormCall
second_drawn = record { node = second_node; key = key; op = Read }

abbrev calls : List StormCall
calls = first_drawn ∷ second_drawn ∷ []

drawn_are : drawn_calls opts ≡ calls
unfolding drawn_from ask_drawn op_drawn
drawn_are = refl

differ : first_drawn ≢ second_drawn
differ same = let e : 0 ≡ 1 = ap (λ (c : StormCall). c.node.0) same in omega (arith, e)

one_call : (a b : StormCall) → Some a ≡ Some b → a ≡ b
one_call a b same = cc

-- ---- the groups
rises_idle : (n : NodeId) → Rises (journal_of idle.journals n)
rises_idle n = at n.0
  where
    at : (k : ℕ) → Rises (journal_of idle.journals (record { 0 = k }))
    at zero = tt
    at (suc zero) = tt
    at (suc (suc k)) = tt

abbrev idle_run : RunState
idle_run = record { header = header; events = [] }

idle_comes : MergedAreMerged → IsAssembled (Ok idle_run) header idle.journals []
idle_comes merge = ([], merge idle.journals [] rises_idle, record { same = refl; goes = refl; told = λ listed note is. absurd cc })

idle_is_run : IsRun idle_run
idle_is_run = record { header = is_run.header; accepted = tt }

abbrev runs : RunState → List RunState
runs busy = busy ∷ idle_run ∷ idle_run ∷ idle_run ∷ idle_run ∷ idle_run ∷ idle_run ∷ idle_run ∷ []

come : MergedAreMerged → (notes : List Note) (busy : RunState) → IsAssembled (Ok busy) header journals notes → AreAssembled (group_of 2) (left notes) (runs busy)
come merge notes busy comes =
    let rests = idle_comes merge in (comes, (rests, (rests, (rests, (rests, (rests, (rests, (rests, tt))))))))

idle_group : IsGroup 2 idle
idle_group = record { whole = refl; rising = rises_idle }

groups : AreGroups 2 (left (note ∷ []))
groups = (record { whole = refl; rising = rises }, (idle_group, (idle_group, (idle_group, (idle_group, (idle_group, (idle_group, (idle_group, tt))))))))

-- ---- both calls are answered
as_often : (i : ℕ) (call : StormCall) → slice_get calls i ≡ Some call → IsAsOften call calls calls
as_often zero call is = subst (λ (c : StormCall). IsAsOften c calls calls) (one_call first_drawn call is)
    (1, inl (refl, 0, refl, inr (λ same. differ (sym same), refl)), inl (refl, 0, refl, inr (λ same. differ (sym same), refl)))
as_often (suc zero) call is = subst (λ (c : StormCall). IsAsOften c calls calls) (one_call second_drawn call is)
    (1, inr (differ, inl (refl, 0, refl, refl)), inr (differ, inl (refl, 0, refl, refl)))
as_often (suc (suc i)) call is = absurd cc

are_drawn : AreDrawn (drawn_calls opts) (all_calls (runs run))
are_drawn = subst (λ (drawn : List StormCall). AreDrawn drawn calls) (sym drawn_are) (record { each = as_often; all = refl })

abbrev answered : Outcomes
answered = record { answered = 2; busy = 0; aborted = 0; unanswered = 0 }

counted : answered ≡ outcomes_of (runs run)
unfolding with_calls
counted = refl

are_legal : MergedAreMerged → RunsAreLegal → AreLegal opts (left (note ∷ [])) answered
are_legal merge legal =
    let rests = legal idle_run idle_is_run in
    record {
      runs = runs run;
      came = come merge (note ∷ []) run (comes merge);
      drawn = are_drawn;
      legal = (legal run is_run, (rests, (rests, (rests, (rests, (rests, (rests, (rests, tt))))))));
      counted = counted;
      added = refl;
    }

abbrev told_text : List ℕ
told_text = (codes "storm " ++ decimal 2 ++ codes " " ++ decimal 1 ++ codes " " ++ decimal 2 ++ codes "\n") ++
    (codes "answered " ++ decimal 2 ++ codes " busy " ++ decimal 0 ++ codes " aborted " ++ decimal 0 ++ codes " open " ++ decimal 0 ++ codes " legal\n")

told_is : told_text ≡ report_text opts (Legal answered)
unfolding report_text
told_is = refl

-- ---- one is missing
abbrev missing : Unlike
missing = record { call = 2; drawn = 1; made = 0 }

none_before : (i : ℕ) (call : StormCall) → i < 1 → slice_get calls i ≡ Some call → IsAsOften call calls (first_drawn ∷ [])
none_before zero call below is = subst (λ (c : StormCall). IsAsOften c calls (first_drawn ∷ [])) (one_call first_drawn call is)
    (1, inl (refl, 0, refl, inr (λ same. differ (sym same), refl)), inl (refl, 0, refl, refl))
none_before (suc i) call below is = absurd (omega (arith, below))

is_missing : IsFirstUnlike calls (first_drawn ∷ []) missing
is_missing = record {
  place = 1;
  call = second_drawn;
  there = refl;
  number = refl;
  drawn_times = inr (differ, inl (refl, 0, refl, refl));
  made_times = inr (differ, refl);
  differ = λ same. omega (arith, same);
  before = none_before;
}

are_unasked : MergedAreMerged → AreUnasked opts (left []) missing
are_unasked merge = record {
  runs = runs unread;
  came = come merge [] unread (comes_unread merge);
  told = subst (λ (drawn : List StormCall). IsUnlike drawn (first_drawn ∷ []) missing) (sym drawn_are) (inl is_missing);
}

abbrev gap_text : List ℕ
gap_text = codes "gap calls " ++ decimal 2 ++ codes " " ++ decimal 1 ++ codes " " ++ decimal 0 ++ codes "\n"

gap_is : gap_text ≡ report_text opts (Unasked missing)
unfolding report_text
gap_is = refl

pub worked_storm : MergedAreMerged → RunsAreLegal → WorkedStorm
worked_storm merge legal = record {
  is_storm = record { some_nodes = omega arith; few_nodes = omega arith; some_workers = omega arith; few_workers = omega arith; some_calls = omega arith; few_calls = omega arith };
  are_groups = groups;
  drawn = drawn_are;
  told = record { text = told_text; is = record { report = Legal answered; is = are_legal merge legal; status_is = refl; text_is = told_is }; told = refl };
  unasked = record { text = gap_text; is = record { report = Unasked missing; is = are_unasked merge; status_is = refl; text_is = gap_is }; told = refl };
}
