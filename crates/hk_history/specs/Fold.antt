-- Where an order's operations, acting one after the other on one register, first go wrong.
use Rattle.std.specs.Prelude.{◌≡◌, ◌≢◌, ◌⊎◌, ℕ, ◌<◌, List, [], ◌∷◌, Option, Some, None, IsTrue, false, is_some, unwrap_or, ⊤, MatchOption, Result, Ok, Err}
use Rattle.std.specs.Option.{option_or}
use Rattle.hk_base.specs.declared.call.Answer.{Answer}
use Rattle.hk_base.specs.Register.{Register, act, Acted}
use Rattle.hk_history.specs.declared.event.Event.{Event}
use Rattle.hk_history.specs.declared.event.Entry.{Entry}
use Rattle.hk_history.specs.declared.fault.Rule.{Rule}
use Rattle.hk_history.specs.declared.fault.Rule.TheVariants as rules
use Rattle.hk_history.specs.declared.fault.CheckFault.{CheckFault}
use Rattle.hk_history.specs.declared.fault.CheckFault.TheVariants.{Memory, Breach}
use Rattle.hk_history.specs.History.{op_of, answer_of, is_unsure, is_answered}
use Rattle.hk_history.specs.Legal.{FitsCall, FitsFrom}

-- an answered call was given another answer
pub record GivesAnother (answer : Option Answer) (done : Acted) : Type 0 where
  pub answered : IsTrue (is_answered answer)
  pub other : answer ≢ Some done.answer

-- an unsure call changes nothing
pub record IsIdle (answer : Option Answer) (done : Acted) : Type 0 where
  pub unsure : IsTrue (is_unsure answer)
  pub idle : done.changed ≡ false

-- a tag rises over the last one, where there are both
abbrev pub Rises : Option ℕ → Option ℕ → Type 0
Rises None tag = ⊤
Rises (Some last) None = ⊤
Rises (Some last) (Some tag) = last < tag

-- a tag where nothing changes, a change without one, or a tag that does not rise
abbrev pub IsMistagged : Option ℕ → Option ℕ → Acted → Type 0
IsMistagged last tag done = (is_some tag ≢ done.changed) ⊎ ¬ Rises last tag

-- An entry fails by the first of these three that is so.
abbrev pub FailsBy : Rule → Option Answer → Option ℕ → Option ℕ → Acted → Type 0
FailsBy rules.Answer answer last tag done = GivesAnother answer done
FailsBy rules.Idle answer last tag done = ¬ GivesAnother answer done × IsIdle answer done
FailsBy rules.Tags answer last tag done = ¬ GivesAnother answer done × ¬ IsIdle answer done × IsMistagged last tag done
FailsBy rule answer last tag done = ⊥

-- The fold fails at the call by the rule: the entries before its own fit, one after the other, with tags that rise.
abbrev pub FailsFrom : Rule → List Event → Register → Option ℕ → List Entry → ℕ → Type 0
FailsFrom rule history register last [] n = ⊥
FailsFrom rule history register last (entry ∷ order) n = MatchOption (op_of history entry.call.0) ⊥ (λ op.
    let done : Acted = act op register (unwrap_or entry.tag 0) in
    let answer : Option Answer = answer_of history entry.call.0 in
    ((n ≡ entry.call.0) × FailsBy rule answer last entry.tag done)
    ⊎ (FitsCall answer entry.tag done × Rises last entry.tag × FailsFrom rule history done.register (option_or entry.tag last) order n))

-- the tags of these entries rise, over the last one and each over the one before
abbrev pub RiseFrom : Option ℕ → List Entry → Type 0
RiseFrom last [] = ⊤
RiseFrom last (entry ∷ order) = Rises last entry.tag × RiseFrom (option_or entry.tag last) order

-- what a fold tells: nothing where all entries fit and their tags rise, else where it fails
abbrev pub FoldGives : List Event → Register → Option ℕ → List Entry → Result (Unit {0}) CheckFault → Type 0
FoldGives history register last order (Ok checked) = FitsFrom history register order × RiseFrom last order
FoldGives history register last order (Err Memory) = ⊤
FoldGives history register last order (Err (Breach rule a b)) = (a ≡ b) × FailsFrom rule history register last order a

-- what the step of one entry tells: nothing where the entry fits and its tag rises, else how it fails
abbrev pub StepGives : Option ℕ → Entry → Option Answer → Acted → Result (Unit {0}) CheckFault → Type 0
StepGives last entry answer done (Ok checked) = FitsCall answer entry.tag done × Rises last entry.tag
StepGives last entry answer done (Err Memory) = ⊤
StepGives last entry answer done (Err (Breach rule a b)) = (a ≡ entry.call.0) × (b ≡ entry.call.0) × FailsBy rule answer last entry.tag done

-- the same, told by the rule alone
abbrev pub EntryGives : Option ℕ → Option ℕ → Option Answer → Acted → Option Rule → Type 0
EntryGives last tag answer done None = FitsCall answer tag done × Rises last tag
EntryGives last tag answer done (Some rule) = FailsBy rule answer last tag done
