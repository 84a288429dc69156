-- One entry of a fold, and then the others.
use Rattle.std.proofs.Common.{◌≡◌, ℕ, List, ◌∷◌, Option, Some, None, Result, Ok, Err, false, OnOk, is_some, refl, sym, ◌∙◌, inl, inr}
use Rattle.std.specs.Option.{option_or, unwrap_or}
use Rattle.hk_base.specs.declared.call.Op.{Op}
use Rattle.hk_base.specs.declared.call.Answer.{Answer}
use Rattle.hk_base.specs.Register.{Register, act}
use Rattle.hk_history.specs.declared.event.Event.{Event}
use Rattle.hk_history.specs.declared.event.Entry.{Entry}
use Rattle.hk_history.specs.declared.fault.CheckFault.{CheckFault}
use Rattle.hk_history.specs.declared.fault.CheckFault.TheVariants.{Memory, Breach}
use Rattle.hk_history.specs.History.{op_of, answer_of}
use Rattle.hk_history.specs.Fold.{FoldGives, StepGives}

-- an entry that fits and rises is passed
pub fold_passes : (h : List Event) (reg : Register) (last : Option ℕ) (entry : Entry) (order : List Entry) (op : Op) → op_of h entry.call.0 ≡ Some op
    → StepGives last entry (answer_of h entry.call.0) (act op reg (unwrap_or entry.tag 0)) (Ok tt)
    → (r : Result (Unit {0}) CheckFault) → FoldGives h (act op reg (unwrap_or entry.tag 0)).register (option_or entry.tag last) order r → FoldGives h reg last (entry ∷ order) r
fold_passes h reg last entry order op is step (Ok u) g = rw is ((step.0, g.0), (step.1, g.1))
fold_passes h reg last entry order op is step (Err Memory) g = tt
fold_passes h reg last entry order op is step (Err (Breach rule a b)) g = (g.0, rw is (inr (step.0, step.1, g.1)))

-- an entry that fails ends the fold
pub fold_fails : (h : List Event) (reg : Register) (last : Option ℕ) (entry : Entry) (order : List Entry) (op : Op) → op_of h entry.call.0 ≡ Some op
    → (fault : CheckFault) → StepGives last entry (answer_of h entry.call.0) (act op reg (unwrap_or entry.tag 0)) (Err fault)
    → FoldGives h reg last (entry ∷ order) (Err fault)
fold_fails h reg last entry order op is Memory step = tt
fold_fails h reg last entry order op is (Breach rule a b) step = (step.0 ∙ sym step.1, rw is (inl (step.0, step.2)))

tag_stays : (last tag : Option ℕ) → is_some tag ≡ false → last ≡ option_or tag last
tag_stays last None h = refl
tag_stays last (Some t) h = cc

-- an entry that changes nothing and fits has no tag
pub last_stays : (r : Result (Unit {0}) CheckFault) (last : Option ℕ) (entry : Entry) (given : Option Answer) (told : Answer) (register : Register)
    → StepGives last entry given (record { answer = told; changed = false; register = register }) r → OnOk r (last ≡ option_or entry.tag last)
last_stays (Ok u) last entry given told register step = tag_stays last entry.tag step.0.tagged
last_stays (Err fault) last entry given told register step = tt
