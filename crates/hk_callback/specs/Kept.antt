-- What is kept: calls, each with its completion, in rising order of their numbers; and what each operation makes of it.
use Rattle.std.specs.Prelude.{◌≡◌, List, Option, None, Some, IsSome, Result, Ok, Err}
use Rattle.hk_base.specs.declared.call.CallNo.{CallNo}
use Rattle.hk_base.specs.declared.call.Answer.{Answer}
use Rattle.hk_by_call.specs.Kept.{kept_for, kept_with, kept_without, AreOthersSame as AreAllOthersSame}
use Rattle.hk_callback.specs.declared.completion.Delivery.{Delivery}
use Rattle.hk_callback.specs.declared.callbacks.KeepFault.{KeepFault}
use Rattle.hk_callback.specs.declared.callbacks.KeepFault.TheVariants.{Kept}
use Rattle.hk_callback.specs.declared.callbacks.KeepFault.TheVariants as fault

module _ {F : Type 0} where
  -- the completion of a call, if one is kept
  abbrev pub completion_of : List (CallNo × F) → CallNo → Option F
  completion_of kept call = kept_for kept call

  -- the completions of all other calls are as they were
  abbrev pub AreOthersSame : List (CallNo × F) → List (CallNo × F) → CallNo → Type 0
  AreOthersSame before after call = AreAllOthersSame call (completion_of before) (completion_of after)

  -- a completion is kept where the call had none; else it comes back, and nothing has changed
  abbrev pub IsKeep : Result Unit (KeepFault F) → List (CallNo × F) → List (CallNo × F) → CallNo → F → Type 0
  IsKeep (Ok _) before after call done = (completion_of before call ≡ None) × (after ≡ kept_with before call done)
  IsKeep (Err (Kept back)) before after call done = (back ≡ done) × IsSome (completion_of before call) × (after ≡ before)
  IsKeep (Err (fault.Memory back)) before after call done = (back ≡ done) × (completion_of before call ≡ None) × (after ≡ before)

  -- the call's own completion delivers this call and this answer, and is gone
  abbrev pub IsFired : Option Delivery → List (CallNo × F) → List (CallNo × F) → CallNo → Answer → Type 0
  IsFired None before after call answer = (completion_of before call ≡ None) × (after ≡ before)
  IsFired (Some delivery) before after call answer =
      IsSome (completion_of before call) × (delivery ≡ record { call = call; answer = answer }) × (after ≡ kept_without before call)
