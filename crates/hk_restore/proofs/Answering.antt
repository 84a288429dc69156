-- What calls answer: what is due, or its fault.
use Rattle.std.proofs.Common.{◌≡◌, ℕ, List, [], ◌∷◌, ◌++◌, Bool, true, cond, Option, Some, Result, Ok, Err, refl, sym, ap, ◌∙◌, subst}
use Rattle.hk_base.specs.declared.letter.Actor.{Actor}
use Rattle.hk_fields.specs.declared.tickets.Ticket.{Ticket}
use Rattle.hk_log.specs.declared.entry.Entry.{Entry}
use Rattle.hk_manager.specs.declared.fault.ManagerFault.{ManagerFault}
use Rattle.hk_manager.specs.declared.fault.ManagerFault.TheVariants as faults
use Rattle.hk_manager.specs.Manager.{ManagerState}
use Rattle.hk_durable.specs.Replays.{taken_up, IsAnswered}
use Rattle.hk_restore.specs.declared.fault.RestoreFault.{RestoreFault}
use Rattle.hk_restore.specs.declared.fault.RestoreFault.TheVariants.{Memory, DoesNotReplay, OfHost, OtherTerms}
use Rattle.hk_restore.specs.declared.group.RestoredGroup.{RestoredGroup}
use Rattle.hk_restore.specs.Restoring.{SoFar, with_managers, stepped, bound, up_to_fault, restored_with, IsMade, IsRestored}

-- a fault that is due
pub told : (fault : RestoreFault) (due : SoFar) (after : Option RestoredGroup) → due ≡ Err fault → IsMade (Err fault) due after
told Memory due after is = tt
told (DoesNotReplay at) due after is = is
told (OfHost host of) due after is = is
told (OtherTerms lease skew) due after is = is

-- a step that its manager refuses
pub refused : (at : ℕ) (g : RestoredGroup) (fault : ManagerFault) (due : Result (List ManagerState) ManagerFault) (after : List ManagerState) → (fault ≡ faults.Memory → ⊥) → IsAnswered (Err fault) due after → with_managers at g due ≡ Err (DoesNotReplay at)
refused at g faults.Memory due after other is = absurd (other refl)
refused at g (faults.Behind held) due after other is = ap (with_managers at g) is
refused at g faults.NoSuchMember due after other is = ap (with_managers at g) is
refused at g faults.LastMember due after other is = ap (with_managers at g) is
refused at g faults.Full due after other is = ap (with_managers at g) is
refused at g faults.NoNumbers due after other is = ap (with_managers at g) is
refused at g (faults.NotPast node end) due after other is = ap (with_managers at g) is

-- a part of something due, and the rest
module _ (whole part : SoFar) (rest : Option RestoredGroup → SoFar) (is : whole ≡ up_to_fault rest part) where
  -- what the rest makes of what the part gave, the whole makes
  pub goes_on : (between : Option RestoredGroup) (r : Result Unit RestoreFault) (after : Option RestoredGroup) → part ≡ Ok between → IsMade r (rest between) after → IsMade r whole after
  goes_on between r after made goes = subst (λ (d : SoFar). IsMade r d after) (sym (is ∙ ap (up_to_fault rest) made)) goes

  -- the part's fault is that of the whole
  pub stops : (fault : RestoreFault) (after later : Option RestoredGroup) → IsMade (Err fault) part after → IsMade (Err fault) whole later
  stops Memory after later made = tt
  stops (DoesNotReplay at) after later made = is ∙ ap (up_to_fault rest) made
  stops (OfHost host of) after later made = is ∙ ap (up_to_fault rest) made
  stops (OtherTerms lease skew) after later made = is ∙ ap (up_to_fault rest) made

-- what is found by what a log makes
pub found : (count : ℕ) (due : SoFar) (fault : RestoreFault) (after : Option RestoredGroup) → IsMade (Err fault) due after → IsRestored (Err fault) (restored_with count due)
found count due Memory after made = tt
found count due (DoesNotReplay at) after made = ap (restored_with count) made
found count due (OfHost host of) after made = ap (restored_with count) made
found count due (OtherTerms lease skew) after made = ap (restored_with count) made

-- a step that was made, in an open group
pub stepped_is : (at : ℕ) (e : Entry) (o : Option RestoredGroup) (g new : RestoredGroup) → o ≡ Some g → g.is_open ≡ true → taken_up e g.managers ≡ Ok new.managers → new ≡ record g { managers = new.managers } → stepped at e o ≡ Ok (Some new)
stepped_is at e o g new there opens made rest =
    ap (stepped at e) there ∙ ap (λ (b : Bool). cond b (with_managers at g (taken_up e g.managers)) (Err (DoesNotReplay at))) opens ∙ ap (with_managers at g) made ∙ ap (λ (x : RestoredGroup). Ok (Some x)) (sym rest)

-- a binding more
pub bound_is : (at : ℕ) (actor : Actor) (ticket : Ticket) (o : Option RestoredGroup) (g new : RestoredGroup) → o ≡ Some g → new ≡ record g { bindings = g.bindings ++ record { actor = actor; ticket = ticket } ∷ [] } → bound at actor ticket o ≡ Ok (Some new)
bound_is at actor ticket o g new there is = ap (bound at actor ticket) there ∙ ap (λ (x : RestoredGroup). Ok (Some x)) (sym is)
