-- What one event makes of the evidence and the read-only calls that are kept, one part after the other.
use Rattle.std.proofs.Common.{◌≡◌, ℕ, List, [], ◌∷◌, ◌++◌, append-nil, append_assoc, ◌∙◌, sym, refl, ap, subst, ⊎_elim}
use Rattle.hk_base.specs.declared.view.View.{View}
use Rattle.hk_register.specs.Machine.{In}
use Rattle.hk_register.proofs.Grow.{in_either}
use Rattle.hk_safety.specs.declared.evidence.Cover.{Cover}
use Rattle.hk_safety.specs.declared.evidence.Evidence.{Evidence}
use Rattle.hk_safety.specs.declared.evidence.Evidence.TheVariants.{Covers}
use Rattle.hk_safety.specs.declared.evidence.Evidence.TheVariants as Evidence
use Rattle.hk_safety.specs.declared.key_run.ReadOnlyCall.{ReadOnlyCall}
use Rattle.hk_safety.specs.Kept.{KeyState, at_stamp}
use Rattle.hk_safety.specs.Grown.{IsShown, IsSinceThen, AreLooked, GoesAt}

-- ---- evidence
pub since_itself : (n : ℕ) (ev : Evidence) → IsSinceThen n ev ev
since_itself n (Evidence.Complete event) = refl
since_itself n (Covers groups) = tt

pub since_same : (n : ℕ) (old new : Evidence) → new ≡ old → IsSinceThen n old new
since_same n old new same = subst (IsSinceThen n old) (sym same) (since_itself n old)

pub since_both : (n : ℕ) (old mid new : Evidence) → IsSinceThen n old mid → IsSinceThen n mid new → IsSinceThen n old new
since_both n (Evidence.Complete event) mid new first second = subst (λ (ev : Evidence). IsSinceThen n ev new) first second
since_both n (Covers groups) (Evidence.Complete event) new first second = subst (IsSinceThen n (Covers groups)) (sym second) first
since_both n (Covers groups) (Covers more) (Evidence.Complete event) first second = second
since_both n (Covers groups) (Covers more) (Covers most) first second = tt

pub since_shown : (v : View) (c : Cover) (old new : Evidence) → IsShown old new v c → IsSinceThen c.event old new
since_shown v c (Evidence.Complete event) new shown = shown
since_shown v c (Covers groups) (Evidence.Complete event) shown = shown.3
since_shown v c (Covers groups) (Covers more) shown = tt

-- ---- read-only calls
pub looked_same : (n : ℕ) (old new : List ReadOnlyCall) → new ≡ old → AreLooked n old new
looked_same n old new same = record { more = []; same = same ∙ sym (append-nil old); here = λ l h. absurd h }

looked_both : (n : ℕ) (old mid new : List ReadOnlyCall) → AreLooked n old mid → AreLooked n mid new → AreLooked n old new
looked_both n old mid new first second = record {
  more = first.more ++ second.more;
  same = second.same ∙ ap (λ (ls : List ReadOnlyCall). ls ++ second.more) first.same ∙ append_assoc old first.more second.more;
  here = λ l h. ⊎_elim (first.here l) (second.here l) (in_either first.more second.more l h);
}

-- ---- a key
pub goes_same : (n : ℕ) (old new : KeyState) → new ≡ old → GoesAt n old new
goes_same n old new same = record {
  since = λ s. since_same n (at_stamp s old).evidence (at_stamp s new).evidence (ap (λ (k : KeyState). (at_stamp s k).evidence) same);
  looked = λ s. looked_same n (at_stamp s old).read_only (at_stamp s new).read_only (ap (λ (k : KeyState). (at_stamp s k).read_only) same);
}

pub goes_both : (n : ℕ) (old mid new : KeyState) → GoesAt n old mid → GoesAt n mid new → GoesAt n old new
goes_both n old mid new first second = record {
  since = λ s. since_both n (at_stamp s old).evidence (at_stamp s mid).evidence (at_stamp s new).evidence (first.since s) (second.since s);
  looked = λ s. looked_both n (at_stamp s old).read_only (at_stamp s mid).read_only (at_stamp s new).read_only (first.looked s) (second.looked s);
}
