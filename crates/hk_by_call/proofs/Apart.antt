-- Numbers of calls that are the same, or not.
use Rattle.std.proofs.Common.{◌≡◌, ◌≢◌, ◌⊎◌, ⊎_elim, ◌<◌, ◌==◌, ℕ, true, false, refl, sym, ap, ◌∙◌, arith}
use Rattle.std.specs.BTreeMap.{is_at}
use Rattle.std.proofs.lemmas.Bool.{cases_order, lt-ltb, le-ltb, ne_eqb, false≢true}
use Rattle.hk_base.specs.declared.call.CallNo.{CallNo}
use Rattle.hk_by_call.specs.Kept.{by_number}

numbered : ℕ → CallNo
numbered n = record { 0 = n }

pub same_call : (a b : CallNo) → (a.0 == b.0) ≡ true → a ≡ b
unfolding numbered
same_call a b e = let is : a.0 ≡ b.0 = grind (arith, e) in ap numbered is

pub other_call : (a b : CallNo) → (a.0 == b.0) ≡ false → a ≢ b
other_call a b e same = let is : a.0 ≡ b.0 = ap (λ (c : CallNo). c.0) same in false≢true (sym e ∙ grind (arith, is))

pub is_apart : (call other : CallNo) → other ≢ call → is_at (by_number call) other ≡ false
unfolding numbered
is_apart call other d =
    ⊎_elim (λ (e : call.0 ≡ other.0). absurd (d (ap numbered (sym e))))
    (λ (o : (call.0 < other.0) ⊎ (other.0 < call.0)). ⊎_elim (λ (l : call.0 < other.0). rw (lt-ltb call.0 other.0 l) refl)
    (λ (g : other.0 < call.0). rw (le-ltb call.0 other.0 (omega arith), ne_eqb call.0 other.0 (λ e. d (ap numbered (sym e)))) refl) o) (cases_order call.0 other.0)
