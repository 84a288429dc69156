-- Looking for a right record place by place.
use Rattle.std.proofs.Common.{◌≡◌, ℕ, ◌+◌, ◌<◌, ◌≤◌, Bool, true, false, cond, List, [], ◌∷◌, ◌++◌, length, get_or, drop, refl, sym, ap, ◌∙◌, arith}
use Rattle.std.proofs.lemmas.List.{drop_more, drop_all}
use Rattle.hk_log.specs.Logs.{stands_behind, holds_record}

step : (bytes : List ℕ) (i : ℕ) → i < length bytes → holds_record (drop i bytes) ≡ cond (stands_behind (drop i bytes)) true (holds_record (drop (i + 1) bytes))
unfolding holds_record
step bytes i lt =
    let e : drop i bytes ≡ get_or bytes i 0 ∷ drop (i + 1) bytes = drop_more bytes i 0 lt in
    ap holds_record e ∙ ap (λ (x : List ℕ). cond (stands_behind x) true (holds_record (drop (i + 1) bytes))) (sym e)

pub holds_here : (bytes : List ℕ) (i : ℕ) (whole : Bool) → i < length bytes → stands_behind (drop i bytes) ≡ true → holds_record (drop i bytes) ≡ whole → true ≡ whole
holds_here bytes i whole lt h e = sym (step bytes i lt ∙ ap (λ (b : Bool). cond b true (holds_record (drop (i + 1) bytes))) h) ∙ e

pub holds_later : (bytes : List ℕ) (i : ℕ) (whole : Bool) → i < length bytes → stands_behind (drop i bytes) ≡ false → holds_record (drop i bytes) ≡ whole → holds_record (drop (i + 1) bytes) ≡ whole
holds_later bytes i whole lt h e = sym (step bytes i lt ∙ ap (λ (b : Bool). cond b true (holds_record (drop (i + 1) bytes))) h) ∙ e

pub holds_none : (bytes : List ℕ) (i : ℕ) (whole : Bool) → length bytes ≤ i → holds_record (drop i bytes) ≡ whole → false ≡ whole
unfolding holds_record
holds_none bytes i whole le e = sym (ap holds_record (drop_all i bytes le)) ∙ e

-- a right record behind other bytes is found
pub holds_behind : (front : List ℕ) (b : ℕ) (bytes : List ℕ) → stands_behind (b ∷ bytes) ≡ true → holds_record (front ++ (b ∷ bytes)) ≡ true
unfolding holds_record
holds_behind [] b bytes h = ap (λ (x : Bool). cond x true (holds_record bytes)) h
holds_behind (a ∷ front) b bytes h = at (stands_behind (a ∷ (front ++ (b ∷ bytes)))) (holds_record (front ++ (b ∷ bytes))) (holds_behind front b bytes h)
  where
    at : (x y : Bool) → y ≡ true → cond x true y ≡ true
    at true y e = refl
    at false y e = e

pub holds_at : (front bytes : List ℕ) → 1 ≤ length bytes → stands_behind bytes ≡ true → holds_record (front ++ bytes) ≡ true
holds_at front [] some h = absurd (omega (arith, some))
holds_at front (b ∷ bytes) some h = holds_behind front b bytes h
