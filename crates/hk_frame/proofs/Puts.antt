-- Outputs that grow by one text after the other, and what an error leaves of them.
use Rattle.std.proofs.Common.{◌≡◌, ℕ, ◌+◌, ◌<◌, List, [], ◌∷◌, ◌++◌, length, take, get_or, Result, Ok, Err, refl, sym, ap, subst, ◌∙◌, append_assoc}
use Rattle.std.specs.List.{flat_map}
use Rattle.std.proofs.lemmas.List.{flat_map_more, take_more}
use Rattle.std.specs.Prelude.{OnOk, OnErr}
use Rattle.hk_frame.specs.Kept.{IsKept}

pub two : {A E : Type 0} (r : Result A E) (o0 o1 o2 x y : List ℕ) → o1 ≡ o0 ++ x → OnOk r (o2 ≡ o1 ++ y) → OnOk r (o2 ≡ o0 ++ (x ++ y))
two (Ok a) o0 o1 o2 x y e f = f ∙ ap (λ (t : List ℕ). t ++ y) e ∙ append_assoc o0 x y
two (Err d) o0 o1 o2 x y e f = tt

pub three : {A E : Type 0} (r : Result A E) (o0 o1 o2 o3 x y z : List ℕ) → o1 ≡ o0 ++ x → o2 ≡ o1 ++ y → OnOk r (o3 ≡ o2 ++ z) → OnOk r (o3 ≡ o0 ++ (x ++ (y ++ z)))
three r o0 o1 o2 o3 x y z e f g = two r o0 o1 o3 x (y ++ z) e (two r o1 o2 o3 y z f g)

pub four : {A E : Type 0} (r : Result A E) (o0 o1 o2 o3 o4 x y z w : List ℕ) → o1 ≡ o0 ++ x → o2 ≡ o1 ++ y → o3 ≡ o2 ++ z → OnOk r (o4 ≡ o3 ++ w) → OnOk r (o4 ≡ o0 ++ (x ++ (y ++ (z ++ w))))
four r o0 o1 o2 o3 o4 x y z w e f g h = two r o0 o1 o4 x (y ++ (z ++ w)) e (three r o1 o2 o3 o4 y z w f g h)

cons_same : (a b : ℕ) (xs ys : List ℕ) → a ∷ xs ≡ b ∷ ys → (a ≡ b) × (xs ≡ ys)
cons_same a b xs ys e = (cc, cc)

kept_front : (o x new : List ℕ) → take (length (o ++ x)) new ≡ o ++ x → take (length o) new ≡ o
kept_front [] x new k = refl
kept_front (a ∷ o) x [] k = absurd cc
kept_front (a ∷ o) x (b ∷ new) k =
    let s = cons_same b a (take (length (o ++ x)) new) (o ++ x) k in
    rw (s.0, kept_front o x new s.1) refl

pub kept_before : (o0 o1 x new : List ℕ) → o1 ≡ o0 ++ x → IsKept o1 new → IsKept o0 new
kept_before o0 o1 x new e k = kept_front o0 x new (subst (λ (t : List ℕ). IsKept t new) e k)

pub on_error : {A E : Type 0} (r : Result A E) (o new : List ℕ) → IsKept o new → OnErr r (IsKept o new)
on_error (Ok a) o new k = tt
on_error (Err d) o new k = k

pub kept_error : {A E : Type 0} (r : Result A E) (o0 o1 x new : List ℕ) → o1 ≡ o0 ++ x → OnErr r (IsKept o1 new) → OnErr r (IsKept o0 new)
kept_error (Ok a) o0 o1 x new e k = tt
kept_error (Err d) o0 o1 x new e k = kept_before o0 o1 x new e k

-- one more item
pub one_more : {A : Type 0} (text : A → List ℕ) (o0 o1 o2 : List ℕ) (xs : List A) (i : ℕ) (x : A) → i < length xs → x ≡ get_or xs i x → o1 ≡ o0 ++ flat_map text (take i xs) → o2 ≡ o1 ++ text x → o2 ≡ o0 ++ flat_map text (take (i + 1) xs)
one_more {A} text o0 o1 o2 xs i x lt is e f =
    f ∙ ap (λ (t : List ℕ). t ++ text x) e ∙ flat_map_more text o0 (take i xs) x ∙ ap (λ (ys : List A). o0 ++ flat_map text ys) (ap (λ (y : A). take i xs ++ y ∷ []) is ∙ sym (take_more xs i x lt))
