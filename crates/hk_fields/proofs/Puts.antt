-- Outputs that grow by one field after the other.
use Rattle.std.proofs.Common.{◌≡◌, ℕ, ◌+◌, ◌<◌, List, [], ◌∷◌, ◌++◌, length, take, get_or, Result, Ok, Err, sym, ap, ◌∙◌, append_assoc}
use Rattle.std.specs.List.{flat_map}
use Rattle.std.proofs.lemmas.List.{flat_map_more, take_more}
use Rattle.std.specs.Prelude.{OnOk}

-- the same bytes behind
pub grown : {A E : Type 0} (r : Result A E) (o new x y : List ℕ) → x ≡ y → OnOk r (new ≡ o ++ x) → OnOk r (new ≡ o ++ y)
grown (Ok a) o new x y e f = f ∙ ap (λ (t : List ℕ). o ++ t) e
grown (Err d) o new x y e f = tt

pub two : {A E : Type 0} (r : Result A E) (o0 o1 o2 x y : List ℕ) → o1 ≡ o0 ++ x → OnOk r (o2 ≡ o1 ++ y) → OnOk r (o2 ≡ o0 ++ (x ++ y))
two (Ok a) o0 o1 o2 x y e f = f ∙ ap (λ (t : List ℕ). t ++ y) e ∙ append_assoc o0 x y
two (Err d) o0 o1 o2 x y e f = tt

pub three : {A E : Type 0} (r : Result A E) (o0 o1 o2 o3 x y z : List ℕ) → o1 ≡ o0 ++ x → o2 ≡ o1 ++ y → OnOk r (o3 ≡ o2 ++ z) → OnOk r (o3 ≡ o0 ++ (x ++ (y ++ z)))
three r o0 o1 o2 o3 x y z e f g = two r o0 o1 o3 x (y ++ z) e (two r o1 o2 o3 y z f g)

pub four : {A E : Type 0} (r : Result A E) (o0 o1 o2 o3 o4 x y z w : List ℕ) → o1 ≡ o0 ++ x → o2 ≡ o1 ++ y → o3 ≡ o2 ++ z → OnOk r (o4 ≡ o3 ++ w) → OnOk r (o4 ≡ o0 ++ (x ++ (y ++ (z ++ w))))
four r o0 o1 o2 o3 o4 x y z w e f g h = two r o0 o1 o4 x (y ++ (z ++ w)) e (three r o1 o2 o3 o4 y z w f g h)

-- one more item
pub one_more : {A : Type 0} (text : A → List ℕ) (o0 o1 o2 : List ℕ) (xs : List A) (i : ℕ) (x : A) → i < length xs → x ≡ get_or xs i x → o1 ≡ o0 ++ flat_map text (take i xs) → o2 ≡ o1 ++ text x → o2 ≡ o0 ++ flat_map text (take (i + 1) xs)
one_more {A} text o0 o1 o2 xs i x lt is e f =
    f ∙ ap (λ (t : List ℕ). t ++ text x) e ∙ flat_map_more text o0 (take i xs) x ∙ ap (λ (ys : List A). o0 ++ flat_map text ys) (ap (λ (y : A). take i xs ++ y ∷ []) is ∙ sym (take_more xs i x lt))
