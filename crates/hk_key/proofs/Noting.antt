-- What it is to note an acknowledgement.
use Rattle.std.proofs.Common.{◌≡◌, ℕ, zero, suc, Bool, true, false, cond, not, ◌||◌, List, [], ◌∷◌, ◌++◌, ◌<◌, ◌≤◌, ◌+◌, length, Some, None, refl, sym, ap, ◌∙◌, nat_lt, arith, slice_index_or, slice_set}
use Rattle.std.specs.List.{list_any, position, position_or_len}
use Rattle.std.proofs.lemmas.Bool.{false≢true}
use Rattle.std.proofs.lemmas.Bool.Decides.{nat_tests}
use Rattle.std.proofs.lemmas.List.Quantifiers.{position-Some}
use Rattle.hk_base.specs.declared.stamp.NodeId.{NodeId}
use Rattle.hk_key.specs.declared.acks.Ack.{Ack}
use Rattle.hk_key.specs.Notes.{is_of, is_noted, note_in}

-- a note that is found is sharpened in its place
pub at_place : (node : NodeId) (exact : Bool) (xs : List Ack) (i : ℕ) (x : Ack) → i < length xs →
    is_of node (slice_index_or xs i x) ≡ true → ((k : ℕ) → k < i → is_of node (slice_index_or xs k x) ≡ false) →
    slice_set xs i (record { node = (slice_index_or xs i x).node; exact = (slice_index_or xs i x).exact || exact }) ≡ note_in node exact xs
at_place node exact [] i x below own before = absurd (grind arith)
at_place node exact (y ∷ ys) zero x below own before = rw own refl
at_place node exact (y ∷ ys) (suc i) x below own before =
    let first : is_of node y ≡ false = before 0 (omega arith) in
    rw first (ap (λ (l : List Ack). y ∷ l) (at_place node exact ys i x (omega arith) own (λ k h. before (suc k) (omega arith))))

-- a note that is not found is added at the end
pub at_end : (node : NodeId) (exact : Bool) (xs : List Ack) → is_noted node xs ≡ false → xs ++ record { node = node; exact = exact } ∷ [] ≡ note_in node exact xs
at_end node exact [] e = refl
at_end node exact (y ∷ ys) e = by_head (at_end node exact ys) (is_of node y) refl e
  where
    by_head : (is_noted node ys ≡ false → ys ++ record { node = node; exact = exact } ∷ [] ≡ note_in node exact ys) → (b : Bool) → is_of node y ≡ b → (b || is_noted node ys) ≡ false → y ∷ (ys ++ record { node = node; exact = exact } ∷ []) ≡ cond (is_of node y) (record y { exact = y.exact || exact } ∷ ys) (y ∷ note_in node exact ys)
    by_head rest true own none = absurd (false≢true (sym none))
    by_head rest false own none = rw own (ap (λ (l : List Ack). y ∷ l) (rest none))

-- where the search finds none, none passes
pub absent : {X : Type 0} (p : X → Bool) (xs : List X) → length xs ≤ position_or_len p xs → list_any p xs ≡ false
absent p [] h = refl
absent p (x ∷ xs) h = by_head (absent p xs) (p x) refl h
  where
    by_head : (length xs ≤ position_or_len p xs → list_any p xs ≡ false) → (b : Bool) → p x ≡ b → length (x ∷ xs) ≤ cond (not b) (1 + position_or_len p xs) 0 → (b || list_any p xs) ≡ false
    by_head rest true e none = absurd (grind arith)
    by_head rest false e none = rest (omega arith)

pub none_noted : {X : Type 0} (p : X → Bool) (xs : List X) → position p xs ≡ None → list_any p xs ≡ false
none_noted p xs none = by_test (nat_lt (position_or_len p xs) (length xs)) refl none
  where
    by_test : (b : Bool) → nat_lt (position_or_len p xs) (length xs) ≡ b → cond b (Some (position_or_len p xs)) None ≡ None → list_any p xs ≡ false
    by_test true e found = absurd (grind arith)
    by_test false e found = absent p xs (grind (arith, nat_tests))

-- the same, as the code does it: with the found note x in its place
pub sharpened : (node : NodeId) (exact : Bool) (xs : List Ack) (i : ℕ) (x : Ack) (t : Bool) → position (is_of node) xs ≡ Some i →
    x ≡ slice_index_or xs i x → t ≡ (x.exact || exact) → slice_set xs i (record { node = x.node; exact = t }) ≡ note_in node exact xs
sharpened node exact xs i x t found same e =
    let at = position-Some (is_of node) xs i x found in
    ap (λ (b : Bool). slice_set xs i (record { node = x.node; exact = b })) e
    ∙ ap (λ (y : Ack). slice_set xs i (record { node = y.node; exact = y.exact || exact })) same
    ∙ at_place node exact xs i x at.0 at.1 at.2
