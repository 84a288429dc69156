-- Changes brought forward, from the last one to the first.
use Rattle.std.proofs.Common.{◌≡◌, ℕ, Bool, true, false, cond, ◌+◌, ◌-◌, ◌<◌, List, [], ◌∷◌, ◌++◌, take, drop, length, get_or, ◌∙◌, sym, refl, ap, subst, arith, is_some, slice_index_or, slice_set}
use Rattle.std.specs.Prelude.{min}
use Rattle.std.proofs.lemmas.List.{take_more, drop_more, append_assoc, length-take-le}
use Rattle.hk_history.specs.declared.event.Entry.{Entry}
use Rattle.hk_safety.specs.declared.placed.Placed.{Placed}
use Rattle.hk_safety.specs.Placed.{least_of, at_moments}

-- the entries from place i on are where they belong, and this is the least event of the changes among them
pub record IsForward (last : ℕ) (old now : List Placed) (i least : ℕ) : Type 0 where
  pub items : now ≡ take i old ++ at_moments last (drop i old)
  pub least_is : least ≡ least_of last (drop i old)

index_between : (xs : List Placed) (y d : Placed) (ys : List Placed) → slice_index_or (xs ++ y ∷ ys) (length xs) d ≡ y
index_between [] y d ys = refl
index_between (x ∷ xs) y d ys = index_between xs y d ys

set_between : (xs : List Placed) (y z : Placed) (ys : List Placed) → slice_set (xs ++ y ∷ ys) (length xs) z ≡ xs ++ z ∷ ys
set_between [] y z ys = refl
set_between (x ∷ xs) y z ys = ap (λ (ps : List Placed). x ∷ ps) (set_between xs y z ys)

module _ (last : ℕ) (old now : List Placed) (i least : ℕ) (x : Placed) (within : i < length old) (was : IsForward last old now (i + 1) least) (read : x ≡ slice_index_or now i x) where
  abbrev front : List Placed
  front = take i old

  abbrev behind : List Placed
  behind = drop (i + 1) old

  abbrev here : Placed
  here = get_or old i x

  long : length front ≡ i
  long = length-take-le i old (omega (arith, within))

  split : now ≡ front ++ here ∷ at_moments last behind
  split = was.items ∙ ap (λ (ps : List Placed). ps ++ at_moments last behind) (take_more old i x within) ∙ append_assoc front (here ∷ []) (at_moments last behind)

  same : x ≡ here
  same = read ∙ ap (λ (ps : List Placed). slice_index_or ps i x) split
      ∙ subst (λ (n : ℕ). slice_index_or (front ++ here ∷ at_moments last behind) n x ≡ here) long (index_between front here x (at_moments last behind))

  from_here : drop i old ≡ x ∷ behind
  from_here = drop_more old i x within ∙ ap (λ (y : Placed). y ∷ behind) (sym same)

  abbrev moved : ℕ → Placed
  moved n = record { event = n; entry = x.entry }

  set_here : (z : Placed) → slice_set now i z ≡ front ++ z ∷ at_moments last behind
  set_here z = ap (λ (ps : List Placed). slice_set ps i z) split
      ∙ subst (λ (n : ℕ). slice_set (front ++ here ∷ at_moments last behind) n z ≡ front ++ z ∷ at_moments last behind) long (set_between front here z (at_moments last behind))

  -- a change
  pub forward_changed : (next : List Placed) (next_least : ℕ) → is_some x.entry.tag ≡ true → next_least ≡ min x.event least → next ≡ slice_set now i (moved next_least) →
      IsForward last old next i next_least
  forward_changed next next_least tagged is set =
      let low : next_least ≡ min x.event (least_of last behind) = is ∙ ap (min x.event) was.least_is in
      let items : at_moments last (x ∷ behind) ≡ moved next_least ∷ at_moments last behind =
      ap (λ (b : Bool). cond b (moved (min x.event (least_of last behind))) x ∷ at_moments last behind) tagged
      ∙ ap (λ (n : ℕ). moved n ∷ at_moments last behind) (sym low) in
      let least_here : least_of last (x ∷ behind) ≡ min x.event (least_of last behind) = ap (λ (b : Bool). cond b (min x.event (least_of last behind)) (least_of last behind)) tagged in
      record {
        items = set ∙ set_here (moved next_least) ∙ ap (λ (ps : List Placed). front ++ ps) (sym items) ∙ ap (λ (ps : List Placed). front ++ at_moments last ps) (sym from_here);
        least_is = low ∙ sym least_here ∙ ap (least_of last) (sym from_here);
      }

  -- a read-only call
  pub forward_same : (next : List Placed) (next_least : ℕ) → is_some x.entry.tag ≡ false → next_least ≡ least → next ≡ now → IsForward last old next i next_least
  forward_same next next_least untagged is same_items =
      let items : at_moments last (x ∷ behind) ≡ x ∷ at_moments last behind =
      ap (λ (b : Bool). cond b (moved (min x.event (least_of last behind))) x ∷ at_moments last behind) untagged in
      let least_here : least_of last (x ∷ behind) ≡ least_of last behind = ap (λ (b : Bool). cond b (min x.event (least_of last behind)) (least_of last behind)) untagged in
      record {
        items = same_items ∙ split ∙ ap (λ (y : Placed). front ++ y ∷ at_moments last behind) (sym same) ∙ ap (λ (ps : List Placed). front ++ ps) (sym items)
            ∙ ap (λ (ps : List Placed). front ++ at_moments last ps) (sym from_here);
        least_is = is ∙ was.least_is ∙ sym least_here ∙ ap (least_of last) (sym from_here);
      }
