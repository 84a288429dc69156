-- Putting a slot puts its item.
use Rattle.std.proofs.Common.{◌≡◌, ℕ, List, [], ◌∷◌, map, Ordering, Less, Equal, Greater, refl, ap, ◌∙◌, IfOk, Result, Ok, Err, Vec, Global}
use Rattle.std.specs.Ordering.{match_ordering}
use Rattle.std.specs.BTreeMap.{insert_entry}
use Rattle.std.specs.Map.{values_of}
use Rattle.hk_merge.specs.declared.slot.Slot.{Slot}
use Rattle.hk_merge.specs.Merged.{Item, place_cmp}
use Rattle.hk_merge.specs.Placed.{item_of, placed, items_in}

pub placed_put : (es : List (List ℕ × Slot)) (k : List ℕ) (v : Slot) → placed (insert_entry place_cmp es k v) ≡ insert_entry place_cmp (placed es) k (item_of v)
placed_put [] k v = refl
placed_put (e ∷ es) k v = by_order (place_cmp k e.0) (placed_put es k v)
  where
    by_order : (o : Ordering) → placed (insert_entry place_cmp es k v) ≡ insert_entry place_cmp (placed es) k (item_of v) →
        placed (match_ordering o ((k, v) ∷ e ∷ es) ((e.0, v) ∷ es) (e ∷ insert_entry place_cmp es k v))
        ≡ match_ordering o ((k, item_of v) ∷ (e.0, item_of e.1) ∷ placed es) ((e.0, item_of v) ∷ placed es) ((e.0, item_of e.1) ∷ insert_entry place_cmp (placed es) k (item_of v))
    by_order Less more = refl
    by_order Equal more = refl
    by_order Greater more = ap (λ (l : List (List ℕ × Item)). (e.0, item_of e.1) ∷ l) more

-- the slots in order have the items in order
pub items_listed : (es : List (List ℕ × Slot)) → map item_of (values_of es) ≡ items_in es
items_listed [] = refl
items_listed (e ∷ es) = ap (λ (l : List Item). item_of e.1 ∷ l) (items_listed es)

-- and so it is of those that are told, where they are
pub in_turn : {E : Type 0} (r : Result (Vec Slot Global) E) (es : List (List ℕ × Slot)) (items : List Item) → IfOk r (λ all. all.items ≡ values_of es) → items_in es ≡ items → IfOk r (λ all. map item_of all.items ≡ items)
in_turn (Ok all) es items listed same = ap (map item_of) listed ∙ (items_listed es ∙ same)
in_turn (Err e) es items listed same = listed
