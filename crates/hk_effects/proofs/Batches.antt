-- A batch tells what its giver has of each key that it covers, and taking it acts once on each.
use Rattle.std.proofs.Common.{◌≡◌, ◌⊎◌, ◌≢◌, ℕ, List, [], ◌∷◌, ◌++◌, Bool, true, false, cond, not, ◌||◌, Option, Some, None, refl, sym, ap, ◌∙◌, subst, inl, inr, ⊎_elim, append-nil}
use Rattle.std.proofs.lemmas.Bool.{false≢true, and_parts, or_cases, cases_Bool}
use Rattle.hk_base.specs.declared.letter.CopyItem.{CopyItem}
use Rattle.hk_copy.specs.Batches.{Cut, is_after, is_nil, rows_after}
use Rattle.hk_copy.proofs.Lawful.{is_whole}
use Rattle.hk_key.specs.declared.row.Row.{Row}
use Rattle.hk_key.specs.Table.{on_copy}
use Rattle.hk_key.proofs.Rising.{copy_never_lowers}
use Rattle.hk_node.proofs.Order.{AreTouched, touched_with}
use Rattle.hk_node.proofs.Acts.{copy_untouched, untouched_stays}
use Rattle.hk_node.specs.Rows.{Rows, row_at, with_row}
use Rattle.hk_node.specs.Node.{NodeState}
use Rattle.hk_node.specs.Sound.{IsNode}
use Rattle.hk_node.specs.Copies.{is_valid, copies_of, batch_behind, merged}
use Rattle.hk_effects.specs.Projection.{is_same_key, is_behind, first_item, item_at, covers}
use Rattle.hk_effects.proofs.Order.{IsBelow, same_of, same_not, cases_key, cases_three, below_differs, above_differs, below_of_test, test_of_below, row-with_same, row-with_other}
use Rattle.hk_effects.proofs.Rising.{RisesBehind, item_keys, next_cursor, not_down, bound_differs, not_behind_itself, not_behind_greater, rows_rise, after_is_behind, keys_of_copies, rest_rises, cursor_steps, behind_last}

-- what an item says of a row
pub record Tells (i : CopyItem) (row : Row) : Type 0 where
  pub stamp : i.stamp ≡ row.stamp
  pub kind : i.kind ≡ row.kind
  pub content : i.content ≡ row.content
  pub valid : i.valid ≡ is_valid row.state

-- ---- items by key
item_here : (key : List ℕ) (i : CopyItem) (items : List CopyItem) → key ≡ i.key → item_at key (i ∷ items) ≡ i
item_here key i items e = rw (same_of key i.key e) refl

item_next : (key : List ℕ) (i : CopyItem) (items : List CopyItem) → key ≢ i.key → item_at key (i ∷ items) ≡ item_at key items
item_next key i items ne = rw (same_not key i.key ne) refl

copy_tells : (key : List ℕ) (rows : Rows) → Tells (item_at key (copies_of rows)) (row_at key rows)
copy_tells key [] = record { stamp = refl; kind = refl; content = refl; valid = refl }
copy_tells key (r ∷ rows) =
    ⊎_elim
    (λ (e : key ≡ r.0). rw (same_of key r.0 e) (record { stamp = refl; kind = refl; content = refl; valid = refl }))
    (λ (ne : key ≢ r.0). rw (same_not key r.0 ne) (copy_tells key rows)) (cases_key key r.0)

-- items that are not behind a bound do not count for a key that is
item-rest : (after : Option (List ℕ)) (key : List ℕ) (items : List CopyItem) → is_behind after key ≡ true → item_at key (rows_after after items) ≡ item_at key items
item-rest after key [] behind = refl
item-rest after key (i ∷ items) behind =
    ⊎_elim
    (λ (e : is_after after i ≡ true). rw e (ap (λ (j : CopyItem). cond (is_same_key key i.key) i j) (item-rest after key items behind)))
    (λ (e : is_after after i ≡ false).
    let other : key ≢ i.key = λ s. false≢true (sym e ∙ (after_is_behind after i ∙ subst (λ (k : List ℕ). is_behind after k ≡ true) s behind)) in
    rw e (item-rest after key items behind ∙ sym (item_next key i items other))) (cases_Bool (is_after after i))

item_below : (low : Option (List ℕ)) (key : List ℕ) (items : List CopyItem) → RisesBehind low (item_keys items) → is_behind low key ≡ false → item_at key items ≡ first_item
item_below low key [] rises upto = refl
item_below low key (i ∷ items) rises upto =
    item_next key i items (bound_differs low i.key key rises.0 upto) ∙ item_below (Some i.key) key items rises.1 (not_down low i.key key rises.0 upto)

-- of a key up to the last one, those behind the last say nothing
item-taken : (low : Option (List ℕ)) (key : List ℕ) (a b : List CopyItem) → RisesBehind low (item_keys (a ++ b)) → is_behind low key ≡ true → is_behind (next_cursor low a) key ≡ false → item_at key a ≡ item_at key (a ++ b)
item-taken low key [] b rises above upto = absurd (false≢true (sym upto ∙ above))
item-taken low key (i ∷ a) b rises above upto = ⊎_elim
    (λ (e : key ≡ i.key). item_here key i a e ∙ sym (item_here key i (a ++ b) e))
    (λ (o : IsBelow key i.key ⊎ IsBelow i.key key).
    ⊎_elim
    (λ (below : IsBelow key i.key).
    let out = not_behind_greater key i.key below in
    let other = below_differs key i.key below in
    item_next key i a other ∙ (item_below (Some i.key) key a (rises_front (Some i.key) a b rises.1) out ∙ sym (item_next key i (a ++ b) other ∙ item_below (Some i.key) key (a ++ b) rises.1 out)))
    (λ (up : IsBelow i.key key).
    let other = above_differs i.key key up in
    let upto' : is_behind (next_cursor (Some i.key) a) key ≡ false = ap (λ (c : Option (List ℕ)). is_behind c key) (sym (cursor_steps low i a)) ∙ upto in
    item_next key i a other ∙ (item-taken (Some i.key) key a b rises.1 (test_of_below i.key key up) upto' ∙ sym (item_next key i (a ++ b) other))) o) (cases_three key i.key)
  where
    rises_front : (low : Option (List ℕ)) (a b : List CopyItem) → RisesBehind low (item_keys (a ++ b)) → RisesBehind low (item_keys a)
    rises_front low [] b r = tt
    rises_front low (i ∷ a) b r = (r.0, rises_front (Some i.key) a b r.1)

-- ---- the giver's batch
not_true : (b : Bool) → not b ≡ true → b ≡ false
not_true true e = absurd (false≢true e)
not_true false e = refl

nil_is : (items : List CopyItem) → is_nil items ≡ true → items ≡ []
nil_is [] e = refl
nil_is (i ∷ items) e = absurd (false≢true e)

-- of a key that is covered the taken items say what all say
covered_item : (after : Option (List ℕ)) (key : List ℕ) (items : List CopyItem) (c : Cut) → c.taken ++ c.left ≡ items → RisesBehind after (item_keys items) → covers key after (is_nil c.left) c.taken ≡ true → item_at key c.taken ≡ item_at key items
covered_item after key items c whole rises e =
    let p = and_parts (is_behind after key) (is_nil c.left || not (is_behind (next_cursor after c.taken) key)) e in
    ⊎_elim
    (λ (done : is_nil c.left ≡ true). ap (item_at key) (sym (append-nil c.taken) ∙ (ap (λ (l : List CopyItem). c.taken ++ l) (sym (nil_is c.left done)) ∙ whole)))
    (λ (upto : not (is_behind (next_cursor after c.taken) key) ≡ true).
    item-taken after key c.taken c.left (subst (λ (l : List CopyItem). RisesBehind after (item_keys l)) (sym whole) rises) p.0 (not_true (is_behind (next_cursor after c.taken) key) upto) ∙ ap (item_at key) whole)
    (or_cases (is_nil c.left) (not (is_behind (next_cursor after c.taken) key)) p.1)

pub batch_tells : (key : List ℕ) (x : NodeState) (after : Option (List ℕ)) (room : ℕ) → IsNode x → covers key after (is_nil (batch_behind x after room).left) (batch_behind x after room).taken ≡ true → Tells (item_at key (batch_behind x after room).taken) (row_at key x.rows)
batch_tells key x after room ok e =
    let items = copies_of x.rows in
    let behind = (and_parts (is_behind after key) (is_nil (batch_behind x after room).left || not (is_behind (next_cursor after (batch_behind x after room).taken) key)) e).0 in
    let all : RisesBehind None (item_keys items) = subst (λ (ks : List (List ℕ)). RisesBehind None ks) (sym (keys_of_copies x.rows)) (rows_rise x ok) in
    let same = covered_item after key (rows_after after items) (batch_behind x after room) (is_whole room 2097152 (rows_after after items)) (rest_rises None after items all) e in
    subst (λ (i : CopyItem). Tells i (row_at key x.rows)) (sym (same ∙ item-rest after key items behind)) (copy_tells key x.rows)

-- ---- the rows with a batch taken
module _ (i : CopyItem) (rows : Rows) where
  abbrev with_item : Rows
  with_item = with_row i.key (on_copy (row_at i.key rows) i) rows

  row-item_same : AreTouched rows → row_at i.key with_item ≡ on_copy (row_at i.key rows) i
  row-item_same touched = row-with_same i.key (on_copy (row_at i.key rows) i) rows
      (untouched_stays i.key rows (on_copy (row_at i.key rows) i) touched (copy_never_lowers (row_at i.key rows) i) (copy_untouched (row_at i.key rows) i))

  row-item_other : (key : List ℕ) → key ≢ i.key → row_at key with_item ≡ row_at key rows
  row-item_other key ne = row-with_other key i.key (on_copy (row_at i.key rows) i) rows ne

-- keys up to the bound, and keys past the last, are not touched
pub merged_below : (low : Option (List ℕ)) (key : List ℕ) (items : List CopyItem) (rows : Rows) → RisesBehind low (item_keys items) → is_behind low key ≡ false → row_at key (merged items rows) ≡ row_at key rows
merged_below low key [] rows rises upto = refl
merged_below low key (i ∷ items) rows rises upto =
    merged_below (Some i.key) key items (with_item i rows) rises.1 (not_down low i.key key rises.0 upto) ∙ row-item_other i rows key (bound_differs low i.key key rises.0 upto)

pub merged_past : (low : Option (List ℕ)) (key : List ℕ) (items : List CopyItem) (rows : Rows) → RisesBehind low (item_keys items) → is_behind (next_cursor low items) key ≡ true → row_at key (merged items rows) ≡ row_at key rows
merged_past low key [] rows rises past = refl
merged_past low key (i ∷ items) rows rises past =
    let past' : is_behind (next_cursor (Some i.key) items) key ≡ true = ap (λ (c : Option (List ℕ)). is_behind c key) (sym (cursor_steps low i items)) ∙ past in
    let up = below_of_test i.key key (behind_last (Some i.key) key items rises.1 past') in
    merged_past (Some i.key) key items (with_item i rows) rises.1 past' ∙ row-item_other i rows key (above_differs i.key key up)

-- a key is met once, or has no item
pub merged_at : (low : Option (List ℕ)) (key : List ℕ) (items : List CopyItem) (rows : Rows) → AreTouched rows → RisesBehind low (item_keys items) →
    (row_at key (merged items rows) ≡ on_copy (row_at key rows) (item_at key items)) ⊎ (row_at key (merged items rows) ≡ row_at key rows) × (item_at key items ≡ first_item)
merged_at low key [] rows touched rises = inr (refl, refl)
merged_at low key (i ∷ items) rows touched rises =
    ⊎_elim
    (λ (e : key ≡ i.key).
    let out : is_behind (Some i.key) key ≡ false = subst (λ (k : List ℕ). is_behind (Some i.key) k ≡ false) (sym e) (not_behind_itself i.key) in
    let later = merged_below (Some i.key) key items (with_item i rows) rises.1 out in
    let now : row_at key (with_item i rows) ≡ on_copy (row_at key rows) i = ap (λ (k : List ℕ). row_at k (with_item i rows)) e ∙ (row-item_same i rows touched ∙ ap (λ (k : List ℕ). on_copy (row_at k rows) i) (sym e)) in
    inl (later ∙ (now ∙ ap (on_copy (row_at key rows)) (sym (item_here key i items e)))))
    (λ (ne : key ≢ i.key).
    let still = row-item_other i rows key ne in
    let none = item_next key i items ne in
    ⊎_elim
    (λ (h : row_at key (merged items (with_item i rows)) ≡ on_copy (row_at key (with_item i rows)) (item_at key items)). inl (h ∙ (ap (λ (r : Row). on_copy r (item_at key items)) still ∙ ap (on_copy (row_at key rows)) (sym none))))
    (λ (h : (row_at key (merged items (with_item i rows)) ≡ row_at key (with_item i rows)) × (item_at key items ≡ first_item)). inr (h.0 ∙ still, none ∙ h.1)) (merged_at (Some i.key) key items (with_item i rows) (touched_with i.key (on_copy (row_at i.key rows) i) rows touched) rises.1)) (cases_key key i.key)
