-- Keys that rise behind a bound: those of a node's rows, and those of a batch's items.
use Rattle.std.proofs.Common.{◌≡◌, ◌≢◌, ℕ, List, [], ◌∷◌, map, Bool, true, false, Option, Some, None, refl, sym, ap, ◌∙◌, subst, Less}
use Rattle.std.specs.Prelude.{⊤, if◌then◌else◌}
use Rattle.std.specs.Ordering.{is_lt}
use Rattle.std.specs.Option.{option_or}
use Rattle.std.specs.List.{AllByRecursion, filter}
use Rattle.std.specs.List.Sorted.{IsStrictlySortedBy}
use Rattle.std.specs.Map.{keys_of}
use Rattle.std.proofs.lemmas.Bool.{false≢true}
use Rattle.std.proofs.lemmas.Map.Keys.{sorted_head, sorted_tail}
use Rattle.hk_base.specs.declared.letter.CopyItem.{CopyItem}
use Rattle.hk_copy.specs.Batches.{key_cmp, IsRising, is_after, rows_after, last_key}
use Rattle.hk_node.specs.Rows.{Rows}
use Rattle.hk_node.specs.Node.{NodeState}
use Rattle.hk_node.specs.Sound.{IsNode}
use Rattle.hk_node.specs.Copies.{copies_of}
use Rattle.hk_effects.specs.Projection.{is_behind}
use Rattle.hk_effects.proofs.Order.{IsBelow, key_itself, below_trans, below_differs, below_of_test, test_of_below, behind_more}

abbrev pub RisesBehind : Option (List ℕ) → List (List ℕ) → Type 0
RisesBehind low [] = ⊤
RisesBehind low (k ∷ ks) = (is_behind low k ≡ true) × RisesBehind (Some k) ks

abbrev pub item_keys : List CopyItem → List (List ℕ)
item_keys items = map (λ item. item.key) items

-- the last key that is copied after a batch
abbrev pub next_cursor : Option (List ℕ) → List CopyItem → Option (List ℕ)
next_cursor low items = option_or (last_key items) low

-- ---- what is not behind a bound
pub not_down : (low : Option (List ℕ)) (a b : List ℕ) → is_behind low a ≡ true → is_behind low b ≡ false → is_behind (Some a) b ≡ false
not_down low a b p q = by_test (is_lt (key_cmp a b)) refl
  where
    by_test : (t : Bool) → is_lt (key_cmp a b) ≡ t → t ≡ false
    by_test true e = absurd (false≢true (sym q ∙ behind_more low a b p (below_of_test a b e)))
    by_test false e = refl

pub bound_differs : (low : Option (List ℕ)) (a b : List ℕ) → is_behind low a ≡ true → is_behind low b ≡ false → b ≢ a
bound_differs low a b p q e = false≢true (sym q ∙ subst (λ (k : List ℕ). is_behind low k ≡ true) (sym e) p)

pub not_behind_itself : (a : List ℕ) → is_behind (Some a) a ≡ false
not_behind_itself a = ap is_lt (key_itself a)

pub not_behind_greater : (a b : List ℕ) → IsBelow a b → is_behind (Some b) a ≡ false
not_behind_greater a b l = by_test (is_lt (key_cmp b a)) refl
  where
    by_test : (t : Bool) → is_lt (key_cmp b a) ≡ t → t ≡ false
    by_test true e = absurd (below_differs a a (below_trans a b a l (below_of_test b a e)) refl)
    by_test false e = refl

-- ---- rows and items rise
behind_all : (k : List ℕ) (ks : List (List ℕ)) → AllByRecursion (λ y. key_cmp k y ≡ Less) ks → AllByRecursion (λ y. is_behind (Some k) y ≡ true) ks
behind_all k [] all = tt
behind_all k (y ∷ ks) all = (test_of_below k y all.0, behind_all k ks all.1)

start_all : (ks : List (List ℕ)) → AllByRecursion (λ y. is_behind None y ≡ true) ks
start_all [] = tt
start_all (y ∷ ks) = (refl, start_all ks)

rises_sorted : (low : Option (List ℕ)) (ks : List (List ℕ)) → AllByRecursion (λ y. is_behind low y ≡ true) ks → IsStrictlySortedBy key_cmp ks → RisesBehind low ks
rises_sorted low [] all s = tt
rises_sorted low (k ∷ ks) all s = (all.0, rises_sorted (Some k) ks (behind_all k ks (sorted_head key_cmp k ks s)) (sorted_tail key_cmp k ks s))

-- the rows of a node rise
pub rows_rise : (x : NodeState) → IsNode x → RisesBehind None (keys_of x.rows)
rows_rise x ok = rises_sorted None (keys_of x.rows) (start_all (keys_of x.rows)) ok.ordered

pub after_is_behind : (low : Option (List ℕ)) (item : CopyItem) → is_after low item ≡ is_behind low item.key
after_is_behind None item = refl
after_is_behind (Some k) item = refl

-- the items of a batch rise behind its bound
pub items_rise : (low : Option (List ℕ)) (items : List CopyItem) → AllByRecursion (λ item. is_after low item ≡ true) items → IsRising items → RisesBehind low (item_keys items)
items_rise low [] all rising = tt
items_rise low (i ∷ items) all rising = (sym (after_is_behind low i) ∙ all.0, items_rise (Some i.key) items (later items rising.0) rising.1)
  where
    later : (rest : List CopyItem) → AllByRecursion (λ y. key_cmp i.key y.key ≡ Less) rest → AllByRecursion (λ y. is_after (Some i.key) y ≡ true) rest
    later [] h = tt
    later (y ∷ rest) h = (test_of_below i.key y.key h.0, later rest h.1)

pub keys_of_copies : (rows : Rows) → item_keys (copies_of rows) ≡ keys_of rows
keys_of_copies [] = refl
keys_of_copies (r ∷ rows) = ap (λ (ks : List (List ℕ)). r.0 ∷ ks) (keys_of_copies rows)

-- what rises behind a key rises behind a bound of that key
rises_lower : (low : Option (List ℕ)) (a : List ℕ) (ks : List (List ℕ)) → is_behind low a ≡ true → RisesBehind (Some a) ks → RisesBehind low ks
rises_lower low a [] p r = tt
rises_lower low a (k ∷ ks) p r = (behind_more low a k p (below_of_test a k r.0), r.1)

filtered_rise : (low : Option (List ℕ)) (t : CopyItem → Bool) (items : List CopyItem) → RisesBehind low (item_keys items) → RisesBehind low (item_keys (filter t items))
filtered_rise low t [] r = tt
filtered_rise low t (i ∷ items) r = by_test (t i) (filtered_rise (Some i.key) t items r.1)
  where
    by_test : (b : Bool) → RisesBehind (Some i.key) (item_keys (filter t items)) → RisesBehind low (item_keys (if b then i ∷ filter t items else filter t items))
    by_test true more = (r.0, more)
    by_test false more = rises_lower low i.key (item_keys (filter t items)) r.0 more

-- the items behind a bound rise behind it
pub rest_rises : (low after : Option (List ℕ)) (items : List CopyItem) → RisesBehind low (item_keys items) → RisesBehind after (item_keys (rows_after after items))
rest_rises low after [] r = tt
rest_rises low after (i ∷ items) r = by_test (is_after after i) refl (rest_rises (Some i.key) after items r.1)
  where
    by_test : (b : Bool) → is_after after i ≡ b → RisesBehind after (item_keys (rows_after after items)) → RisesBehind after (item_keys (if b then i ∷ rows_after after items else rows_after after items))
    by_test true e more = (sym (after_is_behind after i) ∙ e, filtered_rise (Some i.key) (is_after after) items r.1)
    by_test false e more = more

-- ---- the last key
last_of_some : (i : CopyItem) (items : List CopyItem) (a b : Option (List ℕ)) → next_cursor a (i ∷ items) ≡ next_cursor b (i ∷ items)
last_of_some i [] a b = refl
last_of_some i (j ∷ items) a b = last_of_some j items a b

pub cursor_steps : (low : Option (List ℕ)) (i : CopyItem) (items : List CopyItem) → next_cursor low (i ∷ items) ≡ next_cursor (Some i.key) items
cursor_steps low i [] = refl
cursor_steps low i (j ∷ items) = last_of_some j items low (Some i.key)

-- what is behind the last key is behind the bound
pub behind_last : (low : Option (List ℕ)) (key : List ℕ) (items : List CopyItem) → RisesBehind low (item_keys items) → is_behind (next_cursor low items) key ≡ true → is_behind low key ≡ true
behind_last low key [] rises past = past
behind_last low key (i ∷ items) rises past =
    behind_more low i.key key rises.0 (below_of_test i.key key (behind_last (Some i.key) key items rises.1 (ap (λ (c : Option (List ℕ)). is_behind c key) (sym (cursor_steps low i items)) ∙ past)))

pub upto_last : (low : Option (List ℕ)) (key : List ℕ) (items : List CopyItem) → RisesBehind low (item_keys items) → is_behind low key ≡ false → is_behind (next_cursor low items) key ≡ false
upto_last low key items rises upto = by_test (is_behind (next_cursor low items) key) refl
  where
    by_test : (t : Bool) → is_behind (next_cursor low items) key ≡ t → t ≡ false
    by_test true e = absurd (false≢true (sym upto ∙ behind_last low key items rises e))
    by_test false e = refl
