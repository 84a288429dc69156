-- A batch of copied rows, merged by keys.
use Rattle.std.proofs.Common.{◌≡◌, ◌≢◌, ◌⊎◌, ◌<◌, ◌-◌, ◌+◌, ℕ, List, [], ◌∷◌, length, nat_lt, ◌==◌, Bool, true, false, cond, Option, Some, None, option_map, unwrap_or, slice_get, drop, All, refl, sym, ap, ◌∙◌, subst, inl, inr, ⊎_elim, arith}
use Rattle.std.specs.Option.{option_or}
use Rattle.std.specs.Ordering.{nat_cmp}
use Rattle.std.specs.declared.cmp.Ordering.{Ordering}
use Rattle.std.specs.declared.cmp.Ordering.TheVariants.{Less, Equal, Greater}
use Rattle.std.specs.List.{AllByRecursion}
use Rattle.std.specs.List.Sorted.{IsStrictlySortedBy}
use Rattle.std.proofs.lemmas.Bool.{false≢true, and_parts}
use Rattle.std.proofs.lemmas.Bool.Decides.{nat_tests}
use Rattle.std.proofs.lemmas.Option.{none-some}
use Rattle.std.proofs.lemmas.List.{at_drop_more}
use Rattle.std.proofs.Math.ListN.{get_or}
use Rattle.hk_base.specs.declared.stamp.NodeId.{NodeId}
use Rattle.hk_base.specs.declared.call.State.{State}
use Rattle.hk_base.specs.declared.call.State.TheVariants.{Valid, Invalid, Write, Replay, Trans}
use Rattle.hk_base.specs.declared.letter.CopyItem.{CopyItem}
use Rattle.hk_base.specs.Range.{IsWithin}
use Rattle.hk_base.specs.Stamp.{tag_of}
use Rattle.hk_copy.specs.Batches.{last_key}
use Rattle.hk_copy.proofs.Pushed.{last_is}
use Rattle.hk_key.specs.declared.row.Row.{Row}
use Rattle.hk_key.specs.Sound.{IsSound}
use Rattle.hk_key.specs.Same.{is_same_row, is_same_state}
use Rattle.hk_key.specs.Table.{first_row, on_copy, on_copy_at, copied_same}
use Rattle.hk_key.proofs.SameNotes.{each_is_same, parts}
use Rattle.hk_key.proofs.Unchanged.{same_after_copy}
use Rattle.hk_node.specs.Rows.{Rows, find_row, row_at, put_row, is_touched, with_row}
use Rattle.hk_node.specs.Copies.{merged}
use Rattle.hk_node.specs.Copying.{IsQuiet, IsMerge, change_of, put_change, row_now, put_rows}
use Rattle.hk_node.proofs.Order.{Key, Rising, AreTouched, with_touched, with_itself, cases_key, holds_at, find-put_same, find-put_other, rising_put}
use Rattle.hk_node.proofs.Parts.{copy_pends_none}
use Rattle.hk_node.proofs.PutRows.{row_over, put_over, rising_over}

-- ---- what a copied row makes of a row
-- The row has a higher stamp, or became Valid: it never goes back.
abbrev pub Raised : Row → Row → Type 0
Raised a b = (tag_of a.stamp < tag_of b.stamp) ⊎ ((tag_of a.stamp ≡ tag_of b.stamp) × (a.state ≡ Invalid) × (b.state ≡ Valid))

invalid_valid : (s : State) → s ≡ Invalid → s ≡ Valid → ⊥
invalid_valid s a b = false≢true (ap (λ (t : State). is_same_state t Valid) (sym a ∙ b))

raised_trans : (a b c : Row) → Raised a b → Raised b c → Raised a c
raised_trans a b c (inl p) (inl q) = inl (omega (arith, p, q))
raised_trans a b c (inl p) (inr q) = inl (subst (λ (n : ℕ). tag_of a.stamp < n) q.0 p)
raised_trans a b c (inr p) (inl q) = inl (subst (λ (n : ℕ). n < tag_of c.stamp) (sym p.0) q)
raised_trans a b c (inr p) (inr q) = absurd (invalid_valid b.state q.1 p.2)

below_itself : (n : ℕ) → n < n → ⊥
below_itself n l = omega arith

same_tag : (a b : Row) → is_same_row a b ≡ true → tag_of a.stamp ≡ tag_of b.stamp
same_tag a b e =
    let both = and_parts (a.stamp.version == b.stamp.version) (a.stamp.node == b.stamp.node) (parts a b e).stamp in
    let version = both.0 in
    let node = both.1 in
    grind (arith, nat_tests)

raised_apart : (a b : Row) → Raised a b → is_same_row a b ≡ false
raised_apart a b raised = by_test (is_same_row a b) refl raised
  where
    states : (s t : State) → is_same_state s t ≡ true → s ≡ Invalid → t ≡ Valid → ⊥
    states s t e p q = false≢true (sym (ap (λ (x : State). is_same_state x t) p ∙ ap (is_same_state Invalid) q) ∙ e)

    by_test : (c : Bool) → is_same_row a b ≡ c → Raised a b → is_same_row a b ≡ false
    by_test false e r = e
    by_test true e (inl p) = absurd (below_itself (tag_of b.stamp) (subst (λ (n : ℕ). n < tag_of b.stamp) (same_tag a b e) p))
    by_test true e (inr p) = absurd (states a.state b.state (parts a b e).state p.1 p.2)

raised_copy : (row : Row) (item : CopyItem) → is_same_row row (on_copy row item) ≡ false → Raised row (on_copy row item)
raised_copy row item differs = by_order (nat_cmp (tag_of row.stamp) (tag_of item.stamp)) refl differs
  where
    unchanged : is_same_row row row ≡ false → ⊥
    unchanged e = false≢true (sym e ∙ each_is_same row)

    by_state : (state : State) → row.state ≡ state → is_same_row row (copied_same true state row) ≡ false → Raised row (copied_same true state row)
    by_state Invalid at e = inr (refl, at, refl)
    by_state Valid at e = absurd (unchanged e)
    by_state Write at e = absurd (unchanged e)
    by_state Replay at e = absurd (unchanged e)
    by_state Trans at e = absurd (unchanged e)

    by_valid : (b : Bool) → is_same_row row (copied_same b row.state row) ≡ false → Raised row (copied_same b row.state row)
    by_valid true e = by_state row.state refl e
    by_valid false e = absurd (unchanged e)

    by_order : (o : Ordering) → nat_cmp (tag_of row.stamp) (tag_of item.stamp) ≡ o → is_same_row row (on_copy_at o row item) ≡ false → Raised row (on_copy_at o row item)
    by_order Less at e = inl (grind arith)
    by_order Equal at e = by_valid item.valid e
    by_order Greater at e = absurd (unchanged e)

copy_within : (row : Row) (item : CopyItem) → IsWithin row.stamp → IsWithin item.stamp → IsWithin (on_copy row item).stamp
copy_within row item own within = by_order (nat_cmp (tag_of row.stamp) (tag_of item.stamp))
  where
    by_state : (state : State) → IsWithin (copied_same true state row).stamp
    by_state Invalid = own
    by_state Valid = own
    by_state Write = own
    by_state Replay = own
    by_state Trans = own

    by_valid : (b : Bool) → IsWithin (copied_same b row.state row).stamp
    by_valid true = by_state row.state
    by_valid false = own

    by_order : (o : Ordering) → IsWithin (on_copy_at o row item).stamp
    by_order Less = within
    by_order Equal = by_valid item.valid
    by_order Greater = own

-- what a copied row changes is touched, as an Invalid row is
raised_touched : (a b : Row) → IsQuiet a → Raised a b → is_touched b ≡ true
raised_touched a b quiet (inl p) = grind (arith, nat_tests)
raised_touched a b quiet (inr p) = subst (λ (n : ℕ). nat_lt 0 n ≡ true) p.0 (quiet.touched p.1)

copy_touched : (row : Row) (item : CopyItem) → IsQuiet row → (on_copy row item).state ≡ Invalid → is_touched (on_copy row item) ≡ true
copy_touched row item quiet = by_same (is_same_row row (on_copy row item)) refl
  where
    by_same : (b : Bool) → is_same_row row (on_copy row item) ≡ b → (on_copy row item).state ≡ Invalid → is_touched (on_copy row item) ≡ true
    by_same false e invalid = raised_touched row (on_copy row item) quiet (raised_copy row item e)
    by_same true e invalid =
        let same : on_copy row item ≡ row = same_after_copy row item e in
        subst (λ (r : Row). is_touched r ≡ true) (sym same) (quiet.touched (subst (λ (r : Row). r.state ≡ Invalid) same invalid))

quiet_copy : (row : Row) (item : CopyItem) → IsQuiet row → IsWithin item.stamp → IsQuiet (on_copy row item)
quiet_copy row item quiet within = record {
  pending = copy_pends_none row item quiet.pending;
  within = copy_within row item quiet.within within;
  touched = copy_touched row item quiet;
}

quiet_first : IsQuiet first_row
quiet_first = record { pending = refl; within = omega arith; touched = λ invalid. absurd (invalid_valid Valid invalid refl) }

-- ---- the rows that were changed so far
pub record Made (rows : Rows) (key : Key) (row : Row) : Type 0 where
  pub quiet : IsQuiet row
  pub raised : Raised (row_at key rows) row

pub record Merging (items left : List CopyItem) (rows changes : Rows) : Type 0 where
  pub rising : Rising changes
  pub same : merged left (put_rows changes rows) ≡ merged items rows
  pub made : (key : Key) (row : Row) → find_row key changes ≡ Some row → Made rows key row

pub merging_first : (items : List CopyItem) (rows changes : Rows) → changes ≡ [] → Merging items items rows changes
unfolding IsStrictlySortedBy
merging_first items rows changes none = subst (λ (l : Rows). Merging items items rows l) (sym none) (record { rising = tt; same = refl; made = λ key row found. absurd (none-some row found) })

pub quiet_now : (key : Key) (items left : List CopyItem) (rows changes : Rows) → AllByRecursion (λ (r : Key × Row). IsQuiet r.1) rows → Merging items left rows changes → IsQuiet (row_now key changes rows)
quiet_now key items left rows changes all inv = by_found (find_row key changes) refl
  where
    by_found : (o : Option Row) → find_row key changes ≡ o → IsQuiet (unwrap_or (option_or o (find_row key rows)) first_row)
    by_found None e = holds_at IsQuiet key rows quiet_first all
    by_found (Some row) e = (inv.made key row e).quiet

made_step : (items left : List CopyItem) (rows changes : Rows) (item : CopyItem) → AllByRecursion (λ (r : Key × Row). IsQuiet r.1) rows → Merging items left rows changes → IsWithin item.stamp →
    is_same_row (row_now item.key changes rows) (on_copy (row_now item.key changes rows) item) ≡ false → Made rows item.key (on_copy (row_now item.key changes rows) item)
made_step items left rows changes item all inv within differs = record {
  quiet = quiet_copy (row_now item.key changes rows) item (quiet_now item.key items left rows changes all inv) within;
  raised = by_found (find_row item.key changes) refl differs;
}
  where
    now_of : Option Row → Row
    now_of o = unwrap_or (option_or o (find_row item.key rows)) first_row

    by_found : (o : Option Row) → find_row item.key changes ≡ o → is_same_row (now_of o) (on_copy (now_of o) item) ≡ false → Raised (row_at item.key rows) (on_copy (now_of o) item)
    by_found None e d = raised_copy (row_at item.key rows) item d
    by_found (Some row) e d = raised_trans (row_at item.key rows) row (on_copy row item) (inv.made item.key row e).raised (raised_copy row item d)

none_is : (b : Bool) (x : Row) → cond b None (Some x) ≡ None → b ≡ true
none_is true x e = refl
none_is false x e = absurd (none-some x (sym e))

some_is : (b : Bool) (x y : Row) → cond b None (Some x) ≡ Some y → (b ≡ false) × (x ≡ y)
some_is true x y e = absurd (none-some y e)
some_is false x y e = (refl, inner e)
  where
    inner : Some x ≡ Some y → x ≡ y
    inner h = grind arith

-- an item that changes nothing
turn_same : (items left rest : List CopyItem) (rows changes : Rows) (item : CopyItem) → Rising rows → left ≡ item ∷ rest → None ≡ change_of (row_now item.key changes rows) item →
    Merging items left rows changes → Merging items rest rows changes
turn_same items left rest rows changes item ordered is none inv = turned (subst (λ (l : List CopyItem). Merging items l rows changes) is inv)
  where
    X : Rows
    X = put_rows changes rows

    now : Row
    now = row_now item.key changes rows

    -- the item leaves the row that stands there
    stays : Merging items (item ∷ rest) rows changes → on_copy (row_at item.key X) item ≡ row_at item.key X
    stays at = subst (λ (r : Row). on_copy r item ≡ r) (row_over item.key changes rows at.rising)
        (same_after_copy now item (none_is (is_same_row now (on_copy now item)) (on_copy now item) (sym none)))

    turned : Merging items (item ∷ rest) rows changes → Merging items rest rows changes
    turned at = record {
      rising = at.rising;
      same = sym (ap (merged rest) (ap (λ (r : Row). with_row item.key r X) (stays at) ∙ with_itself item.key X (rising_over changes rows ordered))) ∙ at.same;
      made = at.made;
    }

-- an item that changes its row
turn_changed : (items left rest : List CopyItem) (rows changes next : Rows) (item : CopyItem) (row : Row) → Rising rows → AllByRecursion (λ (r : Key × Row). IsQuiet r.1) rows → IsWithin item.stamp →
    left ≡ item ∷ rest → Some row ≡ change_of (row_now item.key changes rows) item → next ≡ put_row item.key row changes →
    Merging items left rows changes → Merging items rest rows next
turn_changed items left rest rows changes next item row ordered all within is some put inv =
    subst (λ (n : Rows). Merging items rest rows n) (sym put) (turned (subst (λ (l : List CopyItem). Merging items l rows changes) is inv))
  where
    X : Rows
    X = put_rows changes rows

    now : Row
    now = row_now item.key changes rows

    told : (is_same_row now (on_copy now item) ≡ false) × (on_copy now item ≡ row)
    told = some_is (is_same_row now (on_copy now item)) (on_copy now item) row (sym some)

    touched : Merging items (item ∷ rest) rows changes → is_touched (on_copy (row_at item.key X) item) ≡ true
    touched at = subst (λ (r : Row). is_touched (on_copy r item) ≡ true) (row_over item.key changes rows at.rising)
        (raised_touched now (on_copy now item) (quiet_now item.key items (item ∷ rest) rows changes all at) (raised_copy now item told.0))

    turned : Merging items (item ∷ rest) rows changes → Merging items rest rows (put_row item.key row changes)
    turned at = record {
      rising = rising_put item.key row changes at.rising;
      same = ap (merged rest) (put_over item.key row changes rows at.rising ordered
          ∙ ap (λ (r : Row). put_row item.key r X) (sym told.1 ∙ ap (λ (r : Row). on_copy r item) (row_over item.key changes rows at.rising))
          ∙ sym (with_touched item.key (on_copy (row_at item.key X) item) X (touched at))) ∙ at.same;
      made = λ key x found. ⊎_elim
          (λ (e : key ≡ item.key). subst (λ (k : Key). Made rows k x) (sym e)
          (subst (λ (r : Row). Made rows item.key r)
          (told.1 ∙ inner row x (sym (find-put_same item.key row changes) ∙ subst (λ (k : Key). find_row k (put_row item.key row changes) ≡ Some x) e found))
          (made_step items (item ∷ rest) rows changes item all at within told.0)))
          (λ (ne : key ≢ item.key). at.made key x (sym (find-put_other key item.key row changes ne) ∙ found))
          (cases_key key item.key);
    }
      where
        inner : (x y : Row) → Some x ≡ Some y → x ≡ y
        inner x y h = grind arith

pub turn : (items left rest : List CopyItem) (rows changes next : Rows) (item : CopyItem) (row : Option Row) → Rising rows → AllByRecursion (λ (r : Key × Row). IsQuiet r.1) rows → IsWithin item.stamp →
    left ≡ item ∷ rest → row ≡ change_of (row_now item.key changes rows) item → next ≡ put_change row item.key changes →
    Merging items left rows changes → Merging items rest rows next
turn items left rest rows changes next item None ordered all within is none put inv =
    subst (λ (n : Rows). Merging items rest rows n) (sym put) (turn_same items left rest rows changes item ordered is none inv)
turn items left rest rows changes next item (Some row) ordered all within is some put inv = turn_changed items left rest rows changes next item row ordered all within is some put inv

pub left_is : (xs : List CopyItem) (i : ℕ) (item : CopyItem) → i < length xs → item ≡ get_or xs i item → drop i xs ≡ item ∷ drop (i + 1) xs
left_is xs i item lt is = at_drop_more (λ l. l) xs i item lt ∙ ap (λ x. x ∷ drop (i + 1) xs) (sym is)

pub within_at : (xs items : List CopyItem) (i : ℕ) (item : CopyItem) → xs ≡ items → i < length xs → All (λ x. IsWithin x.stamp) items → item ≡ get_or xs i item → IsWithin item.stamp
within_at xs items i item same lt all is = subst (λ (x : CopyItem). IsWithin x.stamp) (sym is)
    ((subst (λ (l : List CopyItem). All (λ x. IsWithin x.stamp) l) (sym same) all) i item lt)

-- at the end the batch is merged
pub merge_is : (items left : List CopyItem) (rows changes : Rows) → left ≡ [] → Merging items left rows changes → IsMerge items rows changes
merge_is items left rows changes none inv = record {
  rising = inv.rising;
  same = sym (ap (λ (l : List CopyItem). merged l (put_rows changes rows)) none) ∙ inv.same;
  differ = λ key row found. raised_apart (row_at key rows) row (inv.made key row found).raised;
}

-- each batch has such changes
pub merges : (items left : List CopyItem) (rows changes : Rows) → Rising rows → AllByRecursion (λ (r : Key × Row). IsQuiet r.1) rows → AllByRecursion (λ item. IsWithin item.stamp) left →
    Merging items left rows changes → (all : Rows) × IsMerge items rows all
merges items [] rows changes ordered all within inv = (changes, merge_is items [] rows changes refl inv)
merges items (item ∷ rest) rows changes ordered all within inv =
    let row : Option Row = change_of (row_now item.key changes rows) item in
    merges items rest rows (put_change row item.key changes) ordered all within.1
    (turn items (item ∷ rest) rest rows changes (put_change row item.key changes) item row ordered all within.0 refl refl refl inv)

-- ---- the rows of a node that is not ready, and its cursor
pub quiet_rows : (me : NodeId) (members : List NodeId) (rows : Rows) → AllByRecursion (λ (r : Key × Row). IsSound me members r.1) rows → AreTouched rows →
    AllByRecursion (λ (r : Key × Row). r.1.pending ≡ None) rows → AllByRecursion (λ (r : Key × Row). IsQuiet r.1) rows
quiet_rows me members [] sound touched none = tt
quiet_rows me members (r ∷ rows) sound touched none = (record { pending = none.0; within = sound.0.within; touched = λ invalid. touched.0 }, quiet_rows me members rows sound.1 touched.1 none.1)

pub cursor_is : (items : List CopyItem) (item : CopyItem) (key : Key) (cursor : Option Key) → slice_get items (length items - 1) ≡ Some item → key ≡ item.key → Some key ≡ option_or (last_key items) cursor
cursor_is items item key cursor at same = ap Some same ∙ sym (ap (λ (o : Option Key). option_or o cursor) (last_is items ∙ ap (option_map (λ (r : CopyItem). r.key)) at))
