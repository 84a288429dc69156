-- A walk over the open rows of a node, by an index of their keys.
use Rattle.std.proofs.Common.{◌≡◌, ◌≢◌, List, [], ◌∷◌, ◌++◌, Bool, true, false, cond, not, ◌&&◌, ◌||◌, map, Option, Some, None, option_map, unwrap_or, Result, Ok, Err, IfOk, IfSome, refl, sym, ap, ◌∙◌, arith, subst, ⊎_elim, inl, inr, ◌⊎◌}
use Rattle.std.specs.Option.{option_or}
use Rattle.std.specs.Ordering.{match_ordering}
use Rattle.std.specs.declared.cmp.Ordering.{Ordering}
use Rattle.std.specs.declared.cmp.Ordering.TheVariants.{Less, Equal, Greater}
use Rattle.std.specs.List.{AllByRecursion, flat_map, filter, find}
use Rattle.std.specs.List.Sorted.{IsStrictlySortedBy}
use Rattle.std.specs.Map.{keys_of}
use Rattle.std.specs.BTreeMap.{is_at}
use Rattle.std.specs.BTreeSet.{insert_key}
use Rattle.std.specs.Set.{remove_key}
use Rattle.std.proofs.lemmas.Bool.{false≢true}
use Rattle.std.proofs.lemmas.Option.{none-some}
use Rattle.std.proofs.lemmas.List.Concat.{flat_map-cons}
use Rattle.hk_copy.specs.Batches.{key_cmp}
use Rattle.hk_key.specs.declared.row.Row.{Row}
use Rattle.hk_key.specs.Table.{first_row}
use Rattle.hk_node.specs.Rows.{Rows, find_row, put_row, with_row, is_touched}
use Rattle.hk_node.specs.Copies.{is_valid}
use Rattle.hk_node.specs.Open.{is_behind, is_open_behind, next_open}
use Rattle.hk_node.specs.Index.{is_listed, HasOpen, IsGrown, is_open_at, of_found, at_key}
use Rattle.hk_node.specs.Copying.{put_rows}
use Rattle.hk_node.proofs.Order.{Key, Lt, lt_trans, Rising, same_key, same_of, same_not, same_true, equal_keys, gt_lt, lt_ne, lt_ne_back, cases_key, find_here, find_next, find-put_same, find-put_other}
use Rattle.hk_base.specs.declared.stamp.NodeId.{NodeId}
use Rattle.hk_base.specs.declared.call.State.{State}
use Rattle.hk_base.specs.declared.call.State.TheVariants.{Valid, Invalid, Write, Replay, Trans}
use Rattle.hk_base.specs.declared.view.View.{View}
use Rattle.hk_key.specs.declared.row.Pending.{Pending}
use Rattle.hk_key.specs.Same.{is_same_row}
use Rattle.hk_key.specs.Sound.{Holds, IsSound}
use Rattle.hk_key.specs.Table.{Done, still, on_view, on_view_at}
use Rattle.hk_key.proofs.SameNotes.{each_is_same}
use Rattle.hk_node.specs.Node.{NodeState}
use Rattle.hk_node.specs.Sends.{at_view, sent}
use Rattle.hk_node.specs.Stepped.{told_of}
use Rattle.hk_node.specs.Sound.{IsNode}
use Rattle.hk_node.specs.Viewed.{IsFitRow, view_done, view_letters, view_told, view_new, view_old}
use Rattle.hk_node.proofs.Order.{holds_found}
use Rattle.hk_node.proofs.Stamps.{row_mapped}
use Rattle.hk_node.proofs.Placed.{below_first, each_found}
use Rattle.hk_node.proofs.PutRows.{find_over}

abbrev pub Entry : Type 0
Entry = Key × Row

abbrev Sorted : List Key → Type 0
Sorted keys = IsStrictlySortedBy key_cmp keys

abbrev Behind : Key → List Key → Type 0
Behind low keys = AllByRecursion (λ k. Lt low k) keys

behind_less : (low high : Key) (keys : List Key) → Lt low high → Behind high keys → Behind low keys
behind_less low high [] lt all = tt
behind_less low high (k ∷ keys) lt all = (lt_trans low high k lt all.0, behind_less low high keys lt all.1)

listed_not : (key : Key) (keys : List Key) → Behind key keys → is_listed key keys ≡ false
listed_not key [] all = refl
listed_not key (k ∷ keys) all = rw (same_not key k (lt_ne key k all.0), listed_not key keys all.1) refl

-- ---- what is made of the rows, by their keys
module _ {X : Type 0} (f : Entry → List X) where
  -- a row that is put before all these keys is not met
  passed : (r : Entry) (rows : Rows) (keys : List Key) → Behind r.0 keys → flat_map (at_key f (r ∷ rows)) keys ≡ flat_map (at_key f rows) keys
  passed r rows [] all = refl
  passed r rows (k ∷ keys) all = flat_map-cons (at_key f (r ∷ rows)) k keys
      ∙ ap (λ (o : Option Row). of_found o (λ row. f (k, row)) ++ flat_map (at_key f (r ∷ rows)) keys) (find_next k r rows (lt_ne_back r.0 k all.0))
      ∙ ap (λ l. at_key f rows k ++ l) (passed r rows keys all.1) ∙ sym (flat_map-cons (at_key f rows) k keys)

  -- there are no rows
  nothing : (keys : List Key) → flat_map (at_key f []) keys ≡ []
  nothing [] = refl
  nothing (k ∷ keys) = flat_map-cons (at_key f []) k keys ∙ nothing keys

  -- each row of which something is made is listed
  abbrev Lists : List Key → Rows → Type 0
  Lists keys rows = AllByRecursion (λ (r : Entry). is_listed r.0 keys ≡ false → f r ≡ []) rows

  lists_past : (k : Key) (keys : List Key) (rows : Rows) → AllByRecursion (λ q. Lt k q) (keys_of rows) → Lists (k ∷ keys) rows → Lists keys rows
  lists_past k keys [] above all = tt
  lists_past k keys (r ∷ rows) above all = (
    (λ none. all.0 (ap (λ (b : Bool). b || is_listed r.0 keys) (same_not r.0 k (lt_ne_back k r.0 above.0)) ∙ none)),
    lists_past k keys rows above.1 all.1,
  )

  above_less : (low high : Key) (rows : Rows) → Lt low high → AllByRecursion (λ q. Lt high q) (keys_of rows) → AllByRecursion (λ q. Lt low q) (keys_of rows)
  above_less low high [] lt all = tt
  above_less low high (r ∷ rows) lt all = (lt_trans low high r.0 lt all.0, above_less low high rows lt all.1)

  pub walk : (keys : List Key) (rows : Rows) → Sorted keys → Rising rows → Lists keys rows → flat_map (at_key f rows) keys ≡ flat_map f rows
  unfolding IsStrictlySortedBy
  walk keys [] sorted rising lists = nothing keys
  walk [] (r ∷ rows) sorted rising lists = walk [] rows sorted rising.1 lists.1 ∙ ap (λ l. l ++ flat_map f rows) (sym (lists.0 refl)) ∙ sym (flat_map-cons f r rows)
  walk (k ∷ keys) (r ∷ rows) sorted rising lists = by_order (key_cmp k r.0) refl
      (λ lt. walk keys (r ∷ rows) sorted.1 rising (lists_past k keys (r ∷ rows) (lt, above_less k r.0 rows lt rising.0) lists))
      (λ e. walk keys rows sorted.1 rising.1 (lists_past k keys rows (subst (λ (q : Key). AllByRecursion (λ x. Lt q x) (keys_of rows)) (sym e) rising.0) lists.1))
      (λ gt. walk (k ∷ keys) rows sorted rising.1 lists.1)
    where
      cons : flat_map (at_key f (r ∷ rows)) (k ∷ keys) ≡ at_key f (r ∷ rows) k ++ flat_map (at_key f (r ∷ rows)) keys
      cons = flat_map-cons (at_key f (r ∷ rows)) k keys

      by_order : (o : Ordering) → key_cmp k r.0 ≡ o → (Lt k r.0 → flat_map (at_key f (r ∷ rows)) keys ≡ flat_map f (r ∷ rows)) →
          (k ≡ r.0 → flat_map (at_key f rows) keys ≡ flat_map f rows) → (Lt r.0 k → flat_map (at_key f rows) (k ∷ keys) ≡ flat_map f rows) →
          flat_map (at_key f (r ∷ rows)) (k ∷ keys) ≡ flat_map f (r ∷ rows)
      by_order Less e low here high = cons ∙ ap (λ (o : Option Row). of_found o (λ row. f (k, row)) ++ flat_map (at_key f (r ∷ rows)) keys) (below_first k r rows rising e) ∙ low e
      by_order Equal e low here high =
          let at : k ≡ r.0 = equal_keys k r.0 e in
          cons ∙ ap (λ (o : Option Row). of_found o (λ row. f (k, row)) ++ flat_map (at_key f (r ∷ rows)) keys) (find_here k r rows at)
          ∙ ap (λ (q : Key). f (q, r.1) ++ flat_map (at_key f (r ∷ rows)) keys) at
          ∙ ap (λ l. f r ++ l) (passed r rows keys (subst (λ (q : Key). Behind q keys) at sorted.0) ∙ here at) ∙ sym (flat_map-cons f r rows)
      by_order Greater e low here high =
          let lt : Lt r.0 k = gt_lt k r.0 e in
          let behind : Behind r.0 (k ∷ keys) = (lt, behind_less r.0 k keys lt sorted.0) in
          passed r rows (k ∷ keys) behind ∙ high lt
          ∙ ap (λ l. l ++ flat_map f rows) (sym (lists.0 (listed_not r.0 (k ∷ keys) behind))) ∙ sym (flat_map-cons f r rows)

-- an index that has each open row lists each of which something is made
lists_open : {X : Type 0} (f : Entry → List X) (keys : List Key) (rows all : Rows) → HasOpen keys all → AllByRecursion (λ (r : Entry). find_row r.0 all ≡ Some r.1) rows →
    AllByRecursion (λ (r : Entry). is_valid r.1.state ≡ true → f r ≡ []) rows → AllByRecursion (λ (r : Entry). is_listed r.0 keys ≡ false → f r ≡ []) rows
lists_open f keys [] all has found rest = tt
lists_open f keys (r ∷ rows) all has found rest = (λ none. by_state (is_valid r.1.state) refl none, lists_open f keys rows all has found.1 rest.1)
  where
    by_state : (b : Bool) → is_valid r.1.state ≡ b → is_listed r.0 keys ≡ false → f r ≡ []
    by_state true e none = rest.0 e
    by_state false e none = absurd (false≢true (sym none ∙ has r.0 r.1 found.0 e))

pub walk_open : {X : Type 0} (f : Entry → List X) (keys : List Key) (rows : Rows) → Sorted keys → Rising rows → HasOpen keys rows →
    AllByRecursion (λ (r : Entry). is_valid r.1.state ≡ true → f r ≡ []) rows → flat_map (at_key f rows) keys ≡ flat_map f rows
walk_open f keys rows sorted rising has rest = walk f keys rows sorted rising (lists_open f keys rows rows has (each_found rows rising) rest)

-- ---- the next open row
first_of : List Key → Option Key
first_of [] = None
first_of (k ∷ keys) = Some k

abbrev one_of : Option Key → Entry → List Key
one_of after r = cond (is_open_behind after r) (r.0 ∷ []) []

first_in : (b : Bool) (k : Key) (keys : List Key) → first_of (cond b (k ∷ []) [] ++ keys) ≡ cond b (Some k) (first_of keys)
unfolding first_of
first_in true k keys = refl
first_in false k keys = refl

first_found : (after : Option Key) (rows : Rows) → first_of (flat_map (one_of after) rows) ≡ next_open after rows
unfolding first_of
first_found after [] = refl
first_found after (r ∷ rows) = ap first_of (flat_map-cons (one_of after) r rows) ∙ first_in (is_open_behind after r) r.0 (flat_map (one_of after) rows)
    ∙ ap (λ (o : Option Key). cond (is_open_behind after r) (Some r.0) o) (first_found after rows) ∙ by_test (is_open_behind after r)
  where
    by_test : (b : Bool) → cond b (Some r.0) (option_map (λ x. x.0) (find (is_open_behind after) rows)) ≡ option_map (λ x. x.0) (cond b (Some r) (find (is_open_behind after) rows))
    by_test true = refl
    by_test false = refl

one_at : (after : Option Key) (rows : Rows) (k : Key) → at_key (one_of after) rows k ≡ cond (is_behind after k && is_open_at rows k) (k ∷ []) []
one_at after rows k = by_found (find_row k rows)
  where
    none : (b : Bool) → [] ≡ cond (b && false) (k ∷ []) []
    none true = refl
    none false = refl

    by_found : (o : Option Row) → of_found o (λ row. one_of after (k, row)) ≡ cond (is_behind after k && not (is_valid (unwrap_or o first_row).state)) (k ∷ []) []
    by_found None = none (is_behind after k)
    by_found (Some row) = refl

first_listed : (after : Option Key) (rows : Rows) (keys : List Key) → first_of (flat_map (at_key (one_of after) rows) keys) ≡ find (is_open_at rows) (filter (is_behind after) keys)
unfolding first_of
first_listed after rows [] = refl
first_listed after rows (k ∷ keys) = ap first_of (flat_map-cons (at_key (one_of after) rows) k keys ∙ ap (λ l. l ++ flat_map (at_key (one_of after) rows) keys) (one_at after rows k))
    ∙ first_in (is_behind after k && is_open_at rows k) k (flat_map (at_key (one_of after) rows) keys)
    ∙ ap (λ (o : Option Key). cond (is_behind after k && is_open_at rows k) (Some k) o) (first_listed after rows keys) ∙ by_test (is_behind after k)
  where
    by_test : (b : Bool) → cond (b && is_open_at rows k) (Some k) (find (is_open_at rows) (filter (is_behind after) keys)) ≡ find (is_open_at rows) (cond b (k ∷ filter (is_behind after) keys) (filter (is_behind after) keys))
    by_test true = refl
    by_test false = refl

each_rests : (after : Option Key) (rows : Rows) → AllByRecursion (λ (r : Entry). is_valid r.1.state ≡ true → one_of after r ≡ []) rows
each_rests after [] = tt
each_rests after (r ∷ rows) = ((λ e. ap (λ (v : Bool). cond (is_behind after r.0 && not v) (r.0 ∷ []) []) e ∙ none (is_behind after r.0)), each_rests after rows)
  where
    none : (b : Bool) → cond (b && false) (r.0 ∷ []) [] ≡ []
    none true = refl
    none false = refl

pub next_is : (after : Option Key) (keys : List Key) (rows : Rows) → Sorted keys → Rising rows → HasOpen keys rows → find (is_open_at rows) (filter (is_behind after) keys) ≡ next_open after rows
next_is after keys rows sorted rising has = sym (first_listed after rows keys) ∙ ap first_of (walk_open (one_of after) keys rows sorted rising has (each_rests after rows)) ∙ first_found after rows

all_behind : (keys : List Key) → filter (is_behind None) keys ≡ keys
all_behind [] = refl
all_behind (k ∷ keys) = ap (λ l. k ∷ l) (all_behind keys)

pub first_is : (keys : List Key) (rows : Rows) → Sorted keys → Rising rows → HasOpen keys rows → find (is_open_at rows) keys ≡ next_open None rows
first_is keys rows sorted rising has = ap (find (is_open_at rows)) (sym (all_behind keys)) ∙ next_is None keys rows sorted rising has

-- ---- what the index has
pub insert_lists : (key : Key) (keys : List Key) → is_listed key (insert_key key_cmp keys key) ≡ true
insert_lists key [] = rw (same_of key key refl) refl
insert_lists key (k ∷ keys) = by_order (key_cmp key k) refl (insert_lists key keys)
  where
    or_later : (a b : Bool) → b ≡ true → (a || b) ≡ true
    or_later true b e = refl
    or_later false b e = e

    by_order : (o : Ordering) → key_cmp key k ≡ o → is_listed key (insert_key key_cmp keys key) ≡ true → is_listed key (match_ordering o (key ∷ k ∷ keys) (k ∷ keys) (k ∷ insert_key key_cmp keys key)) ≡ true
    by_order Less e more = rw (same_of key key refl) refl
    by_order Equal e more = rw e refl
    by_order Greater e more = or_later (same_key key k) (is_listed key (insert_key key_cmp keys key)) more

pub insert_grows : (key : Key) (keys : List Key) → IsGrown keys (insert_key key_cmp keys key)
insert_grows key [] q e = absurd (false≢true e)
insert_grows key (k ∷ keys) q e = by_order (key_cmp key k) e (insert_grows key keys q)
  where
    by_test : (a : Bool) → (a || is_listed q keys) ≡ true → (is_listed q keys ≡ true → is_listed q (insert_key key_cmp keys key) ≡ true) → (a || is_listed q (insert_key key_cmp keys key)) ≡ true
    by_test true e more = refl
    by_test false e more = more e

    or_later : (a b : Bool) → b ≡ true → (a || b) ≡ true
    or_later true b e = refl
    or_later false b e = e

    by_order : (o : Ordering) → is_listed q (k ∷ keys) ≡ true → (is_listed q keys ≡ true → is_listed q (insert_key key_cmp keys key) ≡ true) →
        is_listed q (match_ordering o (key ∷ k ∷ keys) (k ∷ keys) (k ∷ insert_key key_cmp keys key)) ≡ true
    by_order Less e more = or_later (same_key q key) (is_listed q (k ∷ keys)) e
    by_order Equal e more = e
    by_order Greater e more = by_test (same_key q k) e more

-- where a key is dropped the others stay
pub remove_keeps : (key : Key) (keys : List Key) (other : Key) → other ≢ key → is_listed other keys ≡ true → is_listed other (remove_key (is_at (key_cmp key)) keys) ≡ true
remove_keeps key [] other ne e = e
remove_keeps key (k ∷ keys) other ne e = by_test (same_key key k) refl (remove_keeps key keys other ne)
  where
    or_more : (a b c : Bool) → (a || b) ≡ true → (b ≡ true → c ≡ true) → (a || c) ≡ true
    or_more true b c at more = refl
    or_more false b c at more = more at

    by_test : (b : Bool) → same_key key k ≡ b → (is_listed other keys ≡ true → is_listed other (remove_key (is_at (key_cmp key)) keys) ≡ true) →
        is_listed other (cond b keys (k ∷ remove_key (is_at (key_cmp key)) keys)) ≡ true
    by_test true at more = ap (λ (c : Bool). c || is_listed other keys) (sym (same_not other k (λ s. ne (s ∙ sym (same_true key k at))))) ∙ e
    by_test false at more = or_more (same_key other k) (is_listed other keys) (is_listed other (remove_key (is_at (key_cmp key)) keys)) e more

-- keys of rows that are not open may be dropped
filter_keeps : (p : Key → Bool) (key : Key) (keys : List Key) → p key ≡ true → is_listed key keys ≡ true → is_listed key (filter p keys) ≡ true
filter_keeps p key [] holds e = e
filter_keeps p key (k ∷ keys) holds e = by_test (same_key key k) refl (p k) refl e (filter_keeps p key keys holds)
  where
    or_later : (a b : Bool) → b ≡ true → (a || b) ≡ true
    or_later true b e = refl
    or_later false b e = e

    by_test : (a : Bool) → same_key key k ≡ a → (b : Bool) → p k ≡ b → (a || is_listed key keys) ≡ true → (is_listed key keys ≡ true → is_listed key (filter p keys) ≡ true) →
        is_listed key (cond b (k ∷ filter p keys) (filter p keys)) ≡ true
    by_test true at true pk e more = ap (λ (c : Bool). c || is_listed key (filter p keys)) at
    by_test true at false pk e more = absurd (false≢true (sym pk ∙ ap p (sym (same_true key k at)) ∙ holds))
    by_test false at true pk e more = or_later (same_key key k) (is_listed key (filter p keys)) (more e)
    by_test false at false pk e more = more e

pub closed_dropped : (keys new : List Key) (rows : Rows) → new ≡ filter (is_open_at rows) keys → HasOpen keys rows → HasOpen new rows
closed_dropped keys new rows is has key row found is_open = subst (λ (l : List Key). is_listed key l ≡ true) (sym is)
    (filter_keeps (is_open_at rows) key keys (ap (λ (o : Option Row). not (is_valid (unwrap_or o first_row).state)) found ∙ ap not is_open) (has key row found is_open))

pub has_none : (keys : List Key) (rows : Rows) → rows ≡ [] → HasOpen keys rows
has_none keys rows none key row found is_open = absurd (none-some row (sym (ap (find_row key) none) ∙ found))

-- a row is put whose key was listed if it is open
pub has_with : (keys new : List Key) (rows after : Rows) (key : Key) (row : Row) → after ≡ with_row key row rows → IsGrown keys new → (is_valid row.state ≡ false → is_listed key new ≡ true) → HasOpen keys rows → HasOpen new after
has_with keys new rows after key row put grown listed has = subst (HasOpen new) (sym put) (by_touched (is_touched row))
  where
    of_some : (x y : Row) → Some x ≡ Some y → x ≡ y
    of_some x y e = grind arith

    by_touched : (b : Bool) → HasOpen new (cond b (put_row key row rows) rows)
    by_touched false k r found is_open = grown k (has k r found is_open)
    by_touched true k r found is_open = ⊎_elim
        (λ (at : k ≡ key).
        let same : row ≡ r = of_some row r (sym (find-put_same key row rows) ∙ ap (λ (q : Key). find_row q (put_row key row rows)) (sym at) ∙ found) in
        subst (λ (q : Key). is_listed q new ≡ true) (sym at) (listed (ap (λ (x : Row). is_valid x.state) same ∙ is_open)))
        (λ (ne : k ≢ key). grown k (has k r (sym (find-put_other k key row rows ne) ∙ found) is_open))
        (cases_key k key)

pub has_grown : (keys new : List Key) (rows : Rows) → IsGrown keys new → HasOpen keys rows → HasOpen new rows
has_grown keys new rows grown has key row found is_open = grown key (has key row found is_open)

-- rows are put in their places whose keys were listed if they are open
pub has_over : (keys new : List Key) (changes rows : Rows) → Rising changes → IsGrown keys new → HasOpen new changes → HasOpen keys rows → HasOpen new (put_rows changes rows)
has_over keys new changes rows rising grown listed has key row found is_open = by_change (find_row key changes) refl (sym (find_over changes rows rising key) ∙ found)
  where
    by_change : (o : Option Row) → find_row key changes ≡ o → option_or o (find_row key rows) ≡ Some row → is_listed key new ≡ true
    by_change None e at = grown key (has key row at is_open)
    by_change (Some r) e at = listed key row (e ∙ at) is_open

-- ---- rows that are listed one after the other
abbrev pub ListsUpTo : List Key → Rows → Rows → Type 0
ListsUpTo keys rows left = (key : Key) (row : Row) → find_row key rows ≡ Some row → is_valid row.state ≡ false → (is_listed key keys ≡ true) ⊎ (find_row key left ≡ Some row)

pub lists_first : (keys : List Key) (rows left : Rows) → left ≡ rows → ListsUpTo keys rows left
lists_first keys rows left is key row found is_open = inr (ap (find_row key) is ∙ found)

pub lists_next : (keys new : List Key) (rows left rest : Rows) (key : Key) (row : Row) → left ≡ (key, row) ∷ rest → IsGrown keys new → (is_valid row.state ≡ false → is_listed key new ≡ true) →
    ListsUpTo keys rows left → ListsUpTo new rows rest
lists_next keys new rows left rest key row is grown listed upto k r found is_open = ⊎_elim
    (λ (l : is_listed k keys ≡ true). inl (grown k l))
    (λ (l : find_row k left ≡ Some r). by_test (same_key k key) refl (sym (ap (find_row k) is) ∙ l))
    (upto k r found is_open)
  where
    of_some : (x y : Row) → Some x ≡ Some y → x ≡ y
    of_some x y e = grind arith

    by_test : (b : Bool) → same_key k key ≡ b → cond b (Some row) (find_row k rest) ≡ Some r → (is_listed k new ≡ true) ⊎ (find_row k rest ≡ Some r)
    by_test false e at = inr at
    by_test true e at = inl (subst (λ (q : Key). is_listed q new ≡ true) (sym (same_true k key e)) (listed (ap (λ (x : Row). is_valid x.state) (of_some row r at) ∙ is_open)))

pub lists_all : (keys : List Key) (rows left : Rows) → left ≡ [] → ListsUpTo keys rows left → HasOpen keys rows
lists_all keys rows left none upto key row found is_open = ⊎_elim (λ (l : is_listed key keys ≡ true). l)
    (λ (l : find_row key left ≡ Some row). absurd (none-some row (sym (ap (find_row key) none) ∙ l))) (upto key row found is_open)

pub grown_trans : (a b c : List Key) → IsGrown a b → IsGrown b c → IsGrown a c
grown_trans a b c p q key e = q key (p key e)

-- ---- a view that is installed, by the index
abbrev pub AtRest : Rows → Type 0
AtRest rows = AllByRecursion (λ (r : Entry). is_valid r.1.state ≡ true → r.1.pending ≡ None) rows

-- no update is pending at a Valid row
pub valid_rests : (me : NodeId) (members : List NodeId) (rows : Rows) → AllByRecursion (λ (r : Entry). IsSound me members r.1) rows → AtRest rows
valid_rests me members [] all = tt
valid_rests me members (r ∷ rows) all = (by_state r.1.state r.1.pending all.0.holds, valid_rests me members rows all.1)
  where
    by_state : (s : State) (o : Option Pending) → Holds s o r.1.stamp → is_valid s ≡ true → o ≡ None
    by_state Valid o h e = h
    by_state Invalid o h e = absurd (false≢true e)
    by_state Write o h e = absurd (false≢true e)
    by_state Replay o h e = absurd (false≢true e)
    by_state Trans o h e = absurd (false≢true e)

pub fit_found : (key : Key) (rows : Rows) (row : Row) → AllByRecursion IsFitRow rows → find_row key rows ≡ Some row → IsFitRow (key, row)
fit_found key [] row all e = absurd (none-some row e)
fit_found key (r ∷ rows) row all e = by_test (same_key key r.0) e (fit_found key rows row all.1)
  where
    of_some : (x y : Row) → Some x ≡ Some y → x ≡ y
    of_some x y e = grind arith

    by_test : (b : Bool) → cond b (Some r.1) (find_row key rows) ≡ Some row → (find_row key rows ≡ Some row → IsFitRow (key, row)) → IsFitRow (key, row)
    by_test true at more = subst (λ (x : Row). IsFitRow (key, x)) (of_some r.1 row at) (record { row = all.0.row; pending = all.0.pending })
    by_test false at more = more at

pub if_as : {A X E : Type 0} (r : Result A E) (g : A → X) (a b : X) → a ≡ b → IfOk r (λ v. g v ≡ a) → IfOk r (λ v. g v ≡ b)
if_as (Ok v) g a b same h = h ∙ same
if_as (Err e) g a b same h = tt

module _ (id : NodeId) (view : View) where
  still_is : (r : Entry) → r.1.pending ≡ None → view_done id view r ≡ still r.1
  still_is r e = ap (λ (o : Option Pending). on_view_at o id view.members r.1) e

  rests : {X : Type 0} (f : Entry → List X) → ((r : Entry) → r.1.pending ≡ None → f r ≡ []) → (rows : Rows) → AtRest rows → AllByRecursion (λ (r : Entry). is_valid r.1.state ≡ true → f r ≡ []) rows
  rests f none [] all = tt
  rests f none (r ∷ rows) all = ((λ e. none r (all.0 e)), rests f none rows all.1)

  letters_none : (r : Entry) → r.1.pending ≡ None → view_letters id view r ≡ []
  letters_none r e = ap (λ (d : Done). sent (at_view id view) r.0 d.row d.out.send) (still_is r e)

  told_none : (r : Entry) → r.1.pending ≡ None → view_told id view r ≡ []
  told_none r e = ap (λ (d : Done). told_of r.0 d.out.reply) (still_is r e)

  new_none : (r : Entry) → r.1.pending ≡ None → view_new id view r ≡ []
  new_none r e = ap (λ (d : Done). cond (is_same_row r.1 d.row) [] (record { key = r.0; row = Some d.row } ∷ [])) (still_is r e)
      ∙ ap (λ (b : Bool). cond b [] (record { key = r.0; row = Some r.1 } ∷ [])) (each_is_same r.1)

  old_none : (r : Entry) → r.1.pending ≡ None → view_old id view r ≡ []
  old_none r e = ap (λ (d : Done). cond (is_same_row r.1 d.row) [] (record { key = r.0; row = Some r.1 } ∷ [])) (still_is r e)
      ∙ ap (λ (b : Bool). cond b [] (record { key = r.0; row = Some r.1 } ∷ [])) (each_is_same r.1)

  module _ (keys : List Key) (rows : Rows) (sorted : Sorted keys) (rising : Rising rows) (has : HasOpen keys rows) (at_rest : AtRest rows) where
    pub letters_walk : flat_map (at_key (view_letters id view) rows) keys ≡ flat_map (view_letters id view) rows
    letters_walk = walk_open (view_letters id view) keys rows sorted rising has (rests (view_letters id view) letters_none rows at_rest)

    pub told_walk : flat_map (at_key (view_told id view) rows) keys ≡ flat_map (view_told id view) rows
    told_walk = walk_open (view_told id view) keys rows sorted rising has (rests (view_told id view) told_none rows at_rest)

    pub new_walk : flat_map (at_key (view_new id view) rows) keys ≡ flat_map (view_new id view) rows
    new_walk = walk_open (view_new id view) keys rows sorted rising has (rests (view_new id view) new_none rows at_rest)

    pub old_walk : flat_map (at_key (view_old id view) rows) keys ≡ flat_map (view_old id view) rows
    old_walk = walk_open (view_old id view) keys rows sorted rising has (rests (view_old id view) old_none rows at_rest)

  -- a view opens no row
  pub has_viewed : (keys : List Key) (rows after : Rows) → after ≡ map (λ (r : Entry). (r.0, (on_view id view.members r.1).row)) rows → AtRest rows → HasOpen keys rows → HasOpen keys after
  has_viewed keys rows after is at_rest has key row found is_open = by_found (find_row key rows) refl (sym (ap (find_row key) is ∙ row_mapped step key rows) ∙ found) (holds_found Rests key rows at_rest)
    where
      step : Row → Row
      step r = (on_view id view.members r).row

      Rests : Row → Type 0
      Rests r = is_valid r.state ≡ true → r.pending ≡ None

      of_some : (x y : Row) → Some x ≡ Some y → x ≡ y
      of_some x y e = grind arith

      by_state : (r : Row) → find_row key rows ≡ Some r → step r ≡ row → (b : Bool) → is_valid r.state ≡ b → Rests r → is_listed key keys ≡ true
      by_state r at made false e rests = has key r at e
      by_state r at made true e rests =
          let same : step r ≡ r = ap (λ (o : Option Pending). (on_view_at o id view.members r).row) (rests e) in
          absurd (false≢true (sym is_open ∙ ap (λ (x : Row). is_valid x.state) (sym made ∙ same) ∙ e))

      by_found : (o : Option Row) → find_row key rows ≡ o → option_map step o ≡ Some row → IfSome o Rests → is_listed key keys ≡ true
      by_found None at made rests = absurd (none-some row made)
      by_found (Some r) at made rests = by_state r at (of_some (step r) row made) (is_valid r.state) refl rests

-- ---- the rows of a node as its fields have it
pub kept_rows : (inside node : NodeState) (key : Key) (row : Row) (after : Rows) → inside ≡ node → IsNode (record node { rows = with_row key row node.rows }) → after ≡ with_row key row inside.rows →
    IsNode (record inside { rows = after })
kept_rows inside node key row after same ok put = subst (λ (l : Rows). IsNode (record inside { rows = l })) (sym put)
    (subst (λ (n : NodeState). IsNode (record n { rows = with_row key row n.rows })) (sym same) ok)
