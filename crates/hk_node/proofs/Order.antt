-- The order of keys, and rows by key: what a put does to the row of its key, to those of others, and to all rows.
use Rattle.std.proofs.Common.{◌≡◌, ◌⊎◌, ◌≢◌, ℕ, List, [], ◌∷◌, Bool, true, false, cond, Option, Some, None, IfSome, unwrap_or, refl, sym, ap, ◌∙◌, inl, inr, subst, ⊎_elim, arith}
use Rattle.std.specs.Ordering.{match_ordering, is_eq, ordering_reverse}
use Rattle.std.specs.declared.cmp.Ordering.{Ordering}
use Rattle.std.specs.declared.cmp.Ordering.TheVariants.{Less, Equal, Greater}
use Rattle.std.specs.BTreeMap.{is_at}
use Rattle.std.specs.Map.{keys_of}
use Rattle.std.specs.List.{AllByRecursion}
use Rattle.std.specs.List.Sorted.{IsStrictlySortedBy}
use Rattle.std.proofs.lemmas.Map.Text.{is_eq-slice_cmp}
use Rattle.std.proofs.lemmas.Slice.Eq.{bytes_eq-Decides}
use Rattle.std.proofs.lemmas.Bool.{false≢true}
use Rattle.std.proofs.lemmas.Cmp.{nat_list_cmp_total, tied_itself}
use Rattle.std.proofs.lemmas.Option.{none-some}
use Rattle.hk_copy.specs.Batches.{key_cmp}
use Rattle.hk_key.specs.declared.row.Row.{Row}
use Rattle.hk_key.specs.Table.{first_row}
use Rattle.hk_key.specs.Same.{is_same_row}
use Rattle.hk_node.specs.Rows.{Rows, find_row, row_at, put_row, is_touched, with_row}
use Rattle.hk_node.specs.Report.{IsMade}

abbrev pub Key : Type 0
Key = List ℕ

pub equal_keys : (a b : Key) → key_cmp a b ≡ Equal → a ≡ b
equal_keys a b e = (bytes_eq-Decides a b).0 (sym (is_eq-slice_cmp a b) ∙ ap is_eq e)

pub key_itself : (a : Key) → key_cmp a a ≡ Equal
key_itself a = tied_itself nat_list_cmp_total a

-- the test by which a row is found
abbrev pub same_key : Key → Key → Bool
same_key a b = is_at (key_cmp a) b

pub same_true : (a b : Key) → same_key a b ≡ true → a ≡ b
same_true a b e = (bytes_eq-Decides a b).0 (sym (is_eq-slice_cmp a b) ∙ e)

pub same_of : (a b : Key) → a ≡ b → same_key a b ≡ true
same_of a b e = subst (λ (k : Key). same_key a k ≡ true) e (ap is_eq (key_itself a))

pub same_not : (a b : Key) → a ≢ b → same_key a b ≡ false
same_not a b ne = by_test (same_key a b) refl
  where
    by_test : (c : Bool) → same_key a b ≡ c → c ≡ false
    by_test true e = absurd (ne (same_true a b e))
    by_test false e = refl

pub cases_key : (a b : Key) → (a ≡ b) ⊎ (a ≢ b)
cases_key a b = by_test (same_key a b) refl
  where
    by_test : (c : Bool) → same_key a b ≡ c → (a ≡ b) ⊎ (a ≢ b)
    by_test true e = inl (same_true a b e)
    by_test false e = inr (λ is. false≢true (sym e ∙ same_of a b is))

abbrev pub Lt : Key → Key → Type 0
Lt a b = key_cmp a b ≡ Less

pub lt_trans : (a b c : Key) → Lt a b → Lt b c → Lt a c
lt_trans a b c p q = nat_list_cmp_total.trans a b c p q

pub lt_ne : (a b : Key) → Lt a b → a ≢ b
lt_ne a b l e = clash (sym (subst (λ (k : Key). key_cmp a k ≡ Less) (sym e) l) ∙ key_itself a)
  where
    clash : Less ≡ Equal → ⊥
    clash e = cc

pub lt_ne_back : (a b : Key) → Lt a b → b ≢ a
lt_ne_back a b l e = lt_ne a b l (sym e)

pub gt_lt : (a b : Key) → key_cmp a b ≡ Greater → Lt b a
gt_lt a b g = nat_list_cmp_total.antisymm b a ∙ ap ordering_reverse g

-- ---- the row that is found
pub find_here : (key : Key) (r : Key × Row) (rs : Rows) → key ≡ r.0 → find_row key (r ∷ rs) ≡ Some r.1
find_here key r rs e = rw (same_of key r.0 e) refl

pub find_next : (key : Key) (r : Key × Row) (rs : Rows) → key ≢ r.0 → find_row key (r ∷ rs) ≡ find_row key rs
find_next key r rs ne = rw (same_not key r.0 ne) refl

pub find-put_same : (key : Key) (row : Row) (rs : Rows) → find_row key (put_row key row rs) ≡ Some row
find-put_same key row [] = find_here key (key, row) [] refl
find-put_same key row (r ∷ rs) = by_order (key_cmp key r.0) refl (find-put_same key row rs)
  where
    by_order : (o : Ordering) → key_cmp key r.0 ≡ o → find_row key (put_row key row rs) ≡ Some row → find_row key (match_ordering o ((key, row) ∷ r ∷ rs) ((r.0, row) ∷ rs) (r ∷ put_row key row rs)) ≡ Some row
    by_order Less e more = find_here key (key, row) (r ∷ rs) refl
    by_order Equal e more = find_here key (r.0, row) rs (equal_keys key r.0 e)
    by_order Greater e more = find_next key r (put_row key row rs) (lt_ne_back r.0 key (gt_lt key r.0 e)) ∙ more

pub find-put_other : (key k : Key) (row : Row) (rs : Rows) → key ≢ k → find_row key (put_row k row rs) ≡ find_row key rs
find-put_other key k row [] ne = find_next key (k, row) [] ne
find-put_other key k row (r ∷ rs) ne = by_order (key_cmp k r.0) refl (find-put_other key k row rs ne)
  where
    past : find_row key (put_row k row rs) ≡ find_row key rs → find_row key (r ∷ put_row k row rs) ≡ find_row key (r ∷ rs)
    past more = ⊎_elim
        (λ (e : key ≡ r.0). find_here key r (put_row k row rs) e ∙ sym (find_here key r rs e))
        (λ (d : key ≢ r.0). find_next key r (put_row k row rs) d ∙ (more ∙ sym (find_next key r rs d))) (cases_key key r.0)

    by_order : (o : Ordering) → key_cmp k r.0 ≡ o → find_row key (put_row k row rs) ≡ find_row key rs → find_row key (match_ordering o ((k, row) ∷ r ∷ rs) ((r.0, row) ∷ rs) (r ∷ put_row k row rs)) ≡ find_row key (r ∷ rs)
    by_order Less e more = find_next key (k, row) (r ∷ rs) ne
    by_order Equal e more =
        let other : key ≢ r.0 = λ s. ne (s ∙ sym (equal_keys k r.0 e)) in
        find_next key (r.0, row) rs other ∙ sym (find_next key r rs other)
    by_order Greater e more = past more

-- what holds of each row holds of the one that is found
pub holds_found : (P : Row → Type 0) (key : Key) (rs : Rows) → AllByRecursion (λ (r : Key × Row). P r.1) rs → IfSome (find_row key rs) P
holds_found P key [] all = tt
holds_found P key (r ∷ rs) all = by_test (same_key key r.0) (holds_found P key rs all.1)
  where
    by_test : (b : Bool) → IfSome (find_row key rs) P → IfSome (cond b (Some r.1) (find_row key rs)) P
    by_test true more = all.0
    by_test false more = more

pub holds_at : (P : Row → Type 0) (key : Key) (rs : Rows) → P first_row → AllByRecursion (λ (r : Key × Row). P r.1) rs → P (row_at key rs)
holds_at P key rs first all = by_found (find_row key rs) (holds_found P key rs all)
  where
    by_found : (o : Option Row) → IfSome o P → P (unwrap_or o first_row)
    by_found None h = first
    by_found (Some row) h = h

-- ---- all rows, and their order, after a put
pub all_put : (P : Row → Type 0) (key : Key) (row : Row) (rs : Rows) → P row → AllByRecursion (λ (r : Key × Row). P r.1) rs → AllByRecursion (λ (r : Key × Row). P r.1) (put_row key row rs)
all_put P key row [] h all = (h, tt)
all_put P key row (r ∷ rs) h all = by_order (key_cmp key r.0) (all_put P key row rs h all.1)
  where
    by_order : (o : Ordering) → AllByRecursion (λ (r : Key × Row). P r.1) (put_row key row rs) →
        AllByRecursion (λ (r : Key × Row). P r.1) (match_ordering o ((key, row) ∷ r ∷ rs) ((r.0, row) ∷ rs) (r ∷ put_row key row rs))
    by_order Less more = (h, all)
    by_order Equal more = (h, all.1)
    by_order Greater more = (all.0, more)

abbrev Above : Key → Rows → Type 0
Above low rs = AllByRecursion (λ (k : Key). Lt low k) (keys_of rs)

above_put : (low key : Key) (row : Row) (rs : Rows) → Lt low key → Above low rs → Above low (put_row key row rs)
above_put low key row [] lt all = (lt, tt)
above_put low key row (r ∷ rs) lt all = by_order (key_cmp key r.0) (above_put low key row rs lt all.1)
  where
    by_order : (o : Ordering) → Above low (put_row key row rs) → Above low (match_ordering o ((key, row) ∷ r ∷ rs) ((r.0, row) ∷ rs) (r ∷ put_row key row rs))
    by_order Less more = (lt, all)
    by_order Equal more = all
    by_order Greater more = (all.0, more)

above_less : (low high : Key) (rs : Rows) → Lt low high → Above high rs → Above low rs
above_less low high [] lt all = tt
above_less low high (r ∷ rs) lt all = (lt_trans low high r.0 lt all.0, above_less low high rs lt all.1)

abbrev pub Rising : Rows → Type 0
Rising rs = IsStrictlySortedBy key_cmp (keys_of rs)

pub rising_put : (key : Key) (row : Row) (rs : Rows) → Rising rs → Rising (put_row key row rs)
unfolding IsStrictlySortedBy
rising_put key row [] rising = (tt, tt)
rising_put key row (r ∷ rs) rising = by_order (key_cmp key r.0) refl (rising_put key row rs rising.1)
  where
    by_order : (o : Ordering) → key_cmp key r.0 ≡ o → Rising (put_row key row rs) → Rising (match_ordering o ((key, row) ∷ r ∷ rs) ((r.0, row) ∷ rs) (r ∷ put_row key row rs))
    by_order Less e more = ((e, above_less key r.0 rs e rising.0), rising)
    by_order Equal e more = rising
    by_order Greater e more = (above_put r.0 key row rs (gt_lt key r.0 e) rising.0, more)

-- where the row that stands there is put, nothing changes
pub put_there : (key : Key) (row : Row) (rs : Rows) → Rising rs → find_row key rs ≡ Some row → put_row key row rs ≡ rs
unfolding IsStrictlySortedBy
put_there key row [] rising there = absurd (none-some row there)
put_there key row (r ∷ rs) rising there = by_order (key_cmp key r.0) refl there (put_there key row rs rising.1)
  where
    nothing_above : (k : Key) (l : Rows) → Above k l → find_row k l ≡ None
    nothing_above k [] all = refl
    nothing_above k (x ∷ l) all = find_next k x l (lt_ne k x.0 all.0) ∙ nothing_above k l all.1

    by_order : (o : Ordering) → key_cmp key r.0 ≡ o → cond (is_eq o) (Some r.1) (find_row key rs) ≡ Some row → (find_row key rs ≡ Some row → put_row key row rs ≡ rs) →
        match_ordering o ((key, row) ∷ r ∷ rs) ((r.0, row) ∷ rs) (r ∷ put_row key row rs) ≡ r ∷ rs
    by_order Less e at more = absurd (none-some row (sym (nothing_above key rs (above_less key r.0 rs e rising.0)) ∙ at))
    by_order Equal e at more =
        let same : r.1 ≡ row = grind arith in
        ap (λ x. (r.0, x) ∷ rs) (sym same)
    by_order Greater e at more = ap (λ l. r ∷ l) (more at)

-- ---- the same with a row that is put if it is touched
pub all_with : (P : Row → Type 0) (key : Key) (row : Row) (rs : Rows) → P row → AllByRecursion (λ (r : Key × Row). P r.1) rs → AllByRecursion (λ (r : Key × Row). P r.1) (with_row key row rs)
all_with P key row rs h all = by_test (is_touched row)
  where
    by_test : (b : Bool) → AllByRecursion (λ (r : Key × Row). P r.1) (cond b (put_row key row rs) rs)
    by_test false = all
    by_test true = all_put P key row rs h all

abbrev pub AreTouched : Rows → Type 0
AreTouched rs = AllByRecursion (λ (r : Key × Row). is_touched r.1 ≡ true) rs

pub touched_with : (key : Key) (row : Row) (rs : Rows) → AreTouched rs → AreTouched (with_row key row rs)
touched_with key row rs all = by_test (is_touched row) refl
  where
    by_test : (b : Bool) → is_touched row ≡ b → AreTouched (cond b (put_row key row rs) rs)
    by_test false e = all
    by_test true e = all_put (λ r. is_touched r ≡ true) key row rs e all

pub rising_with : (key : Key) (row : Row) (rs : Rows) → Rising rs → Rising (with_row key row rs)
rising_with key row rs rising = by_test (is_touched row)
  where
    by_test : (b : Bool) → Rising (cond b (put_row key row rs) rs)
    by_test false = rising
    by_test true = rising_put key row rs rising

pub find-with_other : (key k : Key) (row : Row) (rs : Rows) → key ≢ k → find_row key (with_row k row rs) ≡ find_row key rs
find-with_other key k row rs ne = by_test (is_touched row)
  where
    by_test : (b : Bool) → find_row key (cond b (put_row k row rs) rs) ≡ find_row key rs
    by_test false = refl
    by_test true = find-put_other key k row rs ne

pub row-with_other : (key k : Key) (row : Row) (rs : Rows) → key ≢ k → row_at key (with_row k row rs) ≡ row_at key rs
row-with_other key k row rs ne = ap (λ (o : Option Row). unwrap_or o first_row) (find-with_other key k row rs ne)

-- a row that is touched is put
pub with_touched : (key : Key) (row : Row) (rs : Rows) → is_touched row ≡ true → with_row key row rs ≡ put_row key row rs
with_touched key row rs e = ap (λ (b : Bool). cond b (put_row key row rs) rs) e

pub row-with_touched : (key : Key) (row : Row) (rs : Rows) → is_touched row ≡ true → row_at key (with_row key row rs) ≡ row
row-with_touched key row rs e = ap (row_at key) (with_touched key row rs e) ∙ ap (λ (o : Option Row). unwrap_or o first_row) (find-put_same key row rs)

-- THE LAW OF A PUT: the row that stands there may be left alone
pub with_itself : (key : Key) (rs : Rows) → Rising rs → with_row key (row_at key rs) rs ≡ rs
with_itself key rs rising = by_found (find_row key rs) refl
  where
    by_found : (o : Option Row) → find_row key rs ≡ o → with_row key (unwrap_or o first_row) rs ≡ rs
    by_found None e = refl
    by_found (Some row) e = by_test (is_touched row)
      where
        by_test : (b : Bool) → cond b (put_row key row rs) rs ≡ rs
        by_test false = refl
        by_test true = put_there key row rs rising e

-- a row that a step made is put where it differs from the one that stands there
pub with_made : (key : Key) (row : Row) (rs : Rows) → Rising rs → IsMade rs key row → with_row key row rs ≡ cond (is_same_row (row_at key rs) row) rs (put_row key row rs)
with_made key row rs rising made = by_test (is_same_row (row_at key rs) row) refl
  where
    by_test : (b : Bool) → is_same_row (row_at key rs) row ≡ b → with_row key row rs ≡ cond b rs (put_row key row rs)
    by_test true e = ap (λ (r : Row). with_row key r rs) (made.same e) ∙ with_itself key rs rising
    by_test false e = with_touched key row rs (made.touched e)

pub with_stays : (key : Key) (row : Row) (rs : Rows) → Rising rs → IsMade rs key row → is_same_row (row_at key rs) row ≡ true → with_row key row rs ≡ rs
with_stays key row rs rising made same = with_made key row rs rising made ∙ ap (λ (b : Bool). cond b rs (put_row key row rs)) same

pub row-with_made : (key : Key) (row : Row) (rs : Rows) → IsMade rs key row → row_at key (with_row key row rs) ≡ row
row-with_made key row rs made = by_touched (is_touched row) refl
  where
    by_same : (b : Bool) → is_same_row (row_at key rs) row ≡ b → is_touched row ≡ false → row_at key rs ≡ row
    by_same true e t = sym (made.same e)
    by_same false e t = absurd (false≢true (sym t ∙ made.touched e))

    by_touched : (b : Bool) → is_touched row ≡ b → row_at key (cond b (put_row key row rs) rs) ≡ row
    by_touched true e = ap (λ (o : Option Row). unwrap_or o first_row) (find-put_same key row rs)
    by_touched false e = by_same (is_same_row (row_at key rs) row) refl e

-- where no row is touched, none is there
pub untouched_none : (key : Key) (rs : Rows) → AreTouched rs → is_touched (row_at key rs) ≡ false → row_at key rs ≡ first_row
untouched_none key rs all e = by_found (find_row key rs) (holds_found (λ r. is_touched r ≡ true) key rs all) e
  where
    by_found : (o : Option Row) → IfSome o (λ r. is_touched r ≡ true) → is_touched (unwrap_or o first_row) ≡ false → unwrap_or o first_row ≡ first_row
    by_found None t f = refl
    by_found (Some row) t f = absurd (false≢true (sym f ∙ t))
