-- Rows by key after one is put in its place or taken away, and what a step of one row replaces.
use Rattle.std.proofs.Common.{◌≡◌, ◌≢◌, [], ◌∷◌, Bool, true, false, cond, Option, Some, None, unwrap_or, refl, sym, ap, ◌∙◌, arith, subst}
use Rattle.std.specs.Option.{is_some, IsSome}
use Rattle.std.specs.Ordering.{match_ordering, is_eq}
use Rattle.std.specs.declared.cmp.Ordering.{Ordering}
use Rattle.std.specs.declared.cmp.Ordering.TheVariants.{Less, Equal, Greater}
use Rattle.std.specs.BTreeMap.{is_at}
use Rattle.std.specs.Map.{set_value, remove_entry, keys_of}
use Rattle.std.specs.List.{AllByRecursion, list_any}
use Rattle.std.specs.List.Sorted.{IsStrictlySortedBy}
use Rattle.std.proofs.lemmas.Map.{lookup-none}
use Rattle.std.proofs.lemmas.Map.Entries.{none_below_head}
use Rattle.std.proofs.lemmas.Map.Keys.{sorted_head, sorted_tail}
use Rattle.std.proofs.lemmas.Bool.{false≢true}
use Rattle.std.proofs.lemmas.Option.{none-some}
use Rattle.std.proofs.lemmas.Cmp.{nat_list_cmp_total}
use Rattle.hk_copy.specs.Batches.{key_cmp}
use Rattle.hk_key.specs.declared.row.Row.{Row}
use Rattle.hk_key.specs.Table.{first_row}
use Rattle.hk_key.specs.Same.{is_same_row}
use Rattle.hk_node.specs.declared.report.PriorRow.{PriorRow}
use Rattle.hk_node.specs.Rows.{Rows, find_row, row_at, put_row, with_row}
use Rattle.hk_node.specs.Report.{AreChanged, IsMade, row_rolled_back, rows_rolled_back, changed_by}
use Rattle.hk_node.proofs.Order.{Key, same_key, Lt, Rising, same_true, same_of, lt_ne_back, find_here, find_next, find-put_same, find-put_other, with_made}

none_there : {X : Type 0} (o : Option X) → o ≡ None → IsSome o → ⊥
none_there o none there = false≢true (sym (ap is_some none) ∙ there)

some_there : {X : Type 0} (o : Option X) (x : X) → o ≡ Some x → IsSome o
some_there o x e = ap is_some e

-- where a key is below the first, it is not there
pub below_first : (key : Key) (r : Key × Row) (rs : Rows) → Rising (r ∷ rs) → key_cmp key r.0 ≡ Less → find_row key (r ∷ rs) ≡ None
below_first key r rs sorted e = lookup-none (is_at (key_cmp key)) (r ∷ rs) (none_below_head nat_list_cmp_total key r rs sorted e)

found_past : (x : Key × Row) (ys cs : Rows) → AllByRecursion (λ (q : Key). Lt x.0 q) (keys_of ys) → AllByRecursion (λ c. find_row c.0 cs ≡ Some c.1) ys →
    AllByRecursion (λ c. find_row c.0 (x ∷ cs) ≡ Some c.1) ys
found_past x [] cs above all = tt
found_past x (y ∷ ys) cs above all = (find_next y.0 x cs (lt_ne_back x.0 y.0 above.0) ∙ all.0, found_past x ys cs above.1 all.1)

-- each is found
pub each_found : (cs : Rows) → Rising cs → AllByRecursion (λ c. find_row c.0 cs ≡ Some c.1) cs
each_found [] rising = tt
each_found (c ∷ cs) rising = (find_here c.0 c cs refl, found_past c cs cs (sorted_head key_cmp c.0 (keys_of cs) rising) (each_found cs (sorted_tail key_cmp c.0 (keys_of cs) rising)))

-- a row that is set where its key stands is put
pub set_is_put : (key : Key) (row : Row) (rs : Rows) → Rising rs → IsSome (find_row key rs) → set_value (is_at (key_cmp key)) rs row ≡ put_row key row rs
set_is_put key row [] sorted there = absurd (false≢true there)
set_is_put key row (r ∷ rs) sorted there = by_order (key_cmp key r.0) refl there (set_is_put key row rs (sorted_tail key_cmp r.0 (keys_of rs) sorted))
  where
    by_order : (o : Ordering) → key_cmp key r.0 ≡ o → IsSome (cond (is_eq o) (Some r.1) (find_row key rs)) →
        (IsSome (find_row key rs) → set_value (is_at (key_cmp key)) rs row ≡ put_row key row rs) →
        cond (is_eq o) ((r.0, row) ∷ rs) (r ∷ set_value (is_at (key_cmp key)) rs row) ≡ match_ordering o ((key, row) ∷ r ∷ rs) ((r.0, row) ∷ rs) (r ∷ put_row key row rs)
    by_order Less e at more = absurd (none_there (find_row key (r ∷ rs)) (below_first key r rs sorted e) there)
    by_order Equal e at more = refl
    by_order Greater e at more = ap (λ l. r ∷ l) (more at)

-- what other keys have where one is taken away
pub find-remove_other : (key k : Key) (rs : Rows) → key ≢ k → find_row key (remove_entry (is_at (key_cmp k)) rs) ≡ find_row key rs
find-remove_other key k [] ne = refl
find-remove_other key k (r ∷ rs) ne = by_test (same_key k r.0) refl (ap (λ o. cond (same_key key r.0) (Some r.1) o) (find-remove_other key k rs ne))
  where
    by_test : (b : Bool) → same_key k r.0 ≡ b → find_row key (r ∷ remove_entry (is_at (key_cmp k)) rs) ≡ find_row key (r ∷ rs) →
        find_row key (cond b rs (r ∷ remove_entry (is_at (key_cmp k)) rs)) ≡ find_row key (r ∷ rs)
    by_test true e past = sym (find_next key r rs (λ s. ne (s ∙ sym (same_true k r.0 e))))
    by_test false e past = past

-- ---- a put that is taken back
-- a row that was put where there was none is taken away
remove_put : (key : Key) (row : Row) (rs : Rows) → find_row key rs ≡ None → remove_entry (is_at (key_cmp key)) (put_row key row rs) ≡ rs
remove_put key row [] none = taken key row []
  where
    taken : (key : Key) (row : Row) (rs : Rows) → remove_entry (is_at (key_cmp key)) ((key, row) ∷ rs) ≡ rs
    taken key row rs = rw (same_of key key refl) refl
remove_put key row (r ∷ rs) none = by_order (key_cmp key r.0) refl none (remove_put key row rs)
  where
    taken : remove_entry (is_at (key_cmp key)) ((key, row) ∷ r ∷ rs) ≡ r ∷ rs
    taken = rw (same_of key key refl) refl

    by_order : (o : Ordering) → key_cmp key r.0 ≡ o → cond (is_eq o) (Some r.1) (find_row key rs) ≡ None →
        (find_row key rs ≡ None → remove_entry (is_at (key_cmp key)) (put_row key row rs) ≡ rs) →
        remove_entry (is_at (key_cmp key)) (match_ordering o ((key, row) ∷ r ∷ rs) ((r.0, row) ∷ rs) (r ∷ put_row key row rs)) ≡ r ∷ rs
    by_order Less e at more = taken
    by_order Equal e at more = absurd (none-some r.1 (sym at))
    by_order Greater e at more = rw (ap is_eq e) (ap (λ l. r ∷ l) (more at))

-- the row that was there is put back
put_put : (key : Key) (row old : Row) (rs : Rows) → Rising rs → find_row key rs ≡ Some old → put_row key old (put_row key row rs) ≡ rs
put_put key row old [] sorted there = absurd (none-some old there)
put_put key row old (r ∷ rs) sorted there = by_order (key_cmp key r.0) refl there (put_put key row old rs (sorted_tail key_cmp r.0 (keys_of rs) sorted))
  where
    by_order : (o : Ordering) → key_cmp key r.0 ≡ o → cond (is_eq o) (Some r.1) (find_row key rs) ≡ Some old →
        (find_row key rs ≡ Some old → put_row key old (put_row key row rs) ≡ rs) →
        put_row key old (match_ordering o ((key, row) ∷ r ∷ rs) ((r.0, row) ∷ rs) (r ∷ put_row key row rs)) ≡ r ∷ rs
    by_order Less e at more = absurd (none_there (find_row key (r ∷ rs)) (below_first key r rs sorted e) (some_there (find_row key (r ∷ rs)) old there))
    by_order Equal e at more =
        let same : r.1 ≡ old = grind arith in
        rw e (ap (λ x. (r.0, x) ∷ rs) (sym same))
    by_order Greater e at more = rw e (ap (λ l. r ∷ l) (more at))

-- what a row that is put takes the place of, given back, is what was there
pub put_undone : (key : Key) (row : Row) (rs : Rows) → Rising rs → row_rolled_back key (find_row key rs) (put_row key row rs) ≡ rs
put_undone key row rs sorted = by_found (find_row key rs) refl
  where
    by_found : (o : Option Row) → find_row key rs ≡ o → row_rolled_back key o (put_row key row rs) ≡ rs
    by_found None e = remove_put key row rs e
    by_found (Some old) e = put_put key row old rs sorted e

pub made_undone : (key : Key) (row : Row) (rs : Rows) → Rising rs → IsMade rs key row → rows_rolled_back (changed_by key row rs) (with_row key row rs) ≡ rs
made_undone key row rs sorted made = ap (rows_rolled_back (changed_by key row rs)) (with_made key row rs sorted made) ∙ by_test (is_same_row (row_at key rs) row)
  where
    by_test : (b : Bool) → rows_rolled_back (cond b [] (record { key = key; row = find_row key rs } ∷ [])) (cond b rs (put_row key row rs)) ≡ rs
    by_test true = refl
    by_test false = put_undone key row rs sorted

-- ---- what a step of one row changes
pub nothing_changed : (rs : Rows) → AreChanged [] rs rs
unfolding IsStrictlySortedBy
nothing_changed rs = record { rising = tt; differ = tt; there = tt; others = λ key e. refl }

put_replaced : (key : Key) (row : Row) (rs : Rows) → is_same_row (row_at key rs) row ≡ false →
    AreChanged (record { key = key; row = find_row key rs } ∷ []) rs (put_row key row rs)
unfolding IsStrictlySortedBy
put_replaced key row rs e = record {
  rising = (tt, tt);
  differ = ((refl, ap (λ (o : Option Row). is_same_row (row_at key rs) (unwrap_or o first_row)) (find-put_same key row rs) ∙ e), tt);
  there = (some_there (find_row key (put_row key row rs)) row (find-put_same key row rs), tt);
  others = λ other apart. find-put_other other key row rs (λ s. false≢true (sym apart ∙ passes other s));
}
  where
    passes : (other : Key) → other ≡ key → list_any (λ (f : PriorRow). is_eq (key_cmp other f.key)) (record { key = key; row = find_row key rs } ∷ []) ≡ true
    passes other s = rw (same_of other key s) refl

pub made_changed : (key : Key) (row : Row) (rs : Rows) → Rising rs → IsMade rs key row → AreChanged (changed_by key row rs) rs (with_row key row rs)
made_changed key row rs sorted made = subst (AreChanged (changed_by key row rs) rs) (sym (with_made key row rs sorted made)) (by_test (is_same_row (row_at key rs) row) refl)
  where
    by_test : (b : Bool) → is_same_row (row_at key rs) row ≡ b → AreChanged (cond b [] (record { key = key; row = find_row key rs } ∷ [])) rs (cond b rs (put_row key row rs))
    by_test true e = nothing_changed rs
    by_test false e = put_replaced key row rs e
