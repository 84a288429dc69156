-- The next key behind one, which a look-up finds.
use Rattle.std.proofs.Common.{◌≡◌, [], ◌∷◌, Bool, true, false, cond, not, ◌&&◌, Some, None, option_map, slice_get, refl, sym, ap, ◌∙◌}
use Rattle.std.specs.Ordering.{is_lt}
use Rattle.std.specs.BTreeMap.Range.{entries_between}
use Rattle.std.specs.declared.ops.Bound.TheVariants.{Excluded, Unbounded}
use Rattle.std.proofs.lemmas.Option.{none-some}
use Rattle.hk_copy.specs.Batches.{key_cmp, rows_after, next_key}
use Rattle.hk_key.specs.declared.row.Row.{Row}
use Rattle.hk_node.specs.Rows.{Rows}
use Rattle.hk_node.specs.Copies.{copy_of, copies_of}
use Rattle.hk_node.proofs.Order.{Key}

rows_between : (key : Key) (rs : Rows) → rows_after (Some key) (copies_of rs) ≡ copies_of (entries_between key_cmp (Excluded key) Unbounded rs)
rows_between key [] = refl
rows_between key (r ∷ rs) = by_test (is_lt (key_cmp key r.0)) (rows_between key rs)
  where
    by_test : (b : Bool) → rows_after (Some key) (copies_of rs) ≡ copies_of (entries_between key_cmp (Excluded key) Unbounded rs) →
        cond b (copy_of r ∷ rows_after (Some key) (copies_of rs)) (rows_after (Some key) (copies_of rs)) ≡
        copies_of (cond (b && not false) (r ∷ entries_between key_cmp (Excluded key) Unbounded rs) (entries_between key_cmp (Excluded key) Unbounded rs))
    by_test true more = ap (λ l. copy_of r ∷ l) more
    by_test false more = more

pub next_between : (key : Key) (rs found : Rows) → entries_between key_cmp (Excluded key) Unbounded rs ≡ found → next_key (copies_of found) ≡ next_key (rows_after (Some key) (copies_of rs))
next_between key rs found e = ap (λ (l : Rows). next_key (copies_of l)) (sym e) ∙ sym (ap next_key (rows_between key rs))

pub first_is : (rs : Rows) (e : Key × Row) → slice_get rs 0 ≡ Some e → Some e.0 ≡ next_key (rows_after None (copies_of rs))
first_is [] e at = absurd (none-some e at)
first_is (r ∷ rs) e at = ap (option_map (λ (x : Key × Row). x.0)) (sym at)
