-- The order of keys, and rows by key.
use Rattle.std.proofs.Common.{◌≡◌, ◌⊎◌, ◌≢◌, ℕ, List, ◌∷◌, Bool, true, false, cond, Option, Some, None, unwrap_or, refl, sym, ap, ◌∙◌, inl, inr, subst, ⊎_elim, Ordering, Less, Equal, Greater}
use Rattle.std.specs.Ordering.{is_eq, is_lt, ordering_reverse}
use Rattle.std.proofs.lemmas.Map.Text.{is_eq-slice_cmp}
use Rattle.std.proofs.lemmas.Slice.Eq.{bytes_eq-Decides}
use Rattle.std.proofs.lemmas.Bool.{false≢true}
use Rattle.std.proofs.lemmas.Cmp.{nat_list_cmp_total, tied_itself}
use Rattle.hk_copy.specs.Batches.{key_cmp}
use Rattle.hk_key.specs.declared.row.Row.{Row}
use Rattle.hk_key.specs.Table.{first_row}
use Rattle.hk_node.specs.Rows.{Rows, find_row, row_at, put_row, with_row, is_touched}
use Rattle.hk_effects.specs.Projection.{is_same_key, is_behind}
use Rattle.hk_effects.proofs.Entries.{found_same, found_other}

pub equal_keys : (a b : List ℕ) → key_cmp a b ≡ Equal → a ≡ b
equal_keys a b e = (bytes_eq-Decides a b).0 (sym (is_eq-slice_cmp a b) ∙ ap is_eq e)

pub same_true : (a b : List ℕ) → is_same_key a b ≡ true → a ≡ b
same_true a b e = (bytes_eq-Decides a b).0 (sym (is_eq-slice_cmp a b) ∙ e)

pub key_itself : (a : List ℕ) → key_cmp a a ≡ Equal
key_itself a = tied_itself nat_list_cmp_total a

pub same_itself : (a : List ℕ) → is_same_key a a ≡ true
same_itself a = ap is_eq (key_itself a)

pub same_of : (a b : List ℕ) → a ≡ b → is_same_key a b ≡ true
same_of a b e = subst (λ (k : List ℕ). is_same_key a k ≡ true) e (same_itself a)

pub same_not : (a b : List ℕ) → a ≢ b → is_same_key a b ≡ false
same_not a b ne = by_test (is_same_key a b) refl
  where
    by_test : (c : Bool) → is_same_key a b ≡ c → c ≡ false
    by_test true e = absurd (ne (same_true a b e))
    by_test false e = refl

pub cases_key : (a b : List ℕ) → (a ≡ b) ⊎ (a ≢ b)
cases_key a b = by_test (is_same_key a b) refl
  where
    by_test : (c : Bool) → is_same_key a b ≡ c → (a ≡ b) ⊎ (a ≢ b)
    by_test true e = inl (same_true a b e)
    by_test false e = inr (λ is. false≢true (sym e ∙ same_of a b is))

abbrev pub IsBelow : List ℕ → List ℕ → Type 0
IsBelow a b = key_cmp a b ≡ Less

pub below_trans : (a b c : List ℕ) → IsBelow a b → IsBelow b c → IsBelow a c
below_trans a b c p q = nat_list_cmp_total.trans a b c p q

pub below_differs : (a b : List ℕ) → IsBelow a b → a ≢ b
below_differs a b l e = clash (sym (subst (λ (k : List ℕ). key_cmp a k ≡ Less) (sym e) l) ∙ key_itself a)
  where
    clash : Less ≡ Equal → ⊥
    clash e = cc

pub above_differs : (a b : List ℕ) → IsBelow a b → b ≢ a
above_differs a b l e = below_differs a b l (sym e)

pub greater_below : (a b : List ℕ) → key_cmp a b ≡ Greater → IsBelow b a
greater_below a b g = nat_list_cmp_total.antisymm b a ∙ ap ordering_reverse g

pub cases_three : (a b : List ℕ) → (a ≡ b) ⊎ (IsBelow a b ⊎ IsBelow b a)
cases_three a b = by_order (key_cmp a b) refl
  where
    by_order : (o : Ordering) → key_cmp a b ≡ o → (a ≡ b) ⊎ (IsBelow a b ⊎ IsBelow b a)
    by_order Less e = inr (inl e)
    by_order Equal e = inl (equal_keys a b e)
    by_order Greater e = inr (inr (greater_below a b e))

pub below_of_test : (a b : List ℕ) → is_lt (key_cmp a b) ≡ true → IsBelow a b
below_of_test a b e = by_order (key_cmp a b) refl
  where
    by_order : (o : Ordering) → key_cmp a b ≡ o → IsBelow a b
    by_order Less is = is
    by_order Equal is = absurd (false≢true (sym (ap is_lt is) ∙ e))
    by_order Greater is = absurd (false≢true (sym (ap is_lt is) ∙ e))

pub test_of_below : (a b : List ℕ) → IsBelow a b → is_lt (key_cmp a b) ≡ true
test_of_below a b e = ap is_lt e

pub not_below : (a b : List ℕ) → is_lt (key_cmp a b) ≡ false → (a ≡ b) ⊎ IsBelow b a
not_below a b e = ⊎_elim inl (λ (o : IsBelow a b ⊎ IsBelow b a). ⊎_elim (λ (l : IsBelow a b). absurd (false≢true (sym e ∙ test_of_below a b l))) inr o) (cases_three a b)

-- what is above a key that is behind a bound is behind it
pub behind_more : (low : Option (List ℕ)) (a b : List ℕ) → is_behind low a ≡ true → IsBelow a b → is_behind low b ≡ true
behind_more None a b p q = refl
behind_more (Some c) a b p q = test_of_below c b (below_trans c a b (below_of_test c a p) q)

pub behind_differs : (low b : List ℕ) → is_behind (Some low) b ≡ true → b ≢ low
behind_differs low b p e = below_differs low b (below_of_test low b p) (sym e)

-- ---- rows by key
pub find_here : (key : List ℕ) (r : List ℕ × Row) (rs : Rows) → key ≡ r.0 → find_row key (r ∷ rs) ≡ Some r.1
find_here key r rs e = rw (same_of key r.0 e) refl

pub find_next : (key : List ℕ) (r : List ℕ × Row) (rs : Rows) → key ≢ r.0 → find_row key (r ∷ rs) ≡ find_row key rs
find_next key r rs ne = rw (same_not key r.0 ne) refl

pub row_of_found : (key : List ℕ) (rows : Rows) (o : Option Row) → find_row key rows ≡ o → row_at key rows ≡ unwrap_or o first_row
row_of_found key rows o e = ap (λ (o : Option Row). unwrap_or o first_row) e

pub row_here : (key : List ℕ) (r : List ℕ × Row) (rs : Rows) → key ≡ r.0 → row_at key (r ∷ rs) ≡ r.1
row_here key r rs e = row_of_found key (r ∷ rs) (Some r.1) (find_here key r rs e)

pub row_next : (key : List ℕ) (r : List ℕ × Row) (rs : Rows) → key ≢ r.0 → row_at key (r ∷ rs) ≡ row_at key rs
row_next key r rs ne = row_of_found key (r ∷ rs) (find_row key rs) (find_next key r rs ne)

pub row-put_same : (key : List ℕ) (row : Row) (rs : Rows) → row_at key (put_row key row rs) ≡ row
row-put_same key row rs = row_of_found key (put_row key row rs) (Some row) (found_same key_cmp equal_keys key_itself key row rs)

pub row-put_other : (key k : List ℕ) (row : Row) (rs : Rows) → key ≢ k → row_at key (put_row k row rs) ≡ row_at key rs
row-put_other key k row rs ne = row_of_found key (put_row k row rs) (find_row key rs) (found_other key_cmp equal_keys key_itself key k row rs ne)

-- The row that a step leaves is at its key, where one that is not touched is the row that was there.
pub row-with_same : (key : List ℕ) (row : Row) (rs : Rows) → (is_touched row ≡ false → row ≡ row_at key rs) → row_at key (with_row key row rs) ≡ row
row-with_same key row rs unchanged = by_test (is_touched row) refl
  where
    by_test : (b : Bool) → is_touched row ≡ b → row_at key (cond b (put_row key row rs) rs) ≡ row
    by_test false e = sym (unchanged e)
    by_test true e = row-put_same key row rs

pub row-with_other : (key k : List ℕ) (row : Row) (rs : Rows) → key ≢ k → row_at key (with_row k row rs) ≡ row_at key rs
row-with_other key k row rs ne = by_test (is_touched row)
  where
    by_test : (b : Bool) → row_at key (cond b (put_row k row rs) rs) ≡ row_at key rs
    by_test false = refl
    by_test true = row-put_other key k row rs ne
