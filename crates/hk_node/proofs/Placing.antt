-- Rows that are put one after the other, in the order of their keys: each goes to its place, and back.
use Rattle.std.proofs.Common.{◌≡◌, ◌≢◌, List, [], ◌∷◌, ◌++◌, Bool, true, false, cond, ◌||◌, map, Option, Some, None, unwrap_or, refl, sym, ap, ◌∙◌, subst}
use Rattle.std.specs.Option.{IsSome, is_some}
use Rattle.std.specs.Ordering.{is_eq, ordering_reverse}
use Rattle.std.specs.declared.cmp.Ordering.TheVariants.{Greater}
use Rattle.std.proofs.lemmas.Cmp.{nat_list_cmp_total}
use Rattle.std.specs.List.{AllByRecursion, list_any, flat_map}
use Rattle.std.specs.Map.{keys_of}
use Rattle.std.specs.List.Sorted.{IsStrictlySortedBy}
use Rattle.std.proofs.lemmas.Bool.{false≢true}
use Rattle.std.proofs.lemmas.List.Concat.{flat_map-cons}
use Rattle.std.proofs.Common.{append_assoc}
use Rattle.std.proofs.lemmas.List.{map-append}
use Rattle.hk_copy.specs.Batches.{key_cmp}
use Rattle.hk_key.specs.declared.row.Row.{Row}
use Rattle.hk_key.specs.Table.{first_row}
use Rattle.hk_key.specs.Same.{is_same_row}
use Rattle.hk_node.specs.declared.report.PriorRow.{PriorRow}
use Rattle.hk_node.specs.Rows.{Rows, find_row, row_at, put_row}
use Rattle.hk_node.specs.Report.{AreChanged, row_rolled_back, rows_rolled_back}
use Rattle.hk_node.proofs.Order.{Key, Lt, Rising, same_key, same_not, key_itself, find_here, find_next, lt_ne_back}

abbrev pub Entry : Type 0
Entry = Key × Row

lt_gt : (a b : Key) → Lt a b → key_cmp b a ≡ Greater
lt_gt a b l = nat_list_cmp_total.antisymm b a ∙ ap ordering_reverse l

abbrev Above : Key → List PriorRow → Type 0
Above low prior = AllByRecursion (λ f. Lt low f.key) prior

-- a row behind the first entry is given back behind it
past_head : (h : Entry) (rs : Rows) (k : Key) (o : Option Row) → Lt h.0 k → row_rolled_back k o (h ∷ rs) ≡ h ∷ row_rolled_back k o rs
past_head h rs k None lt = rw (same_not k h.0 (lt_ne_back h.0 k lt)) refl
past_head h rs k (Some row) lt = rw (lt_gt h.0 k lt) refl

pub all_past_head : (h : Entry) (rs : Rows) (prior : List PriorRow) → Above h.0 prior → rows_rolled_back prior (h ∷ rs) ≡ h ∷ rows_rolled_back prior rs
all_past_head h rs [] above = refl
all_past_head h rs (f ∷ prior) above = ap (row_rolled_back f.key f.row) (all_past_head h rs prior above.1) ∙ past_head h (rows_rolled_back prior rs) f.key f.row above.0

-- of each entry what it has, and what it had; where these are the same the test may tell so
module _ (from to : Entry → Row) (same : Entry → Bool) where
  abbrev pub each_to : Rows → Rows
  each_to rows = map (λ r. (r.0, to r)) rows

  abbrev pub each_from : Rows → Rows
  each_from rows = map (λ r. (r.0, from r)) rows

  abbrev pub one_to : Entry → List PriorRow
  one_to r = cond (same r) [] (record { key = r.0; row = Some (to r) } ∷ [])

  abbrev pub list_to : Rows → List PriorRow
  list_to [] = []
  list_to (r ∷ rows) = cond (same r) (list_to rows) (record { key = r.0; row = Some (to r) } ∷ list_to rows)

  pub list_is : (rows : Rows) → flat_map one_to rows ≡ list_to rows
  list_is [] = refl
  list_is (r ∷ rows) = flat_map-cons one_to r rows ∙ by_test (same r) (list_is rows)
    where
      by_test : (b : Bool) → flat_map one_to rows ≡ list_to rows →
          cond b [] (record { key = r.0; row = Some (to r) } ∷ []) ++ flat_map one_to rows ≡ cond b (list_to rows) (record { key = r.0; row = Some (to r) } ∷ list_to rows)
      by_test true more = more
      by_test false more = ap (λ l. record { key = r.0; row = Some (to r) } ∷ l) more

  above_list : (low : Key) (rows : Rows) → AllByRecursion (λ k. Lt low k) (keys_of rows) → Above low (list_to rows)
  above_list low [] all = tt
  above_list low (r ∷ rows) all = by_test (same r) (above_list low rows all.1)
    where
      by_test : (b : Bool) → Above low (list_to rows) → Above low (cond b (list_to rows) (record { key = r.0; row = Some (to r) } ∷ list_to rows))
      by_test true more = more
      by_test false more = (all.0, more)

  keys_above : (low : Key) (rows : Rows) → AllByRecursion (λ k. Lt low k) (keys_of rows) → AllByRecursion (λ k. Lt low k) (map (λ (f : PriorRow). f.key) (list_to rows))
  keys_above low [] all = tt
  keys_above low (r ∷ rows) all = by_test (same r) (keys_above low rows all.1)
    where
      by_test : (b : Bool) → AllByRecursion (λ k. Lt low k) (map (λ (f : PriorRow). f.key) (list_to rows)) →
          AllByRecursion (λ k. Lt low k) (map (λ (f : PriorRow). f.key) (cond b (list_to rows) (record { key = r.0; row = Some (to r) } ∷ list_to rows)))
      by_test true more = more
      by_test false more = (all.0, more)

  pub list_rises : (rows : Rows) → Rising rows → IsStrictlySortedBy key_cmp (map (λ (f : PriorRow). f.key) (list_to rows))
  unfolding IsStrictlySortedBy
  list_rises [] rising = tt
  list_rises (r ∷ rows) rising = by_test (same r) (list_rises rows rising.1)
    where
      by_test : (b : Bool) → IsStrictlySortedBy key_cmp (map (λ (f : PriorRow). f.key) (list_to rows)) →
          IsStrictlySortedBy key_cmp (map (λ (f : PriorRow). f.key) (cond b (list_to rows) (record { key = r.0; row = Some (to r) } ∷ list_to rows)))
      by_test true more = more
      by_test false more = (keys_above r.0 rows rising.0, more)

  there_lifted : (h : Entry) (rows : Rows) (prior : List PriorRow) → Above h.0 prior → AllByRecursion (λ (f : PriorRow). IsSome (find_row f.key rows)) prior → AllByRecursion (λ (f : PriorRow). IsSome (find_row f.key (h ∷ rows))) prior
  there_lifted h rows [] above all = tt
  there_lifted h rows (f ∷ prior) above all = (subst IsSome (sym (find_next f.key h rows (lt_ne_back h.0 f.key above.0))) all.0, there_lifted h rows prior above.1 all.1)

  pub list_there : (rows : Rows) → Rising rows → AllByRecursion (λ (f : PriorRow). IsSome (find_row f.key rows)) (list_to rows)
  unfolding IsStrictlySortedBy
  list_there [] rising = tt
  list_there (r ∷ rows) rising = by_test (same r) (there_lifted r rows (list_to rows) (above_list r.0 rows rising.0) (list_there rows rising.1))
    where
      by_test : (b : Bool) → AllByRecursion (λ (f : PriorRow). IsSome (find_row f.key (r ∷ rows))) (list_to rows) →
          AllByRecursion (λ (f : PriorRow). IsSome (find_row f.key (r ∷ rows))) (cond b (list_to rows) (record { key = r.0; row = Some (to r) } ∷ list_to rows))
      by_test true more = more
      by_test false more = (ap is_some (find_here r.0 r rows refl), more)

  module _ (told : (r : Entry) → same r ≡ true → from r ≡ to r) where
    pub all_given : (rows : Rows) → Rising rows → rows_rolled_back (list_to rows) (each_from rows) ≡ each_to rows
    unfolding IsStrictlySortedBy
    all_given [] rising = refl
    all_given (r ∷ rows) rising = by_test (same r) refl (all_past_head (r.0, from r) (each_from rows) (list_to rows) (above_list r.0 rows rising.0)
        ∙ ap (λ l. (r.0, from r) ∷ l) (all_given rows rising.1))
      where
        by_test : (b : Bool) → same r ≡ b → rows_rolled_back (list_to rows) ((r.0, from r) ∷ each_from rows) ≡ (r.0, from r) ∷ each_to rows →
            rows_rolled_back (cond b (list_to rows) (record { key = r.0; row = Some (to r) } ∷ list_to rows)) ((r.0, from r) ∷ each_from rows) ≡ (r.0, to r) ∷ each_to rows
        by_test true e more = more ∙ ap (λ (x : Row). (r.0, x) ∷ each_to rows) (told r e)
        by_test false e more = ap (put_row r.0 (to r)) more ∙ rw (key_itself r.0) refl

    -- other keys keep what they have
    pub others_given : (rows : Rows) (key : Key) → list_any (λ (f : PriorRow). is_eq (key_cmp key f.key)) (list_to rows) ≡ false → find_row key (each_from rows) ≡ find_row key (each_to rows)
    others_given [] key e = refl
    others_given (r ∷ rows) key e = by_test (same r) refl e (others_given rows key)
      where
        both : from r ≡ to r → find_row key (each_from rows) ≡ find_row key (each_to rows) → find_row key ((r.0, from r) ∷ each_from rows) ≡ find_row key ((r.0, to r) ∷ each_to rows)
        both is more = ap (λ (x : Row). find_row key ((r.0, x) ∷ each_from rows)) is ∙ ap (λ o. cond (same_key key r.0) (Some (to r)) o) more

        by_other : (c : Bool) → same_key key r.0 ≡ c → (c || list_any (λ (f : PriorRow). is_eq (key_cmp key f.key)) (list_to rows)) ≡ false →
            (list_any (λ (f : PriorRow). is_eq (key_cmp key f.key)) (list_to rows) ≡ false → find_row key (each_from rows) ≡ find_row key (each_to rows)) →
            cond c (Some (from r)) (find_row key (each_from rows)) ≡ cond c (Some (to r)) (find_row key (each_to rows))
        by_other true c none more = absurd (false≢true (sym none))
        by_other false c none more = more none

        by_test : (b : Bool) → same r ≡ b → list_any (λ (f : PriorRow). is_eq (key_cmp key f.key)) (cond b (list_to rows) (record { key = r.0; row = Some (to r) } ∷ list_to rows)) ≡ false →
            (list_any (λ (f : PriorRow). is_eq (key_cmp key f.key)) (list_to rows) ≡ false → find_row key (each_from rows) ≡ find_row key (each_to rows)) →
            find_row key ((r.0, from r) ∷ each_from rows) ≡ find_row key ((r.0, to r) ∷ each_to rows)
        by_test true t none more = both (told r t) (more none)
        by_test false t none more = by_other (same_key key r.0) refl none more

-- ---- one turn of a list that is made piece by piece
pub next_piece : {A B : Type 0} (f : A → List B) (made more : List B) (x : A) (xs : List A) (whole : List B) → made ++ flat_map f (x ∷ xs) ≡ whole → more ≡ made ++ f x → more ++ flat_map f xs ≡ whole
next_piece f made more x xs whole e is = ap (λ l. l ++ flat_map f xs) is ∙ append_assoc made (f x) (flat_map f xs) ∙ ap (λ l. made ++ l) (sym (flat_map-cons f x xs)) ∙ e

pub next_mapped : {A B C : Type 0} (g : B → C) (f : A → List B) (made more : List C) (x : A) (xs : List A) (whole : List C) → made ++ map g (flat_map f (x ∷ xs)) ≡ whole → more ≡ made ++ map g (f x) →
    more ++ map g (flat_map f xs) ≡ whole
next_mapped g f made more x xs whole e is = ap (λ l. l ++ map g (flat_map f xs)) is ∙ append_assoc made (map g (f x)) (map g (flat_map f xs))
    ∙ ap (λ l. made ++ l) (sym (map-append g (f x) (flat_map f xs)) ∙ ap (map g) (sym (flat_map-cons f x xs))) ∙ e

each_self : (rows : Rows) → map (λ (r : Entry). (r.0, r.1)) rows ≡ rows
each_self [] = refl
each_self (r ∷ rows) = ap (λ l. r ∷ l) (each_self rows)

-- ---- the rows that were there, in the places of those that a step made
module _ (step : Entry → Row) (same : Entry → Bool) (told : (r : Entry) → same r ≡ true → step r ≡ r.1) (changed : (r : Entry) → same r ≡ false → is_same_row r.1 (step r) ≡ false) where
  abbrev pub stepped : Rows → Rows
  stepped rows = map (λ r. (r.0, step r)) rows

  abbrev pub priors : Rows → List PriorRow
  priors rows = list_to step (λ r. r.1) same rows

  pub news_put : (rows : Rows) → Rising rows → rows_rolled_back (list_to (λ r. r.1) step same rows) rows ≡ stepped rows
  news_put rows rising = ap (rows_rolled_back (list_to (λ r. r.1) step same rows)) (sym (each_self rows)) ∙ all_given (λ r. r.1) step same (λ r e. sym (told r e)) rows rising

  pub priors_put : (rows : Rows) → Rising rows → rows_rolled_back (priors rows) (stepped rows) ≡ rows
  priors_put rows rising = all_given step (λ r. r.1) same told rows rising ∙ each_self rows

  -- what is so of a prior row at its key
  abbrev IsPrior : Rows → PriorRow → Type 0
  IsPrior rows f = (find_row f.key rows ≡ f.row) × (is_same_row (row_at f.key rows) (row_at f.key (stepped rows)) ≡ false) × IsSome (find_row f.key (stepped rows))

  lifted : (h : Entry) (rows : Rows) (prior : List PriorRow) → Above h.0 prior → AllByRecursion (IsPrior rows) prior → AllByRecursion (IsPrior (h ∷ rows)) prior
  lifted h rows [] above all = tt
  lifted h rows (f ∷ prior) above all =
      let ne : f.key ≢ h.0 = lt_ne_back h.0 f.key above.0 in
      let past = find_next f.key (h.0, step h) (stepped rows) ne in (
        (
          find_next f.key h rows ne ∙ all.0.0,
          subst (λ (o : Option Row). is_same_row (unwrap_or o first_row) (row_at f.key (stepped (h ∷ rows))) ≡ false) (sym (find_next f.key h rows ne))
              (subst (λ (o : Option Row). is_same_row (row_at f.key rows) (unwrap_or o first_row) ≡ false) (sym past) all.0.1),
          subst IsSome (sym past) all.0.2,
        ),
        lifted h rows prior above.1 all.1,
      )

  pub priors_are : (rows : Rows) → Rising rows → AllByRecursion (IsPrior rows) (priors rows)
  unfolding IsStrictlySortedBy
  priors_are [] rising = tt
  priors_are (r ∷ rows) rising = by_test (same r) refl (lifted r rows (priors rows) (above_list step (λ x. x.1) same r.0 rows rising.0) (priors_are rows rising.1))
    where
      here : find_row r.0 (stepped (r ∷ rows)) ≡ Some (step r)
      here = find_here r.0 (r.0, step r) (stepped rows) refl

      by_test : (b : Bool) → same r ≡ b → AllByRecursion (IsPrior (r ∷ rows)) (priors rows) →
          AllByRecursion (IsPrior (r ∷ rows)) (cond b (priors rows) (record { key = r.0; row = Some r.1 } ∷ priors rows))
      by_test true e more = more
      by_test false e more = (
        (
          find_here r.0 r rows refl,
          subst (λ (o : Option Row). is_same_row (unwrap_or o first_row) (row_at r.0 (stepped (r ∷ rows))) ≡ false) (sym (find_here r.0 r rows refl))
              (subst (λ (o : Option Row). is_same_row r.1 (unwrap_or o first_row) ≡ false) (sym here) (changed r e)),
          ap is_some here,
        ),
        more,
      )

  each_of : (P Q : PriorRow → Type 0) → ((f : PriorRow) → P f → Q f) → (fs : List PriorRow) → AllByRecursion P fs → AllByRecursion Q fs
  each_of P Q h [] all = tt
  each_of P Q h (f ∷ fs) all = (h f all.0, each_of P Q h fs all.1)

  pub priors_replaced : (rows : Rows) → Rising rows → AreChanged (priors rows) rows (stepped rows)
  priors_replaced rows rising = record {
    rising = list_rises step (λ r. r.1) same rows rising;
    differ = each_of (IsPrior rows) (λ f. (find_row f.key rows ≡ f.row) × (is_same_row (row_at f.key rows) (row_at f.key (stepped rows)) ≡ false)) (λ f h. (h.0, h.1)) (priors rows) (priors_are rows rising);
    there = each_of (IsPrior rows) (λ f. IsSome (find_row f.key (stepped rows))) (λ f h. h.2) (priors rows) (priors_are rows rising);
    others = λ key none. others_given step (λ r. r.1) same told rows key none ∙ ap (find_row key) (each_self rows);
  }

-- ---- a row behind all others
lt_last : (low k : Key) (row : Row) (es rest : Rows) → AllByRecursion (λ x. Lt low x) (keys_of (es ++ (k, row) ∷ rest)) → Lt low k
lt_last low k row [] rest all = all.0
lt_last low k row (e ∷ es) rest all = lt_last low k row es rest all.1

put_last : (k : Key) (row : Row) (es rest : Rows) → Rising (es ++ (k, row) ∷ rest) → put_row k row es ≡ es ++ (k, row) ∷ []
unfolding IsStrictlySortedBy
put_last k row [] rest rising = refl
put_last k row (e ∷ es) rest rising = rw (lt_gt e.0 k (lt_last e.0 k row es rest rising.0)) (ap (λ l. e ∷ l) (put_last k row es rest rising.1))

pub put_next : (k : Key) (row : Row) (es rest whole new : Rows) → es ++ (k, row) ∷ rest ≡ whole → Rising whole → new ≡ put_row k row es → new ++ rest ≡ whole
put_next k row es rest whole new is rising put =
    ap (λ l. l ++ rest) (put ∙ put_last k row es rest (subst Rising (sym is) rising)) ∙ append_assoc es ((k, row) ∷ []) rest ∙ is
