-- Rows that are put in their places in the order of their keys, and what they take the place of.
use Rattle.std.proofs.Common.{◌≡◌, ◌≢◌, List, [], ◌∷◌, ◌++◌, map, Bool, true, false, cond, ◌||◌, Option, Some, None, unwrap_or, refl, sym, ap, ◌∙◌, subst, ⊎_elim, append-nil, append_assoc, arith}
use Rattle.std.specs.Option.{option_or, is_some, IsSome}
use Rattle.std.specs.Ordering.{is_eq}
use Rattle.std.specs.declared.cmp.Ordering.{Ordering}
use Rattle.std.specs.declared.cmp.Ordering.TheVariants.{Less, Equal, Greater}
use Rattle.std.specs.Map.{keys_of}
use Rattle.std.specs.List.{AllByRecursion, list_any}
use Rattle.std.specs.List.Sorted.{IsStrictlySortedBy}
use Rattle.std.proofs.lemmas.Bool.{false≢true}
use Rattle.std.proofs.lemmas.Option.{none-some}
use Rattle.std.proofs.lemmas.Map.Keys.{sorted_head, sorted_tail}
use Rattle.hk_copy.specs.Batches.{key_cmp}
use Rattle.hk_key.specs.declared.row.Row.{Row}
use Rattle.hk_key.specs.Table.{first_row}
use Rattle.hk_key.specs.Same.{is_same_row}
use Rattle.hk_node.specs.declared.report.PriorRow.{PriorRow}
use Rattle.hk_node.specs.Rows.{Rows, find_row, row_at, put_row}
use Rattle.hk_node.specs.Report.{AreChanged, row_rolled_back, rows_rolled_back}
use Rattle.hk_node.specs.Copying.{row_now, put_rows, prior_of}
use Rattle.hk_node.proofs.Order.{Key, Rising, Lt, equal_keys, gt_lt, lt_ne_back, same_key, cases_key, find_here, find_next, find-put_same, find-put_other, rising_put}
use Rattle.hk_node.proofs.Placed.{below_first, put_undone, each_found}
use Rattle.hk_node.proofs.Givings.{Ready, There, given_last}

some_is : {X : Type 0} (x y : X) → Some x ≡ Some y → x ≡ y
some_is x y e = grind arith

-- ---- rows are the same where each key finds the same
pub none_head : (r : Key × Row) (rs : Rows) → Rising (r ∷ rs) → find_row r.0 rs ≡ None
none_head r [] rising = refl
none_head r (x ∷ rs) rising = below_first r.0 x rs (sorted_tail key_cmp r.0 (keys_of (x ∷ rs)) rising) (sorted_head key_cmp r.0 (keys_of (x ∷ rs)) rising).0

head_same : (r s : Key × Row) (rs ss : Rows) → r.0 ≡ s.0 → find_row r.0 (r ∷ rs) ≡ find_row r.0 (s ∷ ss) → r ≡ s
head_same r s rs ss e h =
    let same : r.1 ≡ s.1 = some_is r.1 s.1 (sym (find_here r.0 r rs refl) ∙ h ∙ find_here r.0 s ss e) in
    ap (λ (k : Key). (k, r.1)) e ∙ ap (λ (x : Row). (s.0, x)) same

tail_same : (r s : Key × Row) (rs ss : Rows) → Rising (r ∷ rs) → Rising (s ∷ ss) → r.0 ≡ s.0 →
    ((key : Key) → find_row key (r ∷ rs) ≡ find_row key (s ∷ ss)) → (key : Key) → find_row key rs ≡ find_row key ss
tail_same r s rs ss ri si e h key = ⊎_elim
    (λ (at : key ≡ r.0). subst (λ (k : Key). find_row k rs ≡ None) (sym at) (none_head r rs ri)
    ∙ sym (subst (λ (k : Key). find_row k ss ≡ None) (sym (at ∙ e)) (none_head s ss si)))
    (λ (ne : key ≢ r.0). sym (find_next key r rs ne) ∙ h key ∙ find_next key s ss (λ at. ne (at ∙ sym e)))
    (cases_key key r.0)

pub same_rows : (rs ss : Rows) → Rising rs → Rising ss → ((key : Key) → find_row key rs ≡ find_row key ss) → rs ≡ ss
same_rows [] [] ri si h = refl
same_rows [] (s ∷ ss) ri si h = absurd (none-some s.1 (h s.0 ∙ find_here s.0 s ss refl))
same_rows (r ∷ rs) [] ri si h = absurd (none-some r.1 (sym (h r.0) ∙ find_here r.0 r rs refl))
same_rows (r ∷ rs) (s ∷ ss) ri si h = by_order (key_cmp r.0 s.0) refl
    (λ e. same_rows rs ss (sorted_tail key_cmp r.0 (keys_of rs) ri) (sorted_tail key_cmp s.0 (keys_of ss) si) (tail_same r s rs ss ri si e h))
  where
    by_order : (o : Ordering) → key_cmp r.0 s.0 ≡ o → (r.0 ≡ s.0 → rs ≡ ss) → r ∷ rs ≡ s ∷ ss
    by_order Less e more = absurd (none-some r.1 (sym (sym (find_here r.0 r rs refl) ∙ h r.0 ∙ below_first r.0 s ss si e)))
    by_order Greater e more = absurd (none-some s.1 (sym (below_first s.0 r rs ri (gt_lt r.0 s.0 e)) ∙ h s.0 ∙ find_here s.0 s ss refl))
    by_order Equal e more =
        let same : r.0 ≡ s.0 = equal_keys r.0 s.0 e in
        ap (λ (x : Key × Row). x ∷ rs) (head_same r s rs ss same (h r.0)) ∙ ap (λ (l : Rows). s ∷ l) (more same)

-- ---- rows with others put in their places
pub find_over : (changes rows : Rows) → Rising changes → (key : Key) → find_row key (put_rows changes rows) ≡ option_or (find_row key changes) (find_row key rows)
find_over [] rows rising key = refl
find_over (c ∷ cs) rows rising key = find_over cs (put_row c.0 c.1 rows) (sorted_tail key_cmp c.0 (keys_of cs) rising) key ∙ ⊎_elim
    (λ (at : key ≡ c.0). ap (λ (o : Option Row). option_or o (find_row key (put_row c.0 c.1 rows))) (subst (λ (k : Key). find_row k cs ≡ None) (sym at) (none_head c cs rising))
    ∙ subst (λ (k : Key). find_row k (put_row c.0 c.1 rows) ≡ Some c.1) (sym at) (find-put_same c.0 c.1 rows)
    ∙ sym (ap (λ (o : Option Row). option_or o (find_row key rows)) (find_here key c cs at)))
    (λ (ne : key ≢ c.0). ap (λ (o : Option Row). option_or (find_row key cs) o) (find-put_other key c.0 c.1 rows ne)
    ∙ sym (ap (λ (o : Option Row). option_or o (find_row key rows)) (find_next key c cs ne)))
    (cases_key key c.0)

pub rising_over : (changes rows : Rows) → Rising rows → Rising (put_rows changes rows)
rising_over [] rows rising = rising
rising_over (c ∷ cs) rows rising = rising_over cs (put_row c.0 c.1 rows) (rising_put c.0 c.1 rows rising)

pub row_over : (key : Key) (changes rows : Rows) → Rising changes → row_now key changes rows ≡ row_at key (put_rows changes rows)
row_over key changes rows rising = ap (λ (o : Option Row). unwrap_or o first_row) (sym (find_over changes rows rising key))

-- one more change is one more put
pub put_over : (key : Key) (row : Row) (changes rows : Rows) → Rising changes → Rising rows → put_rows (put_row key row changes) rows ≡ put_row key row (put_rows changes rows)
put_over key row changes rows rising ordered = same_rows (put_rows (put_row key row changes) rows) (put_row key row (put_rows changes rows))
    (rising_over (put_row key row changes) rows ordered) (rising_put key row (put_rows changes rows) (rising_over changes rows ordered)) (λ k.
    find_over (put_row key row changes) rows (rising_put key row changes rising) k ∙ ⊎_elim
    (λ (at : k ≡ key). subst (λ (q : Key). option_or (find_row q (put_row key row changes)) (find_row q rows) ≡ find_row q (put_row key row (put_rows changes rows))) (sym at)
    (ap (λ (o : Option Row). option_or o (find_row key rows)) (find-put_same key row changes) ∙ sym (find-put_same key row (put_rows changes rows))))
    (λ (ne : k ≢ key). ap (λ (o : Option Row). option_or o (find_row k rows)) (find-put_other k key row changes ne)
    ∙ sym (find_over changes rows rising k) ∙ sym (find-put_other k key row (put_rows changes rows) ne))
    (cases_key k key))

-- ---- what they take the place of, given back
pub prior_undone : (changes rows : Rows) → Rising rows → rows_rolled_back (prior_of changes rows) (put_rows changes rows) ≡ rows
prior_undone [] rows rising = refl
prior_undone (c ∷ cs) rows rising = ap (row_rolled_back c.0 (find_row c.0 rows)) (prior_undone cs (put_row c.0 c.1 rows) (rising_put c.0 c.1 rows rising))
    ∙ put_undone c.0 c.1 rows rising

pub keys_prior : (changes rows : Rows) → map (λ (f : PriorRow). f.key) (prior_of changes rows) ≡ keys_of changes
keys_prior [] rows = refl
keys_prior (c ∷ cs) rows = ap (λ l. c.0 ∷ l) (keys_prior cs (put_row c.0 c.1 rows))

-- ---- what they take the place of is what was replaced
abbrev pub was : Rows → Key × Row → PriorRow
was rows c = record { key = c.0; row = find_row c.0 rows }

was_put : (k : Key) (row : Row) (rows cs : Rows) → AllByRecursion (λ (q : Key). Lt k q) (keys_of cs) → map (was (put_row k row rows)) cs ≡ map (was rows) cs
was_put k row rows [] all = refl
was_put k row rows (c ∷ cs) all = ap (λ (o : Option Row). record { key = c.0; row = o } ∷ map (was (put_row k row rows)) cs) (find-put_other c.0 k row rows (lt_ne_back k c.0 all.0))
    ∙ ap (λ l. was rows c ∷ l) (was_put k row rows cs all.1)

prior_is : (changes rows : Rows) → Rising changes → prior_of changes rows ≡ map (was rows) changes
prior_is [] rows rising = refl
prior_is (c ∷ cs) rows rising = ap (λ l. was rows c ∷ l) (prior_is cs (put_row c.0 c.1 rows) (sorted_tail key_cmp c.0 (keys_of cs) rising)
    ∙ was_put c.0 c.1 rows cs (sorted_head key_cmp c.0 (keys_of cs) rising))

-- a change that is there now, and differs from what was there before
abbrev Changed : Rows → Rows → Key × Row → Type 0
Changed rows new c = (find_row c.0 new ≡ Some c.1) × (is_same_row (row_at c.0 rows) c.1 ≡ false)

each_changed : (changes rows cs : Rows) → Rising changes → ((key : Key) (row : Row) → find_row key changes ≡ Some row → is_same_row (row_at key rows) row ≡ false) →
    AllByRecursion (λ c. find_row c.0 changes ≡ Some c.1) cs → AllByRecursion (Changed rows (put_rows changes rows)) cs
each_changed changes rows [] rising differ all = tt
each_changed changes rows (c ∷ cs) rising differ all = (
  (find_over changes rows rising c.0 ∙ ap (λ (o : Option Row). option_or o (find_row c.0 rows)) all.0, differ c.0 c.1 all.0),
  each_changed changes rows cs rising differ all.1,
)

each_differs : (rows new cs : Rows) → AllByRecursion (Changed rows new) cs → AllByRecursion (λ (f : PriorRow). (find_row f.key rows ≡ f.row) × (is_same_row (row_at f.key rows) (row_at f.key new) ≡ false)) (map (was rows) cs)
each_differs rows new [] all = tt
each_differs rows new (c ∷ cs) all = ((refl, ap (λ (o : Option Row). is_same_row (row_at c.0 rows) (unwrap_or o first_row)) all.0.0 ∙ all.0.1), each_differs rows new cs all.1)

each_there : (rows new cs : Rows) → AllByRecursion (Changed rows new) cs → AllByRecursion (λ (f : PriorRow). IsSome (find_row f.key new)) (map (was rows) cs)
each_there rows new [] all = tt
each_there rows new (c ∷ cs) all = (ap is_some all.0.0, each_there rows new cs all.1)

none_of : (key : Key) (rows cs : Rows) → list_any (λ (f : PriorRow). is_eq (key_cmp key f.key)) (map (was rows) cs) ≡ false → find_row key cs ≡ None
none_of key rows [] e = refl
none_of key rows (c ∷ cs) e = by_test (same_key key c.0) e (none_of key rows cs)
  where
    rest : Bool
    rest = list_any (λ (f : PriorRow). is_eq (key_cmp key f.key)) (map (was rows) cs)

    by_test : (b : Bool) → (b || rest) ≡ false → (rest ≡ false → find_row key cs ≡ None) → cond b (Some c.1) (find_row key cs) ≡ None
    by_test true h more = absurd (false≢true (sym h))
    by_test false h more = more h

was_keys : (rows cs : Rows) → map (λ (f : PriorRow). f.key) (map (was rows) cs) ≡ keys_of cs
was_keys rows [] = refl
was_keys rows (c ∷ cs) = ap (λ l. c.0 ∷ l) (was_keys rows cs)

pub laid_replaced : (changes rows : Rows) → Rising changes → ((key : Key) (row : Row) → find_row key changes ≡ Some row → is_same_row (row_at key rows) row ≡ false) →
    AreChanged (prior_of changes rows) rows (put_rows changes rows)
laid_replaced changes rows rising differ = subst (λ (l : List PriorRow). AreChanged l rows (put_rows changes rows)) (sym (prior_is changes rows rising)) (record {
  rising = subst (λ (keys : List Key). IsStrictlySortedBy key_cmp keys) (sym (was_keys rows changes)) rising;
  differ = each_differs rows (put_rows changes rows) changes all;
  there = each_there rows (put_rows changes rows) changes all;
  others = λ key e. find_over changes rows rising key ∙ ap (λ (o : Option Row). option_or o (find_row key rows)) (none_of key rows changes e);
})
  where
    all : AllByRecursion (Changed rows (put_rows changes rows)) changes
    all = each_changed changes rows changes rising differ (each_found changes rising)

-- ---- one turn: the next row is put
pub record Laying (all first left rows : Rows) (prior : List PriorRow) : Type 0 where
  pub put : put_rows left rows ≡ put_rows all first
  pub noted : prior ++ prior_of left rows ≡ prior_of all first
  pub back : rows_rolled_back prior rows ≡ first
  pub there : There prior rows
  pub ordered : Rising rows

there_put : (key : Key) (row : Row) (rows : Rows) (prior : List PriorRow) → There prior rows → There prior (put_row key row rows)
there_put key row rows [] all = tt
there_put key row rows (f ∷ prior) all = (
  ⊎_elim
      (λ (at : f.key ≡ key). subst (λ (k : Key). IsSome (find_row k (put_row key row rows))) (sym at) (ap is_some (find-put_same key row rows)))
      (λ (ne : f.key ≢ key). subst IsSome (sym (find-put_other f.key key row rows ne)) all.0)
      (cases_key f.key key),
  there_put key row rows prior all.1,
)

there_push : (f : PriorRow) (rows : Rows) (prior : List PriorRow) → There prior rows → IsSome (find_row f.key rows) → There (prior ++ f ∷ []) rows
there_push f rows [] all one = (one, tt)
there_push f rows (g ∷ prior) all one = (all.0, there_push f rows prior all.1 one)

pub laid_turn : (all first left rest rows next : Rows) (prior more : List PriorRow) (key : Key) (row : Row) → left ≡ (key, row) ∷ rest → next ≡ put_row key row rows →
    more ≡ prior ++ record { key = key; row = find_row key rows } ∷ [] → Laying all first left rows prior → Laying all first rest next more
laid_turn all first left rest rows next prior more key row is put push inv =
    subst (λ (n : Rows). Laying all first rest n more) (sym put)
    (subst (λ (l : List PriorRow). Laying all first rest (put_row key row rows) l) (sym push)
    (turned (subst (λ (l : Rows). Laying all first l rows prior) is inv)))
  where
    one : PriorRow
    one = record { key = key; row = find_row key rows }

    turned : Laying all first ((key, row) ∷ rest) rows prior → Laying all first rest (put_row key row rows) (prior ++ one ∷ [])
    turned at = record {
      put = at.put;
      noted = append_assoc prior (one ∷ []) (prior_of rest (put_row key row rows)) ∙ at.noted;
      back = given_last prior one (put_row key row rows) ∙ ap (rows_rolled_back prior) (put_undone key row rows at.ordered) ∙ at.back;
      there = there_push one (put_row key row rows) prior (there_put key row rows prior at.there) (ap is_some (find-put_same key row rows));
      ordered = rising_put key row rows at.ordered;
    }

all_prefix : (P : Key → Type 0) (xs ys : List Key) → AllByRecursion P (xs ++ ys) → AllByRecursion P xs
all_prefix P [] ys all = tt
all_prefix P (x ∷ xs) ys all = (all.0, all_prefix P xs ys all.1)

sorted_prefix : (xs ys : List Key) → IsStrictlySortedBy key_cmp (xs ++ ys) → IsStrictlySortedBy key_cmp xs
unfolding IsStrictlySortedBy
sorted_prefix [] ys s = tt
sorted_prefix (x ∷ xs) ys s = (all_prefix (λ (k : Key). Lt x k) xs ys s.0, sorted_prefix xs ys s.1)

map_push : (xs ys : List PriorRow) → map (λ (f : PriorRow). f.key) (xs ++ ys) ≡ map (λ (f : PriorRow). f.key) xs ++ map (λ (f : PriorRow). f.key) ys
map_push [] ys = refl
map_push (x ∷ xs) ys = ap (λ l. x.key ∷ l) (map_push xs ys)

-- what was put so far can be given back
pub laid_ready : (all first left rows : Rows) (prior : List PriorRow) → Rising all → Laying all first left rows prior → Ready prior rows
laid_ready all first left rows prior rising inv = record {
  rising = sorted_prefix (map (λ (f : PriorRow). f.key) prior) (map (λ (f : PriorRow). f.key) (prior_of left rows))
      (subst (λ (keys : List Key). IsStrictlySortedBy key_cmp keys)
      (sym (sym (map_push prior (prior_of left rows)) ∙ ap (λ (l : List PriorRow). map (λ (f : PriorRow). f.key) l) inv.noted ∙ keys_prior all first)) rising);
  there = inv.there;
}

pub ready_as : (prior more : List PriorRow) (rows next : Rows) → more ≡ prior → next ≡ rows → Ready prior rows → Ready more next
ready_as prior more rows next same put ready = subst (λ (l : List PriorRow). Ready l next) (sym same) (subst (λ (n : Rows). Ready prior n) (sym put) ready)

pub laid_first : (all first : Rows) → Rising first → Laying all first all first []
laid_first all first ordered = record { put = refl; noted = refl; back = refl; there = tt; ordered = ordered }

-- at the end all are put
pub laid_put : (all first left rows : Rows) (prior : List PriorRow) → left ≡ [] → Laying all first left rows prior → rows ≡ put_rows all first
laid_put all first left rows prior e inv = sym (ap (λ (l : Rows). put_rows l rows) e) ∙ inv.put

pub laid_prior : (all first left rows : Rows) (prior : List PriorRow) → left ≡ [] → Laying all first left rows prior → prior ≡ prior_of all first
laid_prior all first left rows prior e inv = sym (append-nil prior) ∙ sym (ap (λ (l : Rows). prior ++ prior_of l rows) e) ∙ inv.noted
