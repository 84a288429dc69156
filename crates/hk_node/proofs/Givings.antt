-- Prior rows that are given back, from the last to the first.
use Rattle.std.proofs.Common.{◌≡◌, ◌≢◌, List, [], ◌∷◌, ◌++◌, map, Option, Some, None, refl, sym, ap, ◌∙◌, subst}
use Rattle.std.specs.Option.{IsSome}
use Rattle.std.specs.List.{AllByRecursion}
use Rattle.std.specs.List.Sorted.{IsStrictlySortedBy}
use Rattle.hk_copy.specs.Batches.{key_cmp}
use Rattle.hk_key.specs.declared.row.Row.{Row}
use Rattle.hk_node.specs.declared.report.PriorRow.{PriorRow}
use Rattle.hk_node.specs.Rows.{Rows, find_row}
use Rattle.hk_node.specs.Report.{row_rolled_back, rows_rolled_back}
use Rattle.hk_node.proofs.Order.{Key, Lt, lt_ne, find-put_other}
use Rattle.hk_node.proofs.Placed.{find-remove_other}

abbrev pub Rising : List PriorRow → Type 0
Rising prior = IsStrictlySortedBy key_cmp (map (λ f. f.key) prior)

-- each of these keys has a row
abbrev pub There : List PriorRow → Rows → Type 0
There prior rows = AllByRecursion (λ f. IsSome (find_row f.key rows)) prior

-- a list of prior rows that can be given back
pub record Ready (prior : List PriorRow) (rows : Rows) : Type 0 where
  pub rising : Rising prior
  pub there : There prior rows

pub given_last : (prior : List PriorRow) (f : PriorRow) (rows : Rows) → rows_rolled_back (prior ++ f ∷ []) rows ≡ rows_rolled_back prior (row_rolled_back f.key f.row rows)
given_last [] f rows = refl
given_last (g ∷ prior) f rows = ap (row_rolled_back g.key g.row) (given_last prior f rows)

pub find-given_other : (key k : Key) (row : Option Row) (rows : Rows) → key ≢ k → find_row key (row_rolled_back k row rows) ≡ find_row key rows
find-given_other key k None rows ne = find-remove_other key k rows ne
find-given_other key k (Some row) rows ne = find-put_other key k row rows ne

below_last : (g f : PriorRow) (prior : List PriorRow) → AllByRecursion (λ k. Lt g.key k) (map (λ x. x.key) (prior ++ f ∷ [])) → Lt g.key f.key
below_last g f [] all = all.0
below_last g f (h ∷ prior) all = below_last g f prior all.1

but_last : (g f : PriorRow) (prior : List PriorRow) → AllByRecursion (λ k. Lt g.key k) (map (λ x. x.key) (prior ++ f ∷ [])) → AllByRecursion (λ k. Lt g.key k) (map (λ x. x.key) prior)
but_last g f [] all = tt
but_last g f (h ∷ prior) all = (all.0, but_last g f prior all.1)

rising_but_last : (prior : List PriorRow) (f : PriorRow) → Rising (prior ++ f ∷ []) → Rising prior
unfolding IsStrictlySortedBy
rising_but_last [] f rising = tt
rising_but_last (g ∷ prior) f rising = (but_last g f prior rising.0, rising_but_last prior f rising.1)

there_but_last : (prior : List PriorRow) (f : PriorRow) (rows : Rows) → Rising (prior ++ f ∷ []) → There (prior ++ f ∷ []) rows → There prior (row_rolled_back f.key f.row rows)
unfolding IsStrictlySortedBy
there_but_last [] f rows rising there = tt
there_but_last (g ∷ prior) f rows rising there = (
  subst IsSome (sym (find-given_other g.key f.key f.row rows (lt_ne g.key f.key (below_last g f prior rising.0)))) there.0,
  there_but_last prior f rows rising.1 there.1,
)

-- the last one is there, and behind its giving back the others can be given back
pub last_there : (prior : List PriorRow) (f : PriorRow) (rows : Rows) → There (prior ++ f ∷ []) rows → IsSome (find_row f.key rows)
last_there [] f rows there = there.0
last_there (g ∷ prior) f rows there = last_there prior f rows there.1

pub ready_but_last : (prior : List PriorRow) (f : PriorRow) (rows : Rows) → Ready (prior ++ f ∷ []) rows → Ready prior (row_rolled_back f.key f.row rows)
ready_but_last prior f rows ready = record { rising = rising_but_last prior f ready.rising; there = there_but_last prior f rows ready.rising ready.there }

-- one turn: the last one is given back
pub given_turn : (whole : Rows) (prior rest : List PriorRow) (f : PriorRow) (rows next : Rows) → prior ≡ rest ++ f ∷ [] → next ≡ row_rolled_back f.key f.row rows →
    (rows_rolled_back prior rows ≡ whole) × Ready prior rows → (rows_rolled_back rest next ≡ whole) × Ready rest next
given_turn whole prior rest f rows next is made inv =
    let at : (rows_rolled_back (rest ++ f ∷ []) rows ≡ whole) × Ready (rest ++ f ∷ []) rows =
    subst (λ (l : List PriorRow). (rows_rolled_back l rows ≡ whole) × Ready l rows) is inv in
    subst (λ (n : Rows). (rows_rolled_back rest n ≡ whole) × Ready rest n) (sym made)
    (sym (given_last rest f rows) ∙ at.0, ready_but_last rest f rows at.1)
