-- Publications one after the other: what is in each cell then, that each may be published, and that the lists rise.
use Rattle.std.proofs.Common.{◌≡◌, ◌≢◌, ◌<◌, ◌≤◌, ◌==◌, ℕ, List, [], ◌∷◌, ◌++◌, length, map, set, get_or, Bool, true, false, cond, Option, refl, sym, ap, ◌∙◌, subst, arith, inl, inr, append_assoc, length-set, get_or-set_other, get_or-set_same, zero, suc}
use Rattle.std.specs.Prelude.{⊤, slice_set}
use Rattle.std.specs.List.{filter, AllByRecursion}
use Rattle.std.specs.List.Sorted.{IsStrictlySortedBy}
use Rattle.std.proofs.lemmas.List.{append-nil}
use Rattle.std.proofs.lemmas.Map.Keys.{sorted_head, sorted_tail}
use Rattle.std.proofs.lemmas.Bool.Decides.{nat_tests}
use Rattle.std.specs.declared.cmp.Ordering.TheVariants.{Less}
use Rattle.hk_base.specs.Range.{IsWithin}
use Rattle.hk_base.specs.declared.call.CallNo.{CallNo}
use Rattle.hk_copy.specs.Batches.{key_cmp}
use Rattle.hk_node.specs.declared.report.PriorRow.{PriorRow}
use Rattle.hk_node.specs.Rows.{Rows, row_at}
use Rattle.hk_snap.specs.declared.rule.Publication.{Publication}
use Rattle.hk_snap.specs.Snapshots.{cell_of, published, IsBefore, IsNext, IsRising}
use Rattle.hk_snap.specs.Ends.{End, at, names, seen_at, no_name, writing_end, with_publication}
use Rattle.hk_snap.proofs.Shows.{rising_more}
use Rattle.hk_shard.specs.Shown.{is_in}
use Rattle.hk_shard.specs.Publishing.{publications, with_all, MayBePublished}

-- ---- what is in each cell
names_set : (ends : List End) (k : ℕ) (d e : End) → e.name ≡ (get_or ends k d).name → names (set ends k e) ≡ names ends
names_set [] k d e is = refl
names_set (x ∷ ends) zero d e is = ap (λ n. n ∷ names ends) is
names_set (x ∷ ends) (suc k) d e is = ap (λ l. x.name ∷ l) (names_set ends k d e is)

pub names_all : (ends : List End) (ps : List Publication) → names (with_all ends ps) ≡ names ends
names_all ends [] = refl
names_all ends (p ∷ ps) = names_all (with_publication ends p) ps ∙ names_set ends (cell_of p.key) (writing_end no_name []) (writing_end (at ends (cell_of p.key)).name (seen_at ends (cell_of p.key) ++ p ∷ [])) refl

long_one : (ends : List End) (p : Publication) → length (with_publication ends p) ≡ length ends
long_one ends p = length-set ends (cell_of p.key) (writing_end (at ends (cell_of p.key)).name (seen_at ends (cell_of p.key) ++ p ∷ []))

pub long_all : (ends : List End) (ps : List Publication) → length (with_all ends ps) ≡ length ends
long_all ends [] = refl
long_all ends (p ∷ ps) = long_all (with_publication ends p) ps ∙ long_one ends p

seen_by : (test : Bool) (ends : List End) (k cell : ℕ) (e : End) (p : Publication) → e.seen ≡ seen_at ends k ++ p ∷ [] → k < length ends → (test ≡ true → k ≡ cell) → (test ≡ false → cell ≢ k)
    → seen_at (slice_set ends k e) cell ≡ seen_at ends cell ++ cond test (p ∷ []) []
seen_by true ends k cell e p seen below is apart =
    subst (λ j. seen_at (slice_set ends k e) j ≡ seen_at ends j ++ p ∷ []) (is refl) (ap (λ x. x.seen) (get_or-set_same ends k e (writing_end no_name []) below) ∙ seen)
seen_by false ends k cell e p seen below is apart =
    ap (λ x. x.seen) (get_or-set_other ends k cell e (writing_end no_name []) (apart refl)) ∙ sym (append-nil (seen_at ends cell))

pub seen_one : (ends : List End) (p : Publication) (cell : ℕ) → length ends ≡ 32 → seen_at (with_publication ends p) cell ≡ seen_at ends cell ++ cond (is_in cell p.key) (p ∷ []) []
seen_one ends p cell long =
    let k : ℕ = cell_of p.key in
    let below : k < length ends = omega (arith, long) in
    seen_by (k == cell) ends k cell (writing_end (at ends k).name (seen_at ends k ++ p ∷ [])) p refl below (λ e. grind (arith, nat_tests)) (λ e. grind (arith, nat_tests))

seen_on : (test : Bool) (seen rest : List Publication) (p : Publication) → (seen ++ cond test (p ∷ []) []) ++ rest ≡ seen ++ cond test (p ∷ rest) rest
seen_on true seen rest p = append_assoc seen (p ∷ []) rest
seen_on false seen rest p = ap (λ l. l ++ rest) (append-nil seen)

pub seen_all : (ends : List End) (ps : List Publication) (cell : ℕ) → length ends ≡ 32 → seen_at (with_all ends ps) cell ≡ seen_at ends cell ++ filter (λ p. is_in cell p.key) ps
seen_all ends [] cell long = sym (append-nil (seen_at ends cell))
seen_all ends (p ∷ ps) cell long =
    seen_all (with_publication ends p) ps cell (long_one ends p ∙ long)
    ∙ (ap (λ l. l ++ filter (λ q. is_in cell q.key) ps) (seen_one ends p cell long) ∙ seen_on (is_in cell p.key) (seen_at ends cell) (filter (λ q. is_in cell q.key) ps) p)

-- ---- each may be published
next_all : (seen : List Publication) (p : Publication) → AllByRecursion (λ q. IsBefore q p) seen → IsNext seen p
next_all [] p all = tt
next_all (q ∷ []) p all = all.0
next_all (q ∷ r ∷ seen) p all = next_all (r ∷ seen) p all.1

-- whatever was published may come before all of these
abbrev ComesBefore : List End → List Publication → Type 0
ComesBefore ends ps = (cell : ℕ) → AllByRecursion (λ q. AllByRecursion (IsBefore q) ps) (seen_at ends cell)

abbrev InTurn : List Publication → Type 0
InTurn [] = ⊤
InTurn (p ∷ ps) = AllByRecursion (IsBefore p) ps × InTurn ps

firsts : (seen : List Publication) (p : Publication) (ps : List Publication) → AllByRecursion (λ q. AllByRecursion (IsBefore q) (p ∷ ps)) seen → AllByRecursion (λ q. IsBefore q p) seen
firsts [] p ps all = tt
firsts (q ∷ seen) p ps all = (all.0.0, firsts seen p ps all.1)

others : (seen : List Publication) (p : Publication) (ps more : List Publication) → AllByRecursion (λ q. AllByRecursion (IsBefore q) (p ∷ ps)) seen
    → AllByRecursion (λ q. AllByRecursion (IsBefore q) ps) more → AllByRecursion (λ q. AllByRecursion (IsBefore q) ps) (seen ++ more)
others [] p ps more all last = last
others (q ∷ seen) p ps more all last = (all.0.1, others seen p ps more all.1 last)

added : (test : Bool) (p : Publication) (ps : List Publication) → AllByRecursion (IsBefore p) ps → AllByRecursion (λ q. AllByRecursion (IsBefore q) ps) (cond test (p ∷ []) [])
added true p ps all = (all, tt)
added false p ps all = tt

may : (ends : List End) (ps : List Publication) → length ends ≡ 32 → ComesBefore ends ps → InTurn ps → AllByRecursion (λ p. IsWithin p.row.stamp) ps → MayBePublished ends ps
may ends [] long before turns within = tt
may ends (p ∷ ps) long before turns within = (
  next_all (seen_at ends (cell_of p.key)) p (firsts (seen_at ends (cell_of p.key)) p ps (before (cell_of p.key))),
  within.0,
  may (with_publication ends p) ps (long_one ends p ∙ long) rest turns.1 within.1,
)
  where
    rest : ComesBefore (with_publication ends p) ps
    rest cell = subst (AllByRecursion (λ q. AllByRecursion (IsBefore q) ps)) (sym (seen_one ends p cell long))
        (others (seen_at ends cell) p ps (cond (is_in cell p.key) (p ∷ []) []) (before cell) (added (is_in cell p.key) p ps turns.0))

-- ---- those of a step, whose ticket is above what was published
module _ (rows : Rows) (ticket : ℕ) (call : Option CallNo) where
  below_all : (q : Publication) (prior : List PriorRow) → q.ticket < ticket → AllByRecursion (IsBefore q) (publications rows ticket call prior)
  below_all q [] below = tt
  below_all q (f ∷ prior) below = (inl below, below_all q prior below)

  all_below : (seen : List Publication) (last : ℕ) (prior : List PriorRow) → last < ticket → AllByRecursion (λ q. q.ticket ≤ last) seen
      → AllByRecursion (λ q. AllByRecursion (IsBefore q) (publications rows ticket call prior)) seen
  all_below [] last prior up all = tt
  all_below (q ∷ seen) last prior up all = (below_all q prior (omega (arith, all.0)), all_below seen last prior up all.1)

  by_key : (f : PriorRow) (prior : List PriorRow) → AllByRecursion (λ k. key_cmp f.key k ≡ Less) (map (λ g. g.key) prior)
      → AllByRecursion (IsBefore (published f.key (row_at f.key rows) ticket call)) (publications rows ticket call prior)
  by_key f [] all = tt
  by_key f (g ∷ prior) all = (inr (refl, all.0), by_key f prior all.1)

  in_turn : (prior : List PriorRow) → IsStrictlySortedBy key_cmp (map (λ f. f.key) prior) → InTurn (publications rows ticket call prior)
  in_turn [] sorted = tt
  in_turn (f ∷ prior) sorted = (
    by_key f prior (sorted_head key_cmp f.key (map (λ g. g.key) prior) sorted),
    in_turn prior (sorted_tail key_cmp f.key (map (λ g. g.key) prior) sorted),
  )

  all_within : (prior : List PriorRow) → ((key : List ℕ) → IsWithin (row_at key rows).stamp) → AllByRecursion (λ p. IsWithin p.row.stamp) (publications rows ticket call prior)
  all_within [] within = tt
  all_within (f ∷ prior) within = (within f.key, all_within prior within)

  pub may_be_published : (ends : List End) (last : ℕ) (prior : List PriorRow) → length ends ≡ 32 → last < ticket → ((cell : ℕ) → AllByRecursion (λ q. q.ticket ≤ last) (seen_at ends cell))
      → IsStrictlySortedBy key_cmp (map (λ f. f.key) prior) → ((key : List ℕ) → IsWithin (row_at key rows).stamp) → MayBePublished ends (publications rows ticket call prior)
  may_be_published ends last prior long up tickets sorted within = may ends (publications rows ticket call prior) long
      (λ cell. all_below (seen_at ends cell) last prior up (tickets cell)) (in_turn prior sorted) (all_within prior within)

-- ---- and the lists rise
same_cell : (a b : ℕ) → (a == b) ≡ true → a ≡ b
same_cell a b e = grind (arith, nat_tests, e)

rising_by : (test : Bool) (seen : List Publication) (p : Publication) → IsRising seen → (test ≡ true → IsNext seen p) → IsRising (seen ++ cond test (p ∷ []) [])
rising_by true seen p rises next = rising_more seen p rises (next refl)
rising_by false seen p rises next = subst IsRising (sym (append-nil seen)) rises

pub rising_all : (ends : List End) (ps : List Publication) → length ends ≡ 32 → ((cell : ℕ) → IsRising (seen_at ends cell)) → MayBePublished ends ps
    → (cell : ℕ) → IsRising (seen_at (with_all ends ps) cell)
rising_all ends [] long rises next cell = rises cell
rising_all ends (p ∷ ps) long rises next cell = rising_all (with_publication ends p) ps (long_one ends p ∙ long) rest next.2 cell
  where
    rest : (k : ℕ) → IsRising (seen_at (with_publication ends p) k)
    rest k = subst IsRising (sym (seen_one ends p k long))
        (rising_by (is_in k p.key) (seen_at ends k) p (rises k) (λ here. subst (λ j. IsNext (seen_at ends j) p) (same_cell (cell_of p.key) k here) next.0))
