-- The report of a step is just what changed.
use Rattle.std.proofs.Common.{◌≡◌, ℕ, List, [], ◌∷◌, ◌++◌, Bool, true, false, cond, not, ◌&&◌, ◌||◌, map, Option, Some, None, unwrap_or, refl, sym, ap, ◌∙◌, subst}
use Rattle.std.specs.Option.{IsSome, is_some}
use Rattle.std.specs.Ordering.{is_eq}
use Rattle.std.specs.declared.cmp.Ordering.{Ordering}
use Rattle.std.specs.declared.cmp.Ordering.TheVariants.{Less, Equal, Greater}
use Rattle.std.specs.List.{AllByRecursion, list_any}
use Rattle.std.specs.List.Sorted.{IsStrictlySortedBy}
use Rattle.std.specs.Map.{keys_of}
use Rattle.std.proofs.lemmas.Bool.{false≢true}
use Rattle.std.proofs.lemmas.List.Concat.{flat_map-cons}
use Rattle.hk_copy.specs.Batches.{key_cmp}
use Rattle.hk_key.specs.declared.row.Row.{Row}
use Rattle.hk_key.specs.Table.{first_row}
use Rattle.hk_key.specs.Same.{is_same_row}
use Rattle.hk_key.proofs.SameNotes.{each_is_same}
use Rattle.hk_node.specs.declared.report.PriorRow.{PriorRow}
use Rattle.hk_node.specs.declared.report.Report.{Report}
use Rattle.hk_node.specs.Rows.{Rows, find_row, row_at}
use Rattle.hk_node.specs.Node.{NodeState, epoch_of}
use Rattle.hk_node.specs.Report.{AreChanged, is_changed, prior_at, changed_rows, report, rows_report}
use Rattle.hk_node.proofs.Order.{Key, Lt, lt_trans, Rising, same_not, equal_keys, gt_lt, lt_ne_back, find_here, find_next}
use Rattle.hk_node.proofs.Placed.{below_first, each_found}

-- ---- the keys that differ are those that are listed
-- the row of a listed key differs
abbrev Differs : Rows → Rows → PriorRow → Type 0
Differs old new f = (find_row f.key old ≡ f.row) × (is_same_row (row_at f.key old) (row_at f.key new) ≡ false) × IsSome (find_row f.key new)

abbrev is_listed : Key → List PriorRow → Bool
is_listed key prior = list_any (λ (f : PriorRow). is_eq (key_cmp key f.key)) prior

-- the row of a key that is not listed is the same
abbrev Stays : Rows → List PriorRow → Key × Row → Type 0
Stays old prior r = is_listed r.0 prior ≡ false → is_same_row (row_at r.0 old) r.1 ≡ true

abbrev Sorted : List PriorRow → Type 0
Sorted prior = IsStrictlySortedBy key_cmp (map (λ (f : PriorRow). f.key) prior)

abbrev Behind : Key → List PriorRow → Type 0
Behind low prior = AllByRecursion (λ k. Lt low k) (map (λ (f : PriorRow). f.key) prior)

none_there : (key : Key) (rows : Rows) → find_row key rows ≡ None → IsSome (find_row key rows) → ⊥
none_there key rows none there = false≢true (sym (ap is_some none) ∙ there)

listed_not : (key : Key) (prior : List PriorRow) → Behind key prior → is_listed key prior ≡ false
listed_not key [] behind = refl
listed_not key (f ∷ prior) behind = rw (same_not key f.key (λ e. lt_ne_back key f.key behind.0 (sym e)), listed_not key prior behind.1) refl

-- without the first row
past : (old : Rows) (r : Key × Row) (new : Rows) (prior : List PriorRow) → Behind r.0 prior → AllByRecursion (Differs old (r ∷ new)) prior → AllByRecursion (Differs old new) prior
past old r new [] behind all = tt
past old r new (f ∷ prior) behind all =
    let next = find_next f.key r new (lt_ne_back r.0 f.key behind.0) in (
      (all.0.0, sym (ap (λ (o : Option Row). is_same_row (row_at f.key old) (unwrap_or o first_row)) next) ∙ all.0.1, subst IsSome next all.0.2),
      past old r new prior behind.1 all.1,
    )

-- without the first listed key
stays_past : (old : Rows) (f : PriorRow) (prior : List PriorRow) (rows : Rows) → AllByRecursion (λ k. Lt f.key k) (keys_of rows) → AllByRecursion (Stays old (f ∷ prior)) rows → AllByRecursion (Stays old prior) rows
stays_past old f prior [] above all = tt
stays_past old f prior (r ∷ rows) above all = (
  (λ none. all.0 (ap (λ (b : Bool). b || is_listed r.0 prior) (same_not r.0 f.key (lt_ne_back f.key r.0 above.0)) ∙ none)),
  stays_past old f prior rows above.1 all.1,
)

abbrev changed_of : Bool → Rows → Key → List PriorRow
changed_of b old key = cond b (prior_at old key ∷ []) []

listed_are : (old new : Rows) (prior : List PriorRow) → Rising new → Sorted prior → AllByRecursion (Differs old new) prior → AllByRecursion (Stays old prior) new → prior ≡ changed_rows old new
unfolding IsStrictlySortedBy
listed_are old [] [] rising sorted differ stay = refl
listed_are old [] (f ∷ prior) rising sorted differ stay = absurd (false≢true differ.0.2)
listed_are old (r ∷ new) [] rising sorted differ stay = listed_are old new [] rising.1 tt tt stay.1
    ∙ sym (flat_map-cons (λ x. changed_of (is_changed old x) old x.0) r new ∙ ap (λ (b : Bool). changed_of (not b) old r.0 ++ changed_rows old new) (stay.0 refl))
listed_are old (r ∷ new) (f ∷ prior) rising sorted differ stay = by_order (key_cmp f.key r.0) refl
    (λ e. listed_are old new prior rising.1 sorted.1
    (past old r new prior (subst (λ (k : Key). Behind k prior) e sorted.0) differ.1)
    (stays_past old f prior new (subst (λ (k : Key). AllByRecursion (λ q. Lt k q) (keys_of new)) (sym e) rising.0) stay.1))
    (λ behind. listed_are old new (f ∷ prior) rising.1 sorted (past old r new (f ∷ prior) behind differ) stay.1)
  where
    cons : changed_rows old (r ∷ new) ≡ changed_of (is_changed old r) old r.0 ++ changed_rows old new
    cons = flat_map-cons (λ x. changed_of (is_changed old x) old x.0) r new

    behind_from : (low high : Key) (fs : List PriorRow) → Lt low high → Behind high fs → Behind low fs
    behind_from low high [] lt all = tt
    behind_from low high (g ∷ fs) lt all = (lt_trans low high g.key lt all.0, behind_from low high fs lt all.1)

    by_order : (o : Ordering) → key_cmp f.key r.0 ≡ o → (f.key ≡ r.0 → prior ≡ changed_rows old new) → (Behind r.0 (f ∷ prior) → f ∷ prior ≡ changed_rows old new) →
        f ∷ prior ≡ changed_rows old (r ∷ new)
    by_order Less e here more = absurd (none_there f.key (r ∷ new) (below_first f.key r new rising e) differ.0.2)
    by_order Equal e here more =
        let at : f.key ≡ r.0 = equal_keys f.key r.0 e in
        let found : row_at f.key (r ∷ new) ≡ r.1 = ap (λ (o : Option Row). unwrap_or o first_row) (find_here f.key r new at) in
        let differs : is_same_row (row_at r.0 old) r.1 ≡ false = subst (λ (k : Key). is_same_row (row_at k old) r.1 ≡ false) at (sym (ap (λ (x : Row). is_same_row (row_at f.key old) x) found) ∙ differ.0.1) in
        let one : f ≡ prior_at old r.0 = sym (ap (λ (o : Option Row). record { key = f.key; row = o }) differ.0.0) ∙ ap (prior_at old) at in
        ap (λ (x : PriorRow). x ∷ prior) one ∙ ap (λ l. prior_at old r.0 ∷ l) (here at)
        ∙ sym (cons ∙ ap (λ (b : Bool). changed_of (not b) old r.0 ++ changed_rows old new) differs)
    by_order Greater e here more =
        let lt : Lt r.0 f.key = gt_lt f.key r.0 e in
        let behind : Behind r.0 (f ∷ prior) = (lt, behind_from r.0 f.key prior lt sorted.0) in
        more behind ∙ sym (cons ∙ ap (λ (b : Bool). changed_of (not b) old r.0 ++ changed_rows old new) (stay.0 (listed_not r.0 (f ∷ prior) behind)))

each_stays : (old new : Rows) (prior : List PriorRow) → ((key : Key) → is_listed key prior ≡ false → find_row key new ≡ find_row key old) → (rows : Rows) →
    AllByRecursion (λ (r : Key × Row). find_row r.0 new ≡ Some r.1) rows → AllByRecursion (Stays old prior) rows
each_stays old new prior others [] all = tt
each_stays old new prior others (r ∷ rows) all = (
  (λ none. ap (λ (x : Row). is_same_row x r.1) (ap (λ (o : Option Row). unwrap_or o first_row) (sym (others r.0 none) ∙ all.0)) ∙ each_is_same r.1),
  each_stays old new prior others rows all.1,
)

both_differ : (old new : Rows) (prior : List PriorRow) → AllByRecursion (λ f. (find_row f.key old ≡ f.row) × (is_same_row (row_at f.key old) (row_at f.key new) ≡ false)) prior →
    AllByRecursion (λ f. IsSome (find_row f.key new)) prior → AllByRecursion (Differs old new) prior
both_differ old new [] differ there = tt
both_differ old new (f ∷ prior) differ there = ((differ.0.0, differ.0.1, there.0), both_differ old new prior differ.1 there.1)

-- what is listed just as it changed is what the report has
pub changed_are : (old new : Rows) (prior : List PriorRow) → Rising new → AreChanged prior old new → prior ≡ changed_rows old new
changed_are old new prior rising are = listed_are old new prior rising are.rising (both_differ old new prior are.differ are.there) (each_stays old new prior are.others new (each_found new rising))

-- ---- the report
not_readied : (b : Bool) → not b && b ≡ false
not_readied true = refl
not_readied false = refl

-- of a step that leaves whether the node is ready
pub reported : (old new : NodeState) (prior : List PriorRow) → new.ready ≡ old.ready → Rising new.rows → AreChanged prior old.rows new.rows → rows_report old prior ≡ report old new
reported old new prior same rising are =
    ap (λ (l : List PriorRow). rows_report old l) (changed_are old.rows new.rows prior rising are)
    ∙ ap (λ (b : Bool). record { epoch = epoch_of old; readied = b; rows = changed_rows old.rows new.rows }) (sym (ap (λ (b : Bool). not old.ready && b) same ∙ not_readied old.ready))

-- of a step by which a node that was not ready may become it
pub reported_ready : (old new : NodeState) (prior : List PriorRow) (made : Report) → old.ready ≡ false → Rising new.rows → AreChanged prior old.rows new.rows →
    made ≡ record { epoch = epoch_of old; readied = new.ready; rows = prior } → made ≡ report old new
reported_ready old new prior made unready rising are is = is
    ∙ ap (λ (l : List PriorRow). record { epoch = epoch_of old; readied = new.ready; rows = l }) (changed_are old.rows new.rows prior rising are)
    ∙ ap (λ (b : Bool). record { epoch = epoch_of old; readied = b; rows = changed_rows old.rows new.rows }) (sym (ap (λ (b : Bool). not b && new.ready) unready))

-- a report that the code made, of a node as its fields have it
pub report_as : (inside node : NodeState) (epoch : ℕ) (readied : Bool) (rows prior : List PriorRow) → inside ≡ node → epoch ≡ epoch_of node → rows ≡ prior →
    ◌≡◌ {A = Report} (record { epoch = epoch; readied = readied; rows = rows }) (record { epoch = epoch_of inside; readied = readied; rows = prior })
report_as inside node epoch readied rows prior same at is =
    ap (λ (e : ℕ). record { epoch = e; readied = readied; rows = rows }) (at ∙ sym (ap epoch_of same))
    ∙ ap (λ (l : List PriorRow). record { epoch = epoch_of inside; readied = readied; rows = l }) is
