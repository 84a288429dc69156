-- What a step publishes is what its entry shows, and what was published last of each key is its row.
use Rattle.std.proofs.Common.{◌≡◌, ◌⊎◌, ◌||◌, ℕ, List, [], ◌∷◌, ◌++◌, map, Bool, true, false, cond, if◌then◌else◌, Option, Some, None, unwrap_or, refl, sym, ap, ◌∙◌, subst, inl, inr, ⊎_elim, append_assoc, eq-eqb}
use Rattle.std.specs.List.{filter, list_any, AllByRecursion}
use Rattle.std.specs.List.Sorted.{IsStrictlySortedBy}
use Rattle.std.specs.Map.{keys_of}
use Rattle.std.proofs.lemmas.List.{append-nil, map-append}
use Rattle.std.proofs.lemmas.Map.Keys.{sorted_head, sorted_tail}
use Rattle.std.specs.declared.cmp.Ordering.TheVariants.{Less}
use Rattle.hk_base.specs.declared.call.CallNo.{CallNo}
use Rattle.hk_copy.specs.Batches.{key_cmp}
use Rattle.hk_key.specs.declared.row.Row.{Row}
use Rattle.hk_key.specs.Table.{first_row}
use Rattle.hk_node.specs.declared.report.PriorRow.{PriorRow}
use Rattle.hk_node.specs.Rows.{Rows, find_row}
use Rattle.hk_node.specs.Report.{is_changed, prior_at, changed_rows}
use Rattle.hk_node.specs.Node.{NodeState}
use Rattle.hk_node.specs.Sound.{IsNode, IsNodeEvent}
use Rattle.hk_node.proofs.Order.{same_key, same_true, find_here, find_next, lt_ne_back}
use Rattle.hk_node.proofs.KeepsMore.{step_keeps_node}
use Rattle.hk_journal.specs.declared.step_entry.JournalEntry.{JournalEntry}
use Rattle.hk_journal.specs.Journal.{ShownRow, after, replay, call_of, changed, shown_by, published as shown_rows}
use Rattle.hk_journal.proofs.Joined.{shown_is_joined, changed_are_reported, changed_are_all}
use Rattle.hk_snap.specs.declared.rule.Publication.{Publication}
use Rattle.hk_snap.specs.Snapshots.{cell_of, published}
use Rattle.hk_shard.specs.Shown.{publication, is_in, shown_in, last_row, Covers}
use Rattle.hk_shard.specs.Publishing.{publications}

-- ---- each row is found at its key
past : (r : List ℕ × Row) (rows xs : Rows) → AllByRecursion (λ k. key_cmp r.0 k ≡ Less) (keys_of xs) → AllByRecursion (λ (q : List ℕ × Row). find_row q.0 rows ≡ Some q.1) xs
    → AllByRecursion (λ (q : List ℕ × Row). find_row q.0 (r ∷ rows) ≡ Some q.1) xs
past r rows [] above found = tt
past r rows (q ∷ xs) above found = (find_next q.0 r rows (lt_ne_back r.0 q.0 above.0) ∙ found.0, past r rows xs above.1 found.1)

all_found : (rows : Rows) → IsStrictlySortedBy key_cmp (keys_of rows) → AllByRecursion (λ (r : List ℕ × Row). find_row r.0 rows ≡ Some r.1) rows
all_found [] sorted = tt
all_found (r ∷ rows) sorted = (
  find_here r.0 r rows refl,
  past r rows rows (sorted_head key_cmp r.0 (keys_of rows) sorted) (all_found rows (sorted_tail key_cmp r.0 (keys_of rows) sorted)),
)

-- ---- what is published is what the entry shows
abbrev pub shown_of : ℕ → Option CallNo → List ℕ × Row → ShownRow
shown_of ticket call r = record { key = r.0; row = r.1; ticket = ticket; call = call }

module _ (old new : Rows) (ticket : ℕ) (call : Option CallNo) where
  shown_one : (b : Bool) (x : List ℕ × Row) (prior : List PriorRow) (rest : Rows) → find_row x.0 new ≡ Some x.1
      → publications new ticket call prior ≡ map publication (map (shown_of ticket call) rest)
      → publications new ticket call ((if b then prior_at old x.0 ∷ [] else []) ++ prior) ≡ map publication (map (shown_of ticket call) (cond b (x ∷ rest) rest))
  shown_one true x prior rest found more =
      ap (λ row. published x.0 row ticket call ∷ publications new ticket call prior) (ap (λ o. unwrap_or o first_row) found)
      ∙ ap (λ l. published x.0 x.1 ticket call ∷ l) more
  shown_one false x prior rest found more = more

  are_shown : (xs : Rows) → AllByRecursion (λ (r : List ℕ × Row). find_row r.0 new ≡ Some r.1) xs
      → publications new ticket call (changed_rows old xs) ≡ map publication (map (shown_of ticket call) (changed old xs))
  are_shown [] found = refl
  are_shown (x ∷ xs) found = shown_one (is_changed old x) x (changed_rows old xs) (changed old xs) found.0 (are_shown xs found.1)

filter_one : (cell : ℕ) (b : Bool) (s : ShownRow) (xs : List ShownRow)
    → cond b (publication s ∷ map publication xs) (map publication xs) ≡ map publication (cond b (s ∷ xs) xs)
filter_one cell true s xs = refl
filter_one cell false s xs = refl

filter_shown : (cell : ℕ) (xs : List ShownRow) → filter (λ p. is_in cell p.key) (map publication xs) ≡ map publication (filter (λ s. is_in cell s.key) xs)
filter_shown cell [] = refl
filter_shown cell (s ∷ xs) = ap (λ l. cond (is_in cell s.key) (publication s ∷ l) l) (filter_shown cell xs) ∙ filter_one cell (is_in cell s.key) s (filter (λ s. is_in cell s.key) xs)

pub step_shown : (cell : ℕ) (node : NodeState) (entry : JournalEntry) → IsNode (after node entry)
    → filter (λ p. is_in cell p.key) (publications (after node entry).rows entry.ticket (call_of entry.event) (changed_rows node.rows (after node entry).rows))
    ≡ shown_in cell node (entry ∷ [])
step_shown cell node entry ok =
    let new : Rows = (after node entry).rows in
    ap (filter (λ p. is_in cell p.key)) (are_shown node.rows new entry.ticket (call_of entry.event) new (all_found new ok.ordered))
    ∙ (filter_shown cell (shown_by node entry) ∙ ap (map publication) (sym (append-nil (filter (λ s. is_in cell s.key) (shown_by node entry)))))

pub shown_joined : (cell : ℕ) (base : NodeState) (front back : List JournalEntry) → shown_in cell base (front ++ back) ≡ shown_in cell base front ++ shown_in cell (replay base front) back
shown_joined cell base front back =
    ap (map publication) (shown_is_joined (is_in cell) base front back) ∙ map-append publication (shown_rows (is_in cell) base front) (shown_rows (is_in cell) (replay base front) back)

-- ---- what was published last is the row
last_joined : (key : List ℕ) (front back : List Publication) (row : Option Row) → last_row key (front ++ back) row ≡ last_row key back (last_row key front row)
last_joined key [] back row = refl
last_joined key (p ∷ front) back row = last_joined key front back (if same_key key p.key then Some p.row else row)

found_by : (new : Rows) (ticket : ℕ) (call : Option CallNo) (b : Bool) (x : List ℕ × Row) (rest : Rows) → find_row x.0 new ≡ Some x.1
    → AllByRecursion (λ (s : ShownRow). find_row s.key new ≡ Some s.row) (map (shown_of ticket call) rest)
    → AllByRecursion (λ (s : ShownRow). find_row s.key new ≡ Some s.row) (map (shown_of ticket call) (cond b (x ∷ rest) rest))
found_by new ticket call true x rest found more = (found, more)
found_by new ticket call false x rest found more = more

found_shown : (old new xs : Rows) (ticket : ℕ) (call : Option CallNo) → AllByRecursion (λ (r : List ℕ × Row). find_row r.0 new ≡ Some r.1) xs
    → AllByRecursion (λ (s : ShownRow). find_row s.key new ≡ Some s.row) (map (shown_of ticket call) (changed old xs))
found_shown old new [] ticket call found = tt
found_shown old new (x ∷ xs) ticket call found = found_by new ticket call (is_changed old x) x (changed old xs) found.0 (found_shown old new xs ticket call found.1)

stays_by : (c : Bool) (row : Option Row) (v : Option Row) → cond c (cond false row v) v ≡ v
stays_by true row v = refl
stays_by false row v = refl

module _ (key : List ℕ) (cell : ℕ) (here : cell_of key ≡ cell) (new : Rows) where
  abbrev picked : List ShownRow → List Publication
  picked xs = map publication (filter (λ s. is_in cell s.key) xs)

  abbrev IsLast : List ShownRow → Option Row → Type 0
  IsLast xs row = ((list_any (λ (s : ShownRow). same_key key s.key) xs ≡ false) × (last_row key (picked xs) row ≡ row)) ⊎ (last_row key (picked xs) row ≡ find_row key new)

  head_is : (c : Bool) (x : ShownRow) (rest : List ShownRow) (row : Option Row)
      → last_row key (map publication (cond c (x ∷ rest) rest)) row ≡ last_row key (map publication rest) (cond c (cond (same_key key x.key) (Some x.row) row) row)
  head_is true x rest row = refl
  head_is false x rest row = refl

  is_last : (xs : List ShownRow) → AllByRecursion (λ (s : ShownRow). find_row s.key new ≡ Some s.row) xs → (row : Option Row) → IsLast xs row
  is_last [] found row = inl (refl, refl)
  is_last (x ∷ xs) found row = by_key (same_key key x.key) refl (λ v. is_last xs found.1 v)
    where
      rest : List ShownRow
      rest = filter (λ s. is_in cell s.key) xs

      before : Option Row
      before = cond (is_in cell x.key) (cond (same_key key x.key) (Some x.row) row) row

      first : last_row key (picked (x ∷ xs)) row ≡ last_row key (picked xs) before
      first = head_is (is_in cell x.key) x rest row

      by_key : (b : Bool) → same_key key x.key ≡ b → ((v : Option Row) → IsLast xs v) → IsLast (x ∷ xs) row
      by_key true e more =
          let same : key ≡ x.key = same_true key x.key e in
          let inside : is_in cell x.key ≡ true = eq-eqb (cell_of x.key) cell (ap cell_of (sym same) ∙ here) in
          let is : before ≡ Some x.row = ap (λ c. cond c (cond (same_key key x.key) (Some x.row) row) row) inside ∙ ap (λ b. cond b (Some x.row) row) e in
          let row_is : find_row key new ≡ Some x.row = ap (λ k. find_row k new) same ∙ found.0 in
          inr (first ∙ ⊎_elim
          (λ (h : (list_any (λ (s : ShownRow). same_key key s.key) xs ≡ false) × (last_row key (picked xs) before ≡ before)). h.1 ∙ (is ∙ sym row_is))
          (λ (h : last_row key (picked xs) before ≡ find_row key new). h)
          (more before))
      by_key false e more =
          let is : before ≡ row = ap (λ b. cond (is_in cell x.key) (cond b (Some x.row) row) row) e ∙ stays_by (is_in cell x.key) (Some x.row) row in
          ⊎_elim
          (λ (h : (list_any (λ (s : ShownRow). same_key key s.key) xs ≡ false) × (last_row key (picked xs) before ≡ before)).
          inl (ap (λ b. b || list_any (λ (s : ShownRow). same_key key s.key) xs) e ∙ h.0, first ∙ (h.1 ∙ is)))
          (λ (h : last_row key (picked xs) before ≡ find_row key new). inr (first ∙ h))
          (more before)

any_prior : (key : List ℕ) (xs : List PriorRow) → list_any (λ f. same_key key f.key) xs ≡ list_any (same_key key) (map (λ f. f.key) xs)
any_prior key [] = refl
any_prior key (x ∷ xs) = ap (λ b. same_key key x.key || b) (any_prior key xs)

any_shown : (key : List ℕ) (ticket : ℕ) (call : Option CallNo) (xs : Rows) → list_any (λ (s : ShownRow). same_key key s.key) (map (shown_of ticket call) xs) ≡ list_any (same_key key) (map (λ r. r.0) xs)
any_shown key ticket call [] = refl
any_shown key ticket call (x ∷ xs) = ap (λ b. same_key key x.0 || b) (any_shown key ticket call xs)

-- the front of a cell's list, one entry on
covers_more : (cell : ℕ) (front : List Publication) (node : NodeState) (entry : JournalEntry) → IsNode node → IsNodeEvent entry.event → Covers cell front node.rows
    → Covers cell (front ++ shown_in cell node (entry ∷ [])) (after node entry).rows
covers_more cell front node entry ok within covers key here =
    let new : Rows = (after node entry).rows in
    let shown : List ShownRow = shown_by node entry in
    let row : Option Row = last_row key front None in
    let whole : last_row key (front ++ shown_in cell node (entry ∷ [])) None ≡ last_row key (map publication (filter (λ s. is_in cell s.key) shown)) row =
    last_joined key front (shown_in cell node (entry ∷ [])) None ∙ ap (λ l. last_row key (map publication l) row) (append-nil (filter (λ s. is_in cell s.key) shown)) in
    let found = found_shown node.rows new new entry.ticket (call_of entry.event) (all_found new (step_keeps_node node entry.event ok within).ordered) in
    whole ∙ ⊎_elim
    (λ (h : (list_any (λ (s : ShownRow). same_key key s.key) shown ≡ false) × (last_row key (map publication (filter (λ s. is_in cell s.key) shown)) row ≡ row)).
    h.1 ∙ (covers key here ∙ sym (changed_are_all node entry.event key ok within
    (any_prior key (changed_rows node.rows new) ∙ (ap (list_any (same_key key)) (sym (changed_are_reported node.rows new))
    ∙ (sym (any_shown key entry.ticket (call_of entry.event) (changed node.rows new)) ∙ h.0))))))
    (λ (h : last_row key (map publication (filter (λ s. is_in cell s.key) shown)) row ≡ find_row key new). h)
    (is_last key cell here new shown found row)

-- and a whole journal on
pub covers_over : (cell : ℕ) (front : List Publication) (base : NodeState) (journal : List JournalEntry) → IsNode base → AllByRecursion (λ e. IsNodeEvent e.event) journal → Covers cell front base.rows
    → Covers cell (front ++ shown_in cell base journal) (replay base journal).rows
covers_over cell front base [] ok all covers = subst (λ l. Covers cell l base.rows) (sym (append-nil front)) covers
covers_over cell front base (x ∷ journal) ok all covers =
    subst (λ l. Covers cell l (replay (after base x) journal).rows)
    (append_assoc front (shown_in cell base (x ∷ [])) (shown_in cell (after base x) journal) ∙ ap (λ l. front ++ l) (sym (shown_joined cell base (x ∷ []) journal)))
    (covers_over cell (front ++ shown_in cell base (x ∷ [])) (after base x) journal (step_keeps_node base x.event ok all.0) all.1 (covers_more cell front base x ok all.0 covers))
