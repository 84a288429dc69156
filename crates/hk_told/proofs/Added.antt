-- What a step adds to the list of a key's cell.
use Rattle.std.proofs.Common.{◌≡◌, ◌≢◌, inl, inr, ℕ, ◌==◌, ◌||◌, not, cond, List, [], ◌∷◌, map, Bool, true, false, Option, Some, None, unwrap_or, refl, sym, ap, ◌∙◌, subst, append-nil, arith}
use Rattle.std.specs.Option.{IsSome}
use Rattle.std.specs.Ordering.{is_eq}
use Rattle.std.specs.List.{AllByRecursion, filter, list_any}
use Rattle.std.specs.List.Sorted.{IsStrictlySortedBy}
use Rattle.std.specs.Map.{keys_of}
use Rattle.std.proofs.lemmas.Bool.{false≢true}
use Rattle.std.proofs.lemmas.Option.{none-some}
use Rattle.hk_base.specs.declared.call.CallNo.{CallNo}
use Rattle.hk_copy.specs.Batches.{key_cmp}
use Rattle.hk_key.specs.declared.row.Row.{Row}
use Rattle.hk_key.specs.Table.{first_row}
use Rattle.hk_key.specs.Same.{is_same_row}
use Rattle.hk_key.proofs.SameNotes.{each_is_same}
use Rattle.hk_node.specs.declared.report.PriorRow.{PriorRow}
use Rattle.hk_node.specs.Rows.{Rows, find_row, row_at}
use Rattle.hk_node.specs.Report.{is_changed, changed_rows, AreChanged}
use Rattle.hk_node.specs.Node.{NodeState}
use Rattle.hk_node.specs.Sound.{IsNode, IsNodeEvent}
use Rattle.hk_node.proofs.Order.{Rising, Lt, same_key, same_true, same_of, lt_ne_back}
use Rattle.hk_node.proofs.Exact.{reports_are_exact}
use Rattle.hk_node.proofs.KeepsMore.{step_keeps_node}
use Rattle.hk_snap.specs.declared.rule.Publication.{Publication}
use Rattle.hk_snap.specs.Snapshots.{cell_of, published}
use Rattle.hk_journal.specs.declared.step_entry.JournalEntry.{JournalEntry}
use Rattle.hk_journal.specs.Journal.{ShownRow, after, call_of, changed}
use Rattle.hk_told.specs.Held.{shown_at}
use Rattle.hk_told.proofs.Lists.{NoneOf, OneOf, Shows, Adds}

module _ (key : List ℕ) (old : Rows) (ticket : ℕ) (call : Option CallNo) where
  abbrev shown : List ℕ × Row → ShownRow
  shown r = record { key = r.0; row = r.1; ticket = ticket; call = call }

  abbrev public : ShownRow → Publication
  public s = published s.key s.row s.ticket s.call

  abbrev is_here : ShownRow → Bool
  is_here s = cell_of s.key == cell_of key

  abbrev made : Rows → List Publication
  made rows = map public (filter is_here (map shown (filter (is_changed old) rows)))

  -- one row more, by whether it changed and whether it is of the cell
  abbrev pushed : Bool → Bool → List ℕ × Row → List Publication → List Publication
  pushed changed here r list = cond changed (cond here (public (shown r) ∷ list) list) list

  made_more : (r : List ℕ × Row) (rows : Rows) → made (r ∷ rows) ≡ pushed (is_changed old r) (is_here (shown r)) r (made rows)
  made_more r rows = at (is_changed old r)
    where
      rest : List ShownRow
      rest = map shown (filter (is_changed old) rows)

      here : (b : Bool) → map public (cond b (shown r ∷ filter is_here rest) (filter is_here rest)) ≡ cond b (public (shown r) ∷ made rows) (made rows)
      here true = refl
      here false = refl

      at : (b : Bool) → map public (filter is_here (map shown (cond b (r ∷ filter (is_changed old) rows) (filter (is_changed old) rows)))) ≡ pushed b (is_here (shown r)) r (made rows)
      at true = here (is_here (shown r))
      at false = refl

  none_pushed : (changed here : Bool) (r : List ℕ × Row) (list : List Publication) → (changed ≡ true → key ≢ r.0) → NoneOf key list → NoneOf key (pushed changed here r list)
  none_pushed true true r list ne none = (ne refl, none)
  none_pushed true false r list ne none = none
  none_pushed false here r list ne none = none

  none_made : (rows : Rows) → AllByRecursion (λ r. key ≢ r.0) rows → NoneOf key (made rows)
  none_made [] ne = tt
  none_made (r ∷ rows) ne = subst (NoneOf key) (sym (made_more r rows)) (none_pushed (is_changed old r) (is_here (shown r)) r (made rows) (λ c. ne.0) (none_made rows ne.1))

  not_above : (rows : Rows) → AllByRecursion (Lt key) (keys_of rows) → AllByRecursion (λ (r : List ℕ × Row). key ≢ r.0) rows
  not_above [] above = tt
  not_above (r ∷ rows) above = ((λ e. lt_ne_back key r.0 above.0 (sym e)), not_above rows above.1)

  some_same : (x y : Row) → Some x ≡ Some y → x ≡ y
  some_same x y e = ap (λ (o : Option Row). unwrap_or o x) e

  -- a row of the key that did not change is not shown
  unchanged_made : (rows : Rows) → Rising rows → ((row : Row) → find_row key rows ≡ Some row → is_same_row (row_at key old) row ≡ true) → NoneOf key (made rows)
  unfolding IsStrictlySortedBy
  unchanged_made [] rising same = tt
  unchanged_made (r ∷ rows) rising same = subst (NoneOf key) (sym (made_more r rows)) (at (same_key key r.0) refl same rising.0 (unchanged_made rows rising.1))
    where
      at : (b : Bool) → same_key key r.0 ≡ b → ((row : Row) → cond b (Some r.1) (find_row key rows) ≡ Some row → is_same_row (row_at key old) row ≡ true) → AllByRecursion (Lt r.0) (keys_of rows) →
          (((row : Row) → find_row key rows ≡ Some row → is_same_row (row_at key old) row ≡ true) → NoneOf key (made rows)) →
          NoneOf key (pushed (is_changed old r) (is_here (shown r)) r (made rows))
      at true e same above rest =
          none_pushed (is_changed old r) (is_here (shown r)) r (made rows)
          (λ c k. false≢true (sym (ap not (subst (λ (q : List ℕ). is_same_row (row_at q old) r.1 ≡ true) k (same r.1 refl))) ∙ c))
          (none_made rows (not_above rows (subst (λ (k : List ℕ). AllByRecursion (Lt k) (keys_of rows)) (sym (same_true key r.0 e)) above)))
      at false e same above rest =
          none_pushed (is_changed old r) (is_here (shown r)) r (made rows) (λ c k. false≢true (sym e ∙ same_of key r.0 k)) (rest same)

  -- one that changed is
  changed_made : (row : Row) (rows : Rows) → Rising rows → find_row key rows ≡ Some row → is_same_row (row_at key old) row ≡ false → OneOf key (published key row ticket call) (made rows)
  unfolding IsStrictlySortedBy
  changed_made row [] rising found differs = absurd (none-some row found)
  changed_made row (r ∷ rows) rising found differs =
      subst (OneOf key (published key row ticket call)) (sym (made_more r rows)) (at (same_key key r.0) refl found rising.0 (λ f. changed_made row rows rising.1 f differs))
    where
      is_cell : (n : ℕ) → (n == n) ≡ true
      is_cell n = grind arith

      here : (c h : Bool) → c ≡ true → h ≡ true → (s : Publication) → s ≡ public (shown r) → key ≡ s.key → NoneOf key (made rows) → OneOf key s (pushed c h r (made rows))
      here true true tc th s is of none = record { front = []; back = made rows; stands = ap (λ (p : Publication). p ∷ made rows) (sym is); key_of = of; none_before = tt; none_behind = none }
      here false h tc th s is of none = absurd (false≢true tc)
      here true false tc th s is of none = absurd (false≢true th)

      past : (c h : Bool) → key ≢ r.0 → (s : Publication) → OneOf key s (made rows) → OneOf key s (pushed c h r (made rows))
      past true true ne s one =
          record { front = public (shown r) ∷ one.front; back = one.back; stands = ap (λ l. public (shown r) ∷ l) one.stands; key_of = one.key_of; none_before = (ne, one.none_before); none_behind = one.none_behind }
      past true false ne s one = one
      past false h ne s one = one

      at : (b : Bool) → same_key key r.0 ≡ b → cond b (Some r.1) (find_row key rows) ≡ Some row → AllByRecursion (Lt r.0) (keys_of rows) →
          (find_row key rows ≡ Some row → OneOf key (published key row ticket call) (made rows)) →
          OneOf key (published key row ticket call) (pushed (is_changed old r) (is_here (shown r)) r (made rows))
      at true e found above rest =
          let k : key ≡ r.0 = same_true key r.0 e in
          let own : r.1 ≡ row = some_same r.1 row found in
          here (is_changed old r) (is_here (shown r))
          (ap not (subst (λ (q : List ℕ). is_same_row (row_at q old) r.1 ≡ false) k (subst (λ (x : Row). is_same_row (row_at key old) x ≡ false) (sym own) differs)))
          (subst (λ (q : List ℕ). (cell_of q == cell_of key) ≡ true) k (is_cell (cell_of key)))
          (published key row ticket call)
          (ap (λ (q : List ℕ). published q row ticket call) k ∙ ap (λ (x : Row). published r.0 x ticket call) (sym own))
          refl
          (none_made rows (not_above rows (subst (λ (q : List ℕ). AllByRecursion (Lt q) (keys_of rows)) (sym k) above)))
      at false e found above rest =
          past (is_changed old r) (is_here (shown r)) (λ k. false≢true (sym e ∙ same_of key r.0 k)) (published key row ticket call) (rest found)

-- ---- a key among those that changed
listed : (P : PriorRow → Type 0) (key : List ℕ) (prior : List PriorRow) → list_any (λ f. is_eq (key_cmp key f.key)) prior ≡ true → AllByRecursion P prior → (f : PriorRow) × (key ≡ f.key) × P f
listed P key [] e all = absurd (false≢true e)
listed P key (f ∷ prior) e all = at (is_eq (key_cmp key f.key)) refl e (listed P key prior)
  where
    at : (b : Bool) → is_eq (key_cmp key f.key) ≡ b → (b || list_any (λ g. is_eq (key_cmp key g.key)) prior) ≡ true →
        (list_any (λ g. is_eq (key_cmp key g.key)) prior ≡ true → AllByRecursion P prior → (g : PriorRow) × (key ≡ g.key) × P g) → (g : PriorRow) × (key ≡ g.key) × P g
    at true is e rest = (f, same_true key f.key is, all.0)
    at false is e rest = rest e all.1

both : (P Q : PriorRow → Type 0) (prior : List PriorRow) → AllByRecursion P prior → AllByRecursion Q prior → AllByRecursion (λ f. P f × Q f) prior
both P Q [] p q = tt
both P Q (f ∷ prior) p q = ((p.0, q.0), both P Q prior p.1 q.1)

adds_rows : (key : List ℕ) (old new : Rows) (ticket : ℕ) (call : Option CallNo) → Rising new → AreChanged (changed_rows old new) old new →
    Adds key (find_row key old) (find_row key new) ticket call (made key old ticket call new)
adds_rows key old new ticket call rising are = by (list_any (λ f. is_eq (key_cmp key f.key)) (changed_rows old new)) refl
  where
    shows : (o : Option Row) → find_row key new ≡ o → IsSome o → is_same_row (row_at key old) (unwrap_or o first_row) ≡ false → Shows key (find_row key new) ticket call (made key old ticket call new)
    shows None e some differs = absurd (false≢true some)
    shows (Some row) e some differs = record { s = published key row ticket call; one = changed_made key old ticket call row new rising e differs; row = sym e; ticket_of = refl; call_of = refl }

    by : (b : Bool) → list_any (λ f. is_eq (key_cmp key f.key)) (changed_rows old new) ≡ b → Adds key (find_row key old) (find_row key new) ticket call (made key old ticket call new)
    by false e =
        let same : find_row key new ≡ find_row key old = are.others key e in
        inl (
          unchanged_made key old ticket call new rising
              (λ row f. subst (λ (r : Row). is_same_row (row_at key old) r ≡ true) (ap (λ (o : Option Row). unwrap_or o first_row) (sym same ∙ f)) (each_is_same (row_at key old))),
          same,
        )
    by true e =
        let is = listed _ key (changed_rows old new) e (both _ _ (changed_rows old new) are.differ are.there) in
        inr (shows (find_row key new) refl (subst (λ (q : List ℕ). IsSome (find_row q new)) (sym is.1) is.2.1)
        (subst (λ (q : List ℕ). is_same_row (row_at q old) (row_at q new) ≡ false) (sym is.1) is.2.0.1))

-- what the step of an entry adds
pub adds : (node : NodeState) (entry : JournalEntry) (key : List ℕ) → IsNode node → IsNodeEvent entry.event →
    Adds key (find_row key node.rows) (find_row key (after node entry).rows) entry.ticket (call_of entry.event) (shown_at key node entry)
adds node entry key ok within =
    subst (Adds key (find_row key node.rows) (find_row key (after node entry).rows) entry.ticket (call_of entry.event))
    (ap (map (λ (s : ShownRow). published s.key s.row s.ticket s.call)) (sym (append-nil _)))
    (adds_rows key node.rows (after node entry).rows entry.ticket (call_of entry.event) (step_keeps_node node entry.event ok within).ordered (reports_are_exact node entry.event ok within))
