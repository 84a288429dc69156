-- What the steps of a journal add to the tickets of a key.
use Rattle.std.proofs.Common.{◌≡◌, ℕ, List, [], ◌∷◌, ◌++◌, map, Bool, true, false, cond, Option, None, Some, unwrap_or, Result, Ok, Err, OnOk, refl, sym, ap, subst, ◌∙◌, append-nil, append_assoc, drop, take, length, ◌+◌, ◌<◌, get_or}
use Rattle.std.specs.Ordering.{is_eq}
use Rattle.std.specs.List.{filter}
use Rattle.std.specs.BTreeMap.{BTreeMap, UpdatesBy, is_at}
use Rattle.std.specs.Map.{lookup}
use Rattle.std.proofs.lemmas.List.{map-append, take_more, drop_more}
use Rattle.std.proofs.lemmas.Map.Text.{is_eq-slice_cmp}
use Rattle.std.proofs.lemmas.Slice.Eq.{bytes_eq-Decides}
use Rattle.hk_copy.specs.Batches.{key_cmp}
use Rattle.hk_key.specs.declared.row.Row.{Row}
use Rattle.hk_node.specs.declared.report.PriorRow.{PriorRow}
use Rattle.hk_node.specs.Rows.{Rows}
use Rattle.hk_node.specs.Report.{is_changed, prior_at, changed_rows}
use Rattle.hk_node.specs.Node.{NodeState}
use Rattle.hk_journal.specs.declared.step_entry.JournalEntry.{JournalEntry}
use Rattle.hk_journal.specs.Journal.{ShownRow, call_of, changed, after, shown_by, published}
use Rattle.hk_place.specs.Past.{KeyTickets, tickets_in, tickets_of}
use Rattle.hk_place.specs.Noted.{told_to, told_by}

pub on_ok : {T E P Q : Type 0} (r : Result T E) → (P → Q) → OnOk r P → OnOk r Q
on_ok (Ok x) f h = f h
on_ok (Err e) f h = h

-- keys that compare as equal are equal
pub same_key : (a b : List ℕ) → is_eq (key_cmp a b) ≡ true → a ≡ b
same_key a b e = (bytes_eq-Decides a b).0 (sym (is_eq-slice_cmp a b) ∙ e)

-- ---- one row
-- the tickets of one key alone are others
abbrev pub PutAt : KeyTickets → KeyTickets → List ℕ → List ℕ → Type 0
PutAt m n key new = (q : List ℕ) → lookup (is_at (key_cmp q)) n ≡ cond (is_at (key_cmp key) q) (Some new) (lookup (is_at (key_cmp q)) m)

-- a key that had none is given some
pub put_first : (m kept n : BTreeMap (List ℕ) (List ℕ)) (key name new : List ℕ) → kept ≡ m → name ≡ key → UpdatesBy key_cmp (key_cmp name) kept n (Some new) → PutAt m.entries n.entries key new
put_first m kept n key name new same is updates =
    (subst (λ (k : List ℕ). UpdatesBy key_cmp (key_cmp k) m n (Some new)) is
    (subst (λ (x : BTreeMap (List ℕ) (List ℕ)). UpdatesBy key_cmp (key_cmp name) x n (Some new)) same updates)).0

abbrev tickets_from : Option (List ℕ) → List ℕ
tickets_from o = unwrap_or o []

pub noted : (m n : KeyTickets) (key new : List ℕ) (ticket : ℕ) → PutAt m n key new → new ≡ tickets_in m key ++ ticket ∷ [] → (k : List ℕ) → tickets_in n k ≡ tickets_in m k ++ told_to k key ticket
noted m n key new ticket put is k = by_test (is_eq (key_cmp key k)) refl
  where
    by_test : (b : Bool) → is_eq (key_cmp key k) ≡ b → tickets_in n k ≡ tickets_in m k ++ told_to k key ticket
    by_test true e =
        ap tickets_from (put k ∙ ap (λ (b : Bool). cond b (Some new) (lookup (is_at (key_cmp k)) m)) e)
        ∙ (is ∙ ap (λ (q : List ℕ). tickets_in m q ++ ticket ∷ []) (same_key key k e)
        ∙ sym (ap (λ (b : Bool). tickets_in m k ++ cond b (ticket ∷ []) []) e))
    by_test false e =
        ap tickets_from (put k ∙ ap (λ (b : Bool). cond b (Some new) (lookup (is_at (key_cmp k)) m)) e)
        ∙ (sym (append-nil (tickets_in m k)) ∙ sym (ap (λ (b : Bool). tickets_in m k ++ cond b (ticket ∷ []) []) e))

-- ---- the rows of a step
module _ (k : List ℕ) (ticket : ℕ) where
  pub told_both : (xs ys : List PriorRow) → told_by k (xs ++ ys) ticket ≡ told_by k xs ticket ++ told_by k ys ticket
  told_both [] ys = refl
  told_both (f ∷ xs) ys = ap (λ (l : List ℕ). told_to k f.key ticket ++ l) (told_both xs ys) ∙ sym (append_assoc (told_to k f.key ticket) (told_by k xs ticket) (told_by k ys ticket))

-- one row more
pub told_more : (before now next : List ℕ) (k : List ℕ) (ticket : ℕ) (rows : List PriorRow) (i : ℕ) (f : PriorRow) → i < length rows → f ≡ get_or rows i f → now ≡ before ++ told_by k (take i rows) ticket
    → next ≡ now ++ told_to k f.key ticket → next ≡ before ++ told_by k (take (i + 1) rows) ticket
told_more before now next k ticket rows i f lt at is more =
    let one : told_by k (take (i + 1) rows) ticket ≡ told_by k (take i rows) ticket ++ told_to k f.key ticket =
    ap (λ (l : List PriorRow). told_by k l ticket) (take_more rows i f lt ∙ ap (λ (x : PriorRow). take i rows ++ x ∷ []) (sym at))
    ∙ (told_both k ticket (take i rows) (f ∷ []) ∙ ap (λ (l : List ℕ). told_by k (take i rows) ticket ++ l) (append-nil (told_to k f.key ticket))) in
    more ∙ (ap (λ (l : List ℕ). l ++ told_to k f.key ticket) is
    ∙ (append_assoc before (told_by k (take i rows) ticket) (told_to k f.key ticket) ∙ ap (λ (l : List ℕ). before ++ l) (sym one)))

abbrev ticket_of : ShownRow → ℕ
ticket_of s = s.ticket

abbrev shown : JournalEntry → List ℕ × Row → ShownRow
shown entry r = record { key = r.0; row = r.1; ticket = entry.ticket; call = call_of entry.event }

abbrev is_key : List ℕ → ShownRow → Bool
is_key k s = is_eq (key_cmp s.key k)

module _ (k : List ℕ) (entry : JournalEntry) (old : Rows) where
  rows_told : (new : Rows) → map ticket_of (filter (is_key k) (map (shown entry) (changed old new))) ≡ told_by k (changed_rows old new) entry.ticket
  rows_told [] = refl
  rows_told (r ∷ new) = by_test (is_changed old r) (rows_told new)
    where
      at : (b : Bool) → map ticket_of (filter (is_key k) (map (shown entry) (changed old new))) ≡ told_by k (changed_rows old new) entry.ticket →
          map ticket_of (cond b (shown entry r ∷ filter (is_key k) (map (shown entry) (changed old new))) (filter (is_key k) (map (shown entry) (changed old new))))
          ≡ cond b (entry.ticket ∷ []) [] ++ told_by k (changed_rows old new) entry.ticket
      at true more = ap (λ (l : List ℕ). entry.ticket ∷ l) more
      at false more = more

      by_test : (b : Bool) → map ticket_of (filter (is_key k) (map (shown entry) (changed old new))) ≡ told_by k (changed_rows old new) entry.ticket →
          map ticket_of (filter (is_key k) (map (shown entry) (cond b (r ∷ changed old new) (changed old new)))) ≡ told_by k (cond b (prior_at old r.0 ∷ []) [] ++ changed_rows old new) entry.ticket
      by_test true more = at (is_eq (key_cmp r.0 k)) more
      by_test false more = more

-- what the report of a step tells is what the journal shows of it
pub step_told : (k : List ℕ) (node : NodeState) (entry : JournalEntry) (rows : List PriorRow) → rows ≡ changed_rows node.rows (after node entry).rows →
    told_by k rows entry.ticket ≡ map ticket_of (filter (is_key k) (shown_by node entry))
step_told k node entry rows is = ap (λ (l : List PriorRow). told_by k l entry.ticket) is ∙ sym (rows_told k entry node.rows (after node entry).rows)

-- ---- the entries of a journal
-- the tickets so far, and those of the entries that are left
abbrev pub GoesOn : NodeState → List JournalEntry → KeyTickets → NodeState → List JournalEntry → Type 0
GoesOn base journal kept node left = (k : List ℕ) → tickets_in kept k ++ tickets_of node left k ≡ tickets_of base journal k

pub goes_on : (base : NodeState) (journal : List JournalEntry) (kept next : KeyTickets) (node : NodeState) (entry : JournalEntry) (rest : List JournalEntry) → GoesOn base journal kept node (entry ∷ rest)
    → ((k : List ℕ) → tickets_in next k ≡ tickets_in kept k ++ map ticket_of (filter (is_key k) (shown_by node entry))) → GoesOn base journal next (after node entry) rest
goes_on base journal kept next node entry rest goes more k =
    let first : List ShownRow = filter (is_key k) (shown_by node entry) in
    let behind : List ShownRow = published (λ q. is_eq (key_cmp q k)) (after node entry) rest in
    ap (λ (l : List ℕ). l ++ map ticket_of behind) (more k)
    ∙ (append_assoc (tickets_in kept k) (map ticket_of first) (map ticket_of behind)
    ∙ (ap (λ (l : List ℕ). tickets_in kept k ++ l) (sym (map-append ticket_of first behind)) ∙ goes k))
