-- The row of a key that a journal's steps left last, up to a moment.
use Rattle.std.proofs.Common.{◌≡◌, ℕ, ◌≤◌, ◌<◌, List, [], ◌∷◌, ◌++◌, map, Bool, true, false, cond, leb, Option, None, Some, refl, sym, ap, ◌∙◌, inl, inr, arith, eq-eqb}
use Rattle.std.specs.Ordering.{is_eq}
use Rattle.std.specs.Option.{option_or}
use Rattle.std.specs.List.{filter, AllByRecursion}
use Rattle.std.proofs.lemmas.Bool.{leb-true}
use Rattle.std.proofs.lemmas.Bool.Decides.{nat_tests}
use Rattle.std.proofs.lemmas.List.{map-append}
use Rattle.std.proofs.lemmas.List.Elements.{filter-append}
use Rattle.hk_copy.specs.Batches.{key_cmp}
use Rattle.hk_key.specs.declared.row.Row.{Row}
use Rattle.hk_node.specs.Node.{NodeState}
use Rattle.hk_node.proofs.Order.{same_key, same_true, same_of}
use Rattle.hk_journal.specs.declared.step_entry.JournalEntry.{JournalEntry}
use Rattle.hk_journal.specs.Journal.{ShownRow, call_of, changed, after, replay, shown_by, published, IsBelow, AreRising}
use Rattle.hk_journal.proofs.Joined.{shown_is_joined}
use Rattle.hk_snap.specs.Snapshots.{cell_of}
use Rattle.hk_shard.specs.Shown.{publication, is_in, last_row}
use Rattle.hk_place.specs.Past.{tickets_of, last_upto}
use Rattle.hk_place.proofs.Publishing.{Among}

abbrev ticket_of : ShownRow → ℕ
ticket_of s = s.ticket

abbrev pub is_key : List ℕ → ShownRow → Bool
is_key key s = is_eq (key_cmp s.key key)

-- ---- the steps up to a moment
pub record IsSplit (moment : ℕ) (journal : List JournalEntry) : Type 0 where
  pub front : List JournalEntry
  pub back : List JournalEntry
  pub whole : journal ≡ front ++ back
  pub upto : AllByRecursion (λ entry. entry.ticket ≤ moment) front
  pub behind : AllByRecursion (λ entry. moment < entry.ticket) back

all_behind : (moment : ℕ) (entry : JournalEntry) (journal : List JournalEntry) → moment < entry.ticket → IsBelow entry.ticket journal → AreRising journal → AllByRecursion (λ e. moment < e.ticket) journal
all_behind moment entry [] lt below rising = tt
all_behind moment entry (next ∷ journal) lt below rising =
    let further : moment < next.ticket = omega (arith, lt, below) in
    (further, all_behind moment next journal further rising.0 rising.1)

pub split_at : (moment : ℕ) (journal : List JournalEntry) → AreRising journal → IsSplit moment journal
split_at moment [] rising = record { front = []; back = []; whole = refl; upto = tt; behind = tt }
split_at moment (entry ∷ journal) rising = by_test (leb entry.ticket moment) refl (split_at moment journal rising.1)
  where
    by_test : (b : Bool) → leb entry.ticket moment ≡ b → IsSplit moment journal → IsSplit moment (entry ∷ journal)
    by_test true e rest = record {
      front = entry ∷ rest.front;
      back = rest.back;
      whole = ap (λ (l : List JournalEntry). entry ∷ l) rest.whole;
      upto = (leb-true entry.ticket moment e, rest.upto);
      behind = rest.behind;
    }
    by_test false e rest =
        let further : moment < entry.ticket = grind (arith, nat_tests, e) in
        record { front = []; back = entry ∷ journal; whole = refl; upto = tt; behind = (further, all_behind moment entry journal further rising.0 rising.1) }

-- ---- the tickets of what a journal shows are those of its steps
module _ (P : ℕ → Type 0) where
  all_joined : (xs ys : List ShownRow) → AllByRecursion (λ s. P s.ticket) xs → AllByRecursion (λ s. P s.ticket) ys → AllByRecursion (λ s. P s.ticket) (xs ++ ys)
  all_joined [] ys a b = b
  all_joined (x ∷ xs) ys a b = (a.0, all_joined xs ys a.1 b)

  all_filtered : (chosen : ShownRow → Bool) (xs : List ShownRow) → AllByRecursion (λ s. P s.ticket) xs → AllByRecursion (λ s. P s.ticket) (filter chosen xs)
  all_filtered chosen [] all = tt
  all_filtered chosen (x ∷ xs) all = by_test (chosen x) (all_filtered chosen xs all.1)
    where
      by_test : (b : Bool) → AllByRecursion (λ s. P s.ticket) (filter chosen xs) → AllByRecursion (λ s. P s.ticket) (cond b (x ∷ filter chosen xs) (filter chosen xs))
      by_test true more = (all.0, more)
      by_test false more = more

  all_shown : (entry : JournalEntry) (rows : List (List ℕ × Row)) → P entry.ticket
      → AllByRecursion (λ (s : ShownRow). P s.ticket) (map (λ r. record { key = r.0; row = r.1; ticket = entry.ticket; call = call_of entry.event }) rows)
  all_shown entry [] here = tt
  all_shown entry (r ∷ rows) here = (here, all_shown entry rows here)

  pub all_published : (chosen : List ℕ → Bool) (base : NodeState) (journal : List JournalEntry) → AllByRecursion (λ e. P e.ticket) journal → AllByRecursion (λ s. P s.ticket) (published chosen base journal)
  all_published chosen base [] all = tt
  all_published chosen base (entry ∷ journal) all =
      all_joined (filter (λ s. chosen s.key) (shown_by base entry)) (published chosen (after base entry) journal)
      (all_filtered (λ s. chosen s.key) (shown_by base entry) (all_shown entry (changed base.rows (after base entry).rows) all.0))
      (all_published chosen (after base entry) journal all.1)

  pub all_tickets : (xs : List ShownRow) → AllByRecursion (λ s. P s.ticket) xs → AllByRecursion (λ t. P t) (map ticket_of xs)
  all_tickets [] all = tt
  all_tickets (x ∷ xs) all = (all.0, all_tickets xs all.1)

-- ---- of a cell, what is shown of one of its keys is what is shown of that key
module _ (key : List ℕ) (cell : ℕ) (here : cell_of key ≡ cell) where
  twice : (xs : List ShownRow) → filter (is_key key) (filter (λ s. is_in cell s.key) xs) ≡ filter (is_key key) xs
  twice [] = refl
  twice (x ∷ xs) = by_key (is_key key x) refl (twice xs)
    where
      inner : List ShownRow
      inner = filter (λ s. is_in cell s.key) xs

      passed : (b : Bool) → filter (is_key key) inner ≡ filter (is_key key) xs → is_key key x ≡ false → filter (is_key key) (cond b (x ∷ inner) inner) ≡ filter (is_key key) xs
      passed true more e = ap (λ (b : Bool). cond b (x ∷ filter (is_key key) inner) (filter (is_key key) inner)) e ∙ more
      passed false more e = more

      by_key : (b : Bool) → is_key key x ≡ b → filter (is_key key) inner ≡ filter (is_key key) xs → filter (is_key key) (filter (λ s. is_in cell s.key) (x ∷ xs)) ≡ filter (is_key key) (x ∷ xs)
      by_key true e more =
          let inside : is_in cell x.key ≡ true = eq-eqb (cell_of x.key) cell (ap cell_of (same_true x.key key e) ∙ here) in
          ap (λ (b : Bool). filter (is_key key) (cond b (x ∷ inner) inner)) inside
          ∙ ap (λ (l : List ShownRow). cond (is_key key x) (x ∷ l) l) more
      by_key false e more = passed (is_in cell x.key) more e ∙ sym (ap (λ (b : Bool). cond b (x ∷ filter (is_key key) xs) (filter (is_key key) xs)) e)

  pub key_of_cell : (base : NodeState) (journal : List JournalEntry) → filter (is_key key) (published (is_in cell) base journal) ≡ published (λ k. is_eq (key_cmp k key)) base journal
  key_of_cell base [] = refl
  key_of_cell base (entry ∷ journal) =
      let first : List ShownRow = filter (λ s. is_in cell s.key) (shown_by base entry) in
      let rest : List ShownRow = published (is_in cell) (after base entry) journal in
      filter-append (is_key key) first rest
      ∙ (ap (λ (l : List ShownRow). l ++ filter (is_key key) rest) (twice (shown_by base entry))
      ∙ ap (λ (l : List ShownRow). filter (is_key key) (shown_by base entry) ++ l) (key_of_cell (after base entry) journal))

-- ---- the last up to a moment
late_none : (moment : ℕ) (ts : List ℕ) → AllByRecursion (λ t. moment < t) ts → last_upto moment ts ≡ None
late_none moment [] late = refl
late_none moment (t ∷ ts) late =
    let far : leb t moment ≡ false = (let lt = late.0 in grind (arith, nat_tests, lt)) in
    ap (λ (o : Option ℕ). option_or o (cond (leb t moment) (Some t) None)) (late_none moment ts late.1) ∙ ap (λ (b : Bool). cond b (Some t) None) far

upto_front : (moment : ℕ) (xs ys : List ℕ) → AllByRecursion (λ t. moment < t) ys → last_upto moment (xs ++ ys) ≡ last_upto moment xs
upto_front moment [] ys late = late_none moment ys late
upto_front moment (x ∷ xs) ys late = ap (λ (o : Option ℕ). option_or o (cond (leb x moment) (Some x) None)) (upto_front moment xs ys late)

-- what steps behind the moment changed does not count
pub last_of_front : (moment : ℕ) (key : List ℕ) (base : NodeState) (front back : List JournalEntry) → AllByRecursion (λ e. moment < e.ticket) back
    → last_upto moment (tickets_of base (front ++ back) key) ≡ last_upto moment (tickets_of base front key)
last_of_front moment key base front back late =
    let of_key : List ℕ → Bool = λ k. is_eq (key_cmp k key) in
    let first : List ShownRow = published of_key base front in
    let rest : List ShownRow = published of_key (replay base front) back in
    ap (last_upto moment) (ap (map ticket_of) (shown_is_joined of_key base front back) ∙ map-append ticket_of first rest)
    ∙ upto_front moment (map ticket_of first) (map ticket_of rest) (all_tickets (λ t. moment < t) rest (all_published (λ t. moment < t) of_key (replay base front) back late))

-- ---- the row that is published last
abbrev next_row : List ℕ → ShownRow → Option Row → Option Row
next_row key x row = cond (is_eq (key_cmp key x.key)) (Some x.row) row

some_there : {A : Type 0} (t : ℕ) (o : Option ℕ) (b : Bool) → b ≡ true → option_or o (cond b (Some t) None) ≡ None → A
some_there t None b near e = absurd (let is : cond b (Some t) None ≡ Some t = ap (λ (c : Bool). cond c (Some t) None) near in cc)
some_there t (Some u) b near e = absurd (cc)

other_key : (key : List ℕ) (x : ShownRow) (row : Option Row) → is_key key x ≡ false → next_row key x row ≡ row
other_key key x row e = by_test (same_key key x.key) refl
  where
    by_test : (b : Bool) → same_key key x.key ≡ b → cond b (Some x.row) row ≡ row
    by_test false d = refl
    by_test true d = absurd (let back : is_key key x ≡ true = same_of x.key key (sym (same_true key x.key d)) in cc)

this_key : (key : List ℕ) (x : ShownRow) (row : Option Row) → is_key key x ≡ true → next_row key x row ≡ Some x.row
this_key key x row e = ap (λ (b : Bool). cond b (Some x.row) row) (same_of key x.key (sym (same_true x.key key e)))

module _ (moment : ℕ) (key : List ℕ) where
  abbrev upto : List ShownRow → Option ℕ
  upto xs = last_upto moment (map ticket_of (filter (is_key key) xs))

  none_left : (xs : List ShownRow) (row : Option Row) → AllByRecursion (λ s. s.ticket ≤ moment) xs → upto xs ≡ None → last_row key (map publication xs) row ≡ row
  none_left [] row early e = refl
  none_left (x ∷ xs) row early e = by_key (is_key key x) refl (λ r. none_left xs r early.1)
    where
      by_key : (b : Bool) → is_key key x ≡ b → ((r : Option Row) → upto xs ≡ None → last_row key (map publication xs) r ≡ r) → last_row key (map publication xs) (next_row key x row) ≡ row
      by_key true k more = some_there x.ticket (upto xs) (leb x.ticket moment) (let le = early.0 in grind (arith, nat_tests, le))
          (sym (ap (λ (b : Bool). last_upto moment (map ticket_of (cond b (x ∷ filter (is_key key) xs) (filter (is_key key) xs)))) k) ∙ e)
      by_key false k more =
          ap (last_row key (map publication xs)) (other_key key x row k)
          ∙ more row (sym (ap (λ (b : Bool). last_upto moment (map ticket_of (cond b (x ∷ filter (is_key key) xs) (filter (is_key key) xs)))) k) ∙ e)

  -- the row that was published last of the key, by the step of this ticket
  pub record IsPicked (xs : List ShownRow) (row : Option Row) (ticket : ℕ) : Type 0 where
    pub shown : ShownRow
    pub among : Among xs shown
    pub same : shown.key ≡ key
    pub at : shown.ticket ≡ ticket
    pub last : last_row key (map publication xs) row ≡ Some shown.row

  picked_next : (x : ShownRow) (xs : List ShownRow) (row : Option Row) (ticket : ℕ) → IsPicked xs (next_row key x row) ticket → IsPicked (x ∷ xs) row ticket
  picked_next x xs row ticket p = record { shown = p.shown; among = inr p.among; same = p.same; at = p.at; last = p.last }

  pub pick : (xs : List ShownRow) (row : Option Row) (ticket : ℕ) → AllByRecursion (λ s. s.ticket ≤ moment) xs → upto xs ≡ Some ticket → IsPicked xs row ticket
  pick [] row ticket early e = absurd (cc)
  pick (x ∷ xs) row ticket early e = by_key (is_key key x) refl (λ r. pick xs r ticket early.1)
    where
      here : is_key key x ≡ true → upto xs ≡ None → IsPicked (x ∷ xs) row ticket
      here k none = record {
        shown = x;
        among = inl refl;
        same = same_true x.key key k;
        at = let near : leb x.ticket moment ≡ true = (let le = early.0 in grind (arith, nat_tests, le)) in
            let is : Some x.ticket ≡ Some ticket =
            sym (ap (λ (b : Bool). last_upto moment (map ticket_of (cond b (x ∷ filter (is_key key) xs) (filter (is_key key) xs)))) k
            ∙ (ap (λ (o : Option ℕ). option_or o (cond (leb x.ticket moment) (Some x.ticket) None)) none ∙ ap (λ (b : Bool). cond b (Some x.ticket) None) near)) ∙ e in
            cc;
        last = none_left xs (next_row key x row) early.1 none ∙ this_key key x row k;
      }

      by_last : (o : Option ℕ) → upto xs ≡ o → is_key key x ≡ true → ((r : Option Row) → upto xs ≡ Some ticket → IsPicked xs r ticket) → IsPicked (x ∷ xs) row ticket
      by_last None is k more = here k is
      by_last (Some t) is k more = picked_next x xs row ticket (more (next_row key x row)
          (is ∙ (sym (ap (λ (b : Bool). last_upto moment (map ticket_of (cond b (x ∷ filter (is_key key) xs) (filter (is_key key) xs)))) k
          ∙ ap (λ (o : Option ℕ). option_or o (cond (leb x.ticket moment) (Some x.ticket) None)) is) ∙ e)))

      by_key : (b : Bool) → is_key key x ≡ b → ((r : Option Row) → upto xs ≡ Some ticket → IsPicked xs r ticket) → IsPicked (x ∷ xs) row ticket
      by_key true k more = by_last (upto xs) refl k more
      by_key false k more = picked_next x xs row ticket
          (more (next_row key x row) (sym (ap (λ (b : Bool). last_upto moment (map ticket_of (cond b (x ∷ filter (is_key key) xs) (filter (is_key key) xs)))) k) ∙ e))
