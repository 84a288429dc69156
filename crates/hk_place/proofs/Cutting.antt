-- Snapshots that have a place are the rows of one state of their shard.
use Rattle.std.proofs.Common.{◌≡◌, ℕ, ◌≤◌, List, [], ◌∷◌, ◌++◌, map, Bool, true, false, cond, not, ◌==◌, Option, None, Some, Ok, refl, sym, ap, subst, ◌∙◌, arith, append_assoc}
use Rattle.std.specs.List.{find, AllByRecursion}
use Rattle.std.proofs.lemmas.Bool.Decides.{nat_tests}
use Rattle.hk_key.specs.declared.row.Row.{Row}
use Rattle.hk_node.specs.Rows.{find_row}
use Rattle.hk_node.specs.Sound.{IsNodeEvent}
use Rattle.hk_node.proofs.Order.{same_key}
use Rattle.hk_journal.specs.declared.step_entry.JournalEntry.{JournalEntry}
use Rattle.hk_journal.specs.Journal.{ShownRow, replay, published as shown_rows}
use Rattle.hk_snap.specs.declared.rule.Publication.{Publication}
use Rattle.hk_snap.specs.declared.snapshot.Snapshot.{Snapshot}
use Rattle.hk_snap.specs.Snapshots.{cell_of, published, snapshot_of, IsRising}
use Rattle.hk_shard.specs.Shown.{publication, is_in, shown_in, last_row}
use Rattle.hk_shard.specs.Shard.{ShardState, IsShard}
use Rattle.hk_shard.proofs.Covering.{shown_joined, covers_over}
use Rattle.hk_joint_reads.proofs.Latest.{not_before}
use Rattle.hk_place.specs.Past.{Past, tickets_of, last_upto, last_change}
use Rattle.hk_place.specs.Place.{greatest, is_ticket, is_displaced, placed_by, place_of}
use Rattle.hk_place.specs.Cut.{past_of, list_of, WasShown, WasShownBefore, ShowsRow, JointReadsAreCuts, PlacedReadsAreSince}
use Rattle.hk_place.proofs.Publishing.{Among, among_left, among_right, among_map, among_prefix, one_of, before_across, last_of}
use Rattle.hk_place.proofs.Picking.{IsSplit, split_at, all_published, key_of_cell, last_of_front, IsPicked, pick}

-- ---- what a place tells of each snapshot
abbrev IsLast : Past → ℕ → Snapshot → Type 0
IsLast past moment shown = last_change past moment shown.key ≡ Some shown.ticket

last_by : (ticket : ℕ) (o : Option ℕ) → not (is_ticket ticket o) ≡ false → o ≡ Some ticket
last_by ticket None e = absurd (cc)
last_by ticket (Some t) e = by_test (t == ticket) refl
  where
    by_test : (b : Bool) → (t == ticket) ≡ b → ◌≡◌ {A = Option ℕ} (Some t) (Some ticket)
    by_test true d = ap Some (grind (arith, nat_tests, d))
    by_test false d = absurd (let is : not (t == ticket) ≡ true = ap not d in cc)

none_displaced : (past : Past) (moment : ℕ) (found : List Snapshot) → find (is_displaced past moment) found ≡ None → AllByRecursion (IsLast past moment) found
none_displaced past moment [] none = tt
none_displaced past moment (x ∷ found) none = by_test (is_displaced past moment x) refl (none_displaced past moment found)
  where
    by_test : (b : Bool) → is_displaced past moment x ≡ b → (find (is_displaced past moment) found ≡ None → AllByRecursion (IsLast past moment) found) → AllByRecursion (IsLast past moment) (x ∷ found)
    by_test true e more = absurd (let is : find (is_displaced past moment) (x ∷ found) ≡ Some x = ap (λ (b : Bool). cond b (Some x) (find (is_displaced past moment) found)) e in cc)
    by_test false e more = (
      last_by x.ticket (last_change past moment x.key) e,
      more (sym (ap (λ (b : Bool). cond b (Some x) (find (is_displaced past moment) found)) e) ∙ none),
    )

by_place : (past : Past) (moment place : ℕ) (found : List Snapshot) (o : Option Snapshot) → find (is_displaced past moment) found ≡ o → placed_by past moment o ≡ Ok place → AllByRecursion (IsLast past place) found
by_place past moment place found None e is =
    let same : moment ≡ place = cc in
    subst (λ (m : ℕ). AllByRecursion (IsLast past m) found) same (none_displaced past moment found e)
by_place past moment place found (Some x) e is = absurd (cc)

all_last : (past : Past) (place : ℕ) (found : List Snapshot) → place_of past found ≡ Ok place → AllByRecursion (IsLast past place) found
all_last past place found is = by_place past (greatest found) place found (find (is_displaced past (greatest found)) found) refl is

-- ---- one snapshot
last_joined : (key : List ℕ) (front back : List Publication) (row : Option Row) → last_row key (front ++ back) row ≡ last_row key back (last_row key front row)
last_joined key [] back row = refl
last_joined key (p ∷ front) back row = last_joined key front back (cond (same_key key p.key) (Some p.row) row)

-- the snapshot of a row, whoever asked for the step that left it
abbrev shows : List ℕ → Row → ℕ → Snapshot
shows key row ticket = snapshot_of (published key row ticket None)

module _ (s : ShardState) (is : IsShard s) (moment : ℕ) (cut : IsSplit moment s.journal) where
  -- what the steps up to the moment left last of the snapshot's key
  abbrev Left : Snapshot → Type 0
  Left x = IsPicked moment x.key (shown_rows (is_in (cell_of x.key)) s.base cut.front) (last_row x.key (is.shows (cell_of x.key)).front None) x.ticket

  left : (x : Snapshot) → IsLast (past_of s) moment x → Left x
  left x last =
      let cell : ℕ = cell_of x.key in
      let rows : List ShownRow = shown_rows (is_in cell) s.base cut.front in
      let upto : last_upto moment (tickets_of s.base cut.front x.key) ≡ Some x.ticket =
      sym (ap (λ (l : List JournalEntry). last_upto moment (tickets_of s.base l x.key)) cut.whole ∙ last_of_front moment x.key s.base cut.front cut.back cut.behind) ∙ last in
      pick moment x.key rows (last_row x.key (is.shows cell).front None) x.ticket
      (all_published (λ t. t ≤ moment) (is_in cell) s.base cut.front cut.upto)
      (ap (λ (l : List ShownRow). last_upto moment (map (λ r. r.ticket) l)) (key_of_cell x.key cell refl s.base cut.front) ∙ upto)

  -- it was published by the journal
  by_journal : (x : Snapshot) (l : Left x) → Among (shown_in (cell_of x.key) s.base s.journal) (publication l.shown)
  by_journal x l =
      let cell : ℕ = cell_of x.key in
      subst (λ (ps : List Publication). Among ps (publication l.shown))
      (sym (ap (shown_in cell s.base) cut.whole ∙ shown_joined cell s.base cut.front cut.back))
      (among_left (shown_in cell s.base cut.front) (shown_in cell (replay s.base cut.front) cut.back) (publication l.shown)
      (among_map publication (shown_rows (is_in cell) s.base cut.front) l.shown l.among))

  in_list : (x : Snapshot) (l : Left x) → Among (list_of s x) (publication l.shown)
  in_list x l =
      let shows = is.shows (cell_of x.key) in
      subst (λ (ps : List Publication). Among ps (publication l.shown)) (sym shows.ends) (among_right shows.front _ (publication l.shown) (by_journal x l))

  front_all : (journal back : List JournalEntry) (front : List JournalEntry) → journal ≡ front ++ back → AllByRecursion (λ e. IsNodeEvent e.event) journal → AllByRecursion (λ e. IsNodeEvent e.event) front
  front_all journal back [] whole all = tt
  front_all journal back (e ∷ front) whole all =
      let at : AllByRecursion (λ (e : JournalEntry). IsNodeEvent e.event) (e ∷ front ++ back) = subst (AllByRecursion (λ (e : JournalEntry). IsNodeEvent e.event)) whole all in
      (at.0, front_all (front ++ back) back front refl at.1)

  -- and is the row of the state behind these steps
  row_is : (x : Snapshot) (l : Left x) → find_row x.key (replay s.base cut.front).rows ≡ Some l.shown.row
  row_is x l =
      let cell : ℕ = cell_of x.key in
      let shows = is.shows cell in
      sym (covers_over cell shows.front s.base cut.front is.node (front_all s.journal cut.back cut.front cut.whole is.events) shows.covers x.key refl)
      ∙ (last_joined x.key shows.front (shown_in cell s.base cut.front) None ∙ l.last)

  one : (x : Snapshot) → WasShown s x → IsLast (past_of s) moment x → ShowsRow (replay s.base cut.front).rows x
  one x was last =
      let l : Left x = left x last in
      let seen = last_of was.0 x was.2 in
      let p : Publication = seen.last in
      let here : Among (list_of s x) p = among_prefix was.0 (list_of s x) p was.1 seen.among in
      let key : x.key ≡ p.key = sym (ap (λ (y : Snapshot). y.key) seen.shows) in
      let ticket : x.ticket ≡ p.ticket = sym (ap (λ (y : Snapshot). y.ticket) seen.shows) in
      let same : p ≡ publication l.shown = one_of (list_of s x) p (publication l.shown) (is.rises (cell_of x.key)) here (in_list x l) (sym key ∙ sym l.same) (sym ticket ∙ sym l.at) in
      let shown : x ≡ shows l.shown.key l.shown.row l.shown.ticket = sym seen.shows ∙ ap snapshot_of same in
      (l.shown.row, row_is x l, shown ∙ (ap (λ (k : List ℕ). shows k l.shown.row l.shown.ticket) l.same ∙ ap (shows x.key l.shown.row) l.at))

  not_earlier : (x : Snapshot) → IsLast (past_of s) moment x → WasShownBefore s x → ⊥
  not_earlier x last was =
      let l : Left x = left x last in
      let seen = last_of was.0 x was.3 in
      let p : Publication = seen.last in
      let cell : ℕ = cell_of x.key in
      let key : p.key ≡ x.key = ap (λ (y : Snapshot). y.key) seen.shows in
      let ticket : p.ticket ≡ x.ticket = ap (λ (y : Snapshot). y.ticket) seen.shows in
      let since : List Publication = was.1 ++ shown_in cell s.base s.journal in
      let rises : IsRising (was.0 ++ since) = subst IsRising (was.2 ∙ append_assoc was.0 was.1 (shown_in cell s.base s.journal)) (is.rises cell) in
      not_before p (publication l.shown) (key ∙ sym l.same) (ticket ∙ sym l.at)
      (before_across was.0 since p (publication l.shown) rises seen.among (among_right was.1 _ (publication l.shown) (by_journal x l)))

  all_shown : (found : List Snapshot) → AllByRecursion (WasShown s) found → AllByRecursion (IsLast (past_of s) moment) found → AllByRecursion (ShowsRow (replay s.base cut.front).rows) found
  all_shown [] was last = tt
  all_shown (x ∷ found) was last = (one x was.0 last.0, all_shown found was.1 last.1)

  all_since : (found : List Snapshot) → AllByRecursion (IsLast (past_of s) moment) found → AllByRecursion (λ x. WasShownBefore s x → ⊥) found
  all_since [] last = tt
  all_since (x ∷ found) last = (not_earlier x last.0, all_since found last.1)

-- ---- all of them
pub joint_reads_are_cuts : JointReadsAreCuts
joint_reads_are_cuts s found moment is was placed =
    let cut : IsSplit moment s.journal = split_at moment s.journal is.is_replay.rising in
    record {
      front = cut.front;
      back = cut.back;
      whole = cut.whole;
      upto = cut.upto;
      behind = cut.behind;
      rows = all_shown s is moment cut found was (all_last (past_of s) moment found placed);
    }

pub placed_reads_are_since : PlacedReadsAreSince
placed_reads_are_since s found moment is placed =
    let cut : IsSplit moment s.journal = split_at moment s.journal is.is_replay.rising in
    all_since s is moment cut found (all_last (past_of s) moment found placed)
