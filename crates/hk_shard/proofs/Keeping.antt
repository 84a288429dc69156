-- What every shard keeps, at its beginning, after an event and after a checkpoint.
use Rattle.std.proofs.Common.{◌≡◌, ◌<◌, ◌≤◌, ℕ, suc, Bool, true, false, cond, List, [], ◌∷◌, ◌++◌, length, map, max, Option, None, refl, sym, ap, ◌∙◌, subst, arith, append_assoc, le_refl}
use Rattle.std.specs.List.{filter, AllByRecursion}
use Rattle.std.proofs.lemmas.List.{append-nil}
use Rattle.hk_base.specs.Range.{IsWithin}
use Rattle.hk_base.specs.declared.call.CallNo.{CallNo}
use Rattle.hk_key.specs.Sound.{IsSound}
use Rattle.hk_node.specs.declared.event.NodeEvent.{NodeEvent}
use Rattle.hk_node.specs.declared.out.NodeOut.{NodeOut}
use Rattle.hk_node.specs.declared.report.Report.{Report}
use Rattle.hk_node.specs.Rows.{Rows, find_row, row_at}
use Rattle.hk_node.specs.Report.{changed_rows}
use Rattle.hk_node.specs.Outs.{IsOutOf}
use Rattle.hk_node.specs.Node.{NodeState, members_of}
use Rattle.hk_node.specs.Calls.{lease_end}
use Rattle.hk_node.specs.Steps.{node_step}
use Rattle.hk_node.specs.Sound.{IsNode, IsNodeEvent}
use Rattle.hk_node.proofs.Order.{holds_at}
use Rattle.hk_node.proofs.Exact.{reports_are_exact}
use Rattle.hk_node.proofs.KeepsMore.{step_keeps_node}
use Rattle.hk_journal.specs.declared.step_entry.JournalEntry.{JournalEntry}
use Rattle.hk_journal.specs.Journal.{ShownRow, after, replay, call_of, changed, shown_by, IsBefore, IsReplay}
use Rattle.hk_journal.proofs.Joined.{replays_are_joined, replays_stay_replays}
use Rattle.hk_snap.specs.declared.rule.Publication.{Publication}
use Rattle.hk_snap.specs.Snapshots.{IsRising}
use Rattle.hk_snap.specs.Ends.{End, Reader, names, seen_at, another, writing_end}
use Rattle.hk_snap.specs.Leases.{Lease, kept_lease, raised}
use Rattle.hk_snap.proofs.Lists.{same_long}
use Rattle.hk_shard.specs.Shown.{publication, is_in, shown_in, Covers, Shows}
use Rattle.hk_shard.specs.Shard.{ShardState, IsShard, IsApplied, step_entry, checkpointed, unseen}
use Rattle.hk_shard.specs.declared.replaced.Replaced.{Replaced}
use Rattle.hk_shard.specs.Replaced.{before_all, AreReplaced}
use Rattle.hk_shard.specs.Publishing.{publications, with_all, MayBePublished}
use Rattle.hk_shard.proofs.Listing.{names_all, seen_all, may_be_published, rising_all}
use Rattle.hk_shard.proofs.Lasting.{leases_never_fall}
use Rattle.hk_shard.proofs.Undoing.{back_at_first, none_replaced}
use Rattle.hk_shard.proofs.Covering.{shown_of, step_shown, shown_joined, covers_over}

replay_is_node : (base : NodeState) (journal : List JournalEntry) → IsNode base → AllByRecursion (λ e. IsNodeEvent e.event) journal → IsNode (replay base journal)
replay_is_node base [] ok all = ok
replay_is_node base (x ∷ journal) ok all = replay_is_node (after base x) journal (step_keeps_node base x.event ok all.0) all.1

pub part_is_node : (s : ShardState) → IsShard s → IsNode s.part
part_is_node s is = subst IsNode (sym is.part) (replay_is_node s.base s.journal is.node is.events)

all_snoc : {X : Type 0} (P : X → Type 0) (xs : List X) (x : X) → AllByRecursion P xs → P x → AllByRecursion P (xs ++ x ∷ [])
all_snoc P [] x all last = (last, tt)
all_snoc P (y ∷ xs) x all last = (all.0, all_snoc P xs x all.1 last)

before_last : (journal : List JournalEntry) (last : ℕ) (entry : JournalEntry) → AllByRecursion (λ e. e.ticket ≤ last) journal → last < entry.ticket → IsBefore journal (entry ∷ [])
before_last [] last entry all up = tt
before_last (x ∷ []) last entry all up = omega (arith, all.0)
before_last (x ∷ y ∷ journal) last entry all up = before_last (y ∷ journal) last entry all.1 up

older : (journal : List JournalEntry) (last ticket : ℕ) → AllByRecursion (λ e. e.ticket ≤ last) journal → last < ticket → AllByRecursion (λ e. e.ticket ≤ ticket) journal
older [] last ticket all up = tt
older (x ∷ journal) last ticket all up = (omega (arith, all.0), older journal last ticket all.1 up)

older_shown : (seen : List Publication) (last ticket : ℕ) → AllByRecursion (λ p. p.ticket ≤ last) seen → last < ticket → AllByRecursion (λ p. p.ticket ≤ ticket) seen
older_shown [] last ticket all up = tt
older_shown (x ∷ seen) last ticket all up = (omega (arith, all.0), older_shown seen last ticket all.1 up)

-- ---- the tickets of what a step shows
ticket_by : (b : Bool) (p : Publication) (ps : List ShownRow) (ticket : ℕ) → p.ticket ≤ ticket
    → (s : ShownRow) → publication s ≡ p → AllByRecursion (λ p. p.ticket ≤ ticket) (map publication ps) → AllByRecursion (λ p. p.ticket ≤ ticket) (map publication (cond b (s ∷ ps) ps))
ticket_by true p ps ticket is s e more = (subst (λ q. q.ticket ≤ ticket) (sym e) is, more)
ticket_by false p ps ticket is s e more = more

shown_ticket : (cell : ℕ) (ticket : ℕ) (call : Option CallNo) (xs : Rows) → AllByRecursion (λ p. p.ticket ≤ ticket) (map publication (filter (λ s. is_in cell s.key) (map (shown_of ticket call) xs)))
shown_ticket cell ticket call [] = tt
shown_ticket cell ticket call (x ∷ xs) =
    ticket_by (is_in cell x.0) (publication (shown_of ticket call x)) (filter (λ s. is_in cell s.key) (map (shown_of ticket call) xs)) ticket (le_refl ticket) (shown_of ticket call x) refl (shown_ticket cell ticket call xs)

all_append : (P : Publication → Type 0) (xs ys : List Publication) → AllByRecursion P xs → AllByRecursion P ys → AllByRecursion P (xs ++ ys)
all_append P [] ys all more = more
all_append P (x ∷ xs) ys all more = (all.0, all_append P xs ys all.1 more)

step_tickets : (cell : ℕ) (node : NodeState) (entry : JournalEntry) → AllByRecursion (λ p. p.ticket ≤ entry.ticket) (shown_in cell node (entry ∷ []))
step_tickets cell node entry =
    subst (λ l. AllByRecursion (λ p. p.ticket ≤ entry.ticket) (map publication l)) (sym (append-nil (filter (λ s. is_in cell s.key) (shown_by node entry))))
    (shown_ticket cell entry.ticket (call_of entry.event) (changed node.rows (after node entry).rows))

-- ---- the lists of what is published rise
stamps_within : (node : NodeState) → IsNode node → (key : List ℕ) → IsWithin (row_at key node.rows).stamp
stamps_within node is key = holds_at (λ row. IsWithin row.stamp) key node.rows (omega arith) (rows_within node.rows is.rows)
  where
    rows_within : (rows : Rows) → AllByRecursion (λ r. IsSound node.id (members_of node) r.1) rows → AllByRecursion (λ r. IsWithin r.1.stamp) rows
    rows_within [] all = tt
    rows_within (r ∷ rows) all = (all.0.within, rows_within rows all.1)

lists_rise : (s : ShardState) (ticket : ℕ) (event : NodeEvent) (ends : List End) → IsShard s → s.last < ticket → IsNodeEvent event
    → ((cell : ℕ) → seen_at ends cell ≡ seen_at s.ends cell ++ shown_in cell s.part (step_entry ticket s.part event ∷ [])) → (cell : ℕ) → IsRising (seen_at ends cell)
lists_rise s ticket event ends is up within shown cell =
    subst IsRising (seen_all s.ends published cell is.cells ∙ (ap (λ l. seen_at s.ends cell ++ l) (step_shown cell s.part (step_entry ticket s.part event) new_is) ∙ sym (shown cell)))
    (rising_all s.ends published is.cells is.rises
    (may_be_published new.rows ticket (call_of event) s.ends s.last (changed_rows s.part.rows new.rows) is.cells up is.shown_tickets
    (reports_are_exact s.part event (part_is_node s is) within).rising (stamps_within new new_is))
    cell)
  where
    new : NodeState
    new = (node_step s.part event).node

    new_is : IsNode new
    new_is = step_keeps_node s.part event (part_is_node s is) within

    published : List Publication
    published = publications new.rows ticket (call_of event) (changed_rows s.part.rows new.rows)

-- ---- an event
shows_more : (cell : ℕ) (seen seen' : List Publication) (base : NodeState) (journal : List JournalEntry) (entry : JournalEntry) → Shows cell seen base journal
    → seen' ≡ seen ++ shown_in cell (replay base journal) (entry ∷ []) → Shows cell seen' base (journal ++ entry ∷ [])
shows_more cell seen seen' base journal entry h e = record {
  front = h.front;
  ends = e ∙ (ap (λ l. l ++ shown_in cell (replay base journal) (entry ∷ [])) h.ends
      ∙ (append_assoc h.front (shown_in cell base journal) (shown_in cell (replay base journal) (entry ∷ []))
      ∙ ap (λ l. h.front ++ l) (sym (shown_joined cell base journal (entry ∷ [])))));
  covers = h.covers;
}

greater : (a b : ℕ) → a ≤ b → max a b ≡ b
greater a b up = omega arith

lease_up : (l : Lease) (a b c d : ℕ) → l ≡ kept_lease l.name a c → a ≤ b → c ≤ d → raised l b d ≡ kept_lease l.name b d
lease_up l a b c d is up later =
    ap (λ n. kept_lease l.name n (max l.now d)) (ap (λ (x : Lease). max x.end b) is ∙ greater a b up)
    ∙ ap (kept_lease l.name b) (ap (λ (x : Lease). max x.now d) is ∙ greater c d later)

abbrev with_entry : ShardState → ℕ → NodeEvent → List End → ShardState
with_entry s ticket event ends =
    let part = (node_step s.part event).node in
    record {
      base = s.base;
      journal = s.journal ++ step_entry ticket s.part event ∷ [];
      part = part;
      last = ticket;
      ends = ends;
      lease = raised s.lease (lease_end part) part.clock;
    }

entry_kept : (s : ShardState) (ticket : ℕ) (event : NodeEvent) (ends : List End) → IsShard s → s.last < ticket → IsNodeEvent event
    → ((cell : ℕ) → seen_at ends cell ≡ seen_at s.ends cell ++ shown_in cell s.part (step_entry ticket s.part event ∷ [])) → names ends ≡ names s.ends
    → IsShard (with_entry s ticket event ends)
entry_kept s ticket event ends is up within shown named = record {
  node = is.node;
  is_replay = replays_stay_replays s.base s.journal (entry ∷ []) is.is_replay
      (subst (λ n. IsReplay n (entry ∷ [])) is.part (record { rising = (tt, tt); steps = (record { letters = refl; replies = refl }, tt) }))
      (before_last s.journal s.last entry is.tickets up);
  part = ap (λ n. after n entry) is.part ∙ sym (replays_are_joined s.base s.journal (entry ∷ []));
  shows = λ cell. shows_more cell (seen_at s.ends cell) (seen_at ends cell) s.base s.journal entry (is.shows cell)
      (shown cell ∙ ap (λ n. seen_at s.ends cell ++ shown_in cell n (entry ∷ [])) is.part);
  lease = lease_up s.lease (lease_end s.part) (lease_end new) s.part.clock new.clock is.lease (leases_never_fall s.part event).end (leases_never_fall s.part event).clock;
  cells = same_long ends s.ends named ∙ is.cells;
  events = all_snoc (λ e. IsNodeEvent e.event) s.journal entry is.events within;
  tickets = all_snoc (λ e. e.ticket ≤ ticket) s.journal entry (older s.journal s.last ticket is.tickets up) (le_refl ticket);
  shown_tickets = λ cell. subst (AllByRecursion (λ p. p.ticket ≤ ticket)) (sym (shown cell))
      (all_append (λ p. p.ticket ≤ ticket) (seen_at s.ends cell) (shown_in cell s.part (entry ∷ [])) (older_shown (seen_at s.ends cell) s.last ticket (is.shown_tickets cell) up)
      (step_tickets cell s.part entry));
  rises = lists_rise s ticket event ends is up within shown;
}
  where
    entry : JournalEntry
    entry = step_entry ticket s.part event

    new : NodeState
    new = (node_step s.part event).node

applied_is : (s t : ShardState) (ticket : ℕ) (event : NodeEvent) → IsApplied s ticket event t → t ≡ with_entry s ticket event t.ends
applied_is s t ticket event is = λ i. record {
  base = is.base i;
  journal = is.journal i;
  part = is.part i;
  last = is.last i;
  ends = t.ends;
  lease = (is.lease ∙ ap (λ p. raised s.lease (lease_end p) p.clock) is.part) i;
}

pub applied_kept : (s t : ShardState) (ticket : ℕ) (event : NodeEvent) → IsShard s → s.last < ticket → IsNodeEvent event → IsApplied s ticket event t → IsShard t
applied_kept s t ticket event is up within applied =
    subst IsShard (sym (applied_is s t ticket event applied)) (entry_kept s ticket event t.ends is up within applied.shown applied.names)

-- ---- a checkpoint
pub checkpoint_kept : (s : ShardState) → IsShard s → IsShard (checkpointed s)
checkpoint_kept s is = record {
  node = part_is_node s is;
  is_replay = record { rising = tt; steps = tt };
  part = refl;
  shows = λ cell. record {
    front = seen_at s.ends cell;
    ends = sym (append-nil (seen_at s.ends cell));
    covers = subst (λ l. Covers cell l s.part.rows) (sym (is.shows cell).ends)
        (subst (λ n. Covers cell ((is.shows cell).front ++ shown_in cell s.base s.journal) n.rows) (sym is.part)
        (covers_over cell (is.shows cell).front s.base s.journal is.node is.events (is.shows cell).covers));
  };
  lease = is.lease;
  cells = is.cells;
  events = tt;
  tickets = tt;
  shown_tickets = is.shown_tickets;
  rises = is.rises;
}

-- ---- the beginning
pub new_kept : (base part : NodeState) (ends : List End) (lease : Lease) → IsNode base → base.rows ≡ [] → part ≡ base → length ends ≡ 32 → ((cell : ℕ) → seen_at ends cell ≡ [])
    → lease ≡ kept_lease lease.name (lease_end part) part.clock → IsShard (record { base = base; journal = []; part = part; last = 0; ends = ends; lease = lease })
new_kept base part ends lease ok empty same long nothing is = record {
  node = ok;
  is_replay = record { rising = tt; steps = tt };
  part = same;
  shows = λ cell. record { front = []; ends = nothing cell; covers = λ key here. sym (ap (find_row key) empty) };
  lease = is;
  cells = long;
  events = tt;
  tickets = tt;
  shown_tickets = λ cell. subst (AllByRecursion (λ p. p.ticket ≤ 0)) (sym (nothing cell)) tt;
  rises = λ cell. subst IsRising (sym (nothing cell)) tt;
}

max_zero : (n : ℕ) → max 0 n ≡ n
max_zero n = omega (arith)

-- a lease cell that was raised for the first time
pub raised_first : (keeper first : Lease) (end now : ℕ) → first ≡ kept_lease first.name 0 0 → keeper ≡ raised first end now → keeper ≡ kept_lease keeper.name end now
raised_first keeper first end now is up =
    let ended : max first.end end ≡ end = ap (λ (l : Lease). max l.end end) is ∙ max_zero end in
    let clock : max first.now now ≡ now = ap (λ (l : Lease). max l.now now) is ∙ max_zero now in
    let named : first.name ≡ keeper.name = sym (ap (λ (l : Lease). l.name) up) in
    up ∙ (λ i. kept_lease (named i) (ended i) (clock i))

-- ---- readers that have seen nothing
abbrev fresh : List End → Reader
fresh ends = record { ends = ends; shown = None }

pub unseen_names : (ends : List End) → names (unseen ends) ≡ names ends
unseen_names [] = refl
unseen_names (e ∷ ends) = ap (λ l. e.name ∷ l) (unseen_names ends)

by_names : (ends : List End) → unseen ends ≡ map (λ n. writing_end n []) (names ends)
by_names [] = refl
by_names (e ∷ ends) = ap (λ l. writing_end e.name [] ∷ l) (by_names ends)

pub same_unseen : (ends others : List End) → names others ≡ names ends → unseen ends ≡ unseen others
same_unseen ends others e = by_names ends ∙ (ap (map (λ n. writing_end n [])) (sym e) ∙ sym (by_names others))

pub unseen_another : (ends : List End) → map another (unseen ends) ≡ unseen ends
unseen_another [] = refl
unseen_another (e ∷ ends) = ap (λ l. writing_end e.name [] ∷ l) (unseen_another ends)

-- one that is split from a reader that has seen nothing
pub split_unseen : (reader made : Reader) (ends now : List End) → reader ≡ record { ends = unseen ends; shown = None } → made ≡ record { ends = map another reader.ends; shown = None }
    → ends ≡ now → made ≡ record { ends = unseen now; shown = None }
split_unseen reader made ends now is made_is same =
    made_is ∙ ap fresh (ap (λ (r : Reader). map another r.ends) is ∙ (unseen_another ends ∙ ap unseen same))

pub nothing_unseen : (ends : List End) → ((cell : ℕ) → seen_at ends cell ≡ []) → map another ends ≡ unseen ends
nothing_unseen [] nothing = refl
nothing_unseen (e ∷ ends) nothing = (λ i. writing_end e.name (nothing 0 i) ∷ nothing_unseen ends (λ cell. nothing (suc cell)) i)

pub first_reader : (reader : Reader) (ends : List End) → ((cell : ℕ) → seen_at ends cell ≡ []) → reader ≡ record { ends = map another ends; shown = None }
    → reader ≡ record { ends = unseen ends; shown = None }
first_reader reader ends nothing is = is ∙ ap fresh (nothing_unseen ends nothing)

-- and it stays one, whatever is published
pub still_unseen : (reader : Reader) (ends ends' : List End) → names ends' ≡ names ends → reader ≡ record { ends = unseen ends; shown = None } → reader ≡ record { ends = unseen ends'; shown = None }
still_unseen reader ends ends' same is = is ∙ ap fresh (same_unseen ends ends' same)

-- ---- an event, from what is known of each part of the shard
pub applied_by : (old : ShardState) (ticket : ℕ) (event : NodeEvent) (out : NodeOut) (part : NodeState) (journal : List JournalEntry) (call : Option CallNo) (ends : List End) (lease : Lease)
    → IsShard old → IsNodeEvent event → IsOutOf out old.part (node_step old.part event) → part ≡ (node_step old.part event).node
    → journal ≡ old.journal ++ step_entry ticket old.part event ∷ [] → call ≡ call_of event
    → ends ≡ with_all old.ends (publications part.rows ticket call out.report.rows) → lease ≡ raised old.lease (lease_end part) part.clock
    → IsApplied old ticket event (record { base = old.base; journal = journal; part = part; last = ticket; ends = ends; lease = lease })
applied_by old ticket event out part journal call ends lease is within told part_is journal_is call_is ends_is lease_is = record {
  base = refl;
  part = part_is;
  journal = journal_is;
  last = refl;
  shown = λ cell. ap (λ e. seen_at e cell) ends_is
      ∙ (seen_all old.ends published cell is.cells
      ∙ ap (λ l. seen_at old.ends cell ++ l) (ap (filter (λ p. is_in cell p.key)) same ∙ step_shown cell old.part entry (step_keeps_node old.part event (part_is_node old is) within)));
  names = ap names ends_is ∙ names_all old.ends published;
  lease = lease_is;
}
  where
    entry : JournalEntry
    entry = step_entry ticket old.part event

    new : NodeState
    new = (node_step old.part event).node

    published : List Publication
    published = publications part.rows ticket call out.report.rows

    same : published ≡ publications new.rows ticket (call_of event) (changed_rows old.part.rows new.rows)
    same = λ i. publications (part_is i).rows ticket (call_is i) (ap (λ (r : Report). r.rows) told.reported i)

-- what its step changed may be published
pub next_by : (old : ShardState) (ticket : ℕ) (event : NodeEvent) (out : NodeOut) (part : NodeState) (call : Option CallNo) → IsShard old → old.last < ticket → IsNodeEvent event
    → IsOutOf out old.part (node_step old.part event) → part ≡ (node_step old.part event).node → MayBePublished old.ends (publications part.rows ticket call out.report.rows)
next_by old ticket event out part call is up within told part_is =
    may_be_published part.rows ticket call old.ends old.last out.report.rows is.cells up is.shown_tickets told.changed.rising
    (stamps_within part (subst IsNode (sym part_is) (step_keeps_node old.part event (part_is_node old is) within)))

-- ---- the base is the part with all undone
abbrev state_of : NodeState → List JournalEntry → NodeState → ℕ → List End → Lease → ShardState
state_of base journal part last ends lease = record { base = base; journal = journal; part = part; last = last; ends = ends; lease = lease }

-- what the shard keeps, from what it keeps of its base
pub base_by : (base : NodeState) (journal : List JournalEntry) (part : NodeState) (last : ℕ) (ends : List End) (lease : Lease) (replaced : List Replaced)
    → AreReplaced base replaced part → IsShard (state_of base journal part last ends lease)
    → IsShard (state_of (before_all replaced part) journal part last ends lease) × AreReplaced (before_all replaced part) replaced part
base_by base journal part last ends lease replaced are is =
    let back : base ≡ before_all replaced part = sym (back_at_first base part replaced are) in (
      subst (λ b. IsShard (state_of b journal part last ends lease)) back is,
      subst (λ b. AreReplaced b replaced part) back are,
    )

-- a checkpoint, from what is known of each part of the shard
pub checkpoint_by : (s : ShardState) (journal : List JournalEntry) (replaced : List Replaced) → IsShard s → journal ≡ [] → replaced ≡ []
    → IsShard (state_of (before_all replaced s.part) journal s.part s.last s.ends s.lease) × AreReplaced (before_all replaced s.part) replaced s.part
checkpoint_by s journal replaced is none none_replaced_now =
    base_by s.part journal s.part s.last s.ends s.lease replaced (none_replaced s.part replaced none_replaced_now)
    (subst (λ j. IsShard (state_of s.part j s.part s.last s.ends s.lease)) (sym none) (checkpoint_kept s is))

-- and what it makes of the shard
pub checkpoint_is : (s : ShardState) (journal : List JournalEntry) (replaced : List Replaced) → journal ≡ [] → replaced ≡ []
    → state_of (before_all replaced s.part) journal s.part s.last s.ends s.lease ≡ checkpointed s
checkpoint_is s journal replaced none none_replaced_now =
    λ i. state_of (before_all (none_replaced_now i) s.part) (none i) s.part s.last s.ends s.lease
