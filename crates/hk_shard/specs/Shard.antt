-- What contracts see of a shard, what each shard keeps, and what an event makes of one.
use Rattle.std.specs.Prelude.{◌≡◌, ℕ, ◌≤◌, ◌%◌, List, [], ◌∷◌, ◌++◌, length, sum, map}
use Rattle.std.specs.List.{AllByRecursion}
use Rattle.hk_node.specs.declared.event.NodeEvent.{NodeEvent}
use Rattle.hk_node.specs.Node.{NodeState}
use Rattle.hk_node.specs.Stepped.{replies_of}
use Rattle.hk_node.specs.Steps.{node_step}
use Rattle.hk_node.specs.Calls.{lease_end}
use Rattle.hk_node.specs.Sound.{IsNode, IsNodeEvent}
use Rattle.hk_journal.specs.declared.step_entry.JournalEntry.{JournalEntry}
use Rattle.hk_journal.specs.Journal.{replay, IsReplay}
use Rattle.hk_snap.specs.Snapshots.{IsRising}
use Rattle.hk_snap.specs.Ends.{End, names, seen_at, writing_end}
use Rattle.hk_snap.specs.Leases.{Lease, kept_lease, raised}
use Rattle.hk_shard.specs.Shown.{shown_in, Shows}

-- the shard of a key: the sum of its bytes modulo 8
abbrev pub shard_of : List ℕ → ℕ
shard_of key = sum key % 8

pub record ShardState : Type 0 where
  -- the node as it was when the journal began, what happened since, and the node as it is
  pub base : NodeState
  pub journal : List JournalEntry
  pub part : NodeState
  -- the ticket of the last event, 0 at first
  pub last : ℕ
  -- of each cell, all that was published in it
  pub ends : List End
  -- what the lease cell shows
  pub lease : Lease

-- The journal is a replay from the base, and the part is the node that it leads to. Each cell's list ends with what the journal shows.
-- In each list the tickets rise, and equal ones by their keys.
-- The lease cell shows the end of the part's lease, which is 0 where the part is not ready, and its clock.
pub record IsShard (s : ShardState) : Type 0 where
  pub node : IsNode s.base
  pub is_replay : IsReplay s.base s.journal
  pub part : s.part ≡ replay s.base s.journal
  pub shows : (cell : ℕ) → Shows cell (seen_at s.ends cell) s.base s.journal
  pub lease : s.lease ≡ kept_lease s.lease.name (lease_end s.part) s.part.clock
  pub cells : length s.ends ≡ 32
  -- the events were such as a node may be given, and no ticket is above the last
  pub events : AllByRecursion (λ entry. IsNodeEvent entry.event) s.journal
  pub tickets : AllByRecursion (λ entry. entry.ticket ≤ s.last) s.journal
  pub shown_tickets : (cell : ℕ) → AllByRecursion (λ p. p.ticket ≤ s.last) (seen_at s.ends cell)
  pub rises : (cell : ℕ) → IsRising (seen_at s.ends cell)

-- the cells of a shard that is to be made: what was published in each, nothing, and what the lease cell shows
pub record CellsState : Type 0 where
  pub ends : List End
  pub lease : Lease

-- A shard of this node: nothing happened yet, and nothing was published.
pub record IsNew (node : NodeState) (s : ShardState) : Type 0 where
  pub base : s.base ≡ node
  pub part : s.part ≡ node
  pub journal : s.journal ≡ []
  pub last : s.last ≡ 0
  pub nothing : (cell : ℕ) → seen_at s.ends cell ≡ []

-- the entry of the step that the event makes of the node
abbrev pub step_entry : ℕ → NodeState → NodeEvent → JournalEntry
step_entry ticket node event =
    record { ticket = ticket; event = event; letters = (node_step node event).letters; replies = replies_of (node_step node event) }

-- An event with its ticket makes the core's step of the part, one entry of the journal, and in each cell the publications that
-- this entry shows. The lease cell rises to the part's lease and clock. The cells stay the same ones.
pub record IsApplied (old : ShardState) (ticket : ℕ) (event : NodeEvent) (new : ShardState) : Type 0 where
  pub base : new.base ≡ old.base
  pub part : new.part ≡ (node_step old.part event).node
  pub journal : new.journal ≡ old.journal ++ step_entry ticket old.part event ∷ []
  pub last : new.last ≡ ticket
  pub shown : (cell : ℕ) →
      seen_at new.ends cell ≡ seen_at old.ends cell ++ shown_in cell old.part (step_entry ticket old.part event ∷ [])
  pub names : names new.ends ≡ names old.ends
  pub lease : new.lease ≡ raised old.lease (lease_end new.part) new.part.clock

-- the base becomes the part, and the journal begins anew
abbrev pub checkpointed : ShardState → ShardState
checkpointed s = record { base = s.part; journal = []; part = s.part; last = s.last; ends = s.ends; lease = s.lease }

-- readers of the shard's cells that have seen nothing
abbrev pub unseen : List End → List End
unseen ends = map (λ e. writing_end e.name []) ends
