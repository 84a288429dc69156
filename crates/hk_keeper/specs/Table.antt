-- The wish of a manager in a shard: five rows, the first that holds, else none.
use Rattle.std.specs.Prelude.{ℕ, ◌+◌, ◌-◌, ◌*◌, ◌/◌, Bool, true, false, not, ◌&&◌, ◌||◌, ◌==◌, nat_lt, nat_le, if◌then◌else◌, List, [], ◌∷◌, length, Option, None, Some, slice_get}
use Rattle.std.specs.List.{list_any, count_by, find}
use Rattle.hk_base.specs.declared.stamp.NodeId.{NodeId}
use Rattle.hk_base.specs.declared.view.Change.{Change}
use Rattle.hk_base.specs.declared.view.Change.TheVariants.{Drop, Add}
use Rattle.hk_base.specs.View.{is_member}
use Rattle.hk_lease.specs.Wait.{wait}
use Rattle.hk_keeper.specs.declared.heard.Ask.{Ask}
use Rattle.hk_keeper.specs.declared.heard.ShardHeard.{ShardHeard}
use Rattle.hk_keeper.specs.declared.heard.Heard.{Heard}
use Rattle.hk_keeper.specs.declared.heard.Proposal.{Proposal}
use Rattle.hk_keeper.specs.declared.heard.Wish.{Wish}
use Rattle.hk_keeper.specs.declared.heard.Wish.TheVariants.{Nothing, Propose, Activate}
use Rattle.hk_keeper.specs.Heard.{is_up, majority_up, has_to_go, one_ready, another_ready, next_may_join, is_behind, all_level}

-- ---- asks

abbrev pub epoch_of : Option Ask → Option ℕ
epoch_of None = None
epoch_of (Some ask) = ask.epoch

abbrev pub is_above : Option ℕ → ℕ → Bool
is_above None epoch = false
is_above (Some asked) epoch = nat_lt epoch asked

abbrev pub is_below : Option ℕ → ℕ → Bool
is_below None epoch = false
is_below (Some asked) epoch = nat_lt asked epoch

-- a node asked of a later view than the one that is held
abbrev pub is_overtaken : Heard → ℕ → ShardHeard → Bool
is_overtaken h shard s = list_any (λ n. is_above (epoch_of (slice_get n.asks shard)) s.held.epoch) h.nodes

-- a member asks of an earlier one
abbrev pub is_awaited : Heard → ℕ → ShardHeard → Bool
is_awaited h shard s = list_any (λ n. is_member n.node s.held.members && is_below (epoch_of (slice_get n.asks shard)) s.held.epoch) h.nodes

-- ---- how often

-- How long a manager waits behind its last proposal upon a view: a quarter of a lease, doubled with each one upon it, to four leases.
abbrev pub pause : ℕ → ℕ → ℕ
pause lease proposals =
    lease / 4 * (if proposals == 0 then 0 else (if proposals == 1 then 1 else (if proposals == 2 then 2 else (if proposals == 3 then 4 else (if proposals == 4 then 8 else 16)))))

abbrev pub may_propose : Heard → ShardHeard → Bool
may_propose h s = nat_le (pause h.lease s.proposals) s.proposed

-- For how long a change is wished before it is proposed: a quarter of a lease for each manager before this one that is up, so that mostly one proposes.
abbrev pub patience : Heard → ℕ
patience h = count_by (λ m. nat_lt m.place h.place && is_up h m) h.managers * (h.lease / 4)

-- ---- rows 2 to 4

-- Row 2. A majority accepted the next view without this manager. Whatever it proposes, Paxos gives that one: it names the last member, or an add where
-- there is but one.
abbrev pub any_change : Option NodeId → ℕ → Change
any_change None members = Add
any_change (Some greatest) members = if nat_lt 1 members then Drop greatest else Add

abbrev pub catching_up : ShardHeard → Change
catching_up s = any_change (slice_get s.held.members (length s.held.members - 1)) (length s.held.members)

-- Row 3. The least member that has to go, where another one is ready.
abbrev pub can_go : Heard → ShardHeard → NodeId → Bool
can_go h s member = has_to_go h member && another_ready h s member

abbrev pub dropped : Heard → ShardHeard → Option NodeId
dropped h s = find (can_go h s) s.held.members

-- Row 4. There is room, and a member is ready from which to copy. The next number was given in another shard already; or in all shards it is the next one, and
-- its node may join.
abbrev pub is_added : Heard → ShardHeard → Bool
is_added h s = nat_lt (length s.held.members) 16 && (one_ready h s && (is_behind h s || (all_level h s && next_may_join h s)))

abbrev pub proposal : ℕ → Change → Option Proposal
proposal patience change = Some (record { change = change; patience = patience })

abbrev pub dropped_or : Heard → ShardHeard → Option NodeId → Option Proposal
dropped_or h s (Some member) = proposal (patience h) (Drop member)
dropped_or h s None = if is_added h s then proposal (patience h) Add else None

abbrev pub proposed : Heard → ℕ → ShardHeard → Option Proposal
proposed h shard s =
    if not (may_propose h s) then None else (if is_overtaken h shard s then proposal 0 (catching_up s) else dropped_or h s (dropped h s))

-- ---- the table

-- Row 5. A member waits for the view that is held, and what may have been granted before this manager's start has ended.
abbrev pub is_begun : Heard → ℕ → ShardHeard → Bool
is_begun h shard s = is_awaited h shard s && nat_lt (1 + wait h.lease) h.clock

abbrev pub wished : Option Proposal → Bool → Wish
wished (Some p) begins = Propose p
wished None true = Activate
wished None false = Nothing

-- Row 1: nothing, where no majority is up.
abbrev pub wish_at : Heard → ℕ → ShardHeard → Wish
wish_at h shard s = if majority_up h then wished (proposed h shard s) (is_begun h shard s) else Nothing

abbrev pub wish_in : Heard → ℕ → Option ShardHeard → Wish
wish_in h shard None = Nothing
wish_in h shard (Some s) = wish_at h shard s

abbrev pub wish_of : Heard → ℕ → Wish
wish_of h shard = wish_in h shard (slice_get h.shards shard)

-- in all eight shards
abbrev pub wishes : Heard → List Wish
wishes h = wish_of h 0 ∷ wish_of h 1 ∷ wish_of h 2 ∷ wish_of h 3 ∷ wish_of h 4 ∷ wish_of h 5 ∷ wish_of h 6 ∷ wish_of h 7 ∷ []
