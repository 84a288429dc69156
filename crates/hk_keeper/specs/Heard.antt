-- What a manager makes of what it heard. Ages and times are in milliseconds.
use Rattle.std.specs.Prelude.{ℕ, ◌*◌, ◌/◌, Bool, true, false, not, ◌&&◌, ◌||◌, ◌==◌, nat_lt, nat_le, if◌then◌else◌, length, Option, None, Some, is_some}
use Rattle.std.specs.List.{list_any, list_all, count_by}
use Rattle.hk_base.specs.declared.stamp.NodeId.{NodeId}
use Rattle.hk_base.specs.View.{is_member}
use Rattle.hk_inside.specs.declared.report.NodeState.{NodeState}
use Rattle.hk_inside.specs.declared.report.NodeState.TheVariants.{Waiting, Seated, Copying, Ready, Leaving}
use Rattle.hk_keeper.specs.declared.heard.StateTold.{StateTold}
use Rattle.hk_keeper.specs.declared.heard.NodeHeard.{NodeHeard}
use Rattle.hk_keeper.specs.declared.heard.ManagerHeard.{ManagerHeard}
use Rattle.hk_keeper.specs.declared.heard.ShardHeard.{ShardHeard}
use Rattle.hk_keeper.specs.declared.heard.Heard.{Heard}

-- ---- managers

abbrev pub is_within : Option ℕ → ℕ → Bool
is_within None time = false
is_within (Some age) time = nat_le age time

-- *up*: this manager itself, and one that reported within half a lease
abbrev pub is_up : Heard → ManagerHeard → Bool
is_up h m = (m.place == h.place) || is_within m.report (h.lease / 2)

abbrev pub majority_up : Heard → Bool
majority_up h = nat_lt (length h.managers / 2) (count_by (is_up h) h.managers)

-- ---- nodes

-- A node's *age* is the time since its last ask, in the shard where that is longest. It is below this one.
abbrev pub is_younger : NodeHeard → ℕ → Bool
is_younger n time = list_all (λ ask. nat_lt ask.age time) n.asks

-- the manager told an age of the node that is below this one
abbrev pub told_younger : ManagerHeard → NodeId → ℕ → Bool
told_younger m node time = list_any (λ told. (told.node.0 == node.0) && nat_lt told.age time) m.ages

-- A manager *hears* a node that told an age below three quarters of a lease; of itself this one knows it.
abbrev pub hears : Heard → NodeHeard → ManagerHeard → Bool
hears h n m = if m.place == h.place then is_younger n (3 * h.lease / 4) else told_younger m n.node (3 * h.lease / 4)

-- It *misses* a node: it is up, and does not hear it. What a manager that is not up hears is not known, so it does not count: where one link between two hosts
-- is cut, a third manager hears the nodes of both.
abbrev pub misses : Heard → NodeHeard → ManagerHeard → Bool
misses h n m = is_up h m && not (hears h n m)

abbrev pub majority_misses : Heard → NodeHeard → Bool
majority_misses h n = nat_lt (length h.managers / 2) (count_by (misses h n) h.managers)

-- *gone*: its age is a lease at least, and a majority misses it
abbrev pub is_gone : Heard → NodeHeard → Bool
is_gone h n = not (is_younger n h.lease) && majority_misses h n

abbrev pub is_ready_state : NodeState → Bool
is_ready_state Waiting = false
is_ready_state Seated = false
is_ready_state Copying = false
is_ready_state Ready = true
is_ready_state Leaving = false

abbrev pub is_leaving_state : NodeState → Bool
is_leaving_state Waiting = false
is_leaving_state Seated = false
is_leaving_state Copying = false
is_leaving_state Ready = false
is_leaving_state Leaving = true

abbrev pub told_ready : Option StateTold → ℕ → Bool
told_ready None time = false
told_ready (Some told) time = is_ready_state told.state && nat_le told.age time

abbrev pub told_leaving : Option StateTold → ℕ → Bool
told_leaving None time = false
told_leaving (Some told) time = is_leaving_state told.state && nat_le told.age time

-- *ready*: it told so within a lease, and its age is below a lease
abbrev pub is_ready : Heard → NodeHeard → Bool
is_ready h n = told_ready n.told h.lease && is_younger n h.lease

-- *leaving*: it told so within a lease
abbrev pub is_leaving : Heard → NodeHeard → Bool
is_leaving h n = told_leaving n.told h.lease

-- ---- members of a shard's view

-- *out* in some shard: it was a member there, and is none any more
abbrev pub is_out : Heard → NodeId → Bool
is_out h member = list_any (λ s. nat_lt member.0 s.held.next && not (is_member member s.held.members)) h.shards

abbrev pub is_lost : Heard → NodeId → Bool
is_lost h member = list_any (λ n. (n.node.0 == member.0) && (is_gone h n || is_leaving h n)) h.nodes

-- a member that is gone, leaving or out in another shard
abbrev pub has_to_go : Heard → NodeId → Bool
has_to_go h member = is_lost h member || is_out h member

abbrev pub one_ready : Heard → ShardHeard → Bool
one_ready h s = list_any (λ n. is_member n.node s.held.members && is_ready h n) h.nodes

abbrev pub another_ready : Heard → ShardHeard → NodeId → Bool
another_ready h s member = list_any (λ n. not (n.node.0 == member.0) && (is_member n.node s.held.members && is_ready h n)) h.nodes

-- ---- the node of the next number

-- it asked in all shards within this time
abbrev pub asks_everywhere : NodeHeard → ℕ → Bool
asks_everywhere n time = list_all (λ ask. is_some ask.epoch && nat_le ask.age time) n.asks

-- it was silent for this time
abbrev pub is_silent : NodeHeard → ℕ → Bool
is_silent n time = list_all (λ ask. nat_le time ask.age) n.asks

-- It may be added: its number is bound, and it asks in all shards; or it is silent while a newcomer waits, who needs a number behind it.
abbrev pub may_join : Heard → NodeHeard → Bool
may_join h n = n.bound && (asks_everywhere n (h.lease / 4) || (is_silent n (2 * h.lease) && h.newcomer))

abbrev pub next_may_join : Heard → ShardHeard → Bool
next_may_join h s = list_any (λ n. (n.node.0 == s.held.next) && may_join h n) h.nodes

-- another shard gave the next number already
abbrev pub is_behind : Heard → ShardHeard → Bool
is_behind h s = list_any (λ t. nat_lt s.held.next t.held.next) h.shards

-- all shards have this next number
abbrev pub all_level : Heard → ShardHeard → Bool
all_level h s = list_all (λ t. t.held.next == s.held.next) h.shards
