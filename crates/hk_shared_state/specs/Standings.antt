-- What a process knows of actors: who is at this process, to whose process an actor belongs, and where it is reached.
use Rattle.std.specs.Prelude.{◌≡◌, ⊤, ℕ, Bool, true, false, not, ◌==◌, if◌then◌else◌, List, [], slice_get, replicate, Option, None, Some, is_some}
use Rattle.std.specs.Option.{option_flatten}
use Rattle.hk_base.specs.declared.letter.Actor.{Actor}
use Rattle.hk_base.specs.declared.letter.Actor.TheVariants.{Node, Manager}
use Rattle.hk_base.specs.declared.stamp.NodeId.{NodeId}
use Rattle.hk_fields.specs.declared.tickets.Ticket.{Ticket}
use Rattle.hk_hello.specs.declared.hello.Hello.{Hello}
use Rattle.hk_hello.specs.declared.hello.Party.{Party}
use Rattle.hk_hello.specs.declared.hello.Party.TheVariants as parties
use Rattle.hk_hello.specs.declared.hello.Purpose.{Purpose}
use Rattle.hk_hello.specs.declared.hello.Purpose.TheVariants.{Letters, Requests}
use Rattle.hk_hello.specs.declared.judging.LookedUp.{LookedUp}
use Rattle.hk_hosts.specs.declared.address.Address.{Address}
use Rattle.hk_hosts.specs.Addresses.{IsTextOf}
use Rattle.hk_inside.specs.declared.report.Counts.{Counts}
use Rattle.hk_inside.specs.declared.report.NodeState.TheVariants.{Waiting}
use Rattle.hk_roll.specs.Boards.{same_ticket}
use Rattle.hk_boards.specs.Holders.{holder, address_of}
use Rattle.hk_shared_state.specs.declared.identity.Identity.{Identity}
use Rattle.hk_shared_state.specs.declared.standing.ShardsSeen.{ShardsSeen}
use Rattle.hk_shared_state.specs.declared.standing.Standing.{Standing}
use Rattle.hk_host_words.specs.declared.words.TheConstants.{INSIDE_PORT}

-- there is no node whose shards could be seen
abbrev pub none_seen : ShardsSeen
none_seen = record { ready = 0; least_epoch = 0; lease_end = 0 }

-- nothing was counted
abbrev pub none_counted : Counts
none_counted = record { keys = 0; bytes = 0; gets = 0; sets = 0; busy = 0; aborted = 0; unknown = 0 }

-- nothing was heard yet, in a group with so many managers
pub record IsNew (managers : ℕ) (s : Standing) : Type 0 where
  pub founding : s.founding ≡ 0
  pub manager : s.manager ≡ None
  pub roll : s.managers ≡ replicate 9 None
  pub founder : s.is_founder ≡ false
  pub records : s.records ≡ 0
  pub whole : s.lost_tail ≡ None
  pub given : s.given ≡ None
  pub refusals : s.refusals ≡ replicate 9 false
  pub node : s.node ≡ None
  pub state : s.state ≡ Waiting
  pub leaving : s.leaving ≡ None
  pub shards : s.shards ≡ none_seen
  pub counts : s.counts ≡ none_counted
  pub asks : s.asks ≡ []
  pub acknowledged : s.unacknowledged ≡ []
  pub boards : s.boards ≡ replicate managers None

-- ---- who is at this process

abbrev pub is_place : ℕ → Option ℕ → Bool
is_place place None = false
is_place place (Some own) = own == place

abbrev pub is_number : NodeId → Option NodeId → Bool
is_number node None = false
is_number node (Some own) = own.0 == node.0

-- The ticket of an actor of this process. Its manager has one once it is open, and its node has that of the process once
-- it has a number. No other actor is here.
abbrev pub own_ticket : Standing → Identity → Actor → Option Ticket
own_ticket s i (Manager place) = if is_place place i.place then s.manager else None
own_ticket s i (Node node) = if is_number node s.node then Some i.ticket else None

-- A manager takes requests at every stage, since by these it is founded and opens. Letters are taken only by who is open.
abbrev pub takes : Standing → Identity → Purpose → Actor → Bool
takes s i Requests (Manager place) = is_place place i.place
takes s i Requests (Node node) = false
takes s i Letters actor = is_some (own_ticket s i actor)

abbrev pub is_here : Standing → Identity → Purpose → Party → Bool
is_here s i purpose (parties.Actor actor) = takes s i purpose actor
is_here s i purpose parties.Neither = false

-- ---- to whose process an actor belongs

-- The ticket to which an actor is bound. A manager is bound by the roll of this process's own manager, which begins as
-- that opens, or, before it is open, by the last boards of a majority of the managers; a node by those boards.
abbrev pub bound : Standing → Actor → Option Ticket
bound s (Manager place) = option_flatten (slice_get s.managers place)
bound s (Node node) = holder s.founding node s.boards

abbrev pub bound_party : Standing → Party → Option Ticket
bound_party s (parties.Actor actor) = bound s actor
bound_party s parties.Neither = None

-- it is bound to another process than that of this ticket
abbrev pub is_another : Ticket → Option Ticket → Bool
is_another ticket None = false
is_another ticket (Some holder) = not (same_ticket holder ticket)

-- what is known of a hello's actors
abbrev pub look_up : Standing → Identity → Hello → LookedUp
look_up s i hello = record {
  founding = s.founding;
  to_is_here = is_here s i hello.purpose hello.to;
  from_is_bound = is_some (bound_party s hello.from);
  is_taken = is_another hello.ticket (bound_party s hello.from);
}

-- What a process may answer, of which another thread may change what it knows: what is known as it stands at some
-- moment of the call.
abbrev pub IsLookedUp : Identity → Hello → LookedUp → Type 0
IsLookedUp i hello looked = (s : Standing) × (looked ≡ look_up s i hello)

abbrev pub IsOwnTicket : Identity → Actor → Option Ticket → Type 0
IsOwnTicket i actor ticket = (s : Standing) × (ticket ≡ own_ticket s i actor)

-- ---- where an actor is reached

-- a node is reached where the managers' boards tell its holder
abbrev pub IsNodeReached : Standing → NodeId → Option Address → Type 0
IsNodeReached s node None = ⊤
IsNodeReached s node (Some a) =
    (text : List ℕ) × (address_of s.founding node s.boards ≡ Some text) × IsTextOf INSIDE_PORT text a

-- and a manager at its host; no address is told where memory was wanting, too
abbrev pub IsReached : Standing → Identity → Actor → Option Address → Type 0
IsReached s i (Manager place) None = ⊤
IsReached s i (Manager place) (Some a) = slice_get i.hosts place ≡ Some a
IsReached s i (Node node) address = IsNodeReached s node address

abbrev pub IsReachedThen : Identity → Actor → Option Address → Type 0
IsReachedThen i actor address = (s : Standing) × IsReached s i actor address
