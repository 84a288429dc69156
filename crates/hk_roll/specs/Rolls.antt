-- What a manager has bound.
use Rattle.std.specs.Prelude.{ℕ, ◌+◌, List, [], ◌∷◌, ◌++◌, Option, None, Some}
use Rattle.std.specs.declared.cmp.Ordering.{Ordering}
use Rattle.std.specs.declared.cmp.Ordering.TheVariants.{Less, Greater}
use Rattle.std.specs.Ordering.{nat_cmp}
use Rattle.std.specs.BTreeMap.{is_at, insert_entry}
use Rattle.std.specs.Map.{lookup}
use Rattle.hk_base.specs.declared.letter.Actor.{Actor}
use Rattle.hk_base.specs.declared.letter.Actor.TheVariants.{Node, Manager}
use Rattle.hk_fields.specs.declared.tickets.Ticket.{Ticket}
use Rattle.hk_roll.specs.declared.binding.Binding.{Binding}
use Rattle.hk_roll.specs.declared.binding.Founder.{Founder}

-- nodes by their numbers, and then managers
abbrev pub by_actor : Actor → Actor → Ordering
by_actor (Node a) (Node b) = nat_cmp a.0 b.0
by_actor (Node a) (Manager m) = Less
by_actor (Manager m) (Node b) = Greater
by_actor (Manager m) (Manager k) = nat_cmp m k

-- the actors that have a ticket, each with it, in their order
abbrev pub Entries : Type 0
Entries = List (Actor × Ticket)

-- the ticket to which the actor's number is bound
abbrev pub bound : Actor → Entries → Option Ticket
bound actor roll = lookup (is_at (by_actor actor)) roll

-- The number is this ticket's from now on, whosever it was.
abbrev pub with_bound : Entries → Binding → Entries
with_bound roll b = insert_entry by_actor roll b.actor b.ticket

-- one binding after the other
abbrev pub replayed : Entries → List Binding → Entries
replayed roll [] = roll
replayed roll (b ∷ bs) = replayed (with_bound roll b) bs

-- ---- a founding

abbrev pub node_bindings : ℕ → Option Ticket → List Binding
node_bindings place None = []
node_bindings place (Some ticket) = record { actor = Node (record { 0 = place }); ticket = ticket } ∷ []

-- The manager of a host has its place as a number, and so has its node, if one waited.
abbrev pub host_bindings : ℕ → Founder → List Binding
host_bindings place host = record { actor = Manager place; ticket = host.manager } ∷ node_bindings place host.node

-- what a founding of these hosts binds, the first one of which has this place
abbrev pub founding : ℕ → List Founder → List Binding
founding place [] = []
founding place (host ∷ hosts) = host_bindings place host ++ founding (place + 1) hosts
