-- What holds of every step of a manager, and of every run of a group.
use Rattle.std.specs.Prelude.{◌≡◌, ◌<◌, ◌/◌, ◌⊎◌, ◌↔◌, ℕ, true, List, [], length, slice_get, Option, None, Some}
use Rattle.std.specs.List.{count_by}
use Rattle.hk_base.specs.declared.stamp.NodeId.{NodeId}
use Rattle.hk_base.specs.declared.letter.Actor.TheVariants.{Node, Manager}
use Rattle.hk_base.specs.declared.view.View.{View}
use Rattle.hk_fields.specs.declared.tickets.Ticket.{Ticket}
use Rattle.hk_roll.specs.declared.binding.Binding.{Binding}
use Rattle.hk_roll.specs.declared.binding.Founder.{Founder}
use Rattle.hk_roll.specs.declared.answer.RollAnswer.TheVariants.{Seated, Yes}
use Rattle.hk_roll.specs.declared.steps.Seating.{Seating}
use Rattle.hk_roll.specs.Rolls.{Entries, bound, with_bound, replayed, founding}
use Rattle.hk_roll.specs.Boards.{names, named}
use Rattle.hk_roll.specs.Numbers.{may_bind, next_number}
use Rattle.hk_roll.specs.Steps.{claimed, seated}
use Rattle.hk_roll.specs.Group.{Event, last, start, IsRun, Most, Binds, HasTold}

-- ---- boards

-- A ticket is named exactly where more than half of the managers told it.
abbrev pub NamesWhomMostTell : Type 0
NamesWhomMostTell = (told : List (Option Ticket)) (ticket : Ticket) → (named told ≡ Some ticket) ↔ (length told / 2 < count_by (names ticket) told)

-- ---- one step

-- The number is bound to the asker; it may be bound; and it was unbound, or a majority's boards name the asker's ticket.
pub record IsAllowed (roll : Entries) (views : List View) (boards : List (Option Ticket)) (node : NodeId) (ticket : Ticket) (b : Binding) : Type 0 where
  pub is : b ≡ record { actor = Node node; ticket = ticket }
  pub may : may_bind views node ≡ true
  pub changes : (bound (Node node) roll ≡ None) ⊎ (named boards ≡ Some ticket)

-- A manager binds just the number that is claimed, or just the next one to who has none; no manager's number, and nothing where that is not allowed.
abbrev pub BindsByTheRule : Type 0
BindsByTheRule =
    ((roll : Entries) (views : List View) (boards : List (Option Ticket)) (node : NodeId) (ticket : Ticket) (b : Binding) →
    (claimed roll views boards node ticket).logged ≡ Some b → IsAllowed roll views boards node ticket b) ×
    ((roll : Entries) (views : List View) (seating : Seating) (ticket : Ticket) (b : Binding) →
    (seated roll views seating ticket).logged ≡ Some b → (node : NodeId) × (next_number views ≡ Some node) × IsAllowed roll views [] node ticket b)

-- the roll behind a step
abbrev pub behind : Entries → Option Binding → Entries
behind roll None = roll
behind roll (Some b) = with_bound roll b

-- Who is answered YES, or SEATED with a number, has the number in the roll behind the step.
abbrev pub AnswersTellTheRoll : Type 0
AnswersTellTheRoll =
    ((roll : Entries) (views : List View) (boards : List (Option Ticket)) (node : NodeId) (ticket : Ticket) →
    (claimed roll views boards node ticket).answer ≡ Yes → bound (Node node) (behind roll (claimed roll views boards node ticket).logged) ≡ Some ticket) ×
    ((roll : Entries) (views : List View) (seating : Seating) (node : NodeId) (ticket : Ticket) →
    (seated roll views seating ticket).answer ≡ Seated node → bound (Node node) (behind roll (seated roll views seating ticket).logged) ≡ Some ticket)

-- ---- a founding

abbrev pub manager_of : Option Founder → Option Ticket
manager_of None = None
manager_of (Some host) = Some host.manager

abbrev pub node_of : Option Founder → Option Ticket
node_of None = None
node_of (Some host) = host.node

-- A founding binds the place of each host to its manager, and to its node, if one waited; and no other number.
abbrev pub FoundingBindsPlaces : Type 0
FoundingBindsPlaces = (hosts : List Founder) (place : ℕ) →
    (bound (Manager place) (replayed [] (founding 0 hosts)) ≡ manager_of (slice_get hosts place)) ×
    (bound (Node (record { 0 = place })) (replayed [] (founding 0 hosts)) ≡ node_of (slice_get hosts place))

-- ---- runs of a group that was founded on some hosts, each with a manager

-- The numbers of managers are those of the founding, at each moment.
abbrev pub ManagersStay : Type 0
ManagersStay = (hosts : List Founder) (events : List Event) → IsRun (length hosts) (start hosts) events →
    (m place : ℕ) → m < length hosts → bound (Manager place) ((last (start hosts) events).roll m) ≡ manager_of (slice_get hosts place)

-- A restart changes nothing: the roll is at each moment what its log makes.
abbrev pub LogTellsTheRoll : Type 0
LogTellsTheRoll = (hosts : List Founder) (events : List Event) → IsRun (length hosts) (start hosts) events →
    (m : ℕ) → m < length hosts → (last (start hosts) events).roll m ≡ replayed [] ((last (start hosts) events).log m)

-- A number has one holder: where a majority binds it to a ticket at some moment, and a majority does so at that moment or a later one, it is the same ticket.
abbrev pub OneHolder : Type 0
OneHolder = (hosts : List Founder) (events later : List Event) → IsRun (length hosts) (start hosts) events → IsRun (length hosts) (last (start hosts) events) later →
    (node : NodeId) (t u : Ticket) → Most (length hosts) (Binds (last (start hosts) events) node t) → Most (length hosts) (Binds (last (last (start hosts) events) later) node u) → t ≡ u

-- What a majority binds stays: each manager that binds the number so then does so at each later moment.
abbrev pub HoldersStay : Type 0
HoldersStay = (hosts : List Founder) (events later : List Event) → IsRun (length hosts) (start hosts) events → IsRun (length hosts) (last (start hosts) events) later →
    (node : NodeId) (t : Ticket) → Most (length hosts) (Binds (last (start hosts) events) node t) → (m : ℕ) → m < length hosts →
    Binds (last (start hosts) events) node t m → Binds (last (last (start hosts) events) later) node t m

-- What majorities told is one ticket too, though each manager told it at another moment: a process to which a majority answered that a number is its own is the
-- only one to which any majority does, and boards of a majority name no other one, however late they come.
abbrev pub OneHolderIsTold : Type 0
OneHolderIsTold = (hosts : List Founder) (events : List Event) → IsRun (length hosts) (start hosts) events →
    (node : NodeId) (t u : Ticket) → Most (length hosts) (HasTold (last (start hosts) events) node t) → Most (length hosts) (HasTold (last (start hosts) events) node u) → t ≡ u
