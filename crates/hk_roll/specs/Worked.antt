-- Runs of three managers, worked out.
use Rattle.std.specs.Prelude.{◌≡◌, ℕ, ◌+◌, true, false, List, [], ◌∷◌, replicate, Option, None, Some}
use Rattle.hk_base.specs.declared.stamp.NodeId.{NodeId}
use Rattle.hk_base.specs.declared.letter.Actor.TheVariants.{Node}
use Rattle.hk_base.specs.declared.view.View.{View}
use Rattle.hk_fields.specs.declared.tickets.Ticket.{Ticket}
use Rattle.hk_roll.specs.declared.binding.Founder.{Founder}
use Rattle.hk_roll.specs.declared.answer.RollRefusal.TheVariants.{Taken, Wait}
use Rattle.hk_roll.specs.declared.answer.RollAnswer.TheVariants.{Seated, Yes, No}
use Rattle.hk_roll.specs.declared.steps.Seating.{Seating}
use Rattle.hk_roll.specs.Rolls.{bound}
use Rattle.hk_roll.specs.Steps.{claimed, seated}
use Rattle.hk_roll.specs.Group.{Group, Event, next, last, start, IsRun}
use Rattle.hk_roll.specs.Group.Event.{Seat, Claim, Tell, Restart}

abbrev pub ticket : ℕ → Ticket
ticket n = record { 0 = replicate 16 n }

abbrev pub node : ℕ → NodeId
node n = record { 0 = n }

abbrev pub host : ℕ → Founder
host n = record { manager = ticket (100 + n); node = Some (ticket (200 + n)) }

-- a group that was founded on three hosts
abbrev pub founded : Group
founded = start (host 0 ∷ host 1 ∷ host 2 ∷ [])

abbrev pub in_all : List NodeId → ℕ → List View
in_all members next = replicate 8 (record { epoch = 1; members = members; next = next })

-- the views of the founding, and those in which node 3 is a member
abbrev pub views : List View
views = in_all (node 0 ∷ node 1 ∷ node 2 ∷ []) 3

abbrev pub with_3 : List View
with_3 = in_all (node 0 ∷ node 1 ∷ node 2 ∷ node 3 ∷ []) 4

abbrev pub seating : Seating
seating = record { majority_up = true; member_ready = true; lately_in_vain = false }

abbrev pub no_boards : List (Option Ticket)
no_boards = None ∷ None ∷ None ∷ []

-- two newcomers
abbrev pub a : Ticket
a = ticket 10

abbrev pub b : Ticket
b = ticket 11

-- ---- Manager 0 gives number 3 to one newcomer, manager 1 says yes to it, and the other one waits until number 3 is a member's; then it gets number 4.
abbrev pub given : Group
given = last founded (Seat 0 views seating a ∷ Claim 1 views no_boards (node 3) a ∷ [])

pub record NewcomersGetTheirOwn : Type 0 where
  pub first : (seated (founded.roll 0) views seating a).answer ≡ Seated (node 3)
  pub claims : (claimed (founded.roll 1) views no_boards (node 3) a).answer ≡ Yes
  pub again : (seated (given.roll 0) views seating a).answer ≡ Seated (node 3)
  pub waits : (seated (given.roll 0) views seating b).answer ≡ No Wait
  pub second : (seated (given.roll 0) with_3 seating b).answer ≡ Seated (node 4)

-- ---- Then another's claim of number 3 is refused: by those that bound it, and by the third one, once boards of these two came.
pub record AnothersClaimIsRefused : Type 0 where
  pub bound_here : (claimed (given.roll 0) views no_boards (node 3) b).answer ≡ No (Taken 3)
  pub told : (claimed (given.roll 2) views (Some a ∷ Some a ∷ None ∷ []) (node 3) b).answer ≡ No (Taken 3)

-- ---- Two managers give number 3 at once. The third one says yes to the first, and by its board and manager 0's manager 1 changes what it had bound; the second
-- newcomer is refused by the two others. Manager 1 begins again, and has the same.
abbrev pub at_once : List Event
at_once = Seat 1 views seating b ∷ Seat 0 views seating a ∷ Claim 2 views no_boards (node 3) a ∷ Tell 0 (node 3) ∷ Tell 2 (node 3) ∷ []

abbrev pub changing : List Event
changing = Claim 1 views (Some a ∷ None ∷ Some a ∷ []) (node 3) a ∷ Restart 1 ∷ []

pub record MinorityChanges : Type 0 where
  pub run : IsRun 3 founded at_once
  pub more : IsRun 3 (last founded at_once) changing
  pub before : bound (Node (node 3)) ((last founded at_once).roll 1) ≡ Some b
  pub other : (claimed ((last founded at_once).roll 2) views no_boards (node 3) b).answer ≡ No (Taken 3)
  pub behind : bound (Node (node 3)) ((last (last founded at_once) changing).roll 1) ≡ Some a

-- ---- A number that a shard gave before, and whose node is out, is never bound again; one that is given in some shards alone is waited for. Who had a number that
-- all shards have passed over has it no more, though it stays bound to it.
pub record OldNumbersStayUnbound : Type 0 where
  pub past : (claimed (given.roll 2) (in_all (node 0 ∷ node 1 ∷ node 2 ∷ []) 4) no_boards (node 3) a).answer ≡ No (Taken 3)
  pub member : (claimed (given.roll 2) with_3 no_boards (node 3) a).answer ≡ Yes
  pub midway : (claimed (given.roll 2) (record { epoch = 2; members = node 0 ∷ node 3 ∷ []; next = 4 } ∷ views) no_boards (node 3) a).answer ≡ No Wait
  pub passed_over : (claimed (given.roll 0) (in_all (node 0 ∷ node 1 ∷ node 2 ∷ []) 4) no_boards (node 3) a).answer ≡ No (Taken 3)
  pub half_over : (claimed (given.roll 0) (record { epoch = 2; members = node 0 ∷ node 1 ∷ []; next = 4 } ∷ views) no_boards (node 3) a).answer ≡ Yes
