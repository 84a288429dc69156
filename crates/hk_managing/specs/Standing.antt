-- What others of a process learn of its manager.
use Rattle.std.specs.Prelude.{ℕ, Bool, false, if◌then◌else◌, Option, None, Some}
use Rattle.hk_base.specs.declared.stamp.NodeId.{NodeId}
use Rattle.hk_base.specs.declared.letter.Actor.TheVariants as actors
use Rattle.hk_fields.specs.declared.tickets.Ticket.{Ticket}
use Rattle.hk_stage.specs.Opening.{takes_letters}
use Rattle.hk_roll.specs.Boards.{names}
use Rattle.hk_roll.specs.Rolls.{Entries, bound}
use Rattle.hk_shared_state.specs.declared.standing.Standing.{Standing}
use Rattle.hk_shared_state.specs.Seeking.{by_places}
use Rattle.hk_office.specs.declared.office.Office.{Office}
use Rattle.hk_office.specs.Stages.{number_of}

-- the ticket of the manager of a place, where the process has one
abbrev pub manager_of : Entries → Option ℕ → Option Ticket
manager_of roll None = None
manager_of roll (Some place) = bound (actors.Manager place) roll

abbrev pub node_at : ℕ → NodeId
node_at place = record { 0 = place }

-- the number of the place is bound to the process of this ticket: it is a founder
abbrev pub is_founder : Entries → Option ℕ → Ticket → Bool
is_founder roll None ticket = false
is_founder roll (Some place) ticket = names ticket (bound (actors.Node (node_at place)) roll)

-- how its manager stands that is open
abbrev pub stands_open : Office → Option ℕ → Ticket → Standing → Standing
stands_open o place ticket s = record s {
  founding = number_of o.opening.stage;
  managers = by_places (λ at. bound (actors.Manager at) o.roll);
  manager = manager_of o.roll place;
  is_founder = is_founder o.roll place ticket;
}

-- Before its group is open nothing is told of that.
abbrev pub stands : Office → Option ℕ → Ticket → ℕ → Standing → Standing
stands o place ticket records s =
    if takes_letters o.opening then stands_open o place ticket (record s { records = records }) else record s { records = records }
