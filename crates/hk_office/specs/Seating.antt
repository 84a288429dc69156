-- Who gets which number.
use Rattle.std.specs.Prelude.{ℕ, Bool, true, List, [], ◌∷◌, Option, None, Some, is_some}
use Rattle.std.specs.List.{filter, list_all}
use Rattle.hk_base.specs.declared.stamp.NodeId.{NodeId}
use Rattle.hk_base.specs.declared.letter.Actor.{Actor}
use Rattle.hk_base.specs.declared.letter.Actor.TheVariants as actors
use Rattle.hk_base.specs.declared.view.View.{View}
use Rattle.hk_fields.specs.declared.tickets.Ticket.{Ticket}
use Rattle.hk_office.specs.declared.refusal.OfficeRefusal.TheVariants as refusals
use Rattle.hk_keeper.specs.declared.heard.Heard.{Heard}
use Rattle.hk_keeper.specs.Heard.{majority_up, one_ready}
use Rattle.hk_log.specs.declared.entry.Entry.{Entry}
use Rattle.hk_log.specs.declared.entry.Entry.TheVariants.{Bound}
use Rattle.hk_roll.specs.declared.answer.RollAnswer.{RollAnswer}
use Rattle.hk_roll.specs.declared.answer.RollAnswer.TheVariants.{Seated, Yes, No}
use Rattle.hk_roll.specs.declared.answer.RollRefusal.TheVariants.{Taken, Wait}
use Rattle.hk_roll.specs.declared.answer.RollStep.{RollStep}
use Rattle.hk_roll.specs.declared.binding.Binding.{Binding}
use Rattle.hk_roll.specs.declared.steps.Seating.{Seating}
use Rattle.hk_roll.specs.Rolls.{bound, with_bound}
use Rattle.hk_roll.specs.Steps.{claimed, seated}
use Rattle.hk_reports.specs.declared.kept.Came.{Came}
use Rattle.hk_reports.specs.Reports.{ReportsState, bound_at, seated as seat_kept, was_in_vain}
use Rattle.hk_reports.specs.Hearing.{heard_by}
use Rattle.hk_office.specs.declared.office.Office.{Office}
use Rattle.hk_office.specs.declared.answer.OfficeAnswer.{OfficeAnswer}
use Rattle.hk_office.specs.declared.answer.OfficeAnswer.TheVariants as answers
use Rattle.hk_office.specs.declared.answer.OfficeStep.{OfficeStep}
use Rattle.hk_office.specs.Numbers.{numbers}
use Rattle.hk_office.specs.Board.{last_of}

abbrev pub is_bound : Office → NodeId → Bool
is_bound o node = is_some (bound (actors.Node node) o.roll)

-- What a keeper makes its wishes of. Of nodes those are known that are members, and those that may join next and are bound.
unfoldable pub heard_of : Office → ℕ → List View → Heard
heard_of o now views = heard_by o.reports now o.terms.place o.terms.managers o.terms.lease views (filter (is_bound o) (numbers views))

-- ---- SEAT

abbrev pub in_vain_at : Option Came → ℕ → Ticket → ReportsState → Bool
in_vain_at None now ticket reports = true
in_vain_at (Some c) now ticket reports = was_in_vain now c.report.inside ticket reports

-- A number was given in vain to who was reached before where the process is. A process that told nothing yet has to report first.
abbrev pub in_vain : Office → ℕ → Ticket → Bool
in_vain o now ticket = in_vain_at (last_of ticket o) now ticket o.reports

abbrev pub seating_of : Office → ℕ → List View → Ticket → Seating
seating_of o now views ticket = record {
  majority_up = majority_up (heard_of o now views);
  member_ready = list_all (one_ready (heard_of o now views)) (heard_of o now views).shards;
  lately_in_vain = in_vain o now ticket;
}

-- ---- what a step of the roll comes to

abbrev pub roll_answer : RollAnswer → OfficeAnswer
roll_answer (Seated node) = answers.Seated node
roll_answer Yes = answers.Yes
roll_answer (No (Taken number)) = answers.No (refusals.Taken number)
roll_answer (No Wait) = answers.No refusals.Wait

abbrev pub binding_logged : Binding → List Entry
binding_logged b = Bound b.actor b.ticket ∷ []

-- A node's age counts from when its number was bound; and to any other process that number was not given in vain.
abbrev pub bound_noted : ℕ → Actor → Ticket → ReportsState → ReportsState
bound_noted now (actors.Node n) ticket reports = bound_at now n ticket reports
bound_noted now (actors.Manager p) ticket reports = reports

abbrev pub binding_taken_by : Option Binding → Office → ℕ → RollAnswer → OfficeStep × Office
binding_taken_by None o now answer = (record { answer = roll_answer answer; logged = [] }, o)
binding_taken_by (Some b) o now answer = (
  record { answer = roll_answer answer; logged = binding_logged b },
  record o { roll = with_bound o.roll b; reports = bound_noted now b.actor b.ticket o.reports },
)

-- what a step binds is logged, and in the roll
abbrev pub binding_taken : Office → ℕ → RollStep → OfficeStep × Office
binding_taken o now step = binding_taken_by step.logged o now step.answer

abbrev pub seat_noted_at : Option Came → Office → ℕ → NodeId → Ticket → Office
seat_noted_at None o now node ticket = o
seat_noted_at (Some c) o now node ticket = record o { reports = seat_kept now node ticket c.report.inside o.reports }

-- the process was given this number, at its address
abbrev pub seat_noted : Office → ℕ → NodeId → Ticket → Office
seat_noted o now node ticket = seat_noted_at (last_of ticket o) o now node ticket

abbrev pub binding_noted : Office → ℕ → Actor → Ticket → Office
binding_noted o now (actors.Node node) ticket = seat_noted o now node ticket
binding_noted o now (actors.Manager place) ticket = o

-- to whom the number is given that a step binds
abbrev pub given_noted : Option Binding → Office → ℕ → Office
given_noted None o now = o
given_noted (Some b) o now = binding_noted o now b.actor b.ticket

abbrev pub seat_given_by : Office → ℕ → RollStep → OfficeStep × Office
seat_given_by o now step = binding_taken (given_noted step.logged o now) now step

abbrev pub seat_given : Office → ℕ → List View → Ticket → OfficeStep × Office
seat_given o now views ticket = seat_given_by o now (seated o.roll views (seating_of o now views ticket) ticket)

-- ---- CLAIM

abbrev pub number_claimed : Office → ℕ → List View → List (Option Ticket) → NodeId → Ticket → OfficeStep × Office
number_claimed o now views told node ticket = binding_taken o now (claimed o.roll views told node ticket)
