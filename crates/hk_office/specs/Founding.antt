-- How a manager is founded and opens.
use Rattle.std.specs.Prelude.{ℕ, Bool, true, false, ◌&&◌, ◌==◌, if◌then◌else◌, List, [], ◌∷◌, map, length, replicate, slice_get, Option, None, Some}
use Rattle.hk_fields.specs.declared.tickets.Ticket.{Ticket}
use Rattle.hk_fields.specs.declared.hosts.HostTickets.{HostTickets}
use Rattle.hk_office.specs.declared.refusal.OfficeRefusal.{OfficeRefusal}
use Rattle.hk_office.specs.declared.refusal.OfficeRefusal.TheVariants as refusals
use Rattle.hk_inside.specs.declared.response.ManagerState.{ManagerState}
use Rattle.hk_log.specs.declared.entry.Entry.{Entry}
use Rattle.hk_log.specs.declared.entry.Entry.TheVariants.{Founded, Open}
use Rattle.hk_stage.specs.declared.stage.Stage.{Stage}
use Rattle.hk_stage.specs.declared.event.StageAnswer.{StageAnswer}
use Rattle.hk_stage.specs.declared.event.StageAnswer.TheVariants.{State, Yes, No}
use Rattle.hk_stage.specs.declared.event.StageRefusal.{StageRefusal}
use Rattle.hk_stage.specs.declared.event.StageRefusal.TheVariants as stages
use Rattle.hk_stage.specs.declared.opening.OpeningStep.{OpeningStep}
use Rattle.hk_roll.specs.declared.binding.Founder.{Founder}
use Rattle.hk_roll.specs.Rolls.{Entries, replayed, founding}
use Rattle.hk_roll.specs.Boards.{same_ticket}
use Rattle.hk_reports.specs.declared.kept.Came.{Came}
use Rattle.hk_reports.specs.Reports.{ReportsState, at_first}
use Rattle.hk_reports.specs.Hearing.{is_waiting_state}
use Rattle.hk_office.specs.Board.{last_of}
use Rattle.hk_office.specs.declared.office.Office.{Office}
use Rattle.hk_office.specs.declared.answer.OfficeAnswer.{OfficeAnswer}
use Rattle.hk_office.specs.declared.answer.OfficeAnswer.TheVariants as answers
use Rattle.hk_office.specs.Stages.{number_of, stage_told}

-- ---- hosts

-- the ticket of no process
abbrev pub no_ticket : Ticket
no_ticket = record { 0 = replicate 16 0 }

-- a host as a roll is founded with it
abbrev pub founder_of : HostTickets → Founder
founder_of h = record { manager = h.manager; node = if same_ticket h.node no_ticket then None else Some h.node }

-- the roll with which a group is founded on these hosts
abbrev pub roll_of : List HostTickets → Entries
roll_of hosts = replayed [] (founding 0 (map founder_of hosts))

-- they are as many as there are managers, and this process is the manager of its place
abbrev pub fits_at : Option HostTickets → Office → List HostTickets → Bool
fits_at None o hosts = false
fits_at (Some h) o hosts = (length hosts == o.terms.managers) && same_ticket h.manager o.tickets.manager

abbrev pub fits : Office → List HostTickets → Bool
fits o hosts = fits_at (slice_get hosts o.terms.place) o hosts

-- ---- what `init` is answered

abbrev pub refusal_of : StageRefusal → OfficeRefusal
refusal_of (stages.Lives f) = refusals.Lives f
refusal_of stages.Wait = refusals.Wait
refusal_of stages.AnotherInit = refusals.AnotherInit

-- a process that told nothing yet has no number
abbrev pub still_waits : Option Came → Bool
still_waits None = true
still_waits (Some c) = is_waiting_state c.report.state

abbrev pub tickets_shown : Office → HostTickets
tickets_shown o = record { manager = o.tickets.manager; node = if still_waits (last_of o.tickets.node o) then o.tickets.node else no_ticket }

abbrev pub state_of : Office → Stage → ManagerState
state_of o stage = record {
  founding = number_of stage;
  stage = stage_told stage;
  place = o.terms.place;
  tickets = tickets_shown o;
  lease = o.terms.lease;
  skew = o.terms.skew;
}

abbrev pub stage_answer : Office → Option StageAnswer → OfficeAnswer
stage_answer o None = answers.No refusals.Wait
stage_answer o (Some (State stage)) = answers.State (state_of o stage)
stage_answer o (Some Yes) = answers.Yes
stage_answer o (Some (No refusal)) = answers.No (refusal_of refusal)

-- ---- what is logged

abbrev pub founding_logged : Office → ℕ → List HostTickets → Entry
founding_logged o number hosts = Founded (record { number = number; place = o.terms.place; lease = o.terms.lease; skew = o.terms.skew; hosts = hosts })

abbrev pub opening_logged : Bool → List Entry
opening_logged true = Open ∷ []
opening_logged false = []

-- ---- behind a step

abbrev pub reports_behind : Bool → ℕ → ReportsState → ReportsState
reports_behind true now reports = at_first now
reports_behind false now reports = reports

-- It stands as the step has it. Where it opens, what it hears counts from now: nodes ask from now on, and processes report again at each beat.
abbrev pub settled : Office → ℕ → OpeningStep → Office
settled o now step = record o { opening = step.opening; reports = reports_behind step.logged.opened now o.reports }
