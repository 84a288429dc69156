-- What each inquiry comes to.
use Rattle.std.specs.Prelude.{ℕ, if◌then◌else◌, List, ◌∷◌, Option, None, Some}
use Rattle.hk_base.specs.declared.view.View.{View}
use Rattle.hk_fields.specs.declared.tickets.Ticket.{Ticket}
use Rattle.hk_fields.specs.declared.hosts.HostTickets.{HostTickets}
use Rattle.hk_inside.specs.declared.inquiry.Inquiry.{Inquiry}
use Rattle.hk_inside.specs.declared.inquiry.Inquiry.TheVariants as asks
use Rattle.hk_inside.specs.declared.report.Report.{Report}
use Rattle.hk_office.specs.declared.refusal.OfficeRefusal.TheVariants.{Wait}
use Rattle.hk_inside.specs.declared.board.Board.{Board as BoardTold}
use Rattle.hk_log.specs.declared.entry.Entry.{Entry}
use Rattle.hk_stage.specs.declared.event.Board.{Board as StageBoard}
use Rattle.hk_stage.specs.declared.event.StageEvent.{StageEvent}
use Rattle.hk_stage.specs.declared.event.StageEvent.TheVariants as event
use Rattle.hk_stage.specs.declared.opening.OpeningStep.{OpeningStep}
use Rattle.hk_stage.specs.Opening.{stepped, takes_letters}
use Rattle.hk_reports.specs.Reports.{reported as report_taken}
use Rattle.hk_office.specs.declared.office.Office.{Office}
use Rattle.hk_office.specs.declared.answer.OfficeAnswer.TheVariants as answers
use Rattle.hk_office.specs.declared.answer.OfficeStep.{OfficeStep}
use Rattle.hk_office.specs.Answers.{answered, refused}
use Rattle.hk_office.specs.Leaving.{left}
use Rattle.hk_office.specs.Stages.{stage_heard}
use Rattle.hk_office.specs.Board.{asker_of, board}
use Rattle.hk_office.specs.Seating.{seat_given, number_claimed}
use Rattle.hk_office.specs.Founding.{fits, roll_of, stage_answer, founding_logged, opening_logged, settled}

-- What a step comes to: what is answered and logged, and the office behind it.
abbrev pub Made : Type 0
Made = OfficeStep × Office

abbrev pub stays : Office → OfficeStep → Made
stays o step = (step, o)

-- ---- REPORT

-- the report is the last one of its process
abbrev pub with_report : Office → ℕ → Report → Office
with_report o now report = record o { reports = report_taken now report o.reports }

abbrev pub reported : Office → ℕ → List View → Report → Made
reported o now views report = (answered (answers.Board (board (with_report o now report) now views (asker_of report))), with_report o now report)

-- ---- LOOK, FOUND, boards of others, time

-- a step by which it is not founded
abbrev pub moved : Office → ℕ → OpeningStep → Made
moved o now step = (record { answer = stage_answer o step.answer; logged = opening_logged step.logged.opened }, settled o now step)

-- a step by which it is founded: a new roll begins with the hosts
abbrev pub founded : Office → ℕ → ℕ → List HostTickets → OpeningStep → Made
founded o now number hosts step = (
  record { answer = stage_answer o step.answer; logged = founding_logged o number hosts ∷ opening_logged step.logged.opened },
  record (settled o now step) { roll = roll_of hosts },
)

abbrev pub found_by : Option ℕ → Office → ℕ → List HostTickets → OpeningStep → Made
found_by None o now hosts step = moved o now step
found_by (Some number) o now hosts step = founded o now number hosts step

abbrev pub found_step : Office → ℕ → List HostTickets → OpeningStep → Made
found_step o now hosts step = found_by step.logged.founded o now hosts step

abbrev pub looked : Office → ℕ → ℕ → Made
looked o now f = moved o now (stepped o.opening now (event.Look f))

-- FOUND has to name the hosts of this group, and this process among them.
abbrev pub found : Office → ℕ → ℕ → List HostTickets → Made
found o now f hosts = if fits o hosts then found_step o now hosts (stepped o.opening now (event.Found f)) else stays o (refused Wait)

-- ---- what nobody asks for: what is logged, and the office behind it

abbrev pub passed : Office → ℕ → StageEvent → List Entry × Office
passed o now happens = (opening_logged (stepped o.opening now happens).logged.opened, settled o now (stepped o.opening now happens))

-- the board of the manager of a place, as a founding counts it
abbrev pub board_told : ℕ → ℕ → BoardTold → StageBoard
board_told place asked b = record { from = place; stage = stage_heard b.stage b.founding; asked = asked }

abbrev pub board_heard : Office → ℕ → ℕ → ℕ → BoardTold → List Entry × Office
board_heard o now place asked b = passed o now (event.Told (board_told place asked b))

abbrev pub ticked : Office → ℕ → List Entry × Office
ticked o now = passed o now event.Tick

-- ---- every inquiry

-- Before it is open it seats nobody.
abbrev pub if_open : Office → Made → Made
if_open o made = if takes_letters o.opening then made else stays o (refused Wait)

-- What an inquiry comes to at a reading, by the views that the cores hold, and by what boards told of the number that is claimed.
abbrev pub inquired : Office → ℕ → List View → List (Option Ticket) → Inquiry → Made
inquired o now views told (asks.Report report) = reported o now views report
inquired o now views told (asks.Seat ticket) = if_open o (seat_given o now views ticket)
inquired o now views told (asks.Claim node ticket) = if_open o (number_claimed o now views told node ticket)
inquired o now views told (asks.Look founding) = looked o now founding
inquired o now views told (asks.Found founding hosts) = found o now founding hosts
inquired o now views told (asks.Leave leaver) = if_open o (left o now views leaver)
inquired o now views told asks.Status = stays o (answered answers.Status)
