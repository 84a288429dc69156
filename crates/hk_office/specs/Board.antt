-- The board that a manager shows to who reports.
use Rattle.std.specs.Prelude.{ℕ, Bool, false, ◌&&◌, nat_le, if◌then◌else◌, List, [], ◌∷◌, ◌++◌, take, Option, None, Some}
use Rattle.hk_base.specs.declared.stamp.NodeId.{NodeId}
use Rattle.hk_base.specs.declared.letter.Actor.TheVariants as actors
use Rattle.hk_base.specs.declared.view.View.{View}
use Rattle.hk_base.specs.View.{is_member}
use Rattle.hk_fields.specs.declared.tickets.Ticket.{Ticket}
use Rattle.hk_inside.specs.declared.report.Report.{Report}
use Rattle.hk_inside.specs.declared.board.Board.{Board}
use Rattle.hk_inside.specs.declared.board.BoardLine.{BoardLine}
use Rattle.hk_inside.specs.declared.board.Mark.TheVariants.{Bound}
use Rattle.hk_inside.specs.declared.board.Party.TheVariants.{Node, Manager, Neither}
use Rattle.hk_stage.specs.Opening.{shown}
use Rattle.hk_roll.specs.Rolls.{bound}
use Rattle.hk_roll.specs.Boards.{names}
use Rattle.std.specs.List.{find, flat_map}
use Rattle.hk_reports.specs.declared.kept.Came.{Came}
use Rattle.hk_reports.specs.Reports.{ReportsState, is_of, is_ready_state, age, most_of}
use Rattle.hk_reports.specs.Hearing.{last_of_manager, managers_up}
use Rattle.hk_office.specs.declared.office.Office.{Office}
use Rattle.hk_office.specs.declared.board.Asker.{Asker}
use Rattle.hk_office.specs.Stages.{number_of, stage_told}
use Rattle.hk_office.specs.Numbers.{numbers}
use Rattle.hk_office.specs.Marks.{mark_of, mark_unbound}

-- who sent a report
abbrev pub asker_of : Report → Asker
asker_of r = record { ticket = r.ticket; node = r.node; manager = r.manager }

-- ---- what a last report tells

abbrev pub last_of : Ticket → Office → Option Came
last_of ticket o = find (is_of ticket) o.reports.came

-- the address at which the process is reached, of at most 255 bytes
abbrev pub inside_of : Option Came → List ℕ
inside_of None = []
inside_of (Some c) = take 255 c.report.inside

-- within a lease it told that it is ready
abbrev pub tells_ready : ℕ → ℕ → Option Came → Bool
tells_ready now lease None = false
tells_ready now lease (Some c) = is_ready_state c.report.state && nat_le (age now c.at) lease

-- ---- lines

abbrev pub node_line : Office → ℕ → List View → NodeId → Ticket → BoardLine
node_line o now views node ticket = record {
  party = Node node;
  ticket = ticket;
  mark = mark_of o now views node;
  ready = tells_ready now o.terms.lease (last_of ticket o);
  inside = inside_of (last_of ticket o);
}

abbrev pub manager_line : Office → ℕ → Ticket → BoardLine
manager_line o place ticket = record { party = Manager place; ticket = ticket; mark = Bound; ready = false; inside = inside_of (last_of_manager place o.reports.came) }

-- Of a process that has no number here. It may tell one, which was bound to it elsewhere, and learns here too when that is out.
abbrev pub neither_line : Office → ℕ → Option NodeId → Ticket → BoardLine
neither_line o now node ticket = record {
  party = Neither;
  ticket = ticket;
  mark = mark_unbound o node;
  ready = tells_ready now o.terms.lease (last_of ticket o);
  inside = inside_of (last_of ticket o);
}

abbrev pub bound_line : Office → ℕ → List View → NodeId → Option Ticket → List BoardLine
bound_line o now views node None = []
bound_line o now views node (Some ticket) = node_line o now views node ticket ∷ []

abbrev pub bound_manager : Office → ℕ → Option Ticket → List BoardLine
bound_manager o place None = []
bound_manager o place (Some ticket) = manager_line o place ticket ∷ []

-- the line of a number, if it is bound
unfoldable pub line_at : Office → ℕ → List View → NodeId → List BoardLine
line_at o now views n = bound_line o now views n (bound (actors.Node n) o.roll)

-- the line of a manager, if it is bound
unfoldable pub manager_at : Office → ℕ → List BoardLine
manager_at o p = bound_manager o p (bound (actors.Manager p) o.roll)

-- Who asks has a line, also where its node is no member any more, so that it learns that.
abbrev pub asker_lines_of : Option NodeId → Office → ℕ → List View → List NodeId → Ticket → List BoardLine
asker_lines_of None o now views nodes ticket = neither_line o now None ticket ∷ []
asker_lines_of (Some n) o now views nodes ticket =
    if names ticket (bound (actors.Node n) o.roll) then (if is_member n nodes then [] else line_at o now views n)
    else neither_line o now (Some n) ticket ∷ []

abbrev pub asker_lines : Office → ℕ → List View → List NodeId → Asker → List BoardLine
asker_lines o now views nodes a = asker_lines_of a.node o now views nodes a.ticket

abbrev pub places : List ℕ
places = 0 ∷ 1 ∷ 2 ∷ 3 ∷ 4 ∷ 5 ∷ 6 ∷ 7 ∷ 8 ∷ []

-- Members and who may join next, managers, and who asks.
abbrev pub lines : Office → ℕ → List View → Asker → List BoardLine
lines o now views a = take 255 (flat_map (line_at o now views) (numbers views) ++ flat_map (manager_at o) places ++ asker_lines o now views (numbers views) a)

-- ---- the board

abbrev pub records_told : ReportsState → Option ℕ → ℕ
records_told reports None = 0
records_told reports (Some place) = most_of place reports

abbrev pub board : Office → ℕ → List View → Asker → Board
board o now views a = record {
  founding = number_of (shown o.opening now);
  stage = stage_told (shown o.opening now);
  records = records_told o.reports a.manager;
  managers_up = managers_up now o.terms.place o.terms.lease o.reports;
  lines = lines o now views a;
}
