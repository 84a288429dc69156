-- What may be printed.
use Rattle.std.specs.Prelude.{ℕ, ◌<◌, ◌≤◌, ⊤, List, length, Option}
use Rattle.std.specs.List.{AllByRecursion}
use Rattle.hk_base.specs.declared.view.View.{View}
use Rattle.hk_fields.specs.declared.tickets.Ticket.{Ticket}
use Rattle.hk_inside.specs.declared.inquiry.Inquiry.{Inquiry}
use Rattle.hk_inside.specs.declared.inquiry.Inquiry.TheVariants as asks
use Rattle.hk_inside.specs.Parts.{IsBoardInRange}
use Rattle.hk_log.specs.Entries.{IsEntryInRange}
use Rattle.hk_office.specs.declared.office.Office.{Office}
use Rattle.hk_office.specs.declared.answer.OfficeAnswer.{OfficeAnswer}
use Rattle.hk_office.specs.declared.answer.OfficeAnswer.TheVariants.{Board, Seated, State, Status, Yes, No}
use Rattle.hk_office.specs.Steps.{inquired}

abbrev pub IsAnswerInRange : OfficeAnswer → Type 0
IsAnswerInRange (Board b) = IsBoardInRange b
IsAnswerInRange (Seated node) = ⊤
IsAnswerInRange (State s) = s.place < 9
IsAnswerInRange Status = ⊤
IsAnswerInRange Yes = ⊤
IsAnswerInRange (No refusal) = ⊤

-- The founding that is asked for is not 0, and has 9 hosts at most. Every inquiry in range is such.
abbrev pub HasFoundingInRange : Inquiry → Type 0
HasFoundingInRange (asks.Report report) = ⊤
HasFoundingInRange (asks.Seat ticket) = ⊤
HasFoundingInRange (asks.Claim node ticket) = ⊤
HasFoundingInRange (asks.Look founding) = ⊤
HasFoundingInRange (asks.Found founding hosts) = (1 ≤ founding) × (length hosts ≤ 9)
HasFoundingInRange (asks.Leave leaver) = ⊤
HasFoundingInRange asks.Status = ⊤

-- Of such an inquiry, what is logged may stand in a log, and what is answered in a frame.
pub record StaysInRange : Type 0 where
  pub logged : (o : Office) (now : ℕ) (views : List View) (told : List (Option Ticket)) (inquiry : Inquiry) →
      o.terms.managers ≤ 9 → HasFoundingInRange inquiry → AllByRecursion IsEntryInRange (inquired o now views told inquiry).0.logged
  pub answered : (o : Office) (now : ℕ) (views : List View) (told : List (Option Ticket)) (inquiry : Inquiry) →
      o.terms.place < 9 → IsAnswerInRange (inquired o now views told inquiry).0.answer
