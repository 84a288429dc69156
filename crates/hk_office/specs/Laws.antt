-- What holds of every step of an office.
use Rattle.std.specs.Prelude.{◌≡◌, ℕ, true, false, ⊤, List, [], ◌∷◌, Option, None, Some}
use Rattle.hk_base.specs.declared.stamp.NodeId.{NodeId}
use Rattle.hk_base.specs.declared.letter.Actor.TheVariants as actors
use Rattle.hk_base.specs.declared.view.View.{View}
use Rattle.hk_fields.specs.declared.tickets.Ticket.{Ticket}
use Rattle.hk_inside.specs.declared.inquiry.Inquiry.{Inquiry}
use Rattle.hk_inside.specs.declared.inquiry.Inquiry.TheVariants as asks
use Rattle.hk_keeper.specs.declared.heard.Wish.TheVariants.{Nothing}
use Rattle.hk_log.specs.declared.entry.Entry.{Entry}
use Rattle.hk_log.specs.declared.entry.Entry.TheVariants.{Founded, Open, Propose, Receive, Bound}
use Rattle.hk_inside.specs.declared.board.Board.{Board}
use Rattle.hk_stage.specs.declared.stage.Stage.{Stage}
use Rattle.hk_stage.specs.declared.stage.Stage.TheVariants as stages
use Rattle.hk_stage.specs.Opening.{takes_letters}
use Rattle.hk_stage.specs.Laws.{opened_by}
use Rattle.hk_roll.specs.Rolls.{Entries, bound, with_bound}
use Rattle.hk_office.specs.declared.office.Office.{Office}
use Rattle.hk_office.specs.declared.answer.OfficeAnswer.TheVariants.{Seated, Yes}
use Rattle.hk_office.specs.Founding.{roll_of}
use Rattle.hk_office.specs.Steps.{inquired, board_heard, ticked}
use Rattle.hk_office.specs.Wishing.{by_shards, intended}

-- ---- the log

-- what a log tells of a manager: its stage and its roll
pub record Logged : Type 0 where
  pub stage : Stage
  pub roll : Entries

-- what one more entry makes of it
abbrev pub with_entry : Logged → Entry → Logged
with_entry l (Founded f) = record { stage = stages.Founded f.number; roll = roll_of f.hosts }
with_entry l Open = record l { stage = opened_by l.stage true }
with_entry l (Propose shard base change) = l
with_entry l (Receive shard letter) = l
with_entry l (Bound actor ticket) = record l { roll = with_bound l.roll (record { actor = actor; ticket = ticket }) }

abbrev pub with_entries : Logged → List Entry → Logged
with_entries l [] = l
with_entries l (e ∷ es) = with_entries (with_entry l e) es

abbrev pub logged_of : Office → Logged
logged_of o = record { stage = o.opening.stage; roll = o.roll }

-- Stage and roll are at each moment what the log tells: behind a step they are those before it with what the step logs. So a process that begins by its log
-- has them again, and whatever was answered by them stands.
abbrev pub LogTellsTheOffice : Type 0
LogTellsTheOffice =
    ((o : Office) (now : ℕ) (views : List View) (told : List (Option Ticket)) (inquiry : Inquiry) →
    with_entries (logged_of o) (inquired o now views told inquiry).0.logged ≡ logged_of (inquired o now views told inquiry).1) ×
    ((o : Office) (now place asked : ℕ) (b : Board) →
    with_entries (logged_of o) (board_heard o now place asked b).0 ≡ logged_of (board_heard o now place asked b).1) ×
    ((o : Office) (now : ℕ) → with_entries (logged_of o) (ticked o now).0 ≡ logged_of (ticked o now).1)

-- ---- who has a number

-- who is answered so has the number in the roll behind the step
abbrev pub HasNumber : Ticket → Option NodeId → Entries → Type 0
HasNumber ticket None roll = ⊤
HasNumber ticket (Some node) roll = bound (actors.Node node) roll ≡ Some ticket

-- Whoever is answered SEATED, and whoever is answered YES to a CLAIM, has the number in the roll behind the step.
pub record AnswersAreBound : Type 0 where
  pub seated : (o : Office) (now : ℕ) (views : List View) (told : List (Option Ticket)) (ticket : Ticket) (node : NodeId) →
      (inquired o now views told (asks.Seat ticket)).0.answer ≡ Seated node →
      bound (actors.Node node) (inquired o now views told (asks.Seat ticket)).1.roll ≡ Some ticket
  pub claimed : (o : Office) (now : ℕ) (views : List View) (told : List (Option Ticket)) (node : NodeId) (ticket : Ticket) →
      (inquired o now views told (asks.Claim node ticket)).0.answer ≡ Yes →
      bound (actors.Node node) (inquired o now views told (asks.Claim node ticket)).1.roll ≡ Some ticket

-- ---- before it is open

abbrev pub IsFound : Inquiry → Type 0
IsFound (asks.Report r) = ⊥
IsFound (asks.Seat ticket) = ⊥
IsFound (asks.Claim node ticket) = ⊥
IsFound (asks.Look founding) = ⊥
IsFound (asks.Found founding hosts) = ⊤
IsFound (asks.Leave leaver) = ⊥
IsFound asks.Status = ⊥

-- Before the group is open a manager binds nothing but by FOUND, and its cores have nothing to do.
pub record NothingBeforeItIsOpen : Type 0 where
  pub binds : (o : Office) (now : ℕ) (views : List View) (told : List (Option Ticket)) (inquiry : Inquiry) → takes_letters o.opening ≡ false →
      (IsFound inquiry → ⊥) → (inquired o now views told inquiry).1.roll ≡ o.roll
  pub wishes : (o : Office) (now : ℕ) (views : List View) → takes_letters o.opening ≡ false → intended o now views ≡ (by_shards (λ shard. Nothing), o)
