-- What a manager answers to a process that wants a number, and what it binds.
use Rattle.std.specs.Prelude.{ℕ, Bool, not, ◌&&◌, if◌then◌else◌, List, Option, None, Some, is_some}
use Rattle.hk_base.specs.declared.stamp.NodeId.{NodeId}
use Rattle.hk_base.specs.declared.letter.Actor.TheVariants.{Node}
use Rattle.hk_base.specs.declared.view.View.{View}
use Rattle.hk_fields.specs.declared.tickets.Ticket.{Ticket}
use Rattle.hk_roll.specs.declared.answer.RollRefusal.{RollRefusal}
use Rattle.hk_roll.specs.declared.answer.RollRefusal.TheVariants.{Taken, Wait}
use Rattle.hk_roll.specs.declared.answer.RollAnswer.{RollAnswer}
use Rattle.hk_roll.specs.declared.answer.RollAnswer.TheVariants.{Seated, Yes, No}
use Rattle.hk_roll.specs.declared.answer.RollStep.{RollStep}
use Rattle.hk_roll.specs.declared.steps.Seating.{Seating}
use Rattle.hk_roll.specs.Rolls.{Entries, bound}
use Rattle.hk_roll.specs.Boards.{names, named}
use Rattle.hk_roll.specs.Numbers.{may_bind, is_past, is_over, have_room, next_number}

abbrev pub refusal_code : RollRefusal → ℕ
refusal_code (Taken number) = 7
refusal_code Wait = 8

-- ---- what a step is

-- nothing but an answer
abbrev pub answered : RollAnswer → RollStep
answered answer = record { answer = answer; logged = None }

abbrev pub refused : RollRefusal → RollStep
refused refusal = answered (No refusal)

-- the number is bound to the asker, and that is logged
abbrev pub binds : RollAnswer → NodeId → Ticket → RollStep
binds answer node ticket = record { answer = answer; logged = Some (record { actor = Node node; ticket = ticket }) }

-- ---- CLAIM

-- who holds a number, as a manager knows it: the one that a majority's boards name, else the one of its own roll
abbrev pub holder : Option Ticket → Option Ticket → Option Ticket
holder own None = own
holder own (Some ticket) = Some ticket

abbrev pub names_another : Ticket → Option Ticket → Bool
names_another ticket told = is_some told && not (names ticket told)

-- A number that was given and whose node is out is never given again. One that some shards have given and others not is given there soon.
abbrev pub unbindable : List View → NodeId → RollRefusal
unbindable views node = if is_past views node then Taken node.0 else Wait

-- Taken where no shard has or will have the number, whoever asks; yes where it is bound to the asker; taken where another holds it; else it is bound to the
-- asker, where it may be bound.
abbrev pub claimed : Entries → List View → List (Option Ticket) → NodeId → Ticket → RollStep
claimed roll views told node ticket =
    if is_over views node then refused (Taken node.0) else (
    if names ticket (bound (Node node) roll) then answered Yes else (
    if names_another ticket (holder (bound (Node node) roll) (named told)) then refused (Taken node.0) else (
    if may_bind views node then binds Yes node ticket else refused (unbindable views node))))

-- ---- SEAT

-- a majority is up, a member is ready, and there is room for one more
abbrev pub may_seat : Seating → List View → Bool
may_seat seating views = seating.majority_up && seating.member_ready && have_room views

abbrev pub seat_by : Option Ticket → NodeId → Seating → Ticket → RollStep
seat_by (Some other) node seating ticket = if names ticket (Some other) then answered (Seated node) else refused Wait
seat_by None node seating ticket = if seating.lately_in_vain then refused Wait else binds (Seated node) node ticket

-- The number is the asker's where it is bound to it, and where it is unbound; but not, for ten minutes, at an address where the last one did not become ready.
abbrev pub seat_at : Entries → NodeId → Seating → Ticket → RollStep
seat_at roll node seating ticket = seat_by (bound (Node node) roll) node seating ticket

abbrev pub seat_next : Option NodeId → Entries → Seating → Ticket → RollStep
seat_next None roll seating ticket = refused Wait
seat_next (Some node) roll seating ticket = seat_at roll node seating ticket

abbrev pub seated : Entries → List View → Seating → Ticket → RollStep
seated roll views seating ticket = if may_seat seating views then seat_next (next_number views) roll seating ticket else refused Wait
