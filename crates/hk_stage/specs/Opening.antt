-- What each event makes of a manager that is founded and opens.
use Rattle.std.specs.Prelude.{ℕ, ◌+◌, max, Bool, true, false, nat_lt, ◌==◌, ◌&&◌, if◌then◌else◌, List, take, replicate, slice_set, Option, None, Some}
use Rattle.std.specs.List.{list_all}
use Rattle.hk_stage.specs.declared.stage.Stage.{Stage}
use Rattle.hk_stage.specs.declared.stage.Stage.TheVariants.{Empty, Founded, Open}
use Rattle.hk_stage.specs.declared.event.Board.{Board}
use Rattle.hk_stage.specs.declared.event.StageEvent.{StageEvent}
use Rattle.hk_stage.specs.declared.event.StageEvent.TheVariants as event
use Rattle.hk_stage.specs.declared.event.StageRefusal.{StageRefusal}
use Rattle.hk_stage.specs.declared.event.StageRefusal.TheVariants.{Lives, Wait, AnotherInit}
use Rattle.hk_stage.specs.declared.event.StageAnswer.{StageAnswer}
use Rattle.hk_stage.specs.declared.event.StageAnswer.TheVariants.{State, Yes, No}
use Rattle.hk_stage.specs.declared.opening.TheConstants.{RESERVED_FOR}
use Rattle.hk_stage.specs.declared.opening.Opening.{Opening}
use Rattle.hk_stage.specs.declared.opening.OpeningStep.{OpeningStep}
use Rattle.hk_stage.specs.declared.opening.Reservation.{Reservation}
use Rattle.hk_stage.specs.Stages.{is_open}

-- ---- how a manager stands

-- of all managers, this one alone
abbrev pub only_itself : ℕ → List Bool
only_itself place = slice_set (replicate 9 false) place true

-- A process begins: no board counts that was asked for in its first 10 s, in which the process before it may still have been reserved.
abbrev pub begun : (managers place : ℕ) → Stage → ℕ → Opening
begun managers place stage now =
    record { managers = managers; place = place; stage = stage; reservation = None; ready = now + RESERVED_FOR; since = now + RESERVED_FOR; told = only_itself place }

abbrev pub reserved_by : Option Reservation → ℕ → Option ℕ
reserved_by None now = None
reserved_by (Some r) now = if nat_lt now r.end then Some r.founding else None

-- the founding for which it is reserved, if it is
abbrev pub reserved_for : Opening → ℕ → Option ℕ
reserved_for o now = reserved_by o.reservation now

abbrev pub shown_by : Option ℕ → Stage → Stage
shown_by None stage = stage
shown_by (Some f) stage = Empty

-- the stage that its own board tells: 0 while it is reserved
abbrev pub shown : Opening → ℕ → Stage
shown o now = shown_by (reserved_for o now) o.stage

-- before it is open it takes no letter and sends none
abbrev pub takes_letters : Opening → Bool
takes_letters o = is_open o.stage

-- all managers told its founding
abbrev pub opens : Opening → Bool
opens o = list_all (λ told. told) (take o.managers o.told)

-- ---- steps

-- nothing happens, or nothing but an answer
abbrev pub same : Opening → Option StageAnswer → OpeningStep
same o answer = record { opening = o; answer = answer; logged = record { founded = None; opened = false } }

abbrev pub refused : Opening → StageRefusal → OpeningStep
refused o refusal = same o (Some (No refusal))

-- it opens, for good
abbrev pub opened : ℕ → OpeningStep → OpeningStep
opened f step = record step { opening = record step.opening { stage = Open f }; logged = record step.logged { opened = true } }

abbrev pub opened_if_told : ℕ → OpeningStep → OpeningStep
opened_if_told f step = if opens step.opening then opened f step else step

-- reserved for another founding
abbrev pub rival : Option ℕ → ℕ → Option StageRefusal
rival None f = None
rival (Some g) f = if g == f then None else Some AnotherInit

-- what stands against a founding: that the manager is open, or reserved for another one
abbrev pub against : Stage → Option ℕ → ℕ → Option StageRefusal
against (Open g) reserved f = Some (Lives g)
against Empty reserved f = rival reserved f
against (Founded e) reserved f = rival reserved f

-- LOOK f: it is reserved for 10 s, forgets what boards told, and counts none that is asked for before the reservation ends.
abbrev pub reserved : Opening → ℕ → ℕ → Opening
reserved o now f = record o { reservation = Some (record { founding = f; end = now + RESERVED_FOR }); since = now + RESERVED_FOR; told = only_itself o.place }

abbrev pub looked_unless : Option StageRefusal → Opening → ℕ → ℕ → OpeningStep
looked_unless (Some refusal) o now f = refused o refusal
looked_unless None o now f = same (reserved o now f) (Some (State o.stage))

abbrev pub looked : Opening → ℕ → ℕ → OpeningStep
looked o now f = looked_unless (against o.stage (reserved_for o now) f) o now f

-- FOUND f, while it is reserved for f: that ends the reservation. A manager that is the only one opens at once.
abbrev pub founded : Opening → ℕ → ℕ → OpeningStep
founded o now f = opened_if_told f (record {
  opening = record o { stage = Founded f; reservation = None; since = max now o.ready; told = only_itself o.place };
  answer = Some Yes;
  logged = record { founded = Some f; opened = false };
})

abbrev pub found_if : Option StageRefusal → Option ℕ → Opening → ℕ → ℕ → OpeningStep
found_if (Some refusal) reserved o now f = refused o refusal
found_if None None o now f = refused o Wait
found_if None (Some g) o now f = founded o now f

abbrev pub found : Opening → ℕ → ℕ → OpeningStep
found o now f = found_if (against o.stage (reserved_for o now) f) (reserved_for o now) o now f

-- the manager of this place told the founding
abbrev pub with_told : Opening → ℕ → Opening
with_told o from = record o { told = slice_set o.told from true }

-- A board, to a manager that is founded with f and not reserved: one of stage 2 opens it at once, and one of stage 1 where all others told f too.
abbrev pub heard : ℕ → Opening → Board → Stage → OpeningStep
heard f o b Empty = same o None
heard f o b (Founded g) = if (g == f) && nat_lt o.since b.asked then opened_if_told f (same (with_told o b.from) None) else same o None
heard f o b (Open g) = if g == f then opened f (same o None) else same o None

abbrev pub may_open_by : Stage → Option ℕ → Option ℕ
may_open_by Empty reserved = None
may_open_by (Open f) reserved = None
may_open_by (Founded f) (Some g) = None
may_open_by (Founded f) None = Some f

-- the founding to which it may open: it is founded so, and not reserved
abbrev pub may_open : Opening → ℕ → Option ℕ
may_open o now = may_open_by o.stage (reserved_for o now)

abbrev pub told_to : Option ℕ → Opening → Board → OpeningStep
told_to None o b = same o None
told_to (Some f) o b = heard f o b b.stage

-- time goes by
abbrev pub ticked : Option ℕ → Opening → OpeningStep
ticked None o = same o None
ticked (Some f) o = opened_if_told f (same o None)

abbrev pub stepped : Opening → ℕ → StageEvent → OpeningStep
stepped o now (event.Look f) = looked o now f
stepped o now (event.Found f) = found o now f
stepped o now (event.Told b) = told_to (may_open o now) o b
stepped o now event.Tick = ticked (may_open o now) o
