-- What a step logs makes of the log just the office behind it.
use Rattle.std.proofs.Common.{◌≡◌, ℕ, ◌==◌, ◌&&◌, nat_lt, Bool, true, false, cond, List, [], map, Option, None, Some, refl, sym, ap, subst}
use Rattle.hk_base.specs.declared.stamp.NodeId.{NodeId}
use Rattle.hk_base.specs.declared.letter.Actor.{Actor}
use Rattle.hk_base.specs.declared.letter.Actor.TheVariants as actors
use Rattle.hk_base.specs.declared.view.View.{View}
use Rattle.hk_fields.specs.declared.tickets.Ticket.{Ticket}
use Rattle.hk_fields.specs.declared.hosts.HostTickets.{HostTickets}
use Rattle.hk_inside.specs.declared.inquiry.Inquiry.{Inquiry}
use Rattle.hk_inside.specs.declared.inquiry.Inquiry.TheVariants as asks
use Rattle.hk_stage.specs.declared.stage.Stage.{Stage}
use Rattle.hk_stage.specs.declared.stage.Stage.TheVariants as stages
use Rattle.hk_stage.specs.declared.event.Board.{Board as StageBoard}
use Rattle.hk_stage.specs.declared.event.StageEvent.{StageEvent}
use Rattle.hk_stage.specs.declared.event.StageEvent.TheVariants as event
use Rattle.hk_stage.specs.declared.event.StageRefusal.{StageRefusal}
use Rattle.hk_stage.specs.declared.opening.Opening.{Opening}
use Rattle.hk_stage.specs.declared.opening.OpeningStep.{OpeningStep}
use Rattle.hk_stage.specs.Opening.{stepped, takes_letters, against, reserved_for, looked_unless, opened_if_told, opens, same, with_told, told_to, heard, may_open, ticked as stage_ticked}
use Rattle.hk_stage.specs.Laws.{LogTellsTheStage, founded_by, opened_by}
use Rattle.hk_roll.specs.declared.answer.RollStep.{RollStep}
use Rattle.hk_roll.specs.declared.answer.RollAnswer.{RollAnswer}
use Rattle.hk_roll.specs.declared.binding.Binding.{Binding}
use Rattle.hk_roll.specs.Rolls.{Entries}
use Rattle.hk_roll.specs.Steps.{claimed, seated}
use Rattle.hk_reports.specs.declared.kept.Came.{Came}
use Rattle.hk_office.specs.declared.office.Office.{Office}
use Rattle.hk_office.specs.declared.refusal.OfficeRefusal.{OfficeRefusal}
use Rattle.hk_office.specs.declared.refusal.OfficeRefusal.TheVariants.{Wait, NoSuchMember}
use Rattle.hk_office.specs.Answers.{refused}
use Rattle.hk_office.specs.Board.{last_of}
use Rattle.hk_office.specs.Founding.{opening_logged, roll_of, fits}
use Rattle.hk_office.specs.Marks.{is_in_view}
use Rattle.hk_office.specs.Seating.{binding_taken_by, seating_of, seat_noted_at, binding_noted, given_noted, seat_given_by, seat_given, number_claimed}
use Rattle.hk_office.specs.Leaving.{leaver_of, against_leave, left_by, left_at, left}
use Rattle.hk_office.specs.Steps.{Made, stays, found_by, found_step, found, moved, inquired, if_open, board_told}
use Rattle.hk_office.specs.Laws.{Logged, with_entries, logged_of, LogTellsTheOffice}

abbrev Tells : Office → Made → Type 0
Tells o made = with_entries (logged_of o) made.0.logged ≡ logged_of made.1

-- the stage behind, and the roll
two : (s t : Stage) (r : Entries) → s ≡ t → ◌≡◌ {A = Logged} (record { stage = s; roll = r }) (record { stage = t; roll = r })
two s t r e = ap (λ (x : Stage). record { stage = x; roll = r }) e

opening_tells : (opened : Bool) (stage behind : Stage) (r : Entries) → behind ≡ opened_by stage opened →
    with_entries (record { stage = stage; roll = r }) (opening_logged opened) ≡ record { stage = behind; roll = r }
opening_tells true stage behind r e = two (opened_by stage true) behind r (sym e)
opening_tells false stage behind r e = two stage behind r (sym e)

found_tells : (founded : Option ℕ) (o : Office) (now : ℕ) (hosts : List HostTickets) (step : OpeningStep) →
    step.opening.stage ≡ opened_by (founded_by o.opening.stage founded) step.logged.opened → Tells o (found_by founded o now hosts step)
found_tells None o now hosts step e = opening_tells step.logged.opened o.opening.stage step.opening.stage o.roll e
found_tells (Some number) o now hosts step e =
    opening_tells step.logged.opened (founded_by o.opening.stage (Some number)) step.opening.stage (roll_of hosts) e

binding_tells : (b : Option Binding) (o : Office) (now : ℕ) (answer : RollAnswer) → with_entries (logged_of o) (binding_taken_by b o now answer).0.logged ≡ logged_of (binding_taken_by b o now answer).1
binding_tells None o now answer = refl
binding_tells (Some b) o now answer = refl

-- ---- SEAT and CLAIM

noted_same : (x : Option Came) (o : Office) (now : ℕ) (node : NodeId) (ticket : Ticket) → logged_of (seat_noted_at x o now node ticket) ≡ logged_of o
noted_same None o now node ticket = refl
noted_same (Some c) o now node ticket = refl

actor_same : (actor : Actor) (o : Office) (now : ℕ) (ticket : Ticket) → logged_of (binding_noted o now actor ticket) ≡ logged_of o
actor_same (actors.Node node) o now ticket = noted_same (last_of ticket o) o now node ticket
actor_same (actors.Manager place) o now ticket = refl

given_same : (b : Option Binding) (o : Office) (now : ℕ) → logged_of (given_noted b o now) ≡ logged_of o
given_same None o now = refl
given_same (Some b) o now = actor_same b.actor o now b.ticket

seat_tells : (o : Office) (now : ℕ) (step : RollStep) → Tells o (seat_given_by o now step)
seat_tells o now step =
    subst (λ (l : Logged). with_entries l (seat_given_by o now step).0.logged ≡ logged_of (seat_given_by o now step).1)
    (given_same step.logged o now)
    (binding_tells step.logged (given_noted step.logged o now) now step.answer)

-- ---- LEAVE

left_tells : (x : Option OfficeRefusal) (o : Office) (now : ℕ) (node : NodeId) → Tells o (left_by x o now node)
left_tells None o now node = refl
left_tells (Some refusal) o now node = refl

leaver_tells : (x : Option NodeId) (o : Office) (now : ℕ) (views : List View) → Tells o (left_at x o now views)
leaver_tells None o now views = refl
leaver_tells (Some node) o now views = at (is_in_view views node)
  where
    at : (t : Bool) → Tells o (cond t (left_by (against_leave o now views node) o now node) (refused NoSuchMember, o))
    at true = left_tells (against_leave o now views node) o now node
    at false = refl

if_open_tells : (o : Office) (made : Made) → Tells o made → Tells o (if_open o made)
if_open_tells o made e = at (takes_letters o.opening)
  where
    at : (t : Bool) → Tells o (cond t made (stays o (refused Wait)))
    at true = e
    at false = refl

-- ---- which steps found nothing

look_founds_by : (x : Option StageRefusal) (o : Opening) (now f : ℕ) → (looked_unless x o now f).logged.founded ≡ None
look_founds_by None o now f = refl
look_founds_by (Some refusal) o now f = refl

look_founds : (o : Opening) (now f : ℕ) → (stepped o now (event.Look f)).logged.founded ≡ None
look_founds o now f = look_founds_by (against o.stage (reserved_for o now) f) o now f

opened_founds : (f : ℕ) (step : OpeningStep) → step.logged.founded ≡ None → (opened_if_told f step).logged.founded ≡ None
opened_founds f step e = at (opens step.opening)
  where
    at : (t : Bool) → (cond t (record step { opening = record step.opening { stage = stages.Open f }; logged = record step.logged { opened = true } }) step).logged.founded ≡ None
    at true = e
    at false = e

heard_founds : (f : ℕ) (o : Opening) (b : StageBoard) (stage : Stage) → (heard f o b stage).logged.founded ≡ None
heard_founds f o b stages.Empty = refl
heard_founds f o b (stages.Founded g) = at ((g == f) && nat_lt o.since b.asked)
  where
    at : (t : Bool) → (cond t (opened_if_told f (same (with_told o b.from) None)) (same o None)).logged.founded ≡ None
    at true = opened_founds f (same (with_told o b.from) None) refl
    at false = refl
heard_founds f o b (stages.Open g) = at (g == f)
  where
    at : (t : Bool) → (cond t (record (same o None) { opening = record o { stage = stages.Open f }; logged = record { founded = None; opened = true } }) (same o None)).logged.founded ≡ None
    at true = refl
    at false = refl

told_founds : (x : Option ℕ) (o : Opening) (b : StageBoard) → (told_to x o b).logged.founded ≡ None
told_founds None o b = refl
told_founds (Some f) o b = heard_founds f o b b.stage

board_founds : (o : Opening) (now : ℕ) (b : StageBoard) → (stepped o now (event.Told b)).logged.founded ≡ None
board_founds o now b = told_founds (may_open o now) o b

ticked_founds : (x : Option ℕ) (o : Opening) → (stage_ticked x o).logged.founded ≡ None
ticked_founds None o = refl
ticked_founds (Some f) o = opened_founds f (same o None) refl

tick_founds : (o : Opening) (now : ℕ) → (stepped o now event.Tick).logged.founded ≡ None
tick_founds o now = ticked_founds (may_open o now) o

-- ---- every step

module _ (stage : LogTellsTheStage) where
  found_step_tells : (o : Office) (now : ℕ) (hosts : List HostTickets) (f : ℕ) → Tells o (found o now f hosts)
  found_step_tells o now hosts f = at (fits o hosts)
    where
      at : (t : Bool) → Tells o (cond t (found_step o now hosts (stepped o.opening now (event.Found f))) (stays o (refused Wait)))
      at true = found_tells (stepped o.opening now (event.Found f)).logged.founded o now hosts (stepped o.opening now (event.Found f)) (stage o.opening now (event.Found f))
      at false = refl

  -- a step that founds nothing
  moved_tells : (o : Office) (now : ℕ) (happens : StageEvent) → (stepped o.opening now happens).logged.founded ≡ None → Tells o (moved o now (stepped o.opening now happens))
  moved_tells o now happens none =
      found_tells None o now [] (stepped o.opening now happens)
      (subst (λ (x : Option ℕ). (stepped o.opening now happens).opening.stage ≡ opened_by (founded_by o.opening.stage x) (stepped o.opening now happens).logged.opened) none
      (stage o.opening now happens))

  step_tells : (o : Office) (now : ℕ) (views : List View) (told : List (Option Ticket)) (inquiry : Inquiry) → Tells o (inquired o now views told inquiry)
  step_tells o now views told (asks.Report report) = refl
  step_tells o now views told (asks.Seat ticket) = if_open_tells o (seat_given o now views ticket) (seat_tells o now (seated o.roll views (seating_of o now views ticket) ticket))
  step_tells o now views told (asks.Claim node ticket) =
      if_open_tells o (number_claimed o now views told node ticket)
      (binding_tells (claimed o.roll views told node ticket).logged o now (claimed o.roll views told node ticket).answer)
  step_tells o now views told (asks.Look f) = moved_tells o now (event.Look f) (look_founds o.opening now f)
  step_tells o now views told (asks.Found f hosts) = found_step_tells o now hosts f
  step_tells o now views told (asks.Leave leaver) = if_open_tells o (left o now views leaver) (leaver_tells (leaver_of o leaver) o now views)
  step_tells o now views told asks.Status = refl

  pub log_tells : LogTellsTheOffice
  log_tells = (
    step_tells,
    (λ o now place asked b. moved_tells o now (event.Told (board_told place asked b)) (board_founds o.opening now (board_told place asked b))),
    (λ o now. moved_tells o now event.Tick (tick_founds o.opening now)),
  )
