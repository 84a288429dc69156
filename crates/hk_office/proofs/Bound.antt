-- Who is answered that a number is its own has it in the roll behind the step.
use Rattle.std.proofs.Common.{◌≡◌, ℕ, Bool, true, false, cond, List, Option, None, Some, refl, sym, ap, ◌∙◌}
use Rattle.hk_base.specs.declared.stamp.NodeId.{NodeId}
use Rattle.hk_base.specs.declared.letter.Actor.{Actor}
use Rattle.hk_base.specs.declared.letter.Actor.TheVariants as actors
use Rattle.hk_base.specs.declared.view.View.{View}
use Rattle.hk_fields.specs.declared.tickets.Ticket.{Ticket}
use Rattle.hk_stage.specs.Opening.{takes_letters}
use Rattle.hk_roll.specs.declared.answer.RollStep.{RollStep}
use Rattle.hk_roll.specs.declared.answer.RollAnswer.{RollAnswer}
use Rattle.hk_roll.specs.declared.answer.RollAnswer.TheVariants as rolls
use Rattle.hk_roll.specs.declared.answer.RollRefusal.TheVariants as refusals
use Rattle.hk_roll.specs.declared.binding.Binding.{Binding}
use Rattle.hk_roll.specs.Rolls.{Entries, bound}
use Rattle.hk_roll.specs.Steps.{claimed, seated}
use Rattle.hk_roll.specs.Laws.{AnswersTellTheRoll, behind}
use Rattle.hk_reports.specs.declared.kept.Came.{Came}
use Rattle.hk_office.specs.declared.office.Office.{Office}
use Rattle.hk_office.specs.declared.answer.OfficeAnswer.TheVariants.{Seated, Yes}
use Rattle.hk_office.specs.declared.refusal.OfficeRefusal.TheVariants.{Wait}
use Rattle.hk_office.specs.Answers.{refused}
use Rattle.hk_office.specs.Board.{last_of}
use Rattle.hk_office.specs.Seating.{seating_of, roll_answer, binding_taken_by, seat_noted_at, binding_noted, given_noted, seat_given_by, seat_given, number_claimed}
use Rattle.hk_office.specs.Steps.{Made, stays, if_open}
use Rattle.hk_office.specs.Laws.{AnswersAreBound}

-- ---- the roll behind

roll_behind : (b : Option Binding) (o : Office) (now : ℕ) (answer : RollAnswer) → (binding_taken_by b o now answer).1.roll ≡ behind o.roll b
roll_behind None o now answer = refl
roll_behind (Some b) o now answer = refl

noted_roll : (x : Option Came) (o : Office) (now : ℕ) (node : NodeId) (ticket : Ticket) → (seat_noted_at x o now node ticket).roll ≡ o.roll
noted_roll None o now node ticket = refl
noted_roll (Some c) o now node ticket = refl

actor_roll : (actor : Actor) (o : Office) (now : ℕ) (ticket : Ticket) → (binding_noted o now actor ticket).roll ≡ o.roll
actor_roll (actors.Node node) o now ticket = noted_roll (last_of ticket o) o now node ticket
actor_roll (actors.Manager place) o now ticket = refl

given_roll : (b : Option Binding) (o : Office) (now : ℕ) → (given_noted b o now).roll ≡ o.roll
given_roll None o now = refl
given_roll (Some b) o now = actor_roll b.actor o now b.ticket

seat_roll : (o : Office) (now : ℕ) (step : RollStep) → (seat_given_by o now step).1.roll ≡ behind o.roll step.logged
seat_roll o now step =
    roll_behind step.logged (given_noted step.logged o now) now step.answer
    ∙ ap (λ (r : Entries). behind r step.logged) (given_roll step.logged o now)

-- ---- the answer

taken_answer : (b : Option Binding) (o : Office) (now : ℕ) (answer : RollAnswer) → (binding_taken_by b o now answer).0.answer ≡ roll_answer answer
taken_answer None o now answer = refl
taken_answer (Some b) o now answer = refl

was_seated : (a : RollAnswer) (node : NodeId) → roll_answer a ≡ Seated node → a ≡ rolls.Seated node
was_seated (rolls.Seated n) node e = cc
was_seated rolls.Yes node e = absurd cc
was_seated (rolls.No (refusals.Taken n)) node e = absurd cc
was_seated (rolls.No refusals.Wait) node e = absurd cc

was_yes : (a : RollAnswer) → roll_answer a ≡ Yes → a ≡ rolls.Yes
was_yes (rolls.Seated n) e = absurd cc
was_yes rolls.Yes e = refl
was_yes (rolls.No (refusals.Taken n)) e = absurd cc
was_yes (rolls.No refusals.Wait) e = absurd cc

abbrev Has : Ticket → NodeId → Made → Type 0
Has ticket node made = bound (actors.Node node) made.1.roll ≡ Some ticket

seated_if_open : (o : Office) (made : Made) (ticket : Ticket) (node : NodeId) → (made.0.answer ≡ Seated node → Has ticket node made) →
    (if_open o made).0.answer ≡ Seated node → Has ticket node (if_open o made)
seated_if_open o made ticket node has e = at (takes_letters o.opening) e
  where
    at : (t : Bool) → (cond t made (stays o (refused Wait))).0.answer ≡ Seated node → Has ticket node (cond t made (stays o (refused Wait)))
    at true e = has e
    at false e = absurd cc

yes_if_open : (o : Office) (made : Made) (ticket : Ticket) (node : NodeId) → (made.0.answer ≡ Yes → Has ticket node made) → (if_open o made).0.answer ≡ Yes → Has ticket node (if_open o made)
yes_if_open o made ticket node has e = at (takes_letters o.opening) e
  where
    at : (t : Bool) → (cond t made (stays o (refused Wait))).0.answer ≡ Yes → Has ticket node (cond t made (stays o (refused Wait)))
    at true e = has e
    at false e = absurd cc

module _ (tells : AnswersTellTheRoll) where
  seat_has : (o : Office) (now : ℕ) (views : List View) (ticket : Ticket) (node : NodeId) → (seat_given o now views ticket).0.answer ≡ Seated node → Has ticket node (seat_given o now views ticket)
  seat_has o now views ticket node e =
      let step : RollStep = seated o.roll views (seating_of o now views ticket) ticket in
      let same : roll_answer step.answer ≡ Seated node = sym (taken_answer step.logged (given_noted step.logged o now) now step.answer) ∙ e in
      ap (bound (actors.Node node)) (seat_roll o now step) ∙ tells.1 o.roll views (seating_of o now views ticket) node ticket (was_seated step.answer node same)

  claim_has : (o : Office) (now : ℕ) (views : List View) (told : List (Option Ticket)) (node : NodeId) (ticket : Ticket) → (number_claimed o now views told node ticket).0.answer ≡ Yes →
      Has ticket node (number_claimed o now views told node ticket)
  claim_has o now views told node ticket e =
      let step : RollStep = claimed o.roll views told node ticket in
      let same : roll_answer step.answer ≡ Yes = sym (taken_answer step.logged o now step.answer) ∙ e in
      ap (bound (actors.Node node)) (roll_behind step.logged o now step.answer) ∙ tells.0 o.roll views told node ticket (was_yes step.answer same)

  pub answers_are_bound : AnswersAreBound
  answers_are_bound = record {
    seated = λ o now views told ticket node. seated_if_open o (seat_given o now views ticket) ticket node (seat_has o now views ticket node);
    claimed = λ o now views told node ticket. yes_if_open o (number_claimed o now views told node ticket) ticket node (claim_has o now views told node ticket);
  }
