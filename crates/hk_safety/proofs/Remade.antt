-- A run that is made again says of a key what the run said.
use Rattle.std.proofs.Common.{◌≡◌, ℕ, List, [], ◌∷◌, ◌++◌, append_assoc, Result, Ok, OnOk, sym, ap, subst, ◌∙◌}
use Rattle.hk_history.specs.declared.event.Event.{Event as HistoryEvent}
use Rattle.hk_event.specs.declared.event.Event.{Event}
use Rattle.hk_world.specs.declared.shown.Shown.{Shown}
use Rattle.hk_world.specs.World.{WorldState}
use Rattle.hk_world.specs.Steps.{Accepted, world_step}
use Rattle.hk_safety.specs.Run.{world_with, AreAccepted}
use Rattle.hk_safety.specs.Kept.{called_from}
use Rattle.hk_safety.specs.Shows.{call_line, lines_at, event_lines, lines_with, lines_from}
use Rattle.hk_safety.specs.Again.{IsRemade, IsTakenAgain}

-- an event's call, and then its replies
pub taken_again : (old new : WorldState) (before after : List (List ℕ)) (said called lines : List HistoryEvent) (key : List ℕ) (event : Event) (shown : Shown) →
    IsRemade old new event shown → after ≡ before ++ called_from (event ∷ []) → called ≡ said ++ call_line key event shown.call → lines ≡ called ++ lines_at key after shown.replies →
    IsTakenAgain old new before after said lines key event
taken_again old new before after said called lines key event shown made calls call replies = record {
  a = made.0;
  made = made.1;
  world = made.3;
  calls = calls;
  items = replies ∙ ap (λ (l : List HistoryEvent). l ++ lines_at key after shown.replies) call ∙ append_assoc said (call_line key event shown.call) (lines_at key after shown.replies)
      ∙ ap (λ (s : Shown). said ++ event_lines key after event s) (sym made.2);
}

-- the lines so far, and then those of the events that are left, are all
pub again_more : (key : List ℕ) (old new : WorldState) (before after : List (List ℕ)) (said lines all : List HistoryEvent) (rest events : List Event) (event : Event) → rest ≡ event ∷ events →
    AreAccepted old rest → said ++ lines_from key old before rest ≡ all → IsTakenAgain old new before after said lines key event →
    AreAccepted new events × (lines ++ lines_from key new after events ≡ all)
again_more key old new before after said lines all rest events event is ok so_far step =
    let h : AreAccepted old (event ∷ events) = subst (AreAccepted old) is ok in
    let next : world_with old (world_step old event) ≡ new = ap (world_with old) step.made ∙ step.world in
    let same : h.1.world ≡ new = sym (ap (world_with old) h.2) ∙ next in
    let now : List HistoryEvent = event_lines key after event step.a.shown in
    let shown : lines_with key (before ++ called_from (event ∷ [])) event (world_step old event) ≡ now =
    ap (lines_with key (before ++ called_from (event ∷ [])) event) step.made ∙ ap (λ (calls : List (List ℕ)). event_lines key calls event step.a.shown) (sym step.calls) in
    let whole : lines_from key old before (event ∷ events) ≡ now ++ lines_from key new after events =
    ap (λ (front : List HistoryEvent). front ++ lines_from key (world_with old (world_step old event)) (before ++ called_from (event ∷ [])) events) shown
    ∙ ap (λ (w : WorldState). now ++ lines_from key w (before ++ called_from (event ∷ [])) events) next
    ∙ ap (λ (calls : List (List ℕ)). now ++ lines_from key new calls events) (sym step.calls) in (
      subst (λ (w : WorldState). AreAccepted w events) same h.3,
      ap (λ (l : List HistoryEvent). l ++ lines_from key new after events) step.items ∙ append_assoc said now (lines_from key new after events)
          ∙ ap (λ (l : List HistoryEvent). said ++ l) (sym whole) ∙ ap (λ (l : List Event). said ++ lines_from key old before l) (sym is) ∙ so_far,
    )
