-- The batches of a run that has made one event more.
use Rattle.std.proofs.Common.{◌≡◌, List, [], ◌∷◌, ◌++◌, Option, Some, None, Ok, refl, sym, ap, ◌∙◌}
use Rattle.std.specs.Prelude.{IfSome, MatchOption}
use Rattle.hk_event.specs.declared.event.Event.{Event}
use Rattle.hk_world.specs.declared.shown.Shown.{Shown}
use Rattle.hk_world.specs.World.{WorldState}
use Rattle.hk_world.specs.Start.{start}
use Rattle.hk_world.specs.Steps.{Accepted, world_step}
use Rattle.hk_safety.specs.Run.{RunState, world_with, world_from, world_of}
use Rattle.hk_safety.specs.Push.{IsPushed}
use Rattle.hk_joint.specs.declared.batch.Reading.{Reading}
use Rattle.hk_joint.specs.Batch.{reading_in, reading_at, readings_from, BatchingState, noted, noted_all, noted_run}

readings_more : (w : WorldState) (events : List Event) (event : Event)
    → readings_from w (events ++ event ∷ []) ≡ readings_from w events ++ reading_at event (world_step (world_from w events) event) ∷ []
readings_more w [] event = refl
readings_more w (e ∷ events) event = ap (λ (l : List (Option Reading)). reading_at e (world_step w e) ∷ l) (readings_more (world_with w (world_step w e)) events event)

noted_more : (s : BatchingState) (readings : List (Option Reading)) (reading : Option Reading) → noted_all s (readings ++ reading ∷ []) ≡ noted (noted_all s readings) reading
noted_more s [] reading = refl
noted_more s (r ∷ readings) reading = noted_more (noted s r) readings reading

-- one event more is noted behind the others
noted_event : (s : BatchingState) (run : RunState) (event : Event) (a : Accepted) → world_step (world_of run) event ≡ Ok a
    → noted_all s (readings_from (start run.header) (run.events ++ event ∷ [])) ≡ noted (noted_all s (readings_from (start run.header) run.events)) (reading_in event a.shown.replies)
noted_event s run event a e =
    ap (noted_all s) (readings_more (start run.header) run.events event)
    ∙ noted_more s (readings_from (start run.header) run.events) (reading_at event (world_step (world_of run) event))
    ∙ ap (λ r. noted (noted_all s (readings_from (start run.header) run.events)) (reading_at event r)) e

-- what is noted of a run is noted of it with an event more
pub noted_on : (old new : Option BatchingState) (run next : RunState) (event : Event) (shown : Shown) → IfSome old (λ b. b ≡ noted_run run) → IsPushed (Ok shown) run next event
    → IfSome new (λ n. MatchOption old ⊥ (λ o. n ≡ noted o (reading_in event shown.replies))) → IfSome new (λ b. b ≡ noted_run next)
noted_on old None run next event shown is pushed notes = tt
noted_on None (Some n) run next event shown is pushed notes = absurd notes
noted_on (Some o) (Some n) run next event shown is pushed notes =
    let a = pushed.0.0 in
    notes ∙ ap (λ (s : BatchingState). noted s (reading_in event shown.replies)) is ∙ ap (λ (s : Shown). noted (noted_run run) (reading_in event s.replies)) (sym pushed.0.2)
    ∙ sym (noted_event _ run event a pushed.0.1) ∙ ap noted_run (sym pushed.1)
