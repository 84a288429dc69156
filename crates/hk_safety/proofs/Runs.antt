-- A run of accepted events, and one event more.
use Rattle.std.proofs.Common.{◌≡◌, List, [], ◌∷◌, ◌++◌, Ok, refl, ap, ◌∙◌}
use Rattle.hk_event.specs.declared.event.Event.{Event}
use Rattle.hk_world.specs.World.{WorldState}
use Rattle.hk_world.specs.Start.{start}
use Rattle.hk_world.specs.Steps.{Accepted, world_step}
use Rattle.hk_world.specs.Sound.{IsEvent}
use Rattle.hk_safety.specs.Run.{RunState, world_with, world_from, world_of, AreAccepted, IsRun}
use Rattle.hk_safety.specs.Push.{with_event}

world_from-more : (w : WorldState) (events : List Event) (event : Event)
    → world_from w (events ++ event ∷ []) ≡ world_with (world_from w events) (world_step (world_from w events) event)
world_from-more w [] event = refl
world_from-more w (e ∷ events) event = world_from-more (world_with w (world_step w e)) events event

-- the world of a run that has made an event more
pub world_pushed : (run : RunState) (event : Event) (a : Accepted) → world_step (world_of run) event ≡ Ok a → world_of (with_event run event) ≡ a.world
world_pushed run event a e = world_from-more (start run.header) run.events event ∙ ap (world_with (world_of run)) e

accepted_at : (w : WorldState) (e : Event) (b : Accepted) → world_step w e ≡ Ok b → world_with w (world_step w e) ≡ b.world
accepted_at w e b is = ap (world_with w) is

accepted_more : (w : WorldState) (events : List Event) (event : Event) (a : Accepted) → AreAccepted w events → IsEvent event
    → world_step (world_from w events) event ≡ Ok a → AreAccepted w (events ++ event ∷ [])
accepted_more w [] event a all is e = (is, a, e, tt)
accepted_more w (x ∷ events) event a all is e =
    (all.0, all.1, all.2, accepted_more all.1.world events event a all.3 is (rw (accepted_at w x all.1 all.2) at e))

pub run_more : (run : RunState) (event : Event) (a : Accepted) → IsRun run → IsEvent event → world_step (world_of run) event ≡ Ok a
    → IsRun (with_event run event)
run_more run event a is event_ok e = record { header = is.header; accepted = accepted_more (start run.header) run.events event a is.accepted event_ok e }
