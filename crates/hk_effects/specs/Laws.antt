-- Every accepted event is, for each key, one effect of the replicated register, or two.
use Rattle.std.specs.Prelude.{◌≡◌, ◌⊎◌, ℕ, List, [], Ok}
use Rattle.hk_register.specs.Machine.{RegisterState}
use Rattle.hk_register.specs.Effects.{Effect, Happens}
use Rattle.hk_register.specs.Parts.{Parts}
use Rattle.hk_world.specs.World.{WorldState}
use Rattle.hk_world.specs.Steps.{Accepted, world_step}
use Rattle.hk_world.specs.Sound.{IsEvent}
use Rattle.hk_event.specs.declared.event.Event.{Event}
use Rattle.hk_effects.specs.Projection.{Trace, project, traced}
use Rattle.hk_effects.specs.Own.{IsLed, IsOwn, IsTrace, Agrees}

abbrev pub OneEffect : (ℕ → List ℕ) → RegisterState → RegisterState → Type 0
OneEffect V old new = (e : Effect) × Happens V old e new

-- one effect, or two one after the other. That nothing happens is an effect too, Quiet.
abbrev pub Effects : (ℕ → List ℕ) → RegisterState → RegisterState → Type 0
Effects V old new = OneEffect V old new ⊎ (mid : RegisterState) × OneEffect V old mid × OneEffect V mid new

abbrev pub EventIsEffects : Type 0
EventIsEffects =
    (V : ℕ → List ℕ) (key : List ℕ) (t : Trace) (event : Event) (a : Accepted) →
    world_step t.world event ≡ Ok a → IsEvent event → IsOwn t.world → Agrees t.world V → IsTrace t → Parts V (project key t) → Effects V (project key t) (project key (traced key t event a))

-- Each accepted event keeps the world's own invariant: without managers, and where managers agree.
pub record EventKeepsOwn : Type 0 where
  pub alone : (w : WorldState) (event : Event) (a : Accepted) → world_step w event ≡ Ok a → IsEvent event → w.managers ≡ [] → IsOwn w → IsOwn a.world
  pub led : (w : WorldState) (event : Event) (a : Accepted) → world_step w event ≡ Ok a → IsEvent event → IsLed a.world → IsOwn w → IsOwn a.world
