-- Runs: a world of founders, and the events that it accepts, seen from a key.
use Rattle.std.specs.Prelude.{◌≡◌, ℕ, List, [], ◌∷◌, map, Ok}
use Rattle.hk_register.specs.Effects.{row_mark}
use Rattle.hk_register.specs.Runs.{founder}
use Rattle.hk_register.specs.Parts.{Parts}
use Rattle.hk_register.specs.Calls.{CallParts}
use Rattle.hk_event.specs.declared.event.Header.{Header}
use Rattle.hk_event.specs.declared.event.Event.{Event}
use Rattle.hk_base.specs.View.{counted}
use Rattle.hk_world.specs.Start.{start}
use Rattle.hk_world.specs.Steps.{Accepted, world_step}
use Rattle.hk_world.specs.Sound.{IsHeader, IsEvent}
use Rattle.hk_effects.specs.Projection.{Trace, project, traced}
use Rattle.hk_effects.specs.Own.{IsOwn, IsTrace, Agrees}

-- each founder's row is marked
abbrev pub start_trace : Header → Trace
start_trace h = record { world = start h; marks = map (λ id. row_mark id.0 founder) (counted 0 h.nodes); begun = []; history = [] }

-- the events are accepted one after the other, and lead from the one trace of the key to the other
abbrev pub Follows : List ℕ → Trace → List Event → Trace → Type 0
Follows key t [] last = t ≡ last
Follows key t (event ∷ events) last = (a : Accepted) × (world_step t.world event ≡ Ok a) × IsEvent event × Follows key (traced key t event a) events last

-- What holds of a key after every run: the world's own invariant, and the register's, whatever family of views the agreed ones
-- belong to.
pub record IsKept (key : List ℕ) (t : Trace) : Type 0 where
  pub own : IsOwn t.world
  pub trace : IsTrace t
  pub parts : (V : ℕ → List ℕ) → Agrees t.world V → Parts V (project key t)
  pub calls : CallParts (project key t)

abbrev pub RunsKeepParts : Type 0
RunsKeepParts = (h : Header) → IsHeader h → (key : List ℕ) (events : List Event) (last : Trace) → Follows key (start_trace h) events last → IsKept key last
