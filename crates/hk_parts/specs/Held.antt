-- The invariant of a run: its three parts, of each key and at every moment.
use Rattle.std.specs.Prelude.{ℕ, List}
use Rattle.hk_event.specs.declared.event.Event.{Event}
use Rattle.hk_effects.specs.Projection.{Trace}
use Rattle.hk_world.specs.Sound.{IsHeader}
use Rattle.hk_parts.specs.Moments.{Run, Ends, Moment, with_event}
use Rattle.hk_parts.specs.UpdatePart.{UpdatePart}
use Rattle.hk_parts.specs.RmwPart.{RmwPart}
use Rattle.hk_parts.specs.ViewPart.{ViewPart}

pub record AllParts (key : List ℕ) (run : Run) (t : Trace) : Type 0 where
  pub updates : UpdatePart key run t
  pub rmws : RmwPart key run t
  pub views : ViewPart key run t

-- at every moment, as the end of the run up to then
abbrev pub Held : Run → Type 0
Held run = (key : List ℕ) (t : Trace) → (m : Moment key run t) → AllParts key (record { header = run.header; events = m.past }) t

-- all parts hold in every run
abbrev pub RunsHold : Type 0
RunsHold = (run : Run) → IsHeader run.header → Held run

-- A run in which all parts held at every moment, and one more accepted event of this kind: the part holds afterwards.
abbrev pub Keeps : (List ℕ → Run → Trace → Type 0) → (Event → Type 0) → Type 0
Keeps Part IsKind = (run : Run) → IsHeader run.header → Held run → (event : Event) → IsKind event → (key : List ℕ) (t : Trace) → Ends key (with_event run event) t → Part key (with_event run event) t
