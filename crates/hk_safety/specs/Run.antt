-- Runs of a world, and what a run comes to for each key.
use Rattle.std.specs.Prelude.{◌≡◌, ℕ, List, [], ◌∷◌, Result, Ok, Err, ⊤}
use Rattle.std.specs.Ordering.{match_ordering}
use Rattle.hk_copy.specs.Batches.{key_cmp}
use Rattle.hk_history.specs.declared.event.Event.{Event as Item}
use Rattle.hk_history.specs.declared.event.Entry.{Entry}
use Rattle.hk_history.specs.Legal.{Legal}
use Rattle.hk_event.specs.declared.event.Header.{Header}
use Rattle.hk_event.specs.declared.event.Event.{Event}
use Rattle.hk_event.specs.declared.event.Event.TheVariants.{Call}
use Rattle.hk_event.specs.declared.refused.Refused.{Refused}
use Rattle.hk_world.specs.World.{WorldState}
use Rattle.hk_world.specs.Start.{start}
use Rattle.hk_world.specs.Steps.{Accepted, world_step}
use Rattle.hk_world.specs.Sound.{IsHeader, IsEvent}
use Rattle.hk_effects.specs.Projection.{Trace, traced}
use Rattle.hk_effects.specs.Runs.{start_trace}
use Rattle.hk_effects.specs.Orders.{history_of, order_of}

-- how the group began, and the events that its world accepted, the first one first
pub record RunState : Type 0 where
  pub header : Header
  pub events : List Event

-- ---- the world of a run
abbrev pub world_with : WorldState → Result Accepted Refused → WorldState
world_with world (Ok a) = a.world
world_with world (Err refused) = world

abbrev pub world_from : WorldState → List Event → WorldState
world_from world [] = world
world_from world (event ∷ events) = world_from (world_with world (world_step world event)) events

abbrev pub world_of : RunState → WorldState
world_of run = world_from (start run.header) run.events

-- each event is one that may happen, and is accepted where it stands
abbrev pub AreAccepted : WorldState → List Event → Type 0
AreAccepted world [] = ⊤
AreAccepted world (event ∷ events) = IsEvent event × (a : Accepted) × (world_step world event ≡ Ok a) × AreAccepted a.world events

pub record IsRun (run : RunState) : Type 0 where
  pub header : IsHeader run.header
  pub accepted : AreAccepted (start run.header) run.events

-- ---- what it comes to for a key
abbrev pub trace_with : List ℕ → Trace → Event → Result Accepted Refused → Trace
trace_with key t event (Ok a) = traced key t event a
trace_with key t event (Err refused) = t

abbrev pub trace_from : List ℕ → Trace → List Event → Trace
trace_from key t [] = t
trace_from key t (event ∷ events) = trace_from key (trace_with key t event (world_step t.world event)) events

abbrev pub trace_of : List ℕ → RunState → Trace
trace_of key run = trace_from key (start_trace run.header) run.events

-- the calls on the key and their replies, the first one first
abbrev pub history : RunState → List ℕ → List Item
history run key = history_of (trace_of key run)

-- The order that is printed of the key: its complete updates by stamp, and each answered call that changed nothing behind the
-- update that it found.
abbrev pub printed : RunState → List ℕ → List Entry
printed run key = order_of key (trace_of key run)

-- the order that is printed for each key is legal for the key's history
abbrev pub AllLegal : RunState → Type 0
AllLegal run = (key : List ℕ) → Legal (history run key) (printed run key)

-- That holds after every run.
abbrev pub RunsAreLegal : Type 0
RunsAreLegal = (run : RunState) → IsRun run → AllLegal run

-- ---- the keys that calls named
-- the key in its place by its bytes, unless it stands there
abbrev pub with_key : List ℕ → List (List ℕ) → List (List ℕ)
with_key key [] = key ∷ []
with_key key (k ∷ keys) = match_ordering (key_cmp key k) (key ∷ k ∷ keys) (k ∷ keys) (k ∷ with_key key keys)

abbrev pub with_named : Event → List (List ℕ) → List (List ℕ)
with_named (Call id key op) keys = with_key key keys
with_named event keys = keys

abbrev pub named_from : List (List ℕ) → List Event → List (List ℕ)
named_from keys [] = keys
named_from keys (event ∷ events) = named_from (with_named event keys) events

-- the keys that the calls of a run named, in the order of their bytes
abbrev pub named : RunState → List (List ℕ)
named run = named_from [] run.events
