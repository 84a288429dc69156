-- What the last event of a run adds to its world and to the traces of its keys.
use Rattle.std.proofs.Common.{◌≡◌, ℕ, List, [], ◌∷◌, ◌++◌, ◌∙◌, sym, refl, ap, subst, Option, Some, None, Result, Ok, Err}
use Rattle.hk_base.specs.declared.stamp.NodeId.{NodeId}
use Rattle.hk_event.specs.declared.event.Event.{Event}
use Rattle.hk_event.specs.declared.refused.Refused.{Refused}
use Rattle.hk_world.specs.World.{WorldState}
use Rattle.hk_world.specs.Start.{start}
use Rattle.hk_world.specs.Steps.{Accepted, acting_of, world_step}
use Rattle.hk_world.specs.Sound.{IsEvent}
use Rattle.hk_effects.specs.Projection.{Trace, traced, traced_by}
use Rattle.hk_effects.specs.Runs.{start_trace, Follows, IsKept, RunsKeepParts}
use Rattle.hk_effects.specs.Orders.{OrdersAreLegal}
use Rattle.hk_safety.specs.Run.{RunState, world_with, world_from, world_of, AreAccepted, IsRun, trace_with, trace_from, trace_of, RunsAreLegal}
use Rattle.hk_safety.specs.Push.{with_event}

-- ---- the world
pub world_append : (xs ys : List Event) (w : WorldState) → world_from w (xs ++ ys) ≡ world_from (world_from w xs) ys
world_append [] ys w = refl
world_append (x ∷ xs) ys w = world_append xs ys (world_with w (world_step w x))

-- the events before are accepted, and then those after them
pub accepted_append : (xs ys : List Event) (w : WorldState) → AreAccepted w xs → AreAccepted (world_from w xs) ys → AreAccepted w (xs ++ ys)
accepted_append [] ys w h k = k
accepted_append (x ∷ xs) ys w h k =
    let after : world_with w (world_step w x) ≡ h.1.world = ap (world_with w) h.2 in
    (h.0, h.1, h.2, accepted_append xs ys h.1.world h.3 (subst (λ (v : WorldState). AreAccepted (world_from v xs) ys) after k))

-- ---- the trace of a key
pub world_is : (key : List ℕ) (t : Trace) (event : Event) (a : Accepted) (acting : Option NodeId) → (traced_by key t event a acting).world ≡ a.world
world_is key t event a None = refl
world_is key t event a (Some id) = refl

pub trace_append : (key : List ℕ) (xs ys : List Event) (t : Trace) → trace_from key t (xs ++ ys) ≡ trace_from key (trace_from key t xs) ys
trace_append key [] ys t = refl
trace_append key (x ∷ xs) ys t = trace_append key xs ys (trace_with key t x (world_step t.world x))

pub trace_world : (key : List ℕ) (events : List Event) (t : Trace) → (trace_from key t events).world ≡ world_from t.world events
trace_world key [] t = refl
trace_world key (x ∷ xs) t = trace_world key xs (trace_with key t x (world_step t.world x)) ∙
    ap (λ (w : WorldState). world_from w xs) (by_result (world_step t.world x))
  where
    by_result : (r : Result Accepted Refused) → (trace_with key t x r).world ≡ world_with t.world r
    by_result (Ok a) = world_is key t x a (acting_of a)
    by_result (Err refused) = refl

-- the trace of a key has the run's world
pub trace_of_world : (key : List ℕ) (run : RunState) → (trace_of key run).world ≡ world_of run
trace_of_world key run = trace_world key run.events (start_trace run.header)

pub follows_of : (key : List ℕ) (events : List Event) (t : Trace) → AreAccepted t.world events → Follows key t events (trace_from key t events)
follows_of key [] t h = refl
follows_of key (x ∷ xs) t h =
    let a : Accepted = h.1 in
    let is : trace_with key t x (world_step t.world x) ≡ traced key t x a = ap (trace_with key t x) h.2 in
    let rest : AreAccepted (traced key t x a).world xs = subst (λ (w : WorldState). AreAccepted w xs) (sym (world_is key t x a (acting_of a))) h.3 in
    (a, h.2, h.0, subst (λ (z : Trace). Follows key (traced key t x a) xs (trace_from key z xs)) (sym is) (follows_of key xs (traced key t x a) rest))

-- ---- runs
pub run_follows : (key : List ℕ) (run : RunState) → IsRun run → Follows key (start_trace run.header) run.events (trace_of key run)
run_follows key run ok = follows_of key run.events (start_trace run.header) ok.accepted

pub run_kept : RunsKeepParts → (key : List ℕ) (run : RunState) → IsRun run → IsKept key (trace_of key run)
run_kept runs key run ok = runs run.header ok.header key run.events (trace_of key run) (run_follows key run ok)

pub runs_legal : OrdersAreLegal → RunsAreLegal
runs_legal orders run ok key = orders run.header ok.header key run.events (trace_of key run) (run_follows key run ok)

-- ---- the last event
pub world_then : (run : RunState) (event : Event) (a : Accepted) → world_step (world_of run) event ≡ Ok a → world_of (with_event run event) ≡ a.world
world_then run event a e = world_append run.events (event ∷ []) (start run.header) ∙ ap (world_with (world_of run)) e

-- the event is accepted in the trace of each key
pub step_at : (key : List ℕ) (run : RunState) (event : Event) (a : Accepted) → world_step (world_of run) event ≡ Ok a →
    world_step (trace_of key run).world event ≡ Ok a
step_at key run event a e = ap (λ (w : WorldState). world_step w event) (trace_of_world key run) ∙ e

pub trace_then : (key : List ℕ) (run : RunState) (event : Event) (a : Accepted) → world_step (world_of run) event ≡ Ok a →
    trace_of key (with_event run event) ≡ traced key (trace_of key run) event a
trace_then key run event a e = trace_append key run.events (event ∷ []) (start_trace run.header) ∙
    ap (trace_with key (trace_of key run) event) (step_at key run event a e)

pub run_then : (run : RunState) (event : Event) (a : Accepted) → IsRun run → IsEvent event → world_step (world_of run) event ≡ Ok a →
    IsRun (with_event run event)
run_then run event a ok is e = record { header = ok.header; accepted = accepted_append run.events (event ∷ []) (start run.header) ok.accepted (is, a, e, tt) }
