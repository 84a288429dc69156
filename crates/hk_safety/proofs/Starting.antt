-- What is kept of a run of no event.
use Rattle.std.proofs.Common.{◌≡◌, ℕ, List, [], ◌∷◌, map, refl, ap, ⊎_elim}
use Rattle.hk_base.specs.declared.stamp.NodeId.{NodeId}
use Rattle.hk_register.specs.Machine.{In, Mark}
use Rattle.hk_register.specs.Effects.{row_mark}
use Rattle.hk_register.specs.Runs.{founder}
use Rattle.hk_event.specs.declared.event.Header.{Header}
use Rattle.hk_base.specs.View.{counted}
use Rattle.hk_world.specs.Start.{start}
use Rattle.hk_world.specs.Sound.{IsHeader}
use Rattle.hk_effects.specs.Runs.{start_trace}
use Rattle.hk_safety.specs.Run.{RunState, IsRun}
use Rattle.hk_safety.specs.Kept.{KeptState, IsKeyOf, IsKeptOf, first_key}
use Rattle.hk_safety.proofs.Empty.{key_of_empty}
pub use Rattle.hk_safety.proofs.Events.{no_events}
use Rattle.hk_safety.proofs.Events.{events_start}

start_stamp : (ids : List NodeId) (m : Mark) → In (map (λ id. row_mark id.0 founder) ids) m → m.stamp ≡ 0
start_stamp [] m h = absurd h
start_stamp (id ∷ ids) m h = ⊎_elim (λ (e : m ≡ row_mark id.0 founder). ap (λ (k : Mark). k.stamp) e)
    (λ (t : In (map (λ id. row_mark id.0 founder) ids) m). start_stamp ids m t) h

pub starts_empty : (key : List ℕ) (h : Header) → IsKeyOf key first_key (start_trace h)
starts_empty key h = key_of_empty key (start_trace h) (record { history = refl; begun = refl; marks = start_stamp (counted 0 h.nodes) })

abbrev pub first_kept : Header → KeptState
first_kept h = record { world = start h; keys = []; calls = [] }

pub run_starts : (h : Header) → IsHeader h → IsRun (no_events h)
run_starts h is = record { header = is; accepted = tt }

pub kept_starts : (h : Header) → IsKeptOf (first_kept h) (no_events h)
kept_starts h = record { world = refl; calls = refl; keys = refl; each = λ key. starts_empty key h; events = events_start h }
