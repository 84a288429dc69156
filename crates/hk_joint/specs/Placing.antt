-- Entries with the events at which they stand.
use Rattle.std.specs.Prelude.{◌≡◌, ℕ, ◌<◌, List, map, ◌==◌}
use Rattle.std.specs.List.{filter, flat_map, range_with_len}
use Rattle.hk_register.specs.Machine.{In}
use Rattle.hk_register.specs.Printed.{entry_of}
use Rattle.hk_safety.specs.Run.{RunState, IsRun, named}
use Rattle.hk_safety.specs.declared.placed.Placed.{Placed}
use Rattle.hk_joint.specs.Joint.{Standing, standings, joint_order, entries_of}

-- by events below n, those of one event in the order that they had
abbrev pub by_event : ℕ → List Placed → List Placed
by_event n placed = flat_map (λ m. filter (λ p. p.event == m) placed) (range_with_len 0 n)

abbrev pub IsByEvent : List Placed → List Placed → Type 0
IsByEvent old new = (n : ℕ) → ((p : Placed) → In old p → p.event < n) → new ≡ by_event n old

-- the printed orders of all keys, one behind the other, each entry with its event
abbrev pub placed : Standing → Placed
placed s = record { event = s.event; entry = entry_of s.slot }

abbrev pub placed_in : RunState → List Placed
placed_in run = flat_map (λ key. map placed (standings run key)) (named run)

-- Brought into the order of their events they are the joint order.
abbrev pub PlacedAreJoint : Type 0
PlacedAreJoint = (run : RunState) → IsRun run → (ordered : List Placed) → IsByEvent (placed_in run) ordered → map (λ p. p.entry) ordered ≡ entries_of (joint_order run)
