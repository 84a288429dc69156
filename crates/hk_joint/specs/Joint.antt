-- The joint order of a run: the printed orders of all keys in one, by the events at which their entries stand.
use Rattle.std.specs.Prelude.{◌≡◌, ℕ, ◌+◌, List, map, length, ◌==◌, if◌then◌else◌}
use Rattle.std.specs.List.{filter, flat_map, range_with_len}
use Rattle.hk_history.specs.declared.event.Entry.{Entry}
use Rattle.hk_register.specs.Printed.{Slot, entry_of}
use Rattle.hk_register.specs.Printed as register
use Rattle.hk_effects.specs.Projection.{project, is_same_key}
use Rattle.hk_effects.specs.Orders.{family}
use Rattle.hk_safety.specs.Run.{RunState, IsRun, trace_of, printed, named}
use Rattle.hk_safety.specs.Moment.{moment, replied_at}

-- a slot of a key's printed order, and the event at which it stands
pub record Standing : Type 0 where
  pub event : ℕ
  pub key : List ℕ
  pub slot : Slot

-- the slots of the key's printed order
abbrev pub slots : RunState → List ℕ → List Slot
slots run key = register.printed (family (trace_of key run).world.views) (project key (trace_of key run))

-- a change stands at the moment of its stamp, any other call at the event of its reply
abbrev pub event_of : RunState → List ℕ → Slot → ℕ
event_of run key slot = if slot.place == 0 then moment run key slot.stamp else replied_at run key slot.call

abbrev pub standing : RunState → List ℕ → Slot → Standing
standing run key slot = record { event = event_of run key slot; key = key; slot = slot }

abbrev pub standings : RunState → List ℕ → List Standing
standings run key = map (standing run key) (slots run key)

-- those of the key that stand at the event, as they are printed: by stamp, a change before the calls that found it
abbrev pub standings_at : RunState → ℕ → List ℕ → List Standing
standings_at run n key = filter (λ s. s.event == n) (standings run key)

-- the moments of a run by their numbers
abbrev pub moments : RunState → List ℕ
moments run = range_with_len 0 (length run.events + 1)

-- JointOrder: the entries of the printed orders of all keys, by event, then by key, then by stamp.
abbrev pub joint_order : RunState → List Standing
joint_order run = flat_map (λ n. flat_map (standings_at run n) (named run)) (moments run)

abbrev pub entries_of : List Standing → List Entry
entries_of order = map (λ s. entry_of s.slot) order

-- those of one key
abbrev pub entries_at : List ℕ → List Standing → List Entry
entries_at key order = entries_of (filter (λ s. is_same_key key s.key) order)

-- In every run the entries of each key are the key's printed order.
abbrev pub KeysKeepTheirOrder : Type 0
KeysKeepTheirOrder = (run : RunState) → IsRun run → (key : List ℕ) → entries_at key (joint_order run) ≡ printed run key
