-- The order of a key with the events at which its entries stand.
use Rattle.std.specs.Prelude.{ℕ, List, [], ◌∷◌, ◌++◌, map, min, Option, None, Some, is_some, nat_le, ◌==◌, if◌then◌else◌}
use Rattle.std.specs.List.{filter, flat_map}
use Rattle.std.specs.Option.{option_map}
use Rattle.hk_base.specs.declared.call.CallNo.{CallNo}
use Rattle.hk_history.specs.declared.event.Entry.{Entry}
use Rattle.hk_safety.specs.declared.evidence.Evidence.{Evidence}
use Rattle.hk_safety.specs.declared.evidence.Evidence.TheVariants.{Covers}
use Rattle.hk_safety.specs.declared.evidence.Evidence.TheVariants as Evidence
use Rattle.hk_safety.specs.declared.key_run.AtStamp.{AtStamp}
use Rattle.hk_safety.specs.declared.key_run.ReadOnlyCall.{ReadOnlyCall}
use Rattle.hk_safety.specs.declared.placed.Placed.{Placed}
use Rattle.hk_safety.specs.Run.{RunState, printed}
use Rattle.hk_safety.specs.Moment.{moment, replied_at}
use Rattle.hk_safety.specs.Kept.{KeyState, at_stamp, look_entry}

-- a change stands at the moment of its stamp, any other call at the event of its reply
abbrev pub event_by : RunState → List ℕ → CallNo → Option ℕ → ℕ
event_by run key call (Some s) = moment run key s
event_by run key call None = replied_at run key call.0

abbrev pub entry_placed : RunState → List ℕ → Entry → Placed
entry_placed run key entry = record { event = event_by run key entry.call entry.tag; entry = entry }

-- the printed order of the key, each entry with its event
abbrev pub placed : RunState → List ℕ → List Placed
placed run key = map (entry_placed run key) (printed run key)

-- ---- by what is kept
-- the update of a stamp, if it is complete, at the event that completed it
abbrev pub change_placed : Evidence → ℕ → Option CallNo → List Placed
change_placed evidence s None = []
change_placed (Evidence.Complete event) s (Some call) = record { event = event; entry = record { call = call; tag = Some s } } ∷ []
change_placed (Covers groups) s (Some call) = []

abbrev pub look_placed : ReadOnlyCall → Placed
look_placed look = record { event = look.event; entry = look_entry look }

abbrev pub placed_at : ℕ × AtStamp → List Placed
placed_at p = change_placed p.1.evidence p.0 p.1.update ++ map look_placed p.1.read_only

abbrev pub kept_placed : KeyState → List Placed
kept_placed k = flat_map placed_at k.stamps

-- the least event of the changes, and of the last event
abbrev pub least_of : ℕ → List Placed → ℕ
least_of last [] = last
least_of last (p ∷ placed) = if is_some p.entry.tag then min p.event (least_of last placed) else least_of last placed

-- A later stamp that is complete earlier makes the moment of the stamps below it: each change stands at the least event of its own and of those behind it.
abbrev pub at_moments : ℕ → List Placed → List Placed
at_moments last [] = []
at_moments last (p ∷ placed) = (if is_some p.entry.tag then record { event = min p.event (least_of last placed); entry = p.entry } else p) ∷ at_moments last placed

-- ---- one stamp, by what is kept
-- the event that completed the update
abbrev pub completion : Evidence → Option ℕ
completion (Evidence.Complete event) = Some event
completion (Covers groups) = None

abbrev pub earlier : ℕ → Evidence → ℕ
earlier event (Evidence.Complete other) = min event other
earlier event (Covers groups) = event

-- the earliest of an event and of those that completed the updates of these stamps
abbrev pub earliest : ℕ → List (ℕ × AtStamp) → ℕ
earliest event [] = event
earliest event (p ∷ stamps) = earliest (earlier event p.1.evidence) stamps

abbrev pub stamps_from : ℕ → List (ℕ × AtStamp) → List (ℕ × AtStamp)
stamps_from s stamps = filter (λ p. nat_le s p.0) stamps

-- None for a stamp whose update is not complete, and for that of no update.
abbrev pub kept_moment : ℕ → KeyState → Option ℕ
kept_moment s k = if s == 0 then None else option_map (λ event. earliest event (stamps_from s k.stamps)) (completion (at_stamp s k).evidence)
