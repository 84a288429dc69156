-- What is to be sent again of an open key.
use Rattle.std.specs.Prelude.{ℕ, List, Bool, Option, Some, None, is_some, if◌then◌else◌}
use Rattle.std.specs.Option.{option_map}
use Rattle.hk_node.specs.declared.event.NodeEvent.{NodeEvent}
use Rattle.hk_node.specs.declared.event.NodeEvent.TheVariants as event
use Rattle.hk_node.specs.Rows.{Rows, row_at}
use Rattle.hk_node.specs.Open.{next_open}
use Rattle.hk_due.specs.declared.due.Due.{Due}
use Rattle.hk_due.specs.declared.due.Due.TheVariants.{Resend, Replay}
use Rattle.hk_node.specs.Index.{is_open_at}
use Rattle.hk_due.specs.Keys.{OpenState, next_due}

abbrev pub key_of : Due → List ℕ
key_of (Resend key) = key
key_of (Replay key) = key

abbrev pub event_of : Due → NodeEvent
event_of (Resend key) = event.Resend key
event_of (Replay key) = event.Replay key

-- whether an update is pending at the key's row
abbrev pub has_pending : Rows → List ℕ → Bool
has_pending rows key = is_some (row_at key rows).pending

-- An open row has an update that is pending, which is sent again, or is Invalid: then the update that made it so is.
abbrev pub due_at : Rows → List ℕ → Due
due_at rows key = if has_pending rows key then Resend key else Replay key

-- The least key behind one, or of all, that is open since a step up to this ticket. Where keys are missing it is the least one whose row is open, since
-- whatever step.
abbrev pub due_key : Option (List ℕ) → ℕ → OpenState → Rows → Option (List ℕ)
due_key after before keys rows = if keys.whole then next_due after before keys else next_open after rows

abbrev pub due_of : Option (List ℕ) → ℕ → OpenState → Rows → Option Due
due_of after before keys rows = option_map (due_at rows) (due_key after before keys rows)

-- what is to be sent again of a key, if its row is open
abbrev pub due_of_key : Rows → List ℕ → Option Due
due_of_key rows key = if is_open_at rows key then Some (due_at rows key) else None
