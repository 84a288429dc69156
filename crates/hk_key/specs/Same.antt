-- What tells a row from what a step makes of it. The contents are left out, which may be a mebibyte each: a step that
-- takes another content takes another stamp with it.
use Rattle.std.specs.Prelude.{Bool, true, false, ◌==◌, ◌&&◌}
use Rattle.std.specs.Bool.{beq}
use Rattle.std.specs.Option.{option_eq}
use Rattle.std.specs.Cmp.Lexicographic.{pointwise}
use Rattle.hk_base.specs.declared.stamp.Stamp.{Stamp}
use Rattle.hk_base.specs.declared.call.State.{State}
use Rattle.hk_base.specs.declared.call.State.TheVariants.{Valid, Invalid, Write, Replay, Trans}
use Rattle.hk_key.specs.declared.acks.Ack.{Ack}
use Rattle.hk_key.specs.declared.row.Pending.{Pending}
use Rattle.hk_key.specs.declared.row.Row.{Row}

abbrev pub is_same_state : State → State → Bool
is_same_state Valid Valid = true
is_same_state Invalid Invalid = true
is_same_state Write Write = true
is_same_state Replay Replay = true
is_same_state Trans Trans = true
is_same_state a b = false

abbrev pub is_same_stamp : Stamp → Stamp → Bool
is_same_stamp a b = a.version == b.version && a.node == b.node

-- of one node, and both exact or both not
abbrev pub is_same_note : Ack → Ack → Bool
is_same_note a b = a.node.0 == b.node.0 && beq a.exact b.exact

-- updates that wait for the same acknowledgements
abbrev pub is_same_wait : Pending → Pending → Bool
is_same_wait a b = pointwise is_same_note a.acks b.acks

-- the same state, stamp and kept VAL, and a pending update in both or in neither, with the same notes
abbrev pub is_same_row : Row → Row → Bool
is_same_row a b = is_same_state a.state b.state && is_same_stamp a.stamp b.stamp && beq a.kept_val b.kept_val && option_eq is_same_wait a.pending b.pending
