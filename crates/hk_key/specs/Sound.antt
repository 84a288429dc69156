-- What every row of a node keeps: which states have a pending update, which of those have a call, stamps within limits,
-- what an update may leave, and notes of distinct other members of the node's view.
use Rattle.std.specs.Prelude.{◌≡◌, ◌≢◌, ℕ, ◌<◌, List, map, Option, Some, None, IfSome, nat_eq, true, ⊤}
use Rattle.std.specs.Option.{IsSome}
use Rattle.std.specs.List.{IsDistinct, AllByRecursion, list_any}
use Rattle.hk_base.specs.declared.stamp.Stamp.{Stamp}
use Rattle.hk_base.specs.declared.stamp.NodeId.{NodeId}
use Rattle.hk_base.specs.declared.stamp.Kind.TheVariants as Kind
use Rattle.hk_base.specs.declared.call.State.{State}
use Rattle.hk_base.specs.declared.call.State.TheVariants.{Valid, Invalid, Write, Replay, Trans}
use Rattle.hk_base.specs.Stamp.{tag_of}
use Rattle.hk_base.specs.View.{member_numbers}
use Rattle.hk_base.specs.Range.{IsWithin, Leaves}
use Rattle.hk_key.specs.declared.acks.Ack.{Ack}
use Rattle.hk_key.specs.declared.row.Pending.{Pending}
use Rattle.hk_key.specs.declared.row.Row.{Row}
use Rattle.hk_key.specs.Table.{first_row}

-- which states have a pending update, and how its stamp stands to the row's
abbrev pub Holds : State → Option Pending → Stamp → Type 0
Holds Valid pending s = pending ≡ None
Holds Invalid pending s = pending ≡ None
Holds Write None s = ⊥
Holds Write (Some p) s = tag_of p.stamp ≡ tag_of s
Holds Replay None s = ⊥
Holds Replay (Some p) s = tag_of p.stamp ≡ tag_of s
Holds Trans None s = ⊥
Holds Trans (Some p) s = tag_of p.stamp < tag_of s

-- Whose update waits: in Write and Trans the update of a call at this node, which is answered when it completes, and in
-- Trans a plain write; in Replay the update of no call here.
abbrev pub Waits : State → Option Pending → Type 0
Waits Valid pending = ⊤
Waits Invalid pending = ⊤
Waits Write pending = IfSome pending (λ p. IsSome p.reply)
Waits Replay pending = IfSome pending (λ p. p.reply ≡ None)
Waits Trans pending = IfSome pending (λ p. IsSome p.reply × (p.kind ≡ Kind.Write))

abbrev pub note_numbers : List Ack → List ℕ
note_numbers acks = map (λ ack. ack.node.0) acks

-- another member of the view
pub record IsOther (me : NodeId) (members : List NodeId) (node : NodeId) : Type 0 where
  pub other : node.0 ≢ me.0
  pub member : list_any (nat_eq node.0) (member_numbers members) ≡ true

-- distinct other members
pub record AreNotes (me : NodeId) (members : List NodeId) (acks : List Ack) : Type 0 where
  pub distinct : IsDistinct nat_eq (note_numbers acks)
  pub others : AllByRecursion (λ ack. IsOther me members ack.node) acks

-- A row holds what its update left, which is nothing only after a read-modify-write. At `0.0` no update has touched it:
-- it is the first row.
pub record IsLeft (row : Row) : Type 0 where
  pub untouched : tag_of row.stamp ≡ 0 → row ≡ first_row
  pub leaves : 0 < tag_of row.stamp → Leaves row.kind row.content

pub record IsUpdate (me : NodeId) (members : List NodeId) (p : Pending) : Type 0 where
  pub within : IsWithin p.stamp
  pub above : 0 < tag_of p.stamp
  pub leaves : Leaves p.kind p.content
  pub notes : AreNotes me members p.acks

pub record IsSound (me : NodeId) (members : List NodeId) (row : Row) : Type 0 where
  pub within : IsWithin row.stamp
  pub holds : Holds row.state row.pending row.stamp
  pub waits : Waits row.state row.pending
  pub left : IsLeft row
  pub update : IfSome row.pending (λ p. IsUpdate me members p)
