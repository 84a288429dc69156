-- What becomes of a call at its row.
use Rattle.std.specs.Prelude.{◌≡◌, ◌<◌, ℕ, List, Bool, true, false, ⊤}
use Rattle.hk_base.specs.declared.call.CallNo.{CallNo}
use Rattle.hk_base.specs.declared.call.Op.{Op}
use Rattle.hk_base.specs.declared.call.State.{State}
use Rattle.hk_base.specs.declared.call.State.TheVariants.{Valid, Invalid, Write, Replay, Trans}
use Rattle.hk_base.specs.Range.{IsWithin, Leaves}
use Rattle.hk_base.specs.Register.{act}
use Rattle.hk_key.specs.declared.row.Row.{Row}
use Rattle.hk_key.specs.Table.{begin}
use Rattle.hk_rmw.specs.declared.outcome.Turn.{Turn}
use Rattle.hk_rmw.specs.declared.outcome.Turn.TheVariants.{Change, Stay}
use Rattle.hk_node.specs.declared.node.step.Decision.{Decision}
use Rattle.hk_node.specs.declared.node.step.Decision.TheVariants.{Now, Begin}
use Rattle.hk_node.specs.Node.{NodeState, members_of}
use Rattle.hk_node.specs.Stepped.{Stepped, row_step}
use Rattle.hk_node.specs.Calls.{kind_of, register_in, answers}

-- The operation does this to the register that the row is. What it answers and leaves does not depend on the new tag, and it
-- leaves what its kind may leave.
abbrev pub Turns : Turn → Op → Row → Type 0
Turns (Stay answer) op row = ((act op (register_in row) 0).changed ≡ false) × ((act op (register_in row) 0).answer ≡ answer)
Turns (Change content answer) op row = ((act op (register_in row) 0).changed ≡ true) × Leaves (kind_of op) content
    × ((newtag : ℕ) → ((act op (register_in row) newtag).answer ≡ answer) × ((act op (register_in row) newtag).register.content ≡ content))

-- An update that begins at the row has a stamp within the limit, and of a later version, and leaves what its kind may leave.
abbrev pub IsFit : Row → Decision → Type 0
IsFit row (Now answer) = ⊤
IsFit row (Begin s kind content answer) = IsWithin s × (row.stamp.version < s.version) × Leaves kind content

abbrev pub is_invalid : State → Bool
is_invalid Invalid = true
is_invalid Valid = false
is_invalid Write = false
is_invalid Replay = false
is_invalid Trans = false

-- the step of a node by what becomes of the call
abbrev pub decided : Decision → NodeState → CallNo → List ℕ → Stepped
decided (Now answer) node call key = answers node key call answer
decided (Begin s kind content answer) node call key =
    row_step node key (begin node.id (members_of node) (record { call = call; answer = answer }) s kind content)
