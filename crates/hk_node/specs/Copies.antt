-- How a joiner copies the rows of a member.
use Rattle.std.specs.Prelude.{ℕ, List, [], ◌∷◌, map, Bool, true, false, Option, Some, None, not, ◌&&◌, if◌then◌else◌}
use Rattle.std.specs.Ordering.{is_eq}
use Rattle.std.specs.Option.{option_or}
use Rattle.hk_base.specs.declared.stamp.NodeId.{NodeId}
use Rattle.hk_base.specs.declared.call.State.{State}
use Rattle.hk_base.specs.declared.call.State.TheVariants.{Valid, Invalid, Write, Replay, Trans}
use Rattle.hk_base.specs.declared.letter.CopyItem.{CopyItem}
use Rattle.hk_base.specs.declared.letter.Body.{Body}
use Rattle.hk_base.specs.declared.letter.Body.TheVariants.{CopyAsk, CopyGive}
use Rattle.hk_copy.specs.Batches.{Cut, key_cmp, cut, is_nil, last_key, rows_after}
use Rattle.hk_copy.specs.declared.given.TheConstants.{MAX_BATCH_BYTES}
use Rattle.hk_key.specs.declared.row.Row.{Row}
use Rattle.hk_key.specs.Table.{on_copy}
use Rattle.hk_node.specs.Rows.{Rows, row_at, with_row}
use Rattle.hk_node.specs.Node.{NodeState, is_other}
use Rattle.hk_node.specs.Sends.{letters_to}
use Rattle.hk_node.specs.Stepped.{Stepped, idle}

-- one letter is sent, and nothing changes
abbrev pub told : NodeState → Body → NodeId → Stepped
told node body to = record { node = node; letters = letters_to node body (to ∷ []); told = []; installed = None }

-- A node that is not ready asks another member for the rows behind the last one that it has copied.
abbrev pub asks_copy : NodeState → NodeId → ℕ → Stepped
asks_copy node from room =
    if not node.ready && is_other node from
    then record { node = node; letters = letters_to node (CopyAsk node.cursor room) (from ∷ []); told = []; installed = None }
    else idle node

abbrev pub is_valid : State → Bool
is_valid Valid = true
is_valid Invalid = false
is_valid Write = false
is_valid Replay = false
is_valid Trans = false

-- a row as it is copied
abbrev pub copy_of : List ℕ × Row → CopyItem
copy_of r = record { key = r.0; stamp = r.1.stamp; kind = r.1.kind; valid = is_valid r.1.state; content = r.1.content }

abbrev pub copies_of : Rows → List CopyItem
copies_of rows = map copy_of rows

-- the batch behind a key
abbrev pub batch_behind : NodeState → Option (List ℕ) → ℕ → Cut
batch_behind node after room = cut room MAX_BATCH_BYTES (rows_after after (copies_of node.rows))

-- A ready node gives the next batch; another drops the request.
abbrev pub gives_copy : NodeState → NodeId → Option (List ℕ) → ℕ → Stepped
gives_copy node to after room =
    if node.ready
    then record { node = node; letters = letters_to node (CopyGive after (is_nil (batch_behind node after room).left) (batch_behind node after room).taken) (to ∷ []); told = []; installed = None }
    else idle node

-- the rows with these items taken, one after the other
abbrev pub merged : List CopyItem → Rows → Rows
merged [] rows = rows
merged (item ∷ items) rows = merged items (with_row item.key (on_copy (row_at item.key rows) item) rows)

-- the batch is of the rows behind the last one that was copied
abbrev pub is_next : Option (List ℕ) → Option (List ℕ) → Bool
is_next None None = true
is_next None (Some cursor) = false
is_next (Some after) None = false
is_next (Some after) (Some cursor) = is_eq (key_cmp after cursor)

-- A node that is not ready takes the next batch: its cursor moves to the last key, and it is ready where the batch was the
-- last. A ready node drops it, and so does one whose cursor stands elsewhere.
abbrev pub takes_copy : NodeState → Option (List ℕ) → Bool → List CopyItem → Stepped
takes_copy node after done items =
    if not node.ready && is_next after node.cursor
    then record {
      node = record node { ready = done; cursor = option_or (last_key items) node.cursor; rows = merged items node.rows };
      letters = [];
      told = [];
      installed = None;
    }
    else idle node
