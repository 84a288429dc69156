-- Rows worked by hand: what the table gives for some steps that tell most. Nodes 0, 1 and 2 are the members; the row is
-- node 0's.
use Rattle.std.specs.Prelude.{◌≡◌, ℕ, List, [], ◌∷◌, Some, None, true}
use Rattle.hk_base.specs.declared.stamp.Stamp.{Stamp}
use Rattle.hk_base.specs.declared.stamp.NodeId.{NodeId}
use Rattle.hk_base.specs.declared.stamp.Kind.{Kind}
use Rattle.hk_base.specs.declared.call.Content.{Content}
use Rattle.hk_base.specs.declared.letter.CopyItem.{CopyItem}
use Rattle.hk_base.specs.declared.call.State.TheVariants.{Valid, Invalid, Trans}
use Rattle.hk_base.specs.declared.call.Reply.{Reply}
use Rattle.hk_base.specs.declared.call.Answer.TheVariants.{Stored, Aborted}
use Rattle.hk_key.specs.declared.row.Row.{Row}
use Rattle.hk_key.specs.declared.out.Aim.TheVariants.{One, Others}
use Rattle.hk_key.specs.declared.out.What.TheVariants as What
use Rattle.hk_key.specs.Table.{first_row, begin, on_inv, on_ack, on_view, on_copy, Done, sent_out}

abbrev pub node : ℕ → NodeId
node n = record { 0 = n }

abbrev pub stamp : ℕ → ℕ → Stamp
stamp v n = record { version = v; node = n }

abbrev pub three : List NodeId
three = node 0 ∷ node 1 ∷ node 2 ∷ []

abbrev pub call : ℕ → Reply
call n = record { call = record { 0 = n }; answer = Stored }

abbrev pub content : Content
content = record { flags = 0; bytes = 53 ∷ [] }

abbrev pub begun : Kind → Row
begun kind = (begin (node 0) three (call 1) (stamp 2 0) kind (Some content)).row

-- Node 1 had a higher top: the write completes, and its key is Invalid.
abbrev pub one_higher : Done
one_higher = on_ack (node 0) three (on_ack (node 0) three (begun Kind.Write) (node 1) (stamp 2 0) (stamp 2 1)).row (node 2) (stamp 2 0) (stamp 2 0)

abbrev pub NotSettled : Type 0
NotSettled = (one_higher.row.state ≡ Invalid) × (one_higher.out ≡ record { send = None; reply = Some (call 1) })

-- Both had the stamp: the key is Valid, VAL goes to the others, and the call is answered.
abbrev pub both_exact : Done
both_exact = on_ack (node 0) three (on_ack (node 0) three (begun Kind.Write) (node 1) (stamp 2 0) (stamp 2 0)).row (node 2) (stamp 2 0) (stamp 2 0)

abbrev pub Settles : Type 0
Settles = (both_exact.row.state ≡ Valid) × (both_exact.out ≡ record { send = Some (record { aim = Others; what = What.Val (stamp 2 0) }); reply = Some (call 1) })

-- an INV above a write that waits: Trans, with the write kept
abbrev pub WaitsInTrans : Type 0
WaitsInTrans = ((on_inv (begun Kind.Write) (node 1) (stamp 2 1) Kind.Write (Some content)).row.state ≡ Trans) × ((on_inv (begun Kind.Write) (node 1) (stamp 2 1) Kind.Write (Some content)).row.pending ≡ (begun Kind.Write).pending)

-- an INV above a read-modify-write that waits: its call is answered Aborted
abbrev pub GivesUp : Type 0
GivesUp = ((on_inv (begun Kind.Rmw) (node 1) (stamp 2 1) Kind.Write (Some content)).row.state ≡ Invalid)
    × ((on_inv (begun Kind.Rmw) (node 1) (stamp 2 1) Kind.Write (Some content)).out.reply ≡ Some (record { call = record { 0 = 1 }; answer = Aborted (stamp 2 1) }))

-- a read-modify-write below the row is countered and not acknowledged
abbrev pub Counters : Type 0
Counters = (on_inv (begun Kind.Write) (node 1) (stamp 1 1) Kind.Rmw (Some content)).out ≡ sent_out (One (node 1)) What.InvRow

-- alone in a new view a pending update completes at once
abbrev pub AloneCompletes : Type 0
AloneCompletes = ((on_view (node 0) (node 0 ∷ []) (begun Kind.Write)).row.state ≡ Valid) × ((on_view (node 0) (node 0 ∷ []) (begun Kind.Write)).out.reply ≡ Some (call 1))

-- A joiner copies a row from which a read-modify-write took the content: it has the stamp, and holds nothing.
abbrev pub emptied : CopyItem
emptied = record { key = 107 ∷ []; stamp = stamp 3 1; kind = Kind.Rmw; valid = true; content = None }

abbrev pub CopiesNothing : Type 0
CopiesNothing = on_copy first_row emptied ≡ record first_row { stamp = stamp 3 1; kind = Kind.Rmw }
