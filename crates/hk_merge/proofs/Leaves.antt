-- A Read is answered at once and leaves its node; what other events leave of it.
use Rattle.std.proofs.Common.{◌≡◌, ◌≢◌, ◌⊎◌, ◌+◌, ℕ, List, Bool, true, false, not, ◌&&◌, ◌==◌, if◌then◌else◌, nat_lt, Option, Some, None, refl, sym, ap, subst, ◌∙◌, inl, inr, unwrap_or, arith}
use Rattle.std.proofs.lemmas.Bool.{false≢true}
use Rattle.std.proofs.lemmas.Cmp.{nat_list_cmp_total, tied_itself}
use Rattle.hk_base.specs.declared.stamp.Stamp.{Stamp}
use Rattle.hk_base.specs.declared.stamp.NodeId.{NodeId}
use Rattle.hk_base.specs.declared.call.CallNo.{CallNo}
use Rattle.hk_base.specs.declared.call.Content.{Content}
use Rattle.hk_base.specs.declared.call.Op.{Op}
use Rattle.hk_base.specs.declared.call.Op.TheVariants.{Read}
use Rattle.hk_base.specs.declared.call.State.{State}
use Rattle.hk_base.specs.declared.call.State.TheVariants as State
use Rattle.hk_base.specs.declared.letter.Actor.{Actor}
use Rattle.hk_base.specs.declared.letter.Actor.TheVariants.{Node, Manager}
use Rattle.hk_base.specs.declared.letter.Letter.{Letter}
use Rattle.hk_base.specs.declared.letter.Body.{Body}
use Rattle.hk_base.specs.declared.letter.Body.TheVariants.{Inv, Ack, Val, CopyAsk, CopyGive, LeaseAsk, LeaseGive, Prepare, Promise, Accept, Accepted, Chosen, Activate}
use Rattle.hk_base.specs.Register.{act}
use Rattle.hk_copy.specs.Batches.{key_cmp}
use Rattle.hk_key.specs.declared.row.Row.{Row}
use Rattle.hk_base.specs.Stamp.{tag_of}
use Rattle.hk_key.specs.Table.{Done, first_row, begin, on_inv, on_ack, on_val, resend, replay, still}
use Rattle.hk_node.specs.declared.event.NodeEvent.TheVariants.{Call, Receive, Resend, Replay}
use Rattle.hk_node.specs.Rows.{Rows, find_row, row_at, is_touched, put_row, with_row}
use Rattle.hk_node.specs.Node.{NodeState, epoch_of, members_of, is_other}
use Rattle.hk_node.specs.Stepped.{Stepped, idle, row_step}
use Rattle.hk_node.specs.Calls.{kind_of, next_stamp, register_in, answers, at_limit, at_turn, at_state, at_lease, lease_end, called}
use Rattle.hk_node.specs.Copies.{is_next}
use Rattle.hk_node.specs.Steps.{on_found, received, is_addressed, receives_from, receives, heard}
use Rattle.hk_node.specs.Laws.{key_in}
use Rattle.hk_merge.specs.Reads.{read_in, read_at, read_answer, ReadsAreAnswered, IsServing, AsTo, ReadsAreOfTheRow, OthersStay}
use Rattle.hk_merge.proofs.Entries.{found_other, list_equal}

-- ---- a Read
read_changes_nothing : (row : Row) (node : NodeState) (call : CallNo) (key : List ℕ) (content : Option Content) → row.content ≡ content →
    at_turn (act Read (register_in row) 0).changed node call key Read row ≡ answers node key call (act Read (register_in row) 0).answer
read_changes_nothing row node call key None e = subst (λ (o : Option Content). at_turn (act Read (record { content = o; tag = (register_in row).tag }) 0).changed node call key Read row ≡ answers node key call (act Read (register_in row) 0).answer) (sym e) refl
read_changes_nothing row node call key (Some c) e = subst (λ (o : Option Content). at_turn (act Read (record { content = o; tag = (register_in row).tag }) 0).changed node call key Read row ≡ answers node key call (act Read (register_in row) 0).answer) (sym e) refl

pub reads_are_answered : ReadsAreAnswered
reads_are_answered node key call = by_lease (nat_lt (lease_end node) (node.clock + node.skew))
  where
    the_row : Row
    the_row = row_at key node.rows

    by_state : (state : State) → at_state state node call key Read the_row ≡ answers node key call (read_in state the_row)
    by_state State.Valid = read_changes_nothing the_row node call key the_row.content refl
    by_state State.Invalid = refl
    by_state State.Write = refl
    by_state State.Replay = refl
    by_state State.Trans = refl

    by_lease : (b : Bool) → at_lease b node call key Read ≡ answers node key call (read_at b node the_row)
    by_lease true = refl
    by_lease false = by_state the_row.state

pub reads_are_of_the_row : ReadsAreOfTheRow
reads_are_of_the_row key old new same =
    ap (λ (n : NodeState). read_answer n key) same.rest ∙ (by_lease (nat_lt (lease_end old) (old.clock + old.skew)) ∙ ap (λ (o : Option Row). read_at (nat_lt (lease_end old) (old.clock + old.skew)) old (unwrap_or o first_row)) same.row)
  where
    by_lease : (b : Bool) → read_at b (record old { rows = new.rows }) (row_at key new.rows) ≡ read_at b old (row_at key new.rows)
    by_lease true = refl
    by_lease false = refl

-- ---- what an event leaves
pub as_to_itself : (key : List ℕ) (node : NodeState) → AsTo key node node
as_to_itself key node = record { rest = refl; row = refl }

at_same : (key : List ℕ) (old new : NodeState) → new ≡ old → AsTo key old new
at_same key old new e = subst (λ (n : NodeState). AsTo key old n) (sym e) (as_to_itself key old)

other_row : (key k : List ℕ) (row : Row) (rows : Rows) → key ≢ k → find_row key (with_row k row rows) ≡ find_row key rows
other_row key k row rows ne = by_touch (is_touched row)
  where
    by_touch : (b : Bool) → find_row key (if b then put_row k row rows else rows) ≡ find_row key rows
    by_touch true = found_other key_cmp list_equal (tied_itself nat_list_cmp_total) key k row rows ne
    by_touch false = refl

module _ (node : NodeState) (key : List ℕ) where
  abbrev As : Stepped → Type 0
  As stepped = AsTo key node stepped.node

  by_row : (k : List ℕ) (done : Done) → key ≢ k → As (row_step node k done)
  by_row k done ne = record { rest = refl; row = other_row key k done.row node.rows ne }

  by_if : (b : Bool) (stepped : Stepped) → As stepped → As (if b then stepped else idle node)
  by_if true stepped h = h
  by_if false stepped h = as_to_itself key node

  by_found : (o : Option Row) (k : List ℕ) (step : Row → Done) → key ≢ k → As (on_found o node k step)
  by_found None k step ne = as_to_itself key node
  by_found (Some row) k step ne = by_row k (step row) ne

  by_call : (call : CallNo) (k : List ℕ) (op : Op) → key ≢ k → As (called node call k op)
  by_call call k op ne = by_lease (nat_lt (lease_end node) (node.clock + node.skew))
    where
      the_row : Row
      the_row = row_at k node.rows

      by_limit : (o : Option Stamp) → As (at_limit o node call k op the_row)
      by_limit None = as_to_itself key node
      by_limit (Some s) = by_row k (begin node.id (members_of node) (record { call = call; answer = (act op (register_in the_row) (tag_of s)).answer }) s (kind_of op) (act op (register_in the_row) (tag_of s)).register.content) ne

      by_turn : (b : Bool) → As (at_turn b node call k op the_row)
      by_turn false = as_to_itself key node
      by_turn true = by_limit (next_stamp (kind_of op) the_row.stamp node.id)

      by_state : (state : State) → As (at_state state node call k op the_row)
      by_state State.Valid = by_turn (act op (register_in the_row) 0).changed
      by_state State.Invalid = as_to_itself key node
      by_state State.Write = as_to_itself key node
      by_state State.Replay = as_to_itself key node
      by_state State.Trans = as_to_itself key node

      by_lease : (b : Bool) → As (at_lease b node call k op)
      by_lease true = as_to_itself key node
      by_lease false = by_state the_row.state

  -- at a ready node a batch is dropped
  dropped : (b c : Bool) (stepped : Stepped) → b ≡ true → As (if not b && c then stepped else idle node)
  dropped true c stepped e = as_to_itself key node
  dropped false c stepped e = absurd (false≢true e)

  key_differs : (k : List ℕ) → Some k ≢ Some key → key ≢ k
  key_differs k ne e = ne (ap (λ (x : List ℕ). Some x) (sym e))

  by_body : (body : Body) (from : NodeId) → node.ready ≡ true → key_in body ≢ Some key → As (received body node from)
  by_body (Inv k s kind content) from ready ne = by_row k (on_inv (row_at k node.rows) from s kind content) (key_differs k ne)
  by_body (Ack k s top) from ready ne = by_found (find_row k node.rows) k (λ row. on_ack node.id (members_of node) row from s top) (key_differs k ne)
  by_body (Val k s) from ready ne = by_found (find_row k node.rows) k (λ row. still (on_val row s)) (key_differs k ne)
  by_body (CopyAsk after room) from ready ne = by_if _ _ (as_to_itself key node)
  by_body (CopyGive after done items) from ready ne = dropped node.ready (is_next after node.cursor) _ ready
  by_body (LeaseAsk asked) from ready ne = as_to_itself key node
  by_body (LeaseGive end) from ready ne = as_to_itself key node
  by_body (Prepare ballot) from ready ne = as_to_itself key node
  by_body (Promise ballot vote) from ready ne = as_to_itself key node
  by_body (Accept ballot view) from ready ne = as_to_itself key node
  by_body (Accepted ballot) from ready ne = as_to_itself key node
  by_body (Chosen view) from ready ne = as_to_itself key node
  by_body (Activate view) from ready ne = as_to_itself key node

  -- no manager is there
  unmanaged : (b : Bool) (from managers : ℕ) (stepped : Stepped) → managers ≡ 0 → As (if b && nat_lt from managers then stepped else idle node)
  unmanaged b from managers stepped e = subst (λ (m : ℕ). As (if b && nat_lt from m then stepped else idle node)) (sym e) (subst (λ (c : Bool). As (if b && c then stepped else idle node)) (sym (none_below from)) (by_test b))
    where
      none_below : (n : ℕ) → nat_lt n 0 ≡ false
      none_below n = grind arith

      by_test : (c : Bool) → As (if c && false then stepped else idle node)
      by_test true = as_to_itself key node
      by_test false = as_to_itself key node

  by_letter : (letter : Letter) → IsServing node → key_in letter.body ≢ Some key → As (receives node letter)
  by_letter letter serving ne = by_sender letter.from
    where
      by_sender : (actor : Actor) → As (receives_from actor node letter)
      by_sender (Manager from) = unmanaged (is_addressed node letter.to) from node.managers (heard letter.body node from) serving.alone
      by_sender (Node from) = by_if (is_addressed node letter.to && ((letter.epoch == epoch_of node) && is_other node from)) (received letter.body node from) (by_body letter.body from serving.ready ne)

pub others_stay : OthersStay
others_stay node (Call call k op) key serving of (inl read) =
    at_same key node (called node call k op).node (ap (λ (o : Op). (called node call k o).node) read ∙ ap (λ (s : Stepped). s.node) (reads_are_answered node k call))
others_stay node (Call call k op) key serving of (inr ne) = by_call node key call k op (key_differs node key k ne)
others_stay node (Receive letter) key serving of (inl read) = absurd read
others_stay node (Receive letter) key serving of (inr ne) = by_letter node key letter serving ne
others_stay node (Resend k) key serving of (inl read) = absurd read
others_stay node (Resend k) key serving of (inr ne) = by_found node key (find_row k node.rows) k resend (key_differs node key k ne)
others_stay node (Replay k) key serving of (inl read) = absurd read
others_stay node (Replay k) key serving of (inr ne) = by_if node key node.ready (on_found (find_row k node.rows) node k (replay node.id (members_of node))) (by_found node key (find_row k node.rows) k (replay node.id (members_of node)) (key_differs node key k ne))
others_stay node event key serving of way = absurd of
