-- What a step of a node makes of what it heard of managers, and what of its letters bears on leases.
use Rattle.std.proofs.Common.{◌≡◌, ◌⊎◌, ◌+◌, ◌&&◌, ℕ, List, [], ◌∷◌, ◌++◌, Bool, true, false, cond, not, Option, Some, None, refl, inl, inr, ltb}
use Rattle.std.specs.List.{AllByRecursion, flat_map}
use Rattle.std.specs.Option.{option_or}
use Rattle.hk_base.specs.declared.stamp.Stamp.{Stamp}
use Rattle.hk_base.specs.declared.stamp.NodeId.{NodeId}
use Rattle.hk_base.specs.declared.call.CallNo.{CallNo}
use Rattle.hk_base.specs.declared.call.Op.{Op}
use Rattle.hk_base.specs.declared.call.State.{State}
use Rattle.hk_base.specs.declared.call.State.TheVariants as State
use Rattle.hk_base.specs.declared.letter.Body.{Body}
use Rattle.hk_base.specs.declared.letter.Body.TheVariants.{Inv, Ack, Val, CopyAsk, CopyGive, LeaseAsk, LeaseGive, Prepare, Promise, Accept, Accepted, Chosen, Activate}
use Rattle.hk_base.specs.declared.letter.Letter.{Letter}
use Rattle.hk_base.specs.declared.view.View.{View}
use Rattle.hk_base.specs.Register.{act}
use Rattle.hk_copy.specs.Batches.{is_nil, last_key}
use Rattle.hk_key.specs.declared.row.Row.{Row}
use Rattle.hk_key.specs.declared.row.Pending.{Pending}
use Rattle.hk_key.specs.declared.out.Sending.{Sending}
use Rattle.hk_key.specs.declared.out.What.{What}
use Rattle.hk_key.specs.declared.out.What.TheVariants as What
use Rattle.hk_key.specs.Table.{Done, replay}
use Rattle.hk_council.specs.Council.{IsNode}
use Rattle.hk_node.specs.Rows.{Rows, find_row, row_at}
use Rattle.hk_node.specs.Node.{NodeState, epoch_of, members_of, is_other}
use Rattle.hk_base.specs.View.{is_member}
use Rattle.hk_node.specs.Sends.{letters_to, pending_body, body_of, addressees, sent}
use Rattle.hk_node.specs.Stepped.{Stepped, idle, row_step}
use Rattle.hk_node.specs.Calls.{kind_of, next_stamp, register_in, at_limit, at_turn, at_state, lease_end, at_lease, called}
use Rattle.hk_node.specs.Copies.{asks_copy, batch_behind, merged, is_next}
use Rattle.hk_node.specs.Heard.{raised, is_greatest, has_majority}
use Rattle.hk_node.specs.Steps.{on_found, replayed, viewed, installed_in, installs, installs_by_majority, activated_by, received}

-- a letter that neither asks for a lease, nor grants one, nor lets a view begin
abbrev pub IsPlain : Body → Type 0
IsPlain (LeaseAsk asked) = ⊥
IsPlain (LeaseGive end) = ⊥
IsPlain (Activate view) = ⊥
IsPlain body = Unit

abbrev pub ArePlain : List Letter → Type 0
ArePlain letters = AllByRecursion (λ l. IsPlain l.body) letters

-- letters of nodes
abbrev pub FromNodes : List Letter → Type 0
FromNodes letters = AllByRecursion (λ l. IsNode l.from) letters

-- nothing was heard of managers
pub record IsQuiet (x : NodeState) (s : Stepped) : Type 0 where
  pub ends : s.node.ends ≡ x.ends
  pub granted : s.node.granted ≡ x.granted
  pub activated : s.node.activated ≡ x.activated
  pub view : s.node.view ≡ x.view
  pub letters : ArePlain s.letters
  pub nodes : FromNodes s.letters

pub idle_quiet : (x : NodeState) → IsQuiet x (idle x)
idle_quiet x = record { ends = refl; granted = refl; activated = refl; view = refl; letters = tt; nodes = tt }

-- ---- letters of rows
letters_plain : (x : NodeState) (body : Body) (to : List NodeId) → IsPlain body → ArePlain (letters_to x body to)
letters_plain x body [] plain = tt
letters_plain x body (n ∷ to) plain = (plain, letters_plain x body to plain)

body_plain : (key : List ℕ) (row : Row) (what : What) → IsPlain (body_of key row what)
body_plain key row What.InvRow = tt
body_plain key row What.InvPending = at row.pending
  where
    at : (o : Option Pending) → IsPlain (pending_body key row o)
    at None = tt
    at (Some p) = tt
body_plain key row (What.Ack s top) = tt
body_plain key row (What.Val s) = tt

sent_plain : (x : NodeState) (key : List ℕ) (row : Row) (o : Option Sending) → ArePlain (sent x key row o)
sent_plain x key row None = tt
sent_plain x key row (Some sending) = letters_plain x (body_of key row sending.what) (addressees x row sending.aim) (body_plain key row sending.what)

letters_nodes : (x : NodeState) (body : Body) (to : List NodeId) → FromNodes (letters_to x body to)
letters_nodes x body [] = tt
letters_nodes x body (n ∷ to) = (tt, letters_nodes x body to)

sent_nodes : (x : NodeState) (key : List ℕ) (row : Row) (o : Option Sending) → FromNodes (sent x key row o)
sent_nodes x key row None = tt
sent_nodes x key row (Some sending) = letters_nodes x (body_of key row sending.what) (addressees x row sending.aim)

row_quiet : (x : NodeState) (key : List ℕ) (done : Done) → IsQuiet x (row_step x key done)
row_quiet x key done = record { ends = refl; granted = refl; activated = refl; view = refl; letters = sent_plain x key done.row done.out.send; nodes = sent_nodes x key done.row done.out.send }

pub found_quiet : (x : NodeState) (key : List ℕ) (step : Row → Done) (o : Option Row) → IsQuiet x (on_found o x key step)
found_quiet x key step None = idle_quiet x
found_quiet x key step (Some r) = row_quiet x key (step r)

pub given_quiet : (x : NodeState) (s : Stepped) (b : Bool) → IsQuiet x s → IsQuiet x (cond b s (idle x))
given_quiet x s true q = q
given_quiet x s false q = idle_quiet x

pub called_quiet : (x : NodeState) (call : CallNo) (key : List ℕ) (op : Op) → IsQuiet x (called x call key op)
called_quiet x call key op = by_lease (ltb (lease_end x) (x.clock + x.skew))
  where
    by_limit : (o : Option Stamp) → IsQuiet x (at_limit o x call key op (row_at key x.rows))
    by_limit None = record { ends = refl; granted = refl; activated = refl; view = refl; letters = tt; nodes = tt }
    by_limit (Some s) = row_quiet x key _

    by_turn : (b : Bool) → IsQuiet x (at_turn b x call key op (row_at key x.rows))
    by_turn true = by_limit (next_stamp (kind_of op) (row_at key x.rows).stamp x.id)
    by_turn false = record { ends = refl; granted = refl; activated = refl; view = refl; letters = tt; nodes = tt }

    by_state : (s : State) → IsQuiet x (at_state s x call key op (row_at key x.rows))
    by_state State.Valid = by_turn (act op (register_in (row_at key x.rows)) 0).changed
    by_state State.Invalid = record { ends = refl; granted = refl; activated = refl; view = refl; letters = tt; nodes = tt }
    by_state State.Write = record { ends = refl; granted = refl; activated = refl; view = refl; letters = tt; nodes = tt }
    by_state State.Replay = record { ends = refl; granted = refl; activated = refl; view = refl; letters = tt; nodes = tt }
    by_state State.Trans = record { ends = refl; granted = refl; activated = refl; view = refl; letters = tt; nodes = tt }

    by_lease : (b : Bool) → IsQuiet x (at_lease b x call key op)
    by_lease true = record { ends = refl; granted = refl; activated = refl; view = refl; letters = tt; nodes = tt }
    by_lease false = by_state (row_at key x.rows).state

pub replayed_quiet : (x : NodeState) (key : List ℕ) → IsQuiet x (replayed x key)
replayed_quiet x key = given_quiet x (on_found (find_row key x.rows) x key (replay x.id (members_of x))) x.ready (found_quiet x key (replay x.id (members_of x)) (find_row key x.rows))

told_quiet : (x : NodeState) (body : Body) (to : NodeId) → IsPlain body → IsQuiet x (record { node = x; letters = letters_to x body (to ∷ []); told = []; installed = None })
told_quiet x body to plain = record { ends = refl; granted = refl; activated = refl; view = refl; letters = letters_plain x body (to ∷ []) plain; nodes = letters_nodes x body (to ∷ []) }

pub asks_quiet : (x : NodeState) (from : NodeId) (room : ℕ) → IsQuiet x (asks_copy x from room)
asks_quiet x from room = given_quiet x (record { node = x; letters = letters_to x (CopyAsk x.cursor room) (from ∷ []); told = []; installed = None }) (not x.ready && is_other x from) (told_quiet x (CopyAsk x.cursor room) from tt)

pub received_quiet : (body : Body) (x : NodeState) (from : NodeId) → IsQuiet x (received body x from)
received_quiet (Inv k s kind content) x from = row_quiet x k _
received_quiet (Ack k s top) x from = found_quiet x k _ (find_row k x.rows)
received_quiet (Val k s) x from = found_quiet x k _ (find_row k x.rows)
received_quiet (CopyAsk after room) x from = given_quiet x (record { node = x; letters = letters_to x (CopyGive after (is_nil (batch_behind x after room).left) (batch_behind x after room).taken) (from ∷ []); told = []; installed = None }) x.ready
    (told_quiet x (CopyGive after (is_nil (batch_behind x after room).left) (batch_behind x after room).taken) from tt)
received_quiet (CopyGive after done items) x from = given_quiet x (record { node = record x { ready = done; cursor = option_or (last_key items) x.cursor; rows = merged items x.rows }; letters = []; told = []; installed = None }) (not x.ready && is_next after x.cursor)
    (record { ends = refl; granted = refl; activated = refl; view = refl; letters = tt; nodes = tt })
received_quiet (LeaseAsk asked) x from = idle_quiet x
received_quiet (LeaseGive end) x from = idle_quiet x
received_quiet (Prepare ballot) x from = idle_quiet x
received_quiet (Promise ballot vote) x from = idle_quiet x
received_quiet (Accept ballot view) x from = idle_quiet x
received_quiet (Accepted ballot) x from = idle_quiet x
received_quiet (Chosen view) x from = idle_quiet x
received_quiet (Activate view) x from = idle_quiet x

-- ---- a view that a manager let begin
all_plain : (x : NodeState) (rows : Rows) → ArePlain (flat_map (λ r. sent x r.0 (viewed x r).row (viewed x r).out.send) rows)
all_plain x [] = tt
all_plain x (r ∷ rows) = joined (sent x r.0 (viewed x r).row (viewed x r).out.send) (flat_map (λ r. sent x r.0 (viewed x r).row (viewed x r).out.send) rows) (sent_plain x r.0 (viewed x r).row (viewed x r).out.send) (all_plain x rows)
  where
    joined : (a b : List Letter) → ArePlain a → ArePlain b → ArePlain (a ++ b)
    joined [] b p q = q
    joined (l ∷ a) b p q = (p.0, joined a b p.1 q)

all_nodes : (x : NodeState) (rows : Rows) → FromNodes (flat_map (λ r. sent x r.0 (viewed x r).row (viewed x r).out.send) rows)
all_nodes x [] = tt
all_nodes x (r ∷ rows) = joined (sent x r.0 (viewed x r).row (viewed x r).out.send) (flat_map (λ r. sent x r.0 (viewed x r).row (viewed x r).out.send) rows) (sent_nodes x r.0 (viewed x r).row (viewed x r).out.send) (all_nodes x rows)
  where
    joined : (a b : List Letter) → FromNodes a → FromNodes b → FromNodes (a ++ b)
    joined [] b p q = q
    joined (l ∷ a) b p q = (p.0, joined a b p.1 q)

-- it is noted, or passed over; and installed where a majority let it begin
pub record IsHeard (x : NodeState) (m : ℕ) (view : View) (s : Stepped) : Type 0 where
  pub ends : s.node.ends ≡ x.ends
  pub granted : s.node.granted ≡ x.granted
  pub activated : (s.node.activated ≡ x.activated) ⊎ (s.node.activated ≡ raised m view.epoch x.activated)
  pub view_now : (s.node.view ≡ x.view) ⊎ ((s.node.view ≡ Some view) × (has_majority view.epoch s.node.activated ≡ true))
  pub letters : ArePlain s.letters
  pub nodes : FromNodes s.letters

pub activated_heard : (x : NodeState) (m : ℕ) (view : View) → IsHeard x m view (activated_by x m view)
activated_heard x m view = by_greatest (is_greatest view.epoch x.activated)
  where
    after : List ℕ
    after = raised m view.epoch x.activated

    noted : NodeState
    noted = record x { activated = after }

    rests : IsHeard x m view (idle noted)
    rests = record { ends = refl; granted = refl; activated = inr refl; view_now = inl refl; letters = tt; nodes = tt }

    by_later : (b : Bool) → has_majority view.epoch after ≡ true → IsHeard x m view (cond b (installed_in (record noted { view = Some view }) view.epoch) (idle noted))
    by_later true many = record { ends = refl; granted = refl; activated = inr refl; view_now = inr (refl, many); letters = all_plain (record noted { view = Some view }) x.rows; nodes = all_nodes (record noted { view = Some view }) x.rows }
    by_later false many = rests

    by_majority : (b : Bool) → has_majority view.epoch after ≡ b → IsHeard x m view (cond b (installs noted view) (idle noted))
    by_majority true many = by_later (ltb (epoch_of x) view.epoch && is_member x.id view.members) many
    by_majority false many = rests

    by_greatest : (b : Bool) → IsHeard x m view (cond b (installs_by_majority (record x { activated = raised m view.epoch x.activated }) view) (idle x))
    by_greatest true = by_majority (has_majority view.epoch after) refl
    by_greatest false = record { ends = refl; granted = refl; activated = inl refl; view_now = inl refl; letters = tt; nodes = tt }
