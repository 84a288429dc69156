-- What leases see of a node, and that its steps leave it but for clocks, leases and views.
use Rattle.std.proofs.Common.{◌≡◌, ℕ, Bool, true, false, cond, not, ◌&&◌, ◌||◌, ◌+◌, List, [], ◌∷◌, ◌<◌, refl, ap, subst, inl, inr, arith, Option, Some, None, eqb, ltb}
use Rattle.std.specs.List.{AllByRecursion, find}
use Rattle.std.specs.Option.{option_or}
use Rattle.std.proofs.lemmas.Bool.{lt-ltb}
use Rattle.hk_base.specs.declared.stamp.Stamp.{Stamp}
use Rattle.hk_base.specs.declared.stamp.NodeId.{NodeId}
use Rattle.hk_base.specs.declared.call.CallNo.{CallNo}
use Rattle.hk_base.specs.declared.call.Op.{Op}
use Rattle.hk_base.specs.declared.call.State.{State}
use Rattle.hk_base.specs.declared.call.State.TheVariants as State
use Rattle.hk_base.specs.declared.letter.Actor.{Actor}
use Rattle.hk_base.specs.declared.letter.Actor.TheVariants as Actor
use Rattle.hk_base.specs.declared.letter.Body.{Body}
use Rattle.hk_base.specs.declared.letter.Body.TheVariants.{Inv, Ack, Val, CopyAsk, CopyGive, LeaseAsk, LeaseGive, Prepare, Promise, Accept, Accepted, Chosen, Activate}
use Rattle.hk_base.specs.declared.letter.Letter.{Letter}
use Rattle.hk_base.specs.declared.view.View.{View}
use Rattle.hk_base.specs.View.{member_numbers, is_member}
use Rattle.hk_base.specs.Register.{act}
use Rattle.hk_copy.specs.Batches.{is_nil, last_key}
use Rattle.hk_key.specs.declared.row.Row.{Row}
use Rattle.hk_key.specs.Table.{Done, replay}
use Rattle.hk_register.specs.Machine.{In}
use Rattle.hk_node.specs.Rows.{find_row, row_at}
use Rattle.hk_node.specs.Node.{NodeState, epoch_of, members_of, is_other}
use Rattle.hk_node.specs.Sends.{letters_to}
use Rattle.hk_node.specs.Stepped.{Stepped, idle}
use Rattle.hk_node.specs.Calls.{kind_of, next_stamp, register_in, at_limit, at_turn, at_state, lease_end, at_lease, called}
use Rattle.hk_node.specs.Copies.{asks_copy, batch_behind, merged, is_next}
use Rattle.hk_node.specs.Steps.{on_found, replayed, asks_lease, received, is_addressed, receives_from, receives}
use Rattle.hk_world.proofs.Unmanaged.{unheard}
use Rattle.hk_world.specs.declared.process.Process.{Process}
use Rattle.hk_world.specs.World.{Processes, process_at}
use Rattle.hk_world.specs.Steps.{was_member}
use Rattle.hk_effects.proofs.Processes.{process_holds, member_of}

-- what leases see of a node
pub record Seen : Type 0 where
  pub granted : ℕ
  pub clock : ℕ
  pub skew : ℕ
  pub epoch : ℕ

abbrev pub seen_of : NodeState → Seen
seen_of x = record { granted = x.granted; clock = x.clock; skew = x.skew; epoch = epoch_of x }

abbrev pub SeesSame : NodeState → Stepped → Type 0
SeesSame x s = seen_of s.node ≡ seen_of x

pub found_seen : (x : NodeState) (key : List ℕ) (step : Row → Done) (o : Option Row) → SeesSame x (on_found o x key step)
found_seen x key step None = refl
found_seen x key step (Some r) = refl

given_seen : (x : NodeState) (s : Stepped) (b : Bool) → SeesSame x s → SeesSame x (cond b s (idle x))
given_seen x s true e = e
given_seen x s false e = refl

pub called_seen : (x : NodeState) (call : CallNo) (key : List ℕ) (op : Op) → SeesSame x (called x call key op)
called_seen x call key op = by_lease (ltb (lease_end x) (x.clock + x.skew))
  where
    by_limit : (o : Option Stamp) → SeesSame x (at_limit o x call key op (row_at key x.rows))
    by_limit None = refl
    by_limit (Some s) = refl

    by_turn : (b : Bool) → SeesSame x (at_turn b x call key op (row_at key x.rows))
    by_turn true = by_limit (next_stamp (kind_of op) (row_at key x.rows).stamp x.id)
    by_turn false = refl

    by_state : (s : State) → SeesSame x (at_state s x call key op (row_at key x.rows))
    by_state State.Valid = by_turn (act op (register_in (row_at key x.rows)) 0).changed
    by_state State.Invalid = refl
    by_state State.Write = refl
    by_state State.Replay = refl
    by_state State.Trans = refl

    by_lease : (b : Bool) → SeesSame x (at_lease b x call key op)
    by_lease true = refl
    by_lease false = by_state (row_at key x.rows).state

pub replayed_seen : (x : NodeState) (key : List ℕ) → SeesSame x (replayed x key)
replayed_seen x key = given_seen x (on_found (find_row key x.rows) x key (replay x.id (members_of x))) x.ready (found_seen x key (replay x.id (members_of x)) (find_row key x.rows))

pub asks_seen : (x : NodeState) (from : NodeId) (room : ℕ) → SeesSame x (asks_copy x from room)
asks_seen x from room = given_seen x (record { node = x; letters = letters_to x (CopyAsk x.cursor room) (from ∷ []); told = []; installed = None }) (not x.ready && is_other x from) refl

pub asks_lease_seen : (x : NodeState) (manager : ℕ) → SeesSame x (asks_lease x manager)
asks_lease_seen x manager = given_seen x (record { node = x; letters = record { epoch = epoch_of x; from = Actor.Node x.id; to = Actor.Manager manager; body = LeaseAsk x.clock } ∷ []; told = []; installed = None }) (ltb manager x.managers) refl

received_seen : (body : Body) (x : NodeState) (from : NodeId) → SeesSame x (received body x from)
received_seen (Inv k s kind content) x from = refl
received_seen (Ack k s top) x from = found_seen x k _ (find_row k x.rows)
received_seen (Val k s) x from = found_seen x k _ (find_row k x.rows)
received_seen (CopyAsk after room) x from = given_seen x (record { node = x; letters = letters_to x (CopyGive after (is_nil (batch_behind x after room).left) (batch_behind x after room).taken) (from ∷ []); told = []; installed = None }) x.ready refl
received_seen (CopyGive after done items) x from = given_seen x (record { node = record x { ready = done; cursor = option_or (last_key items) x.cursor; rows = merged items x.rows }; letters = []; told = []; installed = None }) (not x.ready && is_next after x.cursor) refl
received_seen (LeaseAsk asked) x from = refl
received_seen (LeaseGive end) x from = refl
received_seen (Prepare ballot) x from = refl
received_seen (Promise ballot vote) x from = refl
received_seen (Accept ballot view) x from = refl
received_seen (Accepted ballot) x from = refl
received_seen (Chosen view) x from = refl
received_seen (Activate view) x from = refl

pub receives_seen : (x : NodeState) (l : Letter) → x.managers ≡ 0 → SeesSame x (receives x l)
receives_seen x l none = by_from l.from
  where
    by_from : (a : Actor) → SeesSame x (receives_from a x l)
    by_from (Actor.Manager m) = ap (λ (s : Stepped). seen_of s.node) (unheard x l m none)
    by_from (Actor.Node from) = given_seen x (received l.body x from) (is_addressed x l.to && (eqb l.epoch (epoch_of x) && is_other x from)) (received_seen l.body x from)

-- a lease that has ended has still ended
abbrev pub StillEnded : NodeState → NodeState → Type 0
StillEnded x y = x.granted < x.clock + x.skew → y.granted < y.clock + y.skew

pub seen_ended : (x y : NodeState) → seen_of y ≡ seen_of x → StillEnded x y
seen_ended x y same h =
    let g = ap (λ (s : Seen). s.granted) same in
    let n = ap (λ (s : Seen). s.clock) same in
    let k = ap (λ (s : Seen). s.skew) same in omega arith

-- ---- the guard of an install
-- where a search finds none, no process that is there passes
none_passes : (t : NodeId × Process → Bool) (ps : Processes) → find t ps ≡ None → AllByRecursion (λ p. t p ≡ false) ps
none_passes t [] e = tt
none_passes t (p ∷ ps) e = by_test (t p) refl e (none_passes t ps)
  where
    by_test : (b : Bool) → t p ≡ b → cond b (Some p) (find t ps) ≡ None → (find t ps ≡ None → AllByRecursion (λ p. t p ≡ false) ps) → AllByRecursion (λ p. t p ≡ false) (p ∷ ps)
    by_test true e none more = cc
    by_test false e none more = (e, more none)

pub not_passing : (t : NodeId × Process → Bool) (ps : Processes) → find t ps ≡ None → (id : NodeId) (p : Process) → process_at id ps ≡ Some p → t (id, p) ≡ false
not_passing t ps none id p at = process_holds (λ q. t q ≡ false) id p ps (none_passes t ps none) at

-- a member of an agreed view of a lower epoch is found to have been one
pub was_member_of : (id : NodeId) (e : ℕ) (vs : List View) (u : View) → In vs u → u.epoch < e → In (member_numbers u.members) id.0 → was_member vs e id ≡ true
was_member_of id e [] u h low member = absurd h
was_member_of id e (v ∷ vs) u (inl is) low member =
    let l : ltb v.epoch e ≡ true = lt-ltb v.epoch e (subst (λ (x : View). x.epoch < e) is low) in
    let m : is_member id v.members ≡ true = member_of id v.members (subst (λ (x : View). In (member_numbers x.members) id.0) is member) in
    rw (l, m) refl
was_member_of id e (v ∷ vs) u (inr t) low member = or_true (ltb v.epoch e && is_member id v.members) (was_member vs e id) (was_member_of id e vs u t low member)
  where
    or_true : (a b : Bool) → b ≡ true → (a || b) ≡ true
    or_true true b e = refl
    or_true false b e = e
