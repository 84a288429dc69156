-- The world's own invariant, and what is kept of a key's trace beside the register's invariant.
use Rattle.std.specs.Prelude.{◌≡◌, ◌⊎◌, ℕ, true, false, not, List, [], ◌∷◌, ◌++◌, ◌+◌, ◌<◌, ◌≤◌, ◌==◌, Some, IfSome, IsTrue, ⊤}
use Rattle.std.specs.List.{AllByRecursion, filter}
use Rattle.hk_base.specs.declared.stamp.Stamp.{Stamp}
use Rattle.hk_base.specs.declared.stamp.NodeId.{NodeId}
use Rattle.hk_base.specs.declared.letter.Body.{Body}
use Rattle.hk_base.specs.declared.letter.Body.TheVariants.{Inv, CopyGive, Activate}
use Rattle.hk_base.specs.declared.letter.Letter.{Letter}
use Rattle.hk_base.specs.declared.view.View.{View}
use Rattle.hk_base.specs.View.{member_numbers}
use Rattle.hk_history.specs.History.{is_answered}
use Rattle.hk_copy.specs.Batches.{IsRising, is_after}
use Rattle.hk_key.specs.declared.row.Pending.{Pending}
use Rattle.hk_key.specs.declared.row.Row.{Row}
use Rattle.hk_register.specs.Machine.{In, Mark, Item, call_of}
use Rattle.hk_node.specs.Rows.{row_at}
use Rattle.hk_node.specs.Node.{NodeState}
use Rattle.hk_world.specs.World.{WorldState, process_at, manager_at, numbered, last_view}
use Rattle.hk_world.specs.declared.process.ManagerProcess.{ManagerProcess}
use Rattle.hk_world.specs.Sound.{IsWorld}
use Rattle.hk_effects.specs.Projection.{Trace, node_at}

-- nodes are 0 to 65,535
abbrev pub IsSmall : Stamp → Type 0
IsSmall s = s.node < 65536

-- a pending update's call is one of those so far, and the answer that is kept for it is one of a call that is answered
pub record IsPendingOf (calls : ℕ) (p : Pending) : Type 0 where
  pub small : IsSmall p.stamp
  pub call : IfSome p.reply (λ r. r.call.0 ≤ calls)
  pub answer : IfSome p.reply (λ r. IsTrue (is_answered (Some r.answer)))

pub record IsRowOf (calls : ℕ) (row : Row) : Type 0 where
  pub small : IsSmall row.stamp
  pub pending : IfSome row.pending (IsPendingOf calls)

-- the view with one member dropped
abbrev pub IsDropped : View → View → Type 0
IsDropped u v = (id : NodeId) × In (member_numbers u.members) id.0 × (v ≡ record { epoch = u.epoch + 1; members = filter (λ m. not (m.0 == id.0)) u.members; next = u.next })

-- the view with the node of the next number added
abbrev pub IsAdded : View → View → Type 0
IsAdded u v = v ≡ record { epoch = u.epoch + 1; members = u.members ++ record { 0 = u.next } ∷ []; next = u.next + 1 }

-- Agreed views: their epochs go from 1 on without a gap, each is the one before with one change, and a number that left is in no later view.
pub record IsChain (views : List View) : Type 0 where
  pub last : In views (last_view views)
  pub within : (v : View) → In views v → (1 ≤ v.epoch) × (v.epoch ≤ (last_view views).epoch)
  pub each : (e : ℕ) → 1 ≤ e → e ≤ (last_view views).epoch → (v : View) × In views v × (v.epoch ≡ e)
  pub one : (u v : View) → In views u → In views v → u.epoch ≡ v.epoch → u ≡ v
  pub chain : (u v w : View) → In views u → In views v → In views w → u.epoch ≤ v.epoch → v.epoch ≤ w.epoch →
      (n : ℕ) → In (member_numbers u.members) n → In (member_numbers w.members) n → In (member_numbers v.members) n
  pub change : (u v : View) → In views u → In views v → v.epoch ≡ u.epoch + 1 → IsDropped u v ⊎ IsAdded u v
  pub below : (v : View) → In views v → (n : ℕ) → In (member_numbers v.members) n → n < (last_view views).next

-- a node has an agreed view, and its rows are of this world's nodes and calls
pub record IsNodeOf (views : List View) (calls : ℕ) (x : NodeState) : Type 0 where
  pub small : x.id.0 < 65536
  pub agreed : (v : View) → x.view ≡ Some v → In views v
  pub row : (key : List ℕ) → IsRowOf calls (row_at key x.rows)

-- the stamps of INVs and of batches are of nodes, and a batch has rising keys behind its bound
abbrev pub IsTold : Body → Type 0
IsTold (Inv key s kind content) = IsSmall s
IsTold (CopyGive after done items) = AllByRecursion (λ item. is_after after item ≡ true) items × IsRising items × AllByRecursion (λ item. IsSmall item.stamp) items
IsTold body = ⊤

pub record IsOwn (w : WorldState) : Type 0 where
  pub sound : IsWorld w
  pub views : IsChain w.views
  -- views are numbered by their epochs
  pub epochs : (e : ℕ) (v : View) → numbered e w.views ≡ Some v → v.epoch ≡ e
  pub node : (id : ℕ) (x : NodeState) → node_at id w.processes ≡ Some x → IsNodeOf w.views w.calls x
  pub letter : (l : Letter) → In w.letters l → IsTold l.body
  -- what a manager lets begin is one of the views, and so is what it holds
  pub begun : (l : Letter) (v : View) → In w.letters l → l.body ≡ Activate v → In w.views v
  pub held : (m : ℕ) (p : ManagerProcess) → manager_at m w.managers ≡ Some p → In w.views p.manager.held

-- What the agreement of managers gives: the views are a chain, numbered by their epochs, and have each view that a manager holds.
-- Without managers the world gives it by itself.
pub record IsLed (w : WorldState) : Type 0 where
  pub views : IsChain w.views
  pub epochs : (e : ℕ) (v : View) → numbered e w.views ≡ Some v → v.epoch ≡ e
  pub held : (m : ℕ) (p : ManagerProcess) → manager_at m w.managers ≡ Some p → In w.views p.manager.held

-- V has the members of each agreed view
abbrev pub Agrees : WorldState → (ℕ → List ℕ) → Type 0
Agrees w V = (v : View) → In w.views v → member_numbers v.members ≡ V v.epoch

-- The guard, at a moment: each live node that the view of this epoch leaves out, and that was a member before, has no lease any
-- more.
abbrev pub Ended : WorldState → ℕ → Type 0
Ended w e =
    (id : ℕ) (x : NodeState) → process_at (record { 0 = id }) w.processes ≡ Some (record { node = x; crashed = false }) → (u v : View) → In w.views u → In w.views v →
    u.epoch < e → v.epoch ≡ e → In (member_numbers u.members) id → (In (member_numbers v.members) id → ⊥) → x.granted < x.clock + x.skew

-- an epoch in which some node covered a stamp is an agreed view's, and that view is guarded
pub record IsGuarded (w : WorldState) (k : Mark) : Type 0 where
  pub upto : k.epoch ≤ (last_view w.views).epoch
  pub ended : Ended w k.epoch

pub record IsTrace (t : Trace) : Type 0 where
  pub guarded : (k : Mark) → In t.marks k → IsGuarded t.world k
  pub numbered : (i : Item) → In t.history i → call_of i ≤ t.world.calls
