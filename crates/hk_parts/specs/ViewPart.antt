-- The invariant's part on epochs, leases and copies.
use Rattle.std.specs.Prelude.{◌≡◌, ◌⊎◌, ℕ, Bool, true, false, List, [], ◌∷◌, ◌+◌, ◌<◌, ◌≤◌, Option, Some, ⊤}
use Rattle.hk_base.specs.declared.call.Content.{Content}
use Rattle.hk_base.specs.declared.letter.Actor.TheVariants as Actor
use Rattle.hk_base.specs.declared.letter.Body.{Body}
use Rattle.hk_base.specs.declared.letter.Body.TheVariants.{Inv, Ack, Val, CopyAsk, CopyGive}
use Rattle.hk_base.specs.declared.letter.CopyItem.{CopyItem}
use Rattle.hk_base.specs.declared.letter.Letter.{Letter}
use Rattle.hk_base.specs.declared.stamp.Kind.{Kind}
use Rattle.hk_base.specs.declared.view.View.{View}
use Rattle.hk_base.specs.View.{member_numbers}
use Rattle.hk_register.specs.Machine.{In}
use Rattle.hk_register.specs.Machine.Message.{Give}
use Rattle.hk_node.specs.Node.{NodeState, epoch_of}
use Rattle.hk_node.specs.Rows.{row_at}
use Rattle.hk_node.specs.Copies.{copy_of}
use Rattle.hk_event.specs.declared.event.Event.TheVariants.{Take}
use Rattle.hk_world.specs.World.{numbered}
use Rattle.hk_effects.specs.Projection.{Trace, project, traced, node_at, has_copied, covers}
use Rattle.hk_effects.specs.Own.{IsDropped, IsAdded, Ended}
use Rattle.hk_parts.specs.Moments.{Run, Moment, EventOf, Sent}
use Rattle.hk_parts.specs.Facts.{members_at, HasCovered}

-- the node has an agreed view, the only one of its epoch, and is a member of it
pub record HasView (t : Trace) (n : ℕ) (x : NodeState) (v : View) : Type 0 where
  pub agreed : In t.world.views v
  pub only : (u : View) → In t.world.views u → u.epoch ≡ v.epoch → u ≡ v
  pub member : In (member_numbers v.members) n

-- A letter of the register: an INV, an ACK, a VAL, or one of a copy. The others are those of leases and of managers.
abbrev pub IsOfReplicas : Body → Type 0
IsOfReplicas (Inv key s kind content) = ⊤
IsOfReplicas (Ack key s top) = ⊤
IsOfReplicas (Val key s) = ⊤
IsOfReplicas (CopyAsk after room) = ⊤
IsOfReplicas (CopyGive after done items) = ⊤
IsOfReplicas body = ⊥

-- the letter's sender was a member of the view of its epoch, and in that epoch when it sent it
pub record SentInEpoch (key : List ℕ) (run : Run) (t : Trace) (l : Letter) : Type 0 where
  pub sent : Sent key run l
  pub member : In (members_at t l.epoch) sent.id.0

-- The batch's giver was ready when it sent it, and each item was its row, that is Valid where the item says so.
pub record BatchTells (key : List ℕ) (run : Run) (l : Letter) (items : List CopyItem) : Type 0 where
  pub sent : Sent key run l
  pub ready : sent.node.ready ≡ true
  pub row : (i : CopyItem) → In items i → i ≡ copy_of (i.key, row_at i.key sent.node.rows)

-- By an event of the run the node took a letter of its epoch that was sent to it by this giver: a batch that begins at the node's
-- cursor and covers the key. The node had not copied the key before, and had it copied then.
pub record TookFrom (key : List ℕ) (run : Run) (n g : ℕ) : Type 0 where
  pub at : EventOf key run
  pub number : ℕ
  pub event : at.event ≡ Take number
  pub letter : Letter
  pub taken : numbered number at.was.world.letters ≡ Some letter
  pub from : letter.from ≡ Actor.Node (record { 0 = g })
  pub to : letter.to ≡ Actor.Node (record { 0 = n })
  pub node : NodeState
  pub there : node_at n at.was.world.processes ≡ Some node
  pub epoch : letter.epoch ≡ epoch_of node
  pub done : Bool
  pub items : List CopyItem
  pub body : letter.body ≡ CopyGive node.cursor done items
  pub covered : covers key node.cursor done items ≡ true
  pub not_yet : has_copied node key ≡ false
  pub now : ((project key (traced key at.was at.event at.accepted)).node n).copied ≡ true

-- On whose covers a copied row rests, for a view with these members: on the node's own where it is a member, and else on those on
-- which its giver's row rests.
abbrev pub RestsOn : List ℕ → Run → List ℕ → List ℕ → ℕ → ℕ → Type 0
RestsOn key run members [] n d = In members n × (d ≡ n)
RestsOn key run members (g ∷ givers) n d = (In members n → ⊥) × TookFrom key run n g × RestsOn key run members givers g d

-- Some member of view e has installed a later view, and the stamp is at least every stamp that it covered in epochs up to e. It is
-- the node itself, or its giver where that is a member, or its giver's giver, and so on.
pub record IsNotBelow (key : List ℕ) (run : Run) (t : Trace) (e n s : ℕ) : Type 0 where
  pub who : ℕ
  pub member : In (members_at t e) who
  pub later : e < ((project key t).node who).epoch
  pub covered : (f c : ℕ) → f ≤ e → HasCovered key t who f c → c ≤ s
  pub givers : List ℕ
  pub rests : RestsOn key run (members_at t e) givers n who

-- At the moment t of a run, of one key.
pub record ViewPart (key : List ℕ) (run : Run) (t : Trace) : Type 0 where
  -- 1. The view of the next epoch is the view with one member dropped, or its next number added. A number once dropped is in no
  -- later view. A node in an epoch has the one view of it and is its member. A node's epoch never falls.
  pub views_change : (u v : View) → In t.world.views u → In t.world.views v → v.epoch ≡ u.epoch + 1 → IsDropped u v ⊎ IsAdded u v
  pub dropped_for_good : (u v w : View) → In t.world.views u → In t.world.views v → In t.world.views w → u.epoch ≤ v.epoch → v.epoch ≤ w.epoch →
      (n : ℕ) → In (member_numbers u.members) n → (In (member_numbers v.members) n → ⊥) → In (member_numbers w.members) n → ⊥
  pub own_view : (n : ℕ) (x : NodeState) → node_at n t.world.processes ≡ Some x → (v : View) → x.view ≡ Some v → HasView t n x v
  pub epochs_rise : (past : Trace) → Moment key run past → (n : ℕ) → ((project key past).node n).epoch ≤ ((project key t).node n).epoch
  -- 2. Each INV, ACK, VAL, CopyAsk and CopyGive was sent by a member of the view of its epoch while it was in that epoch.
  pub senders : (l : Letter) → In t.world.letters l → IsOfReplicas l.body → SentInEpoch key run t l
  -- 3. For each view of an epoch e and each ready node in a later epoch: the node's row is not below what some member of view e, which
  -- has gone on, covered up to e. This is said of every ready node, whether it joined after e or before.
  pub ready_not_below : (n : ℕ) → ((project key t).node n).ready ≡ true → (e : ℕ) → 1 ≤ e → e < ((project key t).node n).epoch → IsNotBelow key run t e n ((project key t).node n).stamp
  -- 4. So it is of a node that is not ready, where its cursor has come to the key, and of a row in a batch.
  pub copied_not_below : (n : ℕ) → ((project key t).node n).copied ≡ true → (e : ℕ) → 1 ≤ e → e < ((project key t).node n).epoch → IsNotBelow key run t e n ((project key t).node n).stamp
  pub given_not_below : (m f s : ℕ) (kind : Kind) (content : Option Content) (valid : Bool) → In (project key t).letters (Give m f s kind content valid) → (e : ℕ) → 1 ≤ e → e < f → IsNotBelow key run t e m s
  -- 5. Each item of a batch was its giver's row in that epoch, the giver being ready; an item marked valid was Valid there.
  pub batches_tell : (l : Letter) (after : Option (List ℕ)) (done : Bool) (items : List CopyItem) → In t.world.letters l → l.body ≡ CopyGive after done items → BatchTells key run l items
  -- 6. Of each view that any node has installed so far: a live node that it leaves out, and that was a member before, has no lease.
  pub guarded : (past : Trace) → Moment key run past → (n : ℕ) → 1 ≤ ((project key past).node n).epoch → Ended t.world ((project key past).node n).epoch
