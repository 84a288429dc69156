-- Views that follow one another by one change each.
use Rattle.std.specs.Prelude.{◌≡◌, ⊤, ◌+◌, ◌≤◌, ℕ, List, [], ◌∷◌, None, true}
use Rattle.hk_base.specs.declared.view.View.{View}
use Rattle.hk_base.specs.declared.view.Change.{Change}
use Rattle.hk_base.specs.declared.stamp.NodeId.{NodeId}
use Rattle.hk_base.specs.View.{IsView, is_member}
use Rattle.hk_paxos.specs.Run.{In}
use Rattle.hk_manager.specs.Changes.{changed, change_fault}

-- The view after is the one before with one change that it can have: a member is dropped, or the node of the next number is added.
pub record IsChange (before after : View) : Type 0 where
  pub change : Change
  pub possible : change_fault before change ≡ None
  pub made : after ≡ changed before change

-- each view is a change of the one before it
abbrev pub AreChanges : View → List View → Type 0
AreChanges view [] = ⊤
AreChanges view (next ∷ later) = IsChange view next × AreChanges next later

-- The first view has the epoch 1, and each later one is a change of the one before it. A change has the next epoch, so the epochs
-- are 1, 2, 3 and so on.
abbrev pub IsChain : List View → Type 0
IsChain [] = ⊥
IsChain (first ∷ later) = (first.epoch ≡ 1) × AreChanges first later

-- the view is a change of that of the epoch before, which is among these
pub record Follows (views : List View) (epoch : ℕ) (view : View) : Type 0 where
  pub before : View
  pub among : In views before
  pub earlier : before.epoch + 1 ≡ epoch
  pub change : IsChange before view

-- A node that is a member of two views is a member of each view between: one that a view leaves out is in no later one.
abbrev pub LeavesForGood : List View → Type 0
LeavesForGood views = (u v w : View) (node : NodeId) → In views u → In views v → In views w → u.epoch ≤ v.epoch → v.epoch ≤ w.epoch → is_member node u.members ≡ true → is_member node w.members ≡ true → is_member node v.members ≡ true

-- So it is in every chain, since numbers of nodes are never given again.
abbrev pub NeverReturns : Type 0
NeverReturns = (first : View) (later : List View) → IsView first → IsChain (first ∷ later) → LeavesForGood (first ∷ later)
