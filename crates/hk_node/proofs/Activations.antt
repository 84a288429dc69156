-- What a node hears of managers, by the tests that it makes.
use Rattle.std.proofs.Common.{◌≡◌, ◌≤◌, ℕ, List, [], ◌∷◌, None, max, Bool, true, false, ◌&&◌, if◌then◌else◌, nat_lt, Result, OnOk, IfOk, sym, ap, subst, ◌∙◌}
use Rattle.hk_base.specs.declared.time.TheConstants.{MAX_TIME}
use Rattle.hk_base.specs.declared.letter.Actor.{Actor}
use Rattle.hk_base.specs.declared.letter.Actor.TheVariants.{Node, Manager}
use Rattle.hk_base.specs.declared.letter.Body.TheVariants.{LeaseAsk}
use Rattle.hk_base.specs.declared.letter.Letter.{Letter}
use Rattle.hk_base.specs.declared.memory.Memory.{Memory}
use Rattle.hk_base.specs.declared.view.View.{View}
use Rattle.hk_lease.specs.Ends.{granted_end}
use Rattle.hk_node.specs.declared.out.NodeOut.{NodeOut}
use Rattle.hk_node.specs.Node.{NodeState, epoch_of}
use Rattle.hk_base.specs.View.{is_member}
use Rattle.hk_node.specs.Heard.{raised, is_greatest, has_majority}
use Rattle.hk_node.specs.Stepped.{Stepped, idle}
use Rattle.hk_node.specs.Sound.{IsNode}
use Rattle.hk_node.specs.Steps.{installs, installs_by_majority, granted_by, activated_by, heard, is_addressed, receives_from, receives, asks_lease}
use Rattle.hk_node.specs.Outs.{IsOutOf}
use Rattle.hk_node.proofs.Keeps.{granted_kept}
use Rattle.hk_node.proofs.Installed.{installs_not}

-- what a step gives is what an equal one gives
pub made_as : (r : Result NodeOut Memory) (new : NodeState) (s t : Stepped) → t ≡ s → OnOk r (new ≡ s.node) → OnOk r (new ≡ t.node)
made_as r new s t same h = subst (λ (x : Stepped). OnOk r (new ≡ x.node)) (sym same) h

pub told_as : (r : Result NodeOut Memory) (old : NodeState) (s t : Stepped) → t ≡ s → IfOk r (λ out. IsOutOf out old s) → IfOk r (λ out. IsOutOf out old t)
told_as r old s t same h = subst (λ (x : Stepped). IfOk r (λ out. IsOutOf out old x)) (sym same) h

pub out_as : (out : NodeOut) (old : NodeState) (s t : Stepped) → t ≡ s → IsOutOf out old s → IsOutOf out old t
out_as out old s t same h = subst (λ (x : Stepped). IsOutOf out old x) (sym same) h

-- ---- an end that a manager granted
module _ (inside node : NodeState) (same : inside ≡ node) where
  pub end_kept : (manager end granted : ℕ) (ends : List ℕ) → end ≤ MAX_TIME → ends ≡ raised manager end inside.ends → granted ≡ max node.granted (granted_end ends) → IsNode inside →
      IsNode (record inside { granted = granted; ends = ends })
  end_kept manager end granted ends within is most ok = subst IsNode (sym made) (granted_kept inside manager end within ok)
    where
      made : record inside { granted = granted; ends = ends } ≡ (granted_by inside manager end).node
      made = ap (λ (g : ℕ). record inside { granted = g; ends = ends }) (most ∙ ap (λ (n : NodeState). max n.granted (granted_end ends)) (sym same))
          ∙ ap (λ (l : List ℕ). record inside { granted = max inside.granted (granted_end l); ends = l }) is

  pub end_undone : (granted : ℕ) (ends : List ℕ) → granted ≡ inside.granted → ends ≡ inside.ends → record node { granted = granted; ends = ends } ≡ node
  end_undone granted ends was were = ap (λ (g : ℕ). record node { granted = g; ends = ends }) was ∙ ap (λ (l : List ℕ). record node { granted = inside.granted; ends = l }) were
      ∙ ap (λ (n : NodeState). record node { granted = n.granted; ends = n.ends }) same

  pub note_undone : (activated : List ℕ) → activated ≡ inside.activated → record node { activated = activated } ≡ node
  note_undone activated were = ap (λ (l : List ℕ). record node { activated = l }) were ∙ ap (λ (n : NodeState). record node { activated = n.activated }) same

-- ---- a view that a manager activated
pub passed_over : (node : NodeState) (manager : ℕ) (view : View) → is_greatest view.epoch node.activated ≡ false → activated_by node manager view ≡ idle node
passed_over node manager view e = ap (λ (b : Bool). if b then installs_by_majority (record node { activated = raised manager view.epoch node.activated }) view else idle node) e

module _ (node : NodeState) (manager : ℕ) (view : View) (after : List ℕ) (is : after ≡ raised manager view.epoch node.activated) (greatest : is_greatest view.epoch node.activated ≡ true) where
  abbrev noted : NodeState
  noted = record node { activated = after }

  counted : activated_by node manager view ≡ installs_by_majority noted view
  counted = ap (λ (b : Bool). if b then installs_by_majority (record node { activated = raised manager view.epoch node.activated }) view else idle node) greatest
      ∙ ap (λ (l : List ℕ). installs_by_majority (record node { activated = l }) view) (sym is)

  pub by_few : has_majority view.epoch after ≡ false → activated_by node manager view ≡ idle noted
  by_few e = counted ∙ ap (λ (b : Bool). if b then installs noted view else idle noted) e

  pub by_many : has_majority view.epoch after ≡ true → activated_by node manager view ≡ installs noted view
  by_many e = counted ∙ ap (λ (b : Bool). if b then installs noted view else idle noted) e

  pub by_many_in_vain : has_majority view.epoch after ≡ true → (nat_lt (epoch_of node) view.epoch && is_member node.id view.members) ≡ false → activated_by node manager view ≡ idle noted
  by_many_in_vain e none = by_many e ∙ installs_not noted view none

-- ---- letters of managers
pub heard_from : (node : NodeState) (letter : Letter) (manager : ℕ) → letter.from ≡ Manager manager → (is_addressed node letter.to && nat_lt manager node.managers) ≡ true →
    receives node letter ≡ heard letter.body node manager
heard_from node letter manager is e = ap (λ (a : Actor). receives_from a node letter) is
    ∙ ap (λ (b : Bool). if b then heard letter.body node manager else idle node) e

pub not_heard : (node : NodeState) (letter : Letter) (manager : ℕ) → letter.from ≡ Manager manager → (is_addressed node letter.to && nat_lt manager node.managers) ≡ false →
    receives node letter ≡ idle node
not_heard node letter manager is e = ap (λ (a : Actor). receives_from a node letter) is
    ∙ ap (λ (b : Bool). if b then heard letter.body node manager else idle node) e

-- ---- a lease that is asked for
abbrev pub asking : NodeState → ℕ → Stepped
asking node manager = record { node = node; letters = record { epoch = epoch_of node; from = Node node.id; to = Manager manager; body = LeaseAsk node.clock } ∷ []; told = []; installed = None }

pub asks_one : (node : NodeState) (manager : ℕ) → nat_lt manager node.managers ≡ true → asks_lease node manager ≡ asking node manager
asks_one node manager e = ap (λ (b : Bool). if b then asking node manager else idle node) e

pub asks_none : (node : NodeState) (manager : ℕ) → nat_lt manager node.managers ≡ false → asks_lease node manager ≡ idle node
asks_none node manager e = ap (λ (b : Bool). if b then asking node manager else idle node) e
