-- Steps are undone from the last to the first, and this gives the node before them.
use Rattle.std.proofs.Common.{◌≡◌, List, [], ◌∷◌, ◌++◌, refl, sym, ap, ◌∙◌, subst, ⊎_elim}
use Rattle.hk_node.specs.Node.{NodeState}
use Rattle.hk_node.specs.declared.event.NodeEvent.{NodeEvent}
use Rattle.hk_node.specs.declared.out.NodeOut.{NodeOut}
use Rattle.hk_node.specs.declared.report.Undo.TheVariants.{Nothing}
use Rattle.hk_node.specs.Outs.{IsOutOf}
use Rattle.hk_node.specs.Steps.{node_step}
use Rattle.hk_node.specs.Sound.{IsNode}
use Rattle.hk_shard.specs.declared.replaced.Replaced.{Replaced}
use Rattle.hk_shard.specs.Replaced.{before_all, replaced_of, AreKept, IsReplaced, AreReplaced}
use Rattle.hk_node.specs.Report.{rolled_back}

pub one_more : (first old new : NodeState) (replaced : List Replaced) (last : Replaced) → AreReplaced first replaced old → IsReplaced old last new → AreReplaced first (replaced ++ last ∷ []) new
one_more first old new [] last are is = (new, subst (λ n. IsReplaced n last new) are is, refl)
one_more first old new (x ∷ replaced) last are is = (are.0, are.1, one_more are.0 old new replaced last are.2 is)

pub record Back (first : NodeState) (replaced : List Replaced) (last : Replaced) (new : NodeState) : Type 0 where
  pub old : NodeState
  pub before : AreReplaced first replaced old
  pub is : IsReplaced old last new

pub one_back : (first new : NodeState) (replaced : List Replaced) (last : Replaced) → AreReplaced first (replaced ++ last ∷ []) new → Back first replaced last new
one_back first new [] last are = record { old = first; before = refl; is = subst (λ n. IsReplaced first last n) (sym are.2) are.1 }
one_back first new (x ∷ replaced) last are =
    let back = one_back are.0 new replaced last are.2 in
    record { old = back.old; before = (are.0, are.1, back.before); is = back.is }

-- what a step told is what it replaced
pub replaced_by : (old new : NodeState) (event : NodeEvent) (out : NodeOut) → IsNode old → IsOutOf out old (node_step old event) → new ≡ (node_step old event).node
    → IsReplaced old (record { report = out.report; undo = out.undo }) new
replaced_by old new event out ok is same = subst (IsReplaced old (record { report = out.report; undo = out.undo })) (sym same) (record {
  node = ok;
  rising = is.changed.rising;
  there = is.changed.there;
  undone = is.undone;
})

pub last_back : (first new : NodeState) (all rest : List Replaced) (last : Replaced) → all ≡ rest ++ last ∷ [] → AreReplaced first all new → Back first rest last new
last_back first new all rest last is are = one_back first new rest last (subst (λ l. AreReplaced first l new) is are)

-- the node before all of them
pub back_at_first : (first new : NodeState) (replaced : List Replaced) → AreReplaced first replaced new → before_all replaced new ≡ first
back_at_first first new [] are = are
back_at_first first new (x ∷ replaced) are = ap (rolled_back x.report.rows x.undo) (back_at_first are.0 new replaced are.2) ∙ are.1.undone

-- nothing was replaced
pub none_replaced : (node : NodeState) (replaced : List Replaced) → replaced ≡ [] → AreReplaced node replaced node
none_replaced node replaced none = subst (λ l. AreReplaced node l node) (sym none) refl

-- one step more, whose part is kept, or was nothing
pub kept_more : (first old new : NodeState) (event : NodeEvent) (out : NodeOut) (before after : List Replaced) → IsNode old → IsOutOf out old (node_step old event) → new ≡ (node_step old event).node
    → AreKept out before after → AreReplaced first before old → AreReplaced first after new
kept_more first old new event out before after ok is same kept are = ⊎_elim
    (λ (more : after ≡ before ++ replaced_of out ∷ []). subst (λ l. AreReplaced first l new) (sym more) (one_more first old new before (replaced_of out) are by))
    (λ (none : (after ≡ before) × (out.report.rows ≡ []) × (out.undo ≡ Nothing)).
    let stays : new ≡ old = sym (λ i. rolled_back (none.1 i) (none.2 i) new) ∙ by.undone in
    subst (λ (x : List Replaced × NodeState). AreReplaced first x.0 x.1) (λ i. (sym none.0 i, sym stays i)) are)
    kept
  where
    by : IsReplaced old (replaced_of out) new
    by = replaced_by old new event out ok is same
