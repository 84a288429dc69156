-- The first view of a group is a view, and each of its numbers is a member.
use Rattle.std.proofs.Common.{◌≡◌, ⊎_elim, ◌+◌, ◌<◌, ◌≤◌, ℕ, zero, suc, true, sym, subst, arith}
use Rattle.std.proofs.lemmas.Bool.{eq-eqb, or_left, or_right, cases_lt}
use Rattle.hk_base.specs.declared.stamp.NodeId.{NodeId}
use Rattle.hk_base.specs.declared.view.View.{View}
use Rattle.hk_base.specs.View.{IsView, is_member, counted, first_view}
use Rattle.hk_base.proofs.Counting.{first_is_view}
use Rattle.hk_group.specs.declared.group.Group.{Group}
use Rattle.hk_group.specs.Founding.{IsGroup}

counted_has : (n k : ℕ) (id : NodeId) → n ≤ id.0 → id.0 < n + k → is_member id (counted n k) ≡ true
counted_has n zero id low high = absurd (omega arith)
counted_has n (suc k) id low high = ⊎_elim (λ (l : n < id.0). or_right _ _ (counted_has (n + 1) k id (omega arith) (omega arith))) (λ (g : id.0 ≤ n). or_left _ _ (eq-eqb n id.0 (omega arith))) (cases_lt n id.0)

pub is_view : (g : Group) (view : View) → IsGroup g → view ≡ first_view g.nodes → IsView view
is_view g view is same = subst IsView (sym same) (first_is_view g.nodes is.some_nodes is.few_nodes)

pub has_member : (g : Group) (view : View) (k n : ℕ) → view ≡ first_view g.nodes → n ≡ k → k < g.nodes → is_member (record { 0 = n }) view.members ≡ true
has_member g view k n same e under = subst (λ (v : View). is_member (record { 0 = n }) v.members ≡ true) (sym same) (counted_has 0 g.nodes (record { 0 = n }) (omega arith) (omega arith))
