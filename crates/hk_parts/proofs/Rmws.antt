-- The part on read-modify-writes holds after every run.
use Rattle.std.proofs.Common.{ℕ, List, le_refl}
use Rattle.hk_register.specs.Machine.{RegisterState}
use Rattle.hk_register.proofs.Orders.{one_complete, none_between}
use Rattle.hk_effects.specs.Projection.{Trace, project}
use Rattle.hk_world.specs.Sound.{IsHeader}
use Rattle.hk_effects.specs.Runs.{RunsKeepParts}
use Rattle.hk_parts.specs.Moments.{Run, Ends}
use Rattle.hk_parts.specs.Facts.{members_at}
use Rattle.hk_parts.specs.RmwPart.{RmwPart}
use Rattle.hk_parts.proofs.Origins.{parts_at}
use Rattle.hk_parts.proofs.Acked.{acks_told}
use Rattle.hk_parts.proofs.OfRmw.{at_row, exact_of, top_is}
use Rattle.hk_parts.proofs.RunNotes.{pending_noted}
use Rattle.hk_parts.proofs.Updates.{kept_here}

module _ (runs : RunsKeepParts) (key : List ℕ) (run : Run) (header : IsHeader run.header) (t : Trace) (ends : Ends key run t) where
  pub rmw_part : RmwPart key run t
  rmw_part =
      let ok = kept_here runs key run header t ends in
      let V : ℕ → List ℕ = members_at t in
      let st : RegisterState = project key t in
      let parts = parts_at key t ok in
      record {
        acks_exact = λ u begun rmw m e top h. top_is V st parts u begun rmw m e top (acks_told runs key run.header header run.events t ends m e u.stamp top h);
        notes_exact = λ n p has rmw k h. pending_noted runs key run.header header run.events t ends n p has rmw k h;
        covers_exact = λ u begun rmw n e c. exact_of V st parts u begun rmw n e c;
        pending_at_row = λ n p has rmw. at_row V st parts n (st.node n) (st.node n).phase p has (parts.nodes n).phase rmw;
        one_complete = λ u v begun begun' rmw rmw' same c c'. one_complete V st parts u v begun begun' rmw rmw' same c c';
        none_between = λ r begun rmw c u begun' c' above below. none_between V st parts u.stamp r begun rmw c u begun' c' above below (le_refl u.stamp);
      }
