-- What the register's invariant says of read-modify-writes.
use Rattle.std.proofs.Common.{◌≡◌, ℕ, List, ◌∙◌, sym, ap, ⊎_elim, arith}
use Rattle.hk_base.specs.declared.stamp.Kind.{Kind}
use Rattle.hk_base.specs.declared.stamp.Kind.TheVariants as Kind
use Rattle.hk_register.specs.Machine.{In, WaitingUpdate, Phase, Node, Update, RegisterState}
use Rattle.hk_register.specs.Machine.Phase.{Valid, Invalid, Write, Replay, Trans}
use Rattle.hk_register.specs.Facts.{Covers, Exact}
use Rattle.hk_register.specs.Effects.{Has}
use Rattle.hk_register.specs.Parts.{PhaseOk, MarkBegun, Parts}
use Rattle.hk_register.proofs.Orders.{above_base}
use Rattle.hk_parts.proofs.Acks.{AckTold}

plain_or_rmw : (k : Kind) → k ≡ Kind.Write → k ≡ Kind.Rmw → ⊥
plain_or_rmw k p r = cc

module _ (V : ℕ → List ℕ) (st : RegisterState) (parts : Parts V st) where
  pub at_row : (n : ℕ) (x : Node) (phase : Phase) (p : WaitingUpdate) → Has phase p → PhaseOk V st n x phase → p.kind ≡ Kind.Rmw → p.stamp ≡ x.stamp
  at_row n x Valid p has o rmw = absurd has
  at_row n x Invalid p has o rmw = absurd has
  at_row n x (Write q) p has o rmw = rw has at o.1
  at_row n x (Replay q) p has o rmw = rw has at o.1
  at_row n x (Trans q) p has o rmw = absurd (plain_or_rmw p.kind (rw has at o.1) rmw)

  pub exact_of : (u : Update) → In st.begun u → u.kind ≡ Kind.Rmw → (n e : ℕ) → Covers st n e u.stamp → Exact st n e u.stamp
  exact_of u begun rmw n e c = ⊎_elim
      (λ (zero_is : c.mark.stamp ≡ 0). let up = above_base V st parts u begun in let s = c.stamp in absurd (omega arith))
      (λ (b : MarkBegun V st c.mark).
      let same : b.update ≡ u = parts.once b.update u b.begun begun (b.stamp ∙ c.stamp) in
      let t = b.rmw (ap (λ (v : Update). v.kind) same ∙ rmw) in
      record { mark = t.mark; marked = t.marked; who = t.who ∙ c.who; epoch = t.epoch ∙ c.epoch; stamp = t.stamp ∙ c.stamp; exact = t.exact }) (parts.marks c.mark c.marked).begun

  -- an ACK of a read-modify-write has its stamp as top
  pub top_is : (u : Update) → In st.begun u → u.kind ≡ Kind.Rmw → (m e top : ℕ) → AckTold st m e u.stamp top → top ≡ u.stamp
  top_is u begun rmw m e top o =
      let same : o.update ≡ u = parts.once o.update u o.begun begun o.stamp in
      ⊎_elim (λ (p : o.update.kind ≡ Kind.Write). absurd (plain_or_rmw u.kind (sym (ap (λ (v : Update). v.kind) same) ∙ p) rmw)) (λ (t : top ≡ u.stamp). t) o.tops
