-- The update of each stamp, what rows and pending updates are, and that nothing falls.
use Rattle.std.proofs.Common.{◌≡◌, ◌≢◌, ℕ, List, [], ◌∷◌, map, ◌<◌, ◌≤◌, ◌∙◌, sym, refl, ap, subst, inl, inr, ⊎_elim, arith, Option, Some, None, IfSome, eq-zero-or-pos}
use Rattle.std.specs.List.{AllByRecursion}
use Rattle.hk_base.specs.declared.call.Content.{Content}
use Rattle.hk_base.specs.declared.call.State.{State}
use Rattle.hk_base.specs.declared.call.State.TheVariants as State
use Rattle.hk_base.specs.declared.stamp.NodeId.{NodeId}
use Rattle.hk_base.specs.declared.stamp.Kind.{Kind}
use Rattle.hk_base.specs.declared.stamp.Stamp.{Stamp}
use Rattle.hk_key.specs.declared.acks.Ack.{Ack}
use Rattle.hk_key.specs.declared.row.Pending.{Pending}
use Rattle.hk_key.specs.Sound.{IsOther, IsUpdate, Holds as HoldsRow, Waits as WaitsFor}
use Rattle.hk_register.specs.Machine.{In, Marked, Mark, Note, WaitingUpdate, Update}
use Rattle.hk_register.specs.Facts.{Exact}
use Rattle.hk_register.specs.Effects.{Has, row_mark}
use Rattle.hk_register.specs.Parts.{Known, Holds, MarkBegun, Parts}
use Rattle.hk_register.proofs.Orders.{above_base}
use Rattle.hk_node.specs.Node.{NodeState, members_of}
use Rattle.hk_node.specs.Rows.{row_at}
use Rattle.hk_effects.specs.Projection.{Trace, project, node_at, note_of, pending_of, phase_of, key_node}
use Rattle.hk_effects.specs.Own.{Agrees}
use Rattle.hk_effects.specs.Runs.{IsKept}
use Rattle.hk_effects.proofs.Legality.{own_agrees}
use Rattle.hk_effects.proofs.Rests.{node_holds, row_sound}
use Rattle.hk_parts.specs.Facts.{members_at, HasCovered, IsSettled}
use Rattle.hk_parts.specs.UpdatePart.{HasShape, IsBegun, IsBegunAs, FromUpdate, FromUpdateAs}

-- ---- shapes
shape_of : (state : State) (p : Option Pending) (s : Stamp) → HoldsRow state p s → WaitsFor state p → HasShape state p s
shape_of State.Valid p s h w = h
shape_of State.Invalid p s h w = h
shape_of State.Write None s h w = h
shape_of State.Write (Some p) s h w = (h, w)
shape_of State.Replay None s h w = h
shape_of State.Replay (Some p) s h w = (h, w)
shape_of State.Trans None s h w = h
shape_of State.Trans (Some p) s h w = (h, w.1, w.0)

-- what is pending for the register is pending in the row
pub pending_from : (state : State) (o : Option Pending) (p : WaitingUpdate) → Has (phase_of state o) p → (w : Pending) × (o ≡ Some w) × (pending_of w ≡ p)
pending_from State.Valid o p h = absurd h
pending_from State.Invalid o p h = absurd h
pending_from State.Write None p h = absurd h
pending_from State.Write (Some w) p h = (w, refl, h)
pending_from State.Replay None p h = absurd h
pending_from State.Replay (Some w) p h = (w, refl, h)
pending_from State.Trans None p h = absurd h
pending_from State.Trans (Some w) p h = (w, refl, h)

pub note_from : (P : Ack → Type 0) (ks : List Ack) (k : Note) → AllByRecursion P ks → In (map note_of ks) k → (a : Ack) × P a × (k ≡ note_of a)
note_from P [] k all h = absurd h
note_from P (a ∷ ks) k all (inl e) = (a, all.0, e)
note_from P (a ∷ ks) k all (inr h) = note_from P ks k all.1 h

module _ (key : List ℕ) (t : Trace) (ok : IsKept key t) where
  pub agreed : Agrees t.world (members_at t)
  agreed = own_agrees t.world ok.own

  pub parts_at : Parts (members_at t) (project key t)
  parts_at = ok.parts (members_at t) agreed

  abbrev pub begun_at : (u : Update) → In t.begun u → (s : ℕ) → u.stamp ≡ s → IsBegun key t s
  begun_at u h s e = record {
    update = u;
    begun = h;
    stamp = e;
    only = λ v k same. parts_at.once v u k h (same ∙ sym e);
    next = sym e ∙ (parts_at.updates u h).next;
    above = subst (λ (x : ℕ). u.base < x) e (above_base (members_at t) (project key t) parts_at u h);
    node = (parts_at.updates u h).node;
    base = (parts_at.updates u h).base;
  }

  pub known_begun : (s : ℕ) (kind : Kind) (content : Option Content) → Known (project key t) s kind content → IsBegunAs key t s kind content
  known_begun s kind content k = record { one = begun_at k.update k.begun s k.stamp; same_kind = k.same_kind; same_content = k.same_content }

  pub holds_begun : (s : ℕ) (kind : Kind) (content : Option Content) → Holds (project key t) s kind content → FromUpdateAs key t s kind content
  holds_begun s kind content (inl e) = inl e.0
  holds_begun s kind content (inr k) = inr (known_begun s kind content k)

  mark_begun : (k : Mark) → Marked (project key t) k → (s : ℕ) → k.stamp ≡ s → FromUpdate key t s
  mark_begun k h s e = ⊎_elim
      (λ (zero_is : k.stamp ≡ 0). inl (sym e ∙ zero_is))
      (λ (b : MarkBegun (members_at t) (project key t) k). inr (begun_at b.update b.begun s (b.stamp ∙ e))) (parts_at.marks k h).begun

  pub covers_begun : (n e s : ℕ) → HasCovered key t n e s → FromUpdate key t s
  covers_begun n e s c = mark_begun c.mark c.marked s c.stamp

  pub exact_begun : (n e s : ℕ) → Exact (project key t) n e s → FromUpdate key t s
  exact_begun n e s c = mark_begun c.mark c.marked s c.stamp

  pub settled_begun : (s : ℕ) → IsSettled key t s → FromUpdate key t s
  settled_begun s c = mark_begun c.1.one_ready.mark c.1.one_ready.marked s c.1.one_ready.stamp

  -- ---- rows
  pub not_below : (n e s : ℕ) → HasCovered key t n e s → s ≤ ((project key t).node n).stamp
  not_below n e s c = let top = (parts_at.marks c.mark c.marked).top in rw (sym c.who, sym c.stamp) top

  pub row_shape : (n : ℕ) (x : NodeState) → node_at n t.world.processes ≡ Some x → HasShape (row_at key x.rows).state (row_at key x.rows).pending (row_at key x.rows).stamp
  row_shape n x at =
      let row = row_at key x.rows in
      let s = row_sound x (node_holds t.world ok.own.sound n x at).1 key in
      shape_of row.state row.pending row.stamp s.holds s.waits

  -- of another node than this one
  pub other_noted : (n : ℕ) (p : WaitingUpdate) → Has ((project key t).node n).phase p → (k : Note) → In p.notes k → k.who ≢ n
  other_noted n p has k h = by_node (node_at n t.world.processes) refl has
    where
      waiting : (x : NodeState) (o : Option Pending) → IfSome o (λ w. IsUpdate x.id (members_of x) w) → (w : Pending) → o ≡ Some w → IsUpdate x.id (members_of x) w
      waiting x o u w e = rw e at u

      by_node : (o : Option NodeState) → node_at n t.world.processes ≡ o → Has (key_node key o).phase p → k.who ≢ n
      by_node None at has' = absurd has'
      by_node (Some x) at has' =
          let row = row_at key x.rows in
          let holds = node_holds t.world ok.own.sound n x at in
          let s = row_sound x holds.1 key in
          let w = pending_from row.state row.pending p has' in
          let u = waiting x row.pending s.update w.0 w.1 in
          let inside : In (map note_of w.0.acks) k = subst (λ (q : WaitingUpdate). In q.notes k) (sym w.2) h in
          let a = note_from (λ (a : Ack). IsOther x.id (members_of x) a.node) w.0.acks k u.notes.others inside in
          λ is. a.1.other (sym (ap (λ (z : Note). z.who) a.2) ∙ (is ∙ sym (ap (λ (z : NodeId). z.0) holds.0)))

  -- ---- nothing falls
  pub risen : (p : Trace) → IsKept key p → ((k : Mark) → In p.marks k → In t.marks k) → (n : ℕ) →
      (((project key p).node n).stamp ≤ ((project key t).node n).stamp) × (((project key p).node n).epoch ≤ ((project key t).node n).epoch)
  risen p before keeps n =
      let o = ((before.parts (members_at p) (own_agrees p.world before.own)).nodes n) in
      ⊎_elim
      (λ (zero_is : ((project key p).node n).epoch ≡ 0). let r = (o.resting zero_is).0 in (omega arith, omega arith))
      (λ (pos : 0 < ((project key p).node n).epoch).
      let m = o.marked pos in
      let k = parts_at.marks (row_mark n ((project key p).node n)) (m.0, m.1, keeps m.0 m.2) in
      (k.top, k.epoch)) (eq-zero-or-pos ((project key p).node n).epoch)
