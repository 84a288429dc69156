-- Notes of read-modify-writes are exact in every run.
use Rattle.std.proofs.Common.{◌≡◌, ◌⊎◌, ◌≢◌, ℕ, true, List, [], ◌∷◌, map, ◌∙◌, sym, refl, ap, subst, inl, inr, ⊎_elim, Option, Some, None, Ok}
use Rattle.std.specs.List.{AllByRecursion}
use Rattle.std.proofs.lemmas.Bool.{cases_eq}
use Rattle.hk_base.specs.declared.stamp.Kind.TheVariants.{Rmw}
use Rattle.hk_base.specs.declared.stamp.NodeId.{NodeId}
use Rattle.hk_base.specs.declared.stamp.Stamp.{Stamp}
use Rattle.hk_base.specs.Stamp.{tag_of}
use Rattle.hk_key.specs.declared.acks.Ack.{Ack}
use Rattle.hk_key.specs.declared.row.Pending.{Pending}
use Rattle.hk_register.specs.Machine.{In, Note, WaitingUpdate}
use Rattle.hk_register.specs.Machine.{Message}
use Rattle.hk_register.specs.Effects.{Has}
use Rattle.hk_register.proofs.Helps.{pending_of}
use Rattle.hk_node.specs.Node.{NodeState}
use Rattle.hk_node.specs.Rows.{Rows, row_at}
use Rattle.hk_event.specs.declared.event.Event.{Event}
use Rattle.hk_event.specs.declared.event.Header.{Header}
use Rattle.hk_world.specs.declared.process.Process.{Process}
use Rattle.hk_base.specs.View.{counted}
use Rattle.hk_world.specs.Start.{founding_process}
use Rattle.hk_world.specs.World.{WorldState, Processes, node_of}
use Rattle.hk_world.specs.Steps.{acting_of, Accepted, world_step}
use Rattle.hk_world.specs.Sound.{IsHeader, IsEvent}
use Rattle.hk_effects.specs.Projection.{Trace, project, traced, key_node, note_of, pending_of as waits_of, node_at, letters_of}
use Rattle.hk_effects.specs.Runs.{start_trace, Follows, IsKept, RunsKeepParts}
use Rattle.hk_effects.proofs.Accepting.{alive}
use Rattle.hk_effects.proofs.Frames.{accepted}
use Rattle.hk_effects.proofs.Processes.{numbered_node, node-put_same, node-put_other, process_of_node, process_holds}
use Rattle.hk_effects.proofs.Rests.{node_holds, row_sound}
use Rattle.hk_effects.proofs.Shapes.{IsShaped, shaped_of_holds, shaped_has}
use Rattle.hk_effects.proofs.Worlds.{the_some}
use Rattle.hk_parts.specs.Facts.{members_at}
use Rattle.hk_parts.proofs.Moments.{world_is, always}
use Rattle.hk_parts.proofs.Cases.{Stepping, Beside, event_case}
use Rattle.hk_parts.proofs.Origins.{parts_at, pending_from, note_from}
use Rattle.hk_parts.proofs.Acks.{AckTold}
use Rattle.hk_parts.proofs.Acked.{acks_told}
use Rattle.hk_parts.proofs.OfRmw.{top_is}
use Rattle.hk_parts.proofs.RowNotes.{IsNoted, TopIs}
use Rattle.hk_parts.proofs.NodeNotes.{step_keeps}

-- at each node
abbrev pub AreNoted : List ℕ → WorldState → Type 0
AreNoted key w = (n : ℕ) (y : NodeState) → node_at n w.processes ≡ Some y → IsNoted (row_at key y.rows).pending

module _ (runs : RunsKeepParts) (key : List ℕ) (h : Header) (header : IsHeader h) where
  -- a node's pending update is one that was begun, so an ACK of it tells its top
  tops : (past : List Event) (t : Trace) → Follows key (start_trace h) past t → (n : ℕ) (x : NodeState) → node_at n t.world.processes ≡ Some x →
      (m e : ℕ) (s top : Stamp) → In (letters_of key t.world.letters) (Message.Ack m e (tag_of s) (tag_of top)) → TopIs (row_at key x.rows).pending s top
  tops past t f n x at m e s top letter = by_pending (row_at key x.rows).pending refl
    where
      ok : IsKept key t
      ok = runs h header key past t f

      by_pending : (o : Option Pending) → (row_at key x.rows).pending ≡ o → TopIs o s top
      by_pending None is = tt
      by_pending (Some p) is = λ rmw same.
          let row = row_at key x.rows in
          let shaped : IsShaped row.state (Some p) = rw (← is) (shaped_of_holds row.state row.pending row.stamp (row_sound x (node_holds t.world ok.own.sound n x at).1 key).holds) in
          let has : Has (key_node key (Some x)).phase (waits_of p) = rw is (shaped_has row.state p shaped) in
          let has' : Has ((project key t).node n).phase (waits_of p) = rw at has in
          let known = (pending_of (members_at t) (project key t) n ((project key t).node n) ((project key t).node n).phase (waits_of p) has' ((parts_at key t ok).nodes n).phase).known in
          let told : AckTold (project key t) m e (tag_of s) (tag_of top) = acks_told runs key h header past t f m e (tag_of s) (tag_of top) letter in
          let at_stamp : tag_of s ≡ known.update.stamp = same ∙ sym known.stamp in
          top_is (members_at t) (project key t) (parts_at key t ok) known.update known.begun (known.same_kind ∙ rmw) m e (tag_of top) (subst (λ (c : ℕ). AckTold (project key t) m e c (tag_of top)) at_stamp told) ∙ sym at_stamp

  goes_on : (past : List Event) (t : Trace) (event : Event) (a : Accepted) → Follows key (start_trace h) past t → world_step t.world event ≡ Ok a → IsEvent event → AreNoted key t.world → AreNoted key (traced key t event a).world
  goes_on past t event a f e event_ok noted n y at = by_case (event_case t.world event a e) (subst (λ (w : WorldState). node_at n w.processes ≡ Some y) (world_is key t event a (acting_of a)) at)
    where
      by_case : Stepping t.world event a ⊎ Beside t.world a → node_at n a.world.processes ≡ Some y → IsNoted (row_at key y.rows).pending
      by_case (inl c) at' =
          let put : node_at n (accepted t.world c.id c.x c.s c.calls c.paces c.call).world.processes ≡ Some y = subst (λ (b : Accepted). node_at n b.world.processes ≡ Some y) c.is at' in
          let there : node_at c.id.0 t.world.processes ≡ Some c.x = ap node_of c.there in
          let now = step_keeps key t.world c.x (noted c.id.0 c.x there) (tops past t f c.id.0 c.x there) event c.s c.how in
          ⊎_elim
          (λ (same : n ≡ c.id.0).
          let put' : node_at c.id.0 (accepted t.world c.id c.x c.s c.calls c.paces c.call).world.processes ≡ Some y = subst (λ (i : ℕ). node_at i (accepted t.world c.id c.x c.s c.calls c.paces c.call).world.processes ≡ Some y) same put in
          let is : c.s.node ≡ y = the_some c.s.node y (sym (node-put_same c.id (alive c.s.node) t.world.processes) ∙ put') in
          subst (λ (z : NodeState). IsNoted (row_at key z.rows).pending) is now)
          (λ (other : n ≢ c.id.0). noted n y (sym (node-put_other n c.id (alive c.s.node) t.world.processes other) ∙ put)) (cases_eq n c.id.0)
      by_case (inr b) at' = ⊎_elim
          (λ (none : y.rows ≡ []). subst (λ (rs : Rows). IsNoted (row_at key rs).pending) (sym none) tt)
          (λ (o : (x : NodeState) × (node_at n t.world.processes ≡ Some x) × (y.rows ≡ x.rows)). subst (λ (rs : Rows). IsNoted (row_at key rs).pending) (sym o.2) (noted n o.0 o.1)) (b.nodes n y at')

  -- founders have no rows
  bare : (ids : List NodeId) → AllByRecursion (λ (q : NodeId × Process). q.1.node.rows ≡ []) (map (λ id. (id, founding_process h id)) ids)
  bare [] = tt
  bare (id ∷ ids) = (refl, bare ids)

  pub founders : (ids : List NodeId) (n : ℕ) (y : NodeState) → node_at n (map (λ id. (id, founding_process h id)) ids) ≡ Some y → y.rows ≡ []
  founders ids n y at =
      let ps : Processes = map (λ id. (id, founding_process h id)) ids in
      let p = process_of_node n y ps at in
      subst (λ (z : NodeState). z.rows ≡ []) p.2 (process_holds (λ (q : NodeId × Process). q.1.node.rows ≡ []) (numbered_node n) p.0 ps (bare ids) p.1)

  notes_exact : (events : List Event) (last : Trace) → Follows key (start_trace h) events last → AreNoted key last.world
  notes_exact events last f = always key h (λ (past : List Event) (t : Trace). AreNoted key t.world) goes_on
      (λ n y at. subst (λ (rs : Rows). IsNoted (row_at key rs).pending) (sym (founders (counted 0 h.nodes) n y at)) tt) events last f

  pub pending_noted : (events : List Event) (last : Trace) → Follows key (start_trace h) events last → (n : ℕ) (p : WaitingUpdate) → Has ((project key last).node n).phase p → p.kind ≡ Rmw → (k : Note) → In p.notes k → k.exact ≡ true
  pending_noted events last f n p has rmw k i = by_node (node_at n last.world.processes) refl has
    where
      by_node : (o : Option NodeState) → node_at n last.world.processes ≡ o → Has (key_node key o).phase p → k.exact ≡ true
      by_node None at has' = absurd has'
      by_node (Some x) at has' =
          let row = row_at key x.rows in
          let w = pending_from row.state row.pending p has' in
          let noted = of_pending row.pending (notes_exact events last f n x at) w.0 w.1 in
          let inside : In (map note_of w.0.acks) k = subst (λ (q : WaitingUpdate). In q.notes k) (sym w.2) i in
          let a = note_from (λ (a : Ack). a.exact ≡ true) w.0.acks k (noted (ap (λ (q : WaitingUpdate). q.kind) w.2 ∙ rmw)) inside in
          ap (λ (z : Note). z.exact) a.2 ∙ a.1
        where
          of_pending : (o : Option Pending) → IsNoted o → (q : Pending) → o ≡ Some q → IsNoted (Some q)
          of_pending o ok q e = rw e at ok
