-- What is kept of leases: an epoch that is guarded stays so, and a node acts in its old epoch, or in a guarded one.
use Rattle.std.proofs.Common.{◌≡◌, ◌⊎◌, ◌≢◌, ℕ, Bool, true, false, ◌+◌, List, [], map, ◌<◌, ◌≤◌, ◌∙◌, sym, refl, ap, subst, inl, ⊎_elim, arith, Option, Some, None, Ok}
use Rattle.std.proofs.lemmas.Bool.{false≢true, cases_eq}
use Rattle.hk_base.specs.declared.stamp.NodeId.{NodeId}
use Rattle.hk_base.specs.declared.call.CallNo.{CallNo}
use Rattle.hk_base.specs.declared.call.Op.{Op}
use Rattle.hk_base.specs.declared.view.View.{View}
use Rattle.hk_base.specs.View.{member_numbers}
use Rattle.hk_register.specs.Machine.{In}
use Rattle.hk_clocks.specs.Clocks.{Paces}
use Rattle.hk_node.specs.Node.{NodeState, epoch_of}
use Rattle.hk_node.specs.Stepped.{Stepped}
use Rattle.hk_node.specs.Calls.{called}
use Rattle.hk_node.specs.Steps.{ticks}
use Rattle.hk_world.specs.declared.process.Process.{Process}
use Rattle.hk_world.specs.World.{WorldState, process_at, put_process, node_of, last_view}
use Rattle.hk_world.specs.Steps.{acting_of, Accepted, with_step, acts, aside, nothing, calls_at, process_ticked, joining}
use Rattle.hk_effects.specs.Projection.{node_at}
use Rattle.hk_effects.specs.Own.{Ended}
use Rattle.hk_effects.proofs.Processes.{numbered_node, process-put_same, process-put_other, node-put_same}
use Rattle.hk_effects.proofs.Accepting.{alive, makes, with_processes}
use Rattle.hk_effects.proofs.Frames.{accepted}
use Rattle.hk_effects.proofs.Worlds.{the_some, the_accepted, ticked_from}
use Rattle.hk_effects.proofs.Leases.{Seen, SeesSame, called_seen, StillEnded, seen_ended}

-- an epoch of the agreed views that is guarded
pub record EpochGuarded (w : WorldState) (e : ℕ) : Type 0 where
  pub upto : e ≤ (last_view w.views).epoch
  pub ended : Ended w e

-- the node acts in its old epoch, or in a guarded one
pub record ActsGuarded (w next : WorldState) (id : NodeId) : Type 0 where
  pub was : NodeState
  pub now : NodeState
  pub at_was : node_at id.0 w.processes ≡ Some was
  pub at_now : node_at id.0 next.processes ≡ Some now
  pub epoch : (epoch_of now ≡ epoch_of was) ⊎ EpochGuarded next (epoch_of now)

-- what an event keeps of leases
pub record Guards (w : WorldState) (a : Accepted) : Type 0 where
  pub carries : (e : ℕ) → EpochGuarded w e → EpochGuarded a.world e
  pub acting : (id : NodeId) → acting_of a ≡ Some id → ActsGuarded w a.world id

module _ (w : WorldState) where
  -- a node is put: its lease has ended, if it had before, or it has crashed
  pub put_carries : (next : WorldState) (id : NodeId) (p : Process) → next.processes ≡ put_process id p w.processes → next.views ≡ w.views →
      ((e : ℕ) (y : NodeState) → p ≡ alive y → (u v : View) → In w.views u → In w.views v → u.epoch < e → v.epoch ≡ e → In (member_numbers u.members) id.0 → (In (member_numbers v.members) id.0 → ⊥) → EpochGuarded w e → y.granted < y.clock + y.skew) →
      (e : ℕ) → EpochGuarded w e → EpochGuarded next e
  put_carries next id p put views still e g = record {
    upto = rw views g.upto;
    ended = λ n y at u v hu hv low at_v in_u out_v.
        let hu' : In w.views u = rw views at hu in
        let hv' : In w.views v = rw views at hv in
        let at' : process_at (numbered_node n) (put_process id p w.processes) ≡ Some (alive y) = rw put at at in
        ⊎_elim
        (λ (is : n ≡ id.0).
        let same : numbered_node n ≡ id = ap numbered_node is in
        let there : process_at id (put_process id p w.processes) ≡ Some (alive y) = subst (λ (i : NodeId). process_at i (put_process id p w.processes) ≡ Some (alive y)) same at' in
        still e y (the_some p (alive y) (sym (process-put_same id p w.processes) ∙ there)) u v hu' hv' low at_v (subst (λ (i : ℕ). In (member_numbers u.members) i) is in_u) (λ h. out_v (subst (λ (i : ℕ). In (member_numbers v.members) i) (sym is) h)) g)
        (λ (other : n ≢ id.0). g.ended n y (sym (process-put_other (numbered_node n) id p w.processes (λ s. other (ap (λ (i : NodeId). i.0) s))) ∙ at') u v hu' hv' low at_v in_u out_v) (cases_eq n id.0);
  }

  module _ (id : NodeId) (x : NodeState) (at : process_at id w.processes ≡ Some (alive x)) where
    pub step_carries : (calls : ℕ) (paces : Paces) (s : Stepped) →
        ((e : ℕ) (u v : View) → In w.views u → In w.views v → u.epoch < e → v.epoch ≡ e → In (member_numbers u.members) id.0 → (In (member_numbers v.members) id.0 → ⊥) → StillEnded x s.node) →
        (e : ℕ) → EpochGuarded w e → EpochGuarded (record (with_step w id s) { calls = calls; paces = paces }) e
    step_carries calls paces s still = put_carries (record (with_step w id s) { calls = calls; paces = paces }) id (alive s.node) refl refl
        (λ e y is u v hu hv low at_v in_u out_v g.
        let same : s.node ≡ y = ap (λ (p : Process). p.node) is in
        subst (λ (z : NodeState). z.granted < z.clock + z.skew) same (still e u v hu hv low at_v in_u out_v (g.ended id.0 x at u v hu hv low at_v in_u out_v)))

    pub step_acting : (calls : ℕ) (paces : Paces) (s : Stepped) → (epoch_of s.node ≡ epoch_of x) ⊎ EpochGuarded (record (with_step w id s) { calls = calls; paces = paces }) (epoch_of s.node) → ActsGuarded w (record (with_step w id s) { calls = calls; paces = paces }) id
    step_acting calls paces s epoch = record { was = x; now = s.node; at_was = ap node_of at; at_now = node-put_same id (alive s.node) w.processes; epoch = epoch }

    pub step_guards : (calls : ℕ) (paces : Paces) (s : Stepped) (a : Accepted) → a.world ≡ record (with_step w id s) { calls = calls; paces = paces } → acting_of a ≡ Some id →
        ((e : ℕ) (u v : View) → In w.views u → In w.views v → u.epoch < e → v.epoch ≡ e → In (member_numbers u.members) id.0 → (In (member_numbers v.members) id.0 → ⊥) → StillEnded x s.node) →
        (epoch_of s.node ≡ epoch_of x) ⊎ EpochGuarded (record (with_step w id s) { calls = calls; paces = paces }) (epoch_of s.node) → Guards w a
    step_guards calls paces s a world acting still epoch = record {
      carries = λ e g. subst (λ (z : WorldState). EpochGuarded z e) (sym world) (step_carries calls paces s still e g);
      acting = λ i is. subst (λ (z : WorldState). ActsGuarded w z i) (sym world) (subst (ActsGuarded w (record (with_step w id s) { calls = calls; paces = paces })) (the_some id i (sym acting ∙ is)) (step_acting calls paces s epoch));
    }

    -- an accepted step, whose world and node these are
    pub makes_guards : (s : Stepped) (paces : Paces) →
        ((e : ℕ) (u v : View) → In w.views u → In w.views v → u.epoch < e → v.epoch ≡ e → In (member_numbers u.members) id.0 → (In (member_numbers v.members) id.0 → ⊥) → StillEnded x s.node) →
        (epoch_of s.node ≡ epoch_of x) ⊎ EpochGuarded (accepted w id x s w.calls paces None).world (epoch_of s.node) → (a : Accepted) → makes w id x s paces ≡ Ok a → Guards w a
    makes_guards s paces still epoch a e =
        let b : Accepted = accepted w id x s w.calls paces None in
        let same : b ≡ a = the_accepted b a (makes w id x s paces) refl e in
        step_guards w.calls paces s a (sym (ap (λ (z : Accepted). z.world) same)) (sym (ap acting_of same)) still epoch

    pub seen_guards : (s : Stepped) → SeesSame x s → (a : Accepted) → acts w id x s ≡ Ok a → Guards w a
    seen_guards s seen a e = makes_guards s w.paces (λ e u v hu hv low at_v in_u out_v. seen_ended x s.node seen) (inl (ap (λ (z : Seen). z.epoch) seen)) a e

    pub call_guards : (key : List ℕ) (op : Op) (a : Accepted) → calls_at w id key op x ≡ Ok a → Guards w a
    call_guards key op a e =
        let call : CallNo = record { 0 = w.calls + 1 } in
        let s : Stepped = called x call key op in
        let seen : SeesSame x s = called_seen x call key op in
        let b : Accepted = accepted w id x s (w.calls + 1) w.paces (Some call) in
        let same : b ≡ a = the_accepted b a (calls_at w id key op x) refl e in
        step_guards (w.calls + 1) w.paces s a (sym (ap (λ (z : Accepted). z.world) same)) (sym (ap acting_of same)) (λ e u v hu hv low at_v in_u out_v. seen_ended x s.node seen) (inl (ap (λ (z : Seen). z.epoch) seen))

    -- a clock does not fall
    pub tick_guards : (to : ℕ) (paces : Paces) (a : Accepted) → makes w id x (ticks x to) paces ≡ Ok a → Guards w a
    tick_guards to paces a e = makes_guards (ticks x to) paces (λ e u v hu hv low at_v in_u out_v h. omega arith) (inl refl) a e

  pub aside_guards : (next : WorldState) (v : Option View) → ((e : ℕ) → EpochGuarded w e → EpochGuarded next e) → (a : Accepted) → aside next (record nothing { view = v }) ≡ Ok a → Guards w a
  aside_guards next v carries a e =
      subst (Guards w) (the_accepted (record { world = next; told = []; shown = record nothing { view = v } }) a (aside next (record nothing { view = v })) refl e) (record { carries = carries; acting = λ i none. cc })

  pub tick_all_guards : (to : ℕ) (paces : Paces) (a : Accepted) → aside (with_processes w (map (process_ticked to) w.processes) paces) nothing ≡ Ok a → Guards w a
  tick_all_guards to paces a e = aside_guards (with_processes w (map (process_ticked to) w.processes) paces) None (λ k g. record {
    upto = g.upto;
    ended = λ id y at u v hu hv low at_v in_u out_v.
        let f = ticked_from to (numbered_node id) w.processes (alive y) at in
        ⊎_elim
        (λ (s : alive y ≡ f.0). g.ended id y (f.1 ∙ sym (ap (λ (p : Process). Some p) s)) u v hu hv low at_v in_u out_v)
        (λ (s : alive y ≡ record f.0 { node = (ticks f.0.node to).node }).
        let runs : f.0.crashed ≡ false = sym (ap (λ (p : Process). p.crashed) s) in
        let was = g.ended id f.0.node (f.1 ∙ ap (λ (b : Bool). Some (record { node = f.0.node; crashed = b })) runs) u v hu hv low at_v in_u out_v in
        subst (λ (z : NodeState). z.granted < z.clock + z.skew) (sym (ap (λ (p : Process). p.node) s)) (omega arith)) f.2;
  }) a e

  -- a process that is put, whose lease has ended, or that has crashed
  pub put_guards : (id : NodeId) (p : Process) (paces : Paces) → ((y : NodeState) → p ≡ alive y → y.granted < y.clock + y.skew) → (a : Accepted) → aside (with_processes w (put_process id p w.processes) paces) nothing ≡ Ok a → Guards w a
  put_guards id p paces ended a e = aside_guards (with_processes w (put_process id p w.processes) paces) None
      (put_carries (with_processes w (put_process id p w.processes) paces) id p refl refl (λ e y is u v hu hv low at_v in_u out_v g. ended y is)) a e

  pub crash_guards : (id : NodeId) (x : NodeState) (paces : Paces) (a : Accepted) → aside (with_processes w (put_process id (record { node = x; crashed = true }) w.processes) paces) nothing ≡ Ok a → Guards w a
  crash_guards id x paces a e = put_guards id (record { node = x; crashed = true }) paces (λ y is. absurd (false≢true (sym (ap (λ (p : Process). p.crashed) is)))) a e

  -- a joiner has no lease
  pub join_guards : (id : NodeId) (paces : Paces) (a : Accepted) → aside (with_processes w (put_process id (joining w id) w.processes) paces) nothing ≡ Ok a → Guards w a
  join_guards id paces a e = put_guards id (joining w id) paces (λ y is. subst (λ (p : Process). p.node.granted < p.node.clock + p.node.skew) is (omega arith)) a e
