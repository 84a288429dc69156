-- A step of a node is one event of the machine of leases, or none.
use Rattle.std.proofs.Common.{◌≡◌, ◌≢◌, ◌≤◌, ℕ, List, [], ◌∷◌, length, Bool, true, false, cond, nat_lt, max, Some, None, refl, sym, ap, subst, ◌∙◌, inl, inr}
use Rattle.std.specs.List.{AllByRecursion}
use Rattle.hk_base.specs.declared.stamp.NodeId.{NodeId}
use Rattle.hk_base.specs.declared.letter.Actor.TheVariants.{Node, Manager}
use Rattle.hk_base.specs.declared.letter.Body.TheVariants.{LeaseAsk}
use Rattle.hk_lease.specs.Ends.{granted_end}
use Rattle.hk_node.specs.Node.{NodeState, epoch_of}
use Rattle.hk_node.specs.Stepped.{Stepped, idle}
use Rattle.hk_node.specs.Heard.{raised}
use Rattle.hk_node.specs.Steps.{asks_lease, granted_by}
use Rattle.hk_earned.specs.Machine.{State, Ask, Give, In, with_end, clock, next, put_node}
use Rattle.hk_earned.specs.Machine.Event.{AskLease, TakeGive}
use Rattle.hk_earned.proofs.Places.{by_node}
use Rattle.hk_earned.proofs.Parts.{Parts}
use Rattle.hk_earned.proofs.Going.{event_kept}
use Rattle.hk_world.specs.World.{WorldState, process_at, manager_at}
use Rattle.hk_world.specs.Steps.{with_step}
use Rattle.hk_world.specs.Sound.{IsWorld}
use Rattle.hk_managed.proofs.Agreeing.{IsCouncil}
use Rattle.hk_managed.proofs.Places.{raised_end}
use Rattle.hk_managed.proofs.NodeSteps.{ArePlain}
use Rattle.hk_managed.proofs.Mirror.{Stands, Widens, all_plain, more_stand, NodeStands, NodeIn, SameAt, SameBy, same_by, nodes_put, setting_of, IsEarned}
use Rattle.hk_managed.proofs.Facts.{alive, process_is, node_reads, is_live_in, reads_in, stay_out}

module _ (w : WorldState) (sound : IsWorld w) (council : IsCouncil w) (e : IsEarned w) (id : NodeId) (x : NodeState) (at : process_at id w.processes ≡ Some (alive x)) (calls : ℕ) where
  here : NodeStands e.state id x
  here = subst (NodeIn (length w.managers) e.state id) at (e.mirrors.nodes id)

  -- the node's step, beside a state that changed at it alone
  step_earned : (s : Stepped) (after : State) → Parts (setting_of w e.founders) after → after.clocks ≡ e.state.clocks → Widens e.state after → NodeStands after id s.node →
      ((n : NodeId) → n ≢ id → SameAt e.state after n) → ((j : ℕ) → SameBy e.state after j) → AllByRecursion (Stands after) s.letters → IsEarned (record (with_step w id s) { calls = calls })
  step_earned s after parts clocks wide now others by letters = record {
    founders = e.founders;
    state = after;
    parts = parts;
    mirrors = record {
      clocks = clocks ∙ e.mirrors.clocks;
      nodes = nodes_put (length w.managers) e.state after w.processes id (alive s.node) e.mirrors.nodes now others;
      managers = λ j. same_by e.state after j (by j) (manager_at j w.managers) (e.mirrors.managers j);
      upto = λ m. subst (λ (h : ℕ). h ≤ length w.views) (sym (by m).held) (e.mirrors.upto m);
      letters = more_stand e.state after wide w.letters s.letters e.mirrors.letters letters;
    };
    first = e.first;
  }

  -- no lease is asked for, and none is given
  pub quiet_earned : (s : Stepped) → s.node.ends ≡ x.ends → s.node.granted ≡ x.granted → ArePlain s.letters → IsEarned (record (with_step w id s) { calls = calls })
  quiet_earned s ends granted plain = step_earned s e.state e.parts refl
      (record { asks = λ y h. h; gives = λ y h. h; activates = λ y h. h })
      (record { started = here.started; ends = here.ends ∙ sym ends; granted = here.granted ∙ sym granted })
      (λ n d. record { started = refl; ends = refl; granted = refl }) (λ j. record { held = refl; untils = refl }) (all_plain e.state s.letters plain)

  -- the node asks a manager, and tells its clock
  pub ask_earned : (m : ℕ) → IsEarned (record (with_step w id (asks_lease x m)) { calls = calls })
  ask_earned m = by_there (nat_lt m x.managers)
    where
      reads : clock e.state (Node id) ≡ x.clock
      reads = reads_in w e.state e.mirrors.clocks (Node id) x.clock (node_reads w sound id x at)

      after : State
      after = next (setting_of w e.founders) e.state (AskLease id m)

      asked : Ask
      asked = record { node = id; manager = m; asked = clock e.state (Node id) }

      told : (n : NodeId) (t : ℕ) → n ≡ id → t ≡ clock e.state (Node id) → record { node = n; manager = m; asked = t } ≡ asked
      told n t a b = rw (a, b) refl

      asks : Stepped
      asks = record { node = x; letters = record { epoch = epoch_of x; from = Node x.id; to = Manager m; body = LeaseAsk x.clock } ∷ []; told = []; installed = None }

      by_there : (b : Bool) → IsEarned (record (with_step w id (cond b asks (idle x))) { calls = calls })
      by_there true = step_earned asks after
          (event_kept (setting_of w e.founders) (stay_out w sound council e.founders) e.state (AskLease id m) (is_live_in w e.state e.mirrors.clocks (Node id) x.clock (node_reads w sound id x at)) e.parts) refl
          (record { asks = λ y h. inr h; gives = λ y h. h; activates = λ y h. h }) (record { started = here.started; ends = here.ends; granted = here.granted })
          (λ n d. record { started = refl; ends = refl; granted = refl }) (λ j. record { held = refl; untils = refl })
          (inl (told x.id x.clock (process_is w sound id (alive x) at).own (sym reads)), tt)
      by_there false = quiet_earned (idle x) refl refl tt

  -- an end that a manager granted comes to the node
  pub give_earned : (m end : ℕ) → In e.state.gives (record { manager = m; node = id; end = end }) → IsEarned (record (with_step w id (granted_by x m end)) { calls = calls })
  give_earned m end sent = step_earned (granted_by x m end) after
      (event_kept (setting_of w e.founders) (stay_out w sound council e.founders) e.state (TakeGive give) (is_live_in w e.state e.mirrors.clocks (Node id) x.clock (node_reads w sound id x at), sent) e.parts) refl
      (record { asks = λ y h. h; gives = λ y h. h; activates = λ y h. h })
      (record { started = here.started; ends = ends_now; granted = granted_now })
      (λ n d. record {
        started = refl;
        ends = by_node (λ (l : List ℕ). l ≡ e.state.ends n) id ends e.state.ends n (λ s. absurd (d s)) (λ o. refl);
        granted = by_node (λ (g : ℕ). g ≡ e.state.granted n) id granted e.state.granted n (λ s. absurd (d s)) (λ o. refl);
      }) (λ j. record { held = refl; untils = refl }) tt
    where
      give : Give
      give = record { manager = m; node = id; end = end }

      after : State
      after = next (setting_of w e.founders) e.state (TakeGive give)

      ends : List ℕ
      ends = with_end m end (e.state.ends id)

      granted : ℕ
      granted = max (e.state.granted id) (granted_end ends)

      ends_are : ends ≡ raised m end x.ends
      ends_are = ap (λ (l : List ℕ). with_end m end l) here.ends ∙ raised_end m end x.ends

      ends_now : put_node id ends e.state.ends id ≡ raised m end x.ends
      ends_now = by_node (λ (l : List ℕ). l ≡ raised m end x.ends) id ends e.state.ends id (λ s. ends_are) (λ d. absurd (d refl))

      granted_now : put_node id granted e.state.granted id ≡ max x.granted (granted_end (raised m end x.ends))
      granted_now = by_node (λ (g : ℕ). g ≡ max x.granted (granted_end (raised m end x.ends))) id granted e.state.granted id
          (λ s. ap (λ (g : ℕ). max g (granted_end ends)) here.granted ∙ ap (λ (l : List ℕ). max x.granted (granted_end l)) ends_are) (λ d. absurd (d refl))
