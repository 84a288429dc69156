-- An event that is accepted has passed its checks: what is left is a step of a live node, or of a live manager.
use Rattle.std.proofs.Common.{◌≡◌, ◌≤◌, ℕ, List, [], ◌∷◌, length, Bool, true, false, Option, Some, None, Result, Ok, refl, ap, sym, ◌∙◌, arith}
use Rattle.hk_base.specs.declared.stamp.NodeId.{NodeId}
use Rattle.hk_base.specs.declared.letter.Actor.{Actor}
use Rattle.hk_base.specs.declared.letter.Actor.TheVariants.{Node, Manager}
use Rattle.hk_manager.specs.Manager.{ManagerState}
use Rattle.hk_node.specs.Node.{NodeState}
use Rattle.hk_event.specs.declared.refused.Refused.{Refused}
use Rattle.hk_world.specs.declared.process.Process.{Process}
use Rattle.hk_world.specs.declared.process.ManagerProcess.{ManagerProcess}
use Rattle.hk_world.specs.World.{WorldState, process_at, manager_at}
use Rattle.hk_world.specs.Steps.{Accepted, running_at, live_at, live, managing_at, live_manager_at, live_manager, live_actor, unmanaged}
use Rattle.hk_managed.proofs.Facts.{alive, managing}

abbrev accepts : Accepted → Result Accepted Refused
accepts a = Ok a

pub the_accepted : (r : Result Accepted Refused) (a b : Accepted) → r ≡ Ok a → r ≡ Ok b → a ≡ b
the_accepted r a b p q = same (sym p ∙ q)
  where
    same : {x y : Accepted} → accepts x ≡ accepts y → x ≡ y
    same e = cc

module _ (P : Type 0) (w : WorldState) (a : Accepted) where
  pub node_step : (id : NodeId) (step : NodeState → Result Accepted Refused) → ((x : NodeState) → process_at id w.processes ≡ Some (alive x) → step x ≡ Ok a → P) → live w id step ≡ Ok a → P
  node_step id step go_on e = by_process (process_at id w.processes) refl e
    where
      by_crashed : (p : Process) → process_at id w.processes ≡ Some p → (b : Bool) → p.crashed ≡ b → running_at b p.node step ≡ Ok a → P
      by_crashed p at true c e = absurd cc
      by_crashed p at false c e = go_on p.node (at ∙ ap (λ (b : Bool). Some (record { node = p.node; crashed = b })) c) e

      by_process : (o : Option Process) → process_at id w.processes ≡ o → live_at o step ≡ Ok a → P
      by_process None at e = absurd cc
      by_process (Some p) at e = by_crashed p at p.crashed refl e

  pub manager_step : (m : ℕ) (step : ManagerState → Result Accepted Refused) → ((g : ManagerState) → manager_at m w.managers ≡ Some (managing g) → step g ≡ Ok a → P) → live_manager w m step ≡ Ok a → P
  manager_step m step go_on e = by_process (manager_at m w.managers) refl e
    where
      by_crashed : (p : ManagerProcess) → manager_at m w.managers ≡ Some p → (b : Bool) → p.crashed ≡ b → managing_at b p.manager step ≡ Ok a → P
      by_crashed p at true c e = absurd cc
      by_crashed p at false c e = go_on p.manager (at ∙ ap (λ (b : Bool). Some (record { manager = p.manager; crashed = b })) c) e

      by_process : (o : Option ManagerProcess) → manager_at m w.managers ≡ o → live_manager_at o step ≡ Ok a → P
      by_process None at e = absurd cc
      by_process (Some p) at e = by_crashed p at p.crashed refl e

  pub actor_step : (actor : Actor) (step : NodeId → NodeState → Result Accepted Refused) (by_manager : ℕ → ManagerState → Result Accepted Refused) →
      ((id : NodeId) (x : NodeState) → actor ≡ Node id → process_at id w.processes ≡ Some (alive x) → step id x ≡ Ok a → P) →
      ((m : ℕ) (g : ManagerState) → actor ≡ Manager m → manager_at m w.managers ≡ Some (managing g) → by_manager m g ≡ Ok a → P) → live_actor w actor step by_manager ≡ Ok a → P
  actor_step (Node id) step by_manager node manager e = node_step id (step id) (λ x at e. node id x refl at e) e
  actor_step (Manager m) step by_manager node manager e = manager_step m (by_manager m) (λ g at e. manager m g refl at e) e

  -- a group with managers is not told its views and leases
  pub not_told : (ms : List ManagerProcess) (answer : Result Accepted Refused) → 1 ≤ length ms → unmanaged ms answer ≡ Ok a → P
  not_told [] answer some e = absurd (omega (arith, some))
  not_told (p ∷ ms) answer some e = absurd cc
