-- What every world keeps, of one actor of it: its number, and that its clock is one of those that are kept.
use Rattle.std.proofs.Common.{◌≡◌, ℕ, true, false, Some, sym, ap, subst, ◌∙◌}
use Rattle.hk_base.specs.declared.stamp.NodeId.{NodeId}
use Rattle.hk_base.specs.declared.letter.Actor.{Actor}
use Rattle.hk_base.specs.declared.letter.Actor.TheVariants.{Node, Manager}
use Rattle.hk_clocks.specs.Clocks.{ClockState, clock_of}
use Rattle.hk_clocks.specs.Runs.{seen}
use Rattle.hk_manager.specs.Manager.{ManagerState}
use Rattle.hk_node.specs.Node.{NodeState}
use Rattle.hk_earned.specs.Machine.{State, clock}
use Rattle.hk_earned.specs.Earned.{NeverReturns}
use Rattle.hk_world.specs.declared.process.Process.{Process}
use Rattle.hk_world.specs.declared.process.ManagerProcess.{ManagerProcess}
use Rattle.hk_world.specs.World.{WorldState, process_at, manager_at, node_clock, manager_clock, clocks_of}
use Rattle.hk_world.specs.Sound.{IsProcess, IsManagerProcess, IsWorld}
use Rattle.hk_managed.proofs.Agreeing.{IsCouncil}
use Rattle.hk_world.proofs.Processes.{found_holds}
use Rattle.hk_managed.proofs.Chain.{never}
use Rattle.hk_managed.proofs.Mirror.{setting_of, live_seen, clock_seen}

-- actors that run
abbrev pub alive : NodeState → Process
alive x = record { node = x; crashed = false }

abbrev pub managing : ManagerState → ManagerProcess
managing g = record { manager = g; crashed = false }

module _ (w : WorldState) (sound : IsWorld w) where
  pub process_is : (id : NodeId) (p : Process) → process_at id w.processes ≡ Some p → IsProcess w (id, p)
  process_is id p at = found_holds (IsProcess w) id p w.processes sound.processes at

  pub manager_is : (m : ℕ) (p : ManagerProcess) → manager_at m w.managers ≡ Some p → IsManagerProcess w m p
  manager_is m p at = sound.managers m p at

  pub node_reads : (id : NodeId) (x : NodeState) → process_at id w.processes ≡ Some (alive x) → clock_of w.paces (Node id) ≡ Some x.clock
  node_reads id x at = sound.paced (Node id) ∙ ap node_clock at

  pub manager_reads : (m : ℕ) (g : ManagerState) → manager_at m w.managers ≡ Some (managing g) → clock_of w.paces (Manager m) ≡ Some g.clock
  manager_reads m g at = sound.paced (Manager m) ∙ ap manager_clock at

  -- the views are a chain, so whoever one leaves out is in no later one
  pub stay_out : IsCouncil w → (founders : ℕ) → NeverReturns (setting_of w founders)
  stay_out council founders = never w.views sound.each council.chain

-- an actor of the world, in a state with the world's clocks
module _ (w : WorldState) (st : State) (same : st.clocks ≡ clocks_of w) (a : Actor) (now : ℕ) (reads : clock_of w.paces a ≡ Some now) where
  pub is_live_in : (seen st.clocks).live a ≡ true
  is_live_in = subst (λ (c : ClockState). (seen c).live a ≡ true) (sym same) (live_seen (clocks_of w) a now reads)

  pub reads_in : clock st a ≡ now
  reads_in = subst (λ (c : ClockState). (seen c).clock a ≡ now) (sym same) (clock_seen (clocks_of w) a now reads)
