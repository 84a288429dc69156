-- What a world has: entries of its lists, rows in order, and clocks that rise together.
use Rattle.std.proofs.Common.{◌≡◌, ◌⊎◌, ℕ, Bool, true, false, cond, not, List, [], ◌∷◌, length, map, ◌∙◌, sym, refl, ap, subst, inl, inr, Option, Some, None, Result, Ok}
use Rattle.std.specs.List.{AllByRecursion}
use Rattle.std.specs.Option.{option_map}
use Rattle.std.specs.List.Sorted.{IsStrictlySortedBy}
use Rattle.std.specs.Map.{keys_of}
use Rattle.std.proofs.lemmas.Map.Made.{lookup-map_values}
use Rattle.hk_base.specs.declared.stamp.NodeId.{NodeId}
use Rattle.hk_copy.specs.Batches.{key_cmp}
use Rattle.hk_register.specs.Machine.{In}
use Rattle.hk_node.specs.Node.{NodeState}
use Rattle.hk_node.specs.Steps.{ticks}
use Rattle.hk_world.specs.declared.process.Process.{Process}
use Rattle.hk_event.specs.declared.refused.Refused.{Refused}
use Rattle.hk_world.specs.World.{WorldState, Processes, process_at}
use Rattle.hk_world.specs.Steps.{Accepted, process_ticked}
use Rattle.hk_world.specs.Sound.{IsWorld, IsProcess}
use Rattle.hk_effects.specs.Own.{IsOwn}
use Rattle.hk_effects.proofs.Processes.{process_holds}
use Rattle.hk_effects.proofs.Accepting.{alive}

pub all_in : {X : Type 0} (P : X → Type 0) (xs : List X) (x : X) → AllByRecursion P xs → In xs x → P x
all_in P [] x all h = absurd h
all_in P (y ∷ xs) x all (inl e) = subst P (sym e) all.0
all_in P (y ∷ xs) x all (inr h) = all_in P xs x all.1 h

pub the_some : {X : Type 0} (x y : X) → Some x ≡ Some y → x ≡ y
the_some x y e = cc

pub the_accepted : (a b : Accepted) (r : Result Accepted Refused) → r ≡ Ok a → r ≡ Ok b → a ≡ b
the_accepted a b r e f = cc

-- a node's rows stand in key order
pub ordered_rows : (w : WorldState) → IsWorld w → (id : NodeId) (x : NodeState) → process_at id w.processes ≡ Some (alive x) → IsStrictlySortedBy key_cmp (keys_of x.rows)
ordered_rows w sound id x at = (process_holds (IsProcess w) id (alive x) w.processes sound.processes at).node.ordered

-- with no managers in the group, a node knows of none
pub unmanaged : (w : WorldState) → IsOwn w → w.managers ≡ [] → (id : NodeId) (x : NodeState) → process_at id w.processes ≡ Some (alive x) → x.managers ≡ 0
unmanaged w own none id x at = (process_holds (IsProcess w) id (alive x) w.processes own.sound.processes at).managed ∙ ap length none

-- ---- clocks
pub process_ticked_at : (to : ℕ) (id : NodeId) (ps : Processes) → process_at id (map (process_ticked to) ps) ≡ option_map (λ (p : Process). cond (not p.crashed) (record p { node = (ticks p.node to).node }) p) (process_at id ps)
process_ticked_at to id ps = lookup-map_values (λ (p : Process). cond (not p.crashed) (record p { node = (ticks p.node to).node }) p) _ ps

-- a process that ticked was there, with what it was, or with a clock that did not fall
pub ticked_from : (to : ℕ) (id : NodeId) (ps : Processes) (q : Process) → process_at id (map (process_ticked to) ps) ≡ Some q →
    (p : Process) × (process_at id ps ≡ Some p) × ((q ≡ p) ⊎ (q ≡ record p { node = (ticks p.node to).node }))
ticked_from to id ps q e = by_process (process_at id ps) refl (sym (process_ticked_at to id ps) ∙ e)
  where
    by_live : (p : Process) (b : Bool) → cond b (record p { node = (ticks p.node to).node }) p ≡ q → (q ≡ p) ⊎ (q ≡ record p { node = (ticks p.node to).node })
    by_live p true e = inr (sym e)
    by_live p false e = inl (sym e)

    by_process : (o : Option Process) → process_at id ps ≡ o → option_map (λ (p : Process). cond (not p.crashed) (record p { node = (ticks p.node to).node }) p) o ≡ Some q →
        (p : Process) × (process_at id ps ≡ Some p) × ((q ≡ p) ⊎ (q ≡ record p { node = (ticks p.node to).node }))
    by_process None at e = cc
    by_process (Some p) at e = (p, at, by_live p (not p.crashed) (the_some (cond (not p.crashed) (record p { node = (ticks p.node to).node }) p) q e))
