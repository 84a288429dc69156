-- Ticks, crashes and starts are events of clocks.
use Rattle.std.proofs.Common.{◌≡◌, ◌≤◌, ℕ, zero, suc, List, [], ◌∷◌, map, length, Bool, true, false, cond, not, max, Option, Some, None, refl, sym, ap, subst, ◌∙◌, arith, le_refl, slice_get}
use Rattle.std.specs.BTreeMap.{is_at}
use Rattle.std.proofs.lemmas.List.{length-set, length-map}
use Rattle.hk_base.specs.declared.stamp.NodeId.{NodeId}
use Rattle.hk_base.specs.declared.time.TheConstants.{MAX_TIME}
use Rattle.hk_base.specs.declared.letter.Actor.TheVariants.{Node}
use Rattle.hk_base.specs.declared.view.View.{View}
use Rattle.hk_clocks.specs.Clocks.{Paces}
use Rattle.hk_clocks.specs.Steps.{ClockEvent, greatest_clock}
use Rattle.hk_clocks.specs.Steps.ClockEvent.{Start, Stop, Tick, TickAll}
use Rattle.hk_clocks.specs.Runs.{IsEvent}
use Rattle.hk_manager.specs.Steps.{manager_ticks}
use Rattle.hk_node.specs.Steps.{ticks}
use Rattle.hk_earned.specs.Machine.{Setting, State, MayBegin, started_after, next}
use Rattle.hk_earned.specs.Machine.Event.{Clock}
use Rattle.hk_earned.proofs.Places.{by_node}
use Rattle.hk_earned.proofs.Parts.{Parts}
use Rattle.hk_earned.proofs.Going.{event_kept}
use Rattle.hk_world.specs.declared.process.Process.{Process}
use Rattle.hk_world.specs.declared.process.ManagerProcess.{ManagerProcess}
use Rattle.hk_world.specs.World.{WorldState, Processes, by_number, process_at, put_process, manager_at, put_manager, paces_by}
use Rattle.hk_world.specs.Steps.{process_ticked, manager_ticked, joining, is_live}
use Rattle.hk_world.specs.Sound.{IsWorld}
use Rattle.hk_managed.proofs.Agreeing.{IsCouncil}
use Rattle.hk_managed.proofs.Places.{replicated}
use Rattle.hk_managed.proofs.Mirror.{stands_on, NodeStands, IsAbsent, NodeIn, SameAt, same_in, nodes_put, ManagerStands, ManagerIn, managers_put, setting_of, IsEarned, clocks_after}
use Rattle.hk_managed.proofs.Facts.{stay_out}

module _ (w : WorldState) (sound : IsWorld w) (council : IsCouncil w) (e : IsEarned w) (event : ClockEvent) (within : IsEvent event) (may : MayBegin e.state event) where
  abbrev after : State
  after = next (setting_of w e.founders) e.state (Clock event)

  parts_after : Parts (setting_of w e.founders) after
  parts_after = event_kept (setting_of w e.founders) (stay_out w sound council e.founders) e.state (Clock event) (within, may) e.parts

  abbrev GroupOf : ℕ → Setting
  GroupOf managers = record { views = (setting_of w e.founders).views; managers = managers; lease = w.lease; skew = w.skew; founders = e.founders }

  -- the clocks go on; processes and managers may change beside what the machine sees of them
  pub clocks_earned : (paces : Paces) (ps : Processes) (ms : List ManagerProcess) → paces_by w event ≡ paces → length ms ≡ length w.managers → ((n : NodeId) → NodeIn (length w.managers) after n (process_at n ps)) →
      ((m : ℕ) → ManagerIn after m (manager_at m ms)) → IsEarned (record w { processes = ps; managers = ms; paces = paces })
  clocks_earned paces ps ms made many nodes managers = record {
    founders = e.founders;
    state = after;
    parts = subst (λ (n : ℕ). Parts (GroupOf n) after) (sym many) parts_after;
    mirrors = record {
      clocks = clocks_after w e.state.clocks event e.mirrors.clocks ∙ ap (λ (p : Paces). record { skew = w.skew; paces = p }) made;
      nodes = λ n. subst (λ (k : ℕ). NodeIn k after n (process_at n ps)) (sym many) (nodes n);
      managers = managers;
      upto = e.mirrors.upto;
      letters = λ l h. stands_on e.state after (record { asks = λ y h. h; gives = λ y h. h; activates = λ y h. h }) l (e.mirrors.letters l h);
    };
    first = e.first;
  }

  pub managers_after : (m : ℕ) → ManagerIn after m (manager_at m w.managers)
  managers_after m = at (manager_at m w.managers) (e.mirrors.managers m)
    where
      at : (o : Option ManagerProcess) → ManagerIn e.state m o → ManagerIn after m o
      at None h = tt
      at (Some p) h = record { held = h.held; untils = h.untils }

-- no actor starts: then a node is what it was to the machine
abbrev IsQuiet : ClockEvent → Type 0
IsQuiet (Start a clock) = ⊥
IsQuiet (Stop a) = Unit
IsQuiet (Tick a to) = Unit
IsQuiet (TickAll to) = Unit

quiet_begins : (st : State) (event : ClockEvent) → IsQuiet event → MayBegin st event
quiet_begins st (Start a clock) q = absurd q
quiet_begins st (Stop a) q = tt
quiet_begins st (Tick a to) q = tt
quiet_begins st (TickAll to) q = tt

quiet_started : (event : ClockEvent) (started : NodeId → Bool) (n : NodeId) → IsQuiet event → started_after event started n ≡ started n
quiet_started (Start a clock) started n q = absurd q
quiet_started (Stop a) started n q = refl
quiet_started (Tick a to) started n q = refl
quiet_started (TickAll to) started n q = refl

module _ (w : WorldState) (sound : IsWorld w) (council : IsCouncil w) (e : IsEarned w) (event : ClockEvent) (within : IsEvent event) (quiet : IsQuiet event) where
  abbrev then_state : State
  then_state = next (setting_of w e.founders) e.state (Clock event)

  same_at : (n : NodeId) → SameAt e.state then_state n
  same_at n = record { started = quiet_started event e.state.started n quiet; ends = refl; granted = refl }

  nodes_after : (n : NodeId) → NodeIn (length w.managers) then_state n (process_at n w.processes)
  nodes_after n = same_in (length w.managers) e.state then_state n (same_at n) (process_at n w.processes) (e.mirrors.nodes n)

  -- one node's process is put, whose node is what it was to the machine
  pub node_clocked : (id : NodeId) (old p : Process) (paces : Paces) → process_at id w.processes ≡ Some old → p.node.ends ≡ old.node.ends → p.node.granted ≡ old.node.granted → paces_by w event ≡ paces →
      IsEarned (record w { processes = put_process id p w.processes; managers = w.managers; paces = paces })
  node_clocked id old p paces at ends granted made =
      let was : NodeStands e.state id old.node = subst (NodeIn (length w.managers) e.state id) at (e.mirrors.nodes id) in
      clocks_earned w sound council e event within (quiet_begins e.state event quiet) paces (put_process id p w.processes) w.managers made refl
      (nodes_put (length w.managers) e.state then_state w.processes id p e.mirrors.nodes
      (record { started = quiet_started event e.state.started id quiet ∙ was.started; ends = was.ends ∙ sym ends; granted = was.granted ∙ sym granted }) (λ n d. same_at n))
      (managers_after w sound council e event within (quiet_begins e.state event quiet))

  -- one manager is put, that holds and noted what it did
  pub manager_clocked : (m : ℕ) (old p : ManagerProcess) (paces : Paces) → manager_at m w.managers ≡ Some old → p.manager.held ≡ old.manager.held → p.manager.untils ≡ old.manager.untils → paces_by w event ≡ paces →
      IsEarned (record w { processes = w.processes; managers = put_manager m p w.managers; paces = paces })
  manager_clocked m old p paces at held untils made =
      let was : ManagerStands e.state m old.manager = subst (ManagerIn e.state m) at (e.mirrors.managers m) in
      clocks_earned w sound council e event within (quiet_begins e.state event quiet) paces w.processes (put_manager m p w.managers) made (length-set w.managers m p) nodes_after
      (managers_put e.state then_state w.managers m old p at e.mirrors.managers
      (record { held = was.held ∙ sym (ap (λ (v : View). v.epoch) held); untils = was.untils ∙ sym untils }) (λ j d. record { held = refl; untils = refl }))

  -- ---- all clocks rise
  ticked_in : (to : ℕ) (n : NodeId) (ps : Processes) → NodeIn (length w.managers) then_state n (process_at n ps) → NodeIn (length w.managers) then_state n (process_at n (map (process_ticked to) ps))
  ticked_in to n [] h = h
  ticked_in to n (p ∷ ps) h = at (is_at (by_number n) p.0) (is_live p) h (ticked_in to n ps)
    where
      at : (b c : Bool) → NodeIn (length w.managers) then_state n (cond b (Some p.1) (process_at n ps)) → (NodeIn (length w.managers) then_state n (process_at n ps) → NodeIn (length w.managers) then_state n (process_at n (map (process_ticked to) ps))) →
          NodeIn (length w.managers) then_state n (cond b (Some (cond c (record p.1 { node = (ticks p.1.node to).node }) p.1)) (process_at n (map (process_ticked to) ps)))
      at true true h more = record { started = h.started; ends = h.ends; granted = h.granted }
      at true false h more = h
      at false c h more = more h

  pub all_clocked : (to : ℕ) (paces : Paces) → paces_by w event ≡ paces →
      IsEarned (record w { processes = map (process_ticked to) w.processes; managers = map (manager_ticked to) w.managers; paces = paces })
  all_clocked to paces made =
      clocks_earned w sound council e event within (quiet_begins e.state event quiet) paces (map (process_ticked to) w.processes) (map (manager_ticked to) w.managers) made (length-map w.managers (manager_ticked to))
      (λ n. ticked_in to n w.processes (nodes_after n)) managers_ticked
    where
      one : (m : ℕ) (p : ManagerProcess) (b : Bool) → ManagerStands e.state m p.manager → ManagerStands then_state m (cond b (record p { manager = (manager_ticks p.manager to).manager }) p).manager
      one m p true h = record { held = h.held; untils = h.untils }
      one m p false h = record { held = h.held; untils = h.untils }

      ticked : (m : ℕ) (ms : List ManagerProcess) (k : ℕ) → ManagerIn e.state m (slice_get ms k) → ManagerIn then_state m (slice_get (map (manager_ticked to) ms) k)
      ticked m [] k h = tt
      ticked m (p ∷ ms) zero h = one m p (not p.crashed) h
      ticked m (p ∷ ms) (suc k) h = ticked m ms k h

      managers_ticked : (m : ℕ) → ManagerIn then_state m (manager_at m (map (manager_ticked to) w.managers))
      managers_ticked m = ticked m w.managers m (e.mirrors.managers m)

-- ---- a joiner starts
low_greatest : (low : ℕ) (paces : Paces) → low ≤ greatest_clock low paces
low_greatest low [] = le_refl low
low_greatest low (p ∷ paces) = let h = low_greatest (max low p.1.clock) paces in omega (arith, h)

module _ (w : WorldState) (sound : IsWorld w) (council : IsCouncil w) (e : IsEarned w) (id : NodeId) (at : process_at id w.processes ≡ None) where
  abbrev begins_at : ℕ
  begins_at = greatest_clock 1 w.paces

  absent : IsAbsent (length w.managers) e.state id
  absent = subst (NodeIn (length w.managers) e.state id) at (e.mirrors.nodes id)

  pub started_earned : begins_at ≤ MAX_TIME →
      IsEarned (record w { processes = put_process id (joining w id) w.processes; managers = w.managers; paces = paces_by w (Start (Node id) begins_at) })
  started_earned within =
      clocks_earned w sound council e (Start (Node id) begins_at) within (absent.started, low_greatest 1 w.paces) (paces_by w (Start (Node id) begins_at)) (put_process id (joining w id) w.processes) w.managers refl refl
      (nodes_put (length w.managers) e.state then_started w.processes id (joining w id) e.mirrors.nodes
      (record {
        started = by_node (λ (b : Bool). b ≡ true) id true e.state.started id (λ s. refl) (λ d. absurd (d refl));
        ends = absent.ends ∙ replicated (length w.managers) 0;
        granted = absent.granted;
      })
      (λ n d. record { started = by_node (λ (b : Bool). b ≡ e.state.started n) id true e.state.started n (λ s. absurd (d s)) (λ o. refl); ends = refl; granted = refl }))
      (managers_after w sound council e (Start (Node id) begins_at) within (absent.started, low_greatest 1 w.paces))
    where
      then_started : State
      then_started = next (setting_of w e.founders) e.state (Clock (Start (Node id) begins_at))
