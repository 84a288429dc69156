-- Which node an event lets act.
use Rattle.std.proofs.Common.{◌≡◌, ◌+◌, ◌-◌, ◌&&◌, ◌<◌, ◌≤◌, ℕ, suc, Bool, true, false, cond, not, nat_lt, nat_le, List, [], ◌∷◌, length, get_or, Option, Some, None, Result, Ok, Err, refl, sym, ap, subst, ◌∙◌, arith}
use Rattle.std.specs.List.{AllByRecursion, find}
use Rattle.std.specs.Option.{option_map, is_some}
use Rattle.std.proofs.lemmas.Bool.{lt-ltb, false≢true}
use Rattle.hk_base.specs.declared.stamp.NodeId.{NodeId}
use Rattle.hk_base.specs.declared.view.View.{View}
use Rattle.hk_node.specs.Node.{NodeState, epoch_of}
use Rattle.hk_base.specs.View.{is_member}
use Rattle.hk_node.specs.declared.event.NodeEvent.TheVariants as NodeEvent
use Rattle.hk_node.specs.Steps.{installs}
use Rattle.hk_event.specs.declared.event.Event.TheVariants.{Install}
use Rattle.hk_world.specs.declared.process.Process.{Process}
use Rattle.hk_world.specs.declared.process.ManagerProcess.{ManagerProcess}
use Rattle.hk_event.specs.declared.refused.Refused.{Refused}
use Rattle.hk_event.specs.declared.refused.Refused.TheVariants.{LeaseRuns, Managed, Crashed}
use Rattle.hk_world.specs.World.{WorldState, Processes, process_at, numbered, last_view}
use Rattle.hk_world.specs.Steps.{Accepted, world_step, live, live_at, running_at, acts, is_live, may_run, was_member, guarded_by, installs_at, unmanaged}
use Rattle.hk_world.specs.Sound.{IsWorld, IsProcess}
use Rattle.hk_world.specs.Acting.{made_by, running}
use Rattle.hk_world.specs.Allowed.{may_run_by, is_managed}
use Rattle.hk_world.specs.Views.{given_before}
use Rattle.hk_world.proofs.Viewed.{was_given}

last_or : (v : View) (vs : List View) (d : View) → get_or (v ∷ vs) (length vs) d ≡ last_view (v ∷ vs)
last_or v [] d = refl
last_or v (w ∷ vs) d = last_or w vs d

pub last_at : (vs : List View) (d : View) → 1 ≤ length vs → get_or vs (length vs - 1) d ≡ last_view vs
last_at [] d some = absurd (omega arith)
last_at (v ∷ vs) d some = let same : suc (length vs) - 1 ≡ length vs = omega arith in subst (λ (n : ℕ). get_or (v ∷ vs) n d ≡ last_view (v ∷ vs)) (sym same) (last_or v vs d)

-- ---- a live node
pub by_node : (w : WorldState) (id : NodeId) (step : NodeState → Result Accepted Refused) (node : NodeState) → running (process_at id w.processes) ≡ Ok node → live w id step ≡ step node
by_node w id step node is = at (process_at id w.processes) is
  where
    run : (b : Bool) (p : Process) → cond b (Err Crashed) (Ok p.node) ≡ Ok node → running_at b p.node step ≡ step node
    run true p h = absurd cc
    run false p h = let same : p.node ≡ node = cc in ap step same

    at : (o : Option Process) → running o ≡ Ok node → live_at o step ≡ step node
    at None h = absurd cc
    at (Some p) h = run p.crashed p h

-- ---- the guard
same_test : (w : WorldState) (epoch : ℕ) (view : View) → IsWorld w → w.managers ≡ [] → numbered epoch w.views ≡ Some view → (p : NodeId × Process) → IsProcess w p → may_run w.views view p ≡ may_run_by w.skew (given_before w.views epoch) view p
same_test w epoch view sound none at p is =
    let named : view.epoch ≡ epoch = (sound.views none).epochs epoch view at in
    let given : was_member w.views view.epoch p.0 ≡ nat_lt p.0.0 (given_before w.views epoch) = ap (λ (e : ℕ). was_member w.views e p.0) named ∙ was_given w.views epoch view p.0 (sound.views none) at in
    ap (λ (b : Bool). is_live p && (b && (not (is_member p.0 view.members) && nat_le (p.1.node.clock + p.1.node.skew) p.1.node.granted))) given
    ∙ ap (λ (s : ℕ). is_live p && (nat_lt p.0.0 (given_before w.views epoch) && (not (is_member p.0 view.members) && nat_le (p.1.node.clock + s) p.1.node.granted))) is.same_skew

same_find : (w : WorldState) (epoch : ℕ) (view : View) → IsWorld w → w.managers ≡ [] → numbered epoch w.views ≡ Some view → (ps : Processes) → AllByRecursion (IsProcess w) ps → find (may_run w.views view) ps ≡ find (may_run_by w.skew (given_before w.views epoch) view) ps
same_find w epoch view sound none at [] all = refl
same_find w epoch view sound none at (p ∷ ps) all =
    ap (λ (b : Bool). cond b (Some p) (find (may_run w.views view) ps)) (same_test w epoch view sound none at p all.0)
    ∙ ap (λ (o : Option (NodeId × Process)). cond (may_run_by w.skew (given_before w.views epoch) view p) (Some p) o) (same_find w epoch view sound none at ps all.1)

guard_at : (w : WorldState) (id : NodeId) (node : NodeState) (view : View) → is_member id view.members ≡ true → epoch_of node < view.epoch → installs_at (Some view) w id node ≡ guarded_by (find (may_run w.views view) w.processes) w id node view
guard_at w id node view m low = rw (m, lt-ltb (epoch_of node) view.epoch low) refl

pub install_checked : (w : WorldState) (id : NodeId) (epoch : ℕ) (node : NodeState) (view : View) → IsWorld w → w.managers ≡ [] → running (process_at id w.processes) ≡ Ok node → numbered epoch w.views ≡ Some view → is_member id view.members ≡ true → epoch_of node < view.epoch →
    world_step w (Install id epoch) ≡ guarded_by (find (may_run_by w.skew (given_before w.views epoch) view) w.processes) w id node view
install_checked w id epoch node view sound none runs at m low =
    ap (λ (ms : List ManagerProcess). unmanaged ms (live w id (λ (n : NodeState). installs_at (numbered epoch w.views) w id n))) none
    ∙ by_node w id (λ (n : NodeState). installs_at (numbered epoch w.views) w id n) node runs
    ∙ ap (λ (o : Option View). installs_at o w id node) at
    ∙ guard_at w id node view m low
    ∙ ap (λ (o : Option (NodeId × Process)). guarded_by o w id node view) (same_find w epoch view sound none at w.processes sound.processes)

pub guard_refuses : (o : Option (NodeId × Process)) (w : WorldState) (id : NodeId) (node : NodeState) (view : View) (refused : Refused) → option_map (λ (p : NodeId × Process). LeaseRuns p.0 p.1.node.granted) o ≡ Some refused → guarded_by o w id node view ≡ Err refused
guard_refuses None w id node view refused h = absurd cc
guard_refuses (Some p) w id node view refused h = let same : LeaseRuns p.0 p.1.node.granted ≡ refused = cc in ap (λ (r : Refused). Err r) same

pub guard_lets : (o : Option (NodeId × Process)) (w : WorldState) (id : NodeId) (node : NodeState) (view : View) → option_map (λ (p : NodeId × Process). LeaseRuns p.0 p.1.node.granted) o ≡ None → running (process_at id w.processes) ≡ Ok node →
    guarded_by o w id node view ≡ made_by w id None (NodeEvent.Install view)
guard_lets (Some p) w id node view h runs = absurd cc
guard_lets None w id node view h runs = sym (by_node w id (λ (n : NodeState). acts w id n (installs n view)) node runs)

pub not_there : {X : Type 0} (o : Option X) → is_some o ≡ false → o ≡ None
not_there None e = refl
not_there (Some x) e = absurd (false≢true (sym e))

-- ---- a group with managers, or without
pub managed_is : (ms : List ManagerProcess) (answer : Result Accepted Refused) → is_managed ms ≡ true → unmanaged ms answer ≡ Err Managed
managed_is [] answer e = absurd (false≢true e)
managed_is (p ∷ ms) answer e = refl

pub no_managers : (ms : List ManagerProcess) → is_managed ms ≡ false → ms ≡ []
no_managers [] e = refl
no_managers (p ∷ ms) e = absurd (false≢true (sym e))

pub unmanaged_is : (ms : List ManagerProcess) (answer : Result Accepted Refused) → is_managed ms ≡ false → unmanaged ms answer ≡ answer
unmanaged_is [] answer e = refl
unmanaged_is (p ∷ ms) answer e = absurd (false≢true (sym e))
