-- Each accepted event keeps that the world is mirrored, and that what its nodes heard stands among its letters.
use Rattle.std.proofs.Common.{◌≡◌, ◌≢◌, ◌≤◌, ◌+◌, ◌&&◌, ℕ, List, [], ◌∷◌, ◌++◌, map, length, Bool, true, false, cond, nat_eq, nat_lt, Option, Some, None, Result, Ok, Err, refl, sym, ap, subst, ◌∙◌, inl, ⊎_elim, arith, append-nil}
use Rattle.std.specs.BTreeMap.{is_at}
use Rattle.std.proofs.lemmas.List.{length-set, length-map}
use Rattle.hk_base.specs.declared.stamp.NodeId.{NodeId}
use Rattle.hk_base.specs.declared.call.CallNo.{CallNo}
use Rattle.hk_base.specs.declared.call.Op.{Op}
use Rattle.hk_base.specs.declared.time.TheConstants.{MAX_TIME}
use Rattle.hk_base.specs.declared.view.View.{View}
use Rattle.hk_base.specs.declared.view.Change.{Change}
use Rattle.hk_base.specs.declared.letter.Actor.{Actor}
use Rattle.hk_base.specs.declared.letter.Actor.TheVariants.{Node, Manager}
use Rattle.hk_base.specs.declared.letter.Letter.{Letter}
use Rattle.hk_base.specs.declared.letter.Body.{Body}
use Rattle.hk_base.specs.declared.letter.Body.TheVariants as Body
use Rattle.hk_lease.specs.declared.grants.NotPast.{NotPast as StillRuns}
use Rattle.hk_lease.specs.Past.{past_answer}
use Rattle.hk_key.specs.Table.{resend}
use Rattle.hk_clocks.specs.declared.fault.ClockFault.{ClockFault}
use Rattle.hk_clocks.specs.Clocks.{ClockState, Paces}
use Rattle.hk_clocks.specs.Steps.{clock_step, greatest_clock}
use Rattle.hk_clocks.specs.Steps.{ClockEvent}
use Rattle.hk_manager.specs.declared.event.ManagerEvent.TheVariants as ManagerEvent
use Rattle.hk_manager.specs.declared.fault.ManagerFault.{ManagerFault}
use Rattle.hk_manager.specs.Manager.{ManagerState}
use Rattle.hk_manager.specs.Sends.{to_members}
use Rattle.hk_manager.specs.Steps.{ManagerStepped, sends, receives as manager_receives, proposes, activates_by, manager_step as step_of, manager_ticks}
use Rattle.hk_node.specs.Rows.{find_row}
use Rattle.hk_node.specs.Node.{NodeState, epoch_in, epoch_of, is_other}
use Rattle.hk_node.specs.Stepped.{Stepped, idle}
use Rattle.hk_node.specs.Calls.{called}
use Rattle.hk_node.specs.Copies.{asks_copy}
use Rattle.hk_node.specs.Steps.{heard, received, is_addressed, receives_from, receives, resent, replayed, asks_lease, ticks, activated_by}
use Rattle.hk_earned.specs.Machine.{In}
use Rattle.hk_earned.proofs.Places.{which_node}
use Rattle.hk_event.specs.declared.event.Event.{Event}
use Rattle.hk_event.specs.declared.event.Event.TheVariants.{Call, Take, Tick, TickAll, Crash, Resend, Replay, Copy, Start, Agree, Install, Lease, AskLease, Propose, Activate}
use Rattle.hk_world.specs.declared.process.Process.{Process}
use Rattle.hk_world.specs.declared.process.ManagerProcess.{ManagerProcess}
use Rattle.hk_event.specs.declared.refused.Refused.{Refused}
use Rattle.hk_event.specs.declared.refused.Refused.TheVariants.{NotMember}
use Rattle.hk_world.specs.World.{WorldState, Processes, by_number, process_at, put_process, manager_at, put_manager, clocks_of, paces_by, numbered, last_view}
use Rattle.hk_world.specs.Steps.{Accepted, nothing, aside, with_step, shown_of, acts, with_manager_step, manager_shown, manager_acts, calls_at, takes, ticked_by, ticks_at, manager_ticked_by, manager_ticks_at, is_live, process_ticked, manager_ticked, all_ticked_by, crashes_at, manager_crashes_at, joining, may_join, starts_at, agrees, installs_at, leases_at, live, world_step}
use Rattle.hk_world.specs.Sound.{IsWorld, IsEvent}
use Rattle.hk_managed.proofs.Agreeing.{IsCouncil}
use Rattle.hk_world.proofs.Processes.{put_same}
use Rattle.hk_managed.proofs.Places.{put_other, letter_in, index_replicated, length_replicated}
use Rattle.hk_managed.proofs.NodeSteps.{IsQuiet, idle_quiet, found_quiet, given_quiet, called_quiet, replayed_quiet, asks_quiet, received_quiet, activated_heard}
use Rattle.hk_managed.proofs.ManagerSteps.{proposed}
use Rattle.hk_managed.proofs.Mirror.{IsEarned, stands_give, paces_made}
use Rattle.hk_managed.proofs.Facts.{alive, managing, process_is}
use Rattle.hk_managed.proofs.NodeEvents.{quiet_earned, ask_earned, give_earned}
use Rattle.hk_managed.proofs.ManagerEvents.{learned_earned, activates_earned, receipt_earned}
use Rattle.hk_managed.proofs.ClockEvents.{node_clocked, manager_clocked, all_clocked, started_earned}
use Rattle.hk_managed.proofs.Beginning.{HasBegun, HasHeard, AreSent, heard_on, has_sent, quiet_heard, activate_heard}
use Rattle.hk_managed.proofs.Accepting.{the_accepted, node_step, manager_step, actor_step, not_told}

-- what a process's node heard stands among the letters
abbrev pub HeardIn : ℕ → List Letter → Option Process → Type 0
HeardIn managers letters None = Unit
HeardIn managers letters (Some p) = HasHeard managers letters p.node

abbrev pub AllHeard : ℕ → List Letter → Processes → Type 0
AllHeard managers letters ps = (n : NodeId) → HeardIn managers letters (process_at n ps)

pub record IsKept (w : WorldState) : Type 0 where
  pub some : 1 ≤ length w.managers
  pub earned : IsEarned w
  pub heard : AllHeard (length w.managers) w.letters w.processes

-- ---- processes that are put, letters that are sent
more_heard : (managers : ℕ) (letters more : List Letter) (o : Option Process) → HeardIn managers letters o → HeardIn managers (letters ++ more) o
more_heard managers letters more None h = tt
more_heard managers letters more (Some p) h = heard_on managers letters more p.node h

put_heard : (managers : ℕ) (letters more : List Letter) (ps : Processes) (id : NodeId) (p : Process) → AllHeard managers letters ps → HasHeard managers (letters ++ more) p.node → AllHeard managers (letters ++ more) (put_process id p ps)
put_heard managers letters more ps id p was now n = ⊎_elim
    (λ (e : n ≡ id). subst (λ (k : NodeId). HeardIn managers (letters ++ more) (process_at k (put_process id p ps))) (sym e) (subst (HeardIn managers (letters ++ more)) (sym (put_same id p ps)) now))
    (λ (d : n ≢ id). subst (HeardIn managers (letters ++ more)) (sym (put_other n id p ps d)) (more_heard managers letters more (process_at n ps) (was n)))
    (which_node n id)

-- a process that is put, and no letter
put_quietly : (managers : ℕ) (letters : List Letter) (ps : Processes) (id : NodeId) (p : Process) → AllHeard managers letters ps → HasHeard managers letters p.node → AllHeard managers letters (put_process id p ps)
put_quietly managers letters ps id p was now =
    subst (λ (l : List Letter). AllHeard managers l (put_process id p ps)) (append-nil letters) (put_heard managers letters [] ps id p was (heard_on managers letters [] p.node now))

-- the same node but for its clock
as_heard : (managers : ℕ) (letters : List Letter) (x y : NodeState) → y.activated ≡ x.activated → epoch_of y ≡ epoch_of x → HasHeard managers letters x → HasHeard managers letters y
as_heard managers letters x y activated epoch h = record {
  long = ap length activated ∙ h.long;
  sent = subst (AreSent letters) (sym activated) h.sent;
  begun = subst (HasBegun managers letters) (sym epoch) h.begun;
}

ticked_heard : (managers : ℕ) (letters : List Letter) (to : ℕ) (n : NodeId) (ps : Processes) → HeardIn managers letters (process_at n ps) → HeardIn managers letters (process_at n (map (process_ticked to) ps))
ticked_heard managers letters to n [] h = tt
ticked_heard managers letters to n (p ∷ ps) h = at (is_at (by_number n) p.0) (is_live p) h (ticked_heard managers letters to n ps)
  where
    at : (b c : Bool) → HeardIn managers letters (cond b (Some p.1) (process_at n ps)) → (HeardIn managers letters (process_at n ps) → HeardIn managers letters (process_at n (map (process_ticked to) ps))) →
        HeardIn managers letters (cond b (Some (cond c (record p.1 { node = (ticks p.1.node to).node }) p.1)) (process_at n (map (process_ticked to) ps)))
    at true true h more = as_heard managers letters p.1.node (ticks p.1.node to).node refl refl h
    at true false h more = h
    at false c h more = more h

module _ (w : WorldState) (sound : IsWorld w) (council : IsCouncil w) (kept : IsKept w) where
  -- what is kept after an event that led to a sound world in which the managers agree
  abbrev Goal : Accepted → Type 0
  Goal a = IsWorld a.world → IsCouncil a.world → IsKept a.world

  goal_of : (b a : Accepted) (r : Result Accepted Refused) → r ≡ Ok b → r ≡ Ok a → Goal b → Goal a
  goal_of b a r p q h = subst Goal (the_accepted r b a p q) h

  -- ---- a live node's step
  module _ (id : NodeId) (x : NodeState) (at : process_at id w.processes ≡ Some (alive x)) (calls : ℕ) where
    abbrev then_at : Stepped → WorldState
    then_at s = record (with_step w id s) { calls = calls }

    abbrev StepGoal : Stepped → Type 0
    StepGoal s = IsWorld (then_at s) → IsKept (then_at s)

    here : HasHeard (length w.managers) w.letters x
    here = subst (HeardIn (length w.managers) w.letters) at (kept.heard id)

    long : (s : Stepped) → IsWorld (then_at s) → length s.node.activated ≡ length w.managers
    long s sound =
        let p = process_is (then_at s) sound id (alive s.node) (put_same id (alive s.node) w.processes) in
        p.node.heard.each_epoch ∙ p.managed

    quiet_goal : (s : Stepped) → IsQuiet x s → StepGoal s
    quiet_goal s q then_sound = record {
      some = kept.some;
      earned = quiet_earned w sound council kept.earned id x at calls s q.ends q.granted q.letters;
      heard = put_heard (length w.managers) w.letters s.letters w.processes id (alive s.node) kept.heard (quiet_heard (length w.managers) w.letters x here s (long s then_sound) q.activated (ap epoch_in q.view));
    }

    ask_goal : (m : ℕ) → StepGoal (asks_lease x m)
    ask_goal m then_sound = record {
      some = kept.some;
      earned = ask_earned w sound council kept.earned id x at calls m;
      heard = put_heard (length w.managers) w.letters (asks_lease x m).letters w.processes id (alive (asks_lease x m).node) kept.heard (by_there (nat_lt m x.managers) (long (asks_lease x m) then_sound));
    }
      where
        asks : Stepped
        asks = record { node = x; letters = record { epoch = epoch_of x; from = Node x.id; to = Manager m; body = Body.LeaseAsk x.clock } ∷ []; told = []; installed = None }

        by_there : (b : Bool) → length (cond b asks (idle x)).node.activated ≡ length w.managers → HasHeard (length w.managers) (w.letters ++ (cond b asks (idle x)).letters) (cond b asks (idle x)).node
        by_there true l = quiet_heard (length w.managers) w.letters x here asks l refl refl
        by_there false l = quiet_heard (length w.managers) w.letters x here (idle x) l refl refl

    -- a letter that was sent to it
    module _ (l : Letter) (sent : In w.letters l) (to : l.to ≡ Node id) where
      give_goal : (m end : ℕ) → l.from ≡ Manager m → l.body ≡ Body.LeaseGive end → StepGoal (heard (Body.LeaseGive end) x m)
      give_goal m end from body then_sound = record {
        some = kept.some;
        earned = give_earned w sound council kept.earned id x at calls m end (stands_give kept.earned.state l id m end from to body (kept.earned.mirrors.letters l sent));
        heard = put_heard (length w.managers) w.letters [] w.processes id (alive (heard (Body.LeaseGive end) x m).node) kept.heard
            (quiet_heard (length w.managers) w.letters x here (heard (Body.LeaseGive end) x m) (long (heard (Body.LeaseGive end) x m) then_sound) refl refl);
      }

      activate_goal : (m : ℕ) (view : View) → l.from ≡ Manager m → l.body ≡ Body.Activate view → StepGoal (activated_by x m view)
      activate_goal m view from body then_sound =
          let is = activated_heard x m view in
          record {
            some = kept.some;
            earned = quiet_earned w sound council kept.earned id x at calls (activated_by x m view) is.ends is.granted is.letters;
            heard = put_heard (length w.managers) w.letters (activated_by x m view).letters w.processes id (alive (activated_by x m view).node) kept.heard
                (activate_heard (length w.managers) w.letters x here (activated_by x m view) (long (activated_by x m view) then_sound) m view (has_sent w.letters l m view sent from body) is);
          }

      heard_goal : (body : Body) (m : ℕ) → l.from ≡ Manager m → l.body ≡ body → StepGoal (heard body x m)
      heard_goal (Body.LeaseGive end) m from is = give_goal m end from is
      heard_goal (Body.Activate view) m from is = activate_goal m view from is
      heard_goal (Body.Inv k s kind content) m from is = quiet_goal (idle x) (idle_quiet x)
      heard_goal (Body.Ack k s top) m from is = quiet_goal (idle x) (idle_quiet x)
      heard_goal (Body.Val k s) m from is = quiet_goal (idle x) (idle_quiet x)
      heard_goal (Body.CopyAsk after room) m from is = quiet_goal (idle x) (idle_quiet x)
      heard_goal (Body.CopyGive after done items) m from is = quiet_goal (idle x) (idle_quiet x)
      heard_goal (Body.LeaseAsk asked) m from is = quiet_goal (idle x) (idle_quiet x)
      heard_goal (Body.Prepare ballot) m from is = quiet_goal (idle x) (idle_quiet x)
      heard_goal (Body.Promise ballot vote) m from is = quiet_goal (idle x) (idle_quiet x)
      heard_goal (Body.Accept ballot view) m from is = quiet_goal (idle x) (idle_quiet x)
      heard_goal (Body.Accepted ballot) m from is = quiet_goal (idle x) (idle_quiet x)
      heard_goal (Body.Chosen view) m from is = quiet_goal (idle x) (idle_quiet x)

      receives_goal : StepGoal (receives x l)
      receives_goal = by_sender l.from refl
        where
          by_heard : (b : Bool) (m : ℕ) → l.from ≡ Manager m → StepGoal (cond b (heard l.body x m) (idle x))
          by_heard true m from = heard_goal l.body m from refl
          by_heard false m from = quiet_goal (idle x) (idle_quiet x)

          by_sender : (a : Actor) → l.from ≡ a → StepGoal (receives_from a x l)
          by_sender (Manager m) from = by_heard (is_addressed x l.to && nat_lt m x.managers) m from
          by_sender (Node n) from = quiet_goal (receives_from (Node n) x l) (given_quiet x (received l.body x n) (is_addressed x l.to && (nat_eq l.epoch (epoch_of x) && is_other x n)) (received_quiet l.body x n))

  -- the step that was accepted
  acts_goal : (id : NodeId) (x : NodeState) → process_at id w.processes ≡ Some (alive x) → (s : Stepped) → (IsWorld (with_step w id s) → IsKept (with_step w id s)) → (a : Accepted) → acts w id x s ≡ Ok a → Goal a
  acts_goal id x at s goal a e = goal_of (record { world = with_step w id s; told = s.told; shown = shown_of w id x s None }) a (acts w id x s) refl e (λ then_sound then_council. goal then_sound)

  call_goal : (id : NodeId) (key : List ℕ) (op : Op) (x : NodeState) → process_at id w.processes ≡ Some (alive x) → (a : Accepted) → calls_at w id key op x ≡ Ok a → Goal a
  call_goal id key op x at a e =
      let call : CallNo = record { 0 = w.calls + 1 } in
      let s : Stepped = called x call key op in
      goal_of (record { world = record (with_step w id s) { calls = w.calls + 1 }; told = s.told; shown = shown_of w id x s (Some call) }) a (calls_at w id key op x) refl e
      (λ then_sound then_council. quiet_goal id x at (w.calls + 1) s (called_quiet x call key op) then_sound)

  -- ---- a live manager's step
  some_still : (ms : List ManagerProcess) → length ms ≡ length w.managers → 1 ≤ length ms
  some_still ms many = let some = kept.some in omega (arith, many, some)

  manager_heard : (m : ℕ) (p : ManagerProcess) (more : List Letter) → AllHeard (length (put_manager m p w.managers)) (w.letters ++ more) w.processes
  manager_heard m p more n = subst (λ (k : ℕ). HeardIn k (w.letters ++ more) (process_at n w.processes)) (sym (length-set w.managers m p)) (more_heard (length w.managers) w.letters more (process_at n w.processes) (kept.heard n))

  manager_goal : (m : ℕ) (g : ManagerState) (s : ManagerStepped) → (IsWorld (with_manager_step w m s) → IsCouncil (with_manager_step w m s) → IsEarned (with_manager_step w m s)) → (a : Accepted) → manager_acts w m (Ok s) ≡ Ok a → Goal a
  manager_goal m g s earned a e = goal_of (record { world = with_manager_step w m s; told = []; shown = manager_shown w m s }) a (manager_acts w m (Ok s)) refl e
      (λ then_sound then_council. record { some = some_still (put_manager m (managing s.manager) w.managers) (length-set w.managers m (managing s.manager)); earned = earned then_sound then_council; heard = manager_heard m (managing s.manager) s.letters })

  propose_goal : (m base : ℕ) (change : Change) (g : ManagerState) → manager_at m w.managers ≡ Some (managing g) → (a : Accepted) → manager_acts w m (step_of g (ManagerEvent.Propose base change)) ≡ Ok a → Goal a
  propose_goal m base change g at a e = by_result (proposes g base change) refl e
    where
      by_result : (r : Result ManagerStepped ManagerFault) → proposes g base change ≡ r → manager_acts w m r ≡ Ok a → Goal a
      by_result (Ok s) is e = manager_goal m g s (λ then_sound then_council. learned_earned w sound council kept.earned m g at s then_sound then_council (proposed g base change s is)) a e
      by_result (Err fault) is e = absurd cc

  activate_step_goal : (m : ℕ) (g : ManagerState) → manager_at m w.managers ≡ Some (managing g) → (a : Accepted) → manager_acts w m (step_of g ManagerEvent.Activate) ≡ Ok a → Goal a
  activate_step_goal m g at a e = by_past (past_answer g.untils g.held g.clock) refl e
    where
      by_past : (r : Result Unit StillRuns) → past_answer g.untils g.held g.clock ≡ r → manager_acts w m (activates_by r g) ≡ Ok a → Goal a
      by_past (Ok u) is e = manager_goal m g (sends g (to_members g g.held.epoch (Body.Activate g.held))) (λ then_sound then_council. activates_earned w sound council kept.earned m g at is) a e
      by_past (Err running) is e = absurd cc

  takes_goal : (n : ℕ) (a : Accepted) → takes w (numbered n w.letters) ≡ Ok a → Goal a
  takes_goal n a e = by_letter (numbered n w.letters) refl e
    where
      by_letter : (o : Option Letter) → numbered n w.letters ≡ o → takes w o ≡ Ok a → Goal a
      by_letter None found e = absurd cc
      by_letter (Some l) found e = actor_step (Goal a) w a l.to (λ id node. acts w id node (receives node l)) (λ m g. manager_acts w m (step_of g (ManagerEvent.Receive l)))
          (λ id x to at e. acts_goal id x at (receives x l) (receives_goal id x at w.calls l (letter_in n w.letters l found) to) a e)
          (λ m g to at e. manager_goal m g (manager_receives g l) (receipt_earned w sound council kept.earned m g at l (letter_in n w.letters l found) to) a e) e

  -- ---- clocks
  -- as many managers
  managers_changed : (ms : List ManagerProcess) → length ms ≡ length w.managers → AllHeard (length ms) w.letters w.processes
  managers_changed ms many = subst (λ (k : ℕ). AllHeard k w.letters w.processes) (sym many) kept.heard

  -- no letter is sent
  no_letters : (ps : Processes) (paces : Paces) → IsEarned (record w { processes = ps; managers = w.managers; paces = paces }) → IsEarned (record w { processes = ps; managers = w.managers; paces = paces; letters = w.letters ++ [] })
  no_letters ps paces h = subst (λ (letters : List Letter). IsEarned (record w { processes = ps; managers = w.managers; paces = paces; letters = letters })) (sym (append-nil w.letters)) h

  tick_goal : (to : ℕ) → to ≤ MAX_TIME → (id : NodeId) (x : NodeState) → process_at id w.processes ≡ Some (alive x) → (a : Accepted) → ticks_at w to id x ≡ Ok a → Goal a
  tick_goal to within id x at a e = by_result (clock_step (clocks_of w) (ClockEvent.Tick (Node id) to)) refl e
    where
      by_result : (r : Result ClockState ClockFault) → clock_step (clocks_of w) (ClockEvent.Tick (Node id) to) ≡ r → ticked_by r w id to x ≡ Ok a → Goal a
      by_result (Ok clocks) is e =
          let s : Stepped = ticks x to in
          let next : WorldState = record (with_step w id s) { paces = clocks.paces } in
          goal_of (record { world = next; told = s.told; shown = shown_of w id x s None }) a (ticked_by (Ok clocks) w id to x) refl e
          (λ then_sound then_council. record {
            some = kept.some;
            earned = no_letters (put_process id (alive s.node) w.processes) clocks.paces
                (node_clocked w sound council kept.earned (ClockEvent.Tick (Node id) to) within tt id (alive x) (alive s.node) clocks.paces at refl refl (paces_made w (ClockEvent.Tick (Node id) to) clocks is));
            heard = put_heard (length w.managers) w.letters [] w.processes id (alive s.node) kept.heard
                (heard_on (length w.managers) w.letters [] s.node (as_heard (length w.managers) w.letters x s.node refl refl (here id x at w.calls)));
          })
      by_result (Err fault) is e = absurd cc

  manager_tick_goal : (to : ℕ) → to ≤ MAX_TIME → (m : ℕ) (g : ManagerState) → manager_at m w.managers ≡ Some (managing g) → (a : Accepted) → manager_ticks_at w to m g ≡ Ok a → Goal a
  manager_tick_goal to within m g at a e = by_result (clock_step (clocks_of w) (ClockEvent.Tick (Manager m) to)) refl e
    where
      by_result : (r : Result ClockState ClockFault) → clock_step (clocks_of w) (ClockEvent.Tick (Manager m) to) ≡ r → manager_ticked_by r w m to g ≡ Ok a → Goal a
      by_result (Ok clocks) is e =
          let p : ManagerProcess = managing (manager_ticks g to).manager in
          goal_of (record { world = record w { managers = put_manager m p w.managers; paces = clocks.paces }; told = []; shown = nothing }) a (manager_ticked_by (Ok clocks) w m to g) refl e
          (λ then_sound then_council. record {
            some = some_still (put_manager m p w.managers) (length-set w.managers m p);
            earned = manager_clocked w sound council kept.earned (ClockEvent.Tick (Manager m) to) within tt m (managing g) p clocks.paces at refl refl (paces_made w (ClockEvent.Tick (Manager m) to) clocks is);
            heard = managers_changed (put_manager m p w.managers) (length-set w.managers m p);
          })
      by_result (Err fault) is e = absurd cc

  all_tick_goal : (to : ℕ) → to ≤ MAX_TIME → (a : Accepted) → all_ticked_by (clock_step (clocks_of w) (ClockEvent.TickAll to)) w to ≡ Ok a → Goal a
  all_tick_goal to within a e = by_result (clock_step (clocks_of w) (ClockEvent.TickAll to)) refl e
    where
      by_result : (r : Result ClockState ClockFault) → clock_step (clocks_of w) (ClockEvent.TickAll to) ≡ r → all_ticked_by r w to ≡ Ok a → Goal a
      by_result (Ok clocks) is e =
          let ps : Processes = map (process_ticked to) w.processes in
          let ms : List ManagerProcess = map (manager_ticked to) w.managers in
          goal_of (record { world = record w { processes = ps; managers = ms; paces = clocks.paces }; told = []; shown = nothing }) a (all_ticked_by (Ok clocks) w to) refl e
          (λ then_sound then_council. record {
            some = some_still (map (manager_ticked to) w.managers) (length-map w.managers (manager_ticked to));
            earned = all_clocked w sound council kept.earned (ClockEvent.TickAll to) within tt to clocks.paces (paces_made w (ClockEvent.TickAll to) clocks is);
            heard = subst (λ (k : ℕ). AllHeard k w.letters (map (process_ticked to) w.processes)) (sym (length-map w.managers (manager_ticked to)))
                (λ n. ticked_heard (length w.managers) w.letters to n w.processes (kept.heard n));
          })
      by_result (Err fault) is e = absurd cc

  crash_goal : (id : NodeId) (x : NodeState) → process_at id w.processes ≡ Some (alive x) → (a : Accepted) → crashes_at w id x ≡ Ok a → Goal a
  crash_goal id x at a e =
      let p : Process = record { node = x; crashed = true } in
      goal_of (record { world = record w { processes = put_process id p w.processes; paces = paces_by w (ClockEvent.Stop (Node id)) }; told = []; shown = nothing }) a (crashes_at w id x) refl e
      (λ then_sound then_council. record {
        some = kept.some;
        earned = node_clocked w sound council kept.earned (ClockEvent.Stop (Node id)) tt tt id (alive x) p (paces_by w (ClockEvent.Stop (Node id))) at refl refl refl;
        heard = put_quietly (length w.managers) w.letters w.processes id p kept.heard (here id x at w.calls);
      })

  manager_crash_goal : (m : ℕ) (g : ManagerState) → manager_at m w.managers ≡ Some (managing g) → (a : Accepted) → manager_crashes_at w m g ≡ Ok a → Goal a
  manager_crash_goal m g at a e =
      let p : ManagerProcess = record { manager = g; crashed = true } in
      goal_of (record { world = record w { managers = put_manager m p w.managers; paces = paces_by w (ClockEvent.Stop (Manager m)) }; told = []; shown = nothing }) a (manager_crashes_at w m g) refl e
      (λ then_sound then_council. record {
        some = some_still (put_manager m p w.managers) (length-set w.managers m p);
        earned = manager_clocked w sound council kept.earned (ClockEvent.Stop (Manager m)) tt tt m (managing g) p (paces_by w (ClockEvent.Stop (Manager m))) at refl refl refl;
        heard = managers_changed (put_manager m p w.managers) (length-set w.managers m p);
      })

  -- a joiner heard nothing yet
  joiner_heard : (id : NodeId) → HasHeard (length w.managers) w.letters (joining w id).node
  joiner_heard id = record {
    long = length_replicated (length w.managers) 0;
    sent = λ m some. let none = index_replicated (length w.managers) m in absurd (omega (arith, none, some));
    begun = inl (omega arith);
  }

  start_goal : (id : NodeId) (a : Accepted) → starts_at (process_at id w.processes) w id ≡ Ok a → Goal a
  start_goal id a e = by_process (process_at id w.processes) refl e
    where
      by_member : process_at id w.processes ≡ None → (b : Bool) →
          cond b (aside (record w { processes = put_process id (joining w id) w.processes; paces = paces_by w (ClockEvent.Start (Node id) (greatest_clock 1 w.paces)) }) nothing) (Err NotMember) ≡ Ok a → Goal a
      by_member at true e =
          let next : WorldState = record w { processes = put_process id (joining w id) w.processes; paces = paces_by w (ClockEvent.Start (Node id) (greatest_clock 1 w.paces)) } in
          goal_of (record { world = next; told = []; shown = nothing }) a (aside next nothing) refl e
          (λ then_sound then_council.
          let clock = (process_is next then_sound id (joining w id) (put_same id (joining w id) w.processes)).node.clock in
          record {
            some = kept.some;
            earned = started_earned w sound council kept.earned id at (omega (arith, clock));
            heard = put_quietly (length w.managers) w.letters w.processes id (joining w id) kept.heard (joiner_heard id);
          })
      by_member at false e = absurd cc

      by_process : (o : Option Process) → process_at id w.processes ≡ o → starts_at o w id ≡ Ok a → Goal a
      by_process (Some p) at e = absurd cc
      by_process None at e = by_member at (may_join w id) e

  -- ---- the table
  pub event_goal : (event : Event) → IsEvent event → (a : Accepted) → world_step w event ≡ Ok a → Goal a
  event_goal (Call id key op) is a e = node_step (Goal a) w a id (calls_at w id key op) (λ x at e. call_goal id key op x at a e) e
  event_goal (Take n) is a e = takes_goal n a e
  event_goal (Tick actor to) is a e = actor_step (Goal a) w a actor (ticks_at w to) (manager_ticks_at w to) (λ id x q at e. tick_goal to is.1 id x at a e) (λ m g q at e. manager_tick_goal to is.1 m g at a e) e
  event_goal (TickAll to) is a e = all_tick_goal to is a e
  event_goal (Crash actor) is a e = actor_step (Goal a) w a actor (crashes_at w) (manager_crashes_at w) (λ id x q at e. crash_goal id x at a e) (λ m g q at e. manager_crash_goal m g at a e) e
  event_goal (Resend id key) is a e = node_step (Goal a) w a id (λ node. acts w id node (resent node key))
      (λ x at e. acts_goal id x at (resent x key) (quiet_goal id x at w.calls (resent x key) (found_quiet x key resend (find_row key x.rows))) a e) e
  event_goal (Replay id key) is a e = node_step (Goal a) w a id (λ node. acts w id node (replayed node key))
      (λ x at e. acts_goal id x at (replayed x key) (quiet_goal id x at w.calls (replayed x key) (replayed_quiet x key)) a e) e
  event_goal (Copy id from room) is a e = node_step (Goal a) w a id (λ node. acts w id node (asks_copy node from room))
      (λ x at e. acts_goal id x at (asks_copy x from room) (quiet_goal id x at w.calls (asks_copy x from room) (asks_quiet x from room)) a e) e
  event_goal (Start id) is a e = start_goal id a e
  event_goal (Agree change) is a e = not_told (Goal a) w a w.managers (agrees w (last_view w.views) change) kept.some e
  event_goal (Install id epoch) is a e = not_told (Goal a) w a w.managers (live w id (λ node. installs_at (numbered epoch w.views) w id node)) kept.some e
  event_goal (Lease id end) is a e = not_told (Goal a) w a w.managers (live w id (leases_at w id end)) kept.some e
  event_goal (AskLease id m) is a e = node_step (Goal a) w a id (λ node. acts w id node (asks_lease node m)) (λ x at e. acts_goal id x at (asks_lease x m) (ask_goal id x at w.calls m) a e) e
  event_goal (Propose m base change) is a e = manager_step (Goal a) w a m (λ g. manager_acts w m (step_of g (ManagerEvent.Propose base change))) (λ g at e. propose_goal m base change g at a e) e
  event_goal (Activate m) is a e = manager_step (Goal a) w a m (λ g. manager_acts w m (step_of g ManagerEvent.Activate)) (λ g at e. activate_step_goal m g at a e) e

-- what is kept is kept by each accepted event of a world with managers
pub event_kept : (w : WorldState) → IsWorld w → IsCouncil w → (event : Event) → IsEvent event → (a : Accepted) → world_step w event ≡ Ok a → IsWorld a.world → IsCouncil a.world → IsKept w → IsKept a.world
event_kept w sound council event is a e then_sound then_council kept = event_goal w sound council kept event is a e then_sound then_council
