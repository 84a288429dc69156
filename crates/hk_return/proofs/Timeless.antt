-- What a step makes, but for the clock and the untils: neither depends on them, but whether an ACTIVATE is refused.
use Rattle.std.proofs.Common.{◌≡◌, suc, max, ◌+◌, ◌&&◌, ◌||◌, ◌==◌, ◌≤◌, ℕ, List, [], ◌∷◌, Bool, true, false, cond, nat_lt, nat_le, min, Option, Some, None, Result, Ok, Err, refl, sym, ap, subst, ◌∙◌, arith}
use Rattle.std.proofs.lemmas.Bool.{false≢true, lt-leb}
use Rattle.hk_base.specs.declared.stamp.NodeId.{NodeId}
use Rattle.hk_base.specs.declared.time.TheConstants.{MAX_TIME}
use Rattle.hk_base.specs.declared.view.View.{View}
use Rattle.hk_base.specs.declared.view.Change.{Change}
use Rattle.hk_base.specs.declared.view.Ballot.{Ballot}
use Rattle.hk_base.specs.declared.letter.Actor.{Actor}
use Rattle.hk_base.specs.declared.letter.Actor.TheVariants.{Node, Manager}
use Rattle.hk_base.specs.declared.letter.Letter.{Letter}
use Rattle.hk_base.specs.declared.letter.Body.{Body}
use Rattle.hk_base.specs.View.{is_member}
use Rattle.hk_paxos.specs.declared.proposer.Proposer.{Proposer}
use Rattle.hk_paxos.specs.Paxos.{proposer_new, proposer_on_accepted}
use Rattle.hk_lease.specs.declared.grants.NotPast.{NotPast as StillRuns}
use Rattle.hk_lease.specs.Grants.{with_grant}
use Rattle.hk_lease.specs.Past.{first_running, past_or, past_answer}
use Rattle.hk_lease.specs.Wait.{wait}
use Rattle.hk_manager.specs.declared.instance.TheConstants.{MAX_EPOCH, MAX_ROUND}
use Rattle.hk_manager.specs.declared.event.ManagerEvent.{ManagerEvent}
use Rattle.hk_manager.specs.declared.event.ManagerEvent.TheVariants.{Propose, Receive, Activate, Tick}
use Rattle.hk_manager.specs.declared.fault.ManagerFault.{ManagerFault}
use Rattle.hk_manager.specs.declared.fault.ManagerFault.TheVariants.{Behind}
use Rattle.hk_manager.specs.Manager.{ManagerState, instance_at, with_instance}
use Rattle.hk_manager.specs.Changes.{changed, change_fault}
use Rattle.hk_manager.specs.Sends.{letter_to, to_all, to_others}
use Rattle.hk_manager.specs.Steps.{ManagerStepped, sends, idle, learns, prepares, accepts, counts_promise, counts_acceptance, reports, proposal_in, at_proposal, asks_lease, is_too_late, from_node, from_manager, is_addressed, receives_from, receives, begins, begins_unless, activates_by, manager_step}
use Rattle.hk_log.specs.Entries.{is_of_paxos}
use Rattle.hk_return.specs.Log.{is_logged, manager_or, after, logged, but_times}

-- with another clock and other untils
abbrev pub at_times : ManagerState → ℕ → List (NodeId × ℕ) → ManagerState
at_times m clock untils = record m { clock = clock; untils = untils }

-- a manager that is the same but for them
pub other_times : (m n : ManagerState) → but_times m ≡ but_times n → at_times m n.clock n.untils ≡ n
other_times m n e = ap (λ (x : ManagerState). at_times x n.clock n.untils) e

pub record IsSame (x y : ManagerStepped) : Type 0 where
  pub manager : but_times x.manager ≡ but_times y.manager
  pub letters : x.letters ≡ y.letters

-- both are refused, or neither is
abbrev pub AreSame : Result ManagerStepped ManagerFault → Result ManagerStepped ManagerFault → Type 0
AreSame (Ok x) (Ok y) = IsSame x y
AreSame (Ok x) (Err fault) = ⊥
AreSame (Err fault) (Ok y) = ⊥
AreSame (Err fault) (Err other) = Unit

chosen : (b : Bool) (x y v w : ManagerStepped) → IsSame x v → IsSame y w → IsSame (cond b x y) (cond b v w)
chosen true x y v w p q = p
chosen false x y v w p q = q

module _ (clock : ℕ) (untils : List (NodeId × ℕ)) where
  abbrev other : ManagerState → ManagerState
  other m = at_times m clock untils

  learns_same : (m : ManagerState) (view : View) (letters : List Letter) → IsSame (learns m view letters) (learns (other m) view letters)
  learns_same m view letters = chosen (nat_lt m.held.epoch view.epoch) (record { manager = record m { held = view }; letters = letters; chosen = Some view.epoch }) (sends m letters)
      (record { manager = record (other m) { held = view }; letters = letters; chosen = Some view.epoch }) (sends (other m) letters) (record { manager = refl; letters = refl }) (record { manager = refl; letters = refl })

  reports_same : (m : ManagerState) (o : Option View) → IsSame (reports m o) (reports (other m) o)
  reports_same m None = record { manager = refl; letters = refl }
  reports_same m (Some view) = learns_same m view (to_others m view.epoch (Body.Chosen view))

  acceptance_same : (p : Proposer) (m : ManagerState) (from : ℕ) (ballot : Ballot) → IsSame (counts_acceptance p m from ballot) (counts_acceptance p (other m) from ballot)
  acceptance_same p m from ballot = reports_same (record m { proposal = Some (proposer_on_accepted p from ballot).after }) (proposer_on_accepted p from ballot).answer

  at_same : (o : Option Proposer) (m : ManagerState) (step : ManagerState → Proposer → ManagerStepped) → ((p : Proposer) → IsSame (step m p) (step (other m) p)) → IsSame (at_proposal o m (step m)) (at_proposal o (other m) (step (other m)))
  at_same None m step each = record { manager = refl; letters = refl }
  at_same (Some p) m step each = each p

  grants_same : (m : ManagerState) (from : NodeId) (asked : ℕ) → IsSame (asks_lease m from asked) (asks_lease (other m) from asked)
  grants_same m from asked = chosen (is_member from m.held.members) (sends (record m { untils = with_grant m.untils from (m.clock + wait m.lease) }) (letter_to m m.held.epoch (Body.LeaseGive (min (asked + m.lease) MAX_TIME)) (Node from) ∷ [])) (idle m)
      (sends (record m { clock = clock; untils = with_grant untils from (clock + wait m.lease) }) (letter_to m m.held.epoch (Body.LeaseGive (min (asked + m.lease) MAX_TIME)) (Node from) ∷ [])) (idle (other m))
      (record { manager = refl; letters = refl }) (record { manager = refl; letters = refl })

  idle_same : (m : ManagerState) → IsSame (idle m) (idle (other m))
  idle_same m = record { manager = refl; letters = refl }

  node_same : (body : Body) (m : ManagerState) (n : NodeId) → IsSame (from_node body m n) (from_node body (other m) n)
  node_same (Body.LeaseAsk asked) m n = grants_same m n asked
  node_same (Body.Inv k s kind content) m n = idle_same m
  node_same (Body.Ack k s top) m n = idle_same m
  node_same (Body.Val k s) m n = idle_same m
  node_same (Body.CopyAsk after room) m n = idle_same m
  node_same (Body.CopyGive after done items) m n = idle_same m
  node_same (Body.LeaseGive end) m n = idle_same m
  node_same (Body.Prepare ballot) m n = idle_same m
  node_same (Body.Promise ballot vote) m n = idle_same m
  node_same (Body.Accept ballot view) m n = idle_same m
  node_same (Body.Accepted ballot) m n = idle_same m
  node_same (Body.Chosen view) m n = idle_same m
  node_same (Body.Activate view) m n = idle_same m

  manager_same : (body : Body) (m : ManagerState) (epoch from : ℕ) → IsSame (from_manager body m epoch from) (from_manager body (other m) epoch from)
  manager_same (Body.Prepare ballot) m epoch from = chosen (is_too_late ballot) (idle m) (prepares m epoch ballot) (idle (other m)) (prepares (other m) epoch ballot) (idle_same m) (record { manager = refl; letters = refl })
  manager_same (Body.Promise ballot vote) m epoch from = at_same (proposal_in m.proposal epoch) m (λ n p. counts_promise p n from (record { ballot = ballot; accepted = vote })) (λ p. record { manager = refl; letters = refl })
  manager_same (Body.Accept ballot view) m epoch from = chosen (is_too_late ballot) (idle m) (accepts m epoch ballot view) (idle (other m)) (accepts (other m) epoch ballot view) (idle_same m) (record { manager = refl; letters = refl })
  manager_same (Body.Accepted ballot) m epoch from = at_same (proposal_in m.proposal epoch) m (λ n p. counts_acceptance p n from ballot) (λ p. acceptance_same p m from ballot)
  manager_same (Body.Chosen view) m epoch from = learns_same m view []
  manager_same (Body.Inv k s kind content) m epoch from = idle_same m
  manager_same (Body.Ack k s top) m epoch from = idle_same m
  manager_same (Body.Val k s) m epoch from = idle_same m
  manager_same (Body.CopyAsk after room) m epoch from = idle_same m
  manager_same (Body.CopyGive after done items) m epoch from = idle_same m
  manager_same (Body.LeaseAsk asked) m epoch from = idle_same m
  manager_same (Body.LeaseGive end) m epoch from = idle_same m
  manager_same (Body.Activate view) m epoch from = idle_same m

  sender_same : (a : Actor) (m : ManagerState) (l : Letter) → IsSame (receives_from a m l) (receives_from a (other m) l)
  sender_same (Node n) m l = node_same l.body m n
  sender_same (Manager k) m l = chosen (nat_lt k m.managers) (from_manager l.body m l.epoch k) (idle m) (from_manager l.body (other m) l.epoch k) (idle (other m)) (manager_same l.body m l.epoch k) (idle_same m)

  receives_same : (m : ManagerState) (l : Letter) → IsSame (receives m l) (receives (other m) l)
  receives_same m l = chosen (is_addressed m l.to && nat_le l.epoch MAX_EPOCH) (receives_from l.from m l) (idle m) (receives_from l.from (other m) l) (idle (other m)) (sender_same l.from m l) (idle_same m)

  begins_same : (m : ManagerState) (change : Change) → IsSame (begins m change) (begins (other m) change)
  begins_same m change = chosen (nat_lt MAX_EPOCH (m.held.epoch + 1) || nat_lt MAX_ROUND ((instance_at (m.held.epoch + 1) m.instances).round + 1)) (idle m) (begun m) (idle (other m)) (begun (other m)) (idle_same m) (record { manager = refl; letters = refl })
    where
      begun : ManagerState → ManagerStepped
      begun n = sends (record (with_instance n (n.held.epoch + 1) (record (instance_at (n.held.epoch + 1) n.instances) { round = (instance_at (n.held.epoch + 1) n.instances).round + 1 }))
          { proposal = Some (proposer_new (n.held.epoch + 1) (record { round = (instance_at (n.held.epoch + 1) n.instances).round + 1; manager = n.id }) (changed n.held change) n.managers) })
          (to_all n (n.held.epoch + 1) (Body.Prepare (record { round = (instance_at (n.held.epoch + 1) n.instances).round + 1; manager = n.id })))

  begun_same : (o : Option ManagerFault) (m : ManagerState) (change : Change) → AreSame (begins_unless o m change) (begins_unless o (other m) change)
  begun_same None m change = begins_same m change
  begun_same (Some fault) m change = tt

  proposed_same : (b : Bool) (m : ManagerState) (change : Change) →
      AreSame (cond b (begins_unless (change_fault m.held change) m change) (Err (Behind m.held.epoch))) (cond b (begins_unless (change_fault m.held change) (other m) change) (Err (Behind m.held.epoch)))
  proposed_same true m change = begun_same (change_fault m.held change) m change
  proposed_same false m change = tt

-- ---- steps that are not logged
abbrev IsQuiet : ManagerState → ManagerStepped → Type 0
IsQuiet m x = but_times x.manager ≡ but_times m

quiet_either : (m : ManagerState) (b : Bool) (x y : ManagerStepped) → IsQuiet m x → IsQuiet m y → IsQuiet m (cond b x y)
quiet_either m true x y p q = p
quiet_either m false x y p q = q

grants_quiet : (m : ManagerState) (from : NodeId) (asked : ℕ) → IsQuiet m (asks_lease m from asked)
grants_quiet m from asked = quiet_either m (is_member from m.held.members) (sends (record m { untils = with_grant m.untils from (m.clock + wait m.lease) }) (letter_to m m.held.epoch (Body.LeaseGive (min (asked + m.lease) MAX_TIME)) (Node from) ∷ [])) (idle m) refl refl

node_quiet : (body : Body) (m : ManagerState) (n : NodeId) → IsQuiet m (from_node body m n)
node_quiet (Body.LeaseAsk asked) m n = grants_quiet m n asked
node_quiet (Body.Inv k s kind content) m n = refl
node_quiet (Body.Ack k s top) m n = refl
node_quiet (Body.Val k s) m n = refl
node_quiet (Body.CopyAsk after room) m n = refl
node_quiet (Body.CopyGive after done items) m n = refl
node_quiet (Body.LeaseGive end) m n = refl
node_quiet (Body.Prepare ballot) m n = refl
node_quiet (Body.Promise ballot vote) m n = refl
node_quiet (Body.Accept ballot view) m n = refl
node_quiet (Body.Accepted ballot) m n = refl
node_quiet (Body.Chosen view) m n = refl
node_quiet (Body.Activate view) m n = refl

manager_quiet : (body : Body) (m : ManagerState) (epoch from : ℕ) → is_of_paxos body ≡ false → IsQuiet m (from_manager body m epoch from)
manager_quiet (Body.Prepare ballot) m epoch from un = absurd (false≢true (sym un))
manager_quiet (Body.Promise ballot vote) m epoch from un = absurd (false≢true (sym un))
manager_quiet (Body.Accept ballot view) m epoch from un = absurd (false≢true (sym un))
manager_quiet (Body.Accepted ballot) m epoch from un = absurd (false≢true (sym un))
manager_quiet (Body.Chosen view) m epoch from un = absurd (false≢true (sym un))
manager_quiet (Body.Inv k s kind content) m epoch from un = refl
manager_quiet (Body.Ack k s top) m epoch from un = refl
manager_quiet (Body.Val k s) m epoch from un = refl
manager_quiet (Body.CopyAsk after room) m epoch from un = refl
manager_quiet (Body.CopyGive after done items) m epoch from un = refl
manager_quiet (Body.LeaseAsk asked) m epoch from un = refl
manager_quiet (Body.LeaseGive end) m epoch from un = refl
manager_quiet (Body.Activate view) m epoch from un = refl

sender_quiet : (a : Actor) (m : ManagerState) (l : Letter) → is_of_paxos l.body ≡ false → IsQuiet m (receives_from a m l)
sender_quiet (Node n) m l un = node_quiet l.body m n
sender_quiet (Manager k) m l un = quiet_either m (nat_lt k m.managers) (from_manager l.body m l.epoch k) (idle m) (manager_quiet l.body m l.epoch k un) refl

activated_quiet : (r : Result Unit StillRuns) (m : ManagerState) → but_times (manager_or m (activates_by r m)) ≡ but_times m
activated_quiet (Ok u) m = refl
activated_quiet (Err running) m = refl

pub unlogged_quiet : (m : ManagerState) (event : ManagerEvent) → is_logged event ≡ false → but_times (manager_or m (manager_step m event)) ≡ but_times m
unlogged_quiet m (Propose base change) un = absurd (false≢true (sym un))
unlogged_quiet m (Receive l) un = quiet_either m (is_addressed m l.to && nat_le l.epoch MAX_EPOCH) (receives_from l.from m l) (idle m) (sender_quiet l.from m l un) refl
unlogged_quiet m Activate un = activated_quiet (past_answer m.untils m.held m.clock) m
unlogged_quiet m (Tick now) un = refl

-- ---- steps that are logged
-- clock, untils and the length of a lease stay
pub record IsTimeless (m n : ManagerState) : Type 0 where
  pub clock : n.clock ≡ m.clock
  pub untils : n.untils ≡ m.untils
  pub lease : n.lease ≡ m.lease

stays : (m : ManagerState) → IsTimeless m m
stays m = record { clock = refl; untils = refl; lease = refl }

abbrev Stays : ManagerState → ManagerStepped → Type 0
Stays m x = IsTimeless m x.manager

either_stays : (m : ManagerState) (b : Bool) (x y : ManagerStepped) → Stays m x → Stays m y → Stays m (cond b x y)
either_stays m true x y p q = p
either_stays m false x y p q = q

learns_stays : (m : ManagerState) (view : View) (letters : List Letter) → Stays m (learns m view letters)
learns_stays m view letters = either_stays m (nat_lt m.held.epoch view.epoch) (record { manager = record m { held = view }; letters = letters; chosen = Some view.epoch }) (sends m letters) (record { clock = refl; untils = refl; lease = refl }) (stays m)

reports_stays : (m : ManagerState) (o : Option View) → Stays m (reports m o)
reports_stays m None = stays m
reports_stays m (Some view) = learns_stays m view (to_others m view.epoch (Body.Chosen view))

acceptance_stays : (p : Proposer) (m : ManagerState) (from : ℕ) (ballot : Ballot) → Stays m (counts_acceptance p m from ballot)
acceptance_stays p m from ballot =
    let r = reports_stays (record m { proposal = Some (proposer_on_accepted p from ballot).after }) (proposer_on_accepted p from ballot).answer in
    record { clock = r.clock; untils = r.untils; lease = r.lease }

at_stays : (o : Option Proposer) (m : ManagerState) (step : Proposer → ManagerStepped) → ((p : Proposer) → Stays m (step p)) → Stays m (at_proposal o m step)
at_stays None m step each = stays m
at_stays (Some p) m step each = each p

node_stays : (body : Body) (m : ManagerState) (n : NodeId) → is_of_paxos body ≡ true → Stays m (from_node body m n)
node_stays (Body.LeaseAsk asked) m n is = absurd (false≢true is)
node_stays (Body.Inv k s kind content) m n is = stays m
node_stays (Body.Ack k s top) m n is = stays m
node_stays (Body.Val k s) m n is = stays m
node_stays (Body.CopyAsk after room) m n is = stays m
node_stays (Body.CopyGive after done items) m n is = stays m
node_stays (Body.LeaseGive end) m n is = stays m
node_stays (Body.Prepare ballot) m n is = stays m
node_stays (Body.Promise ballot vote) m n is = stays m
node_stays (Body.Accept ballot view) m n is = stays m
node_stays (Body.Accepted ballot) m n is = stays m
node_stays (Body.Chosen view) m n is = stays m
node_stays (Body.Activate view) m n is = stays m

manager_stays : (body : Body) (m : ManagerState) (epoch from : ℕ) → Stays m (from_manager body m epoch from)
manager_stays (Body.Prepare ballot) m epoch from = either_stays m (is_too_late ballot) (idle m) (prepares m epoch ballot) (stays m) (record { clock = refl; untils = refl; lease = refl })
manager_stays (Body.Promise ballot vote) m epoch from = at_stays (proposal_in m.proposal epoch) m (λ p. counts_promise p m from (record { ballot = ballot; accepted = vote })) (λ p. record { clock = refl; untils = refl; lease = refl })
manager_stays (Body.Accept ballot view) m epoch from = either_stays m (is_too_late ballot) (idle m) (accepts m epoch ballot view) (stays m) (record { clock = refl; untils = refl; lease = refl })
manager_stays (Body.Accepted ballot) m epoch from = at_stays (proposal_in m.proposal epoch) m (λ p. counts_acceptance p m from ballot) (λ p. acceptance_stays p m from ballot)
manager_stays (Body.Chosen view) m epoch from = learns_stays m view []
manager_stays (Body.Inv k s kind content) m epoch from = stays m
manager_stays (Body.Ack k s top) m epoch from = stays m
manager_stays (Body.Val k s) m epoch from = stays m
manager_stays (Body.CopyAsk after room) m epoch from = stays m
manager_stays (Body.CopyGive after done items) m epoch from = stays m
manager_stays (Body.LeaseAsk asked) m epoch from = stays m
manager_stays (Body.LeaseGive end) m epoch from = stays m
manager_stays (Body.Activate view) m epoch from = stays m

sender_stays : (a : Actor) (m : ManagerState) (l : Letter) → is_of_paxos l.body ≡ true → Stays m (receives_from a m l)
sender_stays (Node n) m l is = node_stays l.body m n is
sender_stays (Manager k) m l is = either_stays m (nat_lt k m.managers) (from_manager l.body m l.epoch k) (idle m) (manager_stays l.body m l.epoch k) (stays m)

begins_stays : (m : ManagerState) (change : Change) → Stays m (begins m change)
begins_stays m change = either_stays m (nat_lt MAX_EPOCH (m.held.epoch + 1) || nat_lt MAX_ROUND ((instance_at (m.held.epoch + 1) m.instances).round + 1)) (idle m) begun (stays m) (record { clock = refl; untils = refl; lease = refl })
  where
    ballot : Ballot
    ballot = record { round = (instance_at (m.held.epoch + 1) m.instances).round + 1; manager = m.id }

    begun : ManagerStepped
    begun = sends (record (with_instance m (m.held.epoch + 1) (record (instance_at (m.held.epoch + 1) m.instances) { round = ballot.round })) { proposal = Some (proposer_new (m.held.epoch + 1) ballot (changed m.held change) m.managers) })
        (to_all m (m.held.epoch + 1) (Body.Prepare ballot))

begun_stays : (o : Option ManagerFault) (m : ManagerState) (change : Change) → IsTimeless m (manager_or m (begins_unless o m change))
begun_stays None m change = begins_stays m change
begun_stays (Some fault) m change = stays m

proposed_stays : (b : Bool) (m : ManagerState) (change : Change) → IsTimeless m (manager_or m (cond b (begins_unless (change_fault m.held change) m change) (Err (Behind m.held.epoch))))
proposed_stays true m change = begun_stays (change_fault m.held change) m change
proposed_stays false m change = stays m

pub logged_stays : (m : ManagerState) (event : ManagerEvent) → is_logged event ≡ true → IsTimeless m (manager_or m (manager_step m event))
logged_stays m (Propose base change) is = proposed_stays (m.held.epoch == base) m change
logged_stays m (Receive l) is = either_stays m (is_addressed m l.to && nat_le l.epoch MAX_EPOCH) (receives_from l.from m l) (idle m) (sender_stays l.from m l is) (stays m)
logged_stays m Activate is = absurd (false≢true is)
logged_stays m (Tick now) is = absurd (false≢true is)

-- ---- a step of a manager that is the same but for its clock and untils
pub proposes_same : (clock : ℕ) (untils : List (NodeId × ℕ)) (m : ManagerState) (base : ℕ) (change : Change) → AreSame (manager_step m (Propose base change)) (manager_step (at_times m clock untils) (Propose base change))
proposes_same clock untils m base change = proposed_same clock untils (m.held.epoch == base) m change

same_managers : (x y : Result ManagerStepped ManagerFault) (m n : ManagerState) → AreSame x y → but_times m ≡ but_times n → but_times (manager_or m x) ≡ but_times (manager_or n y)
same_managers (Ok x) (Ok y) m n s e = s.manager
same_managers (Ok x) (Err fault) m n s e = absurd s
same_managers (Err fault) (Ok y) m n s e = absurd s
same_managers (Err fault) (Err other) m n s e = e

-- a logged step
logged_at : (m : ManagerState) (clock : ℕ) (untils : List (NodeId × ℕ)) (event : ManagerEvent) → is_logged event ≡ true → but_times (manager_or m (manager_step m event)) ≡ but_times (manager_or (at_times m clock untils) (manager_step (at_times m clock untils) event))
logged_at m clock untils (Propose base change) is =
    same_managers (manager_step m (Propose base change)) (manager_step (at_times m clock untils) (Propose base change)) m (at_times m clock untils) (proposes_same clock untils m base change) refl
logged_at m clock untils (Receive l) is = (receives_same clock untils m l).manager
logged_at m clock untils Activate is = absurd (false≢true is)
logged_at m clock untils (Tick now) is = absurd (false≢true is)

pub logged_same : (m n : ManagerState) (event : ManagerEvent) → but_times m ≡ but_times n → is_logged event ≡ true → but_times (manager_or m (manager_step m event)) ≡ but_times (manager_or n (manager_step n event))
logged_same m n event e is =
    subst (λ (x : ManagerState). but_times (manager_or m (manager_step m event)) ≡ but_times (manager_or x (manager_step x event))) (other_times m n e) (logged_at m n.clock n.untils event is)

-- what is logged, made anew by a manager that is the same but for its clock and untils
pub after_same : (m n : ManagerState) (steps : List ManagerEvent) → but_times m ≡ but_times n → but_times (after m (logged steps)) ≡ but_times (after n (logged steps))
after_same m n [] e = e
after_same m n (event ∷ steps) e = by_kind (is_logged event) refl
    (λ is. after_same (manager_or m (manager_step m event)) (manager_or n (manager_step n event)) steps (logged_same m n event e is)) (after_same m n steps e)
  where
    by_kind : (b : Bool) → is_logged event ≡ b → (is_logged event ≡ true → but_times (after (manager_or m (manager_step m event)) (logged steps)) ≡ but_times (after (manager_or n (manager_step n event)) (logged steps))) →
        but_times (after m (logged steps)) ≡ but_times (after n (logged steps)) → but_times (after m (cond b (event ∷ logged steps) (logged steps))) ≡ but_times (after n (cond b (event ∷ logged steps) (logged steps)))
    by_kind true is made left = made is
    by_kind false is made left = left

-- THE LOG IS ENOUGH: the steps that are not logged make no difference but to the clock and the untils
pub log_is_enough : (m n : ManagerState) (steps : List ManagerEvent) → but_times m ≡ but_times n → but_times (after m steps) ≡ but_times (after n (logged steps))
log_is_enough m n [] e = e
log_is_enough m n (event ∷ steps) e = by_kind (is_logged event) refl
    (λ is. log_is_enough (manager_or m (manager_step m event)) (manager_or n (manager_step n event)) steps (logged_same m n event e is))
    (λ un. log_is_enough (manager_or m (manager_step m event)) n steps (unlogged_quiet m event un ∙ e))
  where
    by_kind : (b : Bool) → is_logged event ≡ b → (is_logged event ≡ true → but_times (after (manager_or m (manager_step m event)) steps) ≡ but_times (after (manager_or n (manager_step n event)) (logged steps))) →
        (is_logged event ≡ false → but_times (after (manager_or m (manager_step m event)) steps) ≡ but_times (after n (logged steps))) →
        but_times (after (manager_or m (manager_step m event)) steps) ≡ but_times (after n (cond b (event ∷ logged steps) (logged steps)))
    by_kind true is made quiet = made is
    by_kind false un made quiet = quiet un

-- ---- a step that one manager takes, another one takes that is the same but for its times, if its clock is past its untils
abbrev or_else : ManagerStepped → Result ManagerStepped ManagerFault → ManagerStepped
or_else d (Ok x) = x
or_else d (Err fault) = d

abbrev Takes : Result ManagerStepped ManagerFault → ManagerStepped → Type 0
Takes result x = (y : ManagerStepped) × (result ≡ Ok y) × IsSame x y

taken_by : (a b : Result ManagerStepped ManagerFault) (x : ManagerStepped) → AreSame a b → a ≡ Ok x → Takes b x
taken_by (Ok v) (Ok w) x s e = (w, refl, subst (λ (z : ManagerStepped). IsSame z w) (ap (or_else v) e) s)
taken_by (Ok v) (Err fault) x s e = absurd s
taken_by (Err fault) (Ok w) x s e = absurd s
taken_by (Err fault) (Err other) x s e = absurd cc

activates_taken : (r q : Result Unit StillRuns) (m : ManagerState) (clock : ℕ) (untils : List (NodeId × ℕ)) (x : ManagerStepped) → activates_by r m ≡ Ok x → q ≡ Ok tt → Takes (activates_by q (at_times m clock untils)) x
activates_taken (Ok u) (Ok v) m clock untils x e p = taken_by (activates_by (Ok u) m) (activates_by (Ok v) (at_times m clock untils)) x (record { manager = refl; letters = refl }) e
activates_taken (Ok u) (Err running) m clock untils x e p = absurd cc
activates_taken (Err running) q m clock untils x e p = absurd cc

taken_at : (m : ManagerState) (clock : ℕ) (untils : List (NodeId × ℕ)) (event : ManagerEvent) (x : ManagerStepped) → manager_step m event ≡ Ok x → past_answer untils m.held clock ≡ Ok tt → Takes (manager_step (at_times m clock untils) event) x
taken_at m clock untils (Propose base change) x e p = taken_by (manager_step m (Propose base change)) (manager_step (at_times m clock untils) (Propose base change)) x (proposes_same clock untils m base change) e
taken_at m clock untils (Receive l) x e p = taken_by (manager_step m (Receive l)) (manager_step (at_times m clock untils) (Receive l)) x (receives_same clock untils m l) e
taken_at m clock untils Activate x e p = activates_taken (past_answer m.untils m.held m.clock) (past_answer untils m.held clock) m clock untils x e p
taken_at m clock untils (Tick now) x e p = taken_by (manager_step m (Tick now)) (manager_step (at_times m clock untils) (Tick now)) x (record { manager = refl; letters = refl }) e

pub taken_too : (m n : ManagerState) (event : ManagerEvent) (x : ManagerStepped) → but_times m ≡ but_times n → manager_step m event ≡ Ok x → past_answer n.untils n.held n.clock ≡ Ok tt → Takes (manager_step n event) x
taken_too m n event x e made past =
    let held : past_answer n.untils m.held n.clock ≡ Ok tt = ap (λ (y : ManagerState). past_answer n.untils y.held n.clock) e ∙ past in
    subst (λ (y : ManagerState). Takes (manager_step y event) x) (other_times m n e) (taken_at m n.clock n.untils event x made held)

-- a time past all untils
abbrev pub past_all : List (NodeId × ℕ) → ℕ
past_all [] = 0
past_all (e ∷ es) = max (suc e.1) (past_all es)

none_runs : (untils : List (NodeId × ℕ)) (view : View) (now : ℕ) → past_all untils ≤ now → first_running untils view now ≡ None
none_runs [] view now low = refl
none_runs (e ∷ es) view now low =
    let quiet : nat_le now e.1 ≡ false = lt-leb now e.1 (omega (arith, low)) in
    rw quiet (none_runs es view now (omega (arith, low)))

pub all_past : (untils : List (NodeId × ℕ)) (view : View) (now : ℕ) → past_all untils ≤ now → past_answer untils view now ≡ Ok tt
all_past untils view now low = ap past_or (none_runs untils view now low)
