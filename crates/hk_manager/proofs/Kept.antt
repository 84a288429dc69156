-- Every step keeps what every manager keeps, and sends letters in range.
use Rattle.std.proofs.Common.{◌≡◌, ◌+◌, ◌||◌, ◌&&◌, ◌==◌, ℕ, ◌≤◌, Bool, true, false, cond, List, [], Option, Some, None, IfSome, Result, Ok, Err, max, min, nat_lt, nat_le, refl, arith}
use Rattle.std.specs.Option.{option_map}
use Rattle.hk_base.specs.declared.stamp.NodeId.{NodeId}
use Rattle.hk_base.specs.declared.time.TheConstants.{MAX_TIME}
use Rattle.hk_base.specs.declared.view.Ballot.{Ballot}
use Rattle.hk_base.specs.declared.view.Change.{Change}
use Rattle.hk_base.specs.declared.view.View.{View}
use Rattle.hk_base.specs.declared.letter.Actor.{Actor}
use Rattle.hk_base.specs.declared.letter.Actor.TheVariants.{Node, Manager}
use Rattle.hk_base.specs.declared.letter.Letter.{Letter}
use Rattle.hk_base.specs.declared.letter.Body.{Body}
use Rattle.hk_base.specs.declared.letter.Body.TheVariants as Body
use Rattle.hk_base.specs.View.{IsView, is_member}
use Rattle.hk_base.specs.Range.{IsLetter, IsBody, IsBallot, IsVote}
use Rattle.hk_paxos.specs.declared.acceptor.Promise.{Promise}
use Rattle.hk_paxos.specs.declared.proposer.Proposer.{Proposer}
use Rattle.hk_paxos.specs.Paxos.{is_refused, acceptor_on_prepare, acceptor_on_accept, proposer_on_promise, proposer_on_accepted}
use Rattle.hk_lease.specs.declared.grants.NotPast.{NotPast as StillRuns}
use Rattle.hk_lease.specs.Grants.{with_grant}
use Rattle.hk_lease.specs.Past.{past_answer}
use Rattle.hk_lease.specs.Wait.{wait}
use Rattle.hk_manager.specs.declared.instance.Instance.{Instance}
use Rattle.hk_manager.specs.declared.instance.TheConstants.{MAX_EPOCH, MAX_ROUND}
use Rattle.hk_manager.specs.declared.event.ManagerEvent.{ManagerEvent}
use Rattle.hk_manager.specs.declared.event.ManagerEvent.TheVariants.{Propose, Receive, Activate, Tick}
use Rattle.hk_manager.specs.declared.fault.ManagerFault.{ManagerFault}
use Rattle.hk_manager.specs.declared.fault.ManagerFault.TheVariants.{Behind}
use Rattle.hk_manager.specs.Manager.{ManagerState, instance_at, with_instance}
use Rattle.hk_manager.specs.Changes.{changed, change_fault}
use Rattle.hk_manager.specs.Sends.{to_others}
use Rattle.hk_manager.specs.Steps.{ManagerStepped, sends, idle, learns, promise_body, prepares, accepts, counts_promise, reports, counts_acceptance, proposal_in, at_proposal, asks_lease, is_too_late, from_node, from_manager, is_addressed, receives_from, receives, begins, begins_unless, proposes, activates_by, manager_ticks, manager_step}
use Rattle.hk_manager.specs.Sound.{IsInstance, IsProposal, IsManager, IsManagerEvent}
use Rattle.hk_manager.specs.Laws.{OfStep, StepKeepsManager, LettersInRange}
use Rattle.hk_manager.proofs.Views.{changed_view}
use Rattle.hk_manager.proofs.Parts.{prepared, accepted_at, instance_found, with_instance_kept, with_proposal_kept, with_held_kept, with_untils_kept, prepare_kept, accept_kept, promise_given, acceptance_given, new_proposal}
use Rattle.hk_manager.proofs.Sent.{AreFine, none_fine, one_fine, to_all_fine, to_others_fine, to_members_fine, told_fine}

pub record IsFine (stepped : ManagerStepped) : Type 0 where
  pub manager : IsManager stepped.manager
  pub letters : AreFine 16 stepped.letters

idle_fine : (m : ManagerState) → IsManager m → IsFine (idle m)
idle_fine m is = record { manager = is; letters = none_fine }

choice : (b : Bool) (x y : ManagerStepped) → IsFine x → IsFine y → IsFine (cond b x y)
choice true x y p q = p
choice false x y p q = q

learns_fine : (m : ManagerState) (view : View) (letters : List Letter) → IsManager m → IsView view → AreFine 16 letters → IsFine (learns m view letters)
learns_fine m view letters is sound fine = choice (nat_lt m.held.epoch view.epoch) (record { manager = record m { held = view }; letters = letters; chosen = Some view.epoch }) (sends m letters)
    (record { manager = with_held_kept m view is sound; letters = fine }) (record { manager = is; letters = fine })

-- ---- acceptors
promise_told : (instance : Instance) (ballot : Ballot) → IsInstance instance → IsBallot ballot → IfSome (option_map promise_body (acceptor_on_prepare instance.acceptor ballot).answer) IsBody
promise_told instance ballot is in_range = at (is_refused instance.acceptor.promised ballot)
  where
    at : (b : Bool) → IfSome (option_map promise_body (prepared b instance.acceptor ballot).answer) IsBody
    at true = tt
    at false = (in_range, is)

accepted_told : (instance : Instance) (ballot : Ballot) (view : View) → IsBallot ballot → IfSome (option_map (λ at. Body.Accepted at) (acceptor_on_accept instance.acceptor ballot view).answer) IsBody
accepted_told instance ballot view in_range = at (is_refused instance.acceptor.promised ballot)
  where
    at : (b : Bool) → IfSome (option_map (λ at. Body.Accepted at) (accepted_at b instance.acceptor ballot view).answer) IsBody
    at true = tt
    at false = in_range

prepares_fine : (m : ManagerState) (epoch : ℕ) (ballot : Ballot) → IsManager m → IsBallot ballot → IsFine (prepares m epoch ballot)
prepares_fine m epoch ballot is in_range =
    let known = instance_found m epoch is in
    record {
      manager = with_instance_kept m epoch _ is (prepare_kept (instance_at epoch m.instances) ballot (max (instance_at epoch m.instances).round ballot.round) known);
      letters = told_fine m epoch _ is (promise_told (instance_at epoch m.instances) ballot known in_range);
    }

accepts_fine : (m : ManagerState) (epoch : ℕ) (ballot : Ballot) (view : View) → IsManager m → IsBallot ballot → IsView view → IsFine (accepts m epoch ballot view)
accepts_fine m epoch ballot view is in_range sound =
    let known = instance_found m epoch is in
    record {
      manager = with_instance_kept m epoch _ is (accept_kept (instance_at epoch m.instances) ballot view (max (instance_at epoch m.instances).round ballot.round) known in_range sound);
      letters = told_fine m epoch _ is (accepted_told (instance_at epoch m.instances) ballot view in_range);
    }

-- ---- proposers
-- a manager's own ballots are in range
own_ballot : (m : ManagerState) (p : Proposer) → IsManager m → IsProposal m.id m.managers p → IsBallot p.ballot
own_ballot m p is proposal = let own = proposal.own in omega (arith, own, is.number, is.few)

accept_told : (ballot : Ballot) (view : Option View) → IsBallot ballot → IfSome view IsView → IfSome (option_map (λ v. Body.Accept ballot v) view) IsBody
accept_told ballot None in_range sound = tt
accept_told ballot (Some view) in_range sound = (in_range, sound)

promise_fine : (m : ManagerState) (p : Proposer) (from : ℕ) (promise : Promise) → IsManager m → IsProposal m.id m.managers p → IfSome promise.accepted IsVote → IsFine (counts_promise p m from promise)
promise_fine m p from promise is proposal vote =
    let given = promise_given m.id m.managers p from promise proposal vote in
    record {
      manager = with_proposal_kept m (proposer_on_promise p from promise).after is given.kept;
      letters = told_fine m p.epoch _ is (accept_told p.ballot (proposer_on_promise p from promise).answer (own_ballot m p is proposal) given.view);
    }

reports_fine : (m : ManagerState) (view : Option View) → IsManager m → IfSome view IsView → IsFine (reports m view)
reports_fine m None is sound = idle_fine m is
reports_fine m (Some view) is sound = learns_fine m view (to_others m view.epoch (Body.Chosen view)) is sound (to_others_fine m view.epoch (Body.Chosen view) is sound)

acceptance_fine : (m : ManagerState) (p : Proposer) (from : ℕ) (ballot : Ballot) → IsManager m → IsProposal m.id m.managers p → IsFine (counts_acceptance p m from ballot)
acceptance_fine m p from ballot is proposal =
    let given = acceptance_given m.id m.managers p from ballot proposal in
    reports_fine (record m { proposal = Some (proposer_on_accepted p from ballot).after }) (proposer_on_accepted p from ballot).answer
    (with_proposal_kept m (proposer_on_accepted p from ballot).after is given.kept) given.view

in_fine : (id managers epoch : ℕ) (proposal : Option Proposer) → IfSome proposal (IsProposal id managers) → IfSome (proposal_in proposal epoch) (IsProposal id managers)
in_fine id managers epoch None sound = tt
in_fine id managers epoch (Some p) sound = at (p.epoch == epoch)
  where
    at : (b : Bool) → IfSome (cond b (Some p) None) (IsProposal id managers)
    at true = sound
    at false = tt

at_proposal_fine : (m : ManagerState) (step : Proposer → ManagerStepped) (proposal : Option Proposer) → IsManager m → IfSome proposal (IsProposal m.id m.managers) →
    ((p : Proposer) → IsProposal m.id m.managers p → IsFine (step p)) → IsFine (at_proposal proposal m step)
at_proposal_fine m step None is sound each = idle_fine m is
at_proposal_fine m step (Some p) is sound each = each p sound

-- ---- letters
ask_fine : (m : ManagerState) (from : NodeId) (asked : ℕ) → IsManager m → IsFine (asks_lease m from asked)
ask_fine m from asked is =
    choice (is_member from m.held.members) _ (idle m)
    (record {
      manager = with_untils_kept m (with_grant m.untils from (m.clock + wait m.lease)) is;
      letters = one_fine m m.held.epoch (Body.LeaseGive (min (asked + m.lease) MAX_TIME)) is (omega arith) (Node from) tt;
    }) (idle_fine m is)

node_fine : (body : Body) (m : ManagerState) (from : NodeId) → IsManager m → IsFine (from_node body m from)
node_fine (Body.LeaseAsk asked) m from is = ask_fine m from asked is
node_fine (Body.Inv key s kind content) m from is = idle_fine m is
node_fine (Body.Ack key s top) m from is = idle_fine m is
node_fine (Body.Val key s) m from is = idle_fine m is
node_fine (Body.CopyAsk after room) m from is = idle_fine m is
node_fine (Body.CopyGive after done items) m from is = idle_fine m is
node_fine (Body.LeaseGive end) m from is = idle_fine m is
node_fine (Body.Prepare ballot) m from is = idle_fine m is
node_fine (Body.Promise ballot vote) m from is = idle_fine m is
node_fine (Body.Accept ballot view) m from is = idle_fine m is
node_fine (Body.Accepted ballot) m from is = idle_fine m is
node_fine (Body.Chosen view) m from is = idle_fine m is
node_fine (Body.Activate view) m from is = idle_fine m is

manager_fine : (body : Body) (m : ManagerState) (epoch from : ℕ) → IsManager m → IsBody body → IsFine (from_manager body m epoch from)
manager_fine (Body.Prepare ballot) m epoch from is fine = choice (is_too_late ballot) (idle m) (prepares m epoch ballot) (idle_fine m is) (prepares_fine m epoch ballot is fine)
manager_fine (Body.Promise ballot vote) m epoch from is fine =
    at_proposal_fine m (λ p. counts_promise p m from (record { ballot = ballot; accepted = vote })) (proposal_in m.proposal epoch) is (in_fine m.id m.managers epoch m.proposal is.proposal)
    (λ p proposal. promise_fine m p from (record { ballot = ballot; accepted = vote }) is proposal fine.1)
manager_fine (Body.Accept ballot view) m epoch from is fine = choice (is_too_late ballot) (idle m) (accepts m epoch ballot view) (idle_fine m is) (accepts_fine m epoch ballot view is fine.0 fine.1)
manager_fine (Body.Accepted ballot) m epoch from is fine =
    at_proposal_fine m (λ p. counts_acceptance p m from ballot) (proposal_in m.proposal epoch) is (in_fine m.id m.managers epoch m.proposal is.proposal) (λ p proposal. acceptance_fine m p from ballot is proposal)
manager_fine (Body.Chosen view) m epoch from is fine = learns_fine m view [] is fine none_fine
manager_fine (Body.LeaseAsk asked) m epoch from is fine = idle_fine m is
manager_fine (Body.Inv key s kind content) m epoch from is fine = idle_fine m is
manager_fine (Body.Ack key s top) m epoch from is fine = idle_fine m is
manager_fine (Body.Val key s) m epoch from is fine = idle_fine m is
manager_fine (Body.CopyAsk after room) m epoch from is fine = idle_fine m is
manager_fine (Body.CopyGive after done items) m epoch from is fine = idle_fine m is
manager_fine (Body.LeaseGive end) m epoch from is fine = idle_fine m is
manager_fine (Body.Activate view) m epoch from is fine = idle_fine m is

from_fine : (from : Actor) (m : ManagerState) (letter : Letter) → IsManager m → IsBody letter.body → IsFine (receives_from from m letter)
from_fine (Node from) m letter is fine = node_fine letter.body m from is
from_fine (Manager from) m letter is fine =
    choice (nat_lt from m.managers) (from_manager letter.body m letter.epoch from) (idle m) (manager_fine letter.body m letter.epoch from is fine) (idle_fine m is)

pub receives_fine : (m : ManagerState) (letter : Letter) → IsManager m → IsLetter letter → IsFine (receives m letter)
receives_fine m letter is fine =
    choice (is_addressed m letter.to && nat_le letter.epoch MAX_EPOCH) (receives_from letter.from m letter) (idle m) (from_fine letter.from m letter is fine.body) (idle_fine m is)

-- ---- proposals
begins_fine : (m : ManagerState) (change : Change) → IsManager m → change_fault m.held change ≡ None → IsFine (begins m change)
begins_fine m change is possible = choice (nat_lt MAX_EPOCH (m.held.epoch + 1) || nat_lt MAX_ROUND (before.round + 1)) (idle m) _ (idle_fine m is)
    (record {
      manager = with_proposal_kept (with_instance m (m.held.epoch + 1) (record before { round = before.round + 1 })) _
          (with_instance_kept m (m.held.epoch + 1) (record before { round = before.round + 1 }) is known)
          (new_proposal m.id m.managers (m.held.epoch + 1) (before.round + 1) (changed m.held change) (changed_view m.held change is.held possible));
      letters = to_all_fine m (m.held.epoch + 1) (Body.Prepare (record { round = before.round + 1; manager = m.id })) is (omega (arith, is.number, is.few));
    })
  where
    before : Instance
    before = instance_at (m.held.epoch + 1) m.instances

    known : IsInstance (instance_at (m.held.epoch + 1) m.instances)
    known = instance_found m (m.held.epoch + 1) is

unless_fine : (fault : Option ManagerFault) (m : ManagerState) (change : Change) → IsManager m → change_fault m.held change ≡ fault → OfStep IsFine (begins_unless fault m change)
unless_fine (Some fault) m change is same = tt
unless_fine None m change is same = begins_fine m change is same

proposes_fine : (m : ManagerState) (base : ℕ) (change : Change) → IsManager m → OfStep IsFine (proposes m base change)
proposes_fine m base change is = at (m.held.epoch == base)
  where
    at : (b : Bool) → OfStep IsFine (cond b (begins_unless (change_fault m.held change) m change) (Err (Behind m.held.epoch)))
    at true = unless_fine (change_fault m.held change) m change is refl
    at false = tt

activates_fine : (m : ManagerState) (past : Result Unit StillRuns) → IsManager m → OfStep IsFine (activates_by past m)
activates_fine m (Ok _) is = record { manager = is; letters = to_members_fine m m.held.epoch (Body.Activate m.held) is is.held }
activates_fine m (Err running) is = tt

ticks_fine : (m : ManagerState) (now : ℕ) → IsManager m → now ≤ MAX_TIME → IsFine (manager_ticks m now)
ticks_fine m now is upto = record {
  manager = record {
    few = is.few;
    number = is.number;
    lease = is.lease;
    held = is.held;
    clock_runs = omega (arith, is.clock_runs);
    clock = omega (arith, is.clock, upto);
    instances = is.instances;
    proposal = is.proposal;
  };
  letters = none_fine;
}

step_fine : (m : ManagerState) (event : ManagerEvent) → IsManager m → IsManagerEvent event → OfStep IsFine (manager_step m event)
step_fine m (Propose base change) is fine = proposes_fine m base change is
step_fine m (Receive letter) is fine = receives_fine m letter is fine
step_fine m Activate is fine = activates_fine m (past_answer m.untils m.held m.clock) is
step_fine m (Tick now) is fine = ticks_fine m now is fine

of_step : {P Q : ManagerStepped → Type 0} → ((stepped : ManagerStepped) → P stepped → Q stepped) → (step : Result ManagerStepped ManagerFault) → OfStep P step → OfStep Q step
of_step each (Ok stepped) holds = each stepped holds
of_step each (Err fault) holds = tt

pub keeps_managers : StepKeepsManager
keeps_managers m event is fine = of_step (λ stepped all. all.manager) (manager_step m event) (step_fine m event is fine)

pub letters_in_range : LettersInRange
letters_in_range m event is fine = of_step (λ stepped all. (all.letters.in_range, all.letters.few)) (manager_step m event) (step_fine m event is fine)
