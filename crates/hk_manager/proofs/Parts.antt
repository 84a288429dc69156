-- What a manager keeps, part by part.
use Rattle.std.proofs.Common.{◌≡◌, ℕ, Bool, true, false, cond, List, [], ◌∷◌, Option, Some, None, IfSome, unwrap_or, refl, subst}
use Rattle.std.specs.Ordering.{nat_cmp}
use Rattle.std.specs.BTreeMap.{is_at}
use Rattle.std.specs.Map.{lookup, values_of}
use Rattle.std.specs.List.{AllByRecursion}
use Rattle.std.proofs.lemmas.Map.Views.{All-values-insert_entry}
use Rattle.std.proofs.lemmas.List.Elements.{recursion_from_All}
use Rattle.hk_base.specs.declared.stamp.NodeId.{NodeId}
use Rattle.hk_base.specs.declared.view.Ballot.{Ballot}
use Rattle.hk_base.specs.declared.view.View.{View}
use Rattle.hk_base.specs.declared.view.Voted.{Voted}
use Rattle.hk_base.specs.View.{IsView}
use Rattle.hk_base.specs.Range.{IsBallot, IsVote}
use Rattle.hk_paxos.specs.declared.acceptor.Acceptor.{Acceptor}
use Rattle.hk_paxos.specs.declared.acceptor.Promise.{Promise}
use Rattle.hk_paxos.specs.declared.proposer.Proposer.{Proposer}
use Rattle.hk_paxos.specs.Paxos.{Step, stays, is_refused, is_higher, value_or, value_of, has_promises, has_acceptances, counts_promise, counts_acceptance, with_promise, with_acceptance, acceptor_on_prepare, acceptor_on_accept, proposer_new, proposer_on_promise, proposer_on_accepted}
use Rattle.hk_manager.specs.declared.instance.Instance.{Instance}
use Rattle.hk_manager.specs.Manager.{ManagerState, fresh, instance_at, with_instance}
use Rattle.hk_manager.specs.Sound.{IsInstance, IsProposal, IsManager}

-- ---- instances
found : (epoch : ℕ) (instances : List (ℕ × Instance)) → AllByRecursion IsInstance (values_of instances) → IsInstance (instance_at epoch instances)
found epoch [] all = tt
found epoch (e ∷ es) all = at (is_at (nat_cmp epoch) e.0) (found epoch es all.1)
  where
    at : (b : Bool) → IsInstance (instance_at epoch es) → IsInstance (unwrap_or (cond b (Some e.1) (lookup (is_at (nat_cmp epoch)) es)) fresh)
    at true ih = all.0
    at false ih = ih

pub instance_found : (m : ManagerState) (epoch : ℕ) → IsManager m → IsInstance (instance_at epoch m.instances)
instance_found m epoch is = found epoch m.instances (recursion_from_All _ _ is.instances)

pub with_instance_kept : (m : ManagerState) (epoch : ℕ) (instance : Instance) → IsManager m → IsInstance instance → IsManager (with_instance m epoch instance)
with_instance_kept m epoch instance is sound = record {
  few = is.few;
  number = is.number;
  lease = is.lease;
  held = is.held;
  clock_runs = is.clock_runs;
  clock = is.clock;
  instances = All-values-insert_entry nat_cmp epoch instance IsInstance m.instances is.instances sound;
  proposal = is.proposal;
}

pub with_proposal_kept : (m : ManagerState) (proposer : Proposer) → IsManager m → IsProposal m.id m.managers proposer → IsManager (record m { proposal = Some proposer })
with_proposal_kept m proposer is sound = record {
  few = is.few;
  number = is.number;
  lease = is.lease;
  held = is.held;
  clock_runs = is.clock_runs;
  clock = is.clock;
  instances = is.instances;
  proposal = sound;
}

pub with_held_kept : (m : ManagerState) (view : View) → IsManager m → IsView view → IsManager (record m { held = view })
with_held_kept m view is sound = record {
  few = is.few;
  number = is.number;
  lease = is.lease;
  held = sound;
  clock_runs = is.clock_runs;
  clock = is.clock;
  instances = is.instances;
  proposal = is.proposal;
}

pub with_untils_kept : (m : ManagerState) (untils : List (NodeId × ℕ)) → IsManager m → IsManager (record m { untils = untils })
with_untils_kept m untils is = record {
  few = is.few;
  number = is.number;
  lease = is.lease;
  held = is.held;
  clock_runs = is.clock_runs;
  clock = is.clock;
  instances = is.instances;
  proposal = is.proposal;
}

-- ---- acceptors
abbrev pub prepared : Bool → Acceptor → Ballot → Step Acceptor Promise
prepared b a ballot = cond b (stays a) (record { after = record { promised = Some ballot; accepted = a.accepted }; answer = Some (record { ballot = ballot; accepted = a.accepted }) })

abbrev pub accepted_at : Bool → Acceptor → Ballot → View → Step Acceptor Ballot
accepted_at b a ballot view = cond b (stays a) (record { after = record { promised = Some ballot; accepted = Some (record { ballot = ballot; view = view }) }; answer = Some ballot })

pub prepare_kept : (instance : Instance) (ballot : Ballot) (round : ℕ) → IsInstance instance → IsInstance (record { acceptor = (acceptor_on_prepare instance.acceptor ballot).after; round = round })
prepare_kept instance ballot round is = at (is_refused instance.acceptor.promised ballot)
  where
    at : (b : Bool) → IfSome (prepared b instance.acceptor ballot).after.accepted IsVote
    at true = is
    at false = is

pub accept_kept : (instance : Instance) (ballot : Ballot) (view : View) (round : ℕ) → IsInstance instance → IsBallot ballot → IsView view →
    IsInstance (record { acceptor = (acceptor_on_accept instance.acceptor ballot view).after; round = round })
accept_kept instance ballot view round is in_range sound = at (is_refused instance.acceptor.promised ballot)
  where
    at : (b : Bool) → IfSome (accepted_at b instance.acceptor ballot view).after.accepted IsVote
    at true = is
    at false = record { ballot = in_range; view = sound }

-- ---- proposers
abbrev pub Proposing : Type 0
Proposing = Step Proposer View

-- the vote of the higher ballot is a vote
higher : (b : Bool) (told known : Option Voted) → IfSome told IsVote → IfSome known IsVote → IfSome (cond b told known) IsVote
higher true told known a k = a
higher false told known a k = k

with_promise_kept : (id managers : ℕ) (p : Proposer) (from : ℕ) (told : Option Voted) → IsProposal id managers p → IfSome told IsVote → IsProposal id managers (with_promise p from told)
with_promise_kept id managers p from told is vote = record {
  own = is.own;
  among = is.among;
  view = is.view;
  highest = higher (is_higher told p.highest) told p.highest vote is.highest;
}

with_acceptance_kept : (id managers : ℕ) (p : Proposer) (from : ℕ) → IsProposal id managers p → IsProposal id managers (with_acceptance p from)
with_acceptance_kept id managers p from is = record { own = is.own; among = is.among; view = is.view; highest = is.highest }

value_is_view : (id managers : ℕ) (p : Proposer) → IsProposal id managers p → IsView (value_of p)
value_is_view id managers p is = at p.highest is.highest
  where
    at : (highest : Option Voted) → IfSome highest IsVote → IsView (value_or highest p.own)
    at None vote = is.view
    at (Some voted) vote = vote.view

-- a proposal, and the view that it gives, if any
pub record IsGiven (id managers : ℕ) (step : Proposing) : Type 0 where
  pub kept : IsProposal id managers step.after
  pub view : IfSome step.answer IsView

given : (id managers : ℕ) (p : Proposer) (b : Bool) → IsProposal id managers p → IsGiven id managers (record { after = p; answer = cond b (Some (value_of p)) None })
given id managers p true is = record { kept = is; view = value_is_view id managers p is }
given id managers p false is = record { kept = is; view = tt }

stays_given : (id managers : ℕ) (p : Proposer) → IsProposal id managers p → IsGiven id managers (stays p)
stays_given id managers p is = record { kept = is; view = tt }

pub promise_given : (id managers : ℕ) (p : Proposer) (from : ℕ) (promise : Promise) → IsProposal id managers p → IfSome promise.accepted IsVote → IsGiven id managers (proposer_on_promise p from promise)
promise_given id managers p from promise is vote = at (counts_promise p from promise.ballot)
  where
    after : Proposer
    after = with_promise p from promise.accepted

    at : (b : Bool) → IsGiven id managers (cond b (record { after = with_promise p from promise.accepted; answer = cond (has_promises (with_promise p from promise.accepted)) (Some (value_of (with_promise p from promise.accepted))) None }) (stays p))
    at true = given id managers (with_promise p from promise.accepted) (has_promises (with_promise p from promise.accepted)) (with_promise_kept id managers p from promise.accepted is vote)
    at false = stays_given id managers p is

pub acceptance_given : (id managers : ℕ) (p : Proposer) (from : ℕ) (ballot : Ballot) → IsProposal id managers p → IsGiven id managers (proposer_on_accepted p from ballot)
acceptance_given id managers p from ballot is = at (counts_acceptance p from ballot)
  where
    at : (b : Bool) → IsGiven id managers (cond b (record { after = with_acceptance p from; answer = cond (has_acceptances (with_acceptance p from)) (Some (value_of (with_acceptance p from))) None }) (stays p))
    at true = given id managers (with_acceptance p from) (has_acceptances (with_acceptance p from)) (with_acceptance_kept id managers p from is)
    at false = stays_given id managers p is

-- the latest proposal is one
pub latest : (m : ManagerState) (p : Proposer) → IsManager m → m.proposal ≡ Some p → IsProposal m.id m.managers p
latest m p is at = subst (λ (o : Option Proposer). IfSome o (IsProposal m.id m.managers)) at is.proposal

pub new_proposal : (id managers epoch round : ℕ) (view : View) → IsView view → IsProposal id managers (proposer_new epoch (record { round = round; manager = id }) view managers)
new_proposal id managers epoch round view is = record { own = refl; among = refl; view = is; highest = tt }
