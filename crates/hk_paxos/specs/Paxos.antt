-- What an acceptor and a proposer make of a letter: single-decree Paxos (Lamport, "Paxos made simple", 2001).
use Rattle.std.specs.Prelude.{ℕ, ◌*◌, List, [], ◌∷◌, ◌++◌, length, Option, None, Some, Bool, true, false, nat_lt, ◌==◌, ◌&&◌, ◌||◌, not, if◌then◌else◌}
use Rattle.std.specs.List.{list_any}
use Rattle.hk_base.specs.declared.view.Ballot.{Ballot}
use Rattle.hk_base.specs.declared.view.View.{View}
use Rattle.hk_base.specs.declared.view.Voted.{Voted}
use Rattle.hk_paxos.specs.declared.acceptor.Promise.{Promise}
use Rattle.hk_paxos.specs.declared.acceptor.Acceptor.{Acceptor}
use Rattle.hk_paxos.specs.declared.proposer.Proposer.{Proposer}

-- what a letter makes of an acceptor or a proposer, and its answer, if it has one
pub record Step (Who Answer : Type 0) : Type 0 where
  pub after : Who
  pub answer : Option Answer

-- nothing changes, and there is no answer
abbrev pub stays : {Who Answer : Type 0} → Who → Step Who Answer
stays who = record { after = who; answer = None }

-- ballots are ordered by round, then by manager
abbrev pub is_below : Ballot → Ballot → Bool
is_below a b = nat_lt a.round b.round || (a.round == b.round && nat_lt a.manager b.manager)

abbrev pub is_same : Ballot → Ballot → Bool
is_same a b = a.round == b.round && a.manager == b.manager

-- a promise forbids the ballots below it
abbrev pub is_refused : Option Ballot → Ballot → Bool
is_refused None ballot = false
is_refused (Some promised) ballot = is_below ballot promised

abbrev pub acceptor_new : Acceptor
acceptor_new = record { promised = None; accepted = None }

-- Phase 1b: it promises a ballot that its promise does not forbid, and tells what it accepted last.
abbrev pub acceptor_on_prepare : Acceptor → Ballot → Step Acceptor Promise
acceptor_on_prepare a ballot =
    if is_refused a.promised ballot then stays a
    else record { after = record { promised = Some ballot; accepted = a.accepted }; answer = Some (record { ballot = ballot; accepted = a.accepted }) }

-- Phase 2b: it accepts a view at a ballot that its promise does not forbid.
abbrev pub acceptor_on_accept : Acceptor → Ballot → View → Step Acceptor Ballot
acceptor_on_accept a ballot view =
    if is_refused a.promised ballot then stays a
    else record { after = record { promised = Some ballot; accepted = Some (record { ballot = ballot; view = view }) }; answer = Some ballot }

-- more than half of the managers
abbrev pub is_majority : ℕ → ℕ → Bool
is_majority managers count = nat_lt managers (2 * count)

-- something was accepted, and nothing is known, or only what was accepted at a lower ballot
abbrev pub is_higher : Option Voted → Option Voted → Bool
is_higher None known = false
is_higher (Some told) None = true
is_higher (Some told) (Some known) = is_below known.ballot told.ballot

-- the view that was accepted at the highest ballot, as far as the proposer was told, or its own
abbrev pub value_or : Option Voted → View → View
value_or None own = own
value_or (Some highest) own = highest.view

-- what the proposer is to propose
abbrev pub value_of : Proposer → View
value_of p = value_or p.highest p.own

-- Phase 1a: a proposal begins, and asks for promises at its ballot.
abbrev pub proposer_new : ℕ → Ballot → View → ℕ → Proposer
proposer_new epoch ballot view managers = record {
  epoch = epoch;
  ballot = ballot;
  own = view;
  managers = managers;
  promised = [];
  highest = None;
  accepted = [];
}

-- a majority promised, or accepted, as far as the proposer noted
abbrev pub has_promises : Proposer → Bool
has_promises p = is_majority p.managers (length p.promised)

abbrev pub has_acceptances : Proposer → Bool
has_acceptances p = is_majority p.managers (length p.accepted)

abbrev pub is_noted : ℕ → List ℕ → Bool
is_noted from noted = list_any (λ manager. manager == from) noted

-- a promise counts where it is of this ballot, this manager did not promise before, and no majority promised before
abbrev pub counts_promise : Proposer → ℕ → Ballot → Bool
counts_promise p from ballot = is_same ballot p.ballot && not (has_promises p) && not (is_noted from p.promised)

-- an acceptance counts where it is of this ballot, the view to propose was given, this manager did not accept before,
-- and no majority accepted before
abbrev pub counts_acceptance : Proposer → ℕ → Ballot → Bool
counts_acceptance p from ballot = is_same ballot p.ballot && has_promises p && not (has_acceptances p) && not (is_noted from p.accepted)

abbrev pub with_promise : Proposer → ℕ → Option Voted → Proposer
with_promise p from told = record p { promised = p.promised ++ from ∷ []; highest = if is_higher told p.highest then told else p.highest }

abbrev pub with_acceptance : Proposer → ℕ → Proposer
with_acceptance p from = record p { accepted = p.accepted ++ from ∷ [] }

-- Phase 2a: at the promise that makes the majority there is a view to propose. A promise that does not count changes
-- nothing.
abbrev pub proposer_on_promise : Proposer → ℕ → Promise → Step Proposer View
proposer_on_promise p from promise =
    if counts_promise p from promise.ballot
    then (let after = with_promise p from promise.accepted in record { after = after; answer = if has_promises after then Some (value_of after) else None })
    else stays p

-- After phase 2b: at the acceptance that makes the majority the view is chosen. An acceptance that does not count
-- changes nothing.
abbrev pub proposer_on_accepted : Proposer → ℕ → Ballot → Step Proposer View
proposer_on_accepted p from ballot =
    if counts_acceptance p from ballot
    then (let after = with_acceptance p from in record { after = after; answer = if has_acceptances after then Some (value_of after) else None })
    else stays p
