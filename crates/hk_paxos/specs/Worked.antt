-- A run worked by hand, in which one proposer overtakes another.
use Rattle.std.specs.Prelude.{◌≡◌, ℕ, List, [], ◌∷◌, Option, None, Some}
use Rattle.hk_base.specs.declared.view.Ballot.{Ballot}
use Rattle.hk_base.specs.declared.view.View.{View}
use Rattle.hk_base.specs.declared.view.Voted.{Voted}
use Rattle.hk_paxos.specs.Run.{PaxosLetter, PaxosEvent, IsPaxosRun, last_state, paxos_start, IsChosen}
use Rattle.hk_paxos.specs.Run.PaxosLetter.{PrepareLetter, PromiseLetter, AcceptLetter, AcceptedLetter, ChosenLetter}
use Rattle.hk_paxos.specs.Run.PaxosEvent.{Propose, Deliver, Stop}

-- the view with node 2 dropped, which manager 0 wants, and the one with node 3 added, which manager 1 wants
abbrev pub dropped : View
dropped = record { epoch = 2; members = record { 0 = 0 } ∷ record { 0 = 1 } ∷ []; next = 3 }

abbrev pub added : View
added = record { epoch = 2; members = record { 0 = 0 } ∷ record { 0 = 1 } ∷ record { 0 = 2 } ∷ record { 0 = 3 } ∷ []; next = 4 }

-- of the two ballots manager 1's is the higher one
abbrev pub low : Ballot
low = record { round = 1; manager = 0 }

abbrev pub high : Ballot
high = record { round = 1; manager = 1 }

abbrev pub vote : Ballot → View → Voted
vote ballot view = record { ballot = ballot; view = view }

abbrev pub promises : ℕ → Ballot → Option Voted → PaxosLetter
promises from ballot accepted = PromiseLetter from (record { ballot = ballot; accepted = accepted })

-- Manager 0 has the promises of a majority, and accepts its own view. Then manager 1 proposes, and promises its own ballot: it does
-- not accept the view of manager 0 any more. By the promise of manager 0 it learns of that view, and proposes it in place of its own.
-- Manager 0 stops; managers 1 and 2 accept.
abbrev pub events : List PaxosEvent
events =
    Propose 0 1 dropped ∷ Deliver 0 (PrepareLetter low) ∷ Deliver 1 (PrepareLetter low) ∷
    Deliver 0 (promises 0 low None) ∷ Deliver 0 (promises 1 low None) ∷ Deliver 0 (AcceptLetter low dropped) ∷
    Propose 1 1 added ∷ Deliver 1 (PrepareLetter high) ∷ Deliver 1 (AcceptLetter low dropped) ∷ Deliver 0 (PrepareLetter high) ∷ Stop 0 ∷
    Deliver 1 (promises 1 high None) ∷ Deliver 1 (promises 0 high (Some (vote low dropped))) ∷
    Deliver 1 (AcceptLetter high dropped) ∷ Deliver 2 (AcceptLetter high dropped) ∷
    Deliver 1 (AcceptedLetter 1 (vote high dropped)) ∷ Deliver 1 (AcceptedLetter 2 (vote high dropped)) ∷ []

-- what is sent, the newest first
abbrev pub letters : List PaxosLetter
letters =
    ChosenLetter dropped ∷ AcceptedLetter 2 (vote high dropped) ∷ AcceptedLetter 1 (vote high dropped) ∷ AcceptLetter high dropped ∷
    promises 0 high (Some (vote low dropped)) ∷ promises 1 high None ∷ PrepareLetter high ∷
    AcceptedLetter 0 (vote low dropped) ∷ AcceptLetter low dropped ∷ promises 1 low None ∷ promises 0 low None ∷ PrepareLetter low ∷ []

-- It is a run of three managers. It sends just these letters, and the view of the overtaken proposer is chosen.
pub record Overtaken : Type 0 where
  pub run : IsPaxosRun 2 3 paxos_start events
  pub sent : (last_state 2 3 paxos_start events).sent ≡ letters
  pub chosen : IsChosen 3 (last_state 2 3 paxos_start events) dropped
