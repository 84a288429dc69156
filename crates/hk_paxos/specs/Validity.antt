-- Only a view that was proposed is accepted, proposed again, or reported.
use Rattle.std.specs.Prelude.{◌≡◌, ℕ, List, Option, Some, None}
use Rattle.hk_base.specs.declared.view.View.{View}
use Rattle.hk_base.specs.declared.view.Voted.{Voted}
use Rattle.hk_paxos.specs.Run.{PaxosLetter, PaxosEvent, In, IsPaxosRun, last_state, paxos_start}
use Rattle.hk_paxos.specs.Run.PaxosLetter.{PrepareLetter, PromiseLetter, AcceptLetter, AcceptedLetter, ChosenLetter}
use Rattle.hk_paxos.specs.Run.PaxosEvent.{Propose}

-- the view that was accepted, if one was
abbrev pub IsVoteFor : Option Voted → View → Type 0
IsVoteFor None view = ⊥
IsVoteFor (Some voted) view = voted.view ≡ view

-- the view stands in the letter: a promise tells the one that was accepted last
abbrev pub Carries : PaxosLetter → View → Type 0
Carries (PrepareLetter ballot) view = ⊥
Carries (PromiseLetter from promise) view = IsVoteFor promise.accepted view
Carries (AcceptLetter ballot proposed) view = proposed ≡ view
Carries (AcceptedLetter from voted) view = voted.view ≡ view
Carries (ChosenLetter chosen) view = chosen ≡ view

-- VALIDITY: each view in a letter of a run is one that a manager proposed in it as its own.
abbrev pub Validity : Type 0
Validity = (epoch managers : ℕ) (events : List PaxosEvent) → IsPaxosRun epoch managers paxos_start events → (letter : PaxosLetter) (view : View) → In (last_state epoch managers paxos_start events).sent letter → Carries letter view →
    (manager : ℕ) × (round : ℕ) × In events (Propose manager round view)
