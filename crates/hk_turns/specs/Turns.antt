-- The turns of a worker.
use Rattle.std.specs.Prelude.{◌≡◌, ◌⊎◌, ℕ, zero, suc, List, [], ◌∷◌, Bool, true, false, Option, Some, None}
use Rattle.hk_base.specs.declared.letter.Actor.{Actor}
use Rattle.hk_base.specs.declared.letter.Actor.TheVariants.{Node}
use Rattle.hk_base.specs.declared.letter.Letter.{Letter}
use Rattle.hk_node.specs.declared.event.NodeEvent.{NodeEvent}
use Rattle.hk_node.specs.declared.event.NodeEvent.TheVariants.{Receive, AskLease}
use Rattle.hk_link.specs.declared.parcel.Parcel.{Parcel}
use Rattle.hk_link.specs.Ends.{End}
use Rattle.hk_overseer.specs.Sends.{is_same, IsSent}
use Rattle.hk_due.specs.declared.due.Due.{Due}
use Rattle.hk_due.specs.Due.{event_of}
use Rattle.hk_turns.specs.Requests.{first_due}
use Rattle.hk_turns.specs.Rounds.{begun}
use Rattle.hk_turns.specs.Workers.{WorkerState, TakesParcel, FindsNoParcel, TakesRequest, TakesDue, with_round}

-- what letters go by: a gate, which is asked before each put, and outlets
pub record Way (G : Type 0) : Type 0 where
  pub gate : G
  pub outlets : List (Actor × End)

-- ---- letters
-- a letter that the gate keeps is sent, and another one is lost
abbrev pub GoesOut : Bool → ℕ → Letter → List (Actor × End) → List (Actor × End) → Type 0
GoesOut true shard letter before after = IsSent shard letter before after
GoesOut false shard letter before after = after ≡ before

-- letters go out for a shard one after the other, each as the gate answers
abbrev pub GoOut : {G : Type 0} → (G → Bool → G → Type 0) → ℕ → List Letter → Way G → Way G → Type 0
GoOut answers shard [] before after = after ≡ before
GoOut answers shard (letter ∷ letters) before after =
    (kept : Bool) × (between : Way _) × answers before.gate kept between.gate × GoesOut kept shard letter before.outlets between.outlets × GoOut answers shard letters between after

-- ---- a step
-- The step of the event was made at the shard, and the letters that it gave went out for the same shard.
pub record IsMade {G : Type 0} (applies : ℕ → NodeEvent → List Letter → Type 0) (answers : G → Bool → G → Type 0) (shard : ℕ) (event : NodeEvent) (before after : Way G) : Type 0 where
  pub letters : List Letter
  pub applied : applies shard event letters
  pub put : GoOut answers shard letters before after

-- or memory was wanting at the shard, or the letter was refused there, and the event is lost
pub record IsLost {G : Type 0} (lacks : ℕ → Type 0) (shard : ℕ) (before after : Way G) : Type 0 where
  pub lacking : lacks shard
  pub same : after ≡ before

abbrev pub IsMadeOrLost : {G : Type 0} → (ℕ → NodeEvent → List Letter → Type 0) → (ℕ → Type 0) → (G → Bool → G → Type 0) → ℕ → NodeEvent → Way G → Way G → Type 0
IsMadeOrLost applies lacks answers shard event before after = IsMade applies answers shard event before after ⊎ IsLost lacks shard before after

-- a letter to the node is given to the shard of its parcel; another one is passed over
abbrev pub IsReceived : {G : Type 0} → (ℕ → NodeEvent → List Letter → Type 0) → (ℕ → Type 0) → (G → Bool → G → Type 0) → Bool → Parcel → Way G → Way G → Type 0
IsReceived applies lacks answers true parcel before after = IsMadeOrLost applies lacks answers parcel.shard (Receive parcel.letter) before after
IsReceived applies lacks answers false parcel before after = after ≡ before

-- what is due is sent again, if anything is
abbrev pub IsSentAgain : {G : Type 0} → (ℕ → NodeEvent → List Letter → Type 0) → (ℕ → Type 0) → (G → Bool → G → Type 0) → Option (ℕ × Due) → Way G → Way G → Type 0
IsSentAgain applies lacks answers None before after = after ≡ before
IsSentAgain applies lacks answers (Some due) before after = IsMadeOrLost applies lacks answers due.0 (event_of due.1) before after

-- ---- a turn
-- a worker at work
pub record Working (G : Type 0) : Type 0 where
  pub worker : WorkerState
  pub way : Way G

-- by which steps were made at shards, what is due there, what is owed there, where memory was wanting or a letter was refused, and what the gate answers
module _ {G : Type 0} (applies : ℕ → NodeEvent → List Letter → Type 0) (finds : ℕ → Option (List ℕ) → ℕ → Option Due → Type 0) (owes : ℕ → Due → Type 0) (lacks : ℕ → Type 0) (answers : G → Bool → G → Type 0) where
  -- a parcel is taken, and its letter is given to its shard
  pub record ReceivesParcel (before after : Working G) : Type 0 where
    pub parcel : Parcel
    pub taken : TakesParcel parcel before.worker after.worker
    pub received : IsReceived applies lacks answers (is_same (Node before.worker.node) parcel.letter.to) parcel before.way after.way

  -- a shard makes its next request to a manager
  pub record AsksManager (before after : Working G) : Type 0 where
    pub shard : ℕ
    pub manager : ℕ
    pub taken : TakesRequest shard manager before.worker after.worker
    pub asked : IsMadeOrLost applies lacks answers shard (AskLease manager) before.way after.way

  -- no request is due, and the update of the next open key that is due is sent again, if there is one
  pub record SendsAgain (before after : Working G) : Type 0 where
    pub no_request : first_due before.worker.requests.left ≡ None
    pub found : Option (ℕ × Due)
    pub taken : TakesDue finds lacks found before.worker after.worker
    pub sent : IsSentAgain applies lacks answers found before.way after.way

  -- no request is due, and what is owed at a shard, of a row that was open, is sent again
  pub record SendsWanted (before after : Working G) : Type 0 where
    pub no_request : first_due before.worker.requests.left ≡ None
    pub shard : ℕ
    pub due : Due
    pub owed : owes shard due
    pub same : after.worker ≡ before.worker
    pub sent : IsMadeOrLost applies lacks answers shard (event_of due) before.way after.way

  -- what a turn does where the inlets have no parcel: it asks a manager, or else sends again what someone waits for, or what is due
  abbrev pub GoesOn : Working G → Working G → Type 0
  GoesOn before after = AsksManager before after ⊎ (SendsWanted before after ⊎ SendsAgain before after)

  abbrev pub IsTurn : Working G → Working G → Type 0
  IsTurn before after = ReceivesParcel before after ⊎ (FindsNoParcel before.worker × GoesOn before after)

-- the same worker and outlets, and another gate
abbrev pub at_gate : {G : Type 0} → Working G → G → Working G
at_gate w gate = record { worker = w.worker; way = record { gate = gate; outlets = w.way.outlets } }

-- so many turns, before each of which the gate let the worker pass
abbrev pub AreTurns : {G : Type 0} → (ℕ → NodeEvent → List Letter → Type 0) → (ℕ → Option (List ℕ) → ℕ → Option Due → Type 0) → (ℕ → Due → Type 0) → (ℕ → Type 0) → (G → Bool → G → Type 0) → (G → Bool)
    → ℕ → Working G → Working G → Type 0
AreTurns applies finds owes lacks answers closed zero before after = after ≡ before
AreTurns applies finds owes lacks answers closed (suc turns) before after =
    (between : Working _) × AreTurns applies finds owes lacks answers closed turns before between × (passed : _) × (closed passed ≡ false)
    × IsTurn applies finds owes lacks answers (at_gate between passed) after

-- the walk over the open keys begins, or goes on, at a ticket
abbrev pub begins : {G : Type 0} → Working G → ℕ → Working G
begins w ticket = record { worker = with_round w.worker (begun w.worker.round ticket); way = w.way }

-- A call that made so many turns. At its end the gate may have closed.
pub record Works {G : Type 0} (applies : ℕ → NodeEvent → List Letter → Type 0) (finds : ℕ → Option (List ℕ) → ℕ → Option Due → Type 0) (owes : ℕ → Due → Type 0) (lacks : ℕ → Type 0) (answers : G → Bool → G → Type 0)
    (closed : G → Bool) (turns : ℕ) (before after : Working G) : Type 0 where
  pub ticket : ℕ
  pub last : Working G
  pub turned : AreTurns applies finds owes lacks answers closed turns (begins before ticket) last
  pub end : (after ≡ last) ⊎ ((after ≡ at_gate last after.way.gate) × (closed after.way.gate ≡ true))
