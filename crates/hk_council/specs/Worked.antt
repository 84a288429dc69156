-- A run worked by hand, in which one manager overtakes another, and the view of the one that was overtaken is agreed on.
use Rattle.std.specs.Prelude.{◌≡◌, ℕ, List, [], ◌∷◌, Option, None, Some}
use Rattle.hk_base.specs.declared.view.Ballot.{Ballot}
use Rattle.hk_base.specs.declared.view.Change.TheVariants.{Drop, Add}
use Rattle.hk_base.specs.declared.view.View.{View}
use Rattle.hk_base.specs.declared.view.Voted.{Voted}
use Rattle.hk_base.specs.declared.letter.Actor.TheVariants.{Node, Manager}
use Rattle.hk_base.specs.declared.letter.Body.{Body}
use Rattle.hk_paxos.specs.Run.{In}
use Rattle.hk_manager.specs.declared.event.ManagerEvent.TheVariants.{Propose, Receive, Activate, Tick}
use Rattle.hk_council.specs.Council.{Council, Event, IsRun, last_council, start}
use Rattle.hk_council.specs.Council.Event.{Step, Stop}

-- three founders, and the view with the last of them dropped
abbrev pub founders : View
founders = record { epoch = 1; members = record { 0 = 0 } ∷ record { 0 = 1 } ∷ record { 0 = 2 } ∷ []; next = 3 }

abbrev pub dropped : View
dropped = record { epoch = 2; members = record { 0 = 0 } ∷ record { 0 = 1 } ∷ []; next = 3 }

-- manager 0's ballot, and manager 1's, which is the higher one
abbrev pub low : Ballot
low = record { round = 1; manager = 0 }

abbrev pub high : Ballot
high = record { round = 2; manager = 1 }

abbrev pub vote : Option Voted
vote = Some (record { ballot = low; view = dropped })

-- a manager receives this from another, or from itself
abbrev pub takes : (manager from : ℕ) → Body → Event
takes manager from body = Step manager (Receive (record { epoch = 2; from = Manager from; to = Manager manager; body = body }))

-- Three managers, whose leases last 10. Manager 0 wants to drop a node, has the promises of a majority, and accepts its own view. Then
-- manager 1 proposes to add one; it promises its own ballot, and does not accept the view of manager 0 any more. By the promise of
-- manager 0 it learns of that view, and proposes it in place of its own. Manager 0 stops; managers 1 and 2 accept, and hold that
-- view. Once the first lease of the dropped node is past, manager 1 lets it begin.
abbrev pub events : List Event
events =
    Step 0 (Propose 1 (Drop (record { 0 = 2 }))) ∷ takes 0 0 (Body.Prepare low) ∷ takes 1 0 (Body.Prepare low) ∷
    takes 0 0 (Body.Promise low None) ∷ takes 0 1 (Body.Promise low None) ∷ takes 0 0 (Body.Accept low dropped) ∷
    Step 1 (Propose 1 Add) ∷ takes 1 1 (Body.Prepare high) ∷ takes 1 0 (Body.Accept low dropped) ∷ takes 0 1 (Body.Prepare high) ∷ Stop 0 ∷
    takes 1 1 (Body.Promise high None) ∷ takes 1 0 (Body.Promise high vote) ∷
    takes 1 1 (Body.Accept high dropped) ∷ takes 2 1 (Body.Accept high dropped) ∷
    takes 1 1 (Body.Accepted high) ∷ takes 1 2 (Body.Accepted high) ∷ takes 2 1 (Body.Chosen dropped) ∷
    Step 1 (Tick 12) ∷ Step 1 Activate ∷ []

abbrev pub last : Council
last = last_council (start 3 10 founders) events

-- it is a run, at whose end that view is learned, two managers hold it, and it begins
pub record Overtaken : Type 0 where
  pub runs : IsRun 3 (start 3 10 founders) events
  pub learned : last.learned ≡ founders ∷ dropped ∷ []
  pub stopped : (last.manager 0).held ≡ founders
  pub overtaker : (last.manager 1).held ≡ dropped
  pub third : (last.manager 2).held ≡ dropped
  pub begins : In last.sent (record { epoch = 2; from = Manager 1; to = Node (record { 0 = 0 }); body = Body.Activate dropped })
