-- That the managers of a world are a council, which agrees.
use Rattle.std.specs.Prelude.{◌≡◌, ◌≤◌, ℕ, List, length, Some}
use Rattle.hk_council.specs.Council.{Council}
use Rattle.hk_council.specs.Agreed.{IsAgreed}
use Rattle.hk_event.specs.declared.event.Header.{Header}
use Rattle.hk_event.specs.declared.event.Event.{Event}
use Rattle.hk_world.specs.declared.process.ManagerProcess.{ManagerProcess}
use Rattle.hk_world.specs.World.{WorldState, manager_at}
use Rattle.hk_world.specs.Start.{start}
use Rattle.hk_world.specs.Sound.{IsHeader}
use Rattle.hk_managed.specs.Runs.{IsRun}

-- the council has the world's managers, its letters, and the views that were learned
pub record IsCouncilOf (w : WorldState) (c : Council) : Type 0 where
  pub managers : (m : ℕ) (p : ManagerProcess) → manager_at m w.managers ≡ Some p → c.manager m ≡ p.manager
  pub stopped : (m : ℕ) (p : ManagerProcess) → manager_at m w.managers ≡ Some p → c.stopped m ≡ p.crashed
  pub sent : c.sent ≡ w.letters
  pub learned : c.learned ≡ w.views

-- AGREED: at each moment of every run of a group with managers, they agree on one view for each epoch, each made of the one before
-- by a change, and each epoch's letters are a run of Paxos.
abbrev pub WorldsAgree : Type 0
WorldsAgree = (h : Header) → IsHeader h → 1 ≤ h.managers → (events : List Event) (w : WorldState) → IsRun (start h) events w →
    (c : Council) × IsCouncilOf w c × IsAgreed (length w.managers) c
