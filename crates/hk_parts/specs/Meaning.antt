-- What it means to cover a stamp in an epoch and to be exact for it, in moments of the run: the marks of a trace say just that.
use Rattle.std.specs.Prelude.{◌≡◌, ◌⊎◌, ◌↔◌, ℕ, List, ◌<◌, ◌≤◌, Some}
use Rattle.hk_register.specs.Machine.{In, WaitingUpdate}
use Rattle.hk_register.specs.Machine.Message.{Ack}
use Rattle.hk_register.specs.Effects.{Has}
use Rattle.hk_world.specs.Steps.{acting_of}
use Rattle.hk_effects.specs.Projection.{Trace, project, traced}
use Rattle.hk_world.specs.Sound.{IsHeader}
use Rattle.hk_parts.specs.Moments.{Run, Ends, Moment, EventOf}
use Rattle.hk_parts.specs.Facts.{HasCovered, WasExact}

module _ (key : List ℕ) (run : Run) (n e s : ℕ) where
  -- at a moment at which the node was in the epoch its row had the stamp
  pub record RowWas : Type 0 where
    pub when : Trace
    pub moment : Moment key run when
    pub some : 1 ≤ e
    pub epoch : ((project key when).node n).epoch ≡ e
    pub stamp : ((project key when).node n).stamp ≡ s

  -- at such a moment its pending update had it
  pub record PendingWas : Type 0 where
    pub when : Trace
    pub moment : Moment key run when
    pub epoch : ((project key when).node n).epoch ≡ e
    pub pending : WaitingUpdate
    pub has : Has ((project key when).node n).phase pending
    pub stamp : pending.stamp ≡ s

  -- its pending update had it when it installed the epoch
  pub record InstalledWith : Type 0 where
    pub at : EventOf key run
    pub acts : acting_of at.accepted ≡ Some (record { 0 = n })
    pub pending : WaitingUpdate
    pub has : Has ((project key at.was).node n).phase pending
    pub stamp : pending.stamp ≡ s
    pub before : ((project key at.was).node n).epoch < e
    pub epoch : ((project key (traced key at.was at.event at.accepted)).node n).epoch ≡ e

  -- in the epoch it sent an ACK of it
  pub record Acknowledged : Type 0 where
    pub when : Trace
    pub moment : Moment key run when
    pub top : ℕ
    pub sent : In (project key when).letters (Ack n e s top)

  abbrev pub CoverWas : Type 0
  CoverWas = RowWas ⊎ PendingWas ⊎ InstalledWith ⊎ Acknowledged

abbrev pub ExactMeans : Type 0
ExactMeans = (run : Run) → IsHeader run.header → (key : List ℕ) (last : Trace) → Ends key run last → (n e s : ℕ) → WasExact key last n e s ↔ RowWas key run n e s

abbrev pub CoversMean : Type 0
CoversMean = (run : Run) → IsHeader run.header → (key : List ℕ) (last : Trace) → Ends key run last → (n e s : ℕ) → HasCovered key last n e s ↔ CoverWas key run n e s
