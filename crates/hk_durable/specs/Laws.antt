-- What a turn is to each shard: a batch of steps of a manager that keeps a log.
use Rattle.std.specs.Prelude.{◌≡◌, ℕ, List, [], ◌∷◌, ◌++◌, ◌==◌, if◌then◌else◌, Some}
use Rattle.std.specs.List.{slice_get, AllByRecursion}
use Rattle.hk_base.specs.declared.letter.Letter.{Letter}
use Rattle.hk_link.specs.declared.parcel.Parcel.{Parcel}
use Rattle.hk_log.specs.declared.entry.Entry.{Entry}
use Rattle.hk_log.specs.declared.entry.Entry.TheVariants as entry
use Rattle.hk_manager.specs.declared.event.ManagerEvent.{ManagerEvent}
use Rattle.hk_manager.specs.declared.event.ManagerEvent.TheVariants.{Propose, Receive, Tick}
use Rattle.hk_manager.specs.Manager.{ManagerState}
use Rattle.hk_return.specs.Log.{after, letters_of, logged, AreTaken}
use Rattle.hk_durable.specs.declared.batch.Intent.{Intent}
use Rattle.hk_durable.specs.Batches.{BatchState, IsNote, with_clocks, TakeAll, FulfilFrom}

-- what entries tell of the manager of a shard: the steps that it made
abbrev pub steps_told : ℕ → Entry → List ManagerEvent
steps_told shard (entry.Founded founding) = []
steps_told shard entry.Open = []
steps_told shard (entry.Propose at base change) = if at == shard then Propose base change ∷ [] else []
steps_told shard (entry.Receive at letter) = if at == shard then Receive letter ∷ [] else []
steps_told shard (entry.Bound actor ticket) = []

abbrev pub steps_in : ℕ → List Entry → List ManagerEvent
steps_in shard [] = []
steps_in shard (e ∷ entries) = steps_told shard e ++ steps_in shard entries

-- the letters of a shard
abbrev pub letters_in : ℕ → List (ℕ × List Letter) → List Letter
letters_in shard [] = []
letters_in shard (unsaid ∷ rest) = (if unsaid.0 == shard then unsaid.1 else []) ++ letters_in shard rest

-- In a batch the manager of the shard made these steps, none of which it refused; what is to be logged tells just those of them that a manager logs, and their
-- letters wait for that.
pub record IsBatchOf (shard : ℕ) (m : ManagerState) (steps : List ManagerEvent) (made : BatchState) : Type 0 where
  pub taken : AreTaken m steps
  pub manager : slice_get made.managers shard ≡ Some (after m steps)
  pub logs : steps_in shard made.entries ≡ logged steps
  pub says : letters_in shard made.unsaid ≡ letters_of m steps

-- BATCHES ARE BATCHES: what a turn makes by a reading of the clock is to each shard a batch of a manager that keeps a log, and the first of its steps is that the
-- clock reads that. What it also logs, before its steps, tells no step.
abbrev pub BatchesAreBatches : Type 0
BatchesAreBatches = (before : BatchState) (now : ℕ) (parcels : List Parcel) (intents : List Intent) (took made : BatchState) → before.unsaid ≡ [] → AllByRecursion IsNote before.entries →
    TakeAll parcels (with_clocks now before) took → FulfilFrom 0 intents took made → (shard : ℕ) (m : ManagerState) → slice_get before.managers shard ≡ Some m →
    (steps : List ManagerEvent) × IsBatchOf shard m (Tick now ∷ steps) made
