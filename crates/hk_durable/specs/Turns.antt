-- A turn of the managers of one number that keep a log: a batch of steps is made, logged, and only then told.
use Rattle.std.specs.Prelude.{◌≡◌, ◌⊎◌, ◌≢◌, ◌≤◌, ℕ, ◌+◌, ◌-◌, ◌^◌, List, [], ◌∷◌, ◌++◌, length, min}
use Rattle.std.specs.List.{AllByRecursion}
use Rattle.hk_base.specs.declared.letter.Actor.{Actor}
use Rattle.hk_base.specs.declared.letter.Letter.{Letter}
use Rattle.hk_base.specs.declared.time.TheConstants.{MAX_TIME}
use Rattle.hk_link.specs.declared.parcel.Parcel.{Parcel}
use Rattle.hk_link.specs.Ends.{End, IsTaken, IsSameLink}
use Rattle.hk_overseer.specs.Sends.{AreSent}
use Rattle.hk_log.specs.declared.entry.Entry.{Entry}
use Rattle.hk_disk.specs.Writing.{IsSureLog}
use Rattle.hk_durable.specs.declared.batch.Intent.{Intent}
use Rattle.hk_durable.specs.Batches.{BatchState, IsNote, with_clocks, TakeAll, FulfilFrom, at_rest}
use Rattle.hk_durable.specs.declared.post.TheConstants.{MOST_PARCELS}

-- the managers and what waits to be logged and told; the links by which they are reached and reach others; the file of their log, and the check of its last record
pub record PostState (F : Type 0) : Type 0 where
  pub batch : BatchState
  pub inlet : End
  pub outlets : List (Actor × End)
  pub file : F
  pub check : List ℕ

-- these parcels were taken, one after the other
abbrev pub AreTaken : List Parcel → End → End → Type 0
AreTaken [] before after = after ≡ before
AreTaken (parcel ∷ parcels) before after = (between : End) × IsSameLink between before × IsTaken before.known parcel between.known × AreTaken parcels between after

-- the letters of all these steps are sent, for their shards, one list after the other
abbrev pub AllAreSent : List (ℕ × List Letter) → List (Actor × End) → List (Actor × End) → Type 0
AllAreSent [] before after = after ≡ before
AllAreSent (unsaid ∷ rest) before after = (between : List (Actor × End)) × AreSent unsaid.0 unsaid.1 before between × AllAreSent rest between after

-- the records of a log, and one more, if there is something to be logged
abbrev pub recorded : List Entry → List (List Entry) → List (List Entry)
recorded [] records = records
recorded (entry ∷ entries) records = records ++ (entry ∷ entries) ∷ []

-- how many records that makes, of which so many are told as a number of 64 bits holds
abbrev pub records_behind : List Entry → ℕ → ℕ
records_behind [] count = count
records_behind (entry ∷ entries) count = min (count + 1) (2 ^ 64 - 1)

-- ---- a batch is gathered
-- by what a clock told behind the parcels that were taken
module _ (was_read : List Parcel → ℕ → Type 0) where
  -- Notes alone waited. All parcels are taken first. Behind that the clock is read, and all steps are made by this reading, cut at the limit of clocks: those of
  -- the parcels and then what is intended. What is logged of them stands behind the notes: in a record that tells of the founding, or that the group is open, each
  -- step is one of that group.
  pub record IsBatch (intents : List Intent) (before : BatchState) (inlet_before : End) (after : BatchState) (inlet_after : End) : Type 0 where
    pub notes : AllByRecursion IsNote before.entries
    pub parcels : List Parcel
    pub taken : AreTaken parcels inlet_before inlet_after
    pub most : length parcels ≤ MOST_PARCELS
    pub reading : ℕ
    pub read : was_read parcels reading
    pub took : BatchState
    pub takes : TakeAll parcels (with_clocks (min reading MAX_TIME) before) took
    pub fulfils : FulfilFrom 0 intents took after

  -- Steps that still wait for their record, since memory was wanting for that, are taken up again, and nothing else is done before.
  abbrev pub IsGathered : List Intent → BatchState → End → BatchState → End → Type 0
  IsGathered intents before inlet_before after inlet_after =
      ((before.unsaid ≡ []) × IsBatch intents before inlet_before after inlet_after)
      ⊎ ((before.unsaid ≢ []) × (after ≡ before) × (inlet_after ≡ inlet_before))

-- ---- it is logged, and then told
-- by that too, and by what a file has, and what of that outlasts a stop of the machine
module _ {F : Type 0} (was_read : List Parcel → ℕ → Type 0) (holds is_sure : F → List ℕ → Type 0) where
  -- the record of the batch, with the notes in front, is in the log and sure, and then its letters were sent
  pub record IsTurn (intents : List Intent) (before after : PostState F) : Type 0 where
    pub made : BatchState
    pub gathered : IsGathered was_read intents before.batch before.inlet made after.inlet
    pub logged : (records : List (List Entry)) → IsSureLog holds is_sure before.file before.check records → IsSureLog holds is_sure after.file after.check (recorded made.entries records)
    pub told : AllAreSent made.unsaid before.outlets after.outlets
    pub rests : after.batch ≡ at_rest made.managers

-- the record was not made sure: the batch waits, and nothing was sent
pub record IsHeldUp {F : Type 0} (was_read : List Parcel → ℕ → Type 0) (intents : List Intent) (before after : PostState F) : Type 0 where
  pub gathered : IsGathered was_read intents before.batch before.inlet after.batch after.inlet
  pub silent : after.outlets ≡ before.outlets
