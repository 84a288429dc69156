-- What contracts see of a worker, and how a turn finds something to do.
use Rattle.std.specs.Prelude.{◌≡◌, ◌⊎◌, ℕ, zero, suc, ◌-◌, List, Option, Some, None, slice_set}
use Rattle.std.specs.List.{slice_get, AllByRecursion}
use Rattle.hk_base.specs.declared.stamp.NodeId.{NodeId}
use Rattle.hk_link.specs.declared.parcel.Parcel.{Parcel}
use Rattle.hk_link.specs.Ends.{End, IsTaken as IsTakenFrom, WasEmpty, IsSameLink}
use Rattle.hk_due.specs.declared.due.Due.{Due}
use Rattle.hk_due.specs.Due.{key_of}
use Rattle.hk_turns.specs.Requests.{RequestState, IsTaken}
use Rattle.hk_turns.specs.Rounds.{RoundState, behind_key, next_shard}

-- its node, its inlets, the requests for leases that it has to make, and where it is in its walk over the open keys
pub record WorkerState : Type 0 where
  pub node : NodeId
  pub inlets : List End
  pub requests : RequestState
  pub round : RoundState

abbrev pub with_inlets : WorkerState → List End → WorkerState
with_inlets w inlets = record { node = w.node; inlets = inlets; requests = w.requests; round = w.round }

abbrev pub with_requests : WorkerState → RequestState → WorkerState
with_requests w requests = record { node = w.node; inlets = w.inlets; requests = requests; round = w.round }

abbrev pub with_round : WorkerState → RoundState → WorkerState
with_round w round = record { node = w.node; inlets = w.inlets; requests = w.requests; round = round }

-- ---- parcels
-- the inlet at this place was empty at a moment
pub record WasEmptyAt (place : ℕ) (inlets : List End) : Type 0 where
  pub inlet : End
  pub there : slice_get inlets place ≡ Some inlet
  pub empty : WasEmpty inlet

-- the parcel was taken from the inlet at this place, and from no other
pub record IsTakenAt (place : ℕ) (parcel : Parcel) (before after : List End) : Type 0 where
  pub old : End
  pub new : End
  pub there : slice_get before place ≡ Some old
  pub link : IsSameLink new old
  pub taken : IsTakenFrom old.known parcel new.known
  pub inlets : after ≡ slice_set before place new

-- one parcel is taken, from one of the inlets
pub record TakesParcel (parcel : Parcel) (before after : WorkerState) : Type 0 where
  pub place : ℕ
  pub taken : IsTakenAt place parcel before.inlets after.inlets
  pub same : after ≡ with_inlets before after.inlets

-- no inlet has a parcel: each was empty at a moment
abbrev pub FindsNoParcel : WorkerState → Type 0
FindsNoParcel w = AllByRecursion WasEmpty w.inlets

-- ---- requests
-- the first request that is due is taken
pub record TakesRequest (shard manager : ℕ) (before after : WorkerState) : Type 0 where
  pub taken : IsTaken shard manager before.requests after.requests
  pub same : after ≡ with_requests before after.requests

-- ---- the walk over the open keys
-- At the walk's present shard this is due, of the next key there. The walk goes on behind that key, or, where memory is wanting for that, at the next shard.
pub record IsFoundAt (finds : ℕ → Option (List ℕ) → ℕ → Option Due → Type 0) (round : RoundState) (found : Option (ℕ × Due)) (after : RoundState) : Type 0 where
  pub due : Due
  pub is : finds round.shard round.last round.before (Some due)
  pub goes : found ≡ Some (round.shard, due)
  pub behind : (after ≡ behind_key round round.shard (key_of due)) ⊎ (after ≡ next_shard round round.shard)

-- The walk over so many shards, from the present one. A shard is left where nothing is due there, or memory was wanting.
abbrev pub Walks : (ℕ → Option (List ℕ) → ℕ → Option Due → Type 0) → (ℕ → Type 0) → ℕ → RoundState → Option (ℕ × Due) → RoundState → Type 0
Walks finds lacks zero round found after = (found ≡ None) × (after ≡ round)
Walks finds lacks (suc shards) round found after = IsFoundAt finds round found after
    ⊎ ((finds round.shard round.last round.before None ⊎ lacks round.shard) × Walks finds lacks shards (next_shard round round.shard) found after)

-- the walk goes to the next key that is due, over the shards that are left
pub record TakesDue (finds : ℕ → Option (List ℕ) → ℕ → Option Due → Type 0) (lacks : ℕ → Type 0) (found : Option (ℕ × Due)) (before after : WorkerState) : Type 0 where
  pub walks : Walks finds lacks (8 - before.round.shard) before.round found after.round
  pub same : after ≡ with_round before after.round
