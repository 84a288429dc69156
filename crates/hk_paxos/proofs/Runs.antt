-- A run goes on by one more event.
use Rattle.std.proofs.Common.{◌≡◌, ℕ, List, [], ◌∷◌, ◌++◌, refl}
use Rattle.hk_paxos.specs.Run.{PaxosState, PaxosEvent, next, MayHappen, IsPaxosRun, last_state}

module _ (epoch managers : ℕ) where
  pub last_with : (st : PaxosState) (events : List PaxosEvent) (event : PaxosEvent) → last_state epoch managers st (events ++ event ∷ []) ≡ next epoch managers (last_state epoch managers st events) event
  last_with st [] event = refl
  last_with st (first ∷ events) event = last_with (next epoch managers st first) events event

  pub run_with : (st : PaxosState) (events : List PaxosEvent) (event : PaxosEvent) → IsPaxosRun epoch managers st events → MayHappen epoch managers (last_state epoch managers st events) event → IsPaxosRun epoch managers st (events ++ event ∷ [])
  run_with st [] event run may = (may, tt)
  run_with st (first ∷ events) event run may = (run.0, run_with (next epoch managers st first) events event run.1 may)
