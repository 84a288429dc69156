-- How a process ends whose node served its clients, or for which there was no memory.
use Rattle.std.proofs.Common.{◌≡◌, ◌⊎◌, inl, inr, ℕ, ◌<◌, Bool, true, false, Result, Ok, Err, IfOk, subst, sym, ap}
use Rattle.std.proofs.lemmas.Bool.{false≢true}
use Rattle.hk_base.specs.declared.stamp.NodeId.{NodeId}
use Rattle.hk_outside.specs.Causes.{Rose}
use Rattle.hk_outside.specs.declared.status.Status.{Status}
use Rattle.hk_outside.specs.declared.status.Status.TheVariants as status
use Rattle.hk_accept.specs.Serving.{EndsServe}
use Rattle.hk_worker.specs.Founding.{FoundedState}

is_fault : Status → Bool
is_fault status.DoorFault = true
is_fault status.SpawnFault = true
is_fault other = false

no_fault : (s : Status) → (s ≡ status.Done) ⊎ (s ≡ status.Memory) → is_fault s ≡ false
unfolding is_fault
no_fault s (inl done) = ap is_fault done
no_fault s (inr none) = ap is_fault none

ends_at : (s : Status) → (s ≡ status.Done) ⊎ (s ≡ status.Memory) → EndsServe s
ends_at s (inl done) = subst EndsServe (sym done) tt
ends_at s (inr none) = subst EndsServe (sym none) tt

-- who served all that came has served them, or there was no memory
pub served_all : {E : Type 0} (r : Result Status E) → IfOk r (λ s. s ≡ status.Done) → IfOk r (λ s. (s ≡ status.Done) ⊎ (s ≡ status.Memory))
served_all (Ok s) done = inl done
served_all (Err e) done = tt

pub ends_served : {E : Type 0} (r : Result Status E) → IfOk r (λ s. (s ≡ status.Done) ⊎ (s ≡ status.Memory)) → IfOk r EndsServe
ends_served (Ok s) served = ends_at s served
ends_served (Err e) served = tt

pub no_door_fault : {E : Type 0} (r : Result Status E) → IfOk r (λ s. (s ≡ status.Done) ⊎ (s ≡ status.Memory)) → r ≡ Ok status.DoorFault → ⊥
unfolding is_fault
no_door_fault r served is = false≢true (sym (no_fault status.DoorFault (subst (λ q. IfOk q (λ s. (s ≡ status.Done) ⊎ (s ≡ status.Memory))) is served)))

pub no_spawn_fault : {E : Type 0} (before now : ℕ) (r : Result Status E) → IfOk r (λ s. (s ≡ status.Done) ⊎ (s ≡ status.Memory)) → r ≡ Ok status.SpawnFault → Rose before now
unfolding is_fault
no_spawn_fault before now r served is = absurd (false≢true (sym (no_fault status.SpawnFault (subst (λ q. IfOk q (λ s. (s ≡ status.Done) ⊎ (s ≡ status.Memory))) is served))))

-- a node that was made has a number of two bytes
pub is_numbered : {E : Type 0} (r : Result FoundedState E) (node : NodeId) → node.0 < 65536 → IfOk r (λ f. f.node ≡ node) → IfOk r (λ f. f.node.0 < 65536)
is_numbered (Ok f) node below is = subst (λ (n : NodeId). n.0 < 65536) (sym is) below
is_numbered (Err e) node below is = tt
