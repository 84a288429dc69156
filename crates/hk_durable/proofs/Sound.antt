-- Managers in a list keep what every manager keeps, and their number.
use Rattle.std.proofs.Common.{◌≡◌, ℕ, zero, suc, ◌<◌, ◌≤◌, List, [], ◌∷◌, ◌++◌, length, get_or, slice_set, replicate, Option, None, Some, Result, Ok, Err, IfOk, refl, sym, ap, ◌∙◌, subst, append-nil, arith}
use Rattle.std.specs.List.{AllByRecursion, slice_get}
use Rattle.std.specs.Prelude.{All, IfSome}
use Rattle.std.proofs.lemmas.List.{length-map}
use Rattle.hk_base.specs.declared.time.TheConstants.{MAX_TIME}
use Rattle.hk_base.specs.declared.view.View.{View}
use Rattle.hk_base.specs.View.{IsView}
use Rattle.hk_base.specs.Range.{IsLetter}
use Rattle.hk_manager.specs.declared.event.ManagerEvent.TheVariants.{Tick}
use Rattle.hk_manager.specs.declared.fault.ManagerFault.{ManagerFault}
use Rattle.hk_manager.specs.declared.fault.ManagerFault.TheVariants.{Memory, Behind, NoSuchMember, LastMember, Full, NoNumbers, NotPast}
use Rattle.hk_manager.specs.declared.out.ManagerOut.{ManagerOut}
use Rattle.hk_manager.specs.Manager.{ManagerState}
use Rattle.hk_manager.specs.Steps.{ManagerStepped}
use Rattle.std.proofs.lemmas.List.Elements.{All-from_recursion, All-push}
use Rattle.hk_manager.specs.Sound.{IsInstance, IsManager, manager_new}
use Rattle.hk_base.specs.declared.memory.Memory.{Memory as Wanting}
use Rattle.hk_manager.specs.Outs.{made, IsMadeOf, IsStepOf}
use Rattle.hk_manager.specs.Laws.{OfStep, StepKeepsManager}
use Rattle.hk_manager.specs.declared.event.ManagerEvent.{ManagerEvent}
use Rattle.hk_manager.specs.Steps.{manager_step}
use Rattle.hk_base.specs.declared.letter.Letter.{Letter}
use Rattle.hk_log.specs.declared.entry.Entry.{Entry}
use Rattle.hk_log.specs.Entries.{IsEntryInRange}
use Rattle.hk_durable.specs.Batches.{ticked, AreManagers, AreNotesAlone, IsRefusal, list_of}

pub new_sound : (id managers : ℕ) (view : View) (lease : ℕ) → managers ≤ 9 → id < managers → IsView view → lease ≤ MAX_TIME → IsManager (manager_new id managers view lease)
new_sound id managers view lease few number held within = record {
  few = few;
  number = number;
  lease = within;
  held = held;
  clock_runs = omega arith;
  clock = omega arith;
  instances = All-from_recursion IsInstance [] tt;
  proposal = tt;
}

all_alike : (P : ManagerState → Type 0) (m : ManagerState) (n : ℕ) → P m → AllByRecursion P (replicate n m)
all_alike P m zero is = tt
all_alike P m (suc n) is = (is, all_alike P m n is)

all_set : (P : ManagerState → Type 0) (ms : List ManagerState) (i : ℕ) (m : ManagerState) → AllByRecursion P ms → P m → AllByRecursion P (slice_set ms i m)
all_set P [] i m all is = tt
all_set P (x ∷ ms) zero m all is = (is, all.1)
all_set P (x ∷ ms) (suc i) m all is = (all.0, all_set P ms i m all.1 is)

set_length : (ms : List ManagerState) (i : ℕ) (m : ManagerState) → length (slice_set ms i m) ≡ length ms
set_length [] i m = refl
set_length (x ∷ ms) zero m = refl
set_length (x ∷ ms) (suc i) m = ap suc (set_length ms i m)

pub all_at : (P : ManagerState → Type 0) (ms : List ManagerState) (i : ℕ) (m : ManagerState) → AllByRecursion P ms → slice_get ms i ≡ Some m → P m
all_at P [] i m all at = absurd cc
all_at P (x ∷ ms) zero m all at = let same : x ≡ m = cc in subst P same all.0
all_at P (x ∷ ms) (suc i) m all at = all_at P ms i m all.1 at

pub all_index : (P : ManagerState → Type 0) (ms : List ManagerState) (i : ℕ) (m : ManagerState) → AllByRecursion P ms → i < length ms → P (get_or ms i m)
all_index P [] i m all low = absurd (omega (arith, low))
all_index P (x ∷ ms) zero m all low = all.0
all_index P (x ∷ ms) (suc i) m all low = all_index P ms i m all.1 (omega (arith, low))

pub founders : (id managers : ℕ) (view : View) (lease : ℕ) → managers ≤ 9 → id < managers → IsView view → lease ≤ MAX_TIME → AreManagers id lease (replicate 8 (manager_new id managers view lease))
founders id managers view lease few number held within = record {
  few = omega (arith, few, number);
  within = within;
  eight = refl;
  sound = all_alike IsManager (manager_new id managers view lease) 8 (new_sound id managers view lease few number held within);
  number = all_alike (λ m. m.id ≡ id) (manager_new id managers view lease) 8 refl;
  leases = all_alike (λ m. m.lease ≡ lease) (manager_new id managers view lease) 8 refl;
}

-- one manager is another one of the same number, with leases of the same length
pub with_one : (id lease : ℕ) (ms : List ManagerState) (i : ℕ) (m : ManagerState) → AreManagers id lease ms → IsManager m → m.id ≡ id → m.lease ≡ lease → AreManagers id lease (slice_set ms i m)
with_one id lease ms i m are sound number long = record {
  few = are.few;
  within = are.within;
  eight = set_length ms i m ∙ are.eight;
  sound = all_set IsManager ms i m are.sound sound;
  number = all_set (λ x. x.id ≡ id) ms i m are.number number;
  leases = all_set (λ x. x.lease ≡ lease) ms i m are.leases long;
}

sound_ticked : StepKeepsManager → (now : ℕ) → now ≤ MAX_TIME → (ms : List ManagerState) → AllByRecursion IsManager ms → AllByRecursion IsManager (ticked now ms)
sound_ticked law now within [] all = tt
sound_ticked law now within (m ∷ ms) all = (law m (Tick now) all.0 within, sound_ticked law now within ms all.1)

number_ticked : (id now : ℕ) (ms : List ManagerState) → AllByRecursion (λ m. m.id ≡ id) ms → AllByRecursion (λ m. m.id ≡ id) (ticked now ms)
number_ticked id now [] all = tt
number_ticked id now (m ∷ ms) all = (all.0, number_ticked id now ms all.1)

lease_ticked : (lease now : ℕ) (ms : List ManagerState) → AllByRecursion (λ m. m.lease ≡ lease) ms → AllByRecursion (λ m. m.lease ≡ lease) (ticked now ms)
lease_ticked lease now [] all = tt
lease_ticked lease now (m ∷ ms) all = (all.0, lease_ticked lease now ms all.1)

pub with_clocks_risen : StepKeepsManager → (id lease now : ℕ) → now ≤ MAX_TIME → (ms : List ManagerState) → AreManagers id lease ms → AreManagers id lease (ticked now ms)
with_clocks_risen law id lease now within ms are = record {
  few = are.few;
  within = are.within;
  eight = length-map ms _ ∙ are.eight;
  sound = sound_ticked law now within ms are.sound;
  number = number_ticked id now ms are.number;
  leases = lease_ticked lease now ms are.leases;
}

-- what every step leaves of a manager is left where a step is refused or wants memory, too
pub made_keeps : (P : ManagerState → Type 0) (r : Result ManagerOut ManagerFault) (old new : ManagerState) (s : Result ManagerStepped ManagerFault) → P old → OfStep (λ t. P t.manager) s → IsStepOf r old new s → P new
made_keeps P (Ok out) old new (Ok stepped) was is step = let same : made new out ≡ stepped = cc in subst P (ap (λ (t : ManagerStepped). t.manager) (sym same)) is
made_keeps P (Ok out) old new (Err fault) was is step = absurd cc
made_keeps P (Err Memory) old new s was is step = subst P (sym step) was
made_keeps P (Err (Behind held)) old new s was is step = subst P (sym step.1) was
made_keeps P (Err NoSuchMember) old new s was is step = subst P (sym step.1) was
made_keeps P (Err LastMember) old new s was is step = subst P (sym step.1) was
made_keeps P (Err Full) old new s was is step = subst P (sym step.1) was
made_keeps P (Err NoNumbers) old new s was is step = subst P (sym step.1) was
made_keeps P (Err (NotPast node end)) old new s was is step = subst P (sym step.1) was

-- a fault that is told is that by which the manager of the shard refuses the step
pub refusal_told : (r : Result (List Letter) ManagerFault) (fault : ManagerFault) (managers : List ManagerState) (shard : ℕ) (event : ManagerEvent) (old new : ManagerState) → r ≡ Err fault → slice_get managers shard ≡ Some old → IsStepOf (Err fault) old new (manager_step old event) →
    IsRefusal r shard event managers
refusal_told r fault managers shard event old new is there step = subst (λ (x : Result (List Letter) ManagerFault). IsRefusal x shard event managers) (sym is) (by fault step)
  where
    by : (f : ManagerFault) → IsStepOf (Err f) old new (manager_step old event) → IsRefusal (Err f) shard event managers
    by Memory told = tt
    by (Behind held) told = record { manager = old; there = there; refused = sym told.0 }
    by NoSuchMember told = record { manager = old; there = there; refused = sym told.0 }
    by LastMember told = record { manager = old; there = there; refused = sym told.0 }
    by Full told = record { manager = old; there = there; refused = sym told.0 }
    by NoNumbers told = record { manager = old; there = there; refused = sym told.0 }
    by (NotPast node end) told = record { manager = old; there = there; refused = sym told.0 }

-- what may be logged, and one thing more, if there is one
pub entries_behind : (entries : List Entry) (one : Option Entry) → All IsEntryInRange entries → IfSome one IsEntryInRange → All IsEntryInRange (entries ++ list_of one)
entries_behind entries None are is = subst (All IsEntryInRange) (sym (append-nil entries)) are
entries_behind entries (Some e) are is = All-push IsEntryInRange entries e are is

-- behind a step, notes alone are no question
pub alone_behind : (entries : List Entry) (unsaid : List (ℕ × List Letter)) (one : ℕ × List Letter) → AreNotesAlone entries (unsaid ++ one ∷ [])
alone_behind entries [] one = tt
alone_behind entries (u ∷ unsaid) one = tt

-- the letters of a step that was made are in range
pub letters_made : (r : Result ManagerOut ManagerFault) (old new : ManagerState) (s : Result ManagerStepped ManagerFault) → OfStep (λ t. AllByRecursion IsLetter t.letters) s → IsStepOf r old new s → IfOk r (λ out. AllByRecursion IsLetter out.letters)
letters_made (Ok out) old new (Ok stepped) is step = let same : made new out ≡ stepped = cc in subst (AllByRecursion IsLetter) (ap (λ (t : ManagerStepped). t.letters) (sym same)) is
letters_made (Ok out) old new (Err fault) is step = absurd cc
letters_made (Err fault) old new s is step = tt

-- of two things that every step has
pub first_of : (P Q : ManagerStepped → Type 0) (s : Result ManagerStepped ManagerFault) → OfStep (λ t. P t × Q t) s → OfStep P s
first_of P Q (Ok stepped) is = is.0
first_of P Q (Err fault) is = tt

pub second_of : (P Q : ManagerStepped → Type 0) (s : Result ManagerStepped ManagerFault) → OfStep (λ t. P t × Q t) s → OfStep Q s
second_of P Q (Ok stepped) is = is.1
second_of P Q (Err fault) is = tt

-- the same of a step that takes a letter
pub taken_keeps : (P : ManagerState → Type 0) (r : Result ManagerOut Wanting) (old new : ManagerState) (s : ManagerStepped) → P old → P s.manager → IsMadeOf r old new s → P new
taken_keeps P (Ok out) old new s was is step = subst P (ap (λ (t : ManagerStepped). t.manager) (sym step)) is
taken_keeps P (Err wanting) old new s was is step = subst P (sym step) was
