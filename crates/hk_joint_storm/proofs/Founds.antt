-- What reads of the keys found, read by read.
use Rattle.std.proofs.Common.{◌≡◌, ◌+◌, ℕ, List, [], ◌∷◌, ◌++◌, length, Option, Result, Ok, Err, IfOk, sym, subst, ◌∙◌, arith}
use Rattle.std.specs.Prelude.{OnOk}
use Rattle.std.specs.List.{AllByRecursion}
use Rattle.std.proofs.lemmas.List.{length-append}
use Rattle.hk_snap.specs.declared.snapshot.Snapshot.{Snapshot}
use Rattle.hk_snap.specs.Ends.{Reader}
use Rattle.hk_joint_reads.specs.declared.read.Joint.{Joint}
use Rattle.hk_joint_reads.specs.declared.read.Joint.TheVariants.{Found, Elsewhere, Moved, Busy, Large}
use Rattle.hk_joint_reads.specs.Reads.{IsJointRead}
use Rattle.hk_joint_reads.proofs.Keys.{found_keys}
use Rattle.hk_joint_storm.specs.Keys.{storm_keys, IsOfKeys}
use Rattle.hk_joint_storm.specs.Kept.{IsOfStorm}
use Rattle.hk_joint_storm.specs.Concluded.{AreFounds}

-- one more, of the keys
with_last : (founds : List (List Snapshot)) (found : List Snapshot) → AllByRecursion IsOfKeys founds → IsOfKeys found → AllByRecursion IsOfKeys (founds ++ found ∷ [])
with_last [] found are is = (is, tt)
with_last (f ∷ founds) found are is = (are.0, with_last founds found are.1 is)

one_longer : (founds : List (List Snapshot)) (found : List Snapshot) → length (founds ++ found ∷ []) ≡ length founds + 1
one_longer founds found = length-append founds (found ∷ [])

pub found_more : {E : Type 0} (r : Result (Unit {0}) E) (old new : List (List Snapshot)) (found : List Snapshot) → IsOfKeys found → OnOk r (new ≡ old ++ found ∷ []) →
    OnOk r ((reads : ℕ) → AreFounds reads old → AreFounds (reads + 1) new)
found_more (Err e) old new found is pushed = tt
found_more (Ok u) old new found is pushed = λ reads are.
    let long = one_longer old found in
    let few = are.few in
    subst (AreFounds (reads + 1)) (sym pushed) (record { few = omega (arith, long, few); keys = with_last old found are.keys is })

-- a read that found nothing
pub found_none : (founds : List (List Snapshot)) (reads : ℕ) → AreFounds reads founds → AreFounds (reads + 1) founds
found_none founds reads are = let few = are.few in record { few = omega (arith, few); keys = are.keys }

pub none_yet : AreFounds 0 []
none_yet = record { few = omega arith; keys = tt }

-- what a read of the keys is told is of them
pub read_of_storm : {E : Type 0} (r : Result Joint E) (old new : Reader) (keys : List (List ℕ)) (end skew : ℕ) (reading : Option ℕ) → keys ≡ storm_keys →
    IfOk r (λ joint. IsJointRead old new keys end skew reading joint) → IfOk r (λ joint. IsOfStorm joint)
read_of_storm (Err e) old new keys end skew reading same is = tt
read_of_storm (Ok (Found found)) old new keys end skew reading same is = found_keys old new keys end skew reading found is ∙ same
read_of_storm (Ok (Elsewhere key)) old new keys end skew reading same is = tt
read_of_storm (Ok (Moved key first second)) old new keys end skew reading same is = tt
read_of_storm (Ok (Busy why)) old new keys end skew reading same is = tt
read_of_storm (Ok (Large key)) old new keys end skew reading same is = tt
