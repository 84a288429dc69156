-- What was concluded by the journal of a shard ends a storm.
use Rattle.std.proofs.Common.{◌≡◌, ℕ, List, Option}
use Rattle.hk_base.specs.declared.time.TheConstants.{MAX_TIME}
use Rattle.hk_outside.specs.declared.status.Status.{Status}
use Rattle.hk_outside.specs.declared.status.Status.TheVariants as Status
use Rattle.hk_snap.specs.declared.snapshot.Snapshot.{Snapshot}
use Rattle.hk_place.specs.Past.{Past}
use Rattle.hk_lone.specs.Lone.{lone_node}
use Rattle.hk_joint_storm.specs.Concluded.{IsPast, AreFounds, IsConcluded, HasConcluded, IsJointStorm, EndsJointStorm}

module _ (workers reads : ℕ) (past : Past) (founds : List (List Snapshot)) (held held' : Option (List ℕ)) where
  pub ends_of : (status : Status) → IsConcluded status workers reads past founds held held' → EndsJointStorm status
  ends_of Status.Done told = tt
  ends_of Status.Memory told = tt
  ends_of Status.Usage told = absurd told
  ends_of Status.ReadFault told = absurd told
  ends_of Status.WriteFault told = tt
  ends_of Status.BadLine told = absurd told
  ends_of Status.TooLong told = absurd told
  ends_of Status.Gap told = tt
  ends_of Status.DoorFault told = absurd told
  ends_of Status.SpawnFault told = absurd told

  -- reads of the keys at a shard of a group of one
  pub record OfStorm : Type 0 where
    pub is : IsPast past
    pub lone : past.base ≡ lone_node MAX_TIME 0
    pub are : AreFounds reads founds

  has : (status : Status) → OfStorm → IsConcluded status workers reads past founds held held' → HasConcluded status workers reads held held'
  has status of told = record { past = past; is = of.is; lone = of.lone; founds = founds; are = of.are; told = told }

  pub storm_of : (status : Status) → OfStorm → IsConcluded status workers reads past founds held held' → IsJointStorm status workers reads held held'
  storm_of Status.Done is told = has Status.Done is told
  storm_of Status.Memory is told = told
  storm_of Status.Usage is told = has Status.Usage is told
  storm_of Status.ReadFault is told = has Status.ReadFault is told
  storm_of Status.WriteFault is told = has Status.WriteFault is told
  storm_of Status.BadLine is told = has Status.BadLine is told
  storm_of Status.TooLong is told = has Status.TooLong is told
  storm_of Status.Gap is told = has Status.Gap is told
  storm_of Status.DoorFault is told = has Status.DoorFault is told
  storm_of Status.SpawnFault is told = has Status.SpawnFault is told
