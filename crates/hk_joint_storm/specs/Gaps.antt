-- The joint reads of a storm that have no place.
use Rattle.std.specs.Prelude.{◌≡◌, ℕ, List, [], ◌∷◌, Option, None, Some, Result, Ok, Err}
use Rattle.std.specs.Option.{option_or}
use Rattle.hk_snap.specs.declared.snapshot.Snapshot.{Snapshot}
use Rattle.hk_place.specs.declared.placing.PlaceFault.{PlaceFault}
use Rattle.hk_place.specs.declared.placing.PlaceFault.TheVariants as fault
use Rattle.hk_place.specs.Past.{Past}
use Rattle.hk_place.specs.Place.{place_of}
use Rattle.hk_joint_storm.specs.declared.gaps.JointGap.{JointGap}

-- what a place that is none tells
abbrev pub gap_by : Result ℕ PlaceFault → Option JointGap
gap_by (Ok moment) = None
gap_by (Err fault.Memory) = None
gap_by (Err (fault.NoPlace key shown kept)) = Some (record { shown = shown; kept = kept })

-- that of the first read that has no place
abbrev pub first_gap : Past → List (List Snapshot) → Option JointGap
first_gap past [] = None
first_gap past (found ∷ founds) = option_or (gap_by (place_of past found)) (first_gap past founds)
