-- What a storm of joint reads comes to.
use Rattle.std.specs.Prelude.{◌≡◌, ◌≤◌, ℕ, List, [], length, take, Option, None, Some, ⊤}
use Rattle.std.specs.List.{AllByRecursion}
use Rattle.std.specs.Io.KnownBytes.{Appends}
use Rattle.hk_outside.specs.declared.status.Status.{Status}
use Rattle.hk_outside.specs.declared.status.Status.TheVariants as Status
use Rattle.hk_base.specs.declared.time.TheConstants.{MAX_TIME}
use Rattle.hk_node.specs.Sound.{IsNodeEvent}
use Rattle.hk_journal.specs.Journal.{IsReplay}
use Rattle.hk_snap.specs.declared.snapshot.Snapshot.{Snapshot}
use Rattle.hk_place.specs.Past.{Past}
use Rattle.hk_lone.specs.Lone.{lone_node}
use Rattle.hk_joint_storm.specs.Keys.{IsOfKeys}
use Rattle.hk_joint_storm.specs.declared.gaps.JointGap.{JointGap}
use Rattle.hk_joint_storm.specs.Gaps.{first_gap}
use Rattle.hk_joint_storm.specs.Text.{text_of}

-- a journal as a shard keeps it: a replay from its base, of events that a node may be given
pub record IsPast (past : Past) : Type 0 where
  pub replay : IsReplay past.base past.journal
  pub events : AllByRecursion (λ e. IsNodeEvent e.event) past.journal

-- the lines that tell of these reads, by the first of them that has no place
abbrev pub text_for : ℕ → ℕ → Past → List (List Snapshot) → List ℕ
text_for workers reads past founds = text_of workers reads (length founds) (first_gap past founds)

-- there is one without a place, and its line tells of the first
abbrev pub IsGap : Option JointGap → Type 0
IsGap None = ⊥
IsGap (Some gap) = ⊤

-- Done where each read has a place, and Gap where one has none, when the lines were written; WriteFault after a front of them; Memory before.
abbrev pub IsConcluded : Status → ℕ → ℕ → Past → List (List Snapshot) → Option (List ℕ) → Option (List ℕ) → Type 0
IsConcluded Status.Done workers reads past founds held held' = (first_gap past founds ≡ None) × Appends held held' (text_for workers reads past founds)
IsConcluded Status.Gap workers reads past founds held held' = IsGap (first_gap past founds) × Appends held held' (text_for workers reads past founds)
IsConcluded Status.WriteFault workers reads past founds held held' = (count : ℕ) × Appends held held' (take count (text_for workers reads past founds))
IsConcluded Status.Memory workers reads past founds held held' = Appends held held' []
IsConcluded status workers reads past founds held held' = ⊥

-- What so many reads of the keys found: one list for each read at most, of a snapshot of each key in turn. So those that found nothing
-- are just the others.
pub record AreFounds (reads : ℕ) (founds : List (List Snapshot)) : Type 0 where
  pub few : length founds ≤ reads
  pub keys : AllByRecursion IsOfKeys founds

-- what these reads come to, by the base and journal of a shard of a group of one
pub record HasConcluded (status : Status) (workers reads : ℕ) (held held' : Option (List ℕ)) : Type 0 where
  pub past : Past
  pub is : IsPast past
  pub lone : past.base ≡ lone_node MAX_TIME 0
  pub founds : List (List Snapshot)
  pub are : AreFounds reads founds
  pub told : IsConcluded status workers reads past founds held held'

-- or memory was wanting, and nothing was written
abbrev pub IsJointStorm : Status → ℕ → ℕ → Option (List ℕ) → Option (List ℕ) → Type 0
IsJointStorm Status.Memory workers reads held held' = Appends held held' []
IsJointStorm status workers reads held held' = HasConcluded status workers reads held held'

-- the statuses with which a storm of joint reads may end
abbrev pub EndsJointStorm : Status → Type 0
EndsJointStorm Status.Done = ⊤
EndsJointStorm Status.Gap = ⊤
EndsJointStorm Status.WriteFault = ⊤
EndsJointStorm Status.Memory = ⊤
EndsJointStorm status = ⊥
