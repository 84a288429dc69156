-- The keys of a node's open rows, as they are kept by what each step reports.
use Rattle.std.specs.Prelude.{◌≡◌, ◌⊎◌, ℕ, List, [], ◌∷◌, map, Bool, true, false, nat_le, Option, Some, None, IsSome, unwrap_or}
use Rattle.std.specs.Option.{option_map}
use Rattle.std.specs.List.{find, filter}
use Rattle.std.specs.BTreeMap.{is_at}
use Rattle.std.specs.Map.{lookup}
use Rattle.hk_copy.specs.Batches.{key_cmp}
use Rattle.hk_node.specs.declared.report.PriorRow.{PriorRow}
use Rattle.hk_node.specs.Rows.{Rows}
use Rattle.hk_node.specs.Report.{AreChanged}
use Rattle.hk_node.specs.Open.{is_behind}
use Rattle.hk_node.specs.Index.{is_open_at}

-- each key with the ticket of the step since which it is open, in the order of the keys; and whether none is missing
pub record OpenState : Type 0 where
  pub since : List (List ℕ × ℕ)
  pub whole : Bool

abbrev pub since_of : List ℕ → OpenState → Option ℕ
since_of key keys = lookup (is_at (key_cmp key)) keys.since

-- all other keys are as they were
abbrev pub AreOthersSame : List ℕ → OpenState → OpenState → Type 0
AreOthersSame key before after = (other : List ℕ) → is_at (key_cmp key) other ≡ false → since_of other after ≡ since_of other before

-- A key that is open keeps its ticket, or gets that of this step.
pub record IsKept (key : List ℕ) (ticket : ℕ) (before after : OpenState) : Type 0 where
  pub there : since_of key after ≡ Some (unwrap_or (since_of key before) ticket)
  pub whole : after.whole ≡ before.whole

-- Or memory is wanting, and it is missing.
pub record IsMissed (key : List ℕ) (before after : OpenState) : Type 0 where
  pub there : since_of key after ≡ None
  pub whole : after.whole ≡ false

-- one that is open no longer is let go
pub record IsLetGo (key : List ℕ) (before after : OpenState) : Type 0 where
  pub there : since_of key after ≡ None
  pub whole : after.whole ≡ before.whole

-- what becomes of a key whose row is open, or is not, after the step of this ticket
abbrev pub IsNotedHere : List ℕ → Bool → ℕ → OpenState → OpenState → Type 0
IsNotedHere key true ticket before after = IsKept key ticket before after ⊎ IsMissed key before after
IsNotedHere key false ticket before after = IsLetGo key before after

abbrev pub IsNoted : List ℕ → Bool → ℕ → OpenState → OpenState → Type 0
IsNoted key found_open ticket before after = IsNotedHere key found_open ticket before after × AreOthersSame key before after

-- so of each of these keys, one after the other, by its row after the step
abbrev pub AreNoted : Rows → ℕ → List (List ℕ) → OpenState → OpenState → Type 0
AreNoted rows ticket [] before after = after ≡ before
AreNoted rows ticket (key ∷ keys) before after = (between : OpenState) × IsNoted key (is_open_at rows key) ticket before between × AreNoted rows ticket keys between after

-- A step of this ticket is followed by the keys of open rows. It changed just these rows: each that is open then is noted under the ticket, or keeps an earlier
-- one, and the others are let go.
pub record Follows (ticket : ℕ) (old new : Rows) (before after : OpenState) : Type 0 where
  pub changed : List PriorRow
  pub differ : AreChanged changed old new
  pub noted : AreNoted new ticket (map (λ f. f.key) changed) before after

-- whether a key is behind another one, or whatever it is; and whether it is open since a step of a ticket up to this one
abbrev pub is_later : Option (List ℕ) → List ℕ × ℕ → Bool
is_later after e = is_behind after e.0

abbrev pub is_due : ℕ → List ℕ × ℕ → Bool
is_due before e = nat_le e.1 before

-- of those behind a key, or of all, the least one that is due
abbrev pub next_due : Option (List ℕ) → ℕ → OpenState → Option (List ℕ)
next_due after before keys = option_map (λ e. e.0) (find (is_due before) (filter (is_later after) keys.since))

-- The keys that are kept are those of open rows, and where none is missing, of all.
pub record AreOpen (keys : OpenState) (rows : Rows) : Type 0 where
  pub open_ones : (key : List ℕ) → IsSome (since_of key keys) → is_open_at rows key ≡ true
  pub all_open : keys.whole ≡ true → (key : List ℕ) → is_open_at rows key ≡ true → IsSome (since_of key keys)

-- A step that changed these rows is followed.
abbrev pub FollowingKeepsThem : Type 0
FollowingKeepsThem = (changed : List PriorRow) (old new : Rows) (ticket : ℕ) (before after : OpenState) →
    AreChanged changed old new → AreNoted new ticket (map (λ f. f.key) changed) before after → AreOpen before old → AreOpen after new

-- A key that is open before and after the step keeps its ticket, unless it is missing.
abbrev pub OpenKeysStay : Type 0
OpenKeysStay = (changed : List PriorRow) (old new : Rows) (ticket since : ℕ) (key : List ℕ) (before after : OpenState) →
    AreNoted new ticket (map (λ f. f.key) changed) before after → after.whole ≡ true → is_open_at new key ≡ true → since_of key before ≡ Some since → since_of key after ≡ Some since
