-- How often lines come, as it is kept.
use Rattle.std.specs.Prelude.{◌≡◌, ℕ, ◌+◌, ◌<◌, List, Bool, slice_index, Option, Some, None}
use Rattle.std.specs.Ordering.{nat_cmp}
use Rattle.std.specs.Cmp.Lexicographic.{slice_cmp}
use Rattle.std.specs.List.{count_by, AllByRecursion}
use Rattle.std.specs.BTreeMap.{insert_entry, is_at}
use Rattle.std.specs.Map.{lookup, set_value}
use Rattle.hk_event.specs.declared.event.Event.{Event}
use Rattle.hk_event.specs.declared.event.Event.TheVariants.{Call}
use Rattle.hk_script.specs.Grammar.{event_line, IsWritten}
use Rattle.hk_storm.specs.declared.calls.StormCall.{StormCall}

abbrev pub event_of : StormCall → Event
event_of call = Call call.node call.key call.op

abbrev pub line_of : StormCall → List ℕ
line_of call = event_line (event_of call)

abbrev pub Counts : Type 0
Counts = List (List ℕ × ℕ)

abbrev pub found : List ℕ → Counts → Option ℕ
found line counts = lookup (is_at (slice_cmp nat_cmp line)) counts

abbrev pub count_or : Option ℕ → ℕ
count_or None = 0
count_or (Some n) = n

abbrev pub count_of : List ℕ → Counts → ℕ
count_of line counts = count_or (found line counts)

-- with a line once more
abbrev pub put_line_at : Option ℕ → Counts → List ℕ → Counts
put_line_at None counts line = insert_entry (slice_cmp nat_cmp) counts line 1
put_line_at (Some n) counts line = set_value (is_at (slice_cmp nat_cmp line)) counts (n + 1)

abbrev pub with_line : Counts → List ℕ → Counts
with_line counts line = put_line_at (found line counts) counts line

abbrev pub has_line : List ℕ → StormCall → Bool
has_line line call = is_at (slice_cmp nat_cmp line) (line_of call)

-- bytes are below 256
abbrev pub AreBytes : List ℕ → Type 0
AreBytes bytes = (i : ℕ) → slice_index bytes i < 256

-- it tells of each line how many calls have it; and each call is within the bounds of what a line can have
pub record IsTally (counts : Counts) (calls : List StormCall) : Type 0 where
  pub tells : (line : List ℕ) → count_of line counts ≡ count_by (has_line line) calls
  pub written : AllByRecursion (λ (c : StormCall). IsWritten (event_of c)) calls
