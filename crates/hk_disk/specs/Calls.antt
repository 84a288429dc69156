-- What the calls of a file tell of it.
use Rattle.std.specs.Prelude.{ℕ, List, ◌++◌, take, Option, None, Some}
use Rattle.std.specs.Option.{option_map, option_or}
use Rattle.hk_disk.specs.declared.call.FileCall.{FileCall}
use Rattle.hk_disk.specs.declared.call.FileCall.TheVariants.{Read, Cut, Append, Sync, Fail}

-- The bytes that a file has behind a call, by what it had before: all that was read, its front, or what was appended
-- behind. Where a call failed nothing is known until all are read.
abbrev pub bytes_behind : FileCall → List ℕ → Option (List ℕ) → Option (List ℕ)
bytes_behind Read bytes had = Some bytes
bytes_behind (Cut len) bytes had = option_map (take len) had
bytes_behind Append bytes had = option_map (λ front. front ++ bytes) had
bytes_behind Sync bytes had = had
bytes_behind Fail bytes had = None

-- The bytes that outlast a stop of the machine behind a call: those that the file had at a sync, or was known to have at
-- an earlier one. What is cut off is not sure any more.
abbrev pub sure_behind : FileCall → Option (List ℕ) → Option (List ℕ) → Option (List ℕ)
sure_behind (Cut len) had sure = option_map (take len) sure
sure_behind Sync had sure = option_or had sure
sure_behind call had sure = sure
