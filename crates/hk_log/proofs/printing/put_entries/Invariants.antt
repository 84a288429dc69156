use Rattle.std.proofs.Common.{◌≡◌, ◌++◌, take}
use Rattle.std.specs.List.{flat_map, AllWithin}
use Rattle.hk_log.specs.Entries.{entry_bytes, IsEntryValue}
use Rattle.hk_log.proofs.printing.put_entries.Given as goal

abbrev pub invariant-loop-entry : goal.invariant-loop-entry
invariant-loop-entry l = (l.out.items ≡ l.fn.out.items ++ flat_map entry_bytes (take l.entry-index l.entries)) × AllWithin IsEntryValue l.entries 0 l.entry-index
