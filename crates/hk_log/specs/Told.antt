-- What printing a record gives.
use Rattle.std.specs.Prelude.{◌≡◌, ℕ, ◌<◌, List, length, Result, Ok, Err, ⊤}
use Rattle.hk_log.specs.declared.checks.TheConstants.{MAX_BODY_LEN}
use Rattle.hk_log.specs.declared.entry.Entry.{Entry}
use Rattle.hk_log.specs.declared.fault.RecordFault.{RecordFault}
use Rattle.hk_log.specs.declared.fault.RecordFault.TheVariants.{Memory, TooLong}
use Rattle.hk_log.specs.declared.printing.PrintedRecord.{PrintedRecord}
use Rattle.hk_log.specs.Records.{check_of, framed, body_bytes, IsRecord}

-- the record behind a check, and its own check; the entries are a record then, as the laws of logs ask
abbrev pub IsPrinted : Result PrintedRecord RecordFault → List ℕ → List Entry → Type 0
IsPrinted (Ok printed) before entries = (printed.bytes.items ≡ framed before (body_bytes entries)) × (printed.check.0 ≡ check_of before (body_bytes entries)) × IsRecord entries
IsPrinted (Err TooLong) before entries = MAX_BODY_LEN < length (body_bytes entries)
IsPrinted (Err Memory) before entries = ⊤
