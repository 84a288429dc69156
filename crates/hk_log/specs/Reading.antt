-- What reading a record's body gives, and a record.
use Rattle.std.specs.Prelude.{◌≡◌, ◌≢◌, ℕ, List, ⊤, Result, Ok, Err}
use Rattle.std.specs.List.{AllByRecursion}
use Rattle.hk_fields.specs.declared.fault.FieldFault.{FieldFault}
use Rattle.hk_fields.specs.declared.fault.FieldFault.TheVariants.{Memory, Malformed}
use Rattle.hk_log.specs.declared.entry.Entry.{Entry}
use Rattle.hk_log.specs.Entries.{IsEntry}
use Rattle.hk_log.specs.Records.{body_bytes}

-- entries with just these bytes; or no entries have them
abbrev pub IsBodyRead : Result (List Entry) FieldFault → List ℕ → Type 0
IsBodyRead (Ok entries) body = AllByRecursion IsEntry entries × (body ≡ body_bytes entries)
IsBodyRead (Err Memory) body = ⊤
IsBodyRead (Err Malformed) body = (entries : List Entry) → AllByRecursion IsEntry entries → body ≢ body_bytes entries
