-- What a writer of a log has made sure.
use Rattle.std.specs.Prelude.{◌≡◌, ◌==◌, ℕ, List, take, if◌then◌else◌}
use Rattle.hk_log.specs.declared.checks.TheConstants.{HEADER}
use Rattle.hk_log.specs.declared.entry.Entry.{Entry}
use Rattle.hk_log.specs.Records.{AreRecords, last_check, log_text}

-- the file has these records, and they are sure
pub record IsSureLog {F : Type 0} (holds is_sure : F → List ℕ → Type 0) (file : F) (check : List ℕ) (records : List (List Entry)) : Type 0 where
  pub are : AreRecords records
  pub held : holds file (log_text records)
  pub sure : is_sure file (log_text records)
  pub last : check ≡ last_check HEADER records

-- a log that was cut off behind its records, or got a header where it had none
abbrev pub settled : ℕ → List ℕ → List ℕ
settled len bytes = if len == 0 then HEADER else take len bytes
