-- What logs promise together.
use Rattle.std.specs.Prelude.{◌≡◌, ℕ, ◌-◌, ◌<◌, List, [], ◌∷◌, ◌++◌, length, take, drop, set, false, true, Result, Ok, Err, ⊤}
use Rattle.hk_log.specs.declared.checks.TheConstants.{HEADER}
use Rattle.hk_log.specs.declared.entry.Entry.{Entry}
use Rattle.hk_log.specs.declared.fault.LogFault.{LogFault}
use Rattle.hk_log.specs.declared.fault.LogFault.TheVariants.{Memory, Damaged}
use Rattle.hk_log.specs.declared.scan.Log.{Log}
use Rattle.hk_log.specs.Records.{check_of, framed, body_bytes, IsRecord, AreRecords, text_behind, last_check, log_text}
use Rattle.hk_log.specs.Logs.{stands, holds_record, IsLogRead}

-- what was read is a front of the records, and each record that stands whole in n bytes is in it
pub record IsFront (log : Log) (records : List (List Entry)) (n : ℕ) : Type 0 where
  pub others : List (List Entry)
  pub front : records ≡ log.records ++ others
  pub whole : (next : List Entry) (more : List (List Entry)) → others ≡ next ∷ more → n < length (log_text (log.records ++ next ∷ []))

-- every list of records, cut at every place, is read as a front of them
abbrev pub CutLogsAreFronts : Type 0
CutLogsAreFronts = (records : List (List Entry)) (n : ℕ) (log : Log) → AreRecords records → IsLogRead (Ok log) (take n (log_text records)) → IsFront log records n

-- A cut is told as damage only where a part of a record holds what is a right record by itself, with the check before it.
-- No writer can be shown to make none, since a letter may have any bytes; that none does by chance rests on SHA-256.
abbrev pub CutsAreNoDamage : Type 0
CutsAreNoDamage = (records : List (List Entry)) (n at' : ℕ) → AreRecords records → IsLogRead (Err (Damaged at')) (take n (log_text records)) → holds_record (drop (at' - 7) (take n (log_text records))) ≡ true

-- this fault, or want of memory
abbrev pub IsDamagedAt : ℕ → Result Log LogFault → Type 0
IsDamagedAt place (Ok log) = true ≡ false
IsDamagedAt place (Err Memory) = ⊤
IsDamagedAt place (Err (Damaged at')) = at' ≡ place

-- a log of which one byte of one record is another one, and behind that record whole ones
abbrev pub changed_text : List (List Entry) → List Entry → ℕ → ℕ → List (List Entry) → List ℕ
changed_text records r i byte others =
    set (framed (last_check HEADER records) (body_bytes r)) i byte ++ text_behind (check_of (last_check HEADER records) (body_bytes r)) others

-- A changed byte in front of a whole record is told, at the first byte of its record, where what stands there is no right
-- record by chance: that is so of each change of a check, and of others it rests on SHA-256.
abbrev pub ChangesAreTold : Type 0
ChangesAreTold = (records : List (List Entry)) (r next : List Entry) (others : List (List Entry)) (i byte : ℕ) (result : Result Log LogFault) → AreRecords records → IsRecord r → IsRecord next
    → stands (last_check HEADER records) (changed_text records r i byte (next ∷ others)) ≡ false → IsLogRead result (log_text records ++ changed_text records r i byte (next ∷ others)) → IsDamagedAt (length (log_text records)) result
