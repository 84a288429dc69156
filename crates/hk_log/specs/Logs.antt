-- What a file is read as: records, and what is torn behind them; or damage.
use Rattle.std.specs.Prelude.{◌≡◌, ℕ, ◌+◌, ◌-◌, List, [], ◌∷◌, ◌++◌, length, take, drop, Bool, true, false, not, ◌&&◌, ◌==◌, nat_lt, bytes_eq, if◌then◌else◌, Option, None, Some, Result, Ok, Err, ⊤, ◌⊎◌, ◌≢◌}
use Rattle.std.specs.Int.{w32, from_be_bytes}
use Rattle.std.specs.List.{list_all}
use Rattle.hk_log.specs.declared.checks.TheConstants.{HEADER, MAX_BODY_LEN}
use Rattle.hk_log.specs.declared.entry.Entry.{Entry}
use Rattle.hk_log.specs.declared.fault.LogFault.{LogFault}
use Rattle.hk_log.specs.declared.fault.LogFault.TheVariants.{Memory, Damaged}
use Rattle.hk_log.specs.declared.scan.Log.{Log}
use Rattle.hk_log.specs.declared.scan.NextRecord.{NextRecord}
use Rattle.hk_log.specs.Records.{check_of, framed, body_bytes, IsRecord, AreRecords, last_check, log_text, record_starts}

-- the length of a body, as the bytes tell it
abbrev pub told_length : List ℕ → ℕ
told_length bytes = from_be_bytes w32 (take 4 bytes)

abbrev pub stands_with : ℕ → List ℕ → List ℕ → Bool
stands_with len before bytes =
    if nat_lt len 1 then false
    else (if nat_lt MAX_BODY_LEN len then false
    else (if nat_lt (length bytes) (12 + len) then false
    else bytes_eq (take 8 (drop len (drop 4 bytes))) (check_of before (take len (drop 4 bytes)))))

-- a right record begins the bytes, behind a check: a length in range, a body as long as that, and its check
unfoldable pub stands : List ℕ → List ℕ → Bool
stands before bytes = if nat_lt (length bytes) 13 then false else stands_with (told_length bytes) before bytes

-- a right record begins behind the first 8 bytes, and these are the check before it
abbrev pub stands_behind : List ℕ → Bool
stands_behind bytes = if nat_lt (length bytes) 8 then false else stands (take 8 bytes) (drop 8 bytes)

-- so does one somewhere within the bytes
unfoldable pub holds_record : List ℕ → Bool
holds_record [] = false
holds_record (b ∷ bytes) = if stands_behind (b ∷ bytes) then true else holds_record bytes

abbrev pub is_blank : List ℕ → Bool
is_blank bytes = list_all (λ b. b == 0) bytes

-- Zeros at the end count as not there, since a machine that stops may leave a file longer than what was written. So
-- what is there of a record is a part of its length alone, or ends with the record's last byte at most.
abbrev pub ends_early : ℕ → List ℕ → Bool
ends_early len rest =
    if nat_lt len 1 then false
    else (if nat_lt MAX_BODY_LEN len then false
    else (if nat_lt (length rest) (12 + len) then true
    else is_blank (drop (12 + len) rest)))

unfoldable pub is_cut_short : List ℕ → Bool
is_cut_short rest =
    if nat_lt (length rest) 4 then true
    else (if is_blank (drop 3 rest) then true
    else ends_early (told_length rest) rest)

-- What stands from a place on is torn: it was cut short, and no right record begins at a later place, where the 8 bytes
-- in front of it are the check before it.
abbrev pub is_torn : ℕ → List ℕ → Bool
is_torn place file = if is_cut_short (drop place file) then not (holds_record (drop (place - 7) file)) else false

-- ---- what is read

-- these records stand up to a place
pub record Stand (records : List (List Entry)) (place : ℕ) (file : List ℕ) : Type 0 where
  pub are : AreRecords records
  pub text : take place file ≡ log_text records
  pub ends : place ≡ length (log_text records)

-- not even the header was written whole: zeros alone, or a front of it
unfoldable pub has_no_header : List ℕ → Bool
has_no_header file = if is_blank file then true else nat_lt (length file) 8 && bytes_eq file (take (length file) HEADER)

-- what a log is where its header stands: records, and behind them what is torn
pub record IsRead (log : Log) (file : List ℕ) : Type 0 where
  pub stand : Stand log.records log.len file
  pub starts : log.starts.items ≡ record_starts log.records
  pub check : log.check.0 ≡ last_check HEADER log.records
  pub ends : stands log.check.0 (drop log.len file) ≡ false
  pub torn : is_torn log.len file ≡ true

-- and where it does not: nothing
pub record IsNone (log : Log) (file : List ℕ) : Type 0 where
  pub no_header : has_no_header file ≡ true
  pub records : log.records ≡ []
  pub starts : log.starts.items ≡ []
  pub len : log.len ≡ 0
  pub check : log.check.0 ≡ HEADER

-- a right record whose body is none of any record
pub record IsForeign (check rest : List ℕ) : Type 0 where
  pub stands : stands check rest ≡ true
  pub foreign : (record' : List Entry) → IsRecord record' → take (told_length rest) (drop 4 rest) ≢ body_bytes record'

-- damage at a place: behind the records that stand before it, a foreign record, or what is neither right nor torn
pub record IsDamage (at' : ℕ) (file : List ℕ) : Type 0 where
  pub records : List (List Entry)
  pub stand : Stand records at' file
  pub damage : IsForeign (last_check HEADER records) (drop at' file) ⊎ ((stands (last_check HEADER records) (drop at' file) ≡ false) × (is_torn at' file ≡ false))

-- a header that is another one
pub record IsOther (at' : ℕ) (file : List ℕ) : Type 0 where
  pub at_start : at' ≡ 0
  pub some_header : has_no_header file ≡ false
  pub other : bytes_eq HEADER (take 8 file) ≡ false

-- what reading the next record gives: a record of the bytes, or that none is right, or that it is foreign
pub record IsNextRecord (next : NextRecord) (before rest : List ℕ) : Type 0 where
  pub is : IsRecord next.entries
  pub text : rest ≡ framed before (body_bytes next.entries) ++ drop next.len rest
  pub len : next.len ≡ length (framed before (body_bytes next.entries))
  pub check : next.check.0 ≡ check_of before (body_bytes next.entries)

abbrev pub IsNext : Result (Option NextRecord) LogFault → List ℕ → ℕ → List ℕ → Type 0
IsNext (Ok None) before place rest = stands before rest ≡ false
IsNext (Ok (Some next)) before place rest = IsNextRecord next before rest
IsNext (Err Memory) before place rest = ⊤
IsNext (Err (Damaged at')) before place rest = (at' ≡ place) × IsForeign before rest

-- what reading records behind a header gives
abbrev pub IsScanned : Result Log LogFault → List ℕ → Type 0
IsScanned (Ok log) file = IsRead log file
IsScanned (Err Memory) file = ⊤
IsScanned (Err (Damaged at')) file = IsDamage at' file

abbrev pub IsLogRead : Result Log LogFault → List ℕ → Type 0
IsLogRead (Ok log) file = IsNone log file ⊎ ((has_no_header file ≡ false) × IsRead log file)
IsLogRead (Err Memory) file = ⊤
IsLogRead (Err (Damaged at')) file = IsOther at' file ⊎ IsDamage at' file
