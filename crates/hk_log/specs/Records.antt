-- Records and logs as bytes.
use Rattle.std.specs.Prelude.{ℕ, ◌+◌, ◌≤◌, List, [], ◌∷◌, ◌++◌, length, take}
use Rattle.std.specs.Int.{w32, to_be_bytes}
use Rattle.std.specs.List.{flat_map, AllByRecursion}
use Rattle.sha2.specs.Sha256.{sha256}
use Rattle.hk_log.specs.declared.checks.TheConstants.{HEADER, MAX_BODY_LEN}
use Rattle.hk_log.specs.declared.entry.Entry.{Entry}
use Rattle.hk_log.specs.Entries.{entry_bytes, IsEntry}

-- the check of a body behind another check: the first 8 bytes of the SHA-256 of both
abbrev pub check_of : List ℕ → List ℕ → List ℕ
check_of before body = take 8 (sha256 (before ++ body))

-- a record behind a check: the length of its body in 4 bytes, the body and its check
abbrev pub framed : List ℕ → List ℕ → List ℕ
framed before body = to_be_bytes w32 (length body) ++ (body ++ check_of before body)

abbrev pub body_bytes : List Entry → List ℕ
body_bytes entries = flat_map entry_bytes entries

-- entries that may stand in a log, and take 1 to 1,048,576 bytes
pub record IsRecord (entries : List Entry) : Type 0 where
  pub each : AllByRecursion IsEntry entries
  pub some : 1 ≤ length (body_bytes entries)
  pub short : length (body_bytes entries) ≤ MAX_BODY_LEN

abbrev pub AreRecords : List (List Entry) → Type 0
AreRecords records = AllByRecursion IsRecord records

-- records one behind the other, the first one behind a check
abbrev pub text_behind : List ℕ → List (List Entry) → List ℕ
text_behind before [] = []
text_behind before (r ∷ records) = framed before (body_bytes r) ++ text_behind (check_of before (body_bytes r)) records

-- the check of the last of them
abbrev pub last_check : List ℕ → List (List Entry) → List ℕ
last_check before [] = before
last_check before (r ∷ records) = last_check (check_of before (body_bytes r)) records

-- where each of them begins, in a file in which the first one begins at a place
abbrev pub starts_behind : ℕ → List ℕ → List (List Entry) → List ℕ
starts_behind place before [] = []
starts_behind place before (r ∷ records) = place ∷ starts_behind (place + length (framed before (body_bytes r))) (check_of before (body_bytes r)) records

-- a log: its header, which is the check before the first record too, and the records
abbrev pub log_text : List (List Entry) → List ℕ
log_text records = HEADER ++ text_behind HEADER records

-- where its records begin, counted from 0 at its first byte
abbrev pub record_starts : List (List Entry) → List ℕ
record_starts records = starts_behind (length HEADER) HEADER records
