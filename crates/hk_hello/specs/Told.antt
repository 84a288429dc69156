-- What reading a challenge, a hello or an answer gives: one that begins the bytes; or that more bytes are needed; or that
-- none begins them, whatever follows.
use Rattle.std.specs.Prelude.{◌≡◌, ◌≢◌, ℕ, ◌+◌, List, [], ◌∷◌, ◌++◌, length, take, drop, Bool, true, false, ◌&&◌, nat_lt, bytes_eq, if◌then◌else◌, Result, Ok, Err, ⊤}
use Rattle.std.specs.Int.{w16, from_be_bytes}
use Rattle.hk_fields.specs.declared.fault.FieldFault.{FieldFault}
use Rattle.hk_fields.specs.declared.fault.FieldFault.TheVariants as fields
use Rattle.hk_hello.specs.declared.challenge.Challenge.{Challenge}
use Rattle.hk_hello.specs.declared.challenge.TheConstants.{HEADER, CHALLENGE_LEN}
use Rattle.hk_hello.specs.declared.hello.SignedHello.{SignedHello}
use Rattle.hk_hello.specs.declared.reading.TheConstants.{MIN_LENGTH, MAX_LENGTH}
use Rattle.hk_hello.specs.declared.mac.TheConstants.{PROOF_LEN}
use Rattle.hk_hello.specs.declared.answer.Answer.{Answer}
use Rattle.hk_hello.specs.declared.fault.HelloFault.{HelloFault}
use Rattle.hk_hello.specs.declared.fault.HelloFault.TheVariants.{Memory, NeedMore, Malformed}
use Rattle.hk_hello.specs.Hellos.{challenge_bytes, fields_bytes, signed_bytes, answer_bytes, IsSigned, IsAnswer}

-- ---- challenges

-- as much of the header as is there, and less than a challenge
abbrev pub is_challenge_front : List ℕ → Bool
is_challenge_front bytes = bytes_eq (take 4 bytes) (take (length bytes) HEADER) && nat_lt (length bytes) (4 + CHALLENGE_LEN)

abbrev pub IsChallengeRead : Result (Challenge × ℕ) HelloFault → List ℕ → Type 0
IsChallengeRead (Ok x) bytes = (length x.0.0 ≡ CHALLENGE_LEN) × (bytes ≡ challenge_bytes x.0 ++ drop x.1 bytes) × (x.1 ≡ 4 + CHALLENGE_LEN)
IsChallengeRead (Err Memory) bytes = true ≡ false
IsChallengeRead (Err NeedMore) bytes = is_challenge_front bytes ≡ true
IsChallengeRead (Err Malformed) bytes = bytes_eq (take 4 bytes) (take (length bytes) HEADER) ≡ false

-- ---- hellos

-- the length of what follows, as the bytes tell it
abbrev pub told_length : List ℕ → ℕ
told_length bytes = from_be_bytes w16 (take 2 bytes)

-- The bytes end within the length, or within what a length in range tells. Nothing else is looked at before all is there.
abbrev pub ends_early : ℕ → List ℕ → Bool
ends_early len bytes = if nat_lt len MIN_LENGTH then false else (if nat_lt MAX_LENGTH len then false else nat_lt (length bytes) (2 + len))

abbrev pub is_short : List ℕ → Bool
is_short bytes = if nat_lt (length bytes) 2 then true else ends_early (told_length bytes) bytes

abbrev pub IsHelloRead : Result (SignedHello × ℕ) HelloFault → List ℕ → Type 0
IsHelloRead (Ok x) bytes = IsSigned x.0 × (bytes ≡ signed_bytes x.0 ++ drop x.1 bytes) × (x.1 ≡ length (signed_bytes x.0))
IsHelloRead (Err Memory) bytes = ⊤
IsHelloRead (Err NeedMore) bytes = is_short bytes ≡ true
IsHelloRead (Err Malformed) bytes = (is_short bytes ≡ false) × ((s : SignedHello) (rest : List ℕ) → IsSigned s → bytes ≢ signed_bytes s ++ rest)

-- what stands behind the length: a hello's fields and its proof and nothing else
abbrev pub body_bytes : SignedHello → List ℕ
body_bytes s = fields_bytes s.hello ++ s.proof.0

abbrev pub IsBodyRead : Result SignedHello FieldFault → List ℕ → Type 0
IsBodyRead (Ok s) body = IsSigned s × (body ≡ body_bytes s)
IsBodyRead (Err fields.Memory) body = ⊤
IsBodyRead (Err fields.Malformed) body = (s : SignedHello) → IsSigned s → body ≢ body_bytes s

-- ---- answers

-- no byte, or a 0 with less than a proof behind it
abbrev pub is_answer_front : List ℕ → Bool
is_answer_front [] = true
is_answer_front (code ∷ rest) = nat_lt code 1 && nat_lt (length rest) PROOF_LEN

abbrev pub IsAnswerRead : Result (Answer × ℕ) HelloFault → List ℕ → Type 0
IsAnswerRead (Ok x) bytes = IsAnswer x.0 × (bytes ≡ answer_bytes x.0 ++ drop x.1 bytes) × (x.1 ≡ length (answer_bytes x.0))
IsAnswerRead (Err Memory) bytes = true ≡ false
IsAnswerRead (Err NeedMore) bytes = is_answer_front bytes ≡ true
IsAnswerRead (Err Malformed) bytes = (is_answer_front bytes ≡ false) × ((a : Answer) (rest : List ℕ) → IsAnswer a → bytes ≢ answer_bytes a ++ rest)
