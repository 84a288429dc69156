-- What printing and reading promise together.
use Rattle.std.specs.Prelude.{◌≡◌, ℕ, ◌+◌, ◌<◌, List, ◌++◌, length, take, true, false, Result, Ok, Err, ⊤}
use Rattle.hk_hello.specs.declared.answer.Answer.{Answer}
use Rattle.hk_hello.specs.declared.challenge.Challenge.{Challenge}
use Rattle.hk_hello.specs.declared.challenge.TheConstants.{CHALLENGE_LEN}
use Rattle.hk_hello.specs.declared.hello.SignedHello.{SignedHello}
use Rattle.hk_hello.specs.declared.fault.HelloFault.{HelloFault}
use Rattle.hk_hello.specs.declared.fault.HelloFault.TheVariants.{Memory, NeedMore, Malformed}
use Rattle.hk_hello.specs.Hellos.{challenge_bytes, signed_bytes, answer_bytes, IsSigned, IsAnswer}
use Rattle.hk_hello.specs.Told.{IsChallengeRead, IsHelloRead, IsAnswerRead}

-- this value and so many bytes; or want of memory
abbrev pub IsReadAs : {A : Type 0} → Result (A × ℕ) HelloFault → A → ℕ → Type 0
IsReadAs (Ok x) a len = (x.0 ≡ a) × (x.1 ≡ len)
IsReadAs (Err Memory) a len = ⊤
IsReadAs (Err NeedMore) a len = true ≡ false
IsReadAs (Err Malformed) a len = true ≡ false

-- more bytes are needed; or want of memory
abbrev pub IsUnfinished : {A : Type 0} → Result A HelloFault → Type 0
IsUnfinished (Ok x) = true ≡ false
IsUnfinished (Err Memory) = ⊤
IsUnfinished (Err NeedMore) = ⊤
IsUnfinished (Err Malformed) = true ≡ false

-- a challenge's bytes are read as that challenge, whatever follows
abbrev pub ChallengesAreReadAgain : Type 0
ChallengesAreReadAgain = (c : Challenge) (rest : List ℕ) (result : Result (Challenge × ℕ) HelloFault) → length c.0 ≡ CHALLENGE_LEN → IsChallengeRead result (challenge_bytes c ++ rest) → IsReadAs result c (4 + CHALLENGE_LEN)

-- an answer's bytes are read as that answer, whatever follows
abbrev pub AnswersAreReadAgain : Type 0
AnswersAreReadAgain = (a : Answer) (rest : List ℕ) (result : Result (Answer × ℕ) HelloFault) → IsAnswer a → IsAnswerRead result (answer_bytes a ++ rest) → IsReadAs result a (length (answer_bytes a))

-- a hello's bytes are read as that hello, whatever follows
abbrev pub HellosAreReadAgain : Type 0
HellosAreReadAgain = (s : SignedHello) (rest : List ℕ) (result : Result (SignedHello × ℕ) HelloFault) → IsSigned s → IsHelloRead result (signed_bytes s ++ rest) → IsReadAs result s (length (signed_bytes s))

-- and a front of them is read as nothing yet
abbrev pub FrontsAreUnfinished : Type 0
FrontsAreUnfinished = (s : SignedHello) (n : ℕ) (result : Result (SignedHello × ℕ) HelloFault) → IsSigned s → n < length (signed_bytes s) → IsHelloRead result (take n (signed_bytes s)) → IsUnfinished result
