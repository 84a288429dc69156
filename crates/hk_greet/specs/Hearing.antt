-- What is heard on a connection.
use Rattle.std.specs.Prelude.{◌≡◌, ◌≢◌, ⊤, ℕ, ◌+◌, ◌≤◌, ◌<◌, List, [], ◌++◌, length, take, drop, true, false, bytes_eq, Result, Ok, Err}
use Rattle.hk_hello.specs.declared.challenge.Challenge.{Challenge}
use Rattle.hk_hello.specs.declared.challenge.TheConstants.{HEADER, CHALLENGE_LEN}
use Rattle.hk_hello.specs.declared.hello.SignedHello.{SignedHello}
use Rattle.hk_hello.specs.declared.answer.Answer.{Answer}
use Rattle.hk_hello.specs.Hellos.{challenge_bytes, signed_bytes, IsSigned, answer_bytes, IsAnswer}
use Rattle.hk_hello.specs.Told.{is_challenge_front, is_short, is_answer_front}
use Rattle.hk_inside.specs.declared.inquiry.Inquiry.{Inquiry}
use Rattle.hk_inside.specs.declared.response.Response.{Response}
use Rattle.hk_inside.specs.declared.fault.MessageFault.TheVariants.{Short}
use Rattle.hk_inside.specs.Messages.{inquiry_frame, IsInquiry, response_frame, IsResponse}
use Rattle.hk_inside.specs.Told.{frame_end}
use Rattle.hk_outside.specs.Causes.{Rose}
use Rattle.hk_greet.specs.declared.fault.HearFault.{HearFault}
use Rattle.hk_greet.specs.declared.fault.HearFault.TheVariants.{Memory, ReadFault, Ended, Late, Malformed}
use Rattle.hk_greet.specs.declared.message.FrontFault.{FrontFault}
use Rattle.hk_greet.specs.declared.message.FrontFault.TheVariants as front
use Rattle.hk_greet.specs.Standing.{Standing, Passes, IsOver}

-- More came; none only at the end. Or memory was wanting, or reading failed: then none did.
abbrev pub Fills : Result ℕ HearFault → Standing → Standing → Type 0
Fills (Ok count) s s' = Passes s s' [] [] × (length s'.unread ≡ length s.unread + count) × (count ≡ 0 → IsOver s s')
Fills (Err Memory) s s' = s' ≡ s
Fills (Err ReadFault) s s' = Passes s s' [] [] × (s'.unread ≡ s.unread) × Rose s.read_faults s'.read_faults
Fills (Err fault) s s' = ⊥

-- A kind of messages: their bytes, and which of them there are; of which bytes it is told that more are wanting, and of
-- which that no message begins them, whatever follows.
pub record Kind (A : Type 0) : Type 1 where
  pub bytes : A → List ℕ
  pub Fits : A → Type 0
  pub IsShort : List ℕ → Type 0
  pub IsBad : List ℕ → Type 0

-- The message that begins the bytes, and its length. Or more bytes are wanting; or no message begins them, whatever
-- follows.
abbrev pub IsFront : {A : Type 0} → Kind A → Result (A × ℕ) FrontFault → List ℕ → Type 0
IsFront kind (Ok x) bytes =
    kind.Fits x.0 × (bytes ≡ kind.bytes x.0 ++ drop x.1 bytes) × (x.1 ≤ length bytes)
IsFront kind (Err front.Memory) bytes = ⊤
IsFront kind (Err front.Short) bytes = kind.IsShort bytes
IsFront kind (Err front.Malformed) bytes = kind.IsBad bytes

-- fewer bytes than so many are there where more are wanting
abbrev pub IsFewer : {A : Type 0} → ℕ → Result A FrontFault → List ℕ → Type 0
IsFewer most (Err front.Short) bytes = length bytes < most
IsFewer most result bytes = ⊤

-- ---- the kinds

abbrev pub IsChallenge : Challenge → Type 0
IsChallenge challenge = length challenge.0 ≡ CHALLENGE_LEN

abbrev pub challenges : Kind Challenge
challenges = record {
  bytes = challenge_bytes;
  Fits = IsChallenge;
  IsShort = λ bytes. is_challenge_front bytes ≡ true;
  IsBad = λ bytes. bytes_eq (take 4 bytes) (take (length bytes) HEADER) ≡ false;
}

abbrev pub hellos : Kind SignedHello
hellos = record {
  bytes = signed_bytes;
  Fits = IsSigned;
  IsShort = λ bytes. is_short bytes ≡ true;
  IsBad = λ bytes.
      (is_short bytes ≡ false)
      × ((signed : SignedHello) (rest : List ℕ) → IsSigned signed → bytes ≢ signed_bytes signed ++ rest);
}

abbrev pub answers : Kind Answer
answers = record {
  bytes = answer_bytes;
  Fits = IsAnswer;
  IsShort = λ bytes. is_answer_front bytes ≡ true;
  IsBad = λ bytes.
      (is_answer_front bytes ≡ false)
      × ((answer : Answer) (rest : List ℕ) → IsAnswer answer → bytes ≢ answer_bytes answer ++ rest);
}

-- a message in its frame: the frame's length tells how many bytes are wanting
abbrev pub framed_kind : {A : Type 0} → (A → List ℕ) → (A → Type 0) → Kind A
framed_kind {A} frame Fits = record {
  bytes = frame;
  Fits = Fits;
  IsShort = λ bytes. (wanted : ℕ) × (frame_end bytes ≡ Err (Short wanted));
  IsBad = λ bytes. (message : A) (more rest : List ℕ) → Fits message → bytes ++ more ≢ frame message ++ rest;
}

abbrev pub inquiries : Kind Inquiry
inquiries = framed_kind inquiry_frame IsInquiry

abbrev pub responses : Kind Response
responses = framed_kind response_frame IsResponse

-- ---- what is heard

-- Why no message was heard, by what came up to now.
abbrev pub IsUnheard : {A : Type 0} → Kind A → Type 0 → HearFault → Standing → Standing → Type 0
IsUnheard kind MayBeLate Memory s s' = ⊤
IsUnheard kind MayBeLate ReadFault s s' = kind.IsShort s'.unread × Rose s.read_faults s'.read_faults
IsUnheard kind MayBeLate Ended s s' = kind.IsShort s'.unread × IsOver s s'
IsUnheard kind MayBeLate Late s s' = kind.IsShort s'.unread × MayBeLate
IsUnheard kind MayBeLate Malformed s s' = kind.IsBad s'.unread

-- A message was heard, and just its bytes were taken; or none was, and nothing was taken.
abbrev pub Hears : {A : Type 0} → Kind A → Type 0 → Result A HearFault → Standing → Standing → Type 0
Hears kind MayBeLate (Ok message) s s' = kind.Fits message × Passes s s' (kind.bytes message) []
Hears kind MayBeLate (Err fault) s s' = Passes s s' [] [] × IsUnheard kind MayBeLate fault s s'
