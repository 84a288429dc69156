-- What messages promise together.
use Rattle.std.specs.Prelude.{◌≡◌, ◌≢◌, ℕ, ◌<◌, ◌≤◌, List, [], ◌++◌, length, take, false, true, Result, Ok, Err}
use Rattle.hk_inside.specs.declared.fault.MessageFault.{MessageFault}
use Rattle.hk_inside.specs.declared.fault.MessageFault.TheVariants.{Memory, Short, Malformed}
use Rattle.hk_inside.specs.declared.inquiry.Inquiry.{Inquiry}
use Rattle.hk_inside.specs.declared.response.Response.{Response}
use Rattle.hk_inside.specs.Messages.{inquiry_frame, IsInquiry, response_frame, IsResponse}
use Rattle.hk_inside.specs.Told.{frame_end}

-- where one frame begins another, they are one frame, of one message
abbrev pub NoneBegins : {A : Type 0} → (A → List ℕ) → (A → Type 0) → Type 0
NoneBegins {A} frame Fits = (message other : A) (more : List ℕ) → Fits message → Fits other → frame message ++ more ≡ frame other → (message ≡ other) × (more ≡ [])

-- nothing begins both with an inquiry and with a response
abbrev pub NoneIsBoth : Type 0
NoneIsBoth = (inquiry : Inquiry) (response : Response) (more rest : List ℕ) → IsInquiry inquiry → IsResponse response → inquiry_frame inquiry ++ more ≢ response_frame response ++ rest

-- bytes are wanting, and no more than so many in all
abbrev pub IsShortOf : ℕ → Result ℕ MessageFault → Type 0
IsShortOf most (Err (Short wanted)) = wanted ≤ most
IsShortOf most (Ok n) = true ≡ false
IsShortOf most (Err Memory) = true ≡ false
IsShortOf most (Err Malformed) = true ≡ false

-- of a frame that has not come whole it is told that bytes are wanting, and no more are wanted than it has
abbrev pub FrontsAreShort : {A : Type 0} → (A → List ℕ) → (A → Type 0) → Type 0
FrontsAreShort {A} frame Fits = (message : A) (n : ℕ) → Fits message → n < length (frame message) → IsShortOf (length (frame message)) (frame_end (take n (frame message)))
