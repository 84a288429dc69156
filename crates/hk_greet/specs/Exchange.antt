-- What passes where a process asks a manager, and is answered.
use Rattle.std.specs.Prelude.{◌≡◌, ℕ, ◌<◌, [], length, take, Option, Some, None, Result, Ok, Err}
use Rattle.hk_outside.specs.Causes.{Rose}
use Rattle.hk_inside.specs.declared.inquiry.Inquiry.{Inquiry}
use Rattle.hk_inside.specs.declared.response.Response.{Response}
use Rattle.hk_inside.specs.declared.frames.TheConstants.{MAX_LEN}
use Rattle.hk_inside.specs.Messages.{inquiry_frame, IsInquiry, response_bytes, response_frame, IsResponse}
use Rattle.hk_greet.specs.declared.fault.HearFault.{HearFault}
use Rattle.hk_greet.specs.declared.fault.HearFault.TheVariants.{Ended}
use Rattle.hk_greet.specs.declared.requests.AskFault.{AskFault}
use Rattle.hk_greet.specs.declared.requests.AskFault.TheVariants as ask
use Rattle.hk_greet.specs.declared.requests.RespondFault.{RespondFault}
use Rattle.hk_greet.specs.declared.requests.RespondFault.TheVariants as respond
use Rattle.hk_greet.specs.Standing.{Standing, Passes, IsOver}
use Rattle.hk_greet.specs.Hearing.{Hears, inquiries, responses}

-- The inquiry's frame was written, and the response's frame came. Or no response did; or writing failed within the
-- frame; or there was no memory for it.
abbrev pub Asks : Result Response AskFault → Inquiry → Standing → Standing → Type 0
Asks (Ok response) inquiry s s' = IsResponse response × Passes s s' (response_frame response) (inquiry_frame inquiry)
Asks (Err ask.Memory) inquiry s s' = s' ≡ s
Asks (Err ask.WriteFault) inquiry s s' =
    (n : ℕ) × Passes s s' [] (take n (inquiry_frame inquiry)) × Rose s.write_faults s'.write_faults
Asks (Err (ask.NoResponse fault)) inquiry s s' =
    (asked : Standing) × Passes s asked [] (inquiry_frame inquiry) × Hears responses ⊥ (Err fault) asked s'

-- The inquiry whose frame came. Or none, where the connection ended between two; or it ended within one, or none was
-- heard for another reason.
abbrev pub HearsNext : Result (Option Inquiry) HearFault → Standing → Standing → Type 0
HearsNext (Ok (Some inquiry)) s s' = IsInquiry inquiry × Passes s s' (inquiry_frame inquiry) []
HearsNext (Ok None) s s' = Passes s s' [] [] × IsOver s s' × (s'.unread ≡ [])
HearsNext (Err Ended) s s' = Hears inquiries ⊥ (Err Ended) s s' × (0 < length s'.unread)
HearsNext (Err fault) s s' = Hears inquiries ⊥ (Err fault) s s'

-- The response's frame was written, and the response can be read from it; or it is too long for one; or writing failed
-- within it, or there was no memory for it.
abbrev pub Responds : Result (Unit {0}) RespondFault → Response → Standing → Standing → Type 0
Responds (Ok done) response s s' = IsResponse response × Passes s s' [] (response_frame response)
Responds (Err respond.Memory) response s s' = s' ≡ s
Responds (Err respond.TooLong) response s s' = (s' ≡ s) × (MAX_LEN < length (response_bytes response))
Responds (Err respond.WriteFault) response s s' =
    (n : ℕ) × Passes s s' [] (take n (response_frame response)) × Rose s.write_faults s'.write_faults
