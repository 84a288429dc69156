-- What reading a message gives, and what printing one.
use Rattle.std.specs.Prelude.{◌≡◌, ◌≢◌, ℕ, ◌+◌, ◌<◌, List, Vec, ◌++◌, length, take, nat_lt, if◌then◌else◌, Result, Ok, Err, ⊤}
use Rattle.std.specs.declared.alloc.Global.{Global}
use Rattle.std.specs.Int.{w32, from_be_bytes}
use Rattle.hk_fields.specs.declared.fault.FieldFault.{FieldFault}
use Rattle.hk_fields.specs.declared.fault.FieldFault.TheVariants as fields
use Rattle.hk_inside.specs.declared.fault.MessageFault.{MessageFault}
use Rattle.hk_inside.specs.declared.fault.MessageFault.TheVariants.{Memory, Short, Malformed}
use Rattle.hk_inside.specs.declared.fault.PrintFault.{PrintFault}
use Rattle.hk_inside.specs.declared.fault.PrintFault.TheVariants as prints
use Rattle.hk_inside.specs.declared.response.Response.{Response}
use Rattle.hk_inside.specs.declared.frames.TheConstants.{MAX_LEN}
use Rattle.hk_inside.specs.Messages.{response_bytes, response_frame, IsResponse}

abbrev pub fault_of : FieldFault → MessageFault
fault_of fields.Memory = Memory
fault_of fields.Malformed = Malformed

-- Where the frame ends that begins the bytes, by the length that it tells: 4 bytes tell it, and it is 1 to 65,535.
abbrev pub end_with : ℕ → List ℕ → Result ℕ MessageFault
end_with told bytes =
    if nat_lt told 1 then Err Malformed
    else (if nat_lt MAX_LEN told then Err Malformed
    else (if nat_lt (length bytes) (4 + told) then Err (Short (4 + told))
    else Ok (4 + told)))

abbrev pub frame_end : List ℕ → Result ℕ MessageFault
frame_end bytes = if nat_lt (length bytes) 4 then Err (Short 4) else end_with (from_be_bytes w32 (take 4 bytes)) bytes

-- A message whose frame begins the bytes, and how many bytes the frame takes. Or bytes are wanting by the length that the
-- frame tells. Or, whatever follows the bytes, they begin with no message.
abbrev pub IsRead : {A : Type 0} → (A → List ℕ) → (A → Type 0) → Result (A × ℕ) MessageFault → List ℕ → Type 0
IsRead frame Fits (Ok x) bytes = Fits x.0 × (take x.1 bytes ≡ frame x.0) × (x.1 ≡ length (frame x.0))
IsRead {A} frame Fits (Err Malformed) bytes = (message : A) (more rest : List ℕ) → Fits message → bytes ++ more ≢ frame message ++ rest
IsRead frame Fits (Err (Short wanted)) bytes = frame_end bytes ≡ Err (Short wanted)
IsRead frame Fits (Err Memory) bytes = ⊤

-- a message whose frame begins the bytes was read, unless an allocation was refused
abbrev pub IsReadAs : {A : Type 0} → (A → List ℕ) → Result (A × ℕ) MessageFault → A → Type 0
IsReadAs frame (Ok x) message = (x.0 ≡ message) × (x.1 ≡ length (frame message))
IsReadAs frame (Err fault) message = fault ≡ Memory

-- The frame of the response, which may stand in one then; or it does not fit.
abbrev pub IsPrinted : Result (Vec ℕ Global) PrintFault → Response → Type 0
IsPrinted (Ok frame) response = (frame.items ≡ response_frame response) × IsResponse response
IsPrinted (Err prints.TooLong) response = MAX_LEN < length (response_bytes response)
IsPrinted (Err prints.Memory) response = ⊤
