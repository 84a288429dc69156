-- What reading a frame gives, and which fault it tells.
use Rattle.std.specs.Prelude.{◌≡◌, ℕ, ◌+◌, ◌-◌, List, length, take, drop, nat_lt, if◌then◌else◌, Result, Ok, Err}
use Rattle.std.specs.Int.{w32, from_be_bytes}
use Rattle.hk_base.specs.declared.letter.Letter.{Letter}
use Rattle.hk_frame.specs.declared.fault.Stop.{Stop}
use Rattle.hk_frame.specs.declared.fault.Stop.TheVariants as stops
use Rattle.hk_frame.specs.declared.fault.FrameFault.{FrameFault}
use Rattle.hk_frame.specs.declared.fault.FrameFault.TheVariants.{Memory, Short, BadKind, BadLength, BadField}
use Rattle.hk_frame.specs.declared.length.TheConstants.{MIN_LENGTH, MAX_LENGTH}
use Rattle.hk_frame.specs.Frames.{frame}
use Rattle.hk_frame.specs.Sendable.{IsSendable}
use Rattle.hk_frame.specs.Reading.{fields_at}

-- A fault of the fields, told of a frame with this length: of a field, its place from the frame's first byte on.
abbrev pub fault_of : ℕ → Stop → FrameFault
fault_of len stops.Memory = Memory
fault_of len (stops.Kind kind) = BadKind kind
fault_of len stops.Length = BadLength len
fault_of len (stops.Field left) = BadField (4 + len - left)

abbrev pub told_of : ℕ → Result (ℕ × Letter) Stop → Result ((ℕ × Letter) × ℕ) FrameFault
told_of len (Ok x) = Ok (x, 4 + len)
told_of len (Err stop) = Err (fault_of len stop)

-- The letter that begins the bytes and the length of its frame, or the first fault: no whole length, a length out of
-- range, no whole frame, and then the fields.
abbrev pub frame_with : ℕ → List ℕ → Result ((ℕ × Letter) × ℕ) FrameFault
frame_with len bytes =
    if nat_lt len MIN_LENGTH then Err (BadLength len)
    else (if nat_lt MAX_LENGTH len then Err (BadLength len)
    else (if nat_lt (length bytes) (4 + len) then Err (Short (4 + len))
    else told_of len (fields_at (take len (drop 4 bytes)))))

abbrev pub frame_at : List ℕ → Result ((ℕ × Letter) × ℕ) FrameFault
frame_at bytes = if nat_lt (length bytes) 4 then Err (Short 4) else frame_with (from_be_bytes w32 (take 4 bytes)) bytes

-- a fault that was told is the first one; want of memory says nothing of the bytes
abbrev pub IsFault : FrameFault → Result ((ℕ × Letter) × ℕ) FrameFault → Type 0
IsFault Memory read = Unit {0}
IsFault fault read = read ≡ Err fault

-- what a reader of the code gives is what reading gives, unless an allocation was refused
abbrev pub Tells : Result ((ℕ × Letter) × ℕ) FrameFault → Result ((ℕ × Letter) × ℕ) FrameFault → Type 0
Tells (Ok x) read = read ≡ Ok x
Tells (Err fault) read = IsFault fault read

-- what `read_letter` gives: a letter that has a frame, which begins the bytes; or the first fault
abbrev pub IsRead : Result (ℕ × Letter × ℕ) FrameFault → List ℕ → Type 0
IsRead (Ok x) bytes = IsSendable x.0 x.1 × (take x.2 bytes ≡ frame x.0 x.1) × (x.2 ≡ length (frame x.0 x.1))
IsRead (Err fault) bytes = IsFault fault (frame_at bytes)

-- a letter whose frame begins the bytes was read, unless an allocation was refused
abbrev pub IsReadAs : Result (ℕ × Letter × ℕ) FrameFault → ℕ → Letter → Type 0
IsReadAs (Ok x) shard letter = (x.0 ≡ shard) × (x.1 ≡ letter) × (x.2 ≡ length (frame shard letter))
IsReadAs (Err fault) shard letter = fault ≡ Memory
