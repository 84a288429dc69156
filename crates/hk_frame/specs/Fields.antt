-- Reading fields from left to right: what a field is and what stands behind it, or the first fault that is met. A field
-- that passes the end is a fault before its value is looked at.
use Rattle.std.specs.Prelude.{◌≡◌, ℕ, ◌-◌, List, [], ◌∷◌, length, take, drop, position, ◌&&◌, nat_lt, nat_le, if◌then◌else◌, Option, None, Some, Result, Ok, Err}
use Rattle.std.specs.Int.{Width, byte_len, from_be_bytes}
use Rattle.hk_base.specs.KeyBytes.{is_bad_byte}
use Rattle.hk_frame.specs.declared.fault.Stop.{Stop}
use Rattle.hk_frame.specs.declared.fault.Stop.TheVariants.{Memory, Length, Field}

-- one step after the other, up to the first fault
infixl 10 ◌>>=◌
abbrev pub ◌>>=◌ : {A B : Type 0} → Result A Stop → (A → Result B Stop) → Result B Stop
(Ok x) >>= f = f x
(Err e) >>= f = Err e

-- what a reader of the code gives is what reading gives, unless an allocation was refused
abbrev pub Fails : {B : Type 0} → Stop → Result B Stop → Type 0
Fails Memory read = Unit {0}
Fails e read = read ≡ Err e

abbrev pub Gives : {A B : Type 0} → (A → B) → Result A Stop → Result B Stop → Type 0
Gives view (Ok x) read = read ≡ Ok (view x)
Gives view (Err e) read = Fails e read

-- a field, and another behind it
abbrev pub both : {A B : Type 0} → (List ℕ → Result (A × List ℕ) Stop) → (List ℕ → Result (B × List ℕ) Stop) → List ℕ → Result ((A × B) × List ℕ) Stop
both first second bytes = first bytes >>= λ a. second a.1 >>= λ b. Ok ((a.0, b.0), b.1)

-- a field, and another behind it that the first one decides
abbrev pub chain : {A B : Type 0} → (List ℕ → Result (A × List ℕ) Stop) → (A → List ℕ → Result (B × List ℕ) Stop) → List ℕ → Result ((A × B) × List ℕ) Stop
chain first second bytes = first bytes >>= λ a. second a.0 a.1 >>= λ b. Ok ((a.0, b.0), b.1)

-- what a field's value makes
abbrev pub made : {A B : Type 0} → (A → B) → (List ℕ → Result (A × List ℕ) Stop) → List ℕ → Result (B × List ℕ) Stop
made make read bytes = read bytes >>= λ a. Ok (make a.0, a.1)

-- the value of a field is out of range
abbrev pub out_of_range : {A : Type 0} → List ℕ → Result A Stop
out_of_range bytes = Err (Field (length bytes))

-- one byte
abbrev pub byte_at : List ℕ → Result (ℕ × List ℕ) Stop
byte_at [] = Err Length
byte_at (b ∷ rest) = Ok (b, rest)

-- a number, the highest byte first
abbrev pub number_at : Width → List ℕ → Result (ℕ × List ℕ) Stop
number_at w bytes = if nat_lt (length bytes) (byte_len w) then Err Length else Ok (from_be_bytes w (take (byte_len w) bytes), drop (byte_len w) bytes)

-- a number between two others, these included
abbrev pub within : ℕ → ℕ → (List ℕ → Result (ℕ × List ℕ) Stop) → List ℕ → Result (ℕ × List ℕ) Stop
within least most read bytes = read bytes >>= λ n. if nat_le least n.0 && nat_le n.0 most then Ok n else out_of_range bytes

-- so many bytes, whatever they are
abbrev pub bytes_at : ℕ → List ℕ → Result (List ℕ × List ℕ) Stop
bytes_at n bytes = if nat_lt (length bytes) n then Err Length else Ok (take n bytes, drop n bytes)

abbrev pub clean_or : Option ℕ → List ℕ → List ℕ → List ℕ → Result (List ℕ × List ℕ) Stop
clean_or None key rest bytes = Ok (key, rest)
clean_or (Some at) key rest bytes = Err (Field (length bytes - at))

-- so many bytes of a key; the fault is the first byte that no key has
abbrev pub key_of : ℕ → List ℕ → Result (List ℕ × List ℕ) Stop
key_of n bytes = bytes_at n bytes >>= λ x. clean_or (position is_bad_byte x.0) x.0 x.1 bytes
