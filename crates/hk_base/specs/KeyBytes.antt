-- The bytes that no key has.
use Rattle.std.specs.Prelude.{ℕ, nat_lt, ◌||◌, ◌==◌, Bool}

-- a control character, a space or a delete
abbrev pub is_bad_byte : ℕ → Bool
is_bad_byte byte = nat_lt byte 33 || (byte == 127)
