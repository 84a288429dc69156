-- What becomes of a buffer whose room was lent.
use Rattle.std.specs.Prelude.{ℕ, List}
use Rattle.std.specs.Borrow.{Lends, MutBor, Fml, u8, Array}
use Rattle.hk_buffer.specs.contracts.buffer.Buffer.{the_row}
use Rattle.hk_buffer.specs.Held.{Held, written}

-- what is left behind the reference stands at the front of the room
abbrev pub LendsRoom : MutBor Held → MutBor (List ℕ) → Fml
LendsRoom h room = Lends the_row (Array u8 0) h room (written h.now)
