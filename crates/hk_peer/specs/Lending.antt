-- What becomes of a cutter whose room was lent.
use Rattle.std.specs.Prelude.{ℕ, List}
use Rattle.std.specs.Borrow.{Lends, MutBor, Fml, u8, Array}
use Rattle.hk_peer.specs.contracts.cutter.PeerCutter.{the_row}
use Rattle.hk_peer.specs.Cut.{Cutting, written}

-- what is left behind the reference stands at the front of the room
abbrev pub LendsRoom : MutBor Cutting → MutBor (List ℕ) → Fml
LendsRoom c room = Lends the_row (Array u8 0) c room (written c.now)
