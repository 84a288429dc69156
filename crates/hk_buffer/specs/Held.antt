-- What a buffer holds, and what its calls do to that.
use Rattle.std.specs.Prelude.{ℕ, List, [], ◌++◌, length, take, drop}

pub record Held : Type 0 where
  -- the bytes that came and were not given yet
  pub unread : List ℕ
  -- the bytes that were given last
  pub given : List ℕ
  -- what stands in the room behind the unread bytes
  pub room : List ℕ

-- a piece comes, and no room is left
abbrev pub fed : Held → List ℕ → Held
fed h piece = record h { unread = h.unread ++ piece; given = []; room = [] }

-- some room is made, whatever stands in it
abbrev pub with_room : Held → List ℕ → Held
with_room h room = record h { given = []; room = room }

-- bytes are written to the front of the room, which stays as long as it is
abbrev pub written : Held → List ℕ → Held
written h bytes = record h { room = take (length h.room) (bytes ++ drop (length bytes) h.room) }

-- the first bytes of the room come as a piece, and what is behind them is the room
abbrev pub filled : Held → ℕ → Held
filled h count = record (fed h (take count h.room)) { room = drop count h.room }

-- the first bytes are given, and so many are gone
abbrev pub giving : Held → ℕ → ℕ → Held
giving h count gone = record h { unread = drop gone h.unread; given = take count h.unread }

-- the first bytes are dropped
abbrev pub skipped : Held → ℕ → Held
skipped h count = record h { unread = drop count h.unread }
