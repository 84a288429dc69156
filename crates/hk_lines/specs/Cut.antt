-- What a cutter holds, and what its calls do to that. Lines are those of memcached's `protocol.txt`: they end in a
-- carriage return and a line feed, 13 and 10. A block has a count that a line told, and two bytes that end it.
use Rattle.std.specs.Prelude.{◌≡◌, ℕ, ◌+◌, ◌-◌, ◌<◌, List, [], ◌∷◌, ◌++◌, length, take, drop, Bool, false, Option, None, Some, nat_le, ◌==◌, ◌&&◌, if◌then◌else◌}
use Rattle.std.specs.Option.{option_map}
use Rattle.hk_lines.specs.declared.due.Due.{Due}
use Rattle.hk_lines.specs.declared.due.Due.TheVariants as due
use Rattle.hk_lines.specs.declared.step.Step.{Step}
use Rattle.hk_lines.specs.declared.step.Step.TheVariants.{Line, Block, Need, TooLong}

-- whether the bytes begin with a line feed
abbrev pub begins_with_feed : List ℕ → Bool
begins_with_feed [] = false
begins_with_feed (b ∷ bs) = b == 10

-- how many bytes stand before the first carriage return that a line feed follows
abbrev pub line_end : List ℕ → Option ℕ
line_end [] = None
line_end (b ∷ bs) = if (b == 13) && begins_with_feed bs then Some 0 else option_map (λ n. 1 + n) (line_end bs)

pub record Cutting : Type 0 where
  -- the bytes that came and were not given yet
  pub unread : List ℕ
  -- how many of those that come next are dropped
  pub dropping : ℕ
  -- how long a line may be, without the two bytes that end it
  pub limit : ℕ
  -- a line, a block of a count that was told, or nothing any more
  pub due : Due
  -- the line or block that was given last; nothing where the last step gave none
  pub given : List ℕ
  -- what stands in the room behind the unread bytes
  pub room : List ℕ

-- while bytes are to be dropped, nothing is unread
abbrev pub IsCutting : Cutting → Type 0
IsCutting c = 0 < c.dropping → c.unread ≡ []

-- a piece comes, and no room is left
abbrev pub fed : Cutting → List ℕ → Cutting
fed c piece = record c { unread = c.unread ++ drop c.dropping piece; dropping = c.dropping - length piece; given = []; room = [] }

-- some room is made, whatever stands in it
abbrev pub with_room : Cutting → List ℕ → Cutting
with_room c room = record c { given = []; room = room }

-- bytes are written to the front of the room, which stays as long as it is
abbrev pub written : Cutting → List ℕ → Cutting
written c bytes = record c { room = take (length c.room) (bytes ++ drop (length bytes) c.room) }

-- the first bytes of the room come as a piece, and what is behind them is the room
abbrev pub filled : Cutting → ℕ → Cutting
filled c count = record (fed c (take count c.room)) { room = drop count c.room }

-- the next bytes are dropped, as many as are there at once and the others as they come
abbrev pub skipped : Cutting → ℕ → Cutting
skipped c count = record c { unread = drop count c.unread; dropping = c.dropping + (count - length c.unread) }

-- what is due once a block is expected: it, unless nothing is due any more
abbrev pub with_block : Due → ℕ → Due
with_block due.Line count = due.Block count
with_block (due.Block n) count = due.Block count
with_block due.Nothing count = due.Nothing

-- a block is expected
abbrev pub expecting : Cutting → ℕ → Cutting
expecting c count = record c { due = with_block c.due count }

-- a step, and what the cutter holds afterwards
pub record Stepped : Type 0 where
  pub step : Step
  pub rest : Cutting

-- the first n bytes are given, so many are gone, and a line is due
abbrev pub giving : Cutting → ℕ → ℕ → Cutting
giving c n gone = record c { unread = drop gone c.unread; due = due.Line; given = take n c.unread }

-- a step that gave what the cutter now shows
abbrev pub gives : Step → Cutting → Stepped
gives step c = record { step = step; rest = c }

-- a step that gave nothing
abbrev pub holding : Step → Cutting → Stepped
holding step c = record { step = step; rest = record c { given = [] } }

-- a line is due: it is given where it ends, and is too long where that many bytes are there without an end; then nothing is due any more
abbrev pub line_step : Cutting → Option ℕ → Stepped
line_step c (Some n) = gives Line (giving c n (n + 2))
line_step c None = if nat_le (c.limit + 2) (length c.unread) then holding TooLong (record c { due = due.Nothing }) else holding Need c

-- a block is due: it is given with the two bytes that end it, once all of it is there
abbrev pub block_step : Cutting → ℕ → Stepped
block_step c count = if nat_le (count + 2) (length c.unread) then gives Block (giving c (count + 2) (count + 2)) else holding Need c

-- the next step of what is due; the end of a line is sought in the first limit + 2 bytes
abbrev pub step_of : Due → Cutting → Stepped
step_of due.Line c = line_step c (line_end (take (c.limit + 2) c.unread))
step_of (due.Block count) c = block_step c count
step_of due.Nothing c = holding TooLong c

-- the next step
unfoldable pub stepped : Cutting → Stepped
stepped c = step_of c.due c
