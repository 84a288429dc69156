-- What the bytes of a client say: its requests one after the other, refused ones too.
use Rattle.std.specs.Prelude.{ℕ, zero, suc, ◌+◌, ◌-◌, List, [], ◌∷◌, length, take, drop, Bool, true, false, Option, None, Some, nat_le, if◌then◌else◌, codes, Result, Ok, Err}
use Rattle.hk_lines.specs.Cut.{line_end}
use Rattle.hk_request.specs.Words.{is_text}
use Rattle.hk_request.specs.Reading.{head_of}
use Rattle.hk_request.specs.Blocks.{end_of, update_of}
use Rattle.hk_request.specs.declared.request.Request.{Request}
use Rattle.hk_request.specs.declared.request.Request.TheVariants as request
use Rattle.hk_request.specs.declared.request.StoreHead.{StoreHead}
use Rattle.hk_request.specs.declared.request.Head.{Head}
use Rattle.hk_request.specs.declared.request.Head.TheVariants.{Whole, Store}
use Rattle.hk_request.specs.declared.request.RequestFault.{RequestFault}
use Rattle.hk_conn.specs.declared.said.Said.{Said}
use Rattle.hk_conn.specs.declared.said.Said.TheVariants.{Asked, Refused, BadEnd, LongLine, Left}

-- one thing that is said, and how many bytes it takes
pub record Taken : Type 0 where
  pub said : Said
  pub took : ℕ

-- nothing is read behind a quit or a line that is too long
abbrev pub is_last : Said → Bool
is_last LongLine = true
is_last Left = true
is_last s = false

-- what a request says that is whole with its line
abbrev pub said_whole : Request → Said
said_whole request.Quit = Left
said_whole r = Asked r

-- what the head of a store says with its block: its update, where the block ends in a carriage return and a line feed
unfoldable pub said_block : StoreHead → List ℕ → Said
said_block h block = if is_text (end_of h block) (codes "\r\n") then Asked (update_of h block) else BadEnd h.noreply

-- a store whose line takes k bytes: its block takes two bytes more than the line tells, and must all be there
abbrev pub store_at : StoreHead → ℕ → List ℕ → Option Taken
store_at h k rest =
    if nat_le (h.bytes + 2) (length rest)
    then Some (record { said = said_block h (take (h.bytes + 2) rest); took = k + (h.bytes + 2) })
    else None

-- what a line of k bytes says, with the bytes behind it; a refused block goes with its line
abbrev pub line_at : Result Head RequestFault → ℕ → List ℕ → Option Taken
line_at (Err f) k rest = Some (record { said = Refused f.cause; took = k + f.skip })
line_at (Ok (Whole r)) k rest = Some (record { said = said_whole r; took = k })
line_at (Ok (Store h)) k rest = store_at h k rest

-- a line is what stands before the first carriage return that a line feed follows, n bytes; without such an end it is
-- too long where 65,538 bytes are there
abbrev pub ended_at : Option ℕ → List ℕ → Option Taken
ended_at None bytes = if nat_le 65538 (length bytes) then Some (record { said = LongLine; took = 1 }) else None
ended_at (Some n) bytes = line_at (head_of (take n bytes)) (n + 2) (drop (n + 2) bytes)

-- what stands at the front of the bytes, if all of it is there; a line has 65,536 bytes at most, and the two that end it
unfoldable pub first_of : List ℕ → Option Taken
first_of bytes = ended_at (line_end (take 65538 bytes)) bytes

abbrev pub onto : Option Taken → (ℕ → List Said) → List Said
onto None rest = []
onto (Some t) rest = t.said ∷ (if is_last t.said then [] else rest (t.took - 1))

-- What the bytes say, when as many of them are passed over. It goes byte by byte: the next thing begins at the first
-- byte that belongs to none before it.
unfoldable pub said_behind : ℕ → List ℕ → List Said
said_behind k [] = []
said_behind (suc k) (b ∷ bs) = said_behind k bs
said_behind zero (b ∷ bs) = onto (first_of (b ∷ bs)) (λ k. said_behind k bs)

-- what the bytes say
abbrev pub said_in : List ℕ → List Said
said_in bytes = said_behind 0 bytes
