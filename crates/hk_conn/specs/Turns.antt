-- The turns of the reader, beside what the bytes say.
use Rattle.std.specs.Prelude.{◌≡◌, ◌≢◌, ℕ, ◌<◌, ◌≤◌, List, [], ◌∷◌, ◌++◌, length, drop, false, Option, None, Some, IfSome, if◌then◌else◌, Result, Ok, Err}
use Rattle.hk_lines.specs.Cut.{Cutting}
use Rattle.hk_lines.specs.declared.due.Due.{Due}
use Rattle.hk_lines.specs.declared.due.Due.TheVariants as due
use Rattle.hk_request.specs.Heads.{HasItsTag}
use Rattle.hk_request.specs.declared.request.StoreHead.{StoreHead}
use Rattle.hk_request.specs.declared.request.Head.{Head}
use Rattle.hk_request.specs.declared.request.Head.TheVariants.{Whole, Store}
use Rattle.hk_request.specs.declared.request.RequestFault.{RequestFault}
use Rattle.hk_conn.specs.declared.said.Said.{Said}
use Rattle.hk_conn.specs.declared.said.Said.TheVariants.{Refused, LongLine}
use Rattle.hk_conn.specs.declared.said.ReaderStep.{ReaderStep}
use Rattle.hk_conn.specs.Said.{said_in, said_whole, store_at, Taken, is_last}

-- a block is due where a head is kept, and else a line
abbrev pub due_of : Option StoreHead → Due
due_of None = due.Line
due_of (Some h) = due.Block h.bytes

-- the cutter of a reader that keeps this head, or none
pub record IsReader (c : Cutting) (pending : Option StoreHead) : Type 0 where
  pub limit : c.limit ≡ 65536
  pub due : c.due ≡ due_of pending
  pub small : IfSome pending (λ h. h.bytes ≤ 1048576)
  pub its_tag : IfSome pending HasItsTag
  pub free : 0 < c.dropping → c.unread ≡ []

-- the reader goes on behind a turn, unless that said that a line is too long
abbrev pub GoesOn : ReaderStep → Cutting → Option StoreHead → Type 0
GoesOn t c pending = t ≢ ReaderStep.Says LongLine → IsReader c pending

-- the bytes that are unread, once more came
abbrev pub bytes_with : Cutting → List ℕ → List ℕ
bytes_with c more = c.unread ++ drop c.dropping more

-- what is said where the block of a store comes first
abbrev pub said_after : Option StoreHead → List ℕ → List Said
said_after None bytes = said_in bytes
said_after (Some h) bytes = onto_block (store_at h 0 bytes) bytes
  where
    onto_block : Option Taken → List ℕ → List Said
    onto_block None bytes = []
    onto_block (Some t) bytes = t.said ∷ said_in (drop t.took bytes)

-- what is said from here on, once more came
abbrev pub ahead : Option StoreHead → Cutting → List ℕ → List Said
ahead pending c more = said_after pending (bytes_with c more)

abbrev pub onto_turn : ReaderStep → List Said → List Said
onto_turn (ReaderStep.Says s) rest = s ∷ (if is_last s then [] else rest)
onto_turn ReaderStep.Head rest = rest
onto_turn ReaderStep.Need rest = rest

-- less is unread after a turn that said something and was not the last
abbrev pub IsLess : ReaderStep → ℕ → ℕ → Type 0
IsLess (ReaderStep.Says s) n m = is_last s ≡ false → n < m
IsLess ReaderStep.Head n m = n < m
IsLess ReaderStep.Need n m = Unit {0}

-- a turn gives what is said next, whatever comes
pub record Turns (t : ReaderStep) (p : Option StoreHead) (c : Cutting) (p' : Option StoreHead) (c' : Cutting) : Type 0 where
  pub next : (more : List ℕ) → ahead p c more ≡ onto_turn t (ahead p' c' more)
  pub need : t ≡ ReaderStep.Need → ahead p' c' [] ≡ []
  pub less : IsLess t (length c'.unread) (length c.unread)

-- what is said by a line and the bytes behind it
abbrev pub after_line : Result Head RequestFault → List ℕ → List Said
after_line (Err f) bytes = Refused f.cause ∷ said_in (drop f.skip bytes)
after_line (Ok (Whole r)) bytes = said_whole r ∷ (if is_last (said_whole r) then [] else said_in bytes)
after_line (Ok (Store h)) bytes = said_after (Some h) bytes

-- a turn gives what a line says, whatever comes
pub record LineTurns (t : ReaderStep) (line : Result Head RequestFault) (c : Cutting) (p' : Option StoreHead) (c' : Cutting) : Type 0 where
  pub next : (more : List ℕ) → after_line line (bytes_with c more) ≡ onto_turn t (ahead p' c' more)
  pub some : t ≡ ReaderStep.Need → ⊥
  pub less : length c'.unread ≤ length c.unread
