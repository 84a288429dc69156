-- What the reader tells of a line.
use Rattle.std.specs.Prelude.{◌≡◌, ℕ, ◌≤◌, List, Option, Some, None, Result, Ok, Err, decimal, ⊤}
use Rattle.hk_event.specs.declared.event.Header.{Header}
use Rattle.hk_event.specs.declared.event.Event.{Event}
use Rattle.hk_script.specs.declared.fault.LineFault.{LineFault}
use Rattle.hk_script.specs.declared.fault.LineFault.TheVariants.{Memory, Bad}
use Rattle.hk_script.specs.Grammar.{IsEventLine, IsHeaderLine}

-- the number up to a limit whose digits the word is; none where it is no such number's
abbrev pub IsNumberRead : Option ℕ → ℕ → List ℕ → Type 0
IsNumberRead (Some n) limit word = (n ≤ limit) × (word ≡ decimal n)
IsNumberRead None limit word = (n : ℕ) → n ≤ limit → word ≡ decimal n → ⊥

-- the event whose line it is; Bad where it is no event's line; want of memory says nothing of it
abbrev pub IsEventRead : Result Event LineFault → List ℕ → Type 0
IsEventRead (Ok event) line = IsEventLine line event
IsEventRead (Err Bad) line = (event : Event) → IsEventLine line event → ⊥
IsEventRead (Err Memory) line = ⊤

abbrev pub IsHeaderRead : Result Header LineFault → List ℕ → Type 0
IsHeaderRead (Ok h) line = IsHeaderLine line h
IsHeaderRead (Err Bad) line = (h : Header) → IsHeaderLine line h → ⊥
IsHeaderRead (Err Memory) line = ⊤

-- no line is two events', and none two headers'
abbrev pub LinesTellEvents : Type 0
LinesTellEvents = (line : List ℕ) (a b : Event) → IsEventLine line a → IsEventLine line b → a ≡ b

abbrev pub LinesTellHeaders : Type 0
LinesTellHeaders = (line : List ℕ) (a b : Header) → IsHeaderLine line a → IsHeaderLine line b → a ≡ b
