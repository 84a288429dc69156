-- Calls of an exchange, in whatever order a loop makes them, and the law of them.
use Rattle.std.specs.Prelude.{◌≡◌, ◌≤◌, ◌⊎◌, ℕ, ◌-◌, List, [], ◌∷◌, ◌++◌, length, take, map, Option, None, Some, Result, Ok}
use Rattle.hk_base.specs.declared.memory.Memory.{Memory}
use Rattle.hk_lines.specs.declared.due.Due.TheVariants as due
use Rattle.hk_outside.specs.declared.desk.Asked.{Asked}
use Rattle.hk_outside.specs.declared.desk.DeskReply.{DeskReply}
use Rattle.hk_conn.specs.declared.exchange.Exchange.{Exchange}
use Rattle.hk_conn.specs.declared.exchange.Owed.TheVariants as owes
use Rattle.hk_conn.specs.declared.said.Stop.TheVariants as stop
use Rattle.hk_conn.specs.Heard.{AsksMore, told_of}
use Rattle.hk_conn.specs.Served.{served}
use Rattle.hk_conn.specs.Exchange.{IsExchange, IsIdle, Gives, Steps, HearsNext, Writes, owed, unwritten}

-- one call, none of which wanted memory: bytes came, a step was taken, an update that waits was told, or so much of the replies was written
pub data Call : Type 0 where
  Gave : (bytes : List ℕ) → Call
  Stepped : Call
  Heard : Call
  Wrote : (text : List ℕ) → Call

-- what it did
abbrev pub Makes : {W : Type 0} → (W → Result DeskReply Memory) → ℕ → Option (List Asked) → Option (List Asked) → Exchange W → Exchange W → Call → Type 0
Makes will m asks asks' e e' (Gave bytes) = Gives bytes e e' × (asks' ≡ asks)
Makes will m asks asks' e e' Stepped = Steps will m asks asks' e e'
Makes will m asks asks' e e' Heard = HearsNext {F = Memory} will (Ok tt) asks asks' e e'
Makes will m asks asks' e e' (Wrote text) = (1 ≤ length text) × (length text ≤ length (unwritten e)) × (text ≡ take (length text) (unwritten e)) × Writes (length text) e e' × (asks' ≡ asks)

-- what they did, one after the other
abbrev pub Runs : {W : Type 0} → (W → Result DeskReply Memory) → ℕ → Option (List Asked) → Option (List Asked) → Exchange W → Exchange W → List Call → Type 0
Runs will m asks asks' e e' [] = (e' ≡ e) × (asks' ≡ asks)
Runs {W = W} will m asks asks' e e' (c ∷ cs) = (mid : Exchange W) × (now : Option (List Asked)) × Makes will m asks now e mid c × Runs will m now asks' mid e' cs

-- the bytes that came, and what was written, however they were cut
abbrev pub all_given : List Call → List ℕ
all_given [] = []
all_given (Gave bytes ∷ cs) = bytes ++ all_given cs
all_given (Stepped ∷ cs) = all_given cs
all_given (Heard ∷ cs) = all_given cs
all_given (Wrote text ∷ cs) = all_given cs

abbrev pub all_written : List Call → List ℕ
all_written [] = []
all_written (Gave bytes ∷ cs) = all_written cs
all_written (Stepped ∷ cs) = all_written cs
all_written (Heard ∷ cs) = all_written cs
all_written (Wrote text ∷ cs) = text ++ all_written cs

-- nothing came yet
pub record IsNew {W : Type 0} (e : Exchange W) : Type 0 where
  pub sound : IsExchange e
  pub idle : IsIdle e
  pub need : e.stop ≡ stop.Need
  pub cutter : e.reader.cutter ≡ record { unread = []; dropping = 0; limit = 65536; due = due.Line; given = []; room = [] }
  pub pending : e.reader.pending ≡ None

-- all that can be answered is answered, and written
abbrev pub IsAtRest : {W : Type 0} → Exchange W → Type 0
IsAtRest e = (owed e ≡ owes.Bytes) ⊎ (owed e ≡ owes.Over)

-- What was asked and written is what is served for these bytes and what the desk told.
pub record AreServed (patience : ℕ) (asks asks' : Option (List Asked)) (read text : List ℕ) : Type 0 where
  pub made : List Asked
  pub asked : AsksMore asks asks' made
  pub called : (served read patience (map told_of made)).asks ≡ made
  pub put : (served read patience (map told_of made)).text ≡ text
  pub whole : (served read patience (map told_of made)).later ≡ Some []

-- Whatever pieces and pauses a loop gives an exchange: at each rest what was written is `served`, of all the bytes together and of what was told.
abbrev pub PiecesAndPauses : {W : Type 0} → (W → Result DeskReply Memory) → Type 0
PiecesAndPauses {W = W} will =
    (patience : ℕ) (asks asks' : Option (List Asked)) (e e' : Exchange W) (calls : List Call) → IsNew e → Runs will (patience - 1) asks asks' e e' calls → IsAtRest e' → AreServed patience asks asks' (all_given calls) (all_written calls)
