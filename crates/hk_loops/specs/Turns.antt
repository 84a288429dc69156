-- The law of a turn.
use Rattle.std.specs.Prelude.{ℕ, ◌-◌, List, Option, Result}
use Rattle.std.specs.Io.KnownBytes.{Appends, Consumes}
use Rattle.hk_base.specs.declared.memory.Memory.{Memory}
use Rattle.hk_outside.specs.declared.desk.Asked.{Asked}
use Rattle.hk_outside.specs.declared.desk.DeskReply.{DeskReply}
use Rattle.hk_conn.specs.declared.exchange.Exchange.{Exchange}
use Rattle.hk_conn.specs.Calls.{Call, Runs, all_given, all_written, IsNew, IsAtRest, AreServed}

-- A turn is some calls of the exchange, one after the other: the bytes that they gave it were read off the connection, and the text that they wrote was written to it.
pub record TakesTurn {W : Type 0} (will : W → Result DeskReply Memory) (m : ℕ) (asks asks' : Option (List Asked)) (left left' held held' : Option (List ℕ)) (e e' : Exchange W) : Type 0 where
  pub calls : List Call
  pub runs : Runs will m asks asks' e e' calls
  pub read : Consumes left left' (all_given calls)
  pub wrote : Appends held held' (all_written calls)

-- one that asks nothing, so of any desk
abbrev pub Exchanges : {W : Type 0} → Option (List ℕ) → Option (List ℕ) → Option (List ℕ) → Option (List ℕ) → Exchange W → Exchange W → Type 0
Exchanges {W = W} left left' held held' e e' = (will : W → Result DeskReply Memory) (m : ℕ) (asks : Option (List Asked)) → TakesTurn will m asks asks left left' held held' e e'

-- one that reads and writes nothing, so beside any connection
abbrev pub Answers : {W : Type 0} → (W → Result DeskReply Memory) → ℕ → Option (List Asked) → Option (List Asked) → Exchange W → Exchange W → Type 0
Answers will m asks asks' e e' = (left held : Option (List ℕ)) → TakesTurn will m asks asks' left left held held e e'

-- so many bytes were read, and this text was written, which is what is served for them and what the desk told
pub record IsServed (patience : ℕ) (asks asks' : Option (List Asked)) (left left' held held' : Option (List ℕ)) : Type 0 where
  pub bytes : List ℕ
  pub text : List ℕ
  pub read : Consumes left left' bytes
  pub wrote : Appends held held' text
  pub served : AreServed patience asks asks' bytes text

-- However many turns a new exchange takes: at each rest what was written is `served` of the bytes that were read and of what the desk told.
abbrev pub TurnsServe : {W : Type 0} → (W → Result DeskReply Memory) → Type 0
TurnsServe {W = W} will =
    (patience : ℕ) (asks asks' : Option (List Asked)) (left left' held held' : Option (List ℕ)) (e e' : Exchange W) → IsNew e → TakesTurn will (patience - 1) asks asks' left left' held held' e e' → IsAtRest e' → IsServed patience asks asks' left left' held held'

-- Turns, one behind the other, and no turn at all are as one.
pub record AreOneTurn {W : Type 0} (will : W → Result DeskReply Memory) : Type 0 where
  pub none : (m : ℕ) (asks : Option (List Asked)) (left held : Option (List ℕ)) (e : Exchange W) → TakesTurn will m asks asks left left held held e e
  pub more : (m : ℕ) (a b c : Option (List Asked)) (l l' l'' h h' h'' : Option (List ℕ)) (e f g : Exchange W) → TakesTurn will m a b l l' h h' e f → TakesTurn will m b c l' l'' h' h'' f g → TakesTurn will m a c l l'' h h'' e g
