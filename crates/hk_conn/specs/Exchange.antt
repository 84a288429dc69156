-- A connection between two calls of its loop.
use Rattle.std.specs.Prelude.{◌≡◌, ◌≤◌, ◌<◌, ◌+◌, ◌⊎◌, ⊤, ℕ, List, [], ◌∷◌, ◌++◌, length, drop, Bool, true, false, Option, None, Some, Result, Ok, Err, OnOk, nat_lt, ◌==◌, is_some, if◌then◌else◌}
use Rattle.hk_lines.specs.Cut.{fed, with_room}
use Rattle.hk_outside.specs.declared.desk.Asked.{Asked}
use Rattle.hk_outside.specs.declared.desk.DeskReply.{DeskReply}
use Rattle.hk_conn.specs.declared.exchange.Exchange.{Exchange}
use Rattle.hk_conn.specs.declared.exchange.Owed.{Owed}
use Rattle.hk_conn.specs.declared.exchange.Owed.TheVariants as owes
use Rattle.hk_conn.specs.declared.said.Said.{Said}
use Rattle.hk_conn.specs.declared.said.Stop.{Stop}
use Rattle.hk_conn.specs.declared.said.Stop.TheVariants as stop
use Rattle.hk_conn.specs.Said.{is_last}
use Rattle.hk_conn.specs.Turns.{ahead, IsReader}
use Rattle.hk_conn.specs.Served.{Out, replies}
use Rattle.hk_conn.specs.Serving.{Place, place_of, behind_stop}
use Rattle.hk_conn.specs.Pending.{Holding, Parting}

-- where its reader is
abbrev pub place_in : {W : Type 0} → Exchange W → Place
place_in e = place_of e.reader.pending e.reader.cutter

-- the replies from here on: to what is held, and then to what is said behind it
abbrev pub behind : Stop → Option Said → ℕ → Place → List ℕ → List (Option DeskReply) → Out
behind s None m p more later = behind_stop s m p more later
behind s (Some held) m p more later = replies m (held ∷ (if is_last held then [] else ahead p.pending p.cutting more)) later

-- what is known of the reader: with `Need` all that was said is answered, and what is held is answered next
abbrev pub Stands : Stop → Option Said → Place → Type 0
Stands stop.Need None p = IsReader p.cutting p.pending × (ahead p.pending p.cutting [] ≡ [])
Stands stop.Full None p = IsReader p.cutting p.pending
Stands stop.Quit None p = ⊤
Stands stop.TooLong None p = ⊤
Stands stop.Full (Some held) p = IsReader p.cutting p.pending × (is_last held ≡ false)
Stands s (Some held) p = ⊥

-- what holds of an exchange between its calls: replies that are written in part stand alone
pub record IsExchange {W : Type 0} (e : Exchange W) : Type 0 where
  pub stands : Stands e.stop e.held (place_in e)
  pub none_told : e.updates.items ≡ [] → e.told.items ≡ []
  pub within : e.at ≤ length e.out.items
  pub alone : 0 < e.at → e.updates.items ≡ []

-- nothing is held, waits, or is to be written
pub record IsIdle {W : Type 0} (e : Exchange W) : Type 0 where
  pub none_held : e.held ≡ None
  pub none_waits : e.updates.items ≡ []
  pub none_told : e.told.items ≡ []
  pub none_out : e.out.items ≡ []
  pub none_written : e.at ≡ 0

-- what is owed where no update waits: first what is held, then that the replies are written
abbrev pub owed_then : Bool → Bool → Stop → Owed
owed_then true unwritten s = owes.Step
owed_then false true s = owes.Write
owed_then false false stop.Need = owes.Bytes
owed_then false false stop.Full = owes.Step
owed_then false false stop.Quit = owes.Over
owed_then false false stop.TooLong = owes.Over

abbrev pub owed : {W : Type 0} → Exchange W → Owed
owed e = if nat_lt 0 (length e.updates.items) then owes.Hear else owed_then (is_some e.held) (nat_lt e.at (length e.out.items)) e.stop

-- the replies that are to be written: none while an update waits
abbrev pub unwritten : {W : Type 0} → Exchange W → List ℕ
unwritten e = if nat_lt 0 (length e.updates.items) then [] else drop e.at e.out.items

-- once more came there may be more to answer, unless it is over
abbrev pub more_came : Stop → Stop
more_came stop.Need = stop.Full
more_came s = s

-- all is as it was, but for the reader and the stop
pub record Keeps {W : Type 0} (e e' : Exchange W) : Type 0 where
  pub held : e'.held ≡ e.held
  pub updates : e'.updates ≡ e.updates
  pub told : e'.told ≡ e.told
  pub out : e'.out ≡ e.out
  pub at : e'.at ≡ e.at

-- these bytes came
pub record Gives {W : Type 0} (bytes : List ℕ) (e e' : Exchange W) : Type 0 where
  pub keeps : Keeps e e'
  pub cutter : e'.reader.cutter ≡ fed e.reader.cutter bytes
  pub pending : e'.reader.pending ≡ e.reader.pending
  pub stops : e'.stop ≡ more_came e.stop

-- nothing came
pub record GivesNothing {W : Type 0} (e e' : Exchange W) : Type 0 where
  pub keeps : Keeps e e'
  pub cutter : e'.reader.cutter ≡ with_room e.reader.cutter []
  pub pending : e'.reader.pending ≡ e.reader.pending
  pub stops : e'.stop ≡ e.stop

-- so many bytes of the replies were written; they are let go once all of them are
pub record Writes {W : Type 0} (count : ℕ) (e e' : Exchange W) : Type 0 where
  pub reader : e'.reader ≡ e.reader
  pub held : e'.held ≡ e.held
  pub updates : e'.updates ≡ e.updates
  pub told : e'.told ≡ e.told
  pub stops : e'.stop ≡ e.stop
  pub out : e'.out.items ≡ (if e.at + count == length e.out.items then [] else e.out.items)
  pub at : e'.at ≡ (if e.at + count == length e.out.items then 0 else e.at + count)

-- what a pass ends with: nothing is held, waits, or is written in part
pub record IsAnswered {W : Type 0} (s : Stop) (e : Exchange W) : Type 0 where
  pub none_held : e.held ≡ None
  pub none_waits : e.updates.items ≡ []
  pub none_told : e.told.items ≡ []
  pub none_written : e.at ≡ 0
  pub stops : e.stop ≡ s

-- a step can be made: what is held is not answered while an update waits, and nothing is while replies are written in part
abbrev pub CanStep : {W : Type 0} → Exchange W → Type 0
CanStep e = (e.stop ≡ stop.Full) × (e.at ≡ 0) × ((e.held ≡ None) ⊎ (e.updates.items ≡ []))

-- A step: the replies so far go on, whatever those that wait are told; no update is told meanwhile. Where one can be made less is
-- unread, unless all that was said is answered.
pub record Steps {W E : Type 0} (will : W → Result DeskReply E) (m : ℕ) (asks asks' : Option (List Asked)) (e e' : Exchange W) : Type 0 where
  pub goes : (a : Option (List Asked)) (old : List ℕ) (front : List ℕ → List (Option DeskReply) → Out) →
      Holding will a asks old e.out.items e.updates.items front (behind e.stop e.held m (place_in e)) → Holding will a asks' old e'.out.items e'.updates.items front (behind e'.stop e'.held m (place_in e'))
  pub stands : Stands e'.stop e'.held (place_in e')
  pub waits : e'.updates.items ≡ [] → e.updates.items ≡ []
  pub told : e'.told ≡ e.told
  pub at : e'.at ≡ e.at
  pub kept : 0 < e.at → (e'.out ≡ e.out) × (e'.updates ≡ e.updates)
  pub less : CanStep e → e'.stop ≡ stop.Full → length e'.reader.cutter.unread < length e.reader.cutter.unread

-- with no memory: the asks that were made are called for, whatever those that wait are told
abbrev pub TakesStep : {W E F : Type 0} → (W → Result DeskReply E) → Result (Unit {0}) F → ℕ → Option (List Asked) → Option (List Asked) → Exchange W → Exchange W → Type 0
TakesStep will (Ok u) m asks asks' e e' = Steps will m asks asks' e e'
TakesStep will (Err memory) m asks asks' e e' =
    (a : Option (List Asked)) (old : List ℕ) (front : List ℕ → List (Option DeskReply) → Out) →
    Holding will a asks old e.out.items e.updates.items front (behind e.stop e.held m (place_in e)) → Parting will a asks' e'.updates.items front

-- once none waits the replies are one text
pub record Joins {W F : Type 0} (result : Result (Unit {0}) F) (e e' : Exchange W) : Type 0 where
  pub updates : e'.updates ≡ e.updates
  pub text : OnOk result (e'.told.items ++ e'.out.items ≡ e.told.items ++ e.out.items)
  pub waits : (e.updates.items ≡ [] → ⊥) → (e'.told ≡ e.told) × (e'.out ≡ e.out)
  pub none_told : e.updates.items ≡ [] → e'.told.items ≡ []
  pub kept : (e'.reader ≡ e.reader) × (e'.held ≡ e.held) × (e'.stop ≡ e.stop) × (e'.at ≡ e.at)

-- The update that has waited longest is told: its reply stands behind those before it, and once none waits before those behind. Where
-- none waits nothing is told.
pub record HearsNext {W E F : Type 0} (will : W → Result DeskReply E) (result : Result (Unit {0}) F) (asks asks' : Option (List Asked)) (e e' : Exchange W) : Type 0 where
  pub next : e'.updates.items ≡ drop 1 e.updates.items
  pub holding : OnOk result ((a : Option (List Asked)) (old : List ℕ) (front after : List ℕ → List (Option DeskReply) → Out) →
      Holding will a asks (old ++ e.told.items) e.out.items e.updates.items front after → Holding will a asks' (old ++ e'.told.items) e'.out.items e'.updates.items front after)
  pub parting : (a : Option (List Asked)) (front : List ℕ → List (Option DeskReply) → Out) → Parting will a asks e.updates.items front → Parting will a asks' e'.updates.items front
  pub none : e.updates.items ≡ [] → e'.out ≡ e.out
  pub none_told : OnOk result ((e.updates.items ≡ [] → e.told.items ≡ []) → e'.updates.items ≡ [] → e'.told.items ≡ [])
  pub kept : (e'.reader ≡ e.reader) × (e'.held ≡ e.held) × (e'.stop ≡ e.stop) × (e'.at ≡ e.at)
