-- What a step makes of a shard under its lock, and what is told of one as it stands.
use Rattle.std.specs.Prelude.{◌≡◌, ℕ, ◌<◌, false, List, Option}
use mathlib.Core.List.{IsPrefix}
use Rattle.hk_base.specs.declared.call.CallNo.{CallNo}
use Rattle.hk_base.specs.declared.call.Op.{Op}
use Rattle.hk_base.specs.declared.call.Answer.{Answer}
use Rattle.hk_base.specs.declared.letter.Letter.{Letter}
use Rattle.hk_node.specs.declared.event.NodeEvent.{NodeEvent}
use Rattle.hk_node.specs.declared.event.NodeEvent.TheVariants.{Call}
use Rattle.hk_node.specs.Index.{is_open_at}
use Rattle.hk_node.specs.Steps.{node_step}
use Rattle.hk_node.specs.Calls.{lease_end}
use Rattle.hk_shard.specs.Shard.{IsShard, IsApplied}
use Rattle.hk_due.specs.declared.due.Due.{Due}
use Rattle.hk_due.specs.Due.{due_of}
use Rattle.hk_due.specs.Keys.{Follows}
use Rattle.hk_told.specs.Kept.{asks_in}
use Rattle.hk_locked.specs.Places.{NodeNames}
use Rattle.hk_locked.specs.Locked.{LockedState, ReaderState, IsLocked, lists_in}
use Rattle.hk_locked.specs.Steps.{HasCalled, end_at}

-- what every shard under its lock keeps, and its journal and cells among themselves
pub record Stands (places : List NodeNames) (s : LockedState) : Type 0 where
  pub kept : IsLocked places s
  pub shard : IsShard s.shard

-- every row is Valid
abbrev pub IsQuiet : LockedState → Type 0
IsQuiet s = (key : List ℕ) → is_open_at s.shard.part.rows key ≡ false

-- what is to be sent again of the least key behind one, or of all, that is open since a step up to a ticket
abbrev pub due_in : Option (List ℕ) → ℕ → LockedState → Option Due
due_in after before s = due_of after before s.open_keys s.shard.part.rows

-- The step of an event was made, under a ticket above those of all before, and gave these letters. The keys of open rows follow it.
pub record Makes (ticket : ℕ) (event : NodeEvent) (letters : List Letter) (old new : LockedState) : Type 0 where
  pub node : new.node ≡ old.node
  pub number : new.number ≡ old.number
  pub skew : new.skew ≡ old.skew
  pub drawn : old.shard.last < ticket
  pub applied : IsApplied old.shard ticket event new.shard
  pub given : letters ≡ (node_step old.shard.part event).letters
  pub followed : Follows ticket old.shard.part.rows new.shard.part.rows old.open_keys new.open_keys

-- So of the step of a call: it was answered at once, or its update has an ask.
pub record MakesCall (ticket : ℕ) (call : CallNo) (key : List ℕ) (op : Op) (letters : List Letter) (answer : Option Answer) (old new : LockedState) : Type 0 where
  pub made : Makes ticket (Call call key op) letters old new
  pub called : HasCalled old.shard (asks_in old.asks) ticket call key op new.shard (asks_in new.asks) answer

-- The call was made at the reader's shard. By a load of the key's cell on either side of the step the reader has seen all that stood in it, and by one of the lease, before
-- the step, its end and its clock.
pub record CallsAt (places : List NodeNames) (s t : LockedState) (old new : ReaderState) (ticket : ℕ) (call : CallNo) (key : List ℕ) (op : Op) (letters : List Letter) (answer : Option Answer) : Type 0 where
  pub stood : Stands places s
  pub stands : Stands places t
  pub node : old.node ≡ s.node
  pub number : old.number ≡ s.number
  pub made : MakesCall ticket call key op letters answer s t
  pub before : IsPrefix (end_at key old).seen (lists_in s.shard.ends key)
  pub after : (end_at key new).seen ≡ lists_in t.shard.ends key
  pub end : new.lease.end ≡ lease_end s.shard.part
  pub clock : new.lease.now ≡ s.shard.part.clock
