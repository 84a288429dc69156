-- What a reader has seen after the calls that are made with it under a shard's lock.
use Rattle.std.specs.Prelude.{◌≡◌, ◌≢◌, ◌⊎◌, ⊤, ℕ, ◌+◌, ◌-◌, ◌<◌, ◌≤◌, false, List, [], ◌∷◌, length, Bool, nat_lt, Option, Some, None}
use Rattle.std.specs.Option.{IfSome}
use mathlib.Core.List.{IsPrefix}
use Rattle.hk_base.specs.declared.call.CallNo.{CallNo}
use Rattle.hk_base.specs.declared.call.Op.{Op}
use Rattle.hk_base.specs.declared.call.Answer.{Answer}
use Rattle.hk_base.specs.declared.call.Reply.{Reply}
use Rattle.hk_node.specs.Calls.{lease_end}
use Rattle.hk_snap.specs.declared.local.Local.{Local}
use Rattle.hk_snap.specs.Locals.{local_of}
use Rattle.hk_snap.specs.Snapshots.{cell_of, last_shown}
use Rattle.hk_snap.specs.Ends.{End, at}
use Rattle.hk_snap.specs.Leases.{Lease, Looks as LooksAtLease}
use Rattle.hk_node.specs.declared.event.NodeEvent.TheVariants.{Call}
use Rattle.hk_node.specs.Stepped.{replies_of}
use Rattle.hk_node.specs.Steps.{node_step}
use Rattle.hk_shard.specs.Shard.{ShardState, IsApplied, checkpointed}
use Rattle.hk_journal.specs.declared.step_entry.JournalEntry.{JournalEntry}
use Rattle.hk_told.specs.declared.asks.AskState.{AskState}
use Rattle.hk_told.specs.declared.asks.AskState.TheVariants.{Gone, Waits, Told}
use Rattle.hk_told.specs.declared.ask.Ask.{Ask}
use Rattle.hk_told.specs.Held.{Asks, IsNewAsk, IsWith}
use Rattle.hk_told.specs.Kept.{asks_in, given_up, AreOthersSame}
use Rattle.hk_told.specs.Shown.{BeginsIn, Starts, Looks, LooksOn}
use Rattle.hk_locked.specs.declared.told.ToldAsks.{ToldAsks}
use Rattle.hk_locked.specs.declared.told.ToldAsks.TheVariants.{Nobody, One, Several}
use Rattle.hk_locked.specs.Locked.{LockedState, ReaderState, lists_in}

-- what the reader has seen of the key's cell
abbrev pub end_at : List ℕ → ReaderState → End
end_at key r = at r.cells.ends (cell_of key)

-- the same reader, which has seen as much of all other cells
pub record IsSameBut (key : List ℕ) (old new : ReaderState) : Type 0 where
  pub node : new.node ≡ old.node
  pub number : new.number ≡ old.number
  pub skew : new.skew ≡ old.skew
  pub others : (cell : ℕ) → cell ≢ cell_of key → at new.cells.ends cell ≡ at old.cells.ends cell

-- of the end and the clock that were seen of a lease cell neither falls
pub record IsLaterLease (old new : Lease) : Type 0 where
  pub name : new.name ≡ old.name
  pub end : old.end ≤ new.end
  pub now : old.now ≤ new.now
  pub loads : old.loads ≤ new.loads

-- what was seen of the key's cell begins with what had been seen of it
pub record IsGrown (key : List ℕ) (old new : ReaderState) : Type 0 where
  pub same : IsSameBut key old new
  pub seen : IsPrefix (end_at key old).seen (end_at key new).seen
  pub loads : (end_at key old).loads ≤ (end_at key new).loads
  pub lease : IsLaterLease old.lease new.lease

-- The reader is of this shard, and by one load of the key's cell has seen all that the shard published in it. The list begins with what it had seen.
pub record Meets (s : LockedState) (key : List ℕ) (old new : ReaderState) : Type 0 where
  pub node : old.node ≡ s.node
  pub number : old.number ≡ s.number
  pub skew : old.skew ≡ s.skew
  pub same : IsSameBut key old new
  pub lease : new.lease ≡ old.lease
  pub seen : (end_at key new).seen ≡ lists_in s.shard.ends key
  pub grown : IsPrefix (end_at key old).seen (end_at key new).seen
  pub loads : (end_at key new).loads ≡ (end_at key old).loads + 1

-- by one load of the lease cell the reader has seen the end of the shard's lease and its clock
pub record MeetsLease (s : LockedState) (old new : ReaderState) : Type 0 where
  pub node : new.node ≡ old.node
  pub number : new.number ≡ old.number
  pub skew : new.skew ≡ old.skew
  pub cells : new.cells ≡ old.cells
  pub end : new.lease.end ≡ lease_end s.shard.part
  pub now : new.lease.now ≡ s.shard.part.clock
  pub looked : LooksAtLease old.lease new.lease

-- By one load of the lease cell the reader has seen a clock that is not below this reading.
pub record Ticks (now : ℕ) (old new : ReaderState) : Type 0 where
  pub node : new.node ≡ old.node
  pub number : new.number ≡ old.number
  pub skew : new.skew ≡ old.skew
  pub cells : new.cells ≡ old.cells
  pub looked : LooksAtLease old.lease new.lease
  pub clock : now ≤ new.lease.now

-- by one load of the lease cell the reader has seen the end and the clock that it showed, and nothing of another cell
pub record SeesLease (old new : ReaderState) : Type 0 where
  pub node : new.node ≡ old.node
  pub number : new.number ≡ old.number
  pub skew : new.skew ≡ old.skew
  pub cells : new.cells ≡ old.cells
  pub looked : LooksAtLease old.lease new.lease

-- For so long a lease serves where clocks may differ by `skew`: its length, or what is left of it, without the skew. Of that less is left than has gone.
abbrev pub is_short : ℕ → ℕ → ℕ → ℕ → Bool
is_short length_of_lease skew end now = nat_lt (end - now - skew) (length_of_lease - skew - (end - now - skew))

-- A read of the key without the lock, by one load of its cell and one of the lease, at a reading of the clock: it is told by what was seen.
pub record Reads (key : List ℕ) (now : ℕ) (old new : ReaderState) (told : Local) : Type 0 where
  pub same : IsSameBut key old new
  pub seen : IsPrefix (end_at key old).seen (end_at key new).seen
  pub loads : (end_at key new).loads ≡ (end_at key old).loads + 1
  pub lease : LooksAtLease old.lease new.lease
  pub told_by : told ≡ local_of (last_shown (end_at key new).seen) key new.lease.end now new.skew

-- The journal is handed out, and begins anew, where it has so many entries at least; else nothing is.
abbrev pub Trims : ℕ → LockedState → LockedState → Option (List JournalEntry) → Type 0
Trims entries old new None = (length old.shard.journal < entries) × (new ≡ old)
Trims entries old new (Some journal) =
    (entries ≤ length old.shard.journal) × (journal ≡ old.shard.journal) × (new ≡ record old { shard = checkpointed old.shard })

-- the replies of a call's step, by the answer that it gave, if it did
abbrev pub replies_with : CallNo → Option Answer → List Reply
replies_with call None = []
replies_with call (Some answer) = record { call = call; answer = answer } ∷ []

-- whose asks replies tell
unfoldable pub told_asks : List Reply → ToldAsks
told_asks [] = Nobody
told_asks (reply ∷ []) = One reply.call
told_asks (reply ∷ other ∷ replies) = Several

-- the replies are that of the call alone, or none
abbrev pub AreOneOrNone : CallNo → List Reply → Type 0
AreOneOrNone call replies = (replies ≡ []) ⊎ ((answer : Answer) × (replies ≡ record { call = call; answer = answer } ∷ []))

-- The step of a call was made at a shard. It was answered at once, and the asks are the same; or its update has an ask.
pub record HasCalled (shard : ShardState) (asks : Asks) (ticket : ℕ) (call : CallNo) (key : List ℕ) (op : Op) (new : ShardState) (asks_after : Asks) (answer : Option Answer) : Type 0 where
  pub unasked : asks call ≡ None
  pub applied : IsApplied shard ticket (Call call key op) new
  pub told : replies_of (node_step shard.part (Call call key op)) ≡ replies_with call answer
  pub asked : ((answer ≢ None) × ((other : CallNo) → asks_after other ≡ asks other))
      ⊎ ((answer ≡ None) × ((ask : Ask) × IsNewAsk key ticket ask × IsWith call ask asks asks_after))

-- what the step of a call makes of the list of its key's cell, by whether it was answered at once
abbrev pub Begins : LockedState → LockedState → CallNo → List ℕ → ℕ → Op → Option Answer → Type 0
Begins old new call key ticket op answer = BeginsIn (lists_in old.shard.ends key) (lists_in new.shard.ends key) call key ticket op
    (lease_end old.shard.part) old.shard.part.clock old.skew (replies_with call answer)

-- A call begins in what the reader sees, by two loads of the key's cell, and one of the lease.
pub record StartsAt (old new : ReaderState) (call : CallNo) (key : List ℕ) (ticket : ℕ) (op : Op) (answer : Option Answer) : Type 0 where
  pub same : IsSameBut key old new
  pub lease : LooksAtLease old.lease new.lease
  pub starts : Starts (end_at key old) (end_at key new) call key ticket op new.lease.end new.lease.now new.skew (replies_with call answer)

-- by one load of the key's cell
pub record LooksOnce (key : List ℕ) (ticket : ℕ) (old new : ReaderState) (told : Option Answer) : Type 0 where
  pub same : IsSameBut key old new
  pub lease : new.lease ≡ old.lease
  pub looks : Looks (end_at key old) (end_at key new) key ticket told

-- the ask of the ticket was told this, or nothing; where there is no such ask, nothing is known
abbrev pub LooksFor : List ℕ → ℕ → ReaderState → ReaderState → AskState → Type 0
LooksFor key ticket old new Gone = ⊤
LooksFor key ticket old new Waits = LooksOnce key ticket old new None
LooksFor key ticket old new (Told answer) = LooksOnce key ticket old new (Some answer)

-- the same by so many loads of the key's cell
pub record LooksOften (turns : ℕ) (key : List ℕ) (ticket : ℕ) (old new : ReaderState) (told : Option Answer) : Type 0 where
  pub same : IsSameBut key old new
  pub lease : new.lease ≡ old.lease
  pub looks : LooksOn turns (end_at key old) (end_at key new) key ticket told

abbrev pub LooksOftenFor : ℕ → List ℕ → ℕ → ReaderState → ReaderState → AskState → Type 0
LooksOftenFor turns key ticket old new Gone = ⊤
LooksOftenFor turns key ticket old new Waits = LooksOften turns key ticket old new None
LooksOftenFor turns key ticket old new (Told answer) = LooksOften turns key ticket old new (Some answer)

-- no ask of this call and this key is kept that began under the ticket
abbrev pub HasNoAsk : CallNo → List ℕ → ℕ → LockedState → Type 0
HasNoAsk call key ticket s = (ask : Ask) → asks_in s.asks call ≡ Some ask → ask.key ≡ key → ask.ticket ≢ ticket

-- Nobody waits any more for what the call is told: its ask is gone where it was told something. Nothing else changes.
pub record GivesUp (call : CallNo) (old new : LockedState) : Type 0 where
  pub node : new.node ≡ old.node
  pub number : new.number ≡ old.number
  pub skew : new.skew ≡ old.skew
  pub shard : new.shard ≡ old.shard
  pub open_keys : new.open_keys ≡ old.open_keys
  pub left : asks_in new.asks call ≡ given_up (asks_in old.asks call)
  pub others : AreOthersSame call (asks_in old.asks) (asks_in new.asks)

-- nobody waits for what the call is told
abbrev pub IsLeft : CallNo → LockedState → Type 0
IsLeft call s = IfSome (asks_in s.asks call) (λ ask. ask.wanted ≡ false)
