-- Entries as bytes, and which of them may stand in a log.
use Rattle.std.specs.Prelude.{◌≡◌, ℕ, ◌<◌, ◌≤◌, ◌^◌, Bool, true, false, List, [], ◌∷◌, ◌++◌, length, All, ⊤}
use Rattle.std.specs.Int.{w16, w32, w64, to_be_bytes}
use Rattle.std.specs.List.{flat_map}
use Rattle.hk_base.specs.declared.letter.Actor.{Actor}
use Rattle.hk_base.specs.declared.letter.Actor.TheVariants.{Node, Manager}
use Rattle.hk_base.specs.declared.letter.Body.{Body}
use Rattle.hk_base.specs.declared.letter.Body.TheVariants.{Prepare, Promise, Accept, Accepted, Chosen}
use Rattle.hk_base.specs.declared.view.Change.{Change}
use Rattle.hk_base.specs.declared.view.Change.TheVariants.{Drop, Add}
use Rattle.hk_base.specs.Lengths.{IsInRange}
use Rattle.hk_frame.specs.Frames.{frame}
use Rattle.hk_frame.specs.Sendable.{IsLetterValue}
use Rattle.hk_fields.specs.Fields.{host_bytes, IsHostValue, actor_bytes, IsTicket}
use Rattle.hk_log.specs.declared.entry.Founding.{Founding}
use Rattle.hk_log.specs.declared.entry.Entry.{Entry}
use Rattle.hk_log.specs.declared.entry.Entry.TheVariants.{Founded, Open, Propose, Receive, Bound}

-- the number in 8 bytes, this host's place and how many hosts there are in 1 byte each, lease and skew in 4 each, and
-- the hosts' tickets
abbrev pub founding_bytes : Founding → List ℕ
founding_bytes f = to_be_bytes w64 f.number ++ (f.place ∷ length f.hosts ∷ (to_be_bytes w32 f.lease ++ (to_be_bytes w32 f.skew ++ flat_map host_bytes f.hosts)))

-- 0 and the node that is dropped; or 1 and 0
abbrev pub change_bytes : Change → List ℕ
change_bytes (Drop node) = 0 ∷ to_be_bytes w16 node.0
change_bytes Add = 1 ∷ to_be_bytes w16 0

abbrev pub entry_kind : Entry → ℕ
entry_kind (Founded founding) = 1
entry_kind Open = 2
entry_kind (Propose shard base change) = 3
entry_kind (Receive shard letter) = 4
entry_kind (Bound actor ticket) = 5

abbrev pub entry_fields : Entry → List ℕ
entry_fields (Founded founding) = founding_bytes founding
entry_fields Open = []
entry_fields (Propose shard base change) = shard ∷ (to_be_bytes w64 base ++ change_bytes change)
entry_fields (Receive shard letter) = frame shard letter
entry_fields (Bound actor ticket) = actor_bytes actor ++ ticket.0

-- the kind in 1 byte, and the fields
abbrev pub entry_bytes : Entry → List ℕ
entry_bytes entry = entry_kind entry ∷ entry_fields entry

-- ---- what the types keep

pub record IsFoundingValue (f : Founding) : Type 0 where
  pub number : f.number < 2 ^ 64
  pub place : f.place < 2 ^ 8
  pub lease : f.lease < 2 ^ 32
  pub skew : f.skew < 2 ^ 32
  pub hosts : All IsHostValue f.hosts

abbrev pub IsChangeValue : Change → Type 0
IsChangeValue (Drop node) = node.0 < 2 ^ 16
IsChangeValue Add = ⊤

abbrev pub IsActorValue : Actor → Type 0
IsActorValue (Node node) = node.0 < 2 ^ 16
IsActorValue (Manager manager) = manager < 2 ^ 8

abbrev pub IsEntryValue : Entry → Type 0
IsEntryValue (Founded founding) = IsFoundingValue founding
IsEntryValue Open = ⊤
IsEntryValue (Propose shard base change) = (base < 2 ^ 64) × IsChangeValue change
IsEntryValue (Receive shard letter) = IsLetterValue letter
IsEntryValue (Bound actor ticket) = IsActorValue actor × IsTicket ticket

-- ---- what may be logged

-- 1 to 9 hosts, of which this one is one; and a number that is not 0
pub record IsFounding (f : Founding) : Type 0 where
  pub number : 1 ≤ f.number
  pub place : f.place < length f.hosts
  pub few : length f.hosts ≤ 9

-- managers are 0 to 8
abbrev pub IsActorInRange : Actor → Type 0
IsActorInRange (Node node) = ⊤
IsActorInRange (Manager manager) = manager < 9

-- a letter of Paxos, by which managers agree on a view
abbrev pub is_of_paxos : Body → Bool
is_of_paxos (Prepare ballot) = true
is_of_paxos (Promise ballot vote) = true
is_of_paxos (Accept ballot view) = true
is_of_paxos (Accepted ballot) = true
is_of_paxos (Chosen view) = true
is_of_paxos body = false

abbrev pub IsEntryInRange : Entry → Type 0
IsEntryInRange (Founded founding) = IsFounding founding
IsEntryInRange Open = ⊤
IsEntryInRange (Propose shard base change) = shard < 8
IsEntryInRange (Receive shard letter) = (shard < 8) × IsInRange letter × (is_of_paxos letter.body ≡ true)
IsEntryInRange (Bound actor ticket) = IsActorInRange actor

pub record IsEntry (entry : Entry) : Type 0 where
  pub value : IsEntryValue entry
  pub range : IsEntryInRange entry
