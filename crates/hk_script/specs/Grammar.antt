-- The grammar of a script: the one line of each event, and of each header. Words are parted by one space.
use Rattle.std.specs.Prelude.{◌≡◌, ℕ, ◌<◌, ◌≤◌, ◌^◌, List, [], ◌∷◌, codes, decimal, ⊤}
use Rattle.std.specs.List.{join_with_byte, AllByRecursion}
use Rattle.hk_base.specs.declared.call.Content.{Content}
use Rattle.hk_base.specs.declared.call.Op.{Op}
use Rattle.hk_base.specs.declared.call.Op.TheVariants.{Read, Write, Cas, Incr, Decr, Replace, Delete}
use Rattle.hk_base.specs.declared.call.Op.TheVariants as operation
use Rattle.hk_base.specs.declared.stamp.NodeId.{NodeId}
use Rattle.hk_base.specs.declared.time.TheConstants.{MAX_TIME}
use Rattle.hk_base.specs.declared.view.Change.{Change}
use Rattle.hk_base.specs.declared.view.Change.TheVariants.{Drop, Add}
use Rattle.hk_base.specs.declared.letter.Actor.{Actor}
use Rattle.hk_base.specs.declared.letter.Actor.TheVariants.{Node, Manager}
use Rattle.hk_base.specs.Key.{IsKey, IsData}
use Rattle.hk_base.specs.Range.{IsRoom}
use Rattle.hk_event.specs.declared.event.Header.{Header}
use Rattle.hk_event.specs.declared.event.Event.{Event}
use Rattle.hk_event.specs.declared.event.Event.TheVariants.{Call, Take, Tick, TickAll, Crash, Resend, Replay, Copy, Start, Agree, Install, Lease, AskLease, Propose, Activate}
use Rattle.hk_script.specs.Words.{word_of, actor_word}

-- ---- the words
abbrev pub op_words : List ℕ → Op → List (List ℕ)
op_words key Read = codes "get" ∷ word_of key ∷ []
op_words key (Write c) = codes "set" ∷ word_of key ∷ decimal c.flags ∷ word_of c.bytes ∷ []
op_words key (Cas tag c) = codes "cas" ∷ word_of key ∷ decimal c.flags ∷ word_of c.bytes ∷ decimal tag ∷ []
op_words key (Incr by) = codes "incr" ∷ word_of key ∷ decimal by ∷ []
op_words key (Decr by) = codes "decr" ∷ word_of key ∷ decimal by ∷ []
op_words key (operation.Add c) = codes "add" ∷ word_of key ∷ decimal c.flags ∷ word_of c.bytes ∷ []
op_words key (Replace c) = codes "replace" ∷ word_of key ∷ decimal c.flags ∷ word_of c.bytes ∷ []
op_words key Delete = codes "delete" ∷ word_of key ∷ []

abbrev pub change_words : Change → List (List ℕ)
change_words (Drop id) = codes "drop" ∷ decimal id.0 ∷ []
change_words Add = codes "add" ∷ []

abbrev pub event_words : Event → List (List ℕ)
event_words (Call id key op) = codes "call" ∷ decimal id.0 ∷ op_words key op
event_words (Take letter) = codes "take" ∷ decimal letter ∷ []
event_words (Tick actor to) = codes "tick" ∷ actor_word actor ∷ decimal to ∷ []
event_words (TickAll to) = codes "tick" ∷ codes "all" ∷ decimal to ∷ []
event_words (Crash actor) = codes "crash" ∷ actor_word actor ∷ []
event_words (Resend id key) = codes "resend" ∷ decimal id.0 ∷ word_of key ∷ []
event_words (Replay id key) = codes "replay" ∷ decimal id.0 ∷ word_of key ∷ []
event_words (Copy id from room) = codes "copy" ∷ decimal id.0 ∷ decimal from.0 ∷ decimal room ∷ []
event_words (Start id) = codes "start" ∷ decimal id.0 ∷ []
event_words (Agree change) = codes "agree" ∷ change_words change
event_words (Install id epoch) = codes "install" ∷ decimal id.0 ∷ decimal epoch ∷ []
event_words (Lease id end) = codes "lease" ∷ decimal id.0 ∷ decimal end ∷ []
event_words (AskLease id manager) = codes "asklease" ∷ decimal id.0 ∷ actor_word (Manager manager) ∷ []
event_words (Propose manager base change) = codes "propose" ∷ actor_word (Manager manager) ∷ decimal base ∷ change_words change
event_words (Activate manager) = codes "activate" ∷ actor_word (Manager manager) ∷ []

abbrev pub header_words : Header → List (List ℕ)
header_words h = codes "group" ∷ decimal h.nodes ∷ codes "managers" ∷ decimal h.managers ∷ codes "lease" ∷ decimal h.lease ∷ codes "skew" ∷ decimal h.skew ∷ []

abbrev pub event_line : Event → List ℕ
event_line event = join_with_byte 32 (event_words event)

abbrev pub header_line : Header → List ℕ
header_line h = join_with_byte 32 (header_words h)

-- ---- the limits
-- nodes are 0 to 65,535, managers 0 to 8; letters, epochs, tags and values have 64 bits
abbrev pub IsNodeNo : NodeId → Type 0
IsNodeNo id = id.0 < 65536

abbrev pub IsActorNo : Actor → Type 0
IsActorNo (Node id) = IsNodeNo id
IsActorNo (Manager m) = m < 9

abbrev pub IsNumber : ℕ → Type 0
IsNumber n = n < 2 ^ 64

abbrev pub IsChange : Change → Type 0
IsChange (Drop id) = IsNodeNo id
IsChange Add = ⊤

pub record IsContent (c : Content) : Type 0 where
  pub flags_fit : c.flags < 2 ^ 32
  pub is_data : IsData c.bytes
  pub each : AllByRecursion (λ b. b < 256) c.bytes

abbrev pub IsOp : Op → Type 0
IsOp Read = ⊤
IsOp (Write c) = IsContent c
IsOp (Cas tag c) = IsNumber tag × IsContent c
IsOp (Incr by) = IsNumber by
IsOp (Decr by) = IsNumber by
IsOp (operation.Add c) = IsContent c
IsOp (Replace c) = IsContent c
IsOp Delete = ⊤

pub record IsKeyBytes (key : List ℕ) : Type 0 where
  pub is_key : IsKey key
  pub each : AllByRecursion (λ b. b < 256) key

abbrev pub IsWritten : Event → Type 0
IsWritten (Call id key op) = IsNodeNo id × IsKeyBytes key × IsOp op
IsWritten (Take letter) = IsNumber letter
IsWritten (Tick actor to) = IsActorNo actor × (to ≤ MAX_TIME)
IsWritten (TickAll to) = to ≤ MAX_TIME
IsWritten (Crash actor) = IsActorNo actor
IsWritten (Resend id key) = IsNodeNo id × IsKeyBytes key
IsWritten (Replay id key) = IsNodeNo id × IsKeyBytes key
IsWritten (Copy id from room) = IsNodeNo id × IsNodeNo from × IsRoom room
IsWritten (Start id) = IsNodeNo id
IsWritten (Agree change) = IsChange change
IsWritten (Install id epoch) = IsNodeNo id × IsNumber epoch
IsWritten (Lease id end) = IsNodeNo id × (end ≤ MAX_TIME)
IsWritten (AskLease id manager) = IsNodeNo id × (manager < 9)
IsWritten (Propose manager base change) = (manager < 9) × IsNumber base × IsChange change
IsWritten (Activate manager) = manager < 9

-- 1 to 16 founders, 9 managers at most; times within the limit
pub record IsHeaderWritten (h : Header) : Type 0 where
  pub some : 1 ≤ h.nodes
  pub few : h.nodes ≤ 16
  pub managers : h.managers ≤ 9
  pub lease : h.lease ≤ MAX_TIME
  pub skew : h.skew ≤ MAX_TIME

-- ---- what a line is
pub record IsEventLine (line : List ℕ) (event : Event) : Type 0 where
  pub written : IsWritten event
  pub line_is : line ≡ event_line event

pub record IsHeaderLine (line : List ℕ) (h : Header) : Type 0 where
  pub written : IsHeaderWritten h
  pub line_is : line ≡ header_line h
