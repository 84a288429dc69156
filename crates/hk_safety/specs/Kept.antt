-- What a run keeps beside its events: the present world, and for each key its history and, by stamp, its update, the event that
-- completed it or who covered it so far, and the calls that found it. So nothing is searched in the events again.
use Rattle.std.specs.Prelude.{◌≡◌, ℕ, ◌+◌, ◌≤◌, List, [], ◌∷◌, ◌++◌, map, length, true, false, Bool, Option, None, Some, unwrap_or, ◌==◌, ◌&&◌, if◌then◌else◌}
use Rattle.std.specs.List.{find, flat_map, list_any}
use Rattle.std.specs.Option.{option_map}
use Rattle.std.specs.Ordering.{nat_cmp}
use Rattle.std.specs.BTreeMap.{is_at}
use Rattle.std.specs.Map.{lookup, keys_of}
use Rattle.hk_base.specs.declared.stamp.NodeId.{NodeId}
use Rattle.hk_base.specs.declared.call.CallNo.{CallNo}
use Rattle.hk_copy.specs.Batches.{key_cmp}
use Rattle.hk_history.specs.declared.event.Event.{Event as HistoryEvent}
use Rattle.hk_history.specs.declared.event.Entry.{Entry}
use Rattle.hk_register.specs.Machine.{In, Mark, Update, Item, RegisterState}
use Rattle.hk_register.specs.Machine.Item.{Called, Answered, Dropped, ReadOnly, Rejected}
use Rattle.hk_register.specs.Facts.{Complete}
use Rattle.hk_register.specs.Printed.{is_mark}
use Rattle.hk_world.specs.World.{WorldState}
use Rattle.hk_event.specs.declared.event.Event.{Event}
use Rattle.hk_event.specs.declared.event.Event.TheVariants.{Call}
use Rattle.hk_effects.specs.Projection.{Trace, project}
use Rattle.hk_effects.specs.Orders.{family, history_of}
use Rattle.hk_safety.specs.declared.evidence.Group.{Group}
use Rattle.hk_safety.specs.declared.evidence.Evidence.{Evidence}
use Rattle.hk_safety.specs.declared.evidence.Evidence.TheVariants.{Covers}
use Rattle.hk_safety.specs.declared.evidence.Evidence.TheVariants as Evidence
use Rattle.hk_safety.specs.declared.key_run.AtStamp.{AtStamp}
use Rattle.hk_safety.specs.declared.key_run.ReadOnlyCall.{ReadOnlyCall}
use Rattle.hk_safety.specs.Run.{RunState, world_of, trace_of, named}
use Rattle.hk_safety.specs.Moment.{completed_at, replied_at}

-- ---- one key
-- its history, the first item first, and what is kept of each stamp, by tag
pub record KeyState : Type 0 where
  pub items : List HistoryEvent
  pub stamps : List (ℕ × AtStamp)

-- who covered a stamp, by epoch
abbrev pub Groups : Type 0
Groups = List (ℕ × Group)

abbrev pub no_group : Group
no_group = record { nodes = []; ready = false }

abbrev pub group_at : ℕ → Groups → Group
group_at e groups = unwrap_or (lookup (is_at (nat_cmp e)) groups) no_group

abbrev pub is_among : ℕ → List NodeId → Bool
is_among n nodes = list_any (λ m. n == m.0) nodes

abbrev pub nobody : Evidence
nobody = Covers []

abbrev pub no_stamp : AtStamp
no_stamp = record { update = None; evidence = nobody; read_only = [] }

abbrev pub at_stamp : ℕ → KeyState → AtStamp
at_stamp s k = unwrap_or (lookup (is_at (nat_cmp s)) k.stamps) no_stamp

-- the calls that found the stamp and changed nothing, the first one first, of items that are newest first
abbrev pub looks_at : ℕ → List Item → List CallNo
looks_at s [] = []
looks_at s (ReadOnly c t op held a ∷ items) = looks_at s items ++ (if t == s then record { 0 = c } ∷ [] else [])
looks_at s (Called c t op ∷ items) = looks_at s items
looks_at s (Answered c t a ∷ items) = looks_at s items
looks_at s (Dropped c t a ∷ items) = looks_at s items
looks_at s (Rejected c op a ∷ items) = looks_at s items

abbrev pub call_of : Update → CallNo
call_of u = record { 0 = u.call }

-- the call that began the update of a stamp
abbrev pub update_at : ℕ → List Update → Option CallNo
update_at s begun = option_map call_of (find (λ u. u.stamp == s) begun)

-- a mark says that the node covered the stamp in the epoch; that a node did so when it was ready
abbrev pub covers_in : List Mark → ℕ → ℕ → ℕ → Bool
covers_in marks s n e = list_any (is_mark n e s) marks

abbrev pub is_ready_mark : ℕ → ℕ → Mark → Bool
is_ready_mark e s k = k.ready && ((k.epoch == e) && (k.stamp == s))

abbrev pub ready_in : List Mark → ℕ → ℕ → Bool
ready_in marks s e = list_any (is_ready_mark e s) marks

-- the groups of a stamp are just those that the marks tell
pub record AreToldBy (marks : List Mark) (s : ℕ) (groups : Groups) : Type 0 where
  pub nodes : (n e : ℕ) → is_among n (group_at e groups).nodes ≡ covers_in marks s n e
  pub ready : (e : ℕ) → (group_at e groups).ready ≡ ready_in marks s e

-- An update is kept as complete just where it is; until then there is who covered it.
abbrev pub IsKnown : (ℕ → List ℕ) → RegisterState → ℕ → Evidence → Type 0
IsKnown V st s (Evidence.Complete event) = Complete V st s
IsKnown V st s (Covers groups) = (Complete V st s → ⊥) × AreToldBy st.marks s groups

abbrev pub calls_in : List ReadOnlyCall → List CallNo
calls_in read_only = map (λ l. l.call) read_only

-- What is kept is what the trace of the key has. Whether a cover was exact is not kept: no order asks it. Nor is who covered the stamp of no
-- update.
pub record IsKeyOf (key : List ℕ) (k : KeyState) (t : Trace) : Type 0 where
  pub items : k.items ≡ history_of t
  pub update : (s : ℕ) → (at_stamp s k).update ≡ update_at s t.begun
  pub read_only : (s : ℕ) → calls_in (at_stamp s k).read_only ≡ looks_at s t.history
  pub known : (s : ℕ) → 1 ≤ s → IsKnown (family t.world.views) (project key t) s (at_stamp s k).evidence

-- ---- its events
-- An update is kept with the event that completed it; where none did, its place is behind all moments.
abbrev pub IsSince : RunState → List ℕ → ℕ → Evidence → Type 0
IsSince run key s (Evidence.Complete event) = (completed_at run key s ≡ event) × (event ≤ length run.events)
IsSince run key s (Covers groups) = completed_at run key s ≡ length run.events + 1

-- and a read-only call with the event that replied to it
abbrev pub IsRepliedAt : RunState → List ℕ → ReadOnlyCall → Type 0
IsRepliedAt run key l = (replied_at run key l.call.0 ≡ l.event) × (l.event ≤ length run.events)

pub record HasEvents (run : RunState) (key : List ℕ) (k : KeyState) : Type 0 where
  pub since : (s : ℕ) → 1 ≤ s → IsSince run key s (at_stamp s k).evidence
  pub replied : (s : ℕ) (l : ReadOnlyCall) → In (at_stamp s k).read_only l → IsRepliedAt run key l

-- ---- all keys
abbrev pub Keys : Type 0
Keys = List (List ℕ × KeyState)

abbrev pub first_key : KeyState
first_key = record { items = []; stamps = [] }

abbrev pub find_key : List ℕ → Keys → Option KeyState
find_key key keys = lookup (is_at (key_cmp key)) keys

-- a key that no call named has nothing
abbrev pub key_at : List ℕ → Keys → KeyState
key_at key keys = unwrap_or (find_key key keys) first_key

-- the keys of the calls, the first call's first
abbrev pub called_from : List Event → List (List ℕ)
called_from [] = []
called_from (Call id key op ∷ events) = key ∷ called_from events
called_from (event ∷ events) = called_from events

pub record KeptState : Type 0 where
  pub world : WorldState
  pub keys : Keys
  pub calls : List (List ℕ)

pub record IsKeptOf (k : KeptState) (run : RunState) : Type 0 where
  pub world : k.world ≡ world_of run
  pub calls : k.calls ≡ called_from run.events
  pub keys : keys_of k.keys ≡ named run
  pub each : (key : List ℕ) → IsKeyOf key (key_at key k.keys) (trace_of key run)
  pub events : (key : List ℕ) → HasEvents run key (key_at key k.keys)

-- ---- the order, by what is kept
abbrev pub is_complete : Evidence → Bool
is_complete (Evidence.Complete event) = true
is_complete (Covers groups) = false

abbrev pub update_entry : Bool → ℕ → Option CallNo → List Entry
update_entry complete s None = []
update_entry complete s (Some call) = if complete then record { call = call; tag = Some s } ∷ [] else []

abbrev pub look_entry : ReadOnlyCall → Entry
look_entry look = record { call = look.call; tag = None }

-- the update of a stamp, if it is complete, and the calls that found it
abbrev pub entries_at : ℕ × AtStamp → List Entry
entries_at p = update_entry (is_complete p.1.evidence) p.0 p.1.update ++ map look_entry p.1.read_only

abbrev pub kept_order : KeyState → List Entry
kept_order k = flat_map entries_at k.stamps
