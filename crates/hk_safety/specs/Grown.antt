-- What each part of the code adds to what is kept.
use Rattle.std.specs.Prelude.{◌≡◌, ℕ, ◌≤◌, List, [], ◌∷◌, ◌++◌, true, false, Bool, not, ◌==◌, ◌&&◌, ◌||◌, nat_lt, if◌then◌else◌}
use Rattle.std.specs.Prelude.{Option, None, Some, unwrap_or, is_some, IfSome, Result, Ok, Err, ⊤}
use Rattle.std.specs.List.{find, flat_map, list_all, AllByRecursion}
use Rattle.std.specs.Ordering.{nat_cmp}
use Rattle.std.specs.BTreeMap.{is_at}
use Rattle.std.specs.Map.{lookup, keys_of}
use Rattle.hk_base.specs.declared.stamp.NodeId.{NodeId}
use Rattle.hk_base.specs.declared.call.CallNo.{CallNo}
use Rattle.hk_base.specs.declared.call.Op.{Op}
use Rattle.hk_base.specs.declared.call.Reply.{Reply}
use Rattle.hk_base.specs.declared.letter.Body.{Body}
use Rattle.hk_base.specs.declared.letter.Body.TheVariants as Body
use Rattle.hk_base.specs.declared.letter.Letter.{Letter}
use Rattle.hk_base.specs.declared.view.View.{View}
use Rattle.hk_base.specs.Range.{IsWithin}
use Rattle.hk_base.specs.Stamp.{tag_of}
use Rattle.hk_base.specs.View.{member_numbers}
use Rattle.hk_history.specs.declared.event.Event.{Event as HistoryEvent}
use Rattle.hk_history.specs.declared.event.Event.TheVariants as HistoryEvent
use Rattle.hk_history.specs.History.{is_void}
use Rattle.hk_key.specs.declared.row.Pending.{Pending}
use Rattle.hk_key.specs.declared.row.Row.{Row}
use Rattle.hk_register.specs.Machine.{In, Mark}
use Rattle.hk_register.specs.Runs.{is_in}
use Rattle.hk_node.specs.declared.report.PriorRow.{PriorRow}
use Rattle.hk_node.specs.Rows.{row_at}
use Rattle.hk_node.specs.Copies.{is_valid}
use Rattle.hk_node.specs.Node.{NodeState}
use Rattle.hk_event.specs.declared.event.Event.{Event}
use Rattle.hk_event.specs.declared.event.Event.TheVariants.{Call}
use Rattle.hk_world.specs.World.{WorldState}
use Rattle.hk_world.specs.declared.shown.Shown.{Shown}
use Rattle.hk_world.specs.declared.shown.Acted.{Acted}
use Rattle.hk_world.specs.Steps.{Accepted, world_step}
use Rattle.hk_effects.specs.Projection.{key_node, node_at, is_same_key}
use Rattle.hk_safety.specs.declared.evidence.Cover.{Cover}
use Rattle.hk_safety.specs.declared.evidence.Group.{Group}
use Rattle.hk_safety.specs.declared.evidence.Evidence.{Evidence}
use Rattle.hk_safety.specs.declared.evidence.Evidence.TheVariants.{Covers}
use Rattle.hk_safety.specs.declared.evidence.Evidence.TheVariants as Evidence
use Rattle.hk_safety.specs.declared.key_run.AtStamp.{AtStamp}
use Rattle.hk_safety.specs.declared.key_run.ReadOnlyCall.{ReadOnlyCall}
use Rattle.hk_safety.specs.declared.key_run.CallEffect.{CallEffect}
use Rattle.hk_safety.specs.declared.kept.StepError.{StepError}
use Rattle.hk_safety.specs.declared.kept.StepError.TheVariants.{Memory, Refused, Lost}
use Rattle.hk_safety.specs.Run.{with_key}
use Rattle.hk_safety.specs.Shows.{lines_at}
use Rattle.hk_safety.specs.Kept.{KeyState, Keys, KeptState, Groups, group_at, is_among, covers_in, ready_in, AreToldBy, at_stamp, no_stamp, find_key, key_at, called_from}

-- ---- evidence
-- a node more
pub record IsNodeAdded (old new : Group) (c : Cover) : Type 0 where
  pub nodes : (n : ℕ) → is_among n new.nodes ≡ (n == c.node.0) || is_among n old.nodes
  pub ready : new.ready ≡ old.ready || c.ready

-- each of these covered the stamp, and one node was ready
abbrev pub is_whole : Group → List NodeId → Bool
is_whole group members = group.ready && list_all (λ m. is_among m.0 group.nodes) members

-- in the group of one epoch
pub record IsGroupPut (old new : Groups) (e : ℕ) (c : Cover) : Type 0 where
  pub here : IsNodeAdded (group_at e old) (group_at e new) c
  pub there : (f : ℕ) → (f == e) ≡ false → group_at f new ≡ group_at f old

-- all members of the view covered the stamp in its epoch, one of them when it was ready
abbrev pub completes : Groups → View → Bool
completes groups v = is_whole (group_at v.epoch groups) v.members

-- what is known once a node has covered the stamp in the view's epoch
abbrev pub IsShown : Evidence → Evidence → View → Cover → Type 0
IsShown (Evidence.Complete event) new v c = new ≡ Evidence.Complete event
IsShown (Covers old) (Evidence.Complete event) v c = (put : Groups) × IsGroupPut old put v.epoch c × (completes put v ≡ true) × (event ≡ c.event)
IsShown (Covers old) (Covers new) v c = IsGroupPut old new v.epoch c × (completes new v ≡ false)

-- ---- what evidence tells of some marks
-- by these marks all members of a view covered the stamp, one of them when it was ready
abbrev pub CompleteBy : (ℕ → List ℕ) → List Mark → ℕ → Type 0
CompleteBy V marks s = (e : ℕ) × (ready_in marks s e ≡ true) × (list_all (λ n. covers_in marks s n e) (V e) ≡ true)

abbrev pub IsKnownBy : (ℕ → List ℕ) → List Mark → ℕ → Evidence → Type 0
IsKnownBy V marks s (Evidence.Complete event) = CompleteBy V marks s
IsKnownBy V marks s (Covers groups) = (CompleteBy V marks s → ⊥) × AreToldBy marks s groups

abbrev pub mark_by : Cover → View → ℕ → Mark
mark_by c v s = record { who = c.node.0; epoch = v.epoch; stamp = s; exact = false; ready = c.ready }

abbrev pub with_mark : Bool → Mark → List Mark → List Mark
with_mark b m marks = if b then m ∷ marks else marks

-- ---- what event n makes of the events that are kept
-- what is complete stays so, and what becomes complete does so at this event
abbrev pub IsSinceThen : ℕ → Evidence → Evidence → Type 0
IsSinceThen n (Evidence.Complete event) new = new ≡ Evidence.Complete event
IsSinceThen n (Covers old) (Evidence.Complete event) = event ≡ n
IsSinceThen n (Covers old) (Covers new) = ⊤

-- read-only calls more, which were answered at this event
pub record AreLooked (n : ℕ) (old new : List ReadOnlyCall) : Type 0 where
  pub more : List ReadOnlyCall
  pub same : new ≡ old ++ more
  pub here : (l : ReadOnlyCall) → In more l → l.event ≡ n

pub record GoesAt (n : ℕ) (old new : KeyState) : Type 0 where
  pub since : (s : ℕ) → IsSinceThen n (at_stamp s old).evidence (at_stamp s new).evidence
  pub looked : (s : ℕ) → AreLooked n (at_stamp s old).read_only (at_stamp s new).read_only

-- ---- stamps
abbrev pub Stamps : Type 0
Stamps = List (ℕ × AtStamp)

abbrev pub stamp_in : ℕ → Stamps → AtStamp
stamp_in s stamps = unwrap_or (lookup (is_at (nat_cmp s)) stamps) no_stamp

-- at no other stamp anything changes
abbrev pub OthersStay : ℕ → Stamps → Stamps → Type 0
OthersStay s old new = (t : ℕ) → (t == s) ≡ false → stamp_in t new ≡ stamp_in t old

-- a cover more at one stamp
pub record IsCoveredAt (old new : Stamps) (s : ℕ) (v : View) (c : Cover) : Type 0 where
  pub update : (stamp_in s new).update ≡ (stamp_in s old).update
  pub read_only : (stamp_in s new).read_only ≡ (stamp_in s old).read_only
  pub shown : IsShown (stamp_in s old).evidence (stamp_in s new).evidence v c
  pub there : OthersStay s old new

-- the call that began the update of the stamp
pub record IsBegunAt (old new : Stamps) (s : ℕ) (call : CallNo) : Type 0 where
  pub here : stamp_in s new ≡ record (stamp_in s old) { update = Some call }
  pub there : OthersStay s old new

-- a call that found the stamp, behind the others
pub record IsLookedAt (old new : Stamps) (s : ℕ) (look : ReadOnlyCall) : Type 0 where
  pub here : stamp_in s new ≡ record (stamp_in s old) { read_only = (stamp_in s old).read_only ++ look ∷ [] }
  pub there : OthersStay s old new

-- ---- a key's covers
-- The node covers the stamps of these tags, but 0, in the view's epoch: whatever marks told what was known, these and its own tell what is
-- known now.
pub record IsCovered (v : View) (c : Cover) (old new : KeyState) (tags : List ℕ) : Type 0 where
  pub items : new.items ≡ old.items
  pub update : (s : ℕ) → (at_stamp s new).update ≡ (at_stamp s old).update
  pub read_only : (s : ℕ) → (at_stamp s new).read_only ≡ (at_stamp s old).read_only
  pub known : (V : ℕ → List ℕ) → member_numbers v.members ≡ V v.epoch → (marks : List Mark) (s : ℕ) → 1 ≤ s →
      IsKnownBy V marks s (at_stamp s old).evidence → IsKnownBy V (with_mark (is_in s tags) (mark_by c v s) marks) s (at_stamp s new).evidence
  pub since : (s : ℕ) → IsSinceThen c.event (at_stamp s old).evidence (at_stamp s new).evidence

-- ---- the covers of all keys: a touch is a key and the tag of a stamp
abbrev pub Touch : Type 0
Touch = List ℕ × ℕ

abbrev pub tags_at : List ℕ → List Touch → List ℕ
tags_at key [] = []
tags_at key (t ∷ touches) = if is_same_key key t.0 then t.1 ∷ tags_at key touches else tags_at key touches

pub record AreCovered (v : View) (c : Cover) (old new : Keys) (touches : List Touch) : Type 0 where
  pub keys : keys_of new ≡ keys_of old
  pub there : (key : List ℕ) → is_some (find_key key new) ≡ is_some (find_key key old)
  pub each : (key : List ℕ) → is_some (find_key key old) ≡ true → IsCovered v c (key_at key old) (key_at key new) (tags_at key touches)

-- what waits, and what a row has and what waits there
abbrev pub wait_touches : List ℕ → Option Pending → List Touch
wait_touches key None = []
wait_touches key (Some p) = (key, tag_of p.stamp) ∷ []

abbrev pub row_touches : List ℕ → Row → List Touch
row_touches key row = (key, tag_of row.stamp) ∷ wait_touches key row.pending

abbrev pub touches_now : NodeState → List ℕ → List Touch
touches_now x key = row_touches key (row_at key x.rows)

abbrev pub prior_waits : List ℕ → Option Row → List Touch
prior_waits key None = []
prior_waits key (Some row) = wait_touches key row.pending

-- of a changed row: where the epoch rose, what waited in the prior row counts in the new epoch too
abbrev pub changed_touches : NodeState → Bool → PriorRow → List Touch
changed_touches x rose f = touches_now x f.key ++ (if rose then prior_waits f.key f.row else [])

abbrev pub ack_touches : Body → List Touch
ack_touches (Body.Ack key s top) = (key, tag_of s) ∷ []
ack_touches body = []

abbrev pub letter_touches : Letter → List Touch
letter_touches letter = ack_touches letter.body

abbrev pub has_risen : Acted → View → Bool
has_risen acted v = nat_lt acted.report.epoch v.epoch

-- Where a node installed a view or became ready, its open rows are looked at too.
abbrev pub has_moved : Acted → View → Bool
has_moved acted v = has_risen acted v || acted.report.readied

-- a row that is not Valid is open
abbrev pub is_open : List ℕ → NodeState → Bool
is_open key x = not (is_valid (row_at key x.rows).state)

pub record AreOpenCovered (v : View) (c : Cover) (old new : Keys) (x : NodeState) (moved : Bool) : Type 0 where
  pub seen : List (List ℕ)
  pub all : moved ≡ true → (key : List ℕ) → is_open key x ≡ true → In seen key
  pub covered : AreCovered v c old new (flat_map (touches_now x) seen)

abbrev pub cover_by : ℕ → Acted → NodeState → Cover
cover_by n acted x = record { node = acted.node; ready = x.ready; event = n }

-- all that event n covers, one after the other
pub record AreTouched (n : ℕ) (old new : Keys) (x : NodeState) (v : View) (acted : Acted) (letters : List Letter) : Type 0 where
  pub changed : Keys
  pub opened : Keys
  pub of_changed : AreCovered v (cover_by n acted x) old changed (flat_map (changed_touches x (has_risen acted v)) acted.report.rows)
  pub of_open : AreOpenCovered v (cover_by n acted x) changed opened x (has_moved acted v)
  pub of_acks : AreCovered v (cover_by n acted x) opened new (flat_map letter_touches letters)

abbrev pub AreTouchedIn : ℕ → Option View → Keys → Keys → NodeState → Acted → List Letter → Type 0
AreTouchedIn n None old new x acted letters = new ≡ old
AreTouchedIn n (Some v) old new x acted letters = AreTouched n old new x v acted letters

abbrev pub AreTouchedBy : ℕ → Option NodeState → Keys → Keys → Acted → List Letter → Type 0
AreTouchedBy n None old new acted letters = new ≡ old
AreTouchedBy n (Some x) old new acted letters = AreTouchedIn n x.view old new x acted letters

abbrev pub AreTouchedAt : ℕ → Option Acted → Keys → Keys → WorldState → List Letter → Type 0
AreTouchedAt n None old new w letters = new ≡ old
AreTouchedAt n (Some acted) old new w letters = AreTouchedBy n (node_at acted.node.0 w.processes) old new acted letters

-- the stamps of what waited in the prior rows are within the limit
abbrev pub IsPrior : PriorRow → Type 0
IsPrior f = IfSome f.row (λ row. IsWithin row.stamp × IfSome row.pending (λ p. IsWithin p.stamp))

abbrev pub ArePrior : Option Acted → Type 0
ArePrior acted = IfSome acted (λ a. AllByRecursion IsPrior a.report.rows)

-- ---- items
-- by whether the call begins an update, and whether it is answered
abbrev pub IsTurned : Bool → Bool → Stamps → Stamps → ℕ → CallNo → ℕ → Type 0
IsTurned true answered old new s call n = IsBegunAt old new s call
IsTurned false true old new s call n = IsLookedAt old new s (record { call = call; event = n })
IsTurned false false old new s call n = new ≡ old

pub record IsTaken (old new : KeyState) (turn : CallEffect) (op : Op) : Type 0 where
  pub items : new.items ≡ old.items ++ HistoryEvent.Call turn.call op ∷ []
  pub stamps : IsTurned turn.began turn.answered old.stamps new.stamps turn.tag turn.call turn.event

-- the call stands in the items of its key, which is kept from then on
pub record IsNamed (old new : Keys) (key : List ℕ) (turn : CallEffect) (op : Op) : Type 0 where
  pub keys : keys_of new ≡ with_key key (keys_of old)
  pub there : (q : List ℕ) → is_some (find_key q new) ≡ (if is_same_key q key then true else is_some (find_key q old))
  pub here : IsTaken (key_at key old) (key_at key new) turn op
  pub others : (q : List ℕ) → is_same_key q key ≡ false → key_at q new ≡ key_at q old

-- whether the first reply did not refuse its call
abbrev pub is_answer : List Reply → Bool
is_answer [] = false
is_answer (r ∷ replies) = not (is_void (Some r.answer))

abbrev pub with_lines : KeyState → List HistoryEvent → KeyState
with_lines k lines = record { items = k.items ++ lines; stamps = k.stamps }

-- lines behind the items of the keys, and nothing else
pub record AreTold (old new : Keys) (lines : List ℕ → List HistoryEvent) : Type 0 where
  pub keys : keys_of new ≡ keys_of old
  pub there : (key : List ℕ) → is_some (find_key key new) ≡ is_some (find_key key old)
  pub each : (key : List ℕ) → is_some (find_key key old) ≡ true → key_at key new ≡ with_lines (key_at key old) (lines key)

-- ---- all that is kept of an accepted event
-- the row of the key was another one before, with another stamp
abbrev pub prior_tag : Option Row → ℕ
prior_tag None = 0
prior_tag (Some row) = tag_of row.stamp

abbrev pub is_new_in : Option PriorRow → ℕ → Bool
is_new_in None tag = false
is_new_in (Some f) tag = not (tag == prior_tag f.row)

abbrev pub is_new : Option Acted → List ℕ → ℕ → Bool
is_new None key tag = false
is_new (Some acted) key tag = is_new_in (find (λ f. is_same_key key f.key) acted.report.rows) tag

abbrev pub turn_of : ℕ → WorldState → NodeId → List ℕ → Shown → CallEffect
turn_of n w id key shown = record {
  event = n;
  call = record { 0 = w.calls };
  began = is_new shown.acted key (key_node key (node_at id.0 w.processes)).stamp;
  tag = (key_node key (node_at id.0 w.processes)).stamp;
  answered = is_answer shown.replies;
}

abbrev pub IsCallKept : ℕ → Keys → Keys → WorldState → Event → Shown → Type 0
IsCallKept n old new w (Call id key op) shown = IsNamed old new key (turn_of n w id key shown) op
IsCallKept n old new w event shown = new ≡ old

-- of event n its call, then its replies, then its covers
pub record IsKeptAfter (n : ℕ) (old new : KeptState) (event : Event) (shown : Shown) : Type 0 where
  pub world : new.world ≡ old.world
  pub calls : new.calls ≡ old.calls ++ called_from (event ∷ [])
  pub named : Keys
  pub told : Keys
  pub call : IsCallKept n old.keys named old.world event shown
  pub replies : AreTold named told (λ key. lines_at key (old.calls ++ called_from (event ∷ [])) shown.replies)
  pub covers : AreTouchedAt n shown.acted told new.keys old.world shown.letters

-- what the world makes of an event
abbrev pub IsStepMade : Result Shown StepError → WorldState → WorldState → Event → Type 0
IsStepMade (Ok shown) old new event = (a : Accepted) × (world_step old event ≡ Ok a) × (a.shown ≡ shown) × (a.world ≡ new)
IsStepMade (Err (Refused refused)) old new event = (world_step old event ≡ Err refused) × (new ≡ old)
IsStepMade (Err Memory) old new event = new ≡ old
IsStepMade (Err Lost) old new event = ⊥
