-- What one key has of a world: a state of the replicated register, and how each accepted event carries it on.
use Rattle.std.specs.Prelude.{ℕ, ◌+◌, Bool, true, false, not, List, [], ◌∷◌, ◌++◌, map, Option, Some, None, if◌then◌else◌, nat_le, nat_lt, ◌&&◌, ◌||◌, ◌==◌}
use Rattle.std.specs.Ordering.{is_eq, is_lt}
use Rattle.std.specs.Option.{option_or}
use Rattle.hk_base.specs.declared.stamp.NodeId.{NodeId}
use Rattle.hk_base.specs.declared.stamp.Kind.TheVariants as Kind
use Rattle.hk_base.specs.declared.call.State.{State}
use Rattle.hk_base.specs.declared.call.State.TheVariants as State
use Rattle.hk_base.specs.declared.call.Op.{Op}
use Rattle.hk_base.specs.declared.call.Reply.{Reply}
use Rattle.hk_base.specs.declared.letter.Actor.{Actor}
use Rattle.hk_base.specs.declared.letter.Actor.TheVariants as Actor
use Rattle.hk_base.specs.declared.letter.Body.{Body}
use Rattle.hk_base.specs.declared.letter.Body.TheVariants as Body
use Rattle.hk_base.specs.declared.letter.Letter.{Letter}
use Rattle.hk_base.specs.declared.letter.CopyItem.{CopyItem}
use Rattle.hk_base.specs.Stamp.{tag_of}
use Rattle.hk_base.specs.Register.{act}
use Rattle.hk_history.specs.History.{is_void, is_unsure}
use Rattle.hk_key.specs.declared.acks.Ack.{Ack}
use Rattle.hk_key.specs.declared.row.Pending.{Pending}
use Rattle.hk_key.specs.declared.row.Row.{Row}
use Rattle.hk_copy.specs.Batches.{key_cmp, last_key}
use Rattle.hk_register.specs.Machine.{Note, WaitingUpdate, Phase, Node, Message, Mark, Update, Item, RegisterState}
use Rattle.hk_register.specs.Machine.Phase.{Valid, Invalid, Write, Replay, Trans}
use Rattle.hk_register.specs.Machine.Item.{Called, Answered, Dropped, ReadOnly, Rejected}
use Rattle.hk_register.specs.Effects.{row_mark, cover_mark, register_of}
use Rattle.hk_register.specs.Runs.{absent}
use Rattle.hk_node.specs.Rows.{row_at}
use Rattle.hk_node.specs.Node.{NodeState, epoch_of}
use Rattle.hk_node.specs.Calls.{kind_of}
use Rattle.hk_event.specs.declared.event.Event.{Event}
use Rattle.hk_event.specs.declared.event.Event.TheVariants.{Call}
use Rattle.hk_world.specs.World.{WorldState, Processes, process_at, node_of}
use Rattle.hk_world.specs.Steps.{acting_of, Accepted}

-- ---- a row and its node, seen from the key
abbrev pub note_of : Ack → Note
note_of ack = record { who = ack.node.0; exact = ack.exact }

abbrev pub pending_of : Pending → WaitingUpdate
pending_of p = record { stamp = tag_of p.stamp; kind = p.kind; content = p.content; reply = p.reply; notes = map note_of p.acks }

-- a row in Write, Replay or Trans has a pending update
abbrev pub phase_of : State → Option Pending → Phase
phase_of State.Valid p = Valid
phase_of State.Invalid p = Invalid
phase_of State.Write None = Invalid
phase_of State.Write (Some p) = Write (pending_of p)
phase_of State.Replay None = Invalid
phase_of State.Replay (Some p) = Replay (pending_of p)
phase_of State.Trans None = Invalid
phase_of State.Trans (Some p) = Trans (pending_of p)

-- the key is behind the bound, if there is one
abbrev pub is_behind : Option (List ℕ) → List ℕ → Bool
is_behind None key = true
is_behind (Some bound) key = is_lt (key_cmp bound key)

-- a node has copied the rows up to its cursor, and all once it is ready
abbrev pub has_copied : NodeState → List ℕ → Bool
has_copied x key = if x.ready then true else not (is_behind x.cursor key)

abbrev pub row_node : NodeState → Bool → Row → Node
row_node x copied row = record { epoch = epoch_of x; ready = x.ready; copied = copied; phase = phase_of row.state row.pending; stamp = tag_of row.stamp; kind = row.kind; content = row.content; kept_val = row.kept_val }

-- what a node has of the key; a node that does not exist has nothing
abbrev pub key_node : List ℕ → Option NodeState → Node
key_node key None = absent
key_node key (Some x) = row_node x (has_copied x key) (row_at key x.rows)

abbrev pub node_at : ℕ → Processes → Option NodeState
node_at id processes = node_of (process_at (record { 0 = id }) processes)

-- ---- letters of the key
abbrev pub is_same_key : List ℕ → List ℕ → Bool
is_same_key a b = is_eq (key_cmp a b)

-- a key without an item in a batch is as no update left it
abbrev pub first_item : CopyItem
first_item = record { key = []; stamp = record { version = 0; node = 0 }; kind = Kind.Write; valid = true; content = None }

abbrev pub item_at : List ℕ → List CopyItem → CopyItem
item_at key [] = first_item
item_at key (item ∷ items) = if is_same_key key item.key then item else item_at key items

-- The batch tells what its giver has of the key: it is behind the first bound, and not behind the last key, or the batch was
-- the last.
abbrev pub covers : List ℕ → Option (List ℕ) → Bool → List CopyItem → Bool
covers key after done items = is_behind after key && (done || not (is_behind (option_or (last_key items) after) key))

-- a sender's number; managers send nothing of a key
abbrev pub number_of : Actor → ℕ
number_of (Actor.Node n) = n.0
number_of (Actor.Manager m) = 65536 + m

-- a letter, if it tells of the key
abbrev pub letter_of : List ℕ → Letter → Body → List Message
letter_of key l (Body.Inv k s kind content) = if is_same_key key k then Message.Inv (number_of l.from) l.epoch (tag_of s) kind content ∷ [] else []
letter_of key l (Body.Ack k s top) = if is_same_key key k then Message.Ack (number_of l.from) l.epoch (tag_of s) (tag_of top) ∷ [] else []
letter_of key l (Body.Val k s) = if is_same_key key k then Message.Val (number_of l.from) l.epoch (tag_of s) ∷ [] else []
letter_of key l (Body.CopyGive after done items) =
    if covers key after done items
    then Message.Give (number_of l.from) l.epoch (tag_of (item_at key items).stamp) (item_at key items).kind (item_at key items).content (item_at key items).valid ∷ []
    else []
letter_of key l (Body.CopyAsk after room) = []
letter_of key l (Body.LeaseAsk asked) = []
letter_of key l (Body.LeaseGive end) = []
letter_of key l (Body.Prepare ballot) = []
letter_of key l (Body.Promise ballot vote) = []
letter_of key l (Body.Accept ballot v) = []
letter_of key l (Body.Accepted ballot) = []
letter_of key l (Body.Chosen v) = []
letter_of key l (Body.Activate v) = []

abbrev pub letters_of : List ℕ → List Letter → List Message
letters_of key [] = []
letters_of key (l ∷ ls) = letter_of key l l.body ++ letters_of key ls

-- ---- the key's part of a world, with what happened to it so far
pub record Trace : Type 0 where
  pub world : WorldState
  pub marks : List Mark
  pub begun : List Update
  pub history : List Item

abbrev pub project : List ℕ → Trace → RegisterState
project key t = record { node = λ id. key_node key (node_at id t.world.processes); letters = letters_of key t.world.letters; marks = t.marks; begun = t.begun; history = t.history }

-- ---- marks: what the acting node covered
abbrev pub pending_marks : ℕ → Node → Phase → List Mark
pending_marks id x Valid = []
pending_marks id x Invalid = []
pending_marks id x (Write p) = cover_mark id x p.stamp ∷ []
pending_marks id x (Replay p) = cover_mark id x p.stamp ∷ []
pending_marks id x (Trans p) = cover_mark id x p.stamp ∷ []

-- its row and its pending update after the event, once it has a view
abbrev pub moment_marks : ℕ → Node → List Mark
moment_marks id x = if nat_le 1 x.epoch then row_mark id x ∷ pending_marks id x x.phase else []

-- the update that was pending when it installed a view: it may be complete at once, so that no later moment shows it
abbrev pub install_marks : ℕ → Node → Node → List Mark
install_marks id was x = if nat_lt was.epoch x.epoch then pending_marks id x was.phase else []

-- the stamps that it acknowledged
abbrev pub ack_marks : ℕ → Node → List Message → List Mark
ack_marks id x [] = []
ack_marks id x (Message.Ack from epoch s top ∷ ls) = cover_mark id x s ∷ ack_marks id x ls
ack_marks id x (Message.Inv from epoch s kind content ∷ ls) = ack_marks id x ls
ack_marks id x (Message.Val from epoch s ∷ ls) = ack_marks id x ls
ack_marks id x (Message.Give from epoch s kind content valid ∷ ls) = ack_marks id x ls

abbrev pub step_marks : ℕ → Node → Node → List Message → List Mark
step_marks id was x ls = moment_marks id x ++ (install_marks id was x ++ ack_marks id x ls)

-- ---- items: what the history of the key gets, the newest first
abbrev pub told_at : List ℕ → List (List ℕ × Reply) → List Reply
told_at key [] = []
told_at key (t ∷ told) = if is_same_key key t.0 then t.1 ∷ told_at key told else told_at key told

abbrev pub pending_stamp : Phase → ℕ
pending_stamp Valid = 0
pending_stamp Invalid = 0
pending_stamp (Write p) = p.stamp
pending_stamp (Replay p) = p.stamp
pending_stamp (Trans p) = p.stamp

-- the reply of the update of this stamp: an answer, or Aborted
abbrev pub reply_item : ℕ → Reply → Item
reply_item s r = if is_unsure (Some r.answer) then Dropped r.call.0 s r.answer else Answered r.call.0 s r.answer

-- a call that began nothing: it was refused, or answered from the row
abbrev pub read_only_item : ℕ → Op → Node → Reply → Item
read_only_item call op was r = if is_void (Some r.answer) then Rejected call op r.answer else ReadOnly call was.stamp op was.content r.answer

-- by whether the row has its old stamp: then the call began nothing
abbrev pub call_items : Bool → ℕ → Op → Node → Node → List Reply → List Item
call_items true call op was x replies = map (read_only_item call op was) replies
call_items false call op was x replies = map (reply_item x.stamp) replies ++ Called call x.stamp op ∷ []

-- call is the number of the call that the event makes, if it makes one
abbrev pub items_of : List ℕ → Event → ℕ → Node → Node → List Reply → List Item
items_of key (Call id k op) call was x replies = if is_same_key key k then call_items (x.stamp == was.stamp) call op was x replies else []
items_of key event call was x replies = map (reply_item (pending_stamp was.phase)) replies

-- the updates that the node's calls began on this row
abbrev pub updates_of : ℕ → Node → List Item → List Update
updates_of id x [] = []
updates_of id x (Called call s op ∷ items) =
    record {
      stamp = s;
      base = x.stamp;
      kind = kind_of op;
      content = (act op (register_of x.content x.stamp) s).register.content;
      op = op;
      answer = (act op (register_of x.content x.stamp) s).answer;
      who = id;
      call = call;
    } ∷ updates_of id x items
updates_of id x (Answered call s a ∷ items) = updates_of id x items
updates_of id x (Dropped call s a ∷ items) = updates_of id x items
updates_of id x (ReadOnly call s op held a ∷ items) = updates_of id x items
updates_of id x (Rejected call op a ∷ items) = updates_of id x items

-- ---- the trace goes on with an accepted event
-- what a node's step adds, from the key's part of the node before and after it
abbrev pub added : List ℕ → Trace → Event → Accepted → ℕ → Node → Node → Trace
added key t event a id was x = record {
  world = a.world;
  marks = step_marks id was x (letters_of key a.shown.letters) ++ t.marks;
  begun = updates_of id was (items_of key event (t.world.calls + 1) was x (told_at key a.told)) ++ t.begun;
  history = items_of key event (t.world.calls + 1) was x (told_at key a.told) ++ t.history;
}

abbrev pub traced_by : List ℕ → Trace → Event → Accepted → Option NodeId → Trace
traced_by key t event a None = record { world = a.world; marks = t.marks; begun = t.begun; history = t.history }
traced_by key t event a (Some id) = added key t event a id.0 (key_node key (node_at id.0 t.world.processes)) (key_node key (node_at id.0 a.world.processes))

abbrev pub traced : List ℕ → Trace → Event → Accepted → Trace
traced key t event a = traced_by key t event a (acting_of a)
