-- One key of a replicated group: what each node has of it, and all that was ever sent about it. The protocol is Hermes
-- (Katsarakis and others, ASPLOS 2020); `Effects` tells it, and where ours differs.
--
-- A stamp stands here as one number, its tag, so that stamps are ordered as numbers are. 0 is the stamp of no update.
use Rattle.std.specs.Prelude.{◌≡◌, ◌⊎◌, ℕ, Bool, List, [], ◌∷◌, Option, true, ⊤}
use Rattle.hk_base.specs.declared.stamp.Kind.{Kind}
use Rattle.hk_base.specs.declared.call.Op.{Op}
use Rattle.hk_base.specs.declared.call.Content.{Content}
use Rattle.hk_base.specs.declared.call.Answer.{Answer}
use Rattle.hk_base.specs.declared.call.Reply.{Reply}

-- the element stands in the list
abbrev pub In : {X : Type 0} → List X → X → Type 0
In [] x = ⊥
In (y ∷ ys) x = (x ≡ y) ⊎ In ys x

-- the fact holds of each element
abbrev pub Each : {X : Type 0} → (X → Type 0) → List X → Type 0
Each P [] = ⊤
Each P (x ∷ xs) = P x × Each P xs

-- That a member acknowledged the pending update, in the node's own epoch. The note is exact where the ACK had top equal
-- to the update's stamp: then the member's row had that stamp, and nothing above it. In Hermes only the sender is
-- noted.
pub record Note : Type 0 where
  pub who : ℕ
  pub exact : Bool

-- An update that waits for acknowledgements: the node's own, whose call is answered when it completes, or one that it
-- replays, which has no call.
pub record WaitingUpdate : Type 0 where
  pub stamp : ℕ
  pub kind : Kind
  pub content : Option Content
  pub reply : Option Reply
  pub notes : List Note

-- The state of the key at a node, by their names in Hermes. Write, Replay and Trans have the update that waits.
pub data Phase : Type 0 where
  Valid : Phase
  Invalid : Phase
  Write : WaitingUpdate → Phase
  Replay : WaitingUpdate → Phase
  Trans : WaitingUpdate → Phase

-- What a node has of the key: its row (state, stamp, kind and content of the last update that it saw), and the epoch of
-- its view, 0 where it has none.
-- `ready`: it holds all that it must, as founders do and joiners that have copied every key;
-- `copied`: it holds all that it must of this key;
-- `kept_val`: a VAL of the row's stamp came while the key was in Trans. The bit is ours: in Hermes a key leaves Trans
-- as Invalid, always, to be replayed.
pub record Node : Type 0 where
  pub epoch : ℕ
  pub ready : Bool
  pub copied : Bool
  pub phase : Phase
  pub stamp : ℕ
  pub kind : Kind
  pub content : Option Content
  pub kept_val : Bool

-- INV, ACK and VAL of Hermes, and a row as a ready member copies it to a joiner. Each tells its sender and its
-- sender's epoch. None has an addressee: any node of the epoch may take any letter, at any time, or never, or often.
-- An ACK has, beside the stamp that it acknowledges, the sender's own stamp, `top`: that is ours.
pub data Message : Type 0 where
  Inv : (from epoch stamp : ℕ) → (kind : Kind) → (content : Option Content) → Message
  Ack : (from epoch stamp top : ℕ) → Message
  Val : (from epoch stamp : ℕ) → Message
  Give : (from epoch stamp : ℕ) → (kind : Kind) → (content : Option Content) → (valid : Bool) → Message

-- A mark says that at some moment the node covered the stamp in the epoch: `exact`, in its row; else as its pending
-- update or by an ACK of it. `ready`: it was ready then. Marks are only kept, never read by a node: they are what the
-- laws speak of.
pub record Mark : Type 0 where
  pub who : ℕ
  pub epoch : ℕ
  pub stamp : ℕ
  pub exact : Bool
  pub ready : Bool

-- An update that was begun: its stamp, the stamp of the row on which it was begun (its base), what it left and answered,
-- its coordinator and its call.
pub record Update : Type 0 where
  pub stamp : ℕ
  pub base : ℕ
  pub kind : Kind
  pub content : Option Content
  pub op : Op
  pub answer : Answer
  pub who : ℕ
  pub call : ℕ

-- What the history of the key gets: a call that began an update of this stamp; its reply; the reply of one that was
-- given up (Aborted); a call that was answered at once from a row of this stamp and content; one that was refused with
-- nothing begun (Busy, Exhausted).
pub data Item : Type 0 where
  Called : (call stamp : ℕ) → (op : Op) → Item
  Answered : (call stamp : ℕ) → (answer : Answer) → Item
  Dropped : (call stamp : ℕ) → (answer : Answer) → Item
  ReadOnly : (call stamp : ℕ) → (op : Op) → (content : Option Content) → (answer : Answer) → Item
  Rejected : (call : ℕ) → (op : Op) → (answer : Answer) → Item

abbrev pub call_of : Item → ℕ
call_of (Item.Called c s op) = c
call_of (Item.Answered c s a) = c
call_of (Item.Dropped c s a) = c
call_of (Item.ReadOnly c s op held a) = c
call_of (Item.Rejected c op a) = c

-- One key of the whole group. Letters, marks, updates and the history only grow, the newest first: what was sent once
-- may come again, and what is lost is just never taken.
pub record RegisterState : Type 0 where
  pub node : ℕ → Node
  pub letters : List Message
  pub marks : List Mark
  pub begun : List Update
  pub history : List Item

-- what the first mark says, the second says too
pub record Weaker (k j : Mark) : Type 0 where
  pub who : k.who ≡ j.who
  pub epoch : k.epoch ≡ j.epoch
  pub stamp : k.stamp ≡ j.stamp
  pub exact : k.exact ≡ true → j.exact ≡ true
  pub ready : k.ready ≡ true → j.ready ≡ true

-- the mark, or one that says more, was made
abbrev pub Marked : RegisterState → Mark → Type 0
Marked st k = (j : Mark) × Weaker k j × In st.marks j
