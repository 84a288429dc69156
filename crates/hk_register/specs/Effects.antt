-- What one event may do to the key: the protocol, as effects on one key.
--
-- The protocol is that of "Hermes: a fast, fault-tolerant and linearizable replication protocol" (Katsarakis and others,
-- ASPLOS 2020). Beside each effect stands its step there, by its name in Hermes (CTS, FINV ..) and its TLA+ action (HWrite,
-- HRcvInv ..), and where this protocol differs.
--
-- An event of the group (a call, a letter taken, a replay, a view installed) is for each key one effect, or two, one
-- after the other. An effect may allow more than the protocol does, as a letter that is taken by any node of its epoch:
-- then fewer premises have to be met by those who show that what they do is an effect.
use Rattle.std.specs.Prelude.{IsTrue, ◌≡◌, ◌⊎◌, ◌≢◌, ℕ, Bool, true, false, List, [], ◌∷◌, ◌++◌, ◌<◌, ◌≤◌, ◌+◌, ◌*◌, ◌/◌, Option, Some, None, if◌then◌else◌, ⊤}
use Rattle.hk_base.specs.declared.call.Content.{Content}
use Rattle.hk_base.specs.declared.call.Answer.{Answer}
use Rattle.hk_base.specs.declared.call.Reply.{Reply}
use Rattle.hk_base.specs.declared.call.Op.{Op}
use Rattle.hk_base.specs.declared.stamp.Kind.{Kind}
use Rattle.hk_base.specs.declared.stamp.Kind.TheVariants as Kind
use Rattle.hk_base.specs.Register.{Register, act, stays}
use Rattle.hk_history.specs.History.{is_void, is_unsure, is_answered}
use Rattle.hk_register.specs.Machine.{call_of, In, Weaker, Marked, Note, WaitingUpdate, Phase, Node, Message, Mark, Update, Item, RegisterState}
use Rattle.hk_register.specs.Machine.Phase.{Valid, Invalid, Write, Replay, Trans}
use Rattle.hk_register.specs.Machine.Message.{Inv, Ack, Val, Give}
use Rattle.hk_register.specs.Machine.Item.{Called, Answered, ReadOnly, Rejected, Dropped}

-- The effects. n is always the node that acts, m the sender of the letter that it takes.
pub data Effect : Type 0 where
  Begin : (n : ℕ) → (u : Update) → Effect
  TakeInv : (n m s : ℕ) → (kind : Kind) → (content : Option Content) → (why : Answer) → Effect
  AckInv : (n m s : ℕ) → (kind : Kind) → (content : Option Content) → Effect
  CounterInv : (n m s : ℕ) → (kind : Kind) → (content : Option Content) → Effect
  NoteAck : (n m top : ℕ) → (p : WaitingUpdate) → (notes : List Note) → Effect
  Settle : (n : ℕ) → (p : WaitingUpdate) → Effect
  FinishValid : (n : ℕ) → (p : WaitingUpdate) → Effect
  FinishInvalid : (n : ℕ) → (p : WaitingUpdate) → Effect
  TakeVal : (n m : ℕ) → Effect
  KeepVal : (n m : ℕ) → Effect
  StartReplay : (n : ℕ) → Effect
  Resend : (n : ℕ) → (p : WaitingUpdate) → Effect
  Install : (n e : ℕ) → Effect
  InstallPending : (n e : ℕ) → (p : WaitingUpdate) → Effect
  GiveRow : (n : ℕ) → (valid : Bool) → Effect
  CopyRow : (n m s : ℕ) → (kind : Kind) → (content : Option Content) → (valid : Bool) → Effect
  PassRow : (n m s : ℕ) → (kind : Kind) → (content : Option Content) → (valid : Bool) → Effect
  CopyValid : (n m s : ℕ) → (kind : Kind) → (content : Option Content) → Effect
  GetReady : (n : ℕ) → Effect
  Serve : (n call : ℕ) → (op : Op) → (answer : Answer) → Effect
  Refuse : (n call : ℕ) → (op : Op) → (answer : Answer) → Effect
  Quiet : (n : ℕ) → Effect

-- One node changes, and letters, marks, updates and items are added. Letters may also be forgotten, and a mark may be
-- told again with less: so a group that keeps its letters or marks in another way still makes this change.
pub record Change (old new : RegisterState) (n : ℕ) (x : Node) (ls : List Message) (ms : List Mark) (us : List Update) (hs : List Item) : Type 0 where
  pub here : new.node n ≡ x
  pub there : (m : ℕ) → m ≢ n → new.node m ≡ old.node m
  pub letters : (l : Message) → In new.letters l → In ls l ⊎ In old.letters l
  pub marks_kept : (k : Mark) → Marked old k → Marked new k
  pub marks_new : (k : Mark) → In ms k → Marked new k
  pub marks_from : (k : Mark) → Marked new k → (j : Mark) × Weaker k j × (In ms j ⊎ Marked old j)
  pub begun : new.begun ≡ us ++ old.begun
  pub history : new.history ≡ hs ++ old.history

-- the mark of a node's row
abbrev pub row_mark : ℕ → Node → Mark
row_mark n x = record { who = n; epoch = x.epoch; stamp = x.stamp; exact = true; ready = x.ready }

-- the mark of its pending stamp, or of one that it acknowledges
abbrev pub cover_mark : ℕ → Node → ℕ → Mark
cover_mark n x s = record { who = n; epoch = x.epoch; stamp = s; exact = false; ready = x.ready }

-- A write steps the version by two, a read-modify-write by one: so of two updates of one base a write is above a
-- read-modify-write (Hermes, "Read-Modify-Writes").
abbrev pub step_of : Kind → ℕ
step_of Kind.Write = 2
step_of Kind.Rmw = 1

-- The tag of the next stamp: the version of the base, raised by the step of the kind, and the coordinator's number.
abbrev pub next_stamp : Kind → ℕ → ℕ → ℕ
next_stamp kind base n = (base / 65536 + step_of kind) * 65536 + n

abbrev pub fresh_pending : ℕ → Kind → Option Content → Option Reply → WaitingUpdate
fresh_pending stamp kind content reply = record { stamp = stamp; kind = kind; content = content; reply = reply; notes = [] }

abbrev pub register_of : Option Content → ℕ → Register
register_of content tag = record { content = content; tag = tag }

-- The operation does not look at the register. Only such a one may be begun as a plain write. A read-modify-write may be
-- any operation.
abbrev pub IsBlind : Op → Type 0
IsBlind op = (r r' : Register) (tag : ℕ) → act op r tag ≡ act op r' tag

-- the update is what its operation makes of the content at its base
pub record Changes (u : Update) (was : Option Content) : Type 0 where
  pub changed : (act u.op (register_of was u.base) u.stamp).changed ≡ true
  pub register : (act u.op (register_of was u.base) u.stamp).register ≡ register_of u.content u.stamp
  pub answer : (act u.op (register_of was u.base) u.stamp).answer ≡ u.answer
  pub answered : IsTrue (is_answered (Some u.answer))

-- the operation changes nothing, and answers this
abbrev pub Stays : Op → Register → Answer → Type 0
Stays op r answer = (tag : ℕ) → act op r tag ≡ stays answer r

abbrev pub reply_of : Update → Reply
reply_of u = record { call = record { 0 = u.call }; answer = u.answer }

-- no call so far has this number
abbrev pub Fresh : RegisterState → ℕ → Type 0
Fresh st call = (i : Item) → In st.history i → call_of i ≢ call

-- the state after an INV above the row: a plain write waits on in Trans, a read-modify-write and a replay are given up
abbrev pub overtaken : Phase → Phase
overtaken Valid = Invalid
overtaken Invalid = Invalid
overtaken (Replay p) = Invalid
overtaken (Trans p) = Trans p
overtaken (Write p) = elim p.kind [ Kind.Write ↦ Trans p | Kind.Rmw ↦ Invalid ]

-- the node's pending update is p
abbrev pub Has : Phase → WaitingUpdate → Type 0
Has Valid p = ⊥
Has Invalid p = ⊥
Has (Write q) p = q ≡ p
Has (Replay q) p = q ≡ p
Has (Trans q) p = q ≡ p

-- the state with no update pending
abbrev pub IsIdle : Phase → Type 0
IsIdle phase = (phase ≡ Valid) ⊎ (phase ≡ Invalid)

-- the same state with other notes
abbrev pub with_notes : Phase → List Note → Phase
with_notes Valid notes = Valid
with_notes Invalid notes = Invalid
with_notes (Write p) notes = Write (record p { notes = notes })
with_notes (Replay p) notes = Replay (record p { notes = notes })
with_notes (Trans p) notes = Trans (record p { notes = notes })

-- the member is noted
abbrev pub Noted : List Note → ℕ → Type 0
Noted notes m = (k : Note) × In notes k × (k.who ≡ m)

-- Every note is exact: each of those members' rows had the stamp.
abbrev pub AllExact : List Note → Type 0
AllExact notes = (k : Note) → In notes k → k.exact ≡ true

-- Notes after an ACK of s from m with this top: the old ones, or one of m, which is exact only where the top is s.
abbrev pub NotesAfter : List Note → List Note → ℕ → ℕ → ℕ → Type 0
NotesAfter old new m s top = (k : Note) → In new k → In old k ⊎ ((k.who ≡ m) × (k.exact ≡ true → top ≡ s))

-- the call of a completed update, if it has one, is answered
abbrev pub answer_of : Option Reply → ℕ → List Item
answer_of None s = []
answer_of (Some r) s = Answered r.call.0 s r.answer ∷ []

-- the call of a read-modify-write that was overtaken is told so
abbrev pub drop_of : Option Reply → ℕ → Answer → List Item
drop_of None s why = []
drop_of (Some r) s why = Dropped r.call.0 s why ∷ []

abbrev pub dropped : Phase → Answer → List Item
dropped Valid why = []
dropped Invalid why = []
dropped (Replay p) why = []
dropped (Trans p) why = []
dropped (Write p) why = elim p.kind [ Kind.Write ↦ [] | Kind.Rmw ↦ drop_of p.reply p.stamp why ]

-- What an effect makes: the node that acts, as it is after, and what is added.
pub record Done : Type 0 where
  pub actor : ℕ
  pub node : Node
  pub letters : List Message
  pub marks : List Mark
  pub updates : List Update
  pub items : List Item

-- the node alone changes
abbrev pub alters : ℕ → Node → Done
alters n x = record { actor = n; node = x; letters = []; marks = []; updates = []; items = [] }

-- and these letters are sent
abbrev pub sends : ℕ → Node → List Message → Done
sends n x letters = record { actor = n; node = x; letters = letters; marks = []; updates = []; items = [] }

-- its row is new, or is new in this epoch or as that of a ready node, and so has a mark
abbrev pub marks_row : ℕ → Node → List Message → Done
marks_row n x letters = record { actor = n; node = x; letters = letters; marks = row_mark n x ∷ []; updates = []; items = [] }

-- its pending update is complete, and the call of that is answered
abbrev pub completes : ℕ → Node → List Message → WaitingUpdate → Done
completes n x letters p = record { actor = n; node = x; letters = letters; marks = []; updates = []; items = answer_of p.reply p.stamp }

-- a call begins and is answered at once
abbrev pub tells : ℕ → Node → Item → Done
tells n x item = record { actor = n; node = x; letters = []; marks = []; updates = []; items = item ∷ [] }

abbrev pub done : RegisterState → Effect → Done
-- CTS and CINV, HWrite: the coordinator gives the update the next stamp, takes it into its row, goes to Write and sends
-- INV to the others. Begin stands for writes and read-modify-writes both.
done st (Begin n u) = record {
  actor = n;
  node = record (st.node n) { phase = Write (fresh_pending u.stamp u.kind u.content (Some (reply_of u))); stamp = u.stamp; kind = u.kind; content = u.content; kept_val = false };
  letters = Inv n (st.node n).epoch u.stamp u.kind u.content ∷ [];
  marks = record { who = n; epoch = (st.node n).epoch; stamp = u.stamp; exact = true; ready = (st.node n).ready } ∷ [];
  updates = u ∷ [];
  items = Called u.call u.stamp u.op ∷ [];
}
-- FINV and FACK, HRcvInv, where the INV is above the row: it is taken over, and acknowledged with itself as top. A
-- pending read-modify-write is given up (CRMW-abort); a replay may complete it yet.
done st (TakeInv n m s kind content why) = record {
  actor = n;
  node = record (st.node n) { phase = overtaken (st.node n).phase; stamp = s; kind = kind; content = content; kept_val = false };
  letters = Ack n (st.node n).epoch s s ∷ [];
  marks = record { who = n; epoch = (st.node n).epoch; stamp = s; exact = true; ready = (st.node n).ready } ∷ [];
  updates = [];
  items = dropped (st.node n).phase why;
}
-- FACK, HRcvInv, where it is not above the row: it is acknowledged and nothing changes. The row's stamp goes along as
-- top: ours.
done st (AckInv n m s kind content) = record {
  actor = n;
  node = st.node n;
  letters = Ack n (st.node n).epoch s (st.node n).stamp ∷ [];
  marks = cover_mark n (st.node n) s ∷ [];
  updates = [];
  items = [];
}
-- FRMW-ack, the other way: an INV of a read-modify-write below the row is not acknowledged; the row's own update is sent
-- in its place.
done st (CounterInv n m s kind content) = sends n (st.node n) (Inv n (st.node n).epoch (st.node n).stamp (st.node n).kind (st.node n).content ∷ [])
-- HRcvAck: the sender is noted.
done st (NoteAck n m top p notes) = alters n (record (st.node n) { phase = with_notes (st.node n).phase notes })
-- CACK and CVAL, with the settled rule: all others acknowledged, each exactly, and the row has the update's stamp. The key
-- is Valid, VAL goes to the others, and the call is answered. The rule is ours: Hermes asks only that all acknowledged,
-- and so may validate a row above which another member has gone already.
done st (Settle n p) = completes n (record (st.node n) { phase = Valid }) (Val n (st.node n).epoch p.stamp ∷ []) p
-- CACK, where a VAL of the row's own stamp came meanwhile: the call is answered and the key is Valid. Ours.
done st (FinishValid n p) = completes n (record (st.node n) { phase = Valid }) [] p
-- CACK, where no more is known: the call is answered, for the update is complete, and the key is Invalid, since another
-- update may be on its way. In Hermes this is the way out of Trans; here also where an ACK was not exact.
done st (FinishInvalid n p) = completes n (record (st.node n) { phase = Invalid }) [] p
-- FVAL, HRcvVal: a VAL of the row's stamp makes an Invalid key Valid;
done st (TakeVal n m) = alters n (record (st.node n) { phase = Valid })
-- in Trans the bit remembers it: ours.
done st (KeepVal n m) = alters n (record (st.node n) { kept_val = true })
-- The write replay: a node that holds the key Invalid takes the coordinator's part for the same update, with the same
-- stamp: INV to the others, and notes of their ACKs. Here it is an event, begun by no timer.
done st (StartReplay n) =
    sends n (record (st.node n) { phase = Replay (fresh_pending (st.node n).stamp (st.node n).kind (st.node n).content None) })
    (Inv n (st.node n).epoch (st.node n).stamp (st.node n).kind (st.node n).content ∷ [])
-- INV of a pending update is sent again, as Hermes does after a loss. Here it is an event too.
done st (Resend n p) = sends n (st.node n) (Inv n (st.node n).epoch p.stamp p.kind p.content ∷ [])
-- The node learns of a new view (reconfiguration of the membership in Hermes): with nothing pending only its epoch
-- changes;
done st (Install n e) = marks_row n (record (st.node n) { epoch = e }) []
-- a pending update drops its notes and is sent again in the new epoch. CRMW-replay asks that of read-modify-writes; here
-- it holds of every update, since ACKs count in their own epoch alone.
done st (InstallPending n e p) = record {
  actor = n;
  node = record (st.node n) { epoch = e; phase = with_notes (st.node n).phase [] };
  letters = Inv n e p.stamp p.kind p.content ∷ [];
  marks = record { who = n; epoch = e; stamp = (st.node n).stamp; exact = true; ready = (st.node n).ready } ∷ record { who = n; epoch = e; stamp = p.stamp; exact = false; ready = (st.node n).ready } ∷ [];
  updates = [];
  items = [];
}
-- A ready member copies its row to a joiner, and tells if it was Valid (recovery in Hermes: a new replica reads the
-- key-value pairs from one that is operational, while it follows writes as a shadow).
done st (GiveRow n valid) = sends n (st.node n) (Give n (st.node n).epoch (st.node n).stamp (st.node n).kind (st.node n).content valid ∷ [])
-- A joiner takes a row above its own,
done st (CopyRow n m s kind content valid) =
    marks_row n (record (st.node n) { copied = true; phase = if valid then Valid else Invalid; stamp = s; kind = kind; content = content; kept_val = false }) []
-- passes one that is not above it,
done st (PassRow n m s kind content valid) = alters n (record (st.node n) { copied = true })
-- or learns that its own stamp was Valid there.
done st (CopyValid n m s kind content) = alters n (record (st.node n) { copied = true; phase = Valid })
-- A joiner that has copied every key is a member like the others.
done st (GetReady n) = marks_row n (record (st.node n) { ready = true }) []
-- HRead, and any call that changes nothing: it is answered from a Valid row, at once and with no letter.
done st (Serve n call op answer) = tells n (st.node n) (ReadOnly call (st.node n).stamp op (st.node n).content answer)
-- A call is refused with nothing begun: the key is not Valid, the lease may be over, or the versions end. In Hermes
-- the call is stalled.
done st (Refuse n call op answer) = tells n (st.node n) (Rejected call op answer)
-- Nothing: a clock, a lease, a crash, a letter that is dropped, an event of another key.
done st (Quiet n) = alters n (st.node n)

-- V e are the members of the view of epoch e
module _ (V : ℕ → List ℕ) where
  -- each other member of the view is noted
  abbrev pub AllNoted : ℕ → ℕ → List Note → Type 0
  AllNoted e n notes = (m : ℕ) → In (V e) m → m ≢ n → Noted notes m

  -- The node's lease runs: no node has installed a view, from the node's own on, that leaves the node out.
  abbrev pub Leased : RegisterState → ℕ → Type 0
  Leased st n = (k : Mark) → Marked st k → (st.node n).epoch ≤ k.epoch → In (V k.epoch) n

  -- a node that had a view is a member of each view up to the one that it installs
  abbrev pub Between : RegisterState → ℕ → ℕ → Type 0
  Between st n e = (f : ℕ) → 1 ≤ (st.node n).epoch → (st.node n).epoch ≤ f → f ≤ e → In (V f) n

  -- when an effect may happen
  abbrev pub Allowed : RegisterState → Effect → Type 0
  -- ready, leased, Valid: the new stamp is the base's next, what is left is the operation's work, the call is new
  Allowed st (Begin n u) =
      ((st.node n).ready ≡ true) × ((st.node n).phase ≡ Valid) × Leased st n × (n < 65536)
      × (u.who ≡ n) × (u.base ≡ (st.node n).stamp) × (u.stamp ≡ next_stamp u.kind u.base n)
      × (u.kind ≡ Kind.Write → IsBlind u.op) × Changes u (st.node n).content × Fresh st u.call
  -- the INV was sent in the node's epoch, and is above the row; `why` is what an aborted call is told
  Allowed st (TakeInv n m s kind content why) =
      In st.letters (Inv m (st.node n).epoch s kind content) × ((st.node n).stamp < s) × (1 ≤ (st.node n).epoch) × IsTrue (is_unsure (Some why))
  -- not above the row, and a read-modify-write only at its very stamp
  Allowed st (AckInv n m s kind content) =
      In st.letters (Inv m (st.node n).epoch s kind content) × (s ≤ (st.node n).stamp) × (1 ≤ (st.node n).epoch) × ((kind ≡ Kind.Write) ⊎ (s ≡ (st.node n).stamp))
  Allowed st (CounterInv n m s kind content) =
      In st.letters (Inv m (st.node n).epoch s kind content) × (s < (st.node n).stamp) × (1 ≤ (st.node n).epoch)
  -- the ACK is of the pending update, sent in the node's epoch by a member
  Allowed st (NoteAck n m top p notes) =
      In st.letters (Ack m (st.node n).epoch p.stamp top) × Has (st.node n).phase p × In (V (st.node n).epoch) m × NotesAfter p.notes notes m p.stamp top
  Allowed st (Settle n p) =
      Has (st.node n).phase p × AllNoted (st.node n).epoch n p.notes × (p.stamp ≡ (st.node n).stamp) × AllExact p.notes
  Allowed st (FinishValid n p) = Has (st.node n).phase p × AllNoted (st.node n).epoch n p.notes × ((st.node n).kept_val ≡ true)
  Allowed st (FinishInvalid n p) = Has (st.node n).phase p × AllNoted (st.node n).epoch n p.notes
  Allowed st (TakeVal n m) = In st.letters (Val m (st.node n).epoch (st.node n).stamp) × ((st.node n).phase ≡ Invalid)
  Allowed st (KeepVal n m) = In st.letters (Val m (st.node n).epoch (st.node n).stamp)
  Allowed st (StartReplay n) = ((st.node n).ready ≡ true) × ((st.node n).phase ≡ Invalid)
  Allowed st (Resend n p) = Has (st.node n).phase p
  -- a later view that has the node, with nothing pending
  Allowed st (Install n e) = ((st.node n).epoch < e) × In (V e) n × Between st n e × IsIdle (st.node n).phase
  Allowed st (InstallPending n e p) = ((st.node n).epoch < e) × In (V e) n × Between st n e × Has (st.node n).phase p
  -- only a ready node copies, and tells Valid only where it is
  Allowed st (GiveRow n valid) = ((st.node n).ready ≡ true) × (valid ≡ true → (st.node n).phase ≡ Valid)
  Allowed st (CopyRow n m s kind content valid) =
      In st.letters (Give m (st.node n).epoch s kind content valid) × (1 ≤ (st.node n).epoch) × ((st.node n).stamp < s)
  Allowed st (PassRow n m s kind content valid) =
      In st.letters (Give m (st.node n).epoch s kind content valid) × (1 ≤ (st.node n).epoch) × (s ≤ (st.node n).stamp)
  Allowed st (CopyValid n m s kind content) =
      In st.letters (Give m (st.node n).epoch s kind content true) × (1 ≤ (st.node n).epoch) × (s ≡ (st.node n).stamp)
  Allowed st (GetReady n) = (1 ≤ (st.node n).epoch) × ((st.node n).copied ≡ true) × IsIdle (st.node n).phase
  -- ready, leased, Valid: the operation changes nothing, the call is new
  Allowed st (Serve n call op answer) =
      ((st.node n).ready ≡ true) × ((st.node n).phase ≡ Valid) × Leased st n
      × Stays op (register_of (st.node n).content (st.node n).stamp) answer × Fresh st call × IsTrue (is_answered (Some answer))
  Allowed st (Refuse n call op answer) = IsTrue (is_void (Some answer)) × Fresh st call
  Allowed st (Quiet n) = ⊤

  -- the effect happens between two states
  pub record Happens (old : RegisterState) (e : Effect) (new : RegisterState) : Type 0 where
    pub allowed : Allowed old e
    pub change : Change old new (done old e).actor (done old e).node (done old e).letters (done old e).marks (done old e).updates (done old e).items
