-- Runs worked by hand, and each effect in a run.
use Rattle.std.specs.Prelude.{◌≡◌, ℕ, Bool, true, false, List, [], ◌∷◌, Option, Some, None, ◌==◌, if◌then◌else◌, take, decimal}
use Rattle.hk_base.specs.declared.call.Content.{Content}
use Rattle.hk_base.specs.declared.call.Op.{Op}
use Rattle.hk_base.specs.declared.call.Op.TheVariants as op
use Rattle.hk_base.specs.declared.call.Answer.{Answer}
use Rattle.hk_base.specs.declared.call.Answer.TheVariants.{Found, Missing, Stored, Deleted, Number, Busy, Aborted}
use Rattle.hk_base.specs.declared.call.Why.TheVariants.{Row}
use Rattle.hk_base.specs.declared.call.State.TheVariants as state
use Rattle.hk_base.specs.declared.stamp.Kind.{Kind}
use Rattle.hk_base.specs.declared.stamp.Kind.TheVariants as Kind
use Rattle.hk_history.specs.declared.event.Event.{Event}
use Rattle.hk_history.specs.declared.event.Event.TheVariants.{Call, Reply}
use Rattle.hk_history.specs.declared.event.Entry.{Entry}
use Rattle.hk_register.specs.Machine.{Note, WaitingUpdate, Update, Node, RegisterState}
use Rattle.hk_register.specs.Machine.Phase.{Valid, Invalid, Trans}
use Rattle.hk_register.specs.Effects.{Effect, Happens, Allowed, reply_of}
use Rattle.hk_register.specs.Effects.Effect.{Begin, TakeInv, AckInv, CounterInv, NoteAck, Settle, FinishValid, FinishInvalid, TakeVal, KeepVal, StartReplay, Resend, Install, InstallPending, GiveRow, CopyRow, PassRow, CopyValid, GetReady, Serve, Refuse, Quiet}
use Rattle.hk_register.specs.Runs.{Reached, start, played, Plays}
use Rattle.hk_register.specs.Printed.{events_of, entries, printed}

-- From the start each effect of the list is allowed where it stands; the clients see this history, and this order is
-- printed.
pub record IsWorked (V : ℕ → List ℕ) (es : List Effect) (history : List Event) (order : List Entry) : Type 0 where
  pub plays : Plays V (start V) es
  pub seen : events_of (played (start V) es).history ≡ history
  pub printed : entries (printed V (played (start V) es)) ≡ order

-- what a node has at the end
abbrev pub ends : (ℕ → List ℕ) → List Effect → ℕ → Node
ends V es n = (played (start V) es).node n

abbrev pub five : Content
five = record { flags = 0; bytes = 53 ∷ [] }

abbrev pub six : Content
six = record { flags = 0; bytes = decimal 6 }

abbrev pub nine : Content
nine = record { flags = 0; bytes = 57 ∷ [] }

abbrev pub calls : ℕ → Op → Event
calls n o = Call (record { 0 = n }) o

abbrev pub replies : ℕ → Answer → Event
replies n a = Reply (record { 0 = n }) a

-- an update in the order, with its tag, and a call that changed nothing
abbrev pub changed : ℕ → ℕ → Entry
changed n tag = record { call = record { 0 = n }; tag = Some tag }

abbrev pub looked : ℕ → Entry
looked n = record { call = record { 0 = n }; tag = None }

-- the answer of an aborted call
abbrev pub aborted : ℕ → ℕ → Answer
aborted version node = Aborted (record { version = version; node = node })

abbrev pub exactly : ℕ → Note
exactly m = record { who = m; exact = true }

abbrev pub with_more : ℕ → Note
with_more m = record { who = m; exact = false }

-- a write, at node and with base, of a call; its stamp is two versions on
abbrev pub write : ℕ → ℕ → ℕ → ℕ → Content → Update
write stamp base node call content = record { stamp = stamp; base = base; kind = Kind.Write; content = Some content; op = op.Write content; answer = Stored; who = node; call = call }

-- an incr of "5" to "6"; its stamp is one version on
abbrev pub increment : ℕ → ℕ → ℕ → ℕ → Update
increment stamp base node call = record { stamp = stamp; base = base; kind = Kind.Rmw; content = Some six; op = op.Incr 1; answer = Number 6; who = node; call = call }

-- the update as it waits at its coordinator, with these notes, and at one that replays it
abbrev pub waits : Update → List Note → WaitingUpdate
waits u notes = record { stamp = u.stamp; kind = u.kind; content = u.content; reply = Some (reply_of u); notes = notes }

abbrev pub waits_again : Update → List Note → WaitingUpdate
waits_again u notes = record { stamp = u.stamp; kind = u.kind; content = u.content; reply = None; notes = notes }

-- a node takes the INV of an update that its coordinator sent; nothing of its own is aborted
abbrev pub takes : ℕ → Update → Effect
takes n u = TakeInv n u.who u.stamp u.kind u.content (aborted 0 0)

-- a group of two, and of three, with one view
abbrev pub two : ℕ → List ℕ
two e = 0 ∷ 1 ∷ []

abbrev pub three : ℕ → List ℕ
three e = 0 ∷ 1 ∷ 2 ∷ []

-- nodes 0 and 1 are dropped, one after the other
abbrev pub shrinking : ℕ → List ℕ
shrinking e = if e == 1 then 0 ∷ 1 ∷ 2 ∷ [] else (if e == 2 then 1 ∷ 2 ∷ [] else 2 ∷ [])

-- node 1 joins node 0
abbrev pub growing : ℕ → List ℕ
growing e = if e == 1 then 0 ∷ [] else 0 ∷ 1 ∷ []

-- The settled rule. Nodes 0 and 1 write at once. Node 1 acknowledges 2.0 with its own 2.1 as top. So when all have
-- acknowledged, 2.0 is complete and its call is answered, but the key is Invalid at node 0, and no VAL goes out.
abbrev pub settled_rule : List Effect
settled_rule =
    Begin 0 (write 131072 0 0 1 five) ∷ Begin 1 (write 131073 0 1 2 nine)
    ∷ AckInv 1 0 131072 Kind.Write (Some five) ∷ takes 2 (write 131072 0 0 1 five)
    ∷ NoteAck 0 1 131073 (waits (write 131072 0 0 1 five) []) (with_more 1 ∷ [])
    ∷ NoteAck 0 2 131072 (waits (write 131072 0 0 1 five) (with_more 1 ∷ [])) (exactly 2 ∷ with_more 1 ∷ [])
    ∷ FinishInvalid 0 (waits (write 131072 0 0 1 five) (exactly 2 ∷ with_more 1 ∷ [])) ∷ []

abbrev pub SettledRule : Type 0
SettledRule =
    IsWorked three settled_rule
    (calls 1 (op.Write five) ∷ calls 2 (op.Write nine) ∷ replies 1 Stored ∷ [])
    (changed 1 131072 ∷ [])
    × ((ends three settled_rule 0).phase ≡ Invalid)
    × (Allowed three (played (start three) (take 6 settled_rule)) (Settle 0 (waits (write 131072 0 0 1 five) (exactly 2 ∷ with_more 1 ∷ []))) → ⊥)

-- Two increments from one base, 2.0. Node 1 answers the INV of 3.0 by its own 3.1, and node 0 gives its own up.
abbrev pub two_increments : List Effect
two_increments =
    Begin 0 (write 131072 0 0 1 five) ∷ takes 1 (write 131072 0 0 1 five)
    ∷ NoteAck 0 1 131072 (waits (write 131072 0 0 1 five) []) (exactly 1 ∷ [])
    ∷ Settle 0 (waits (write 131072 0 0 1 five) (exactly 1 ∷ [])) ∷ TakeVal 1 0
    ∷ Begin 0 (increment 196608 131072 0 2) ∷ Begin 1 (increment 196609 131072 1 3)
    ∷ CounterInv 1 0 196608 Kind.Rmw (Some six) ∷ TakeInv 0 1 196609 Kind.Rmw (Some six) (aborted 3 1)
    ∷ NoteAck 1 0 196609 (waits (increment 196609 131072 1 3) []) (exactly 0 ∷ [])
    ∷ Settle 1 (waits (increment 196609 131072 1 3) (exactly 0 ∷ [])) ∷ []

abbrev pub TwoIncrements : Type 0
TwoIncrements =
    IsWorked two two_increments
    (calls 1 (op.Write five) ∷ replies 1 Stored ∷ calls 2 (op.Incr 1) ∷ calls 3 (op.Incr 1) ∷ replies 2 (aborted 3 1) ∷ replies 3 (Number 6) ∷ [])
    (changed 1 131072 ∷ changed 3 196609 ∷ [])

-- An increment is aborted at node 0 by a write of node 1; then both are dropped. Node 2 has it, replays it alone, and it
-- takes effect, once.
abbrev pub aborted_in_effect : List Effect
aborted_in_effect =
    Begin 0 (write 131072 0 0 1 five) ∷ takes 1 (write 131072 0 0 1 five) ∷ takes 2 (write 131072 0 0 1 five)
    ∷ NoteAck 0 1 131072 (waits (write 131072 0 0 1 five) []) (exactly 1 ∷ [])
    ∷ NoteAck 0 2 131072 (waits (write 131072 0 0 1 five) (exactly 1 ∷ [])) (exactly 2 ∷ exactly 1 ∷ [])
    ∷ Settle 0 (waits (write 131072 0 0 1 five) (exactly 2 ∷ exactly 1 ∷ [])) ∷ TakeVal 1 0
    ∷ Begin 0 (increment 196608 131072 0 2) ∷ Begin 1 (write 262145 131072 1 3 nine)
    ∷ takes 2 (increment 196608 131072 0 2) ∷ TakeInv 0 1 262145 Kind.Write (Some nine) (aborted 4 1)
    ∷ Install 2 3 ∷ StartReplay 2 ∷ Settle 2 (waits_again (increment 196608 131072 0 2) [])
    ∷ Serve 2 4 op.Read (Found six 196608) ∷ []

abbrev pub AbortedInEffect : Type 0
AbortedInEffect =
    IsWorked shrinking aborted_in_effect
    (calls 1 (op.Write five) ∷ replies 1 Stored ∷ calls 2 (op.Incr 1) ∷ calls 3 (op.Write nine) ∷ replies 2 (aborted 4 1) ∷ calls 4 op.Read ∷ replies 4 (Found six 196608) ∷ [])
    (changed 1 131072 ∷ changed 2 196608 ∷ looked 4 ∷ [])

-- A write of node 0 waits in Trans behind 2.1, whose VAL comes first and is kept: when the write completes, the key is
-- Valid, with the content of 2.1.
abbrev pub val_kept_in_trans : List Effect
val_kept_in_trans =
    Begin 0 (write 131072 0 0 1 five) ∷ Begin 1 (write 131073 0 1 2 nine)
    ∷ takes 0 (write 131073 0 1 2 nine) ∷ AckInv 1 0 131072 Kind.Write (Some five)
    ∷ NoteAck 1 0 131073 (waits (write 131073 0 1 2 nine) []) (exactly 0 ∷ [])
    ∷ Settle 1 (waits (write 131073 0 1 2 nine) (exactly 0 ∷ [])) ∷ KeepVal 0 1
    ∷ NoteAck 0 1 131073 (waits (write 131072 0 0 1 five) []) (with_more 1 ∷ [])
    ∷ FinishValid 0 (waits (write 131072 0 0 1 five) (with_more 1 ∷ [])) ∷ []

abbrev pub ValKeptInTrans : Type 0
ValKeptInTrans =
    IsWorked two val_kept_in_trans
    (calls 1 (op.Write five) ∷ calls 2 (op.Write nine) ∷ replies 2 Stored ∷ replies 1 Stored ∷ [])
    (changed 1 131072 ∷ changed 2 131073 ∷ [])
    × ((ends two (take 7 val_kept_in_trans) 0).phase ≡ Trans (waits (write 131072 0 0 1 five) []))
    × ((ends two val_kept_in_trans 0).phase ≡ Valid) × ((ends two val_kept_in_trans 0).content ≡ Some nine)

-- A joiner. Node 0 begins a write alone, installs the view with node 1 while it waits, and sends it again; node 1 copies
-- the row, acknowledges it, learns that it is Valid, gets ready and serves a read.
abbrev pub joiner : List Effect
joiner =
    Begin 0 (write 131072 0 0 1 five) ∷ Resend 0 (waits (write 131072 0 0 1 five) [])
    ∷ Refuse 0 2 op.Read (Busy (Row state.Write (record { version = 2; node = 0 })))
    ∷ InstallPending 0 2 (waits (write 131072 0 0 1 five) []) ∷ Install 1 2
    ∷ GiveRow 0 false ∷ CopyRow 1 0 131072 Kind.Write (Some five) false
    ∷ AckInv 1 0 131072 Kind.Write (Some five)
    ∷ NoteAck 0 1 131072 (waits (write 131072 0 0 1 five) []) (exactly 1 ∷ [])
    ∷ Settle 0 (waits (write 131072 0 0 1 five) (exactly 1 ∷ []))
    ∷ GiveRow 0 true ∷ CopyValid 1 0 131072 Kind.Write (Some five) ∷ PassRow 1 0 131072 Kind.Write (Some five) true
    ∷ GetReady 1 ∷ Serve 1 3 op.Read (Found five 131072) ∷ Quiet 0 ∷ []

abbrev pub Joiner : Type 0
Joiner =
    IsWorked growing joiner
    (calls 1 (op.Write five) ∷ calls 2 op.Read ∷ replies 2 (Busy (Row state.Write (record { version = 2; node = 0 }))) ∷ replies 1 Stored ∷ calls 3 op.Read ∷ replies 3 (Found five 131072) ∷ [])
    (changed 1 131072 ∷ looked 3 ∷ [])

-- A key is deleted, and added again. Between the two it holds nothing, with the tag of the deletion, and the next update
-- has a greater one.
abbrev pub deletion : Update
deletion = record { stamp = 196608; base = 131072; kind = Kind.Rmw; content = None; op = op.Delete; answer = Deleted; who = 0; call = 2 }

abbrev pub addition : Update
addition = record { stamp = 262145; base = 196608; kind = Kind.Rmw; content = Some nine; op = op.Add nine; answer = Stored; who = 1; call = 4 }

abbrev pub deleted_and_added : List Effect
deleted_and_added =
    Begin 0 (write 131072 0 0 1 five) ∷ takes 1 (write 131072 0 0 1 five)
    ∷ NoteAck 0 1 131072 (waits (write 131072 0 0 1 five) []) (exactly 1 ∷ [])
    ∷ Settle 0 (waits (write 131072 0 0 1 five) (exactly 1 ∷ []))
    ∷ Begin 0 deletion ∷ takes 1 deletion
    ∷ NoteAck 0 1 196608 (waits deletion []) (exactly 1 ∷ [])
    ∷ Settle 0 (waits deletion (exactly 1 ∷ [])) ∷ TakeVal 1 0
    ∷ Serve 1 3 op.Read Missing
    ∷ Begin 1 addition ∷ takes 0 addition
    ∷ NoteAck 1 0 262145 (waits addition []) (exactly 0 ∷ [])
    ∷ Settle 1 (waits addition (exactly 0 ∷ [])) ∷ []

abbrev pub DeletedAndAdded : Type 0
DeletedAndAdded =
    IsWorked two deleted_and_added
    (calls 1 (op.Write five) ∷ replies 1 Stored ∷ calls 2 op.Delete ∷ replies 2 Deleted ∷ calls 3 op.Read ∷ replies 3 Missing ∷ calls 4 (op.Add nine) ∷ replies 4 Stored ∷ [])
    (changed 1 131072 ∷ changed 2 196608 ∷ looked 3 ∷ changed 4 262145 ∷ [])
    × ((ends two (take 10 deleted_and_added) 1).content ≡ None) × ((ends two (take 10 deleted_and_added) 1).stamp ≡ 196608)

-- in some run the effect happens
pub record Possible (e : Effect) : Type 0 where
  pub V : ℕ → List ℕ
  pub before : RegisterState
  pub reached : Reached V before
  pub next : RegisterState
  pub happens : Happens V before e next

-- every kind of effect happens in some run
pub record EachHappens : Type 0 where
  pub begin : (n : ℕ) × (u : Update) × Possible (Begin n u)
  pub take_inv : (n m s : ℕ) × (kind : Kind) × (content : Option Content) × (why : Answer) × Possible (TakeInv n m s kind content why)
  pub ack_inv : (n m s : ℕ) × (kind : Kind) × (content : Option Content) × Possible (AckInv n m s kind content)
  pub counter_inv : (n m s : ℕ) × (kind : Kind) × (content : Option Content) × Possible (CounterInv n m s kind content)
  pub note_ack : (n m top : ℕ) × (p : WaitingUpdate) × (notes : List Note) × Possible (NoteAck n m top p notes)
  pub settle : (n : ℕ) × (p : WaitingUpdate) × Possible (Settle n p)
  pub finish_valid : (n : ℕ) × (p : WaitingUpdate) × Possible (FinishValid n p)
  pub finish_invalid : (n : ℕ) × (p : WaitingUpdate) × Possible (FinishInvalid n p)
  pub take_val : (n m : ℕ) × Possible (TakeVal n m)
  pub keep_val : (n m : ℕ) × Possible (KeepVal n m)
  pub start_replay : (n : ℕ) × Possible (StartReplay n)
  pub resend : (n : ℕ) × (p : WaitingUpdate) × Possible (Resend n p)
  pub install : (n e : ℕ) × Possible (Install n e)
  pub install_pending : (n e : ℕ) × (p : WaitingUpdate) × Possible (InstallPending n e p)
  pub give_row : (n : ℕ) × (valid : Bool) × Possible (GiveRow n valid)
  pub copy_row : (n m s : ℕ) × (kind : Kind) × (content : Option Content) × (valid : Bool) × Possible (CopyRow n m s kind content valid)
  pub pass_row : (n m s : ℕ) × (kind : Kind) × (content : Option Content) × (valid : Bool) × Possible (PassRow n m s kind content valid)
  pub copy_valid : (n m s : ℕ) × (kind : Kind) × (content : Option Content) × Possible (CopyValid n m s kind content)
  pub get_ready : (n : ℕ) × Possible (GetReady n)
  pub look : (n call : ℕ) × (o : Op) × (answer : Answer) × Possible (Serve n call o answer)
  pub refuse : (n call : ℕ) × (o : Op) × (answer : Answer) × Possible (Refuse n call o answer)
  pub quiet : (n : ℕ) × Possible (Quiet n)
