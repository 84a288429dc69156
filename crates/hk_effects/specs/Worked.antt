-- Worlds worked by hand, in which each of the register's 22 effects is seen: what a key has of the world after an event is what `done`
-- makes of the event's effects.
use Rattle.std.specs.Prelude.{◌≡◌, ℕ, zero, suc, true, List, [], ◌∷◌, ◌++◌, map, Some, None, Ok, ◌==◌, ⊤}
use Rattle.std.specs.List.{flat_map, list_any, list_all}
use Rattle.hk_base.specs.declared.call.Op.TheVariants.{Read, Write, Incr}
use Rattle.hk_base.specs.declared.call.Answer.TheVariants.{Found, Busy}
use Rattle.hk_base.specs.declared.call.Why.TheVariants as Why
use Rattle.hk_base.specs.declared.call.State.TheVariants.{Invalid}
use Rattle.hk_base.specs.declared.stamp.Kind.TheVariants as Kind
use Rattle.hk_base.specs.declared.letter.Actor.TheVariants as Actor
use Rattle.hk_base.specs.declared.view.Change.TheVariants.{Drop, Add}
use Rattle.hk_register.specs.Machine.{Each, Message, Mark, Marked, Update, RegisterState}
use Rattle.hk_register.specs.Effects.{Effect, done}
use Rattle.hk_register.specs.Effects.Effect.{Begin, TakeInv, AckInv, CounterInv, NoteAck, Settle, FinishValid, FinishInvalid, TakeVal}
use Rattle.hk_register.specs.Effects.Effect.{KeepVal, StartReplay, Resend, Install, InstallPending}
use Rattle.hk_register.specs.Effects.Effect.{GiveRow, CopyRow, PassRow, CopyValid, GetReady, Serve, Refuse, Quiet}
use Rattle.hk_register.specs.Runs.{after, played, Plays}
use Rattle.hk_register.specs.Worked.{five, six, nine, aborted, exactly, with_more, write, increment, waits, waits_again, takes}
use Rattle.hk_event.specs.declared.event.Event.{Event}
use Rattle.hk_event.specs.declared.event.Event.TheVariants as Event
use Rattle.hk_world.specs.Steps.{Accepted, world_step}
use Rattle.hk_world.specs.Sound.{IsEvent}
use Rattle.hk_world.specs.Worked.{managed, node, key, call, take, stamp}
use Rattle.hk_effects.specs.Projection.{Trace, project, letters_of, traced}
use Rattle.hk_effects.specs.Runs.{start_trace}
use Rattle.hk_effects.specs.Orders.{family}

-- An event, and the effects that it is for the key, one after the other. A letter of an effect has no addressee, where a
-- node sends one to each that it is for: `copies` is to how many the letters of this event go.
pub record Step : Type 0 where
  pub event : Event
  pub effects : List Effect
  pub copies : ℕ

-- an event that is one effect, and one that is two; a letter goes to the one other member
abbrev pub one : Event → Effect → Step
one event e = record { event = event; effects = e ∷ []; copies = 1 }

abbrev pub two : Event → Effect → Effect → Step
two event e f = record { event = event; effects = e ∷ f ∷ []; copies = 1 }

-- the same, with letters to each of so many members
abbrev pub sent_to : ℕ → Step → Step
sent_to n step = record step { copies = n }

-- what effects send, one after the other
abbrev pub sent_by : RegisterState → List Effect → List Message
sent_by st [] = []
sent_by st (e ∷ es) = (done st e).letters ++ sent_by (after st e) es

-- the marks that effects make
abbrev pub marked_by : RegisterState → List Effect → List Mark
marked_by st [] = []
marked_by st (e ∷ es) = (done st e).marks ++ marked_by (after st e) es

-- a letter so many times
abbrev pub repeated : ℕ → Message → List Message
repeated zero l = []
repeated (suc n) l = l ∷ repeated n l

-- no world here has more nodes
abbrev pub all_nodes : List ℕ
all_nodes = 0 ∷ 1 ∷ 2 ∷ []

-- The world accepts the event. The effects are allowed one after the other, under the agreed views, and what the key has of the world
-- afterwards is what they make of what it had: the parts of the nodes, the letters that are sent, the updates and the history. Their
-- marks are made too; a world makes more of them.
pub record Shows (k : List ℕ) (t : Trace) (step : Step) (a : Accepted) : Type 0 where
  pub accepted : world_step t.world step.event ≡ Ok a
  pub is_event : IsEvent step.event
  pub are_allowed : Plays (family t.world.views) (project k t) step.effects
  pub nodes : map (project k (traced k t step.event a)).node all_nodes ≡ map (played (project k t) step.effects).node all_nodes
  pub letters : letters_of k a.shown.letters ≡ flat_map (repeated step.copies) (sent_by (project k t) step.effects)
  pub marks : Each (Marked (project k (traced k t step.event a))) (marked_by (project k t) step.effects)
  pub begun : (traced k t step.event a).begun ≡ (played (project k t) step.effects).begun
  pub history : (traced k t step.event a).history ≡ (played (project k t) step.effects).history

-- so does each event, one after the other
abbrev pub ShowsAll : List ℕ → Trace → List Step → Type 0
ShowsAll k t [] = ⊤
ShowsAll k t (step ∷ steps) = (a : Accepted) × Shows k t step a × ShowsAll k (traced k t step.event a) steps

-- from a group of so many founders and managers
abbrev pub WorkedWith : ℕ → ℕ → List Step → Type 0
WorkedWith nodes managers steps = ShowsAll key (start_trace (managed nodes managers 0)) steps

-- and from one without managers
abbrev pub Worked : ℕ → List Step → Type 0
Worked nodes steps = WorkedWith nodes 0 steps

-- the first writes of nodes 0 and 1, and then an increment of each
abbrev pub by_zero : Update
by_zero = write 131072 0 0 1 five

abbrev pub by_one : Update
by_one = write 131073 0 1 2 nine

abbrev pub more_by_zero : Update
more_by_zero = increment 196608 131072 0 2

abbrev pub more_by_one : Update
more_by_one = increment 196609 131072 1 3

-- Both nodes write at once, and the VAL of the higher write comes while the lower one waits in Trans: Begin, TakeInv, AckInv,
-- NoteAck, Settle, KeepVal, FinishValid and Serve.
abbrev pub val_kept : List Step
val_kept =
    one (call 0 (Write five)) (Begin 0 by_zero)
    ∷ one (call 1 (Write nine)) (Begin 1 by_one)
    ∷ one (take 2) (takes 0 by_one)
    ∷ one (take 1) (AckInv 1 0 131072 Kind.Write (Some five))
    ∷ two (take 3) (NoteAck 1 0 131073 (waits by_one []) (exactly 0 ∷ [])) (Settle 1 (waits by_one (exactly 0 ∷ [])))
    ∷ one (take 5) (KeepVal 0 1)
    ∷ two (take 4) (NoteAck 0 1 131073 (waits by_zero []) (with_more 1 ∷ [])) (FinishValid 0 (waits by_zero (with_more 1 ∷ [])))
    ∷ one (call 0 Read) (Serve 0 3 Read (Found nine 131073))
    ∷ []

-- Of three nodes two write at once. The lower write is acknowledged by a node with a higher one, and so its key is Invalid when it
-- completes: NoteAck alone, FinishInvalid and Refuse.
abbrev pub left_invalid : List Step
left_invalid =
    sent_to 2 (one (call 0 (Write five)) (Begin 0 by_zero))
    ∷ sent_to 2 (one (call 1 (Write nine)) (Begin 1 by_one))
    ∷ one (take 1) (AckInv 1 0 131072 Kind.Write (Some five))
    ∷ one (take 2) (takes 2 by_zero)
    ∷ one (take 5) (NoteAck 0 1 131073 (waits by_zero []) (with_more 1 ∷ []))
    ∷ two (take 6) (NoteAck 0 2 131072 (waits by_zero (with_more 1 ∷ [])) (with_more 1 ∷ exactly 2 ∷ []))
    (FinishInvalid 0 (waits by_zero (with_more 1 ∷ exactly 2 ∷ [])))
    ∷ one (call 0 Read) (Refuse 0 3 Read (Busy (Why.Row Invalid (stamp 2 0))))
    ∷ []

-- Two increments of one base. The lower one is answered by the higher one, and given up: TakeVal, CounterInv, and TakeInv that drops
-- a call.
abbrev pub countered : List Step
countered =
    one (call 0 (Write five)) (Begin 0 by_zero)
    ∷ one (take 1) (takes 1 by_zero)
    ∷ two (take 2) (NoteAck 0 1 131072 (waits by_zero []) (exactly 1 ∷ [])) (Settle 0 (waits by_zero (exactly 1 ∷ [])))
    ∷ one (take 3) (TakeVal 1 0)
    ∷ one (call 0 (Incr 1)) (Begin 0 more_by_zero)
    ∷ one (call 1 (Incr 1)) (Begin 1 more_by_one)
    ∷ one (take 4) (CounterInv 1 0 196608 Kind.Rmw (Some six))
    ∷ one (take 5) (TakeInv 0 1 196609 Kind.Rmw (Some six) (aborted 3 1))
    ∷ two (take 7) (NoteAck 1 0 196609 (waits more_by_one []) (exactly 0 ∷ [])) (Settle 1 (waits more_by_one (exactly 0 ∷ [])))
    ∷ []

-- The coordinator crashes, and in a later view the other node replays its write to a joiner: Quiet, Install, StartReplay and Resend.
abbrev pub replayed : List Step
replayed =
    one (call 0 (Write five)) (Begin 0 by_zero)
    ∷ one (take 1) (takes 1 by_zero)
    ∷ one (Event.Crash (Actor.Node (node 0))) (Quiet 0)
    ∷ one (Event.Agree (Drop (node 0))) (Quiet 0)
    ∷ one (Event.Agree Add) (Quiet 0)
    ∷ one (Event.Start (node 2)) (Quiet 2)
    ∷ one (Event.Install (node 1) 3) (Install 1 3)
    ∷ one (Event.Install (node 2) 3) (Install 2 3)
    ∷ one (Event.Replay (node 1) key) (StartReplay 1)
    ∷ one (Event.Resend (node 1) key) (Resend 1 (waits_again by_zero []))
    ∷ one (take 3) (TakeInv 2 1 131072 Kind.Write (Some five) (aborted 0 0))
    ∷ two (take 5) (NoteAck 1 2 131072 (waits_again by_zero []) (exactly 2 ∷ [])) (Settle 1 (waits_again by_zero (exactly 2 ∷ [])))
    ∷ one (take 6) (TakeVal 2 1)
    ∷ []

-- A write waits when its node installs a view, whose other member is new: InstallPending.
abbrev pub pending_installed : List Step
pending_installed =
    one (call 0 (Write five)) (Begin 0 by_zero)
    ∷ one (Event.Crash (Actor.Node (node 1))) (Quiet 1)
    ∷ one (Event.Agree (Drop (node 1))) (Quiet 0)
    ∷ one (Event.Agree Add) (Quiet 0)
    ∷ one (Event.Install (node 0) 3) (InstallPending 0 3 (waits by_zero []))
    ∷ []

-- The same, where the node is left alone: the write is complete at once, and no letter is sent.
abbrev pub left_alone : List Step
left_alone =
    one (call 0 (Write five)) (Begin 0 by_zero)
    ∷ one (Event.Crash (Actor.Node (node 1))) (Quiet 1)
    ∷ one (Event.Agree (Drop (node 1))) (Quiet 0)
    ∷ sent_to 0 (two (Event.Install (node 0) 2) (InstallPending 0 2 (waits by_zero [])) (Settle 0 (waits by_zero [])))
    ∷ []

-- A write waits when the one manager of two founders drops the other one. The manager agrees with itself by letters 2 to 5, and lets
-- the view begin once the lease of that node has run out. The ACTIVATE installs it, and the write is complete. Then the node is
-- granted a lease, and reads what it wrote: no key sees anything of what the manager says, and sees the install alone.
abbrev pub view_begun : List Step
view_begun =
    one (call 0 (Write five)) (Begin 0 by_zero)
    ∷ one (Event.Propose 0 1 (Drop (node 1))) (Quiet 0)
    ∷ one (take 2) (Quiet 0)
    ∷ one (take 3) (Quiet 0)
    ∷ one (take 4) (Quiet 0)
    ∷ one (take 5) (Quiet 0)
    ∷ one (Event.TickAll 2000) (Quiet 0)
    ∷ one (Event.Activate 0) (Quiet 0)
    ∷ sent_to 0 (two (take 6) (InstallPending 0 2 (waits by_zero [])) (Settle 0 (waits by_zero [])))
    ∷ one (Event.AskLease (node 0) 0) (Quiet 0)
    ∷ one (take 7) (Quiet 0)
    ∷ one (take 8) (Quiet 0)
    ∷ one (call 0 Read) (Serve 0 2 Read (Found five 131072))
    ∷ []

-- a key behind the other one
abbrev pub behind : List ℕ
behind = 108 ∷ []

-- A joiner copies two keys, one at a time, from a founder that wrote them alone: Install, GiveRow, CopyRow and GetReady, each by
-- itself, Quiet for what is done with the other key, and Serve at the joiner.
abbrev pub joined : List Step
joined =
    sent_to 0 (two (call 0 (Write five)) (Begin 0 by_zero) (Settle 0 (waits by_zero [])))
    ∷ one (Event.Call (node 0) behind (Write nine)) (Quiet 0)
    ∷ one (Event.Agree Add) (Quiet 0)
    ∷ one (Event.Start (node 1)) (Quiet 1)
    ∷ one (Event.Install (node 1) 2) (Install 1 2)
    ∷ one (Event.Install (node 0) 2) (Install 0 2)
    ∷ one (Event.Copy (node 1) (node 0) 1) (Quiet 1)
    ∷ one (take 1) (GiveRow 0 true)
    ∷ one (take 2) (CopyRow 1 0 131072 Kind.Write (Some five) true)
    ∷ one (Event.Copy (node 1) (node 0) 1) (Quiet 1)
    ∷ one (take 3) (Quiet 0)
    ∷ one (take 4) (GetReady 1)
    ∷ one (Event.Lease (node 1) 1000) (Quiet 1)
    ∷ one (call 1 Read) (Serve 1 3 Read (Found five 131072))
    ∷ []

-- a joiner of one founder, before it copies anything
abbrev pub joining : List Step
joining =
    one (Event.Agree Add) (Quiet 0)
    ∷ one (Event.Start (node 1)) (Quiet 1)
    ∷ one (Event.Install (node 1) 2) (Install 1 2)
    ∷ one (Event.Install (node 0) 2) (Install 0 2)
    ∷ []

-- A joiner has a write by its INV when it is given the key, Valid at the same stamp: CopyValid. The batch is the last, so that the
-- joiner is ready too.
abbrev pub copied_valid : List Step
copied_valid =
    joining
    ++ (one (call 0 (Write five)) (Begin 0 by_zero)
    ∷ one (take 1) (takes 1 by_zero)
    ∷ one (Event.Copy (node 1) (node 0) 9) (Quiet 1)
    ∷ two (take 2) (NoteAck 0 1 131072 (waits by_zero []) (exactly 1 ∷ [])) (Settle 0 (waits by_zero (exactly 1 ∷ [])))
    ∷ one (take 3) (GiveRow 0 true)
    ∷ two (take 5) (CopyValid 1 0 131072 Kind.Write (Some five)) (GetReady 1)
    ∷ [])

-- A joiner takes the INV of a write that was begun after the key was given to it: PassRow.
abbrev pub passed : List Step
passed =
    joining
    ++ (one (Event.Copy (node 1) (node 0) 9) (Quiet 1)
    ∷ one (take 1) (GiveRow 0 true)
    ∷ one (call 0 (Write five)) (Begin 0 by_zero)
    ∷ one (take 3) (takes 1 by_zero)
    ∷ two (take 2) (PassRow 1 0 0 Kind.Write None true) (GetReady 1)
    ∷ [])

-- ---- what is proved of them
abbrev pub ValKept : Type 0
ValKept = Worked 2 val_kept

abbrev pub LeftInvalid : Type 0
LeftInvalid = Worked 3 left_invalid

abbrev pub Countered : Type 0
Countered = Worked 2 countered

abbrev pub Replayed : Type 0
Replayed = Worked 2 replayed

abbrev pub PendingInstalled : Type 0
PendingInstalled = Worked 2 pending_installed

abbrev pub LeftAlone : Type 0
LeftAlone = Worked 2 left_alone

abbrev pub ViewBegun : Type 0
ViewBegun = WorkedWith 2 1 view_begun

abbrev pub Joined : Type 0
Joined = Worked 1 joined

abbrev pub CopiedValid : Type 0
CopiedValid = Worked 1 copied_valid

abbrev pub Passed : Type 0
Passed = Worked 1 passed

-- ---- no effect is left out
-- the place of an effect in the list of all 22
abbrev pub place : Effect → ℕ
place (Begin n u) = 1
place (TakeInv n m s kind content why) = 2
place (AckInv n m s kind content) = 3
place (CounterInv n m s kind content) = 4
place (NoteAck n m top p notes) = 5
place (Settle n p) = 6
place (FinishValid n p) = 7
place (FinishInvalid n p) = 8
place (TakeVal n m) = 9
place (KeepVal n m) = 10
place (StartReplay n) = 11
place (Resend n p) = 12
place (Install n e) = 13
place (InstallPending n e p) = 14
place (GiveRow n valid) = 15
place (CopyRow n m s kind content valid) = 16
place (PassRow n m s kind content valid) = 17
place (CopyValid n m s kind content) = 18
place (GetReady n) = 19
place (Serve n call op answer) = 20
place (Refuse n call op answer) = 21
place (Quiet n) = 22

abbrev pub effects_in : List Step → List Effect
effects_in steps = flat_map (λ (s : Step). s.effects) steps

-- the effects of all these runs
abbrev pub worked_effects : List Effect
worked_effects = effects_in (val_kept ++ left_invalid ++ countered ++ replayed ++ pending_installed ++ left_alone ++ joined ++ copied_valid ++ passed)

abbrev pub places : List ℕ
places = 1 ∷ 2 ∷ 3 ∷ 4 ∷ 5 ∷ 6 ∷ 7 ∷ 8 ∷ 9 ∷ 10 ∷ 11 ∷ 12 ∷ 13 ∷ 14 ∷ 15 ∷ 16 ∷ 17 ∷ 18 ∷ 19 ∷ 20 ∷ 21 ∷ 22 ∷ []

-- at each place there is an effect of some run
abbrev pub EachOccurs : Type 0
EachOccurs = list_all (λ k. list_any (λ e. place e == k) worked_effects) places ≡ true
