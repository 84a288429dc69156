-- Worlds worked by hand: what their events answer, or why they are refused.
use Rattle.std.specs.Prelude.{◌≡◌, ℕ, List, [], ◌∷◌, Result, Ok, Err}
use Rattle.hk_base.specs.declared.stamp.NodeId.{NodeId}
use Rattle.hk_base.specs.declared.stamp.Stamp.{Stamp}
use Rattle.hk_base.specs.declared.call.Content.{Content}
use Rattle.hk_base.specs.declared.call.Op.{Op}
use Rattle.hk_base.specs.declared.call.Op.TheVariants.{Read, Write, Incr}
use Rattle.hk_base.specs.declared.call.Answer.{Answer}
use Rattle.hk_base.specs.declared.call.Answer.TheVariants.{Found, Stored, Number, Busy, Aborted}
use Rattle.hk_base.specs.declared.call.Why.TheVariants as Why
use Rattle.hk_base.specs.declared.call.State.TheVariants.{Invalid}
use Rattle.hk_base.specs.declared.call.Reply.{Reply}
use Rattle.hk_base.specs.declared.letter.Actor.TheVariants.{Node}
use Rattle.hk_base.specs.declared.view.Change.TheVariants.{Drop, Add}
use Rattle.hk_event.specs.declared.event.Header.{Header}
use Rattle.hk_event.specs.declared.event.Event.{Event}
use Rattle.hk_event.specs.declared.event.Event.TheVariants.{Call, Take, Tick, TickAll, Crash, Replay, Copy, Start, Agree, Install, Lease, AskLease, Propose, Activate}
use Rattle.hk_event.specs.declared.refused.Refused.{Refused}
use Rattle.hk_event.specs.declared.refused.Refused.TheVariants.{Crashed, LeaseRuns, Managed, NotMember, NotPast, ClockFalls, Skew}
use Rattle.hk_world.specs.World.{WorldState}
use Rattle.hk_world.specs.Start.{start}
use Rattle.hk_world.specs.Steps.{Accepted, world_step}

-- what one event tells: its replies, or the refusal
abbrev pub Told : Type 0
Told = Result (List Reply) Refused

abbrev pub told_by : Result Accepted Refused → Told
told_by (Ok a) = Ok a.shown.replies
told_by (Err refused) = Err refused

-- the world after an event; after a refusal it is as it was
abbrev pub world_after : WorldState → Result Accepted Refused → WorldState
world_after world (Ok a) = a.world
world_after world (Err refused) = world

-- what each of the events tells, one after the other
abbrev pub tells : WorldState → List Event → List Told
tells world [] = []
tells world (event ∷ events) = told_by (world_step world event) ∷ tells (world_after world (world_step world event)) events

abbrev pub managed : ℕ → ℕ → ℕ → Header
managed nodes managers skew = record { nodes = nodes; managers = managers; lease = 1000; skew = skew }

abbrev pub group : ℕ → ℕ → Header
group nodes skew = managed nodes 0 skew

abbrev pub node : ℕ → NodeId
node n = record { 0 = n }

abbrev pub key : List ℕ
key = 107 ∷ []

abbrev pub content : Content
content = record { flags = 0; bytes = 97 ∷ [] }

abbrev pub call : ℕ → Op → Event
call n op = Call (node n) key op

abbrev pub take : ℕ → Event
take n = Take n

abbrev pub tick : ℕ → ℕ → Event
tick n to = Tick (Node (node n)) to

abbrev pub stamp : ℕ → ℕ → Stamp
stamp version n = record { version = version; node = n }

abbrev pub reply : ℕ → Answer → Reply
reply n answer = record { call = record { 0 = n }; answer = answer }

abbrev pub quiet : Told
quiet = Ok []

abbrev pub says : ℕ → Answer → Told
says n answer = Ok (reply n answer ∷ [])

-- a group of one answers at once
abbrev pub AloneAnswers : Type 0
AloneAnswers = tells (start (group 1 0)) (call 0 (Write content) ∷ call 0 Read ∷ []) ≡ says 1 Stored ∷ says 2 (Found content 131072) ∷ []

-- A write of node 0 is answered after both acknowledgements. Before the VAL the others are Busy, afterwards they read it.
abbrev pub OthersRead : Type 0
OthersRead = tells (start (group 3 0)) (call 0 (Write content) ∷ take 1 ∷ call 1 Read ∷ take 2 ∷ take 3 ∷ take 4 ∷ take 5 ∷ call 1 Read ∷ call 2 Read ∷ []) ≡
    quiet ∷ quiet ∷ says 2 (Busy (Why.Row Invalid (stamp 2 0))) ∷ quiet ∷ quiet ∷ says 1 Stored ∷ quiet ∷ says 3 (Found content 131072) ∷ says 4 (Busy (Why.Row Invalid (stamp 2 0))) ∷ []

-- Node 1 wrote above the update of node 0 before it acknowledged it: that completes and is answered, and its key is Invalid.
abbrev pub HigherTopLeavesInvalid : Type 0
HigherTopLeavesInvalid = tells (start (group 3 0)) (call 0 (Write content) ∷ call 1 (Write content) ∷ take 1 ∷ take 2 ∷ take 5 ∷ take 6 ∷ call 2 (Incr 1) ∷ call 0 Read ∷ []) ≡
    quiet ∷ quiet ∷ quiet ∷ quiet ∷ quiet ∷ says 1 Stored ∷ says 3 (Busy (Why.Row Invalid (stamp 2 0))) ∷ says 4 (Busy (Why.Row Invalid (stamp 2 0))) ∷ []

abbrev pub five : Content
five = record { flags = 0; bytes = 53 ∷ [] }

-- Two increments of one base: the lower one is countered and given up, and the other one is answered.
abbrev pub OneIncrementWins : Type 0
OneIncrementWins = tells (start (group 2 0)) (call 0 (Write five) ∷ take 1 ∷ take 2 ∷ take 3 ∷ call 0 (Incr 1) ∷ call 1 (Incr 1) ∷ take 4 ∷ take 5 ∷ take 7 ∷ take 6 ∷ take 8 ∷ []) ≡
    quiet ∷ quiet ∷ says 1 Stored ∷ quiet ∷ quiet ∷ quiet ∷ quiet ∷ says 2 (Aborted (stamp 3 1)) ∷ says 3 (Number 6) ∷ quiet ∷ quiet ∷ []

-- The coordinator of an unanswered write crashes. In the next view another node replays it, and it is read.
abbrev pub ReplayCompletes : Type 0
ReplayCompletes = tells (start (group 3 0)) (call 0 (Write content) ∷ take 1 ∷ Crash (Node (node 0)) ∷ Agree (Drop (node 0)) ∷ Install (node 1) 2 ∷ Install (node 2) 2
    ∷ Replay (node 1) key ∷ take 4 ∷ take 5 ∷ call 1 Read ∷ take 3 ∷ call 0 Read ∷ []) ≡
    quiet ∷ quiet ∷ quiet ∷ quiet ∷ quiet ∷ quiet ∷ quiet ∷ quiet ∷ quiet ∷ says 2 (Found content 131072) ∷ Err Crashed ∷ Err Crashed ∷ []

-- The lease of a node that a view leaves out runs for one millisecond more: its install waits, and the node is granted no other.
abbrev pub LeaseRunsOut : Type 0
LeaseRunsOut = tells (start (group 2 10)) (Agree (Drop (node 1)) ∷ TickAll 990 ∷ Install (node 0) 2 ∷ TickAll 991 ∷ Install (node 0) 2 ∷ call 1 Read ∷ Lease (node 1) 3000 ∷ []) ≡
    quiet ∷ quiet ∷ Err (LeaseRuns (node 1) 1000) ∷ quiet ∷ quiet ∷ says 1 (Busy (Why.Lease 1000 991)) ∷ Err NotMember ∷ []

-- A clock does not run ahead of another by more than the skew beside one part in ten: where node 1 has gone by 10, node 0 may go by 11
-- more, less what it is ahead.
abbrev pub ClocksKeepTheRate : Type 0
ClocksKeepTheRate = tells (start (group 2 10)) (tick 0 11 ∷ tick 1 12 ∷ tick 1 11 ∷ tick 0 22 ∷ tick 0 21 ∷ TickAll 20 ∷ []) ≡
    quiet ∷ Err (Skew 12 11) ∷ quiet ∷ Err (Skew 22 11) ∷ quiet ∷ Err (ClockFalls 21) ∷ []

-- A joiner is Busy, whatever lease it has, until it has copied the rows.
abbrev pub JoinerCopies : Type 0
JoinerCopies = tells (start (group 1 0)) (call 0 (Write content) ∷ Agree Add ∷ Start (node 1) ∷ Lease (node 1) 1000 ∷ Install (node 1) 2 ∷ Install (node 0) 2
    ∷ call 1 Read ∷ Copy (node 1) (node 0) 9 ∷ take 1 ∷ take 2 ∷ call 1 Read ∷ []) ≡
    says 1 Stored ∷ quiet ∷ quiet ∷ quiet ∷ quiet ∷ quiet ∷ says 2 (Busy (Why.Lease 0 1)) ∷ quiet ∷ quiet ∷ quiet ∷ says 3 (Found content 131072) ∷ []

-- A manager proposes to drop node 1, and by its own promise and acceptance the view is chosen. It lets it begin once its clock is
-- past the wait for the lease of node 1, which has run out there. Node 0 installs it, gets a lease, and answers alone.
abbrev pub ManagersChangeTheView : Type 0
ManagersChangeTheView = tells (start (managed 2 1 10)) (Agree (Drop (node 1)) ∷ Propose 0 1 (Drop (node 1)) ∷ take 1 ∷ take 2 ∷ take 3 ∷ take 4 ∷ TickAll 1100 ∷ Activate 0
    ∷ TickAll 1101 ∷ Activate 0 ∷ take 5 ∷ AskLease (node 0) 0 ∷ take 6 ∷ take 7 ∷ call 0 (Write content) ∷ call 1 Read ∷ []) ≡
    Err Managed ∷ quiet ∷ quiet ∷ quiet ∷ quiet ∷ quiet ∷ quiet ∷ Err (NotPast (node 1) 1100)
    ∷ quiet ∷ quiet ∷ quiet ∷ quiet ∷ quiet ∷ quiet ∷ says 1 Stored ∷ says 2 (Busy (Why.Lease 1000 1101)) ∷ []
