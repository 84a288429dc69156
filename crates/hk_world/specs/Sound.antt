-- What every world keeps, which headers and events there are, and what a step tells.
use Rattle.std.specs.Prelude.{◌≡◌, ℕ, ◌+◌, ◌<◌, ◌≤◌, List, [], length, true, Some, Result, Ok, Err, ⊤}
use Rattle.std.specs.List.{AllByRecursion}
use Rattle.std.specs.List.Sorted.{IsStrictlySortedBy}
use Rattle.std.specs.Map.{keys_of}
use Rattle.hk_base.specs.declared.stamp.NodeId.{NodeId}
use Rattle.hk_base.specs.declared.letter.Actor.{Actor}
use Rattle.hk_base.specs.declared.time.TheConstants.{MAX_TIME}
use Rattle.hk_base.specs.declared.view.View.{View}
use Rattle.hk_base.specs.View.{IsView}
use Rattle.hk_base.specs.Range.{IsLetter, IsRoom, IsActor}
use Rattle.hk_clocks.specs.Clocks.{clock_of}
use Rattle.hk_clocks.specs.Sound.{AreClocks}
use Rattle.hk_manager.specs.Sound.{IsManager}
use Rattle.hk_node.specs.Sound.{IsNode}
use Rattle.hk_event.specs.declared.event.Header.{Header}
use Rattle.hk_event.specs.declared.event.Event.{Event}
use Rattle.hk_event.specs.declared.event.Event.TheVariants.{Call, Take, Tick, TickAll, Crash, Resend, Replay, Copy, Start, Agree, Install, Lease, AskLease, Propose, Activate}
use Rattle.hk_event.specs.declared.refused.Refused.{Refused as Refusal}
use Rattle.hk_world.specs.declared.fault.WorldFault.{WorldFault}
use Rattle.hk_world.specs.declared.fault.WorldFault.TheVariants.{Memory, Refused}
use Rattle.hk_world.specs.declared.process.Process.{Process}
use Rattle.hk_world.specs.declared.process.ManagerProcess.{ManagerProcess}
use Rattle.hk_world.specs.declared.shown.Shown.{Shown}
use Rattle.hk_world.specs.World.{WorldState, by_number, manager_at, clocks_of, live_clock, numbered}
use Rattle.hk_world.specs.Steps.{Accepted, world_step, was_member}

pub record IsHeader (h : Header) : Type 0 where
  pub some : 1 ≤ h.nodes
  pub few : h.nodes ≤ 16
  pub managers : h.managers ≤ 9
  pub lease : h.lease ≤ MAX_TIME
  pub skew : h.skew ≤ MAX_TIME

-- times are within the limit, and a batch has room for 1 to 64 rows
abbrev pub IsEvent : Event → Type 0
IsEvent (Call id key op) = ⊤
IsEvent (Take letter) = ⊤
IsEvent (Tick actor to) = IsActor actor × (to ≤ MAX_TIME)
IsEvent (TickAll to) = to ≤ MAX_TIME
IsEvent (Crash actor) = IsActor actor
IsEvent (Resend id key) = ⊤
IsEvent (Replay id key) = ⊤
IsEvent (Copy id from room) = IsRoom room
IsEvent (Start id) = ⊤
IsEvent (Agree change) = ⊤
IsEvent (Install id epoch) = ⊤
IsEvent (Lease id end) = end ≤ MAX_TIME
IsEvent (AskLease id manager) = manager < 9
IsEvent (Propose manager base change) = manager < 9
IsEvent (Activate manager) = manager < 9

-- each process stands under its node's number, and its node is one of this world's
pub record IsProcess (world : WorldState) (p : NodeId × Process) : Type 0 where
  pub own : p.1.node.id ≡ p.0
  pub same_skew : p.1.node.skew ≡ world.skew
  pub managed : p.1.node.managers ≡ length world.managers
  pub node : IsNode p.1.node

-- each manager has its number, and is one of this world's
pub record IsManagerProcess (world : WorldState) (m : ℕ) (p : ManagerProcess) : Type 0 where
  pub own : p.manager.id ≡ m
  pub among : p.manager.managers ≡ length world.managers
  pub same_lease : p.manager.lease ≡ world.lease
  pub manager : IsManager p.manager

-- the views are numbered by their epochs, `next` does not fall from one to a later one, and a number below it was a member of this view or of an earlier one
pub record AreViews (views : List View) : Type 0 where
  pub some : 1 ≤ length views
  pub each : AllByRecursion IsView views
  pub epochs : (e : ℕ) (view : View) → numbered e views ≡ Some view → view.epoch ≡ e
  pub rising : (e f : ℕ) (earlier later : View) → numbered e views ≡ Some earlier → numbered f views ≡ Some later → e ≤ f → earlier.next ≤ later.next
  pub given : (e : ℕ) (view : View) → numbered e views ≡ Some view → (id : NodeId) → id.0 < view.next → was_member views (e + 1) id ≡ true

pub record IsWorld (world : WorldState) : Type 0 where
  pub skew : world.skew ≤ MAX_TIME
  pub lease : world.lease ≤ MAX_TIME
  pub ordered : IsStrictlySortedBy by_number (keys_of world.processes)
  pub processes : AllByRecursion (IsProcess world) world.processes
  pub few : length world.managers ≤ 9
  pub managers : (m : ℕ) (p : ManagerProcess) → manager_at m world.managers ≡ Some p → IsManagerProcess world m p
  pub clocks : AreClocks (clocks_of world)
  -- the clocks that are kept are just those of the live actors, and read what these read
  pub paced : (a : Actor) → clock_of world.paces a ≡ live_clock world a
  pub letters : AllByRecursion IsLetter world.letters
  pub some : 1 ≤ length world.views
  pub each : AllByRecursion IsView world.views
  -- with managers it is the agreement among them that numbers the views
  pub views : world.managers ≡ [] → AreViews world.views

-- What a step tells, by what the definition makes of it: what was shown, and then the world is the next one; or why it was
-- refused. After that, and after want of memory, the world is as it was.
abbrev pub IsAnswerOf : Result Shown WorldFault → WorldState → WorldState → Result Accepted Refusal → Type 0
IsAnswerOf (Ok shown) old new made = (told : _) × (made ≡ Ok (record { world = new; told = told; shown = shown }))
IsAnswerOf (Err Memory) old new made = new ≡ old
IsAnswerOf (Err (Refused refused)) old new made = (made ≡ Err refused) × (new ≡ old)

abbrev pub IsStepOf : Result Shown WorldFault → WorldState → WorldState → Event → Type 0
IsStepOf result old new event = IsAnswerOf result old new (world_step old event)
