-- The calls that a storm draws, those that runs have, and whether these are the same.
use Rattle.std.specs.Prelude.{◌≡◌, ◌≢◌, ◌⊎◌, ◌<◌, ℕ, zero, suc, ◌+◌, ◌*◌, ◌%◌, List, [], ◌∷◌, ◌++◌, length, Option, Some, None, Result, Ok, Err, slice_get, ⊤}
use Rattle.hk_base.specs.declared.stamp.NodeId.{NodeId}
use Rattle.hk_base.specs.declared.call.Op.{Op}
use Rattle.hk_base.specs.declared.memory.Memory.{Memory}
use Rattle.hk_event.specs.declared.event.Event.{Event}
use Rattle.hk_event.specs.declared.event.Event.TheVariants.{Call}
use Rattle.rand_pcg.specs.Lcg.{Lcg}
use Rattle.hk_script.specs.Drawn.{numbers_from, ask_drawn}
use Rattle.hk_safety.specs.Run.{RunState}
use Rattle.hk_storm.specs.declared.opts.StormOpts.{StormOpts}
use Rattle.hk_storm.specs.declared.calls.StormCall.{StormCall}
use Rattle.hk_storm.specs.declared.compare.Unlike.{Unlike}

-- ---- drawn calls
-- Callers take turns: so many make the calls as there are nodes and workers at each. A caller's node is its number's, modulo the nodes. Calls and callers are counted from 0.
abbrev pub caller_node : StormOpts → ℕ → NodeId
caller_node opts place = record { 0 = (place % (opts.nodes * opts.workers)) % opts.nodes }

abbrev pub call_at : StormOpts → ℕ → List ℕ × Op → StormCall
call_at opts place asked = record { node = caller_node opts place; key = asked.0; op = asked.1 }

-- the call at this place, and what draws the calls behind it
abbrev pub next_call : StormOpts → ℕ → Lcg → StormCall × Lcg
next_call opts place g = (call_at opts place (ask_drawn g).0, (ask_drawn g).1)

-- so many calls from this one on
unfoldable pub drawn_from : StormOpts → Lcg → ℕ → ℕ → List StormCall
drawn_from opts g place zero = []
drawn_from opts g place (suc left) = call_at opts place (ask_drawn g).0 ∷ drawn_from opts (ask_drawn g).1 (place + 1) left

abbrev pub drawn_calls : StormOpts → List StormCall
drawn_calls opts = drawn_from opts (numbers_from opts.start) 0 opts.calls

-- ---- the calls of runs
abbrev pub called : Event → List StormCall
called (Call node key op) = record { node = node; key = key; op = op } ∷ []
called event = []

abbrev pub called_at : Option Event → List StormCall
called_at None = []
called_at (Some event) = called event

abbrev pub calls_in : List Event → List StormCall
calls_in [] = []
calls_in (event ∷ events) = called event ++ calls_in events

abbrev pub calls_of : RunState → List StormCall
calls_of run = calls_in run.events

abbrev pub all_calls : List RunState → List StormCall
all_calls [] = []
all_calls (run ∷ runs) = calls_of run ++ all_calls runs

-- ---- how often
-- the call stands so many times in the list
abbrev pub Stands : StormCall → List StormCall → ℕ → Type 0
Stands call [] n = n ≡ 0
Stands call (c ∷ calls) n = ((c ≡ call) × (m : ℕ) × (n ≡ m + 1) × Stands call calls m) ⊎ ((c ≢ call) × Stands call calls n)

-- it stands as often in both
abbrev pub IsAsOften : StormCall → List StormCall → List StormCall → Type 0
IsAsOften call drawn made = (n : ℕ) × Stands call drawn n × Stands call made n

abbrev pub AreAsOften : List StormCall → List StormCall → ℕ → Type 0
AreAsOften drawn made place = (i : ℕ) (call : StormCall) → i < place → slice_get drawn i ≡ Some call → IsAsOften call drawn made

-- the calls that were made are just the drawn ones
pub record AreDrawn (drawn made : List StormCall) : Type 0 where
  pub each : (i : ℕ) (call : StormCall) → slice_get drawn i ≡ Some call → IsAsOften call drawn made
  pub all : length made ≡ length drawn

-- the first drawn call that was made more or less often than it was drawn
pub record IsFirstUnlike (drawn made : List StormCall) (unlike : Unlike) : Type 0 where
  pub place : ℕ
  pub call : StormCall
  pub there : slice_get drawn place ≡ Some call
  pub number : unlike.call ≡ place + 1
  pub drawn_times : Stands call drawn unlike.drawn
  pub made_times : Stands call made unlike.made
  pub differ : unlike.drawn ≢ unlike.made
  pub before : AreAsOften drawn made place

-- or there is none, and other calls were made too
pub record HasOthers (drawn made : List StormCall) (unlike : Unlike) : Type 0 where
  pub each : (i : ℕ) (call : StormCall) → slice_get drawn i ≡ Some call → IsAsOften call drawn made
  pub number : unlike.call ≡ 0
  pub drawn_all : unlike.drawn ≡ length drawn
  pub made_all : unlike.made ≡ length made
  pub differ : length drawn ≢ length made

abbrev pub IsUnlike : List StormCall → List StormCall → Unlike → Type 0
IsUnlike drawn made unlike = IsFirstUnlike drawn made unlike ⊎ HasOthers drawn made unlike

abbrev pub AreCompared : Result (Option Unlike) Memory → List StormCall → List StormCall → Type 0
AreCompared (Ok None) drawn made = AreDrawn drawn made
AreCompared (Ok (Some unlike)) drawn made = IsUnlike drawn made unlike
AreCompared (Err e) drawn made = ⊤

-- the same of the drawn call of one number
abbrev pub IsComparedAt : Result (Option Unlike) Memory → List StormCall → List StormCall → ℕ → StormCall → Type 0
IsComparedAt (Ok None) drawn made number call = IsAsOften call drawn made
IsComparedAt (Ok (Some unlike)) drawn made number call =
    (unlike.call ≡ number) × Stands call drawn unlike.drawn × Stands call made unlike.made × (unlike.drawn ≢ unlike.made)
IsComparedAt (Err e) drawn made number call = ⊤

-- and of how many there are
abbrev pub AreCounted : Option Unlike → List StormCall → List StormCall → Type 0
AreCounted None drawn made = length made ≡ length drawn
AreCounted (Some unlike) drawn made = (unlike.call ≡ 0) × (unlike.drawn ≡ length drawn) × (unlike.made ≡ length made) × (length drawn ≢ length made)
