-- The events that are drawn from a number. Each draw takes the next word of the generator, and a few draws make an event.
use Rattle.std.specs.Prelude.{ℕ, ◌+◌, ◌-◌, ◌%◌, ◌==◌, min, nat_lt, List, [], ◌∷◌, if◌then◌else◌, decimal}
use Rattle.hk_base.specs.declared.call.Op.{Op}
use Rattle.hk_base.specs.declared.call.Op.TheVariants.{Read, Write, Incr, Decr}
use Rattle.hk_base.specs.declared.stamp.NodeId.{NodeId}
use Rattle.hk_event.specs.declared.event.Header.{Header}
use Rattle.hk_event.specs.declared.event.Event.{Event}
use Rattle.hk_event.specs.declared.event.Event.TheVariants.{Call, Take, Resend, Replay}
use Rattle.rand_pcg.specs.Lcg.{Lcg, started, increment_of}
use Rattle.rand_pcg.specs.Pcg.{multiplier_64, pcg32}

-- the numbers that begin with this one, stream 54 of PCG's 32-bit generator
abbrev pub numbers_from : ℕ → Lcg
numbers_from start = started 64 multiplier_64 start (increment_of 64 54)

-- the next word, modulo n
abbrev pub draw : ℕ → Lcg → ℕ × Lcg
draw n g = ((pcg32 g).0 % n, (pcg32 g).1)

-- `k` and a digit
abbrev pub key_drawn : ℕ → List ℕ
key_drawn digit = 107 ∷ (48 + digit) ∷ []

-- the operation of this kind, on a value
abbrev pub update_drawn : ℕ → ℕ → Op
update_drawn kind v =
    if kind == 1 then Write (record { flags = 0; bytes = decimal v })
    else (if kind == 2 then Incr v else Decr v)

-- one of four operations, and for an update a value below 100
unfoldable pub op_drawn : Lcg → Op × Lcg
op_drawn g =
    if (draw 4 g).0 == 0 then (Read, (draw 4 g).1)
    else (update_drawn (draw 4 g).0 (draw 100 (draw 4 g).1).0, (draw 100 (draw 4 g).1).1)

-- a key, and then an operation on it
unfoldable pub ask_drawn : Lcg → (List ℕ × Op) × Lcg
ask_drawn g = ((key_drawn (draw 8 g).0, (op_drawn (draw 8 g).1).0), (op_drawn (draw 8 g).1).1)

-- a node, and then a key
abbrev pub place_drawn : ℕ → Lcg → (NodeId × List ℕ) × Lcg
place_drawn nodes g = ((record { 0 = (draw nodes g).0 }, key_drawn (draw 8 (draw nodes g).1).0), (draw 8 (draw nodes g).1).1)

-- a call: its node, its key, its operation
unfoldable pub call_drawn : ℕ → Lcg → Event × Lcg
call_drawn nodes g =
    (Call (place_drawn nodes g).0.0 (place_drawn nodes g).0.1 (op_drawn (place_drawn nodes g).1).0, (op_drawn (place_drawn nodes g).1).1)

-- one of the last 64 letters, which are numbered up to `letters`, is taken
unfoldable pub take_drawn : ℕ → Lcg → Event × Lcg
take_drawn letters g = (Take (letters - (draw (min letters 64) g).0), (draw (min letters 64) g).1)

unfoldable pub resend_drawn : ℕ → Lcg → Event × Lcg
resend_drawn nodes g = (Resend (place_drawn nodes g).0.0 (place_drawn nodes g).0.1, (place_drawn nodes g).1)

unfoldable pub replay_drawn : ℕ → Lcg → Event × Lcg
replay_drawn nodes g = (Replay (place_drawn nodes g).0.0 (place_drawn nodes g).0.1, (place_drawn nodes g).1)

-- of 16 events 4 are calls, 10 take a letter, or call where none was sent yet, one resends and one replays
abbrev pub kind_drawn : ℕ → ℕ → ℕ → Lcg → Event × Lcg
kind_drawn kind nodes letters g =
    if nat_lt kind 4 then call_drawn nodes g
    else (if nat_lt kind 14 then (if letters == 0 then call_drawn nodes g else take_drawn letters g)
    else (if kind == 14 then resend_drawn nodes g else replay_drawn nodes g))

-- the next event of a group of so many nodes that has sent so many letters
unfoldable pub event_drawn : ℕ → ℕ → Lcg → Event × Lcg
event_drawn nodes letters g = kind_drawn (draw 16 g).0 nodes letters (draw 16 g).1

-- what contracts see of a generator
pub record GeneratorState : Type 0 where
  pub nodes : ℕ
  pub numbers : Lcg

-- one event, and the generator behind it
abbrev pub generator_step : GeneratorState → ℕ → Event × GeneratorState
generator_step s letters = ((event_drawn s.nodes letters s.numbers).0, record s { numbers = (event_drawn s.nodes letters s.numbers).1 })

-- the group of a run that is drawn, whose leases end at the limit of the clocks, which stay together
abbrev pub group_of : ℕ → Header
group_of nodes = record { nodes = nodes; managers = 0; lease = 1000000000000; skew = 0 }
