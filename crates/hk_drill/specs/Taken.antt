-- What it tells that a line was taken.
use Rattle.std.specs.Prelude.{◌≡◌, ℕ, ◌+◌, List, ◌++◌, length, Option, Some, None, Result, Ok, Err, nat_lt, if◌then◌else◌}
use Rattle.hk_world.specs.declared.shown.Shown.{Shown}
use Rattle.hk_safety.specs.Run.{world_of}
use Rattle.hk_drill.specs.declared.stop.Stop.{Stop}
use Rattle.hk_drill.specs.declared.stop.Stop.TheVariants.{Letters}
use Rattle.hk_drill.specs.declared.drill_state.TheConstants.{MAX_LETTERS}
use Rattle.hk_drill.specs.Shown.{shown_text}
use Rattle.hk_drill.specs.Transcript.{DrillState, Next}

-- a state whose run has just made the event that showed this
abbrev pub state_shown : DrillState → Shown → Result Next Stop
state_shown c shown =
    if nat_lt MAX_LETTERS (length (world_of c.run).letters) then Err Letters
    else Ok (record { state = record { run = c.run; count = c.count + 1 }; text = shown_text (c.count + 1) shown })

-- the state behind the line, and its text behind what was told before; or why the script stops there, and then nothing was told
abbrev pub IsTaken : Option Stop → DrillState → List ℕ → List ℕ → Result Next Stop → Type 0
IsTaken None new before after (Ok next) = (next.state ≡ new) × (after ≡ before ++ next.text)
IsTaken None new before after (Err stop) = ⊥
IsTaken (Some stop) new before after made = (made ≡ Err stop) × (after ≡ before)
