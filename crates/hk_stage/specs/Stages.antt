-- The stages of a manager, and the codes of refusals.
use Rattle.std.specs.Prelude.{ℕ, Bool, true, false}
use Rattle.hk_stage.specs.declared.stage.Stage.{Stage}
use Rattle.hk_stage.specs.declared.stage.Stage.TheVariants.{Empty, Founded, Open}
use Rattle.hk_stage.specs.declared.event.StageRefusal.{StageRefusal}
use Rattle.hk_stage.specs.declared.event.StageRefusal.TheVariants.{Lives, Wait, AnotherInit}

abbrev pub is_open : Stage → Bool
is_open Empty = false
is_open (Founded f) = false
is_open (Open f) = true

abbrev pub stage_number : Stage → ℕ
stage_number Empty = 0
stage_number (Founded f) = 1
stage_number (Open f) = 2

abbrev pub refusal_code : StageRefusal → ℕ
refusal_code (Lives f) = 1
refusal_code Wait = 8
refusal_code AnotherInit = 10
