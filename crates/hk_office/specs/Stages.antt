-- Stages, as logs, boards and openings have them.
use Rattle.std.specs.Prelude.{ℕ, Bool, true, false, Option, None, Some}
use Rattle.hk_inside.specs.declared.board.Stage.TheVariants as told
use Rattle.hk_inside.specs.declared.board.Stage.{Stage as StageTold}
use Rattle.hk_log.specs.declared.entry.Founding.{Founding}
use Rattle.hk_stage.specs.declared.stage.Stage.{Stage}
use Rattle.hk_stage.specs.declared.stage.Stage.TheVariants.{Empty, Founded, Open}

-- the number of the founding, or 0
abbrev pub number_of : Stage → ℕ
number_of Empty = 0
number_of (Founded f) = f
number_of (Open f) = f

-- a stage as a board tells it, with its number beside it
abbrev pub stage_told : Stage → StageTold
stage_told Empty = told.Empty
stage_told (Founded f) = told.Founded
stage_told (Open f) = told.Open

-- the stage that a board tells with this number
abbrev pub stage_heard : StageTold → ℕ → Stage
stage_heard told.Empty f = Empty
stage_heard told.Founded f = Founded f
stage_heard told.Open f = Open f

-- the stage that a log tells
abbrev pub stage_logged : Option Founding → Bool → Stage
stage_logged None is_open = Empty
stage_logged (Some f) true = Open f.number
stage_logged (Some f) false = Founded f.number
