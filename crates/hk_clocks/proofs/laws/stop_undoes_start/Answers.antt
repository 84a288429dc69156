use Rattle.hk_clocks.proofs.Undoing.{stop_undoes_start}
use Rattle.hk_clocks.proofs.laws.stop_undoes_start.Goals as goal

pub returns : goal.returns
returns c = λ d k a clock none. stop_undoes_start d k a clock none
