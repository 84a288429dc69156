use Rattle.hk_register.proofs.Runs.{reached_parts, reached_calls, effect_kept}
use Rattle.hk_register.proofs.Calls.{effect_calls}
use Rattle.hk_register.proofs.keeps_parts.Goals as goal

pub returns-clause-parts : goal.returns-clause-parts
returns-clause-parts c = reached_parts

pub returns-clause-calls : goal.returns-clause-calls
returns-clause-calls c = reached_calls

pub returns-clause-effect_parts : goal.returns-clause-effect_parts
returns-clause-effect_parts c = λ V old new e happens parts. effect_kept V old new parts e happens

pub returns-clause-effect_calls : goal.returns-clause-effect_calls
returns-clause-effect_calls c = λ V old new e happens parts calls. effect_calls V old new parts calls e happens
