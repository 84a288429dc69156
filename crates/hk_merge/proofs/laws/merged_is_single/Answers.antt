use Rattle.hk_merge.proofs.Alone.{merged_is_single, early_rule_fails}
use Rattle.hk_merge.proofs.laws.merged_is_single.Goals as goal

pub returns : goal.returns
returns c = record { single = merged_is_single; early = early_rule_fails }
