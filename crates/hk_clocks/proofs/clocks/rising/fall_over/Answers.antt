use Rattle.std.proofs.Common.{rules}
use Rattle.std.proofs.lemmas.Map.Made.{map_same_pairs}
use Rattle.hk_clocks.specs.InPlace.{falls}
use Rattle.hk_clocks.proofs.clocks.rising.fall_over.Goals as goal

pub returns : goal.returns
returns c = map_same_pairs _ (falls c.args.actor c.args.risen) _ (λ k v b w f' t. search rules) _ _ c.retain.ensures.filtered
