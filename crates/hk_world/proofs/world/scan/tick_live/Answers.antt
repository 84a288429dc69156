use Rattle.std.proofs.Common.{rules}
use Rattle.std.proofs.lemmas.Map.Made.{map_same_pairs}
use Rattle.hk_world.specs.Allowed.{ticked}
use Rattle.hk_world.proofs.world.scan.tick_live.Goals as goal

pub returns : goal.returns
returns c = map_same_pairs _ (ticked c.args.to) _ (λ k v b w f' t. search rules) _ _ c.retain.ensures.filtered
