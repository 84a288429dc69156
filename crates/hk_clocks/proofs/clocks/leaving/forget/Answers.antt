use Rattle.std.proofs.Common.{rules}
use Rattle.std.specs.BTreeMap.{is_at}
use Rattle.std.specs.Map.{remove_entry}
use Rattle.std.proofs.lemmas.Map.Made.{map_same_pairs}
use Rattle.hk_clocks.specs.declared.pace.Pace.{Pace}
use Rattle.hk_clocks.specs.Clocks.{by_actor}
use Rattle.hk_clocks.proofs.clocks.leaving.forget.Goals as goal

pub returns : goal.returns
returns c = map_same_pairs _ (λ (pace : Pace). record pace { leads = remove_entry (is_at (by_actor c.args.actor)) pace.leads }) _ (λ k v b w f' t. search rules) _ _ c.retain.ensures.filtered
