use Rattle.std.proofs.Common.{rules, refl, sym, ◌∙◌, ◌==◌}
use Rattle.std.proofs.lemmas.Iterator.Adapters.{option_map_id}
use Rattle.std.proofs.lemmas.Iterator.Consumers.{YieldsList-from_filter_map, max_from_yields_List}
use Rattle.std.proofs.lemmas.Iterator.Splits.{YieldsList-from_slice_split}
use Rattle.hk_init.specs.HostNodes.{node_in}
use Rattle.hk_init.proofs.lookup.host_node.Goals as goal

pub returns : goal.returns
returns c = sym (option_map_id c.max.result) ∙ max_from_yields_List _ _ c.max.ensures.ran
    (YieldsList-from_filter_map _ (node_in c.args.host)
    (YieldsList-from_slice_split _ (λ byte. byte == 10) c.args.text.now (rw c.filter_map.ensures.source c.split.ensures.rest) (rw c.filter_map.ensures.source c.split.ensures.done) refl (λ x b q h. search rules))
    c.filter_map.ensures.closure (λ x r q h. search rules))
