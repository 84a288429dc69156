-- What the chain of iterators gives.
use Rattle.std.proofs.Common.{sym, ◌∙◌, rules, tests}
use Rattle.std.proofs.lemmas.Iterator.{YieldsList-from_slice, YieldsList-from_map}
use Rattle.std.proofs.lemmas.Iterator.Consumers.{YieldsList-at, YieldsList-from_filter, min_from_yields_List}
use Rattle.std.proofs.lemmas.Iterator.Adapters.{option_map_id}
use Rattle.hk_history.specs.Index.{number_of}
use Rattle.hk_history.specs.Tests.{is_overtaken}
use Rattle.hk_history.proofs.case.Case.least_overtaken.Goals as goal

pub returns : goal.returns
returns c = sym (option_map_id c.min.result) ∙ min_from_yields_List _ _ c.min.ensures.ran
    (YieldsList-from_filter _ (is_overtaken c.args.self.now.items.now c.args.self.now.order.now)
    (YieldsList-at c.filter.ensures.source (YieldsList-from_map _ number_of (YieldsList-from_slice c.args.self.now.items.now (cc)) c.map.ensures.closure (λ x r q k. search (rules, tests))))
    c.filter.ensures.closure (λ x r q k. search (rules, tests)))
