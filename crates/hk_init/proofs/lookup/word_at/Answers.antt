use Rattle.std.proofs.Common.{rules, refl, ◌==◌}
use Rattle.std.proofs.lemmas.Iterator.Consumers.{nth_from_yields_List}
use Rattle.std.proofs.lemmas.Iterator.Splits.{YieldsList-from_slice_split}
use Rattle.hk_init.proofs.lookup.word_at.Goals as goal

pub returns : goal.returns
returns c = nth_from_yields_List c.nth.result _ c.args.place c.nth.ensures.ran
    (YieldsList-from_slice_split _ (λ byte. byte == 32) c.args.line.now c.split.ensures.rest c.split.ensures.done refl (λ x b q h. search rules))
