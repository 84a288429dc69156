use Rattle.std.proofs.Common.{◌∙◌, List, ap, map}
use Rattle.hk_base.specs.declared.letter.Actor.{Actor}
use Rattle.hk_clocks.specs.declared.pace.Pace.{Pace}
use Rattle.hk_clocks.specs.Steps.{forgets}
use Rattle.hk_clocks.proofs.Kept.{with_paces}
use Rattle.hk_clocks.proofs.Joins.{stop_kept}
use Rattle.hk_clocks.proofs.clocks.Clocks.stop.Goals as goal

pub invariant_of-self-2 : goal.invariant_of-self-2
invariant_of-self-2 c =
    with_paces c.self.inside.skew _ _ (c.forget.ensures ∙ ap (λ (es : List (Actor × Pace)). map (forgets c.args.actor) es) c.take_out.ensures.out)
    (stop_kept (record { skew = c.self.inside.skew; paces = c.self.inside.paces.entries }) c.args.actor c.self.invariant)
