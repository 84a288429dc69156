use Rattle.std.proofs.Common.{◌∙◌}
use Rattle.hk_clocks.proofs.Kept.{bounded, not_some, tick_all_kept, with_paces}
use Rattle.hk_clocks.proofs.Level.{all_rising}
use Rattle.hk_clocks.proofs.clocks.Clocks.tick_all.Goals as goal

pub first_left-requires-clause-rising : goal.first_left-requires-clause-rising
first_left-requires-clause-rising c = all_rising c.args.to c.greatest_clock-clock.result c.self.inside.paces.entries c.greatest_clock-clock.ensures

pub paces_at-requires-clause-rising : goal.paces_at-requires-clause-rising
paces_at-requires-clause-rising c = all_rising c.args.to c.greatest_clock-clock.result c.self.inside.paces.entries c.greatest_clock-clock.ensures

pub paces_at-requires-clause-bounded : goal.paces_at-requires-clause-bounded
paces_at-requires-clause-bounded c = bounded (record { skew = c.self.inside.skew; paces = c.self.inside.paces.entries }) c.self.invariant

pub invariant_of-self : goal.invariant_of-self
invariant_of-self c =
    with_paces c.self.inside.skew _ _ c.in_ok-self-inside.ensures
    (tick_all_kept (record { skew = c.self.inside.skew; paces = c.self.inside.paces.entries }) c.args.to c.self.invariant c.requires
    (not_some (λ q. q.1.clock) _ (λ y e. c.in_default.not-Some y (c.first_left.ensures ∙ e))))
