use Rattle.std.proofs.Common.{refl, arith}
use Rattle.hk_clocks.proofs.Kept.{bounded}
use Rattle.hk_clocks.proofs.Level.{none_left}
use Rattle.hk_clocks.proofs.clocks.refused.first_left.Goals as goal

pub first_of_all-requires-clause-bounded : goal.first_of_all-requires-clause-bounded
first_of_all-requires-clause-bounded c = bounded (record { skew = c.args.skew; paces = c.args.paces.now.entries }) c.requires.clocks

pub returns-then-fastest-slowest : goal.returns-then-fastest-slowest
returns-then-fastest-slowest c =
    rw (none_left (record { skew = c.args.skew; paces = c.args.paces.now.entries }) c.args.to c.least_clock.result c.args.slowest c.requires.clocks c.least_clock.ensures.least c.requires.rising
    (omega (arith, c.saturating_sub-fastest.ensures, c.if-fastest-slowest.true))) refl
