use Rattle.std.proofs.Common.{◌≡◌}
use Rattle.hk_safety.specs.Placed.{earliest, stamps_from}
use Rattle.hk_safety.proofs.moment.earliest_from.Given as goal

-- what is left has the earliest one, if it comes before the earliest so far
abbrev pub invariant-loop-tag : goal.invariant-loop-tag
invariant-loop-tag l = earliest l.fn.event (stamps_from l.fn.tag l.fn.stamps.entries) ≡ earliest l.earliest l._tag-iterator
