use Rattle.std.proofs.Common.{rules, ◌≡◌, ◌<◌, nat_lt, Some, length, slice_set, refl, ap, subst, arith}
use Rattle.std.proofs.lemmas.List.Quantifiers.{position-Some}
use Rattle.std.proofs.lemmas.Option.{slice_get_read}
use Rattle.hk_turns.specs.Requests.{RequestState, first_due, IsTaken}
use Rattle.hk_turns.proofs.requests.LeaseRequests.take.Goals as goal

pub returns-clause-taken : goal.returns-clause-taken
returns-clause-taken c =
    let found : first_due c.self.inside.left.items ≡ Some c.in_ok-shard.shard = search rules in
    let below : c.in_ok-shard.shard < length c.self.inside.left.items = (position-Some (λ count. nat_lt 0 count) c.self.inside.left.items c.in_ok-shard.shard 0 found).0 in
    subst (λ (b : RequestState). IsTaken c.in_ok-shard.shard c.saturating_sub-2.result b (record { managers = c.self.inside.managers; left = slice_set c.self.inside.left.items c.in_ok-shard.shard c.saturating_sub.result })) c.self.view_is (record {
      first = found;
      count = c.index-count.result.now;
      there = slice_get_read c.self.inside.left.items (length c.self.inside.left.items) c.in_ok-shard.shard c.index-count.result.now refl below c.index-count.ensures;
      next = c.saturating_sub-2.ensures;
      same = refl;
      left = ap (slice_set c.self.inside.left.items c.in_ok-shard.shard) c.saturating_sub.ensures;
    })

pub returns-clause-below : goal.returns-clause-below
returns-clause-below c =
    let found : first_due c.self.inside.left.items ≡ Some c.in_ok-shard.shard = search rules in
    let below : c.in_ok-shard.shard < length c.self.inside.left.items = (position-Some (λ count. nat_lt 0 count) c.self.inside.left.items c.in_ok-shard.shard 0 found).0 in
    omega (arith, below, c.self.invariant)
