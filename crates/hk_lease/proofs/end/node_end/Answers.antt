use Rattle.std.proofs.Common.{◌≡◌, ℕ, ◌-◌, ◌/◌, ◌<◌, length, slice_index_or, sym, ap, subst, ◌∙◌, arith}
use Rattle.hk_lease.specs.Ends.{IsNodeEnd, granted_end}
use Rattle.hk_lease.proofs.Middle.{middle, found}
use Rattle.hk_lease.proofs.end.node_end.Goals as goal

pub returns-clause-majority : goal.returns-clause-majority
returns-clause-majority c =
    let is = middle c.args.ends.now c.copy_from_slice.new.self c.sort_unstable.new.self c.copy_from_slice.ensures.after c.sort_unstable.ensures.permutation c.sort_unstable.ensures.sorted (omega arith) in
    subst (λ (n : ℕ). IsNodeEnd c.args.ends.now (slice_index_or c.sort_unstable.new.self ((n - 1) / 2) 0)) (c.requires.each ∙ sym c.from.ensures) is

pub returns-clause-value : goal.returns-clause-value
returns-clause-value c =
    let is = middle c.args.ends.now c.copy_from_slice.new.self c.sort_unstable.new.self c.copy_from_slice.ensures.after c.sort_unstable.ensures.permutation c.sort_unstable.ensures.sorted (omega arith) in
    let inside : ((length c.args.ends.now - 1) / 2) < length c.sort_unstable.new.self = omega (arith, c.sort_unstable.ensures.len, ap length c.copy_from_slice.ensures.after) in
    let same = found c.args.ends.now c.copy_from_slice.new.self c.sort_unstable.new.self ((length c.args.ends.now - 1) / 2) c.copy_from_slice.ensures.after c.sort_unstable.ensures.permutation inside is in
    subst (λ (n : ℕ). slice_index_or c.sort_unstable.new.self ((n - 1) / 2) 0 ≡ granted_end c.args.ends.now) (c.requires.each ∙ sym c.from.ensures) same
