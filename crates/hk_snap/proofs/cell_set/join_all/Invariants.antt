use Rattle.std.proofs.Common.{◌≡◌, ◌++◌, ◌≤◌, length, take, drop}
use Rattle.hk_snap.specs.Ends.{joined_ends}
use Rattle.hk_snap.proofs.cell_set.join_all.Given as goal

abbrev pub invariant-loop-other : goal.invariant-loop-other
invariant-loop-other l =
    (l.others.items ≡ take (length l.others.items) l.fn.others.items) × (length l.others.items ≤ length l.fn.others.items)
    × (l.ends.items ≡ take (length l.others.items) l.fn.ends.items ++ joined_ends (drop (length l.others.items) l.fn.ends.items) (drop (length l.others.items) l.fn.others.items))

abbrev pub decreases-loop-other : goal.decreases-loop-other
decreases-loop-other l = length l.others.items
