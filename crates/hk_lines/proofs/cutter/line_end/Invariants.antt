use Rattle.std.proofs.Common.{◌≡◌, ◌-◌, ◌≤◌, length, drop}
use Rattle.hk_lines.specs.Cut.{line_end}
use Rattle.hk_lines.proofs.Feeds.{shifted}
use Rattle.hk_lines.proofs.cutter.line_end.Given as goal

abbrev pub invariant-loop-feed : goal.invariant-loop-feed
invariant-loop-feed l = (l.at ≤ length l.bytes) × (line_end l.bytes ≡ shifted l.at (line_end (drop l.at l.bytes)))

abbrev pub decreases-loop-feed : goal.decreases-loop-feed
decreases-loop-feed l = length l.bytes - l.at
