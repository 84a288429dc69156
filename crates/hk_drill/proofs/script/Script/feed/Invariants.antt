-- The bytes up to here have come.
use Rattle.std.proofs.Common.{ℕ, List, ◌++◌, ◌-◌, ◌≤◌, length, take}
use Rattle.hk_drill.specs.Progress.{IsAt, IsCounted}
use Rattle.hk_drill.proofs.script.Script.feed.Given as goal

abbrev pub invariant-loop-end : goal.invariant-loop-end
invariant-loop-end l = record {
  within : l.at ≤ length l.piece;
  counted : IsCounted l.self.number l.self.state;
  stands : (read out : List ℕ) → IsAt read (out ++ l.fn.self.text.items) l.fn.self.number l.fn.self.line.items l.fn.self.state
      → IsAt (read ++ take l.at l.piece) (out ++ l.self.text.items) l.self.number l.self.line.items l.self.state;
}

abbrev pub decreases-loop-end : goal.decreases-loop-end
decreases-loop-end l = length l.piece - l.at
