-- The keys before this one were loaded again.
use Rattle.std.proofs.Common.{◌≡◌, drop}
use Rattle.hk_snap.specs.Ends.{names}
use Rattle.hk_joint_reads.proofs.Rounds.{SecondRound}
use Rattle.hk_joint_reads.proofs.look.load_again.Given as goal

abbrev pub invariant-loop-at : goal.invariant-loop-at
invariant-loop-at g l = record {
  same : names l.reader.ends ≡ names l.fn.reader.ends;
  round : SecondRound l.fn.reader l.reader l.keys (drop l.at l.keys) l.first (drop l.at l.first) l.looks.items;
}
