-- The keys before this one were loaded.
use Rattle.std.proofs.Common.{◌≡◌, drop}
use Rattle.hk_snap.specs.Ends.{names}
use Rattle.hk_joint_reads.proofs.Rounds.{FirstRound}
use Rattle.hk_joint_reads.proofs.look.load_first.Given as goal

abbrev pub invariant-loop-key : goal.invariant-loop-key
invariant-loop-key g l = record {
  same : names l.reader.ends ≡ names l.fn.reader.ends;
  round : FirstRound l.fn.reader l.reader l.keys (drop l.key-index l.keys) l.tickets.items;
}
