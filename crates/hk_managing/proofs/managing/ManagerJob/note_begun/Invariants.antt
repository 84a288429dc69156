use Rattle.std.proofs.Common.{◌≡◌}
use Rattle.hk_office.specs.Laws.{logged_of}
use Rattle.hk_managing.proofs.managing.ManagerJob.note_begun.Given as goal

-- the log tells nothing of views that begin
abbrev pub invariant-loop-shard : goal.invariant-loop-shard
invariant-loop-shard g l = logged_of l.self.office ≡ logged_of l.fn.self.office
