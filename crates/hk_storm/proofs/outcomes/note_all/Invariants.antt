-- The replies so far are told.
use Rattle.std.proofs.Common.{List, ◌++◌, take}
use Rattle.hk_base.specs.declared.call.Reply.{Reply}
use Rattle.hk_storm.specs.Outcomes.{IsTold}
use Rattle.hk_storm.proofs.outcomes.note_all.Given as goal

abbrev pub invariant-loop-reply : goal.invariant-loop-reply
invariant-loop-reply l = (before : List Reply) → IsTold l.fn.kept.entries before → IsTold l.kept.entries (before ++ take l.reply-index l.replies)
