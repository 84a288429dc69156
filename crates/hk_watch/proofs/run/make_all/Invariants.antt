-- The calls that were made so far ran.
use Rattle.std.proofs.Common.{◌≡◌, ◌+◌, ◌++◌, ◌≤◌, length, vec_len, vec_capacity}
use Rattle.std.specs.Vec.Iter.{into_iter_items, into_iter_len}
use Rattle.hk_watch.specs.Rising.{Runs}
use Rattle.hk_watch.proofs.run.make_all.Given as goal

abbrev pub invariant-loop-call : goal.invariant-loop-call
invariant-loop-call g l = (l.yielded ++ into_iter_items l.call-iterator ≡ into_iter_items l.initial.call-iterator)
    × Runs g.F.Watcher.told l.yielded l.initial.watches l.initial.reader l.notices.items l.watches l.reader
    × (into_iter_len l.call-iterator ≡ length (into_iter_items l.call-iterator))
    × (vec_len l.notices + length (into_iter_items l.call-iterator) ≤ vec_capacity l.notices)
