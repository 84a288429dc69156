use Rattle.std.proofs.Common.{◌-◌}
use Rattle.std.specs.Option.{option_copied}
use Rattle.hk_copy.specs.Batches.{cut, rows_after}
use Rattle.hk_copy.proofs.Cuts.{At}
use Rattle.hk_copy.proofs.copying.batch.Given as goal

abbrev pub invariant-loop-taken : goal.invariant-loop-taken
invariant-loop-taken g l = At (g.R.Rows.rows l.rows) (cut l.room 2097152 (rows_after (option_copied l.after) (g.R.Rows.rows l.rows)))
    (option_copied l.next) l.items (l.room - l.taken) l.bytes
