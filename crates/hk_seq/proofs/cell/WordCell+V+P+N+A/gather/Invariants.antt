use Rattle.std.proofs.Common.{◌≡◌, ◌≤◌, length, get_or}
use Rattle.crossbeam_utils.specs.Seq.{Gathered, Stays}
use Rattle.hk_seq.proofs.cell.WordCell+V+P+N+A.gather.Given as goal

abbrev pub invariant-loop-i : goal.invariant-loop-i
invariant-loop-i g l =
    Stays l.fn.pass l.pass × (length l.room ≡ g.row.N) × (1 ≤ l.i) × (get_or l.room 0 0 ≡ get_or l.initial.room 0 0)
    × Gathered (λ x. x) l.i l.room l.fn.pass.me.0.stage l.pass.me.0.stage
