use Rattle.std.proofs.Common.{rules}
use Rattle.hk_loops.proofs.Turning.{turn_wrote}
use Rattle.hk_loops.proofs.turn.write_some.Goals as goal

pub returns-in-Ok-Some-clause-turn : goal.returns-in-Ok-Some-clause-turn
returns-in-Ok-Some-clause-turn g c =
    let within = rw (c.in-Ok-Some.field-0-is, c.unwritten-text.ensures) at c.in-Ok-Some.ensures.within in
    let bytes = rw (c.in-Ok-Some.field-0-is, c.unwritten-text.ensures) at c.in-Ok-Some.ensures.bytes in
    turn_wrote _ _ _ _ _ _ c.in-Ok-Some.count (search rules) within c.in-Ok-Some.ensures.left bytes c.written.ensures
