use Rattle.std.proofs.Common.{rules, arith, ◌<◌, length}
use Rattle.hk_outside.proofs.Firsts.{first_given}
use Rattle.hk_outside.proofs.primed.PrimedSource.read.Goals as goal

pub returns-in-Some-clause-bytes : goal.returns-in-Some-clause-bytes
returns-in-Some-clause-bytes g c =
    let some : 0 < length c.args.room.now = search rules in
    (first_given c.args.self.now.first c.in-Some.first (g.C.Source.left c.args.self.now.conn) c.args.room.now c.in-Some.is some, λ e room. absurd (omega (arith, e)))
