use Rattle.hk_greet.proofs.Filling.{given_first}
use Rattle.hk_greet.proofs.buffered.read_next.Goals as goal

pub returns-clause-bytes : goal.returns-clause-bytes
returns-clause-bytes g c =
    (given_first c.args.buffer.now.unread c.give-count.new.buffer.unread c.give-count.new.room c.give-count.result (g.C.Source.left c.args.conn.now) c.give-count.ensures.same c.give-count.ensures.left, λ e room. absurd (c.if-count-eq0.false e))
