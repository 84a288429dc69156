use Rattle.hk_channel.proofs.Answered.{one_more}
use Rattle.hk_channel.proofs.serving.answer_requests.Goals as goal

pub loop-preserved : goal.loop-preserved
loop-preserved g c =
    (tt, tt, one_more c.args.conn.now c.loop.conn c.answer_next.new.conn c.loop.invariant.2 c.in-Ok.ensures)
