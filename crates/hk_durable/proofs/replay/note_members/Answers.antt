use Rattle.hk_durable.proofs.Replaying.{noted_where_made}
use Rattle.hk_durable.proofs.replay.note_members.Goals as goal

pub returns-clause-noted : goal.returns-clause-noted
returns-clause-noted c =
    noted_where_made c.logs_are_replayed.ensures.asks c.note_each.result c.args.manager.now c.in_ok-members.members.items c.note_each.new.manager c.in_ok-members.ensures c.note_each.ensures.asked
