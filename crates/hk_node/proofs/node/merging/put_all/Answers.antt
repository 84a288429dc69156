use Rattle.hk_node.proofs.PutRows.{laid_turn, laid_ready, ready_as}
use Rattle.hk_node.proofs.node.merging.put_all.Goals as goal

pub give_rows_back-requires-clause-rising : goal.give_rows_back-requires-clause-rising
give_rows_back-requires-clause-rising c = (ready_as c.loop-key.prior.items c.put_next.new.prior.items c.loop-key.rows.entries c.put_next.new.rows.entries
    c.in-Err.ensures.kept c.in-Err.ensures.stay
    (laid_ready c.args.changes.entries c.args.rows.now.entries c.loop-key.changes.entries c.loop-key.rows.entries c.loop-key.prior.items c.requires.rising c.loop-key.invariant)).rising

pub give_rows_back-requires-clause-there : goal.give_rows_back-requires-clause-there
give_rows_back-requires-clause-there c = (ready_as c.loop-key.prior.items c.put_next.new.prior.items c.loop-key.rows.entries c.put_next.new.rows.entries
    c.in-Err.ensures.kept c.in-Err.ensures.stay
    (laid_ready c.args.changes.entries c.args.rows.now.entries c.loop-key.changes.entries c.loop-key.rows.entries c.loop-key.prior.items c.requires.rising c.loop-key.invariant)).there

pub loop-key-preserved : goal.loop-key-preserved
loop-key-preserved c = laid_turn c.args.changes.entries c.args.rows.now.entries c.loop-key.changes.entries c.pop_first.new.self.entries
    c.loop-key.rows.entries c.put_next.new.rows.entries c.loop-key.prior.items c.put_next.new.prior.items c.in-Some.key c.in-Some.row
    c.in-Some.ensures.removal c.in_default-put_next.ensures.put c.in_default-put_next.ensures.prior c.loop-key.invariant
