use Rattle.hk_place.specs.Past.{tickets_in}
use Rattle.hk_place.proofs.Noting.{told_more}
use Rattle.hk_place.proofs.changes.note_all.Goals as goal

pub loop-prior-preserved : goal.loop-prior-preserved
loop-prior-preserved c = λ k.
    told_more (tickets_in c.args.kept.now.entries k) (tickets_in c.loop-prior.kept.entries k) (tickets_in c.note.new.kept.entries k) k c.args.ticket c.args.rows.now c.loop-prior.prior-index
    c.prior-item.result c.loop-prior-test.true c.prior-item.is (c.loop-prior.invariant k) (c.in_ok-note.ensures k)
