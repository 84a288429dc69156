use Rattle.hk_storm.proofs.Lists.{on_ok}
use Rattle.hk_storm.proofs.Tallying.{tally_more}
use Rattle.hk_storm.proofs.tally.add.Goals as goal

pub returns : goal.returns
returns c = λ calls is.
    on_ok c.put.result
    (λ made. tally_more c.args.tally.now.entries c.put.new.tally.entries calls c.args.call.now c.in_ok-line.line c.in_ok-line.ensures.line c.in_ok-line.ensures.written made is)
    c.put.ensures
