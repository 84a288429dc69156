use Rattle.hk_storm.proofs.Founders.{founders_more}
use Rattle.hk_storm.proofs.founding.put_founder.Goals as goal

pub returns : goal.returns
returns g c = λ all count. founders_more c.args.node c.args.all.now.items c.push.new.self.items c.in_ok-founded.founded all count c.in_ok-founded.ensures c.in_ok-push.ensures.items
