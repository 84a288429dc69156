use Rattle.std.proofs.Common.{rules, IsTrue}
use Rattle.hk_worker.proofs.Placed.{owed_at}
use Rattle.hk_worker.proofs.shards.Shards.due_of_key.Goals as goal

pub returns : goal.returns
returns g c =
    let is : IsTrue c.is_of.result = search rules in
    owed_at g.P.Places.places _ _ _ (c.is_of.ensures.same is) c.is_of.ensures.stands _ c.due_of_key.result c.due_of_key.ensures
