use Rattle.std.proofs.Common.{◌∷◌, ◌++◌, [], sym, subst}
use Rattle.hk_merge.specs.Indexed.{IsIndexed}
use Rattle.hk_merge.proofs.Indexing.{one_more, on_ok}
use Rattle.hk_merge.proofs.index.add.Goals as goal

pub returns : goal.returns
returns c = λ journal is.
    on_ok c.put_named.result
    (λ put.
    subst (λ kept. IsIndexed c.insert.new.self.keys kept (journal ++ c.args.entry.now ∷ [])) (sym put)
    (one_more c.args.tickets.now.keys c.insert.new.self.keys c.args.kept.now.entries journal c.args.entry.now is c.in_ok-insert.ensures.updates.0))
    c.put_named.ensures
