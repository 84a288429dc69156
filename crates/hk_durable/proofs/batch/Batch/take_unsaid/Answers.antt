use Rattle.std.proofs.Common.{rules}
use Rattle.std.proofs.lemmas.List.Elements.{recursion_from_All}
use Rattle.hk_durable.specs.Batches.{IsUnsaid}
use Rattle.hk_durable.proofs.batch.Batch.take_unsaid.Goals as goal

pub returns-clause-range : goal.returns-clause-range
returns-clause-range c = search (rules, recursion_from_All IsUnsaid c.self.inside.unsaid.items c.self.invariant.1)
