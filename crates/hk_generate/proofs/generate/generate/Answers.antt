use Rattle.hk_generate.proofs.Drawings.{nothing, generated_legal}
use Rattle.hk_generate.proofs.generate.generate.Goals as goal

pub returns-in_default-clause-front : goal.returns-in_default-clause-front
returns-in_default-clause-front g c = nothing _ _

pub returns-in_default-clause-legal : goal.returns-in_default-clause-legal
returns-in_default-clause-legal g c = generated_legal c.runs_are_legal.ensures c.args.start c.args.count c.args.nodes c.requires.some c.requires.few

pub returns-in-Ok-write_all-clause-legal : goal.returns-in-Ok-write_all-clause-legal
returns-in-Ok-write_all-clause-legal g c = generated_legal c.runs_are_legal.ensures c.args.start c.args.count c.args.nodes c.requires.some c.requires.few

pub returns-clause-legal : goal.returns-clause-legal
returns-clause-legal g c = generated_legal c.runs_are_legal.ensures c.args.start c.args.count c.args.nodes c.requires.some c.requires.few
