use Rattle.std.proofs.Common.{◌+◌, subst}
use Rattle.hk_manager.specs.Sound.{IsManager}
use Rattle.hk_manager.proofs.Made.{begins_made, begun_instance, begun_proposal}
use Rattle.hk_manager.proofs.manager.Manager.begin_in.Goals as goal

pub put_begun-requires-clause-instance : goal.put_begun-requires-clause-instance
put_begun-requires-clause-instance c = begun_instance c.args.self.now c.args.epoch c.args.ballot.round c.args.instance (subst IsManager c.self.view_is c.self.invariant) c.requires.known

pub put_begun-requires-clause-proposer : goal.put_begun-requires-clause-proposer
put_begun-requires-clause-proposer c =
    begun_proposal c.args.self.now c.args.change c.args.epoch (c.args.instance.round + 1) c.args.ballot c.in_ok-proposer.proposer (subst IsManager c.self.view_is c.self.invariant)
    c.requires.possible c.requires.own c.in_ok-proposer.ensures

pub returns-clause-made : goal.returns-clause-made
returns-clause-made c =
    begins_made c.args.self.now c.put_begun.new.self c.args.change c.args.epoch c.args.instance c.args.ballot c.in_ok-proposer.proposer c.in_ok-letters.letters c.in_ok-replaced.replaced
    c.requires.epoch c.requires.known c.requires.own c.requires.late c.requires.round c.in_ok-proposer.ensures c.in_ok-letters.ensures c.in_ok-replaced.ensures.ok
