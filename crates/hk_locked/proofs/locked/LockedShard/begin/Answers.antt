use Rattle.std.proofs.Common.{◌<◌, sym, subst}
use Rattle.hk_node.specs.declared.event.NodeEvent.TheVariants.{Call}
use Rattle.hk_locked.specs.Locked.{LockedState}
use Rattle.hk_told.specs.Kept.{asks_in}
use Rattle.hk_locked.specs.Steps.{Begins, HasCalled}
use Rattle.hk_locked.specs.Makes.{Stands}
use Rattle.hk_locked.proofs.Keeping.{called_locked, begins}
use Rattle.hk_locked.proofs.Making.{makes}
use Rattle.hk_locked.proofs.locked.LockedShard.begin.Goals as goal

pub invariant_of-self-2 : goal.invariant_of-self-2
invariant_of-self-2 g c =
    let up : c.self.inside.shard.last < c.args.ticket = subst (λ (s : LockedState). s.shard.last < c.args.ticket) (sym c.self.view_is) c.requires.ticket in
    called_locked _ c.self.inside.node c.self.inside.number c.self.inside.skew c.self.inside.shard c.make_call.new.shard c.args.ticket c.args.call c.args.key.now c.args.op.now
    c.in_ok-started.started.answer c.self.inside.asks c.make_call.new.asks c.self.inside.open_keys c.make_call.new.keys c.keeps.ensures up c.in_ok-started.ensures.called c.in_ok-started.ensures.followed c.self.invariant

pub returns-clause-begins : goal.returns-clause-begins
returns-clause-begins g c =
    subst (λ (s : LockedState). Begins s (record { node = c.self.inside.node; number = c.self.inside.number; skew = c.self.inside.skew; shard = c.make_call.new.shard; asks = c.make_call.new.asks; open_keys = c.make_call.new.keys }) c.args.call c.args.key.now c.args.ticket c.args.op.now c.in_ok-started.started.answer) c.self.view_is
    (begins g.P.Places.places c.self.inside.node c.self.inside.number c.self.inside.skew c.self.inside.shard c.make_call.new.shard c.args.ticket c.args.call c.args.key.now c.args.op.now
    c.in_ok-started.started.answer c.self.inside.asks c.make_call.new.asks c.self.inside.open_keys c.make_call.new.keys c.keeps.ensures c.in_ok-started.ensures.called c.self.invariant)

pub returns-clause-made : goal.returns-clause-made
returns-clause-made g c =
    let up : c.self.inside.shard.last < c.args.ticket = subst (λ (s : LockedState). s.shard.last < c.args.ticket) (sym c.self.view_is) c.requires.ticket in
    record {
      made = makes (record { node = c.self.inside.node; number = c.self.inside.number; skew = c.self.inside.skew; shard = c.self.inside.shard; asks = c.self.inside.asks; open_keys = c.self.inside.open_keys })
          c.args.self.now c.make_call.new.shard c.args.ticket (Call c.args.call c.args.key.now c.args.op.now) c.make_call.new.asks c.make_call.new.keys c.in_ok-started.started.letters c.self.view_is up
          c.in_ok-started.ensures.called.applied c.in_ok-started.ensures.given c.in_ok-started.ensures.followed;
      called = subst (λ (s : LockedState). HasCalled s.shard (asks_in s.asks) c.args.ticket c.args.call c.args.key.now c.args.op.now c.make_call.new.shard (asks_in c.make_call.new.asks) c.in_ok-started.started.answer)
          c.self.view_is c.in_ok-started.ensures.called;
    }

pub returns-clause-stood : goal.returns-clause-stood
returns-clause-stood g c = subst (Stands g.P.Places.places) c.self.view_is (record { kept = c.self.invariant; shard = c.keeps.ensures })

pub returns-clause-stands : goal.returns-clause-stands
returns-clause-stands g c =
    let up : c.self.inside.shard.last < c.args.ticket = subst (λ (s : LockedState). s.shard.last < c.args.ticket) (sym c.self.view_is) c.requires.ticket in
    record {
      kept = called_locked _ c.self.inside.node c.self.inside.number c.self.inside.skew c.self.inside.shard c.make_call.new.shard c.args.ticket c.args.call c.args.key.now c.args.op.now
          c.in_ok-started.started.answer c.self.inside.asks c.make_call.new.asks c.self.inside.open_keys c.make_call.new.keys c.keeps.ensures up c.in_ok-started.ensures.called c.in_ok-started.ensures.followed c.self.invariant;
      shard = c.keeps-2.ensures;
    }
