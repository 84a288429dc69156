use Rattle.std.proofs.Common.{◌<◌, List, sym, subst}
use Rattle.std.specs.List.{AllByRecursion}
use Rattle.hk_base.specs.Range.{IsLetter}
use Rattle.hk_base.specs.declared.call.Reply.{Reply}
use Rattle.hk_node.specs.Stepped.{replies_of}
use Rattle.hk_node.specs.Steps.{node_step}
use Rattle.hk_node.proofs.Ranged.{letters_in_range}
use Rattle.hk_shard.proofs.Keeping.{part_is_node}
use Rattle.hk_told.specs.Held.{Delivers}
use Rattle.hk_told.specs.Kept.{asks_in}
use Rattle.hk_locked.specs.Locked.{LockedState}
use Rattle.hk_locked.proofs.Keeping.{applied_locked}
use Rattle.hk_locked.proofs.Making.{makes}
use Rattle.hk_locked.proofs.locked.LockedShard.apply.Goals as goal

pub invariant_of-self-2 : goal.invariant_of-self-2
invariant_of-self-2 g c =
    let up : c.self.inside.shard.last < c.args.ticket = subst (λ (s : LockedState). s.shard.last < c.args.ticket) (sym c.self.view_is) c.requires.ticket in
    applied_locked _ c.self.inside.node c.self.inside.number c.self.inside.skew c.self.inside.shard c.step.new.self c.args.ticket c.args.event c.self.inside.asks c.deliver.new.asks
    c.self.inside.open_keys c.step.new.keys c.keeps.ensures up c.requires.event c.requires.no_call c.in_ok-out.ensures.applied
    (subst (λ (l : List Reply). Delivers l (asks_in c.self.inside.asks) (asks_in c.deliver.new.asks)) c.in_ok-out.ensures.replies c.deliver.ensures) c.in_ok-out.ensures.followed c.self.invariant

pub returns-clause-letters : goal.returns-clause-letters
returns-clause-letters g c = subst (AllByRecursion IsLetter) (sym c.in_ok-out.ensures.letters)
    (letters_in_range c.self.inside.shard.part c.args.event (part_is_node c.self.inside.shard c.keeps.ensures) c.requires.event)

pub returns-clause-made : goal.returns-clause-made
returns-clause-made g c =
    let up : c.self.inside.shard.last < c.args.ticket = subst (λ (s : LockedState). s.shard.last < c.args.ticket) (sym c.self.view_is) c.requires.ticket in
    makes (record { node = c.self.inside.node; number = c.self.inside.number; skew = c.self.inside.skew; shard = c.self.inside.shard; asks = c.self.inside.asks; open_keys = c.self.inside.open_keys })
    c.args.self.now c.step.new.self c.args.ticket c.args.event c.deliver.new.asks c.step.new.keys c.in_ok-out.out.letters c.self.view_is up c.in_ok-out.ensures.applied c.in_ok-out.ensures.letters
    c.in_ok-out.ensures.followed

pub returns-clause-told : goal.returns-clause-told
returns-clause-told g c =
    subst (λ (s : LockedState). Delivers (replies_of (node_step s.shard.part c.args.event)) (asks_in s.asks) (asks_in c.deliver.new.asks)) c.self.view_is
    (subst (λ (l : List Reply). Delivers l (asks_in c.self.inside.asks) (asks_in c.deliver.new.asks)) c.in_ok-out.ensures.replies c.deliver.ensures)

pub returns-clause-stands : goal.returns-clause-stands
returns-clause-stands g c =
    let up : c.self.inside.shard.last < c.args.ticket = subst (λ (s : LockedState). s.shard.last < c.args.ticket) (sym c.self.view_is) c.requires.ticket in
    record {
      kept = (applied_locked _ c.self.inside.node c.self.inside.number c.self.inside.skew c.self.inside.shard c.step.new.self c.args.ticket c.args.event c.self.inside.asks c.deliver.new.asks
          c.self.inside.open_keys c.step.new.keys c.keeps.ensures up c.requires.event c.requires.no_call c.in_ok-out.ensures.applied
          (subst (λ (l : List Reply). Delivers l (asks_in c.self.inside.asks) (asks_in c.deliver.new.asks)) c.in_ok-out.ensures.replies c.deliver.ensures) c.in_ok-out.ensures.followed c.self.invariant);
      shard = c.keeps-2.ensures;
    }
