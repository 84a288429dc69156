use Rattle.std.proofs.Common.{rules, IsTrue, sym, ◌∙◌, subst}
use Rattle.hk_locked.specs.Locked.{LockedState}
use Rattle.hk_locked.specs.Steps.{Meets}
use Rattle.hk_locked.proofs.Keeping.{dropped_locked}
use Rattle.hk_locked.proofs.Reading.{looks_for}
use Rattle.hk_locked.proofs.locked.LockedShard.look.Goals as goal

pub invariant_of-self : goal.invariant_of-self
invariant_of-self g c = dropped_locked _ c.self.inside.node c.self.inside.number c.self.inside.skew c.self.inside.shard c.self.inside.asks c.look.new.self c.self.inside.open_keys c.look.ensures.fewer c.self.invariant

pub returns-clause-looks : goal.returns-clause-looks
returns-clause-looks g c =
    let at : IsTrue c.is_at.result = search rules in
    looks_for _ c.args.key.now c.args.ticket c.args.call c.look.result c.args.reader.now c.meet.new.reader
    (subst (λ (s : LockedState). Meets s c.args.key.now c.args.reader.now c.meet.new.reader) (sym c.meet.ensures.same ∙ sym c.self.view_is) c.in_ok-meet.ensures.met)
    c.self.invariant.held (c.is_at.ensures.is at) c.look.ensures.stands
