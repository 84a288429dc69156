use Rattle.std.proofs.Common.{◌≡◌, ◌∙◌, false, sym}
use Rattle.hk_base.specs.View.{is_member}
use Rattle.hk_manager.proofs.manager.Manager.take_ask.Goals as goal

pub returns-then-not-has_member-clause-made : goal.returns-then-not-has_member-clause-made
returns-then-not-has_member-clause-made c =
    let out : is_member c.args.from c.args.self.now.held.members ≡ false = rw (sym c.self.view_is) (sym c.has_member.ensures ∙ c.if-not-has_member.true) in
    rw out (c.idle.ensures.made c.args.self.now)
