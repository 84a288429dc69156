use Rattle.std.proofs.Common.{sym, ap, ◌∙◌}
use Rattle.hk_due.specs.Keys.{OpenState, since_of}
use Rattle.std.specs.Option.{is_some}
use Rattle.hk_due.proofs.Following.{told_open}
use Rattle.hk_due.proofs.keys.OpenKeys.is_open.Goals as goal

pub returns-then-self : goal.returns-then-self
returns-then-self c =
    c.contains_key.ensures ∙ (ap (λ (k : OpenState). is_some (since_of c.args.key.now k)) c.self.view_is
    ∙ told_open c.args.self.now c.args.part.now.rows c.args.key.now c.requires (sym (ap (λ (k : OpenState). k.whole) c.self.view_is) ∙ c.if-self.true))
