use Rattle.std.proofs.Common.{sym, ◌∙◌, arith}
use Rattle.hk_clocks.proofs.Level.{no_leads, empty_is}
use Rattle.hk_clocks.proofs.clocks.rising.leads_at.Goals as goal

pub returns-then-risen-least : goal.returns-then-risen-least
returns-then-risen-least c =
    c.new.ensures ∙ sym (no_leads c.args.to c.args.least c.args.paces.now.entries (c.args.actor, c.args.pace.now)
    (empty_is c.args.pace.now.leads (sym c.is_empty.ensures ∙ c.if-is_empty.true)) c.requires.rising (omega (arith, c.saturating_sub-risen.ensures, c.if-risen-least.true)))
