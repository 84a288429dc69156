use Rattle.std.proofs.Common.{sym, ◌∙◌}
use Rattle.hk_assemble.proofs.Tickets.{journals_rise, rising_journals}
use Rattle.hk_assemble.proofs.rising.tickets_rise.Goals as goal

pub returns : goal.returns
returns c = (λ e. journals_rise c.args.journals.now (sym c.all_rise.ensures ∙ e), λ rise. c.all_rise.ensures ∙ rising_journals c.args.journals.now rise)
