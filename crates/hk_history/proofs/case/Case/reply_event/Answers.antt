use Rattle.std.proofs.Common.{sym, ◌∙◌}
use Rattle.hk_history.specs.History.{is_reply}
use Rattle.hk_history.proofs.Found.{found_at}
use Rattle.hk_history.proofs.case.Case.reply_event.Goals as goal

pub returns-in-Some : goal.returns-in-Some
returns-in-Some c = c.event_at.ensures ∙ found_at (is_reply c.args.number) c.args.self.now.items.now c.in-Some.place.now (sym (c.requires.replies c.args.number) ∙ sym c.in-Some.ensures.value)
