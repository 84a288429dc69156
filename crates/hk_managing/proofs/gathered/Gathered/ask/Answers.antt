use Rattle.std.proofs.Common.{◌∙◌}
use Rattle.hk_managing.proofs.Telling.{asked}
use Rattle.hk_managing.proofs.gathered.Gathered.ask.Goals as goal

pub returns : goal.returns
returns c =
    asked c.offices_are_made_again.ensures c.args.office.now c.answer.new.self c.args.seen.now.now c.args.seen.now.views.now c.args.seen.now.told.now c.args.inquiry c.in-Ok.step c.args.self.now.notes.items c.reply.new.self.notes.items
    c.in-Ok.ensures.ok (c.reply.ensures ∙ c.in_ok-note.ensures)
