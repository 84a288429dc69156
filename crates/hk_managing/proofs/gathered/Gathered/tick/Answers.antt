use Rattle.hk_managing.proofs.Telling.{on_ok, gone_by}
use Rattle.hk_managing.proofs.gathered.Gathered.tick.Goals as goal

pub returns : goal.returns
returns c =
    on_ok c.note.result
    (λ noted. gone_by c.offices_are_made_again.ensures c.args.office.now c.tick.new.self c.args.now c.in-Ok.logged c.args.self.now.notes.items c.note.new.self.notes.items c.in-Ok.ensures.ok noted) c.note.ensures
