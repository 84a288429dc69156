use Rattle.hk_managing.proofs.Telling.{on_ok, told_by_board}
use Rattle.hk_managing.proofs.gathered.Gathered.hear.Goals as goal

pub returns : goal.returns
returns c =
    on_ok c.note.result
    (λ noted.
    told_by_board c.offices_are_made_again.ensures c.args.office.now c.hear_board.new.self c.args.now c.args.place c.args.heard.now.asked c.args.heard.now.board c.in-Ok.logged c.args.self.now.notes.items c.note.new.self.notes.items
    c.in-Ok.ensures.ok noted)
    c.note.ensures
