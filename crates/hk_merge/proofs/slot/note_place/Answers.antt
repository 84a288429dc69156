use Rattle.std.proofs.Common.{ap, ◌∙◌}
use Rattle.hk_merge.specs.Merged.{next_entry}
use Rattle.hk_merge.specs.Indexed.{place_by}
use Rattle.hk_merge.proofs.Indexing.{placed_by}
use Rattle.hk_merge.proofs.slot.note_place.Goals as goal

pub returns : goal.returns
returns c =
    c.place_by.ensures ∙ (ap (λ next. place_by next c.args.listed c.args.note.now) c.next_ticket-next.ensures
    ∙ placed_by (next_entry c.args.note.now.key c.args.note.now.ticket c.args.journal.now) c.args.listed c.args.note.now)
