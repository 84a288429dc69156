use Rattle.std.proofs.Common.{sym, ◌∙◌}
use Rattle.hk_key.proofs.Sound.{room, the_notes}
use Rattle.hk_key.proofs.row.Row.on_ack.Goals as goal

pub note-requires : goal.note-requires
note-requires c = record {
  room = room c.args.me c.args.view.now c.in-Some.pending.acks c.args.from c.requires.view
      (the_notes c.args.me c.args.view.now.members c.args.self.now.pending c.in-Some.pending (sym c.take.ensures.value ∙ c.in-Some.is) c.requires.sound.update)
      c.requires.other;
}
