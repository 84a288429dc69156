use Rattle.std.proofs.Common.{refl, sym, ap, ◌∙◌}
use Rattle.std.specs.List.{position}
use Rattle.hk_key.specs.Notes.{is_of, note_in}
use Rattle.hk_key.proofs.Noting.{sharpened, at_end, none_noted}
use Rattle.hk_key.proofs.acks.Acks.note.Goals as goal
use Rattle.hk_key.proofs.acks.Acks.note.Goals.{then-ack, else-ack}

pub add-requires : goal.add-requires
add-requires c = c.requires.room (none_noted (is_of c.args.node) c.args.self.now (sym c.place_of.ensures ∙ c.in-None.is))

pub returns-after-ack : goal.returns-after-ack
returns-after-ack c = record {
  exact = sharpened c.args.node c.args.exact c.self.inside.items.items c.in-Some.at c.index-ack.result.now _ (ap (λ l. position (is_of c.args.node) l) c.self.view_is ∙ sym c.place_of.ensures ∙ c.in-Some.is) c.index-ack.ensures
      (elim c.if-ack.branch [ then-ack w ↦ w.sharp-is ∙ rw w.if-ack.true refl | else-ack w ↦ w.sharp-is ∙ rw w.if-ack.false refl ])
      ∙ ap (λ l. note_in c.args.node c.args.exact l) c.self.view_is;
}

pub returns-in-None : goal.returns-in-None
returns-in-None c = record {
  exact = c.add.ensures ∙ at_end c.args.node c.args.exact c.args.self.now (none_noted (is_of c.args.node) c.args.self.now (sym c.place_of.ensures ∙ c.in-None.is));
}
