use Rattle.std.proofs.Common.{List, subst}
use Rattle.hk_log.specs.declared.entry.Entry.{Entry}
use Rattle.hk_office.specs.declared.office.Office.{Office}
use Rattle.hk_managing.specs.Turns.{StayTold}
use Rattle.hk_managing.proofs.Staying.{intents_told}
use Rattle.hk_managing.proofs.managing.ManagerJob.intents.Goals as goal

pub returns-in-Ok-intents : goal.returns-in-Ok-intents
returns-in-Ok-intents g c =
    let P : Office → Type 0 = λ (o : Office). (notes : List Entry) → StayTold o notes c.intents.new.self notes in
    subst P c.tell_members.ensures (subst P c.note_answers.ensures
    (intents_told c.intents.result c.note_answers.new.self.office c.intents.new.self c.now-now.result c.deref-6.result.now c.intents.ensures.ok c.intents.ensures.err))
