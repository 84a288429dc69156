use Rattle.std.proofs.Common.{List, subst}
use Rattle.hk_log.specs.declared.entry.Entry.{Entry}
use Rattle.hk_office.specs.declared.office.Office.{Office}
use Rattle.hk_managing.specs.Turns.{StayTold}
use Rattle.hk_managing.proofs.Passing.{passing_told}
use Rattle.hk_managing.proofs.managing.ManagerJob.pass_letters.Goals as goal

pub returns : goal.returns
returns g c =
    let before = c.follow_routes.new.self in
    subst (λ (o : Office). (notes : List Entry) → StayTold o notes c.pass.new.office notes) c.follow_routes.ensures
    (passing_told c.pass.result c.now-now.result before.office c.pass.new.office before.relay.inlet c.pass.new.self.inlet before.relay.outlet c.pass.new.self.outlet c.pass.ensures.ok c.pass.ensures.err)
