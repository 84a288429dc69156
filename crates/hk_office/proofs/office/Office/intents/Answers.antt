use Rattle.std.proofs.Common.{rules, ◌≡◌, List, IfOk, true, sym, subst}
use Rattle.hk_keeper.specs.declared.heard.Wish.{Wish}
use Rattle.hk_stage.specs.Opening.{takes_letters}
use Rattle.hk_office.specs.declared.office.Office.{Office}
use Rattle.hk_office.proofs.Closed.{when_open}
use Rattle.hk_office.proofs.office.Office.intents.Goals as goal

pub returns-clause-ok : goal.returns-clause-ok
returns-clause-ok c =
    let is_open : takes_letters c.args.self.now.opening ≡ true = search rules in
    subst (λ (x : List Wish × Office). IfOk c.open_intents.result (λ due. ◌≡◌ {A = List Wish × Office} (due, c.open_intents.new.self) x))
    (sym (when_open c.args.self.now c.args.now c.args.views.now is_open)) c.open_intents.ensures.ok
