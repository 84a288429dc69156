use Rattle.std.proofs.Common.{◌≡◌, None, Some, sym, subst, ap, ◌∙◌, List}
use Rattle.hk_base.specs.declared.letter.Letter.{Letter}
use Rattle.hk_base.specs.Range.{IsLetter}
use Rattle.hk_world.specs.Acting.{IsAct, IsManagerAct}
use Rattle.hk_world.specs.World.{WorldState, numbered}
use Rattle.hk_world.proofs.Viewed.{numbered_holds}
use Rattle.hk_world.proofs.Answering.{answer_as}
use Rattle.hk_world.proofs.Eventful.{takes_is, manager_takes_is}
use Rattle.hk_world.proofs.world.World.take.Goals as goal

pub act-requires : goal.act-requires
act-requires c =
    let found : numbered c.args.number c.self.inside.letters.items ≡ Some c.in-Some.letter.now = ap (λ (ls : List Letter). numbered c.args.number ls) (sym c.deref.ensures.value) ∙ sym c.in-Some.ensures in
    subst IsAct (sym c.in_ok-event-in-Node.ensures) (numbered_holds IsLetter c.args.number c.self.inside.letters.items c.in-Some.letter.now c.self.invariant.1.letters found)

pub manage-requires : goal.manage-requires
manage-requires c =
    let found : numbered c.args.number c.self.inside.letters.items ≡ Some c.in-Some.letter.now = ap (λ (ls : List Letter). numbered c.args.number ls) (sym c.deref.ensures.value) ∙ sym c.in-Some.ensures in
    subst IsManagerAct (sym c.in_ok-event-in-Manager.ensures) (numbered_holds IsLetter c.args.number c.self.inside.letters.items c.in-Some.letter.now c.self.invariant.1.letters found)

pub returns-in_ok-event-in-Node : goal.returns-in_ok-event-in-Node
returns-in_ok-event-in-Node c =
    let found : numbered c.args.number c.self.inside.letters.items ≡ Some c.in-Some.letter.now = ap (λ (ls : List Letter). numbered c.args.number ls) (sym c.deref.ensures.value) ∙ sym c.in-Some.ensures in
    answer_as c.act.result c.args.self.now c.act.new.self _ _
    (takes_is c.args.self.now c.args.number c.in-Some.letter.now c.in-Node.id c.in_ok-event-in-Node.event (subst (λ (w : WorldState). numbered c.args.number w.letters ≡ Some c.in-Some.letter.now) c.self.view_is found)
    c.in-Node.is c.in_ok-event-in-Node.ensures) c.act.ensures

pub returns-in_ok-event-in-Manager : goal.returns-in_ok-event-in-Manager
returns-in_ok-event-in-Manager c =
    let found : numbered c.args.number c.self.inside.letters.items ≡ Some c.in-Some.letter.now = ap (λ (ls : List Letter). numbered c.args.number ls) (sym c.deref.ensures.value) ∙ sym c.in-Some.ensures in
    answer_as c.manage.result c.args.self.now c.manage.new.self _ _
    (manager_takes_is c.args.self.now c.args.number c.in-Some.letter.now c.in-Manager.manager c.in_ok-event-in-Manager.event (subst (λ (w : WorldState). numbered c.args.number w.letters ≡ Some c.in-Some.letter.now) c.self.view_is found)
    c.in-Manager.is c.in_ok-event-in-Manager.ensures) c.manage.ensures
