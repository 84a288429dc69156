use Rattle.std.proofs.Common.{rules, ◌≡◌, ◌∷◌, [], sym, ap, ◌∙◌, Ok}
use Rattle.hk_base.specs.declared.call.Op.TheVariants.{Read}
use Rattle.hk_event.specs.declared.event.Event.TheVariants.{Call}
use Rattle.hk_node.specs.ReplyLists.{listed}
use Rattle.hk_safety.specs.Push.{IsPushed}
use Rattle.hk_merge.specs.Merged.{answers_of}
use Rattle.hk_assemble.proofs.stepping.look.Goals as goal

pub returns-in-One : goal.returns-in-One
returns-in-One c =
    let pushed : IsPushed (Ok c.in-Ok.shown) c.args.run.now c.push.new.self (Call c.args.node c.args.key.now Read) = search rules in
    let shown : pushed.0.0.shown.replies ≡ listed c.into_list.result = search rules in
    let one : pushed.0.0.shown.replies ≡ c.in-One.reply ∷ [] = shown ∙ ap listed c.in-One.is in
    (pushed.0.0, pushed.0.1, ap answers_of one, pushed.1)
