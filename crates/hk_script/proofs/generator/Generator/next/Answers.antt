use Rattle.std.proofs.Common.{◌≡◌, ◌∙◌, ap, rules}
use Rattle.hk_script.specs.Drawn.{draw}
use Rattle.hk_script.proofs.Drawing.{event_next}
use Rattle.hk_script.proofs.generator.Generator.next.Goals as goal

pub returns-clause-ok : goal.returns-clause-ok
returns-clause-ok c =
    let copied : c.in_ok-numbers.numbers ≡ c.self.inside.numbers = search rules in
    event_next c.args.self.now c.self.inside.nodes _ c.args.letters c.self.inside.numbers _ _ c.in_ok-event.event c.self.view_is
    (c.draw-kind.ensures.next ∙ ap (draw 16) copied) c.in_ok-event.ensures
