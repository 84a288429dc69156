use Rattle.std.proofs.Common.{◌≡◌, ◌+◌, [], ◌∷◌, drop, sym, ap, subst, ◌∙◌}
use Rattle.std.proofs.lemmas.List.{at_drop_more}
use Rattle.hk_world.specs.Start.{start}
use Rattle.hk_safety.specs.Run.{AreAccepted}
use Rattle.hk_safety.specs.Shows.{lines_from}
use Rattle.hk_safety.proofs.Remade.{again_more}
use Rattle.hk_safety.proofs.again.again.Goals as goal

pub take_again-requires-clause-event : goal.take_again-requires-clause-event
take_again-requires-clause-event c =
    let l = c.loop-event in
    let all = c.args.events.now in
    let left : drop l.event-index all ≡ c.event-item.result ∷ drop (l.event-index + 1) all =
    at_drop_more (λ es. es) all l.event-index c.event-item.result c.loop-event-test.true ∙ ap (λ e. e ∷ drop (l.event-index + 1) all) (sym c.event-item.is) in
    (subst (AreAccepted l.world) left l.invariant.0).0

pub take_again-requires-clause-accepted : goal.take_again-requires-clause-accepted
take_again-requires-clause-accepted c =
    let l = c.loop-event in
    let all = c.args.events.now in
    let left : drop l.event-index all ≡ c.event-item.result ∷ drop (l.event-index + 1) all =
    at_drop_more (λ es. es) all l.event-index c.event-item.result c.loop-event-test.true ∙ ap (λ e. e ∷ drop (l.event-index + 1) all) (sym c.event-item.is) in
    let h = subst (AreAccepted l.world) left l.invariant.0 in
    (h.1, h.2)

pub loop-event-preserved : goal.loop-event-preserved
loop-event-preserved c =
    let l = c.loop-event in
    let all = c.args.events.now in
    let left : drop l.event-index all ≡ c.event-item.result ∷ drop (l.event-index + 1) all =
    at_drop_more (λ es. es) all l.event-index c.event-item.result c.loop-event-test.true ∙ ap (λ e. e ∷ drop (l.event-index + 1) all) (sym c.event-item.is) in
    again_more c.args.key.now l.world c.take_again.new.world l.calls.items c.take_again.new.calls.items l.items c.take_again.new.items
    (lines_from c.args.key.now (start c.args.header) [] all) (drop l.event-index all) (drop (l.event-index + 1) all) c.event-item.result left
    l.invariant.0 l.invariant.1 c.in_ok-take_again.ensures
