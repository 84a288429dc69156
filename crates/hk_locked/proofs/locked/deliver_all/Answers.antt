use Rattle.std.proofs.Common.{◌≡◌, [], ◌∷◌, List, length, refl, sym, ap, ◌∙◌, subst, arith}
use Rattle.std.specs.Vec.Iter.{into_iter_items}
use Rattle.hk_base.specs.declared.call.Reply.{Reply}
use Rattle.hk_told.specs.Held.{Delivers}
use Rattle.hk_told.specs.Kept.{asks_in}
use Rattle.hk_told.proofs.Apart.{delivers_in_turn}
use Rattle.hk_locked.proofs.Keeping.{heard_nothing}
use Rattle.hk_locked.proofs.locked.deliver_all.Goals as goal

nothing_left : (replies : List Reply) → length replies ≡ 0 → replies ≡ []
nothing_left [] none = refl
nothing_left (reply ∷ replies) none = absurd (omega arith)

pub loop-reply-preserved : goal.loop-reply-preserved
loop-reply-preserved g c =
    let steps : into_iter_items c.loop-reply.reply-iterator ≡ c.in-Some.reply ∷ into_iter_items c.next.new.self = c.in-Some.ensures.steps.0 in (
      λ final rest. c.loop-reply.invariant.0 final
          (subst (λ (l : List Reply). Delivers l (asks_in c.loop-reply.asks) final) (sym steps)
          (delivers_in_turn c.in-Some.reply (into_iter_items c.next.new.self) (asks_in c.loop-reply.asks) (asks_in c.deliver.new.self) final c.deliver.ensures.delivers rest)),
      let was = c.loop-reply.invariant.1 in
          let gone = c.in-Some.ensures.steps.1 in
          let short = ap length steps in
          omega arith,
    )

pub returns : goal.returns
returns g c =
    let none : into_iter_items c.loop-reply.reply-iterator ≡ [] = nothing_left _ (sym c.loop-reply.invariant.1 ∙ c.in-None.ensures.steps.0) in
    c.loop-reply.invariant.0 (asks_in c.loop-reply.asks)
    (subst (λ (l : List Reply). Delivers l (asks_in c.loop-reply.asks) (asks_in c.loop-reply.asks)) (sym none) (heard_nothing (asks_in c.loop-reply.asks)))
