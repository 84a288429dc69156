use Rattle.std.proofs.Common.{◌≡◌, ◌∙◌, ◌++◌, ◌∷◌, [], true, sym, ap, refl, nat_lt, List}
use Rattle.hk_base.specs.declared.letter.Letter.{Letter}
use Rattle.hk_node.proofs.Activations.{asking, asks_one, out_as}
use Rattle.hk_node.proofs.Outs.{out_of_still}
use Rattle.hk_node.proofs.node.Node.ask_lease.Goals as goal

pub returns-clause-out : goal.returns-clause-out
returns-clause-out c =
    let there : nat_lt c.args.manager c.args.self.now.managers ≡ true = sym c.has_manager.ensures ∙ c.if-not-has_manager.false in
    out_as c.tells.result c.args.self.now (asking c.args.self.now c.args.manager) _ (asks_one c.args.self.now c.args.manager there)
    (out_of_still c.args.self.now (asking c.args.self.now c.args.manager) c.tells.result c.tells.ensures.node refl
    (c.tells.ensures.letters ∙ c.in_ok-push.ensures.ok ∙ ap (λ (l : List Letter). l ++ c.lease_ask.result ∷ []) c.new-letters.ensures ∙ ap (λ (l : Letter). l ∷ []) c.lease_ask.ensures)
    (c.tells.ensures.replies ∙ c.nothing.ensures) c.tells.ensures.installed c.tells.ensures.undo c.tells.ensures.report)
