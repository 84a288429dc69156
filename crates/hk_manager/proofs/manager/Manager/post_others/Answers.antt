use Rattle.std.proofs.Common.{◌≡◌, ◌∙◌, sym, ap}
use Rattle.std.proofs.lemmas.Bool.{ne_eqb, eq-eqb}
use Rattle.hk_manager.specs.Manager.{ManagerState}
use Rattle.hk_manager.proofs.Posts.{others_step, others_skip}
use Rattle.hk_manager.proofs.manager.Manager.post_others.Goals.{then-to-self+in_ok-body+in_ok-post, else-to-self}
use Rattle.hk_manager.proofs.manager.Manager.post_others.Goals as goal

pub loop-to-preserved : goal.loop-to-preserved
loop-to-preserved c =
    let own : c.self.inside.id ≡ c.args.self.now.id = ap (λ (m : ManagerState). m.id) c.self.view_is in
    elim c.if-to-self.branch [
      | then-to-self+in_ok-body+in_ok-post w ↦ w.letters-is ∙ others_step c.args.self.now c.args.epoch c.args.body.now w.in_ok-body.body c.loop-to.to c.loop-to.letters w.post.new.letters w.in_ok-body.ensures c.loop-to.invariant
          (ne_eqb c.loop-to.to c.args.self.now.id (λ (e : c.loop-to.to ≡ c.args.self.now.id). w.if-to-self.true (e ∙ sym own))) w.in_ok-post.ensures
      | else-to-self w ↦ w.letters-is ∙ others_skip c.args.self.now c.args.epoch c.args.body.now c.loop-to.to c.loop-to.letters c.loop-to.invariant (eq-eqb c.loop-to.to c.args.self.now.id (w.if-to-self.false ∙ own))
    ]
