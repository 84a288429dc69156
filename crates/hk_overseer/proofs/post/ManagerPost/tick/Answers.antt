use Rattle.std.proofs.Common.{List, length, sym, ap, ◌∙◌, subst}
use Rattle.std.specs.List.{AllByRecursion}
use Rattle.std.proofs.lemmas.List.{length-map}
use Rattle.hk_manager.specs.Manager.{ManagerState}
use Rattle.hk_manager.specs.Sound.{IsManager}
use Rattle.hk_overseer.proofs.Sound.{sound_ticked}
use Rattle.hk_overseer.proofs.post.ManagerPost.tick.Goals as goal

pub invariant_of-self : goal.invariant_of-self
invariant_of-self c = (
  ap (λ (l : List ManagerState). length l) c.tick_all.ensures ∙ (length-map c.self.inside.managers.items _ ∙ c.self.invariant.0),
  subst (AllByRecursion IsManager) (sym c.tick_all.ensures) (sound_ticked c.steps_keep_managers.ensures.manager c.args.now c.requires c.self.inside.managers.items c.self.invariant.1),
)
