use Rattle.std.proofs.Common.{◌≡◌, rules, ◌∙◌, List, ℕ, Option, ap}
use Rattle.std.specs.Ordering.{nat_cmp}
use Rattle.std.specs.BTreeMap.{insert_entry}
use Rattle.std.proofs.lemmas.Cmp.{nat_cmp_total}
use Rattle.hk_lease.proofs.Back.{put_undone}
use Rattle.hk_manager.specs.declared.instance.Instance.{Instance}
use Rattle.hk_manager.specs.Manager.{ManagerState}
use Rattle.hk_manager.specs.Undone.{instance_rolled_back}
use Rattle.hk_manager.proofs.Parts.{with_instance_kept}
use Rattle.hk_manager.proofs.manager.Manager.put_instance.Goals as goal

pub invariant_of-self-2 : goal.invariant_of-self-2
invariant_of-self-2 c =
    let same : c.insert.new.self.entries ≡ insert_entry nat_cmp c.self.inside.instances.entries c.args.epoch c.args.instance = search rules in
    rw same (with_instance_kept _ c.args.epoch c.args.instance c.self.invariant c.requires)

pub returns-clause-prior : goal.returns-clause-prior
returns-clause-prior c =
    let same : c.insert.new.self.entries ≡ insert_entry nat_cmp c.self.inside.instances.entries c.args.epoch c.args.instance = search rules in
    let own : c.self.inside.instances.entries ≡ c.args.self.now.instances = ap (λ (m : ManagerState). m.instances) c.self.view_is in
    ap (λ (es : List (ℕ × Instance)). instance_rolled_back c.args.epoch c.in_ok-prior.prior es) same
    ∙ ap (λ (o : Option Instance). instance_rolled_back c.args.epoch o (insert_entry nat_cmp c.self.inside.instances.entries c.args.epoch c.args.instance)) c.in_ok-prior.ensures.old
    ∙ put_undone nat_cmp nat_cmp_total c.args.epoch c.args.instance c.self.inside.instances.entries c.in_ok-prior.ensures.was_ordered ∙ own
