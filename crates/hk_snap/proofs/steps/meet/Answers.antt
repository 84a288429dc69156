use Rattle.std.proofs.Common.{rules, sym, ap, subst, ◌∙◌, List}
use mathlib.Core.List.{IsPrefix}
use Rattle.hk_snap.specs.declared.rule.Publication.{Publication}
use Rattle.hk_snap.specs.Snapshots.{last_shown}
use Rattle.hk_snap.specs.Layout.{words_at}
use Rattle.hk_snap.proofs.Using.{loaded}
use Rattle.hk_snap.proofs.Keeping.{splits, claims, compares, meets}
use Rattle.hk_snap.proofs.steps.meet.Goals as goal

pub split_pass-claim-requires : goal.split_pass-claim-requires
split_pass-claim-requires g c = (search rules, (search rules, (search rules, (c.requires.cell.1 ∙ c.requires.cell.0, splits _ _))))

pub join_pass-requires : goal.join_pass-requires
join_pass-requires g c =
    let s = c.split_pass-claim.ensures in
    (search rules, (search rules, (search rules, ((c.requires.cell.0, s.given.0 ∙ c.requires.cell.1, s.given.2), claims _ _ _ _))))

pub load_as-requires : goal.load_as-requires
load_as-requires g c = (search rules, (search rules, (search rules, (c.join_pass.ensures.0.0 ∙ c.requires.cell.0, compares _ _ (ap (λ v. v.publishes) c.join_pass.ensures.1 ∙ c.requires.publishes.0)))))

pub split_pass-seen-requires : goal.split_pass-seen-requires
split_pass-seen-requires g c = (search rules, (search rules, (search rules, (c.load_as.ensures.cell.0 ∙ (c.join_pass.ensures.0.0 ∙ c.requires.cell.0), splits _ _))))

pub join_pass-requires-2 : goal.join_pass-requires-2
join_pass-requires-2 g c =
    let s = c.split_pass-seen.ensures in
    let t = c.split_pass-claim.ensures in
    (search rules, (search rules, (search rules, ((t.kept.0.0 ∙ (c.requires.cell.1 ∙ c.requires.cell.0), s.given.0 ∙ (c.load_as.ensures.cell.0 ∙ (c.join_pass.ensures.0.0 ∙ sym (t.kept.0.0 ∙ c.requires.cell.1))), s.given.2), meets _ _ _ _ (ap (λ v. v.publishes) t.kept.1 ∙ c.requires.publishes.1)))))

pub returns-clause-words : goal.returns-clause-words
returns-clause-words g c =
    let seen = ap (λ v. v.seen) c.join_pass.ensures.1 in
    let r = c.load_as.ensures.rule in
    loaded _ r.0 c.load_as.new.room (subst (λ (l : List Publication). IsPrefix (words_at (last_shown l)) r.0) seen r.1.2) r.2
