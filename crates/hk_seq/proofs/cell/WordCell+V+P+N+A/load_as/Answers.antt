use Rattle.std.proofs.Common.{rules, ℕ, List, sym, subst, ◌∙◌}
use Rattle.crossbeam_utils.proofs.SeqKeeps.{looks, checks}
use Rattle.crossbeam_utils.specs.Register.{Turns}
use Rattle.hk_seq.specs.Steps.{HasInUse}
use Rattle.hk_seq.proofs.Keeps.{read_whole}
use Rattle.hk_seq.proofs.cell.WordCell+V+P+N+A.load_as.Goals as goal

pub load-version-requires : goal.load-version-requires
load-version-requires g c = (search rules, search rules, looks _ _ _ _ _ _)

pub load-requires : goal.load-requires
load-requires g c =
    let id = c.gather.ensures.0.1 ∙ (c.load-version.ensures.1 ∙ c.loop.invariant.1) in
    let view = c.gather.ensures.0.2 ∙ (c.load-version.ensures.2.0 ∙ c.loop.invariant.2) in (
      search rules,
      search rules,
      checks _ _ _ g.M.Outcome.then _ _ _ (subst (λ (z : ℕ × g.row.V.Denot). Turns g.P.Protocol.holds z.0 z.1 (λ x. x) g.M.Outcome.then) (λ i. (sym id i, sym view i)) c.requires.rule),
    )

pub returns-then-load-version-clause-rule : goal.returns-then-load-version-clause-rule
returns-then-load-version-clause-rule g c =
    let view = c.gather.ensures.0.2 ∙ (c.load-version.ensures.2.0 ∙ c.loop.invariant.2) in
    subst (λ (v : g.row.V.Denot). (x : List ℕ) × g.M.Outcome.then v x x c.load.new.seat.me.0.client × HasInUse g.row.N c.gather.new.room x) view
    (read_whole g.M.Outcome.then _ _ _ _ _ _ _ (search rules) c.load-version.ensures.2.1 c.gather.ensures.1 (search rules))
