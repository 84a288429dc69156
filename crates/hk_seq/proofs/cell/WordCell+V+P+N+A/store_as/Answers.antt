use Rattle.std.proofs.Common.{rules, arith, ◌≡◌, ℕ, refl, sym, ap, ◌∙◌, subst}
use Rattle.hk_seq.proofs.Keeps.{publishes}
use Rattle.crossbeam_utils.specs.Register.{TurnsAt}
use Rattle.crossbeam_utils.specs.declared.atomic.seq_cell.Stage.TheVariants.{Writing}
use Rattle.hk_seq.specs.Steps.{in_use, over}
use Rattle.hk_seq.proofs.cell.WordCell+V+P+N+A.store_as.Goals as goal

pub store-requires : goal.store-requires
store-requires g c =
    let e : c.loop-i.i ≡ in_use g.row.N c.args.new.now = search rules in
    let same = c.loop-i.invariant.0 in
    let writing = c.loop-i.invariant.1 in (
      search rules,
      search rules,
      publishes _ _ g.M.Outcome.then _ _ _ c.lock-version.result (in_use g.row.N c.args.new.now) writing.0 c.args.new.now _
          (writing.1 ∙ ap (Writing c.lock-version.result writing.0 c.args.new.now) e) refl (omega arith) (search rules)
          (subst (λ (z : ℕ × g.row.V.Denot). TurnsAt g.P.Protocol.holds z.0 z.1 writing.0 (over g.row.N c.args.new.now writing.0) g.M.Outcome.then)
          (λ i. (sym same.1 i, sym same.2 i)) (c.requires.rule writing.0)),
    )

pub returns-clause-rule : goal.returns-clause-rule
returns-clause-rule g c =
    let e : c.loop-i.i ≡ in_use g.row.N c.args.new.now = search rules in
    let same = c.loop-i.invariant.0 in
    let writing = c.loop-i.invariant.1 in (
      writing.0,
      subst (λ (v : g.row.V.Denot). g.M.Outcome.then v writing.0 (over g.row.N c.args.new.now writing.0) c.store.new.seat.me.0.client) same.2
          (c.store.ensures.2 _ _ _ _ (writing.1 ∙ ap (Writing c.lock-version.result writing.0 c.args.new.now) e)),
    )
