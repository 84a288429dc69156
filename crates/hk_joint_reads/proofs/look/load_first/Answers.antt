use Rattle.std.proofs.Common.{◌∙◌, ◌∷◌, ◌+◌, List, ℕ, Option, drop, sym, ap, subst, arith}
use Rattle.std.proofs.Math.ListN.{drop_of_length-le}
use Rattle.std.proofs.lemmas.List.{drop_more}
use Rattle.hk_joint_reads.proofs.Loading.{loads_names}
use Rattle.hk_joint_reads.proofs.Rounds.{FirstRound, first_more, first_ends}
use Rattle.hk_joint_reads.proofs.look.load_first.Goals as goal

pub returns-in_err-look_first-clause-same : goal.returns-in_err-look_first-clause-same
returns-in_err-look_first-clause-same g c = loads_names c.loop-key.reader c.look_first.new.reader _ c.look_first.ensures.loads ∙ c.loop-key.invariant.same

pub returns-in_err-push-clause-same : goal.returns-in_err-push-clause-same
returns-in_err-push-clause-same g c = loads_names c.loop-key.reader c.look_first.new.reader _ c.look_first.ensures.loads ∙ c.loop-key.invariant.same

pub loop-key-preserved : goal.loop-key-preserved
loop-key-preserved g c =
    let l = c.loop-key in
    record {
      same = loads_names l.reader c.look_first.new.reader _ c.look_first.ensures.loads ∙ l.invariant.same;
      round = subst (λ (t : List (Option ℕ)). FirstRound c.args.reader.now c.look_first.new.reader c.args.keys.now (drop (l.key-index + 1) c.args.keys.now) t) (sym c.in_ok-push.ensures.items)
          (first_more c.args.reader.now l.reader c.look_first.new.reader c.args.keys.now (drop l.key-index c.args.keys.now) (drop (l.key-index + 1) c.args.keys.now) c.key-item.result
          l.tickets.items _ l.invariant.round
          (drop_more c.args.keys.now l.key-index c.key-item.result c.loop-key-test.true ∙ ap (λ (k : List ℕ). k ∷ drop (l.key-index + 1) c.args.keys.now) (sym c.key-item.is))
          c.look_first.ensures.loads c.look_first.ensures.shown c.in_ok-look_first.ensures.ticket);
    }

pub returns-clause-loads : goal.returns-clause-loads
returns-clause-loads g c =
    let l = c.loop-key in
    let t = c.loop-key-test.false in
    first_ends c.args.reader.now l.reader c.args.keys.now (drop l.key-index c.args.keys.now) l.tickets.items l.invariant.round (drop_of_length-le c.args.keys.now (omega (arith, t)))
