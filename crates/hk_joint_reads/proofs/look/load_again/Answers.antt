use Rattle.std.proofs.Common.{◌∙◌, ◌∷◌, ◌+◌, List, ℕ, drop, sym, ap, subst, arith}
use Rattle.std.proofs.Math.ListN.{drop_of_length-le}
use Rattle.std.proofs.lemmas.List.{drop_more}
use Rattle.hk_joint_reads.specs.declared.look.KeyLoads.{KeyLoads}
use Rattle.hk_joint_reads.proofs.Loading.{loads_names}
use Rattle.hk_joint_reads.proofs.Rounds.{SecondRound, second_more, second_ends}
use Rattle.hk_joint_reads.proofs.look.load_again.Goals as goal

pub returns-in_err-look_again-clause-same : goal.returns-in_err-look_again-clause-same
returns-in_err-look_again-clause-same g c = loads_names c.loop-at.reader c.look_again.new.reader _ c.look_again.ensures.loads ∙ c.loop-at.invariant.same

pub returns-in_err-push-clause-same : goal.returns-in_err-push-clause-same
returns-in_err-push-clause-same g c = loads_names c.loop-at.reader c.look_again.new.reader _ c.look_again.ensures.loads ∙ c.loop-at.invariant.same

pub loop-at-preserved : goal.loop-at-preserved
loop-at-preserved g c =
    let l = c.loop-at in
    let t = c.loop-at-test.true in
    let long = c.requires in
    record {
      same = loads_names l.reader c.look_again.new.reader _ c.look_again.ensures.loads ∙ l.invariant.same;
      round = subst (λ (k : List KeyLoads). SecondRound c.args.reader.now c.look_again.new.reader c.args.keys.now (drop (l.at + 1) c.args.keys.now) c.args.first.now (drop (l.at + 1) c.args.first.now) k)
          (sym c.in_ok-push.ensures.items)
          (second_more c.args.reader.now l.reader c.look_again.new.reader c.args.keys.now (drop l.at c.args.keys.now) (drop (l.at + 1) c.args.keys.now) c.args.first.now (drop l.at c.args.first.now)
          (drop (l.at + 1) c.args.first.now) c.index-keys-at.result _ l.looks.items _ l.invariant.round
          (drop_more c.args.keys.now l.at c.index-keys-at.result t ∙ ap (λ (k : List ℕ). k ∷ drop (l.at + 1) c.args.keys.now) (sym c.index-keys-at.is)) (drop_more c.args.first.now l.at _ (omega (arith, t, long)))
          c.look_again.ensures.loads c.look_again.ensures.shown c.look_again.ensures.rising c.in_ok-look_again.ensures.look);
    }

pub returns-clause-loads : goal.returns-clause-loads
returns-clause-loads g c =
    let l = c.loop-at in
    let t = c.loop-at-test.false in
    second_ends c.args.reader.now l.reader c.args.keys.now (drop l.at c.args.keys.now) c.args.first.now (drop l.at c.args.first.now) l.looks.items l.invariant.round
    (drop_of_length-le c.args.keys.now (omega (arith, t)))
