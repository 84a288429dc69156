use Rattle.std.proofs.Common.{◌∙◌, List, ℕ, Option, length, ap}
use Rattle.hk_joint_reads.proofs.Rounds.{each_long, tickets_long}
use Rattle.hk_joint_reads.proofs.Still.{joint_read}
use Rattle.hk_joint_reads.proofs.read.read_joint.Goals as goal

pub load_again-requires : goal.load_again-requires
load_again-requires g c =
    let f = c.in_ok-first.ensures.loads in
    ap (λ (t : List (Option ℕ)). length t) (c.as_slice.ensures.value ∙ f.2) ∙ tickets_long c.args.keys.now f.0 (each_long c.args.reader.now c.load_first.new.reader c.args.keys.now f.0 f.1)

pub returns-clause-read : goal.returns-clause-read
returns-clause-read g c =
    let f = c.in_ok-first.ensures.loads in
    let s = c.in_ok-looks.ensures.loads in
    joint_read c.judge.result c.args.reader.now c.load_first.new.reader c.load_again.new.reader c.args.keys.now f.0 s.0 c.as_slice.result.now c.as_slice-2.result.now c.end-end.result _ c.now-now.result c.args.skew
    (g.C.Clock.reading c.args.clock.now) f.1 (c.as_slice.ensures.value ∙ f.2) s.1 (c.as_slice-2.ensures.value ∙ s.2) s.3 c.now-now.ensures c.end-end.ensures.end c.judge.ensures
