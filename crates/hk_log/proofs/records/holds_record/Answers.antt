use Rattle.std.proofs.Common.{sym, ap, ◌∙◌}
use Rattle.hk_log.specs.Logs.{stands_behind, holds_record}
use Rattle.hk_log.proofs.Holding.{holds_here, holds_later, holds_none}
use Rattle.hk_log.proofs.records.holds_record.Goals as goal

pub returns-then-stands_behind : goal.returns-then-stands_behind
returns-then-stands_behind c = holds_here c.args.bytes.now c.loop-place.place (holds_record c.args.bytes.now) c.loop-place-test.true (ap stands_behind (sym c.split_at.ensures.back) ∙ sym c.if-stands_behind.ensures) c.loop-place.invariant

pub loop-place-preserved : goal.loop-place-preserved
loop-place-preserved c = holds_later c.args.bytes.now c.loop-place.place (holds_record c.args.bytes.now) c.loop-place-test.true (ap stands_behind (sym c.split_at.ensures.back) ∙ sym c.if-stands_behind.ensures) c.loop-place.invariant

pub returns : goal.returns
returns c = holds_none c.args.bytes.now c.loop-place.place (holds_record c.args.bytes.now) c.loop-place-test.false c.loop-place.invariant
