use Rattle.hk_safety.specs.Grown.{letter_touches}
use Rattle.hk_safety.proofs.Covering.{covers_turn}
use Rattle.hk_safety.proofs.cover.cover_acks.Goals as goal

pub loop-letter-preserved : goal.loop-letter-preserved
loop-letter-preserved c =
    covers_turn c.args.view.now c.args.cover letter_touches c.args.letters.now c.loop-letter.letter-index c.letter-item.result
    c.args.keys.now.entries c.loop-letter.keys.entries c.cover_ack.new.keys.entries
    c.loop-letter-test.true c.letter-item.is c.loop-letter.invariant c.in_ok-cover_ack.ensures
