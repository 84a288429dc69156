use Rattle.std.proofs.Common.{rules, subst}
use Rattle.hk_storm.specs.Tallied.{AreBytes}
use Rattle.hk_storm.proofs.Tallying.{all_below}
use Rattle.hk_storm.proofs.written.key_is_written.Goals as goal

pub returns : goal.returns
returns c =
    let below : AreBytes c.bytes-all.result.now = search rules in
    record { is_key = c.bytes-all.ensures.key; each = all_below c.args.key.now (subst AreBytes c.bytes-all.ensures.same below) }
