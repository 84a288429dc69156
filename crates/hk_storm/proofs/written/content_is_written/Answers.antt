use Rattle.std.proofs.Common.{rules, ◌<◌, ◌^◌, subst}
use Rattle.hk_storm.specs.Tallied.{AreBytes}
use Rattle.hk_storm.proofs.Tallying.{all_below}
use Rattle.hk_storm.proofs.written.content_is_written.Goals as goal

pub returns : goal.returns
returns c =
    let below : AreBytes c.bytes-all.result.now = search rules in
    let flags : c.args.content.now.flags < 2 ^ 32 = search rules in
    record { flags_fit = flags; is_data = c.bytes-all.ensures.data; each = all_below c.args.content.now.bytes (subst AreBytes c.bytes-all.ensures.same below) }
