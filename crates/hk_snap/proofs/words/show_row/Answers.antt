use Rattle.std.proofs.Common.{rules, ◌<◌, ◌^◌}
use Rattle.hk_snap.specs.Snapshots.{shape_of}
use Rattle.hk_snap.specs.Packed.{AreBytes}
use Rattle.hk_snap.specs.Layout.{flags_in, data_in}
use Rattle.hk_snap.proofs.Shows.{few}
use Rattle.hk_snap.proofs.words.show_row.Goals as goal

pub returns-clause-range : goal.returns-clause-range
returns-clause-range c =
    let key : AreBytes c.args.key.now = search rules in
    let node : c.args.row.now.stamp.node < 2 ^ 16 = search rules in
    let flags : flags_in (shape_of c.args.row.now.content) < 2 ^ 32 = search rules in
    let small : AreBytes (data_in (shape_of c.args.row.now.content)) = c.shape-number.ensures.bytes in
    λ call. record { key = c.bytes-key.ensures.key.short; key_bytes = key; version = c.requires; node = node; flags = flags; small = few c.args.row.now.content; small_bytes = small }
