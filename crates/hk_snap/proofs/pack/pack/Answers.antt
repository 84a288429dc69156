use Rattle.std.proofs.Common.{rules, ◌∙◌}
use Rattle.hk_snap.proofs.Packing.{packs_chunk}
use Rattle.hk_snap.proofs.pack.pack.Goals as goal

pub loop-k-preserved : goal.loop-k-preserved
loop-k-preserved c =
    let i = c.loop-k.invariant in
    let one = packs_chunk c.loop-k.words c.args.bytes.now _ _ _ _ c.loop-k.k (search rules) i.0 (search rules) c.as_chunks.ensures.front c.from_le_bytes.ensures in
    (search rules, one ∙ i.1)
