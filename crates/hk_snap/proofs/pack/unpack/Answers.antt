use Rattle.std.proofs.Common.{rules, ◌∙◌}
use borrow.Rule.Slice.PartMut.{same_len_mid}
use Rattle.hk_snap.proofs.Packing.{unpacks_on}
use Rattle.hk_snap.proofs.pack.unpack.Goals as goal

pub loop-k-preserved : goal.loop-k-preserved
loop-k-preserved c =
    let i = c.loop-k.invariant in (
      same_len_mid _ _ _ _ c.copy_from_slice.ensures.len ∙ i.0,
      unpacks_on c.args.words.now c.loop-k.room c.copy_from_slice.new.self c.loop-k.k _ (search rules) i.0 i.1 (search rules) (search rules),
    )
