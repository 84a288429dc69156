use Rattle.hk_snap.proofs.Packing.{assembles}
use Rattle.hk_snap.proofs.words.assemble.Goals as goal

pub returns : goal.returns
returns c =
    assembles c.args.words.now c.args.head.now c.args.key.now c.args.small.now _ _ c.words_for-key_words.ensures c.words_for-small_words.ensures c.requires.head _ _ _ _ c.put_head.ensures c.put_bytes.ensures c.put_bytes-2.ensures
