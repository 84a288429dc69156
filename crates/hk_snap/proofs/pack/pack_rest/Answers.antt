use Rattle.std.proofs.Common.{rules}
use Rattle.hk_snap.proofs.Packing.{packs_rest}
use Rattle.hk_snap.proofs.pack.pack_rest.Goals as goal

pub returns : goal.returns
returns c = packs_rest c.args.words.now c.fill.new.self c.args.bytes.now _ _ (search rules) (search rules) c.requires c.last_word.ensures (search rules)
