use Rattle.std.proofs.Common.{refl, replicate}
use Rattle.hk_snap.specs.Layout.{no_words}
use Rattle.hk_snap.proofs.words.no_words.Goals as goal

pub returns : goal.returns
unfolding no_words
returns c = (replicate 157 0, refl)
