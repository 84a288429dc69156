use Rattle.std.proofs.Common.{◌∙◌, refl}
use Rattle.hk_base.proofs.Words.{word_of}
use Rattle.hk_base.proofs.key.order.word.Goals as goal

pub returns : goal.returns
returns c = c.from_be_bytes.ensures ∙ word_of c.args.place c.args.bytes.now _ _ _ _ _ _ _ _ refl refl refl refl refl refl refl refl
