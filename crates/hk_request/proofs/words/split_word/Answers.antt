use Rattle.hk_request.proofs.PlainSets.{word_split}
use Rattle.hk_request.proofs.words.split_word.Goals as goal

pub returns : goal.returns
returns c = word_split c.args.bytes.now c.in_ok-at.at c.in_ok-at.ensures c.if-at-eq0.false
