use Rattle.std.proofs.Common.{refl, arith, Some, None}
use Rattle.std.proofs.lemmas.Str.Pattern.{split_parts}
use Rattle.hk_host_words.proofs.settings.parts.Goals as goal

pub returns-in-Some : goal.returns-in-Some
returns-in-Some c = split_parts 61 c.args.text.now (Some (c.in-Some.name, c.in-Some.value)) c.in-Some.ensures.cases (omega arith)

pub returns-in-None : goal.returns-in-None
returns-in-None c = (refl, split_parts 61 c.args.text.now None c.in-None.ensures.cases (omega arith))
