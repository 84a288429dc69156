use Rattle.std.proofs.Common.{◌∙◌}
use Rattle.hk_request.proofs.Digits.{parsed_value, are_text}
use Rattle.hk_request.proofs.words.value.Goals as goal

pub returns-in_default : goal.returns-in_default
returns-in_default c = absurd (c.in_default.ensures.cases.0 (are_text _ c.requires.digits))

pub returns : goal.returns
returns c = c.ok.ensures.value ∙ parsed_value c.args.digits.now _ (rw c.in-Ok.ensures.cases.0 at c.parse.ensures.value.0) c.requires.digits c.requires.some
