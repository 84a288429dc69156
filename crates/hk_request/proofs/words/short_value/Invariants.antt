use Rattle.hk_request.proofs.Digits.{AreWorth}
use Rattle.hk_request.proofs.words.short_value.Given as goal

abbrev pub invariant-loop-digit : goal.invariant-loop-digit
invariant-loop-digit l = AreWorth l.digits l.digit-index l.value
