use Rattle.std.proofs.Common.{arith, refl, ◌-◌}
use Rattle.std.proofs.Math.ListN.{get_or}
use Rattle.hk_request.proofs.Digits.{worth_more, fits_more}
use Rattle.hk_request.proofs.words.short_value.Goals as goal

pub overflow_mul-value : goal.overflow_mul-value
overflow_mul-value c = let f = fits_more c.args.digits.now c.loop-digit.digit-index c.loop-digit.value (get_or c.args.digits.now c.loop-digit.digit-index 0 - 48) c.requires.digits c.loop-digit-test.true c.requires.few refl c.loop-digit.invariant in omega (arith, f)

pub overflow_add-value : goal.overflow_add-value
overflow_add-value c = let f = fits_more c.args.digits.now c.loop-digit.digit-index c.loop-digit.value c.from.result c.requires.digits c.loop-digit-test.true c.requires.few c.from.ensures c.loop-digit.invariant in omega (arith, f)

pub loop-digit-preserved : goal.loop-digit-preserved
loop-digit-preserved c = worth_more c.args.digits.now c.loop-digit.digit-index c.loop-digit.value c.from.result c.requires.digits c.loop-digit-test.true c.from.ensures c.loop-digit.invariant
