use Rattle.std.proofs.Common.{refl, false}
use Rattle.hk_host_words.proofs.Digits.{no_number, not_printed}
use Rattle.hk_host_words.proofs.values.parse_number.Goals as goal

pub returns-then-not-is_printed : goal.returns-then-not-is_printed
returns-then-not-is_printed c = not_printed c.args.digits.now c.in-Ok.number c.in-Ok.ensures.value.0 false c.if-not-is_printed.ensures refl

pub returns-in-Err : goal.returns-in-Err
returns-in-Err c = no_number c.args.digits.now c.in-Err.field-0 c.in-Err.ensures.value.0
