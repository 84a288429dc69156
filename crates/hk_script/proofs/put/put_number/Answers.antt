use Rattle.std.proofs.Common.{rules, ◌<◌}
use Rattle.std.proofs.lemmas.Fmt.{decimal_digit}
use Rattle.hk_script.proofs.put.put_number.Goals as goal

pub returns-then-number-lt10 : goal.returns-then-number-lt10
returns-then-number-lt10 c =
    let digit : c.args.number < 10 = search rules in
    rw (decimal_digit c.args.number digit) c.put_one.ensures
