use Rattle.std.proofs.Common.{rules, ◌≡◌, true, ◌∙◌}
use Rattle.std.specs.List.{list_all}
use Rattle.std.specs.Char.{is_ascii_digit}
use Rattle.hk_init.proofs.Numbers.{are_text, number_read}
use Rattle.hk_init.proofs.lookup.number_of.Goals as goal

pub returns-in_default : goal.returns-in_default
returns-in_default c =
    let digits : list_all is_ascii_digit c.args.digits.now ≡ true = search rules in
    absurd (c.in_default.ensures.cases.0 (are_text _ digits))

pub returns : goal.returns
returns c =
    let digits : list_all is_ascii_digit c.args.digits.now ≡ true = search rules in
    c.ok.ensures.value ∙ number_read c.args.digits.now _ (rw c.in-Ok.ensures.cases.0 at c.parse.ensures.value.0) digits
