use Rattle.std.proofs.Common.{rules, ◌≡◌, ◌+◌, ◌∷◌, drop, get_or, ◌∙◌}
use Rattle.std.proofs.lemmas.List.{drop_more, drop_all}
use Rattle.hk_script.proofs.Numbers.{head_digit, worth_over, worth_all}
use Rattle.hk_script.proofs.words.value.Goals as goal

pub returns-in_err-value : goal.returns-in_err-value
returns-in_err-value c =
    let l = c.loop-digit in
    let all = c.args.digits.now in
    let left : drop l.digit-index all ≡ get_or all l.digit-index 0 ∷ drop (l.digit-index + 1) all = drop_more all l.digit-index 0 c.loop-digit-test.true in
    c.from_residual.ensures ∙ worth_over all (drop l.digit-index all) (drop (l.digit-index + 1) all) l.value (get_or all l.digit-index 0) left
    (head_digit (drop l.digit-index all) (drop (l.digit-index + 1) all) (get_or all l.digit-index 0) left l.invariant.1) l.invariant.0 c.in_err-value.ensures

pub returns : goal.returns
returns c =
    let l = c.loop-digit in
    let all = c.args.digits.now in
    worth_all all (drop l.digit-index all) l.value (drop_all l.digit-index all (search rules)) l.invariant.0 l.invariant.2
