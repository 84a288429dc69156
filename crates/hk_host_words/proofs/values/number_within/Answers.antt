use Rattle.std.proofs.Common.{arith, ◌<◌, ◌≡◌, ◌^◌}
use Rattle.hk_host_words.proofs.Digits.{one_number}
use Rattle.hk_host_words.proofs.values.number_within.Goals as goal

pub returns-then-number-least : goal.returns-then-number-least
returns-then-number-least c =
    λ n low high text.
    (let below : n < 2 ^ 32 = omega arith in
    let own : c.in_ok-number.number ≡ n = one_number c.args.digits.now c.in_ok-number.number n c.in_ok-number.ensures.0 below c.in_ok-number.ensures.1 text in
    absurd (omega arith))

pub returns-then-number-most : goal.returns-then-number-most
returns-then-number-most c =
    λ n low high text.
    (let below : n < 2 ^ 32 = omega arith in
    let own : c.in_ok-number.number ≡ n = one_number c.args.digits.now c.in_ok-number.number n c.in_ok-number.ensures.0 below c.in_ok-number.ensures.1 text in
    absurd (omega arith))
