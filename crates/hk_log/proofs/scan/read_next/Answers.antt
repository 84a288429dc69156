use Rattle.std.proofs.Common.{◌≡◌, ◌+◌, ℕ, rules, sym, ap, ◌∙◌, arith}
use Rattle.hk_log.specs.Records.{check_of, body_bytes}
use Rattle.hk_log.proofs.Framing.{told_body}
use Rattle.hk_log.proofs.Standing.{next_is}
use Rattle.hk_log.proofs.scan.read_next.Goals as goal

pub returns-in-Ok : goal.returns-in-Ok
returns-in-Ok c =
    let body : c.split_at-2.result.0.now ≡ told_body c.args.rest.now = search rules in
    let text : told_body c.args.rest.now ≡ body_bytes c.in-Ok.entries = sym body ∙ c.in-Ok.ensures.1 in
    next_is c.args.before.0 c.args.rest.now _ (λ i. omega (arith, c.type_inv.rest i)) (sym c.if-not-stands.ensures.exact) c.in-Ok.ensures.0 text (ap (λ (n : ℕ). 12 + n) c.told_length-len.ensures.exact) (c.check_of-check.ensures ∙ ap (check_of c.args.before.0) body)
