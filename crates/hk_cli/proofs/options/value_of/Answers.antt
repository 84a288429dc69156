use Rattle.std.proofs.Common.{◌≡◌, ◌∙◌, ◌+◌, ◌-◌, None, sym, rules, arith, length, map, string_bytes}
use Rattle.hk_cli.specs.Options.{option_at}
use Rattle.hk_cli.proofs.Turning.{map_none, value_found, value_passed, value_ended, value_stuck, value_spent}
use Rattle.hk_cli.proofs.options.value_of.Goals as goal

pub returns-then-is_empty : goal.returns-then-is_empty
returns-then-is_empty c = sym (c.loop-turn.invariant ∙ value_ended c.args.name.now (length c.args.words.now - c.loop-turn._turn) _ (map_none _ c.loop-turn.rest.now (search rules)))

pub returns-in_err-first : goal.returns-in_err-first
returns-in_err-first c =
    let t = c.loop-turn-test.true in
    let none : option_at (map (λ w. string_bytes w) c.loop-turn.rest.now) ≡ None = search rules in
    let gone = c.loop-turn.invariant ∙ value_stuck c.args.name.now (length c.args.words.now - c.loop-turn._turn) (length c.args.words.now - (c.loop-turn._turn + 1)) _ (omega (arith, t)) none in
    c.from_residual.ensures ∙ sym gone

pub returns-then-eq : goal.returns-then-eq
returns-then-eq c =
    let t = c.loop-turn-test.true in
    sym (c.loop-turn.invariant ∙ value_found c.args.name.now (length c.args.words.now - c.loop-turn._turn) (length c.args.words.now - (c.loop-turn._turn + 1)) _ _ (omega (arith, t)) (sym c.in_ok-first.ensures) (search rules))

pub loop-turn-preserved : goal.loop-turn-preserved
loop-turn-preserved c =
    let t = c.loop-turn-test.true in
    c.loop-turn.invariant ∙ value_passed c.args.name.now (length c.args.words.now - c.loop-turn._turn) (length c.args.words.now - (c.loop-turn._turn + 1)) _ _ (omega (arith, t)) (sym c.in_ok-first.ensures) (search rules)

pub returns : goal.returns
returns c =
    let t = c.loop-turn-test.false in
    sym (c.loop-turn.invariant ∙ value_spent c.args.name.now (length c.args.words.now - c.loop-turn._turn) _ (omega (arith, t)))
