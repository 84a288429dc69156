use Rattle.std.proofs.Common.{◌≡◌, ◌∙◌, ◌+◌, ◌-◌, None, sym, rules, arith, length, map, string_bytes}
use Rattle.hk_cli.specs.Options.{option_at}
use Rattle.hk_cli.proofs.Turning.{map_none, map_some, count_turn, count_ended, count_stuck, count_spent}
use Rattle.hk_cli.proofs.options.option_count.Goals as goal

pub returns-then-is_empty : goal.returns-then-is_empty
returns-then-is_empty c = sym (c.loop-turn.invariant.all ∙ count_ended (length c.args.words.now - c.loop-turn._turn) c.loop-turn.count _ (map_none _ c.loop-turn.rest.now (search rules)))

pub returns-in_err-_name : goal.returns-in_err-_name
returns-in_err-_name c =
    let t = c.loop-turn-test.true in
    let none : option_at (map (λ w. string_bytes w) c.loop-turn.rest.now) ≡ None = search rules in
    let gone = c.loop-turn.invariant.all ∙ count_stuck (length c.args.words.now - c.loop-turn._turn) (length c.args.words.now - (c.loop-turn._turn + 1)) c.loop-turn.count _ (omega (arith, t)) (map_some _ c.loop-turn.rest.now (search rules)) none in
    c.from_residual.ensures ∙ sym gone

pub loop-turn-preserved : goal.loop-turn-preserved
loop-turn-preserved c =
    let t = c.loop-turn-test.true in
    record {
      few = (let f = c.loop-turn.invariant.few in omega (arith, f));
      all = c.loop-turn.invariant.all ∙ count_turn (length c.args.words.now - c.loop-turn._turn) (length c.args.words.now - (c.loop-turn._turn + 1)) c.loop-turn.count _ _ (omega (arith, t)) (sym c.in_ok-_name.ensures);
    }

pub returns-then-is_empty-2 : goal.returns-then-is_empty-2
returns-then-is_empty-2 c = sym (c.loop-turn.invariant.all ∙ count_ended (length c.args.words.now - c.loop-turn._turn) c.loop-turn.count _ (map_none _ c.loop-turn.rest.now (search rules)))

pub returns-else-is_empty-2 : goal.returns-else-is_empty-2
returns-else-is_empty-2 c =
    let t = c.loop-turn-test.false in
    sym (c.loop-turn.invariant.all ∙ count_spent (length c.args.words.now - c.loop-turn._turn) c.loop-turn.count _ (omega (arith, t)) (map_some _ c.loop-turn.rest.now (search rules)))
