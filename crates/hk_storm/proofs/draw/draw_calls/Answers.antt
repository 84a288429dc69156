use Rattle.std.proofs.Common.{rules, ◌≤◌, ◌<◌, ◌+◌, ◌-◌, ◌++◌, List, sym, ap, ◌∙◌, arith}
use Rattle.hk_storm.specs.declared.calls.StormCall.{StormCall}
use Rattle.hk_storm.specs.Calls.{drawn_from, drawn_calls}
use Rattle.hk_storm.proofs.Drawing.{draws_on, draws_all}
use Rattle.hk_storm.proofs.draw.draw_calls.Goals as goal

pub loop-place-preserved : goal.loop-place-preserved
loop-place-preserved c =
    let within : c.loop-place.place < c.args.opts.now.calls = search rules in
    draws_on c.args.opts.now c.loop-place.calls.items (drawn_calls c.args.opts.now) c.loop-place.asks c.next_call.new.asks c.in_ok-call.call c.loop-place.place (c.args.opts.now.calls - c.loop-place.place) (c.args.opts.now.calls - (c.loop-place.place + 1))
    (omega (arith, within)) c.loop-place.invariant c.in_ok-call.ensures
    ∙ ap (λ (l : List StormCall). l ++ drawn_from c.args.opts.now c.next_call.new.asks (c.loop-place.place + 1) (c.args.opts.now.calls - (c.loop-place.place + 1))) (sym c.in_ok-push.ensures.items)

pub returns : goal.returns
returns c =
    let past : c.args.opts.now.calls ≤ c.loop-place.place = search rules in
    draws_all c.args.opts.now c.loop-place.calls.items (drawn_calls c.args.opts.now) c.loop-place.asks c.loop-place.place (c.args.opts.now.calls - c.loop-place.place) (omega (arith, past)) c.loop-place.invariant
