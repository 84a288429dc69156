use Rattle.std.proofs.Common.{rules, ◌≡◌, ◌<◌, true, false, not, ap, arith}
use Rattle.hk_turns.specs.Workers.{WorkerState}
use Rattle.hk_turns.proofs.Making.{let_pass, shut_out, turned, works_to, works_until}
use Rattle.hk_turns.proofs.turning.make_turns.Goals as goal

pub loop-turn-init : goal.loop-turn-init
loop-turn-init g c = (
  (c.ticket.result, ap (λ (w : WorkerState). record { worker = w; way = record { gate = c.args.gate.now; outlets = c.args.outlets.now.items } }) c.begin.ensures),
  omega arith,
)

pub returns-then-not-pass-clause-made : goal.returns-then-not-pass-clause-made
returns-then-not-pass-clause-made g c =
    let shut : not c.pass.result ≡ true = search rules in
    works_until (g.W.Workplace.applies c.args.place.now) (g.W.Workplace.finds c.args.place.now) (g.W.Workplace.owes c.args.place.now) (g.W.Workplace.lacks c.args.place.now) g.G.Gate.answers g.G.Gate.closed c.loop-turn.turn c.loop-turn.invariant.0.0
    (record { worker = c.args.worker.now; way = record { gate = c.args.gate.now; outlets = c.args.outlets.now.items } })
    (record { worker = c.loop-turn.worker; way = record { gate = c.loop-turn.gate; outlets = c.loop-turn.outlets.items } }) c.pass.new.self
    (shut_out c.pass.result (g.G.Gate.closed c.pass.new.self) c.pass.ensures shut) c.loop-turn.invariant.0.1

pub loop-turn-preserved : goal.loop-turn-preserved
loop-turn-preserved g c =
    let passes : not c.pass.result ≡ false = search rules in
    let below : c.loop-turn.turn < c.args.turns = search rules in (
      (
        c.loop-turn.invariant.0.0,
        turned (g.W.Workplace.applies c.args.place.now) (g.W.Workplace.finds c.args.place.now) (g.W.Workplace.owes c.args.place.now) (g.W.Workplace.lacks c.args.place.now) g.G.Gate.answers g.G.Gate.closed c.loop-turn.turn _
            (record { worker = c.loop-turn.worker; way = record { gate = c.loop-turn.gate; outlets = c.loop-turn.outlets.items } })
            (record { worker = c.make_turn.new.worker; way = record { gate = c.make_turn.new.gate; outlets = c.make_turn.new.outlets.items } }) c.pass.new.self c.loop-turn.invariant.0.1
            (let_pass c.pass.result (g.G.Gate.closed c.pass.new.self) c.pass.ensures passes) c.make_turn.ensures,
      ),
      omega (arith, below),
    )

pub returns-clause-made : goal.returns-clause-made
returns-clause-made g c =
    let all : c.loop-turn.turn ≡ c.args.turns = search rules in
    works_to (g.W.Workplace.applies c.args.place.now) (g.W.Workplace.finds c.args.place.now) (g.W.Workplace.owes c.args.place.now) (g.W.Workplace.lacks c.args.place.now) g.G.Gate.answers g.G.Gate.closed c.loop-turn.turn c.args.turns c.loop-turn.invariant.0.0
    (record { worker = c.args.worker.now; way = record { gate = c.args.gate.now; outlets = c.args.outlets.now.items } })
    (record { worker = c.loop-turn.worker; way = record { gate = c.loop-turn.gate; outlets = c.loop-turn.outlets.items } }) all c.loop-turn.invariant.0.1
