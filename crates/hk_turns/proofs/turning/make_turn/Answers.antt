use Rattle.std.proofs.Common.{sym, subst}
use Rattle.hk_turns.specs.Workers.{WorkerState, TakesParcel}
use Rattle.hk_turns.proofs.Making.{received_turn}
use Rattle.hk_turns.proofs.turning.make_turn.Goals as goal

pub returns-in-Some : goal.returns-in-Some
returns-in-Some g c =
    received_turn (g.W.Workplace.applies c.args.place.now) (g.W.Workplace.finds c.args.place.now) (g.W.Workplace.owes c.args.place.now) (g.W.Workplace.lacks c.args.place.now) g.G.Gate.answers c.args.worker.now c.note.new.self c.count.new.self c.node.result c.in-Some.parcel
    (record { gate = c.args.gate.now; outlets = c.args.outlets.now.items }) (record { gate = c.receive.new.gate; outlets = c.receive.new.outlets.items }) c.note.ensures (subst (λ (x : WorkerState). TakesParcel c.in-Some.parcel c.note.new.self x) (sym c.count.ensures) c.in-Some.ensures.taken) c.node.ensures
    c.receive.ensures
