use Rattle.std.proofs.Common.{◌≡◌, Option, Some, None, sym, subst, rules}
use Rattle.hk_peer.specs.Parcels.{frames_of}
use Rattle.hk_process.specs.Sending.{IsForwarded}
use Rattle.hk_process.proofs.Sent.{on_held, on_dialled, not_dialled}
use Rattle.hk_process.proofs.route.RouteCarrier.forward.Goals as goal

pub returns-in-Some-clause-forwarded : goal.returns-in-Some-clause-forwarded
returns-in-Some-clause-forwarded g c =
    let before : c.args.self.now.conn ≡ Some c.in-Some.conn = search rules in
    subst (λ (conn : Option g.row.D-Conn.Denot). IsForwarded g.D.Conn.Sink.held g.D.Conn.Source.faults g.D.Conn.Sink.faults (frames_of c.args.batch.now) conn c.send_on.result (g.D.Dial.faults c.args.self.now.dialer) (g.D.Dial.faults c.args.self.now.dialer))
    (sym before) (on_held g.D.Conn.Sink.held g.D.Conn.Source.faults g.D.Conn.Sink.faults (frames_of c.args.batch.now) (g.D.Dial.faults c.args.self.now.dialer) (g.D.Dial.faults c.args.self.now.dialer) c.in-Some.conn c.send_on.result c.send_on.ensures)

pub returns-in_default-dial-clause-forwarded : goal.returns-in_default-dial-clause-forwarded
returns-in_default-dial-clause-forwarded g c =
    let before : c.args.self.now.conn ≡ None = search rules in
    let after : c.replace.new.dest ≡ None = search rules in
    subst (λ (conn : Option g.row.D-Conn.Denot). IsForwarded g.D.Conn.Sink.held g.D.Conn.Source.faults g.D.Conn.Sink.faults (frames_of c.args.batch.now) conn c.replace.new.dest (g.D.Dial.faults c.args.self.now.dialer) (g.D.Dial.faults c.dial.new.self)) (sym before)
    (subst (λ (conn : Option g.row.D-Conn.Denot). IsForwarded g.D.Conn.Sink.held g.D.Conn.Source.faults g.D.Conn.Sink.faults (frames_of c.args.batch.now) None conn (g.D.Dial.faults c.args.self.now.dialer) (g.D.Dial.faults c.dial.new.self)) (sym after)
    (not_dialled g.D.Conn.Sink.held g.D.Conn.Source.faults g.D.Conn.Sink.faults (frames_of c.args.batch.now) (g.D.Dial.faults c.args.self.now.dialer) (g.D.Dial.faults c.dial.new.self) c.in_default-dial.ensures.cause.failed))

pub returns-clause-forwarded : goal.returns-clause-forwarded
returns-clause-forwarded g c =
    let before : c.args.self.now.conn ≡ None = search rules in
    subst (λ (conn : Option g.row.D-Conn.Denot). IsForwarded g.D.Conn.Sink.held g.D.Conn.Source.faults g.D.Conn.Sink.faults (frames_of c.args.batch.now) conn c.send_on-2.result (g.D.Dial.faults c.args.self.now.dialer) (g.D.Dial.faults c.dial.new.self)) (sym before)
    (on_dialled g.D.Conn.Sink.held g.D.Conn.Source.faults g.D.Conn.Sink.faults (frames_of c.args.batch.now) (g.D.Dial.faults c.args.self.now.dialer) (g.D.Dial.faults c.dial.new.self) c.in-Ok.dialled c.send_on-2.result c.in-Ok.ensures.fresh.0 c.in-Ok.ensures.fresh.1 c.send_on-2.ensures)
