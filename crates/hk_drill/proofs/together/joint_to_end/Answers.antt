use Rattle.std.proofs.Common.{Option, None, subst}
use Rattle.hk_drill.specs.declared.stop.Stop.{Stop}
use Rattle.hk_drill.specs.Drilled.{HasGone}
use Rattle.hk_drill.proofs.Jointly.{ending_joined, ending_joint_front, stop_joined, stop_joint_front, untold_front}
use Rattle.hk_drill.proofs.together.joint_to_end.Goals as goal

pub returns-in_err-follow-clause-front : goal.returns-in_err-follow-clause-front
returns-in_err-follow-clause-front g c =
    untold_front (g.S.Source.left c.args.source.now) (g.S.Source.left c.follow.new.source) None None (g.S.Source.given c.args.source.now) (g.S.Source.given c.follow.new.source)
    (g.K.Sink.held c.args.sink.now) c.follow.ensures.front

pub returns-in-None-clause-joined : goal.returns-in-None-clause-joined
returns-in-None-clause-joined g c =
    let s = c.follow.new.script in
    ending_joined (g.S.Source.left c.args.source.now) (g.S.Source.left c.follow.new.source) None None (g.S.Source.given c.args.source.now) (g.S.Source.given c.follow.new.source)
    (g.K.Sink.held c.args.sink.now) (g.K.Sink.held c.finish.new.sink) s.line.items s.number s.state c.joint_orders_are_legal.ensures
    (subst (λ (stop : Option Stop). HasGone stop (g.S.Source.left c.args.source.now) (g.S.Source.left c.follow.new.source) (g.S.Source.given c.args.source.now) (g.S.Source.given c.follow.new.source) None None s.number s.line.items s.state) c.in-None.is c.in_ok-follow.ensures.gone)
    c.finish.result c.finish.ensures.all c.finish.ensures.status

pub returns-in-None-clause-front : goal.returns-in-None-clause-front
returns-in-None-clause-front g c =
    let s = c.follow.new.script in
    ending_joint_front (g.S.Source.left c.args.source.now) (g.S.Source.left c.follow.new.source) None None (g.S.Source.given c.args.source.now) (g.S.Source.given c.follow.new.source)
    (g.K.Sink.held c.args.sink.now) (g.K.Sink.held c.finish.new.sink) s.line.items s.number s.state
    (subst (λ (stop : Option Stop). HasGone stop (g.S.Source.left c.args.source.now) (g.S.Source.left c.follow.new.source) (g.S.Source.given c.args.source.now) (g.S.Source.given c.follow.new.source) None None s.number s.line.items s.state) c.in-None.is c.in_ok-follow.ensures.gone)
    c.finish.ensures.front

pub returns-clause-joined : goal.returns-clause-joined
returns-clause-joined g c =
    let s = c.follow.new.script in
    stop_joined (g.S.Source.left c.args.source.now) (g.S.Source.left c.follow.new.source) None None (g.S.Source.given c.args.source.now) (g.S.Source.given c.follow.new.source)
    (g.K.Sink.held c.args.sink.now) (g.K.Sink.held c.write_stop.new.sink) s.line.items s.number s.state c.joint_orders_are_legal.ensures c.in-Some.stop
    (subst (λ (stop : Option Stop). HasGone stop (g.S.Source.left c.args.source.now) (g.S.Source.left c.follow.new.source) (g.S.Source.given c.args.source.now) (g.S.Source.given c.follow.new.source) None None s.number s.line.items s.state) c.in-Some.is c.in_ok-follow.ensures.gone)
    c.write_stop.result c.write_stop.ensures.all c.write_stop.ensures.status

pub returns-clause-front : goal.returns-clause-front
returns-clause-front g c =
    let s = c.follow.new.script in
    stop_joint_front (g.S.Source.left c.args.source.now) (g.S.Source.left c.follow.new.source) None None (g.S.Source.given c.args.source.now) (g.S.Source.given c.follow.new.source)
    (g.K.Sink.held c.args.sink.now) (g.K.Sink.held c.write_stop.new.sink) s.line.items s.number s.state c.in-Some.stop
    (subst (λ (stop : Option Stop). HasGone stop (g.S.Source.left c.args.source.now) (g.S.Source.left c.follow.new.source) (g.S.Source.given c.args.source.now) (g.S.Source.given c.follow.new.source) None None s.number s.line.items s.state) c.in-Some.is c.in_ok-follow.ensures.gone)
    c.write_stop.ensures.front
