use Rattle.hk_channel.proofs.Answered.{SomeAnswered}
use Rattle.hk_channel.proofs.serving.answer_requests.Given as goal

abbrev pub invariant-loop : goal.invariant-loop
invariant-loop g l =
    (goal.iterator-loop g).can_next l.iterator' × (goal.iterator-loop g).is_finite l.iterator'
    × SomeAnswered l.fn.conn l.conn
