-- What the calls that are left come to, all come to.
use Rattle.std.proofs.Common.{◌≡◌, ◌+◌, ◌-◌, List}
use Rattle.hk_base.specs.declared.call.Reply.{Reply}
use Rattle.hk_storm.specs.Outcomes.{with_calls, IsTold}
use Rattle.hk_storm.proofs.outcomes.Outcomes.with_calls.Given as goal

abbrev pub invariant-loop-before : goal.invariant-loop-before
invariant-loop-before l = (replies : List Reply) → IsTold l.kept.entries replies → with_calls l.fn.self replies 1 l.calls ≡ with_calls l.outcomes replies (l.before + 1) (l.calls - l.before)
