-- Requests that were answered so far, and how they end.
use Rattle.std.proofs.Common.{ℕ, zero, suc, refl, Ok, Err}
use Rattle.hk_greet.specs.Standing.{Standing}
use Rattle.hk_channel.specs.declared.serving.RequestsEnd.{RequestsEnd}
use Rattle.hk_channel.specs.Answering.{Answers, AreAnswered, EndsBehind}

-- so many, whatever their number
abbrev pub SomeAnswered : Standing → Standing → Type 0
SomeAnswered s s' = (count : ℕ) × AreAnswered count s s'

pub none_answered : (s : Standing) → SomeAnswered s s
none_answered s = (zero, refl)

pub one_more : (s s' s'' : Standing) → SomeAnswered s s' → Answers (Ok tt) s' s'' → SomeAnswered s s''
one_more s s' s'' (count, answered) answers = (suc count, (s', answered, answers))

pub ends_behind : (ended : RequestsEnd) (s s' s'' : Standing) → SomeAnswered s s' → Answers (Err ended) s' s'' → EndsBehind ended s s''
ends_behind ended s s' s'' (count, answered) answers = record {
  count = count;
  last = s';
  answered = answered;
  ends = answers;
}
