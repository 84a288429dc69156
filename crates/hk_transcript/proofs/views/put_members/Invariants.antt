-- What is written, and then what is left, each behind a comma, is the whole.
use Rattle.std.proofs.Common.{◌≡◌, List, [], ◌∷◌, ◌++◌, ℕ, drop}
use Rattle.std.specs.Prelude.{codes, decimal}
use Rattle.hk_base.specs.declared.stamp.NodeId.{NodeId}
use Rattle.hk_transcript.specs.Text.{members_text}
use Rattle.hk_transcript.proofs.views.put_members.Given as goal

-- members behind the first
abbrev pub further_text : List NodeId → List ℕ
further_text [] = []
further_text (id ∷ ids) = (codes "," ++ decimal id.0) ++ further_text ids

abbrev pub invariant-loop-member : goal.invariant-loop-member
invariant-loop-member l = l.out.items ++ further_text (drop l.member-index l.rest) ≡ l.fn.out.items ++ members_text l.members
