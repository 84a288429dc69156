use Rattle.hk_merge.proofs.Sameness.{same_is_equal, same_lists_are_equal, same_answers_are_equal}
use Rattle.hk_merge.proofs.laws.sameness_is_equality.Goals as goal

pub returns : goal.returns
returns c = record { letter = same_is_equal; letters = same_lists_are_equal; answers = same_answers_are_equal }
