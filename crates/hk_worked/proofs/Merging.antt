-- What is made by putting each item in its place, at these journals.
use Rattle.std.proofs.Common.{ℕ, zero, suc, List, [], ◌∷◌, arith}
use Rattle.hk_base.specs.declared.stamp.NodeId.{NodeId}
use Rattle.hk_base.specs.declared.call.Answer.TheVariants.{Found}
use Rattle.hk_merge.specs.Merged.{Rises, journal_of}
use Rattle.hk_merge.specs.Placed.{MergedAreMerged}
use Rattle.hk_worked.specs.Journals.{content, tag, journals, noted, note}
use Rattle.hk_worked.specs.Merging.{rewritten, WorkedMerge}

pub rises : (n : NodeId) → Rises (journal_of journals n)
rises n = at n.0
  where
    at : (k : ℕ) → Rises (journal_of journals (record { 0 = k }))
    at zero = ((omega arith, tt), (tt, tt))
    at (suc zero) = ((omega arith, tt), (tt, tt))
    at (suc (suc k)) = tt

rises_on : (n : NodeId) → Rises (journal_of rewritten n)
rises_on n = at n.0
  where
    at : (k : ℕ) → Rises (journal_of rewritten (record { 0 = k }))
    at zero = ((omega arith, tt), (tt, tt))
    at (suc zero) = ((omega arith, (omega arith, tt)), ((omega arith, tt), (tt, tt)))
    at (suc (suc k)) = tt

pub worked_merge : MergedAreMerged → WorkedMerge
worked_merge merge = record {
  behind = merge journals (note ∷ []) rises;
  before = merge rewritten (noted 7 (Found content tag) ∷ []) rises_on;
}
