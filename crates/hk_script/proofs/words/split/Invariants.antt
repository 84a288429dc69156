use Rattle.std.proofs.Common.{◌≡◌, ◌++◌, length, map}
use Rattle.hk_script.specs.Parts.{fields}
use Rattle.hk_script.proofs.words.split.Given as goal

-- the words that were put, and those of the rest, are those of the line
abbrev pub invariant-loop-word : goal.invariant-loop-word
invariant-loop-word l = map (λ w. w.now) l.words.items ++ fields l.rest ≡ fields l.line

abbrev pub decreases-loop-word : goal.decreases-loop-word
decreases-loop-word l = length (fields l.rest)
