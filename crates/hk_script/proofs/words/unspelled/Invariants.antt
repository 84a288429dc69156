use Rattle.std.proofs.Common.{◌≡◌, ◌-◌, ◌++◌, length}
use Rattle.std.specs.Option.{option_map}
use Rattle.hk_script.specs.Parts.{unspelled}
use Rattle.hk_script.proofs.words.unspelled.Given as goal

-- what was read and what is left make the whole
abbrev pub invariant-loop-turn : goal.invariant-loop-turn
invariant-loop-turn l = unspelled (length l.word) l.word ≡ option_map (λ more. l.bytes.items ++ more) (unspelled (length l.word - l._turn) l.rest)
