use Rattle.std.proofs.Common.{◌≡◌, ◌-◌, map, length, string_bytes}
use Rattle.hk_cli.specs.Options.{value_of}
use Rattle.hk_cli.proofs.options.value_of.Given as goal

-- it is none of those that were passed
abbrev pub invariant-loop-turn : goal.invariant-loop-turn
invariant-loop-turn l = value_of l.name (length l.words) (map (λ w. string_bytes w) l.words) ≡ value_of l.name (length l.words - l._turn) (map (λ w. string_bytes w) l.rest)
