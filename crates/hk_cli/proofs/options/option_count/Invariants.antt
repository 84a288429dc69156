use Rattle.std.proofs.Common.{◌≡◌, ◌≤◌, ◌-◌, map, length, string_bytes}
use Rattle.hk_cli.specs.Options.{option_count}
use Rattle.hk_cli.proofs.Turning.{with_count}
use Rattle.hk_cli.proofs.options.option_count.Given as goal

-- those that were counted and those that are left are all
abbrev pub invariant-loop-turn : goal.invariant-loop-turn
invariant-loop-turn l = record {
  few : l.count ≤ l._turn;
  all : option_count (length l.words) (map (λ w. string_bytes w) l.words) ≡ with_count l.count (option_count (length l.words - l._turn) (map (λ w. string_bytes w) l.rest));
}
