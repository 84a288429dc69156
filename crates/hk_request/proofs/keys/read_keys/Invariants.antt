use Rattle.std.proofs.Common.{◌≡◌, map, drop}
use Rattle.hk_request.specs.Reading.{keys_of}
use Rattle.hk_request.proofs.Fronts.{with_front}
use Rattle.hk_request.proofs.keys.read_keys.Given as goal

abbrev pub invariant-loop-word : goal.invariant-loop-word
invariant-loop-word l = keys_of (map (λ w. w.now) l.others) ≡ with_front l.keys.items (keys_of (map (λ w. w.now) (drop l.word-index l.others)))
