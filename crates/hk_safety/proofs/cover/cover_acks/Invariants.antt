use Rattle.std.proofs.Common.{take}
use Rattle.std.specs.List.{flat_map}
use Rattle.hk_safety.specs.Grown.{AreCovered, letter_touches}
use Rattle.hk_safety.proofs.cover.cover_acks.Given as goal

-- the letters so far are covered
abbrev pub invariant-loop-letter : goal.invariant-loop-letter
invariant-loop-letter l = AreCovered l.view l.cover l.fn.keys.entries l.keys.entries (flat_map letter_touches (take l.letter-index l.letters))
