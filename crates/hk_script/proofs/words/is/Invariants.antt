use Rattle.std.proofs.Common.{◌≡◌, drop}
use Rattle.hk_script.specs.Parts.{is_text}
use Rattle.hk_script.proofs.words.is.Given as goal

-- what is left decides
abbrev pub invariant-loop-place : goal.invariant-loop-place
invariant-loop-place l = is_text l.word l.text ≡ is_text (drop l.place l.word) (drop l.place l.text)
