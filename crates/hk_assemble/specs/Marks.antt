-- What tells most letters apart. That equal letters have equal marks is all that is needed of it.
use Rattle.std.specs.Prelude.{ℕ, ◌+◌, ◌*◌, ◌%◌, ◌^◌, List, [], ◌∷◌}
use Rattle.hk_base.specs.declared.letter.Actor.{Actor}
use Rattle.hk_base.specs.declared.letter.Actor.TheVariants.{Node, Manager}
use Rattle.hk_base.specs.declared.letter.Letter.{Letter}
use Rattle.hk_base.specs.declared.letter.Body.{Body}
use Rattle.hk_base.specs.declared.letter.Body.TheVariants.{Inv, Ack, Val}

abbrev pub actor_number : Actor → ℕ
actor_number (Node node) = node.0
actor_number (Manager manager) = manager

-- the bytes as digits of base 257 behind a number, modulo 2^64
abbrev pub key_number : ℕ → List ℕ → ℕ
key_number number [] = number
key_number number (byte ∷ bytes) = key_number (((number * 257) % 2 ^ 64 + byte) % 2 ^ 64) bytes

-- kind, stamp, sender, addressee and key
abbrev pub mark_with : ℕ → ℕ → Body → List ℕ
mark_with from to (Inv key stamp kind content) = 1 ∷ stamp.version ∷ stamp.node ∷ from ∷ to ∷ key_number 0 key ∷ []
mark_with from to (Ack key stamp top) = 2 ∷ stamp.version ∷ stamp.node ∷ from ∷ to ∷ key_number 0 key ∷ []
mark_with from to (Val key stamp) = 3 ∷ stamp.version ∷ stamp.node ∷ from ∷ to ∷ key_number 0 key ∷ []
mark_with from to body = 0 ∷ 0 ∷ 0 ∷ from ∷ to ∷ 0 ∷ []

abbrev pub mark_of : Letter → List ℕ
mark_of letter = mark_with (actor_number letter.from) (actor_number letter.to) letter.body
