-- Where the bytes of a key stand, and as which numbers they are compared.
use Rattle.std.specs.Prelude.{◌≡◌, ℕ, zero, suc, ◌+◌, ◌*◌, ◌<◌, ◌≤◌, ⊤, List, [], ◌∷◌, length, take, drop, slice_index}
use Rattle.std.specs.Arc.{arc_slice_items}
use Rattle.hk_base.specs.declared.key.Form.{Form}
use Rattle.hk_base.specs.declared.key.Form.TheVariants.{Short, Long}
use Rattle.hk_base.specs.declared.key.TheConstants.{SHORT_LEN}
use Rattle.hk_base.specs.Key.{IsKey}

-- the bytes
abbrev pub shown : Form → List ℕ
shown (Short bytes len) = take len bytes
shown (Long front bytes) = arc_slice_items bytes

-- those that stand in the key itself
abbrev pub in_key : Form → List ℕ
in_key (Short bytes len) = bytes
in_key (Long front bytes) = front

-- an array has the first of the bytes, and zeros where there are no more
abbrev pub IsFront : List ℕ → List ℕ → Type 0
IsFront array bytes = (i : ℕ) → i < length array → slice_index array i ≡ slice_index bytes i

-- there is room for all of them
abbrev pub HasRoom : Form → Type 0
HasRoom (Short bytes len) = len ≤ SHORT_LEN
HasRoom (Long front bytes) = ⊤

-- what a key keeps
pub record IsKept (form : Form) : Type 0 where
  pub key : IsKey (shown form)
  pub front : IsFront (in_key form) (shown form)
  pub room : HasRoom form
  pub small : (i : ℕ) → slice_index (shown form) i < 256

-- the number whose digits in base 256 are those of a number and then so many bytes; a zero stands for each that is not there
abbrev pub digits_after : ℕ → ℕ → List ℕ → ℕ
digits_after zero number bytes = number
digits_after (suc places) number [] = digits_after places (number * 256) []
digits_after (suc places) number (byte ∷ rest) = digits_after places (number * 256 + byte) rest

-- the eight bytes from a place on, the first of them the most significant
unfoldable pub word_at : ℕ → List ℕ → ℕ
word_at place bytes = digits_after 8 0 (drop place bytes)
