-- What a key is, and what data is.
use Rattle.std.specs.Prelude.{◌≡◌, ℕ, ◌≤◌, List, length, position, None}
use Rattle.hk_base.specs.declared.key.TheConstants.{MAX_KEY_LEN}
use Rattle.hk_base.specs.declared.data.TheConstants.{MAX_DATA_LEN}
use Rattle.hk_base.specs.KeyBytes.{is_bad_byte}

-- 1 to 250 bytes, none of them bad
pub record IsKey (bytes : List ℕ) : Type 0 where
  pub some : 1 ≤ length bytes
  pub short : length bytes ≤ MAX_KEY_LEN
  pub clean : position is_bad_byte bytes ≡ None

-- at most 1,048,576 bytes
pub record IsData (bytes : List ℕ) : Type 0 where
  pub short : length bytes ≤ MAX_DATA_LEN
