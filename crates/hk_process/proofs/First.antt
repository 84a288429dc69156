-- The first byte that is read of a connection.
use Rattle.std.proofs.Common.{◌≡◌, ℕ, zero, suc, ◌≤◌, List, [], ◌∷◌, length, take, Option, Some, None, refl, sym, arith}
use Rattle.std.specs.Prelude.{slice_index}
use Rattle.std.specs.Io.KnownBytes.{Keeps, Consumes}
use Rattle.hk_outside.specs.First.{first_bytes}

-- none, where the read failed
pub none_read : (old new : Option (List ℕ)) → Keeps old new → Consumes old new []
none_read None new keeps = tt
none_read (Some xs) None keeps = absurd keeps
none_read (Some xs) (Some ys) keeps = sym keeps

-- that of a room for one, where the read gave some
pub one_read : (old new : Option (List ℕ)) (room : List ℕ) (count byte : ℕ) → Consumes old new (take count room) → length room ≡ 1 → count ≤ length room → (count ≡ 0 → ⊥) → byte ≡ slice_index room 0 → Consumes old new (first_bytes (Some byte))
one_read old new [] count byte read one few some is = absurd (omega (arith, one))
one_read old new (x ∷ y ∷ more) count byte read one few some is = absurd (omega (arith, one))
one_read old new (x ∷ []) zero byte read one few some is = absurd (some refl)
one_read old new (x ∷ []) (suc zero) byte read one few some is = rw is read
one_read old new (x ∷ []) (suc (suc n)) byte read one few some is = absurd (omega (arith, few))
