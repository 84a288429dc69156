-- Keys that were read, and then the others.
use Rattle.std.proofs.Common.{◌≡◌, ℕ, List, [], ◌∷◌, ◌++◌, refl, ap, sym, append_assoc}
use Rattle.std.specs.Prelude.{Result, Ok, Err}
use Rattle.hk_request.specs.Fields.{◌>>=◌}
use Rattle.hk_request.specs.declared.request.RequestCause.{RequestCause}

abbrev pub with_front : List (List ℕ) → Result (List (List ℕ)) RequestCause → Result (List (List ℕ)) RequestCause
with_front front read = read >>= λ ks. Ok (front ++ ks)

pub one_more : (front : List (List ℕ)) (k : List ℕ) (read : Result (List (List ℕ)) RequestCause) → with_front front (read >>= λ ks. Ok (k ∷ ks)) ≡ with_front (front ++ k ∷ []) read
one_more front k (Ok ks) = ap Ok (sym (append_assoc front (k ∷ []) ks))
one_more front k (Err e) = refl
