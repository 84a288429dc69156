-- What a source records of its reads.
use Rattle.std.specs.Prelude.{◌≡◌, ℕ, List, [], ◌∷◌, ◌++◌, take, Option, None, Some, Result, MatchResult, IfSome, ⊤}
use Rattle.std.specs.List.{concat}

-- a read adds the n bytes that it gave at `Ok(n)` as one piece, and nothing at `Err`
abbrev pub RecordsRead : {E : Type 0} → Option (List (List ℕ)) → Option (List (List ℕ)) → Result ℕ E → List ℕ → Type 0
RecordsRead None new r room = ⊤
RecordsRead (Some pieces) new r room = MatchResult r (λ n. new ≡ Some (pieces ++ take n room ∷ [])) (λ _. new ≡ Some pieces)

-- the pieces that were given since then, joined, are these bytes
abbrev pub Gave : Option (List (List ℕ)) → Option (List (List ℕ)) → List ℕ → Type 0
Gave None now bytes = ⊤
Gave (Some before) now bytes = (pieces : List (List ℕ)) × (now ≡ Some (before ++ pieces)) × (concat pieces ≡ bytes)

-- and the last of them, behind these, is empty: the source told its end
abbrev pub GaveAll : Option (List (List ℕ)) → Option (List (List ℕ)) → List ℕ → Type 0
GaveAll None now bytes = ⊤
GaveAll (Some before) now bytes = (pieces : List (List ℕ)) × (now ≡ Some (before ++ (pieces ++ [] ∷ []))) × (concat pieces ≡ bytes)

-- A source was read to its end, and these bytes came. Where it tells what is left, they are all that was left, and nothing is left now. Where it
-- records what it gives, they are what it gave since, and then it told its end.
pub record HasRead (left left' : Option (List ℕ)) (given given' : Option (List (List ℕ))) (input : List ℕ) : Type 0 where
  pub told : IfSome left (λ bytes. (input ≡ bytes) × (left' ≡ Some []))
  pub recorded : GaveAll given given' input
