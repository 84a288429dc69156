-- What is recorded, joined.
use Rattle.std.proofs.Common.{◌≡◌, ℕ, List, [], ◌∷◌, ◌++◌, ◌∙◌, sym, ap, subst, append-nil, append_assoc, take, Option, Some, None, Ok, Err}
use Rattle.std.specs.List.{concat}
use Rattle.hk_outside.specs.Records.{RecordsRead, Gave, GaveAll}

-- one more piece stands behind all others
pub one_more : (pieces : List (List ℕ)) (piece : List ℕ) → concat (pieces ++ piece ∷ []) ≡ concat pieces ++ piece
one_more [] piece = append-nil piece
one_more (first ∷ pieces) piece = ap (λ (rest : List ℕ). first ++ rest) (one_more pieces piece) ∙ sym (append_assoc first (concat pieces) piece)

module _ (E : Type 0) (old mid new : Option (List (List ℕ))) (bytes room : List ℕ) where
  -- a read that fails
  pub gave_same : (e : E) → Gave old mid bytes → RecordsRead {E = E} mid new (Err e) room → Gave old new bytes
  gave_same e gave read = same old gave
    where
      same : (o : Option (List (List ℕ))) → Gave o mid bytes → Gave o new bytes
      same None gave = tt
      same (Some before) gave = (gave.0, subst (λ (m : Option (List (List ℕ))). RecordsRead {E = E} m new (Err e) room) gave.1 read, gave.2)

  -- a read that gives some
  pub gave_more : (n : ℕ) → Gave old mid bytes → RecordsRead {E = E} mid new (Ok n) room → Gave old new (bytes ++ take n room)
  gave_more n gave read = more old gave
    where
      more : (o : Option (List (List ℕ))) → Gave o mid bytes → Gave o new (bytes ++ take n room)
      more None gave = tt
      more (Some before) gave = (
        gave.0 ++ take n room ∷ [],
        subst (λ (m : Option (List (List ℕ))). RecordsRead {E = E} m new (Ok n) room) gave.1 read ∙ ap Some (append_assoc before gave.0 (take n room ∷ [])),
        one_more gave.0 (take n room) ∙ ap (λ (all : List ℕ). all ++ take n room) gave.2,
      )

  -- a read that gives none
  pub gave_all : Gave old mid bytes → RecordsRead {E = E} mid new (Ok 0) room → GaveAll old new bytes
  gave_all gave read = all old gave
    where
      all : (o : Option (List (List ℕ))) → Gave o mid bytes → GaveAll o new bytes
      all None gave = tt
      all (Some before) gave = (gave.0, subst (λ (m : Option (List (List ℕ))). RecordsRead {E = E} m new (Ok 0) room) gave.1 read ∙ ap Some (append_assoc before gave.0 ([] ∷ [])), gave.2)

-- what was given to the end was given
pub gave_of_all : (old new : Option (List (List ℕ))) (bytes : List ℕ) → GaveAll old new bytes → Gave old new bytes
gave_of_all None new bytes gave = tt
gave_of_all (Some before) new bytes gave = (gave.0 ++ [] ∷ [], gave.1, one_more gave.0 [] ∙ append-nil (concat gave.0) ∙ gave.2)
