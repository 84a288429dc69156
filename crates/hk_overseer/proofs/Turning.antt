-- What the loops over managers make, a turn more.
use Rattle.std.proofs.Common.{◌≡◌, ◌⊎◌, ◌++◌, ◌<◌, ℕ, zero, suc, List, [], ◌∷◌, map, take, drop, length, get_or, slice_set, replicate, min, Option, Some, None, IfSome, refl, sym, ap, ◌∙◌, subst, arith}
use Rattle.hk_base.specs.declared.time.TheConstants.{MAX_TIME}
use Rattle.hk_link.specs.declared.parcel.Parcel.{Parcel}
use Rattle.hk_link.specs.Ends.{End, IsTaken, IsSameLink}
use Rattle.hk_overseer.specs.Overseer.{Overseer}
use Rattle.hk_overseer.specs.Turns.{with_inlet, IsReceived, IsLetGo, IsFed, IsTurn, AreTurns}

module _ {X : Type 0} where
  -- items in turn, of which the first were changed: with one more
  set_step : (f : X → X) (i : ℕ) (old : List X) (x y : X) → i < length old → get_or (map f (take i old) ++ drop i old) i x ≡ x → y ≡ f x →
      slice_set (map f (take i old) ++ drop i old) i y ≡ map f (take (suc i) old) ++ drop (suc i) old
  set_step f zero [] x y low at is = absurd (omega (arith, low))
  set_step f zero (z ∷ zs) x y low at is = ap (λ (v : X). v ∷ zs) (is ∙ ap f (sym at))
  set_step f (suc i) [] x y low at is = absurd (omega (arith, low))
  set_step f (suc i) (z ∷ zs) x y low at is = ap (λ (l : List X). f z ∷ l) (set_step f i zs x y (omega (arith, low)) at is)

  pub one_more : (f : X → X) (i j : ℕ) (old items : List X) (x y : X) → items ≡ map f (take i old) ++ drop i old → i < length old → get_or items i x ≡ x → y ≡ f x → j ≡ suc i →
      slice_set items i y ≡ map f (take j old) ++ drop j old
  one_more f i j old items x y so_far low at is next =
      ap (λ (l : List X). slice_set l i y) so_far
      ∙ set_step f i old x y low (subst (λ (l : List X). get_or l i x ≡ x) so_far at) is
      ∙ ap (λ (k : ℕ). map f (take k old) ++ drop k old) (sym next)

  copied : (k : ℕ) (x : X) → replicate k x ++ x ∷ [] ≡ replicate (suc k) x
  copied zero x = refl
  copied (suc k) x = ap (λ (l : List X). x ∷ l) (copied k x)

  -- one copy more
  pub copied_more : (k j : ℕ) (x y : X) (old new : List X) → new ≡ old ++ y ∷ [] → old ≡ replicate k x → y ≡ x → j ≡ suc k → new ≡ replicate j x
  copied_more k j x y old new grown so_far same next =
      grown ∙ ap (λ (l : List X). l ++ y ∷ []) so_far ∙ ap (λ (z : X). replicate k x ++ z ∷ []) same ∙ copied k x ∙ ap (λ (n : ℕ). replicate n x) (sym next)

-- what a clock told, cut at the limit
pub told_by : (reading : Option ℕ) (time now : ℕ) → IfSome reading (λ t. time ≡ t) → now ≡ min time MAX_TIME → IfSome reading (λ t. now ≡ min t MAX_TIME)
told_by (Some t) time now told cut = cut ∙ ap (λ (n : ℕ). min n MAX_TIME) told
told_by None time now told cut = tt

pub fed : (o p : Overseer) (parcel : Parcel) (inlet : End) (after : Overseer) → o ≡ p → IsSameLink inlet o.inlet → IsTaken o.inlet.known parcel inlet.known →
    (IsReceived parcel.shard parcel.letter (with_inlet o inlet) after ⊎ IsLetGo (with_inlet o inlet) after) → IsFed parcel p after
fed o p parcel inlet after same link taken rest = record {
  inlet = inlet;
  link = subst (λ (q : Overseer). IsSameLink inlet q.inlet) same link;
  taken = subst (λ (q : Overseer). IsTaken q.inlet.known parcel inlet.known) same taken;
  rest = subst (λ (q : Overseer). IsReceived parcel.shard parcel.letter (with_inlet q inlet) after ⊎ IsLetGo (with_inlet q inlet) after) same rest;
}

pub turns_more : (reading : Option ℕ) (n k : ℕ) (before between after : Overseer) → k ≡ suc n → AreTurns reading n before between → IsTurn reading between after → AreTurns reading k before after
turns_more reading n k before between after next turns turn = subst (λ (m : ℕ). AreTurns reading m before after) (sym next) (between, turns, turn)
