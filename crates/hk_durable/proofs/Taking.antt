-- Parcels that are taken one after the other.
use Rattle.std.proofs.Common.{List, [], ◌∷◌, ◌++◌, refl, subst}
use Rattle.hk_link.specs.declared.parcel.Parcel.{Parcel}
use Rattle.hk_link.specs.Ends.{End, IsTaken, IsSameLink}
use Rattle.hk_durable.specs.Turns.{AreTaken}

-- one parcel more
pub taken_more : (parcels : List Parcel) (before between after : End) (parcel : Parcel) → AreTaken parcels before between → IsSameLink after between → IsTaken between.known parcel after.known →
    AreTaken (parcels ++ parcel ∷ []) before after
taken_more [] before between after parcel same link taken =
    (after, subst (λ (e : End). IsSameLink after e) same link, subst (λ (e : End). IsTaken e.known parcel after.known) same taken, refl)
taken_more (p ∷ parcels) before between after parcel (next, first, took, rest) link taken = (next, first, took, taken_more parcels next between after parcel rest link taken)
