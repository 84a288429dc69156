-- The frames of parcels, one behind the other.
use Rattle.std.proofs.Common.{◌≡◌, ℕ, List, ◌∷◌, ◌++◌, sym, ap, ◌∙◌, append_assoc}
use Rattle.hk_link.specs.declared.parcel.Parcel.{Parcel}
use Rattle.hk_peer.specs.Parcels.{frame_of, frames_of}

-- one more is printed
pub printed_more : (made made' : List ℕ) (left left' : List Parcel) (p : Parcel) (all : List ℕ) → made ++ frames_of left ≡ all → left ≡ p ∷ left' → made' ≡ made ++ frame_of p → made' ++ frames_of left' ≡ all
printed_more made made' left left' p all so_far one more =
    ap (λ (l : List ℕ). l ++ frames_of left') more ∙ append_assoc made (frame_of p) (frames_of left') ∙ ap (λ (l : List Parcel). made ++ frames_of l) (sym one) ∙ so_far
