-- What becomes of letters that are sent by outlets.
use Rattle.std.specs.Prelude.{◌≡◌, ◌⊎◌, ℕ, ◌<◌, List, [], ◌∷◌, Bool, false, Option, Some, None, slice_set, ◌==◌}
use Rattle.std.specs.List.{position, slice_get}
use Rattle.hk_base.specs.declared.letter.Actor.{Actor}
use Rattle.hk_base.specs.declared.letter.Actor.TheVariants.{Node, Manager}
use Rattle.hk_base.specs.declared.letter.Letter.{Letter}
use Rattle.hk_base.specs.declared.length.TheConstants.{MAX_FRAME_LEN}
use Rattle.hk_base.specs.Lengths.{frame_length}
use Rattle.hk_link.specs.declared.parcel.Parcel.{Parcel}
use Rattle.hk_link.specs.Ends.{End, IsPut, WasFull, IsSameLink}

abbrev pub is_same : Actor → Actor → Bool
is_same (Node a) (Node b) = a.0 == b.0
is_same (Manager a) (Manager b) = a == b
is_same a b = false

-- the first outlet to the actor
abbrev pub place_of : Actor → List (Actor × End) → Option ℕ
place_of to outlets = position (λ o. is_same to o.0) outlets

-- the letter was put, for this shard
pub record IsPutFor (shard : ℕ) (letter : Letter) (before after : End) : Type 0 where
  pub parcel : Parcel
  pub to_shard : parcel.shard ≡ shard
  pub with_letter : parcel.letter ≡ letter
  pub put : IsPut before.known parcel after.known

-- or the link was full at a moment of the call, and the letter is lost
pub record IsLost (before after : End) : Type 0 where
  pub same : after ≡ before
  pub full : WasFull before

abbrev pub IsOffered : ℕ → Letter → End → End → Type 0
IsOffered shard letter before after = IsSameLink after before × (IsPutFor shard letter before after ⊎ IsLost before after)

-- it was offered to the outlet at this place, and no other outlet changed
pub record IsSentAt (place shard : ℕ) (letter : Letter) (before after : List (Actor × End)) : Type 0 where
  pub actor : Actor
  pub old : End
  pub new : End
  pub there : slice_get before place ≡ Some (actor, old)
  pub offered : IsOffered shard letter old new
  pub after_it : after ≡ slice_set before place (actor, new)

-- a letter that fits no frame is lost, as is one to whom no outlet leads
pub record IsUnsendable (letter : Letter) (before after : List (Actor × End)) : Type 0 where
  pub same : after ≡ before
  pub why : (place_of letter.to before ≡ None) ⊎ (MAX_FRAME_LEN < frame_length letter)

abbrev pub IsSent : ℕ → Letter → List (Actor × End) → List (Actor × End) → Type 0
IsSent shard letter before after =
    ((place : ℕ) × (place_of letter.to before ≡ Some place) × IsSentAt place shard letter before after) ⊎ IsUnsendable letter before after

-- one after the other
abbrev pub AreSent : ℕ → List Letter → List (Actor × End) → List (Actor × End) → Type 0
AreSent shard [] before after = after ≡ before
AreSent shard (letter ∷ letters) before after = (between : List (Actor × End)) × IsSent shard letter before between × AreSent shard letters between after
