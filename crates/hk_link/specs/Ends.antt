-- What the ends of a link know, and what their calls make of it.
use Rattle.std.specs.Prelude.{◌≡◌, ℕ, ◌+◌, ◌<◌, List, [], ◌∷◌, ◌++◌, length, nat_lt, if◌then◌else◌}
use mathlib.Core.List.{IsPrefix}
use Rattle.atomic_table.specs.Seated.{TableId}
use Rattle.hk_link.specs.declared.parcel.Parcel.{Parcel}
use Rattle.hk_link.specs.declared.rule.Side.{Side}
use Rattle.hk_link.specs.declared.rule.Known.{Known}
use Rattle.hk_link.specs.Share.{all, halved, IsWhole}

-- an end of a link: which link it is, for how many parcels it has room, and what the end knows of it
pub record End : Type 0 where
  pub link : TableId
  pub room : ℕ
  pub known : Known

abbrev pub side : List ℕ → List Parcel → ℕ → Side
side share seen own = record { share = share; seen = seen; own = own }

abbrev pub knowing : Side → Side → Known
knowing put taken = record { put = put; taken = taken }

-- of a new link: nothing was put or taken
abbrev pub opening : Known
opening = knowing (side all [] 0) (side all [] 0)

-- no right, nothing seen and nothing added
abbrev pub nothing : Side
nothing = side [] [] 0

-- the same seen, with no right and nothing of one's own
abbrev pub seen_of : Side → Side
seen_of s = side [] s.seen 0

-- of the two ends of a link, the one that puts and the one that takes
abbrev pub putting : Known → Known
putting known = knowing known.put nothing

abbrev pub taking : Known → Known
taking known = knowing nothing known.taken

-- what an end tells of what was put
abbrev pub telling : Known → Known
telling known = knowing (seen_of known.put) nothing

-- an end that puts has a share of the right to put, and knows nothing of what was taken
pub record IsPutter (known : Known) : Type 0 where
  pub share : 0 < length known.put.share
  pub apart : known.taken ≡ nothing

-- an end that takes has a share of the right to take, and may have been told what was put
pub record IsTaker (known : Known) : Type 0 where
  pub share : 0 < length known.taken.share
  pub apart : known.put ≡ seen_of known.put

-- at a split each right is halved, and what an end added itself stays with the old one
abbrev pub left_half : Known → Known
left_half known = knowing (side (halved known.put.share) known.put.seen known.put.own) (side (halved known.taken.share) known.taken.seen known.taken.own)

abbrev pub right_half : Known → Known
right_half known = knowing (side (halved known.put.share) known.put.seen 0) (side (halved known.taken.share) known.taken.seen 0)

-- of two beginnings of one list the longer
abbrev pub longer : List Parcel → List Parcel → List Parcel
longer xs ys = if nat_lt (length xs) (length ys) then ys else xs

abbrev pub side_joined : Side → Side → Side
side_joined s t = side (s.share ++ t.share) (longer s.seen t.seen) (s.own + t.own)

-- two ends as one: the rights together, and all that either has seen
abbrev pub joined : Known → Known → Known
joined v w = knowing (side_joined v.put w.put) (side_joined v.taken w.taken)

abbrev pub spent : Known
spent = knowing nothing nothing

-- a side gets a parcel of the end's own. It comes behind all that the side had, of which some may be new to the end; nothing is new to an end that has
-- the whole right.
pub record IsAdded (before : Side) (parcel : Parcel) (after : Side) : Type 0 where
  pub between : List Parcel
  pub added : after ≡ side before.share ((before.seen ++ between) ++ parcel ∷ []) (before.own + 1)
  pub alone : IsWhole before.share → between ≡ []

pub record IsPut (before : Known) (parcel : Parcel) (after : Known) : Type 0 where
  pub put : IsAdded before.put parcel after.put
  pub taken : after.taken ≡ before.taken

pub record IsTaken (before : Known) (parcel : Parcel) (after : Known) : Type 0 where
  pub taken : IsAdded before.taken parcel after.taken
  pub put : after.put ≡ before.put

-- a side of a link has these parcels, and an end knows so much of it: a beginning, and all where it has the whole right. Then each was added by a call of its own.
pub record Agrees (parcels : List Parcel) (known : Side) : Type 0 where
  pub beginning : IsPrefix known.seen parcels
  pub all_seen : IsWhole known.share → known.seen ≡ parcels
  pub each_once : IsWhole known.share → known.own ≡ length parcels

-- a moment of a link: what was put is what was taken and then what the link holds
pub record Moment (known : Known) (held : List Parcel) : Type 0 where
  pub all_put : List Parcel
  pub all_taken : List Parcel
  pub in_order : all_put ≡ all_taken ++ held
  pub put : Agrees all_put known.put
  pub taken : Agrees all_taken known.taken

-- at a moment of the call the link was full
abbrev pub WasFull : End → Type 0
WasFull end = (held : List Parcel) × (length held ≡ end.room) × Moment end.known held

-- at a moment of the call it was empty
abbrev pub WasEmpty : End → Type 0
WasEmpty end = Moment end.known []

-- the end is of the same link
abbrev pub IsSameLink : End → End → Type 0
IsSameLink a b = (a.link ≡ b.link) × (a.room ≡ b.room)

-- the same end, which knows something else
abbrev pub with_known : End → Known → End
with_known end known = record { link = end.link; room = end.room; known = known }

-- the two ends of a new link
abbrev pub new_outlet : TableId → ℕ → End
new_outlet link room = record { link = link; room = room; known = putting opening }

abbrev pub new_inlet : TableId → ℕ → End
new_inlet link room = record { link = link; room = room; known = taking opening }
