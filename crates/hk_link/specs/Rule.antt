-- The rule of a link: what was put is what was taken and then what the queue holds. Each end knows a beginning of either, and whoever added last knows all.
use Rattle.std.specs.Prelude.{◌≡◌, ◌⊎◌, ℕ, ◌+◌, ◌^◌, ◌<◌, ◌≤◌, List, [], ◌∷◌, ◌++◌, length}
use mathlib.Core.Option.{some}
use mathlib.Core.List.{IsPrefix}
use lib.ListN.{get_elem?}
use Rattle.hk_link.specs.declared.parcel.Parcel.{Parcel}
use Rattle.hk_link.specs.declared.rule.Side.{Side}
use Rattle.hk_link.specs.declared.rule.Known.{Known}
use Rattle.hk_link.specs.Share.{deepest, sizes}

abbrev pub total : (Known → ℕ) → List Known → ℕ
total f [] = 0
total f (v ∷ vs) = f v + total f vs

abbrev pub HasShare : Side → Type 0
HasShare s = 0 < length s.share

-- a beginning is known; and what has no share added nothing
pub record Fits (parcels : List Parcel) (s : Side) : Type 0 where
  pub beginning : IsPrefix s.seen parcels
  pub idle : s.share ≡ [] → s.own ≡ 0

-- each of the views is so
abbrev pub Each : (Known → Type 0) → List Known → Type 0
Each P views = (at : ℕ) (v : Known) → get_elem? views at ≡ some v → P v

pub record IsLast (of : Known → Side) (parcels : List Parcel) (views : List Known) : Type 0 where
  pub at : ℕ
  pub view : Known
  pub there : get_elem? views at ≡ some view
  pub all : (of view).seen ≡ parcels
  pub share : HasShare (of view)

-- of one side: the shares make the whole, each parcel was added once, and one with a share has seen all, unless there is none
pub record Told (of : Known → Side) (parcels : List Parcel) (views : List Known) : Type 0 where
  pub whole : (scale : ℕ) → Each (λ v. deepest (of v).share ≤ scale) views → total (λ v. sizes scale (of v).share) views ≡ 2 ^ scale
  pub counted : total (λ v. (of v).own) views ≡ length parcels
  pub fits : Each (λ v. Fits parcels (of v)) views
  pub last : (parcels ≡ []) ⊎ IsLast of parcels views

abbrev pub put_of : Known → Side
put_of v = v.put

abbrev pub taken_of : Known → Side
taken_of v = v.taken

pub record Linked (items : List Parcel) (views : List Known) : Type 0 where
  pub put : List Parcel
  pub taken : List Parcel
  pub in_order : put ≡ taken ++ items
  pub puts : Told put_of put views
  pub takes : Told taken_of taken views
