-- What a command does, in order, and what it is told.
use Rattle.std.specs.Prelude.{◌≡◌, ⊤, ℕ, ◌+◌, List, [], ◌∷◌, ◌++◌, Option, None, Some, Result}
use Rattle.hk_inside.specs.declared.inquiry.Inquiry.{Inquiry}
use Rattle.hk_inside.specs.declared.response.Response.{Response}
use Rattle.hk_init.specs.declared.fault.NoAnswer.{NoAnswer}

-- what comes of an inquiry
abbrev pub Outcome : Type 0
Outcome = Result Response NoAnswer

pub data Deed : Type 0 where
  -- it asked the manager of the host of a place
  Exchange : (place : ℕ) → (inquiry : Inquiry) → (outcome : Outcome) → Deed
  -- it read the clock
  Reading : (time : ℕ) → Deed
  -- it rested for so many milliseconds
  Rest : (millis : ℕ) → Deed

-- these deeds more, behind the others, where they are recorded
abbrev pub Does : Option (List Deed) → Option (List Deed) → List Deed → Type 0
Does None now deeds = ⊤
Does (Some before) now deeds = now ≡ Some (before ++ deeds)

-- some deeds more, of which this is true
abbrev pub Did : Option (List Deed) → Option (List Deed) → (List Deed → Type 0) → Type 0
Did before now IsSo = (deeds : List Deed) × Does before now deeds × IsSo deeds

-- one inquiry more, of whose outcome this is true
abbrev pub Asked : Option (List Deed) → Option (List Deed) → ℕ → Inquiry → (Outcome → Type 0) → Type 0
Asked before now place inquiry IsSo = (outcome : Outcome) × Does before now (Exchange place inquiry outcome ∷ []) × IsSo outcome

-- an inquiry to one host after the other, from this place on
abbrev pub exchanges_from : ℕ → Inquiry → List Outcome → List Deed
exchanges_from place inquiry [] = []
exchanges_from place inquiry (outcome ∷ outcomes) = Exchange place inquiry outcome ∷ exchanges_from (place + 1) inquiry outcomes

-- an inquiry to one host after the other, from place 0 on
abbrev pub exchanges : Inquiry → List Outcome → List Deed
exchanges inquiry outcomes = exchanges_from 0 inquiry outcomes
