-- LOOK, host by host.
use Rattle.std.proofs.Common.{◌≡◌, ◌<◌, ℕ, ◌+◌, List, [], ◌∷◌, ◌++◌, length, Option, Result, Ok, Err, refl, sym, ap, subst, ◌∙◌, inl, inr}
use Rattle.std.proofs.lemmas.List.{length-append, length-map, map-append}
use Rattle.hk_inside.specs.declared.inquiry.Inquiry.TheVariants.{Look}
use Rattle.hk_inside.specs.declared.response.ManagerState.{ManagerState}
use Rattle.hk_inside.specs.declared.response.Response.TheVariants as response
use Rattle.hk_init.specs.declared.fault.CommandFault.{CommandFault}
use Rattle.hk_init.specs.declared.fault.CommandFault.TheVariants.{Memory}
use Rattle.hk_init.specs.Deeds.{Outcome, Deed, Exchange, Does, exchanges}
use Rattle.hk_init.specs.Phases.{looked, stood, Looks}
use Rattle.hk_init.proofs.Deeds.{asks_more}

-- who is known to stand so has answered by STATE
looked_ok : (place : ℕ) (outcome : Outcome) (state : ManagerState) → Ok state ≡ looked place outcome → outcome ≡ Ok (response.State state)
looked_ok place (Ok (response.State other)) state e = cc
looked_ok place (Ok (response.No code text)) state e = cc
looked_ok place (Ok (response.Board board)) state e = cc
looked_ok place (Ok (response.Seated node)) state e = cc
looked_ok place (Ok (response.Status text)) state e = cc
looked_ok place (Ok response.Yes) state e = cc
looked_ok place (Err fault) state e = cc

-- all before this place stood so
abbrev pub Stood : ℕ → List ManagerState → ℕ → Option (List Deed) → Option (List Deed) → Type 0
Stood founding states place before between = Does before between (exchanges (Look founding) (stood states)) × (length states ≡ place)

asked : (founding : ℕ) (states : List ManagerState) (place : ℕ) (outcome : Outcome) (before between now : Option (List Deed)) →
    Stood founding states place before between → Does between now (Exchange place (Look founding) outcome ∷ []) →
    Does before now (exchanges (Look founding) (stood states ++ outcome ∷ []))
asked founding states place outcome before between now at that =
    asks_more (Look founding) (stood states) outcome place before between now (length-map states (λ state. Ok (response.State state)) ∙ at.1) at.0 that

-- the next host did not
pub look_fails : (count founding : ℕ) (states : List ManagerState) (place : ℕ) (before between now : Option (List Deed)) (fault : CommandFault) (r : Result (List ManagerState) CommandFault) →
    Stood founding states place before between → place < count →
    ((outcome : Outcome) × Does between now (Exchange place (Look founding) outcome ∷ []) × (Err fault ≡ looked place outcome)) → r ≡ Err fault →
    (deeds : List Deed) × Does before now deeds × Looks count founding deeds r
look_fails count founding states place before between now fault r at below told is =
    let P : Result (List ManagerState) CommandFault → Type 0 = λ r. (deeds : List Deed) × Does before now deeds × Looks count founding deeds r in
    let Q : ℕ → Type 0 = λ p. looked p told.0 ≡ Err fault in
    let R : ℕ → Type 0 = λ p. p < count in
    subst P (sym is) (
      exchanges (Look founding) (stood states ++ told.0 ∷ []),
      asked founding states place told.0 before between now at told.1,
      (states, told.0, refl, subst R (sym at.1) below, inl (subst Q (sym at.1) (sym told.2))),
    )

-- there was no memory for how the next host stood
pub look_lacks : (count founding : ℕ) (states : List ManagerState) (place : ℕ) (before between now : Option (List Deed)) (outcome : Outcome) →
    Stood founding states place before between → place < count → Does between now (Exchange place (Look founding) outcome ∷ []) →
    (deeds : List Deed) × Does before now deeds × Looks count founding deeds (Err Memory)
look_lacks count founding states place before between now outcome at below that =
    let R : ℕ → Type 0 = λ p. p < count in (
      exchanges (Look founding) (stood states ++ outcome ∷ []),
      asked founding states place outcome before between now at that,
      (states, outcome, refl, subst R (sym at.1) below, inr refl),
    )

-- the next host did too
pub look_goes_on : (founding : ℕ) (states : List ManagerState) (place : ℕ) (before between now : Option (List Deed)) (state : ManagerState) (grown : List ManagerState) →
    Stood founding states place before between →
    ((outcome : Outcome) × Does between now (Exchange place (Look founding) outcome ∷ []) × (Ok state ≡ looked place outcome)) → grown ≡ states ++ state ∷ [] →
    Stood founding grown (place + 1) before now
look_goes_on founding states place before between now state grown at told is =
    let P : Outcome → Type 0 = λ outcome. Does before now (exchanges (Look founding) (stood states ++ outcome ∷ [])) in
    let Q : List Outcome → Type 0 = λ outcomes. Does before now (exchanges (Look founding) outcomes) in
    let R : List ManagerState → Type 0 = λ grown. Stood founding grown (place + 1) before now in
    subst R (sym is) (
      subst Q (sym (map-append (λ state. Ok (response.State state)) states (state ∷ [])))
          (subst P (looked_ok place told.0 state told.2) (asked founding states place told.0 before between now at told.1)),
      length-append states (state ∷ []) ∙ ap (λ n. n + 1) at.1,
    )
