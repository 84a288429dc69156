-- FOUND, host by host.
use Rattle.std.proofs.Common.{◌≡◌, ◌<◌, ℕ, ◌+◌, Bool, true, false, List, [], ◌∷◌, ◌++◌, length, Option, Result, Ok, Err, refl, sym, ap, subst, ◌∙◌, inl, inr, arith, add-zero, zero-add}
use Rattle.std.specs.List.{list_all}
use Rattle.std.proofs.lemmas.List.{length-append, length-map, map-append}
use Rattle.std.proofs.lemmas.List.Folds.{list_all-append}
use Rattle.hk_inside.specs.declared.inquiry.Inquiry.{Inquiry}
use Rattle.hk_inside.specs.declared.response.Response.TheVariants as response
use Rattle.hk_init.specs.declared.fault.CommandFault.{CommandFault}
use Rattle.hk_init.specs.declared.fault.CommandFault.TheVariants.{Late}
use Rattle.hk_init.specs.Deeds.{Outcome, Deed, Exchange, Reading, Does}
use Rattle.hk_init.specs.Phases.{taken, in_time, founds_from, founds, all_took, Founds}
use Rattle.hk_init.proofs.Deeds.{does_then}

-- what all of some pass and one more, all pass
pub all_more : {A : Type 0} (p : A → Bool) (xs : List A) (x : A) → list_all p xs ≡ true → p x ≡ true → list_all p (xs ++ x ∷ []) ≡ true
all_more p xs x all one = list_all-append p xs (x ∷ []) ∙ rw all (rw one refl)

taken_ok : (place : ℕ) (outcome : Outcome) (done : Unit {0}) → Ok done ≡ taken place outcome → outcome ≡ Ok response.Yes
taken_ok place (Ok response.Yes) done e = refl
taken_ok place (Ok (response.State other)) done e = cc
taken_ok place (Ok (response.No code text)) done e = cc
taken_ok place (Ok (response.Board board)) done e = cc
taken_ok place (Ok (response.Seated node)) done e = cc
taken_ok place (Ok (response.Status text)) done e = cc
taken_ok place (Err fault) done e = cc

-- one host more is sent it
founds_from_more : (place : ℕ) (found : Inquiry) (told : List (ℕ × Outcome)) (time : ℕ) (outcome : Outcome) →
    founds_from place found told ++ Reading time ∷ Exchange (place + length told) found outcome ∷ [] ≡ founds_from place found (told ++ (time, outcome) ∷ [])
founds_from_more place found [] time outcome = ap (λ p. Reading time ∷ Exchange p found outcome ∷ []) (add-zero place)
founds_from_more place found (first ∷ told) time outcome =
    let shifts : place + length (first ∷ told) ≡ (place + 1) + length told = omega arith in
    ap (λ p. Reading first.0 ∷ Exchange place found first.1 ∷ (founds_from (place + 1) found told ++ Reading time ∷ Exchange p found outcome ∷ [])) shifts
    ∙ ap (λ deeds. Reading first.0 ∷ Exchange place found first.1 ∷ deeds) (founds_from_more (place + 1) found told time outcome)

-- all before this place took it, in time
abbrev pub Took : ℕ → Inquiry → List ℕ → ℕ → Option (List Deed) → Option (List Deed) → Type 0
Took began found times place before between = Does before between (founds found (all_took times)) × (length times ≡ place) × (list_all (in_time began) times ≡ true)

sent : (began : ℕ) (found : Inquiry) (times : List ℕ) (place time : ℕ) (outcome : Outcome) (before between read now : Option (List Deed)) →
    Took began found times place before between → Does between read (Reading time ∷ []) → Does read now (Exchange place found outcome ∷ []) →
    Does before now (founds found (all_took times ++ (time, outcome) ∷ []))
sent began found times place time outcome before between read now at reads that =
    let P : List Deed → Type 0 = λ deeds. Does before now deeds in
    let places : 0 + length (all_took times) ≡ place = zero-add (length (all_took times)) ∙ length-map times (λ t. (t, Ok response.Yes)) ∙ at.1 in
    subst P (ap (λ p. founds found (all_took times) ++ Reading time ∷ Exchange p found outcome ∷ []) (sym places) ∙ founds_from_more 0 found (all_took times) time outcome)
    (does_then before between now (founds found (all_took times)) (Reading time ∷ Exchange place found outcome ∷ []) at.0
    (does_then between read now (Reading time ∷ []) (Exchange place found outcome ∷ []) reads that))

-- it is too late for the next host
pub found_late : (began count : ℕ) (found : Inquiry) (times : List ℕ) (place time : ℕ) (before between now : Option (List Deed)) →
    Took began found times place before between → place < count → Does between now (Reading time ∷ []) → in_time began time ≡ false →
    (deeds : List Deed) × Does before now deeds × Founds began count found deeds (Err Late)
found_late began count found times place time before between now at below reads late =
    let R : ℕ → Type 0 = λ p. p < count in (
      founds found (all_took times) ++ Reading time ∷ [],
      does_then before between now (founds found (all_took times)) (Reading time ∷ []) at.0 reads,
      inl (times, time, refl, subst R (sym at.1) below, at.2, late, refl),
    )

-- the next host did not take it
pub found_fails : (began count : ℕ) (found : Inquiry) (times : List ℕ) (place time : ℕ) (before between read now : Option (List Deed)) (fault : CommandFault) (r : Result (Unit {0}) CommandFault) →
    Took began found times place before between → place < count → Does between read (Reading time ∷ []) → in_time began time ≡ true →
    ((outcome : Outcome) × Does read now (Exchange place found outcome ∷ []) × (Err fault ≡ taken place outcome)) → r ≡ Err fault →
    (deeds : List Deed) × Does before now deeds × Founds began count found deeds r
found_fails began count found times place time before between read now fault r at below reads early told is =
    let P : Result (Unit {0}) CommandFault → Type 0 = λ r. (deeds : List Deed) × Does before now deeds × Founds began count found deeds r in
    let Q : ℕ → Type 0 = λ p. taken p told.0 ≡ Err fault in
    let R : ℕ → Type 0 = λ p. p < count in
    subst P (sym is) (
      founds found (all_took times ++ (time, told.0) ∷ []),
      sent began found times place time told.0 before between read now at reads told.1,
      inr (times, time, told.0, refl, subst R (sym at.1) below, at.2, early, subst Q (sym at.1) (sym told.2)),
    )

-- the next host took it too
pub found_goes_on : (began : ℕ) (found : Inquiry) (times : List ℕ) (place time : ℕ) (before between read now : Option (List Deed)) (done : Unit {0}) →
    Took began found times place before between → Does between read (Reading time ∷ []) → in_time began time ≡ true →
    ((outcome : Outcome) × Does read now (Exchange place found outcome ∷ []) × (Ok done ≡ taken place outcome)) →
    (grown : List ℕ) × Does before now (founds found (all_took grown)) × (length grown ≡ place + 1) × (list_all (in_time began) grown ≡ true)
found_goes_on began found times place time before between read now done at reads early told =
    let P : Outcome → Type 0 = λ outcome. Does before now (founds found (all_took times ++ (time, outcome) ∷ [])) in
    let Q : List (ℕ × Outcome) → Type 0 = λ list. Does before now (founds found list) in (
      times ++ time ∷ [],
      subst Q (sym (map-append (λ t. (t, Ok response.Yes)) times (time ∷ []))) (subst P (taken_ok place told.0 done told.2) (sent began found times place time told.0 before between read now at reads told.1)),
      length-append times (time ∷ []) ∙ ap (λ n. n + 1) at.1,
      all_more (in_time began) times time at.2 early,
    )
