-- STATUS, until a host answers.
use Rattle.std.proofs.Common.{◌≡◌, ◌<◌, ℕ, suc, ◌+◌, ◌==◌, if◌then◌else◌, true, false, List, [], ◌∷◌, ◌++◌, length, Option, Ok, Err, is_err, refl, sym, ap, subst, ◌∙◌, arith}
use Rattle.std.proofs.lemmas.Bool.Decides.{nat_tests}
use Rattle.std.specs.List.{list_all}
use Rattle.std.proofs.lemmas.List.{length-append}
use Rattle.hk_inside.specs.declared.inquiry.Inquiry.TheVariants.{Status}
use Rattle.hk_init.specs.declared.fault.NoAnswer.{NoAnswer}
use Rattle.hk_init.specs.declared.fault.NoAnswer.TheVariants.{Silent}
use Rattle.hk_init.specs.Deeds.{Outcome, Deed, Exchange, Does, exchanges}
use Rattle.hk_init.specs.Init.{status_of, lacks_status, fault_or, first_fault, FirstAnswers}
use Rattle.hk_init.proofs.Deeds.{asks_more}
use Rattle.hk_init.proofs.Founding.{all_more}

-- none before this place answered
abbrev pub Lack : List Outcome → ℕ → NoAnswer → Option (List Deed) → Option (List Deed) → Type 0
Lack outcomes place first before between = Does before between (exchanges Status outcomes) × (length outcomes ≡ place) × (list_all lacks_status outcomes ≡ true) × (first ≡ first_fault outcomes)

-- the next host answers
pub status_answers : (count : ℕ) (outcomes : List Outcome) (place : ℕ) (first : NoAnswer) (before between now : Option (List Deed)) (text : List ℕ) →
    Lack outcomes place first before between → place < count →
    ((outcome : Outcome) × Does between now (Exchange place Status outcome ∷ []) × (Ok text ≡ status_of outcome)) →
    (deeds : List Deed) × Does before now deeds × FirstAnswers count deeds (Ok text)
status_answers count outcomes place first before between now text at below that =
    let R : ℕ → Type 0 = λ p. p < count in (
      exchanges Status (outcomes ++ that.0 ∷ []),
      asks_more Status outcomes that.0 place before between now at.1 at.0 that.1,
      (outcomes, that.0, refl, subst R (sym at.1) below, at.2, sym that.2),
    )

not_first : (n : ℕ) → (suc n == 0) ≡ false
not_first n = grind (arith, nat_tests)

-- why host 0 did not, when one more did not
first_more : (outcomes : List Outcome) (outcome : Outcome) (fault : NoAnswer) → Err fault ≡ status_of outcome →
    (if length outcomes == 0 then fault else first_fault outcomes) ≡ first_fault (outcomes ++ outcome ∷ [])
first_more [] outcome fault e = ap (λ r. fault_or Silent r) e
first_more (x ∷ outcomes) outcome fault e = rw (not_first (length outcomes)) refl

-- the next host does not answer either
pub status_goes_on : (outcomes : List Outcome) (place : ℕ) (first : NoAnswer) (before between now : Option (List Deed)) (fault : NoAnswer) →
    Lack outcomes place first before between →
    ((outcome : Outcome) × Does between now (Exchange place Status outcome ∷ []) × (Err fault ≡ status_of outcome)) →
    (grown : List Outcome) × Does before now (exchanges Status grown) × (length grown ≡ place + 1) × (list_all lacks_status grown ≡ true) ×
    ((if place == 0 then fault else first) ≡ first_fault grown)
status_goes_on outcomes place first before between now fault at that =
    let P : ℕ → Type 0 = λ p. (if p == 0 then fault else first) ≡ first_fault (outcomes ++ that.0 ∷ []) in
    let Q : NoAnswer → Type 0 = λ f. (if length outcomes == 0 then fault else f) ≡ first_fault (outcomes ++ that.0 ∷ []) in
    let lacks : lacks_status that.0 ≡ true = ap (λ r. is_err r) (sym that.2) in (
      outcomes ++ that.0 ∷ [],
      asks_more Status outcomes that.0 place before between now at.1 at.0 that.1,
      length-append outcomes (that.0 ∷ []) ∙ ap (λ n. n + 1) at.1,
      all_more lacks_status outcomes that.0 at.2 lacks,
      subst P at.1 (subst Q (sym at.3) (first_more outcomes that.0 fault that.2)),
    )
