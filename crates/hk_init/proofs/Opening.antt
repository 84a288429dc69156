-- STATUS, round by round.
use Rattle.std.proofs.Common.{◌≡◌, ◌<◌, ℕ, suc, ◌+◌, Bool, true, false, List, [], ◌∷◌, ◌++◌, length, Option, Ok, refl, sym, ap, subst, ◌∙◌, add-one}
use Rattle.std.specs.List.{list_all}
use Rattle.std.proofs.lemmas.List.{length-append}
use Rattle.hk_inside.specs.declared.inquiry.Inquiry.TheVariants.{Status}
use Rattle.hk_init.specs.declared.opens.TheConstants.{REST, ROUNDS}
use Rattle.hk_init.specs.Deeds.{Outcome, Deed, Exchange, Rest, Does, exchanges}
use Rattle.hk_init.specs.Phases.{tells, AllTell, FirstLacks, Waits, Opens}
use Rattle.hk_init.proofs.Deeds.{does_nothing, does_then, asks_more}
use Rattle.hk_init.proofs.Founding.{all_more}

-- all before this place told the words
abbrev pub Tell : List ℕ → List Outcome → ℕ → Option (List Deed) → Option (List Deed) → Type 0
Tell words outcomes place before between = Does before between (exchanges Status outcomes) × (length outcomes ≡ place) × (list_all (tells words) outcomes ≡ true)

-- the next host does not
pub tell_lacks : (words : List ℕ) (count : ℕ) (outcomes : List Outcome) (place : ℕ) (before between now : Option (List Deed)) (told : Bool) →
    Tell words outcomes place before between → place < count → ((outcome : Outcome) × Does between now (Exchange place Status outcome ∷ []) × (told ≡ tells words outcome)) → told ≡ false →
    (deeds : List Deed) × Does before now deeds × FirstLacks words count place deeds
tell_lacks words count outcomes place before between now told at below that is = (
  exchanges Status (outcomes ++ that.0 ∷ []),
  asks_more Status outcomes that.0 place before between now at.1 at.0 that.1,
  (outcomes, that.0, refl, at.1, below, at.2, sym that.2 ∙ is),
)

-- the next host does too
pub tell_goes_on : (words : List ℕ) (outcomes : List Outcome) (place : ℕ) (before between now : Option (List Deed)) (told : Bool) →
    Tell words outcomes place before between → ((outcome : Outcome) × Does between now (Exchange place Status outcome ∷ []) × (told ≡ tells words outcome)) → told ≡ true →
    (grown : List Outcome) × Does before now (exchanges Status grown) × (length grown ≡ place + 1) × (list_all (tells words) grown ≡ true)
tell_goes_on words outcomes place before between now told at that is = (
  outcomes ++ that.0 ∷ [],
  asks_more Status outcomes that.0 place before between now at.1 at.0 that.1,
  length-append outcomes (that.0 ∷ []) ∙ ap (λ n. n + 1) at.1,
  all_more (tells words) outcomes that.0 at.2 (sym that.2 ∙ is),
)

-- no round was made
pub waits_none : (words : List ℕ) (count place : ℕ) (before : Option (List Deed)) → (deeds : List Deed) × Does before before deeds × Waits words count 0 place deeds
unfolding Waits
waits_none words count place before = ([], does_nothing before, refl)

waits_suc : (words : List ℕ) (count rounds former place : ℕ) (before round : List Deed) → Waits words count rounds former before → FirstLacks words count place round →
    Waits words count (suc rounds) place (before ++ (round ++ Rest REST ∷ []))
unfolding Waits
waits_suc words count rounds former place before round waits lacks = (before, round, former, refl, waits, lacks)

-- one round more, and a rest
pub waits_more : (words : List ℕ) (count rounds former place : ℕ) (before between asked now : Option (List Deed)) →
    ((deeds : List Deed) × Does before between deeds × Waits words count rounds former deeds) →
    ((deeds : List Deed) × Does between asked deeds × FirstLacks words count place deeds) → Does asked now (Rest REST ∷ []) →
    (deeds : List Deed) × Does before now deeds × Waits words count (rounds + 1) place deeds
waits_more words count rounds former place before between asked now waited round rests =
    let P : ℕ → Type 0 = λ n. Waits words count n place (waited.0 ++ (round.0 ++ Rest REST ∷ [])) in (
      waited.0 ++ (round.0 ++ Rest REST ∷ []),
      does_then before between now waited.0 (round.0 ++ Rest REST ∷ []) waited.1 (does_then between asked now round.0 (Rest REST ∷ []) round.1 rests),
      subst P (sym (add-one rounds)) (waits_suc words count rounds former place waited.0 round.0 waited.2 round.2),
    )

-- all tell the words in this round
pub opens_now : (words : List ℕ) (count rounds place : ℕ) (before between now : Option (List Deed)) → rounds < ROUNDS →
    ((deeds : List Deed) × Does before between deeds × Waits words count rounds place deeds) →
    ((deeds : List Deed) × Does between now deeds × AllTell words count deeds) →
    (deeds : List Deed) × Does before now deeds × Opens words count deeds (Ok tt)
opens_now words count rounds place before between now few waited round = (
  waited.0 ++ round.0,
  does_then before between now waited.0 round.0 waited.1 round.1,
  (rounds, place, waited.0, round.0, refl, few, waited.2, round.2),
)
