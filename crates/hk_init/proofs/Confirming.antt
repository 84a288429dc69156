-- STATUS, once more to all hosts.
use Rattle.std.proofs.Common.{◌≡◌, ◌≤◌, ℕ, ◌+◌, Bool, true, false, ◌||◌, List, [], ◌∷◌, ◌++◌, length, Option, Result, refl, sym, ap, ap₂, ◌∙◌, arith}
use Rattle.std.specs.List.{list_any, sum_by}
use Rattle.std.proofs.lemmas.List.{length-append}
use Rattle.std.proofs.lemmas.List.Folds.{list_any-append}
use Rattle.std.proofs.lemmas.List.Sums.{sum_by-append, sum_by-cons}
use Rattle.hk_inside.specs.declared.inquiry.Inquiry.TheVariants.{Status}
use Rattle.hk_init.specs.declared.fault.NoAnswer.{NoAnswer}
use Rattle.hk_init.specs.Deeds.{Outcome, Deed, Exchange, Does, exchanges}
use Rattle.hk_init.specs.Init.{status_of, count_of, denies_lost, answer_count, is_denied}
use Rattle.hk_init.proofs.Deeds.{asks_more}

-- so many of the hosts before this place answered, and whether one denied it
abbrev pub Round : List Outcome → ℕ → ℕ → Bool → Option (List Deed) → Option (List Deed) → Type 0
Round outcomes place answered denied before between = Does before between (exchanges Status outcomes) × (length outcomes ≡ place) ×
    (answered ≡ sum_by answer_count outcomes) × (denied ≡ list_any is_denied outcomes) × (answered ≤ place)

or_none : (b : Bool) → (b || false) ≡ b
or_none true = refl
or_none false = refl

counted : (outcomes : List Outcome) (outcome : Outcome) (answered : ℕ) → answered ≡ sum_by answer_count outcomes →
    answered + answer_count outcome ≡ sum_by answer_count (outcomes ++ outcome ∷ [])
counted outcomes outcome answered at =
    let joins = sum_by-append answer_count outcomes (outcome ∷ []) in
    let one = sum_by-cons answer_count outcome [] in
    omega (arith, at, joins, one)

-- one host more
pub round_goes_on : (outcomes : List Outcome) (place answered : ℕ) (denied : Bool) (before between now : Option (List Deed)) (told : Result (List ℕ) NoAnswer) (one : ℕ) (denies either : Bool) →
    Round outcomes place answered denied before between →
    ((outcome : Outcome) × Does between now (Exchange place Status outcome ∷ []) × (told ≡ status_of outcome)) → one ≡ count_of told → one ≤ 1 →
    denies ≡ denies_lost told → either ≡ (denied || denies) →
    (grown : List Outcome) × Does before now (exchanges Status grown) × (length grown ≡ place + 1) ×
    (answered + one ≡ sum_by answer_count grown) × (either ≡ list_any is_denied grown) × (answered + one ≤ place + 1)
round_goes_on outcomes place answered denied before between now told one denies either at that is few refuses joined =
    let same : one ≡ answer_count that.0 = is ∙ ap count_of that.2 in
    let denied_here : denies ≡ is_denied that.0 = refuses ∙ ap denies_lost that.2 in (
      outcomes ++ that.0 ∷ [],
      asks_more Status outcomes that.0 place before between now at.1 at.0 that.1,
      length-append outcomes (that.0 ∷ []) ∙ ap (λ n. n + 1) at.1,
      ap (λ n. answered + n) same ∙ counted outcomes that.0 answered at.2,
      joined ∙ ap₂ (λ (a : Bool) (b : Bool). a || b) at.3 (denied_here ∙ sym (or_none (is_denied that.0))) ∙ sym (list_any-append is_denied outcomes (that.0 ∷ [])),
      omega (arith, at.4, few),
    )
