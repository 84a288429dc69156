-- What a command did so far, and then one deed or more.
use Rattle.std.proofs.Common.{◌≡◌, ℕ, ◌+◌, List, [], ◌∷◌, ◌++◌, length, Option, None, Some, sym, ap, subst, ◌∙◌, arith, append_assoc, add-zero, zero-add}
use Rattle.std.proofs.lemmas.List.{append-nil}
use Rattle.hk_inside.specs.declared.inquiry.Inquiry.{Inquiry}
use Rattle.hk_init.specs.Deeds.{Outcome, Deed, Exchange, Does, exchanges_from, exchanges}

-- nothing was done
pub does_nothing : (before : Option (List Deed)) → Does before before []
does_nothing None = tt
does_nothing (Some before) = ap Some (sym (append-nil before))

-- this, and then that
pub does_then : (before between now : Option (List Deed)) (front back : List Deed) → Does before between front → Does between now back → Does before now (front ++ back)
does_then None between now front back this that = tt
does_then (Some before) between now front back this that =
    let P : Option (List Deed) → Type 0 = λ b. Does b now back in
    let at : now ≡ Some ((before ++ front) ++ back) = subst P this that in
    at ∙ ap Some (append_assoc before front back)

-- one host more is asked
exchanges_from_more : (place : ℕ) (inquiry : Inquiry) (outcomes : List Outcome) (outcome : Outcome) →
    exchanges_from place inquiry outcomes ++ Exchange (place + length outcomes) inquiry outcome ∷ [] ≡ exchanges_from place inquiry (outcomes ++ outcome ∷ [])
exchanges_from_more place inquiry [] outcome = ap (λ p. Exchange p inquiry outcome ∷ []) (add-zero place)
exchanges_from_more place inquiry (first ∷ outcomes) outcome =
    let shifts : place + length (first ∷ outcomes) ≡ (place + 1) + length outcomes = omega arith in
    ap (λ p. Exchange place inquiry first ∷ (exchanges_from (place + 1) inquiry outcomes ++ Exchange p inquiry outcome ∷ [])) shifts
    ∙ ap (λ deeds. Exchange place inquiry first ∷ deeds) (exchanges_from_more (place + 1) inquiry outcomes outcome)

pub exchanges_more : (inquiry : Inquiry) (outcomes : List Outcome) (outcome : Outcome) (place : ℕ) → length outcomes ≡ place →
    exchanges inquiry outcomes ++ Exchange place inquiry outcome ∷ [] ≡ exchanges inquiry (outcomes ++ outcome ∷ [])
exchanges_more inquiry outcomes outcome place at =
    ap (λ p. exchanges inquiry outcomes ++ Exchange p inquiry outcome ∷ []) (sym (zero-add (length outcomes) ∙ at)) ∙ exchanges_from_more 0 inquiry outcomes outcome

-- they were asked, and then one host more
pub asks_more : (inquiry : Inquiry) (outcomes : List Outcome) (outcome : Outcome) (place : ℕ) (before between now : Option (List Deed)) → length outcomes ≡ place →
    Does before between (exchanges inquiry outcomes) → Does between now (Exchange place inquiry outcome ∷ []) → Does before now (exchanges inquiry (outcomes ++ outcome ∷ []))
asks_more inquiry outcomes outcome place before between now at this that =
    let P : List Deed → Type 0 = λ deeds. Does before now deeds in
    subst P (exchanges_more inquiry outcomes outcome place at) (does_then before between now (exchanges inquiry outcomes) (Exchange place inquiry outcome ∷ []) this that)
