-- What an iterator gives, added to a list that is empty.
use Rattle.std.specs.Prelude.{◌≡◌, List, [], ◌++◌, map, Option, Result, MatchResult, OnOk}
use Rattle.std.specs.Iterator.{Drains, Yields}
use Rattle.std.proofs.Common.{◌∙◌, ap}
use Rattle.std.proofs.lemmas.Iterator.{YieldsList}
use Rattle.std.proofs.lemmas.Iterator.Adapters.{fact_from_extend}
use Rattle.std.proofs.lemmas.Iterator.Consumers.{YieldsList-at}

pub map_from_extend : {S A B E : Type 0} {steps : S → Option A → S → Type 0} {v : A → B} {s : S} {all : List B} {old new : List A} (r : Result (Unit {0}) E)
    → ((it : S) × (xs : List A) × (it ≡ s) × (new ≡ old ++ xs) × MatchResult r (λ _. Drains steps it xs) (λ _. (t : S) × Yields steps it xs t))
    → old ≡ [] → YieldsList steps v s all → OnOk r (map v new ≡ all)
map_from_extend {v = v} r ran empty road = fact_from_extend v r ran (λ it b. YieldsList-at b road) (λ xs e h. ap (map v) (h ∙ ap (λ front. front ++ xs) empty) ∙ e)
