-- Batches are found one by one.
use Rattle.std.proofs.Common.{append_assoc, ◌≡◌, Bool, true, false, cond, List, [], ◌∷◌, ◌++◌, map, ◌∙◌, sym, refl, ap, Option, Some, None}
use Rattle.std.proofs.lemmas.List.{map-append}
use Rattle.hk_base.specs.declared.call.CallNo.{CallNo}
use Rattle.hk_world.specs.Start.{start}
use Rattle.hk_joint.specs.declared.batch.Reading.{Reading}
use Rattle.hk_joint.specs.Batch.{readings_from, goes_on, closed, batches_from, calls_of, BatchingState, no_batch, ended, noted, noted_all, BatchesAreFound}

closes : (s : BatchingState) (rest : List (List Reading)) → ended s ++ map calls_of rest ≡ s.made ++ map calls_of (closed s.open_batch ++ rest)
closes s rest =
    append_assoc s.made (map calls_of (closed s.open_batch)) (map calls_of rest)
    ∙ ap (λ (l : List (List CallNo)). s.made ++ l) (sym (map-append calls_of (closed s.open_batch) rest))

found_from : (rest : List (Option Reading)) (s : BatchingState) → ended (noted_all s rest) ≡ s.made ++ map calls_of (batches_from s.open_batch rest)
found_from [] s = refl
found_from (None ∷ rest) s = found_from rest (noted s None) ∙ closes s (batches_from [] rest)
found_from (Some r ∷ rest) s = by_test (goes_on s.open_batch r)
    (found_from rest (record { open_batch = s.open_batch ++ r ∷ []; made = s.made })) (found_from rest (record { open_batch = r ∷ []; made = ended s }))
  where
    by_test : (b : Bool) →
        ended (noted_all (record { open_batch = s.open_batch ++ r ∷ []; made = s.made }) rest) ≡ s.made ++ map calls_of (batches_from (s.open_batch ++ r ∷ []) rest) →
        ended (noted_all (record { open_batch = r ∷ []; made = ended s }) rest) ≡ ended s ++ map calls_of (batches_from (r ∷ []) rest) →
        ended (noted_all (cond b (record { open_batch = s.open_batch ++ r ∷ []; made = s.made }) (record { open_batch = r ∷ []; made = ended s })) rest) ≡
        s.made ++ map calls_of (cond b (batches_from (s.open_batch ++ r ∷ []) rest) (closed s.open_batch ++ batches_from (r ∷ []) rest))
    by_test true go start = go
    by_test false go start = start ∙ closes s (batches_from (r ∷ []) rest)

pub batches_found : BatchesAreFound
batches_found run = found_from (readings_from (start run.header) run.events) no_batch
