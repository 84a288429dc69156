-- What a worker takes.
use Rattle.std.proofs.Common.{◌≡◌, ℕ, suc, ◌+◌, ◌-◌, ◌<◌, ◌≤◌, drop, List, [], ◌∷◌, length, slice_index_or, slice_set, Option, Some, None, unwrap_or, MatchOption, refl, sym, ap, ◌∙◌, subst, arith}
use Rattle.std.specs.Option.{IfSome}
use Rattle.std.specs.List.{AllByRecursion}
use Rattle.std.proofs.lemmas.List.{set-get_or, at_drop_more, at_drop_all}
use Rattle.std.proofs.lemmas.Option.{slice_get_read}
use Rattle.hk_link.specs.declared.parcel.Parcel.{Parcel}
use Rattle.hk_link.specs.Ends.{End, IsTaken as IsTakenFrom, WasEmpty, IsSameLink}
use Rattle.hk_due.specs.declared.due.Due.{Due}
use Rattle.hk_turns.specs.Requests.{RequestState, first_due, requests_in, IsTaken}
use Rattle.hk_turns.specs.Rounds.{RoundState}
use Rattle.hk_turns.specs.Workers.{WorkerState, with_inlets, with_requests, with_round, WasEmptyAt, IsTakenAt, TakesParcel, FindsNoParcel, TakesRequest, Walks, TakesDue}

-- ---- parcels
pub take_told : (place : ℕ) (xs : List End) (i j : End) (result : Option Parcel) → i ≡ slice_index_or xs place i → place < length xs → IsSameLink j i
    → MatchOption result ((j ≡ i) × WasEmpty i) (λ p. IsTakenFrom i.known p j.known)
    → MatchOption result ((slice_set xs place j ≡ xs) × WasEmptyAt place xs) (λ p. IsTakenAt place p xs (slice_set xs place j))
take_told place xs i j None value below link told = (
  ap (slice_set xs place) (told.0 ∙ value) ∙ set-get_or xs place i,
  record { inlet = i; there = slice_get_read xs (length xs) place i refl below value; empty = told.1 },
)
take_told place xs i j (Some p) value below link told =
    record { old = i; new = j; there = slice_get_read xs (length xs) place i refl below value; link = link; taken = told; inlets = refl }

pub all_empty : (xs : List End) → ((i : ℕ) → i < length xs → WasEmptyAt i xs) → AllByRecursion WasEmpty xs
all_empty [] each = tt
all_empty (x ∷ xs) each =
    let here = each 0 (omega arith) in (
      subst WasEmpty (sym (ap (λ o. unwrap_or o x) here.there)) here.empty,
      all_empty xs (λ i below. let there = each (suc i) (omega (arith, below)) in record { inlet = there.inlet; there = there.there; empty = there.empty }),
    )

-- ---- what they make of the worker
pub takes_parcel : (w now : WorkerState) (inlets : List End) (result : Option Parcel) → w ≡ now → IfSome result (λ p. (place : ℕ) × IsTakenAt place p w.inlets inlets)
    → IfSome result (λ p. TakesParcel p now (with_inlets w inlets))
takes_parcel w now inlets None same told = tt
takes_parcel w now inlets (Some p) same told =
    subst (λ (x : WorkerState). TakesParcel p x (with_inlets w inlets)) same (record { place = told.0; taken = told.1; same = refl })

pub takes_none : (w now : WorkerState) (inlets : List End) → w ≡ now → inlets ≡ w.inlets → AllByRecursion WasEmpty w.inlets → (with_inlets w inlets ≡ now) × FindsNoParcel now
takes_none w now inlets same is empty = (ap (with_inlets w) is ∙ same, subst FindsNoParcel same empty)

pub takes_request : (w now : WorkerState) (requests : RequestState) (result : Option (ℕ × ℕ)) → w ≡ now
    → MatchOption result ((first_due w.requests.left ≡ None) × (requests ≡ w.requests)) (λ r. IsTaken r.0 r.1 w.requests requests)
    → MatchOption result ((first_due now.requests.left ≡ None) × (with_requests w requests ≡ now)) (λ r. TakesRequest r.0 r.1 now (with_requests w requests))
takes_request w now requests None same told =
    (subst (λ (x : WorkerState). first_due x.requests.left ≡ None) same told.0, ap (with_requests w) told.1 ∙ same)
takes_request w now requests (Some r) same told =
    subst (λ (x : WorkerState). TakesRequest r.0 r.1 x (with_requests w requests)) same (record { taken = told; same = refl })

pub takes_due : (finds : ℕ → Option (List ℕ) → ℕ → Option Due → Type 0) (lacks : ℕ → Type 0) (w now : WorkerState) (round : RoundState) (found : Option (ℕ × Due)) → w ≡ now
    → Walks finds lacks (8 - w.round.shard) w.round found round → TakesDue finds lacks found now (with_round w round)
takes_due finds lacks w now round found same walks =
    subst (λ (x : WorkerState). TakesDue finds lacks found x (with_round w round)) same (record { walks = walks; same = refl })

-- ---- how many requests are due
pub requests_more : (xs : List ℕ) (place x y due : ℕ) → place < length xs → x ≡ slice_index_or xs place x → y ≡ x → due + requests_in (drop place xs) ≡ requests_in xs
    → due + y + requests_in (drop (place + 1) xs) ≡ requests_in xs
requests_more xs place x y due below is same all =
    let step : requests_in (drop place xs) ≡ slice_index_or xs place x + requests_in (drop (place + 1) xs) = at_drop_more requests_in xs place x below in
    omega (arith, step, is, same, all)

pub requests_all : (xs : List ℕ) (place due : ℕ) → length xs ≤ place → due + requests_in (drop place xs) ≡ requests_in xs → due ≡ requests_in xs
requests_all xs place due past all =
    let none : requests_in (drop place xs) ≡ 0 = at_drop_all requests_in xs place past in
    omega (arith, none, all)
