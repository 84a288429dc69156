-- The worked run is one.
use Rattle.std.proofs.Common.{◌≡◌, ◌⊎◌, ◌&&◌, ℕ, zero, suc, nat_le, List, [], ◌∷◌, Bool, true, false, Some, Result, Ok, Err, refl, sym, inl, inr, arith, le_refl}
use Rattle.std.specs.List.{AllByRecursion, slice_get}
use Rattle.std.proofs.lemmas.Bool.{false≢true, leb-true}
use Rattle.hk_base.specs.declared.time.TheConstants.{MAX_TIME}
use Rattle.hk_base.specs.declared.letter.Actor.TheVariants.{Node, Manager}
use Rattle.hk_base.specs.declared.letter.Body.TheVariants.{Accept, LeaseGive}
use Rattle.hk_earned.specs.Machine.{In}
use Rattle.hk_event.specs.declared.event.Event.{Event}
use Rattle.hk_event.specs.declared.refused.Refused.{Refused}
use Rattle.hk_world.specs.World.{WorldState}
use Rattle.hk_world.specs.Start.{start}
use Rattle.hk_world.specs.Steps.{Accepted, world_step}
use Rattle.hk_world.specs.Sound.{IsEvent}
use Rattle.hk_managed.specs.Runs.{after, IsRun}
use Rattle.hk_managed.specs.Guarded.{HasGiven, HasFirstLease, IsGranted}
use Rattle.hk_managed.specs.Worked.{second_node, dropped, header, events, ends, last, WorkedRun}

abbrev accepted : Result Accepted Refused → Bool
accepted (Ok a) = true
accepted (Err refused) = false

abbrev all_accepted : WorldState → List Event → Bool
all_accepted w [] = true
all_accepted w (event ∷ events) = accepted (world_step w event) && all_accepted (after w (world_step w event)) events

run_of : (w : WorldState) (events : List Event) → AllByRecursion IsEvent events → all_accepted w events ≡ true → IsRun w events (ends w events)
run_of w [] are all = refl
run_of w (event ∷ events) are all = at (world_step w event) refl all (run_of (after w (world_step w event)) events are.1)
  where
    at : (r : Result Accepted Refused) → world_step w event ≡ r → (accepted r && all_accepted (after w r) events) ≡ true →
        (all_accepted (after w r) events ≡ true → IsRun (after w r) events (ends (after w r) events)) → IsRun w (event ∷ events) (ends (after w r) events)
    at (Ok a) is h more = (are.0, a, is, more h)
    at (Err refused) is h more = absurd (false≢true h)

-- what stands at a place is among all
at_place : {X : Type 0} (xs : List X) (k : ℕ) (x : X) → slice_get xs k ≡ Some x → In xs x
at_place [] k x h = absurd cc
at_place (y ∷ xs) zero x h = let e : y ≡ x = cc in inl (sym e)
at_place (y ∷ xs) (suc k) x h = inr (at_place xs k x h)

-- managers 0 and 1 granted the lease by letters 3 and 4
by_majority : IsGranted last second_node 15
by_majority = record { test = λ m. nat_le m 1; many = omega arith; each = gives }
  where
    given : (m place : ℕ) → slice_get last.letters place ≡ Some (record { epoch = 1; from = Manager m; to = Node second_node; body = LeaseGive 15 }) → HasGiven last.letters m second_node 15
    given m place at = record { given = 15; upto = le_refl 15; under = 1; sent = at_place last.letters place (record { epoch = 1; from = Manager m; to = Node second_node; body = LeaseGive 15 }) at }

    gives : (m : ℕ) → nat_le m 1 ≡ true → HasGiven last.letters m second_node 15 ⊎ HasFirstLease last second_node 15
    gives zero t = inl (given 0 2 refl)
    gives (suc zero) t = inl (given 1 3 refl)
    gives (suc (suc m)) t = let h = leb-true (suc (suc m)) 1 t in absurd (omega (arith, h))

pub worked_run : WorkedRun
worked_run = record {
  run = run_of (start header) events (
    leb-true 5 MAX_TIME refl,
    (
      leb-true 1 9 refl,
      (
        leb-true 2 9 refl,
        (
          tt,
          (
            tt,
            (
              tt,
              (
                tt,
                (
                  leb-true 1 9 refl,
                  (
                    tt,
                    (
                      tt,
                      (
                        tt,
                        (
                          tt,
                          (
                            tt,
                            (
                              leb-true 2 9 refl,
                              (
                                tt,
                                (
                                  tt,
                                  (
                                    tt,
                                    (
                                      tt,
                                      (
                                        tt,
                                        (
                                          tt,
                                          (
                                            tt,
                                            (
                                              tt,
                                              (
                                                tt,
                                                (leb-true 30 MAX_TIME refl, (leb-true 2 9 refl, (leb-true 3 9 refl, (tt, (tt, tt))))),
                                              ),
                                            ),
                                          ),
                                        ),
                                      ),
                                    ),
                                  ),
                                ),
                              ),
                            ),
                          ),
                        ),
                      ),
                    ),
                  ),
                ),
              ),
            ),
          ),
        ),
      ),
    ),
  ) refl;
  had_lease = refl;
  at_the_time = refl;
  by_majority = by_majority;
  first_asks = at_place last.letters 14 (record { epoch = 2; from = Manager 0; to = Manager 1; body = Accept (record { round = 1; manager = 0 }) dropped }) refl;
  rival_asks = at_place last.letters 30 (record { epoch = 2; from = Manager 1; to = Manager 2; body = Accept (record { round = 2; manager = 1 }) dropped }) refl;
  installed = refl;
  first_view = refl;
  second_view = refl;
  runs = refl;
  over = refl;
}
