-- The worked run is one.
use Rattle.std.proofs.Common.{◌≡◌, ◌<◌, ℕ, zero, suc, false, List, [], ◌∷◌, take, Some, None, refl, sym, inl, inr, arith}
use Rattle.std.specs.List.{slice_get}
use Rattle.hk_base.specs.declared.letter.Actor.TheVariants.{Node, Manager}
use Rattle.hk_base.specs.declared.letter.Body.{Body}
use Rattle.hk_base.specs.declared.letter.Body.TheVariants.{Prepare, Promise, Accept, Accepted, Chosen, Activate}
use Rattle.hk_paxos.specs.Run.{In}
use Rattle.hk_council.specs.Council.{Council, IsUp, MayHappen, IsRun, last_council, start}
use Rattle.hk_council.specs.Worked.{founders, dropped, low, high, vote, takes, events, last, Overtaken}

-- the council after the first of the events
abbrev moment : ℕ → Council
moment k = last_council (start 3 10 founders) (take k events)

up : (c : Council) (m : ℕ) → m < 3 → c.stopped m ≡ false → IsUp 3 c m
up c m known running = record { known = known; running = running }

-- what stands at a place is among all
at_place : {X : Type 0} (xs : List X) (k : ℕ) (x : X) → slice_get xs k ≡ Some x → In xs x
at_place [] k x h = absurd cc
at_place (y ∷ xs) zero x h = let e : y ≡ x = cc in inl (sym e)
at_place (y ∷ xs) (suc k) x h = inr (at_place xs k x h)

took : (k m from : ℕ) (body : Body) (place : ℕ) → m < 3 → (moment k).stopped m ≡ false →
    slice_get (moment k).sent place ≡ Some (record { epoch = 2; from = Manager from; to = Manager m; body = body }) → MayHappen 3 (moment k) (takes m from body)
took k m from body place known running there = (up (moment k) m known running, at_place (moment k).sent place (record { epoch = 2; from = Manager from; to = Manager m; body = body }) there)

runs : IsRun 3 (start 3 10 founders) events
runs = ((up (moment 0) 0 (omega arith) refl, tt), (took 1 0 0 (Prepare low) 0 (omega arith) refl refl, (took 2 1 0 (Prepare low) 1 (omega arith) refl refl, (took 3 0 0 (Promise low None) 3 (omega arith) refl refl, (took 4 0 1 (Promise low None) 6 (omega arith) refl refl, (took 5 0 0 (Accept low dropped) 9 (omega arith) refl refl, ((up (moment 6) 1 (omega arith) refl, tt), (took 7 1 1 (Prepare high) 16 (omega arith) refl refl, (took 8 1 0 (Accept low dropped) 10 (omega arith) refl refl, (took 9 0 1 (Prepare high) 15 (omega arith) refl refl, (tt, (took 11 1 1 (Promise high None) 19 (omega arith) refl refl, (took 12 1 0 (Promise high vote) 22 (omega arith) refl refl, (took 13 1 1 (Accept high dropped) 25 (omega arith) refl refl, (took 14 2 1 (Accept high dropped) 26 (omega arith) refl refl, (took 15 1 1 (Accepted high) 28 (omega arith) refl refl, (took 16 1 2 (Accepted high) 31 (omega arith) refl refl, (took 17 2 1 (Chosen dropped) 34 (omega arith) refl refl, ((up (moment 18) 1 (omega arith) refl, tt), ((up (moment 19) 1 (omega arith) refl, tt), tt))))))))))))))))))))

begins : In last.sent (record { epoch = 2; from = Manager 1; to = Node (record { 0 = 0 }); body = Activate dropped })
begins = at_place last.sent 35 (record { epoch = 2; from = Manager 1; to = Node (record { 0 = 0 }); body = Activate dropped }) refl

pub overtaken : Overtaken
overtaken = record { runs = runs; learned = refl; stopped = refl; overtaker = refl; third = refl; begins = begins }
