-- The worked run.
use Rattle.std.proofs.Common.{◌≡◌, ◌<◌, ℕ, false, [], ◌∷◌, nat_eq, refl, ap, inl, inr, arith, None}
use Rattle.std.specs.List.{IsDistinct}
use Rattle.hk_paxos.specs.Run.{PaxosLetter, PaxosState, In, IsUp, IsQuorum}
use Rattle.hk_paxos.specs.Run.PaxosLetter.{PrepareLetter, PromiseLetter, AcceptLetter, AcceptedLetter, ChosenLetter}
use Rattle.hk_paxos.specs.Worked.{dropped, low, high, vote, promises, letters, Overtaken}

up : (st : PaxosState) (m : ℕ) → m < 3 → st.stopped m ≡ false → IsUp 2 3 st m
up st m known running = record { known = known; running = running }

abbrev manager_of : PaxosLetter → ℕ
manager_of (PrepareLetter ballot) = ballot.manager
manager_of (PromiseLetter from promise) = 0
manager_of (AcceptLetter ballot view) = 0
manager_of (AcceptedLetter from voted) = 0
manager_of (ChosenLetter view) = 0

distinct : IsDistinct nat_eq (1 ∷ 2 ∷ [])
unfolding IsDistinct
distinct = ((refl, tt), (tt, tt))

quorum : IsQuorum 3 (1 ∷ 2 ∷ [])
quorum = record { distinct = distinct; known = known; majority = omega arith }
  where
    known : (m : ℕ) → In (1 ∷ 2 ∷ []) m → m < 3
    known m (inl is) = omega (arith, is)
    known m (inr (inl is)) = omega (arith, is)
    known m (inr (inr none)) = absurd none

-- no letter before the second proposal asks for promises at its ballot
not_used : In (AcceptedLetter 0 (vote low dropped) ∷ AcceptLetter low dropped ∷ promises 1 low None ∷ promises 0 low None ∷ PrepareLetter low ∷ []) (PrepareLetter high) → ⊥
not_used (inl e) = cc
not_used (inr (inl e)) = cc
not_used (inr (inr (inl e))) = cc
not_used (inr (inr (inr (inl e)))) = cc
not_used (inr (inr (inr (inr (inl e))))) = let one : 1 ≡ 0 = ap manager_of e in omega (arith, one)
not_used (inr (inr (inr (inr (inr none))))) = none

accepted : (m : ℕ) → In (1 ∷ 2 ∷ []) m → In letters (AcceptedLetter m (vote high dropped))
accepted m (inl is) = inr (inr (inl (ap (λ (k : ℕ). AcceptedLetter k (vote high dropped)) is)))
accepted m (inr (inl is)) = inr (inl (ap (λ (k : ℕ). AcceptedLetter k (vote high dropped)) is))
accepted m (inr (inr none)) = absurd none

pub overtaken : Overtaken
overtaken = record {
  run = (
    (up _ 0 (omega arith) refl, λ none. none),
    (
      (up _ 0 (omega arith) refl, inl refl),
      (
        (up _ 1 (omega arith) refl, inr (inl refl)),
        (
          (up _ 0 (omega arith) refl, inr (inl refl)),
          (
            (up _ 0 (omega arith) refl, inl refl),
            (
              (up _ 0 (omega arith) refl, inl refl),
              (
                (up _ 1 (omega arith) refl, not_used),
                (
                  (up _ 1 (omega arith) refl, inl refl),
                  (
                    (up _ 1 (omega arith) refl, inr (inr (inr (inl refl)))),
                    (
                      (up _ 0 (omega arith) refl, inr (inl refl)),
                      (
                        up _ 0 (omega arith) refl,
                        (
                          (up _ 1 (omega arith) refl, inr (inl refl)),
                          (
                            (up _ 1 (omega arith) refl, inl refl),
                            (
                              (up _ 1 (omega arith) refl, inl refl),
                              (
                                (up _ 2 (omega arith) refl, inr (inl refl)),
                                (
                                  (up _ 1 (omega arith) refl, inr (inl refl)),
                                  ((up _ 1 (omega arith) refl, inl refl), tt),
                                ),
                              ),
                            ),
                          ),
                        ),
                      ),
                    ),
                  ),
                ),
              ),
            ),
          ),
        ),
      ),
    ),
  );
  sent = refl;
  chosen = record { ballot = high; quorum = 1 ∷ 2 ∷ []; majority = quorum; accepted = accepted };
}
