-- The worked runs, effect by effect: each is allowed where it stands.
use Rattle.std.proofs.Common.{ℕ, Bool, true, false, cond, [], ◌∷◌, refl, inl, inr, arith, eqb}
use Rattle.std.specs.Prelude.{take}
use Rattle.std.proofs.lemmas.Bool.{false≢true}
use Rattle.hk_register.specs.Machine.{In, RegisterState}
use Rattle.hk_register.specs.Runs.{start, played, Plays}
use Rattle.hk_register.specs.Worked.{five, nine, exactly, with_more, two, three, shrinking, growing, settled_rule, two_increments, aborted_in_effect, val_kept_in_trans, joiner, deleted_and_added, SettledRule, TwoIncrements, AbortedInEffect, ValKeptInTrans, Joiner, DeletedAndAdded}
use Rattle.hk_register.proofs.Worked.{blind, not_plain, fresh, leased, noted, noted_after, inexact, all_exact}

-- node 2 stays, and node 0
two_stays : (e : ℕ) → In (shrinking e) 2
two_stays e = by_tests (eqb e 1) (eqb e 2)
  where
    by_tests : (b c : Bool) → In {X = ℕ} (cond b (0 ∷ 1 ∷ 2 ∷ []) (cond c (1 ∷ 2 ∷ []) (2 ∷ []))) 2
    by_tests true c = inr (inr (inl refl))
    by_tests false true = inr (inl refl)
    by_tests false false = inl refl

zero_stays : (e : ℕ) → In (growing e) 0
zero_stays e = by_test (eqb e 1)
  where
    by_test : (b : Bool) → In {X = ℕ} (cond b (0 ∷ []) (0 ∷ 1 ∷ [])) 0
    by_test true = inl refl
    by_test false = inl refl

pub settled_rule_plays : Plays three (start three) settled_rule
settled_rule_plays = (
  (refl, refl, leased three (at 0) 0 refl, omega arith, refl, refl, refl, λ _. blind five, record { changed = refl; register = refl; answer = refl; answered = refl }, fresh (at 0) 1 refl),
  (
    (refl, refl, leased three (at 1) 1 refl, omega arith, refl, refl, refl, λ _. blind nine, record { changed = refl; register = refl; answer = refl; answered = refl }, fresh (at 1) 2 refl),
    (
      (inr (inl refl), omega arith, omega arith, inl refl),
      (
        (inr (inr (inl refl)), omega arith, omega arith, refl),
        (
          (inr (inl refl), refl, inr (inl refl), noted_after ([]) 1 131072 131073 false inexact),
          (
            (inl refl, refl, inr (inr (inl refl)), noted_after (with_more 1 ∷ []) 2 131072 131072 true (λ _. refl)),
            (
              (refl, noted three 1 0 (exactly 2 ∷ with_more 1 ∷ []) refl),
              tt,
            ),
          ),
        ),
      ),
    ),
  ),
)
  where
    at : ℕ → RegisterState
    at k = played (start three) (take k settled_rule)

pub settled_rule_worked : SettledRule
settled_rule_worked = (record { plays = settled_rule_plays; seen = refl; printed = refl }, refl, λ a. false≢true (a.3 (with_more 1) (inr (inl refl))))

pub two_increments_plays : Plays two (start two) two_increments
two_increments_plays = (
  (refl, refl, leased two (at 0) 0 refl, omega arith, refl, refl, refl, λ _. blind five, record { changed = refl; register = refl; answer = refl; answered = refl }, fresh (at 0) 1 refl),
  (
    (inl refl, omega arith, omega arith, refl),
    (
      (inl refl, refl, inr (inl refl), noted_after ([]) 1 131072 131072 true (λ _. refl)),
      (
        (refl, noted two 1 0 (exactly 1 ∷ []) refl, refl, all_exact (exactly 1 ∷ []) refl),
        (
          (inl refl, refl),
          (
            (refl, refl, leased two (at 5) 0 refl, omega arith, refl, refl, refl, λ e. not_plain e, record { changed = refl; register = refl; answer = refl; answered = refl }, fresh (at 5) 2 refl),
            (
              (refl, refl, leased two (at 6) 1 refl, omega arith, refl, refl, refl, λ e. not_plain e, record { changed = refl; register = refl; answer = refl; answered = refl }, fresh (at 6) 3 refl),
              (
                (inr (inl refl), omega arith, omega arith),
                (
                  (inl refl, omega arith, omega arith, refl),
                  (
                    (inl refl, refl, inl refl, noted_after ([]) 0 196609 196609 true (λ _. refl)),
                    (
                      (refl, noted two 1 1 (exactly 0 ∷ []) refl, refl, all_exact (exactly 0 ∷ []) refl),
                      tt,
                    ),
                  ),
                ),
              ),
            ),
          ),
        ),
      ),
    ),
  ),
)
  where
    at : ℕ → RegisterState
    at k = played (start two) (take k two_increments)

pub two_increments_worked : TwoIncrements
two_increments_worked = record { plays = two_increments_plays; seen = refl; printed = refl }

pub aborted_in_effect_plays : Plays shrinking (start shrinking) aborted_in_effect
aborted_in_effect_plays = (
  (refl, refl, leased shrinking (at 0) 0 refl, omega arith, refl, refl, refl, λ _. blind five, record { changed = refl; register = refl; answer = refl; answered = refl }, fresh (at 0) 1 refl),
  (
    (inl refl, omega arith, omega arith, refl),
    (
      (inr (inl refl), omega arith, omega arith, refl),
      (
        (inr (inl refl), refl, inr (inl refl), noted_after ([]) 1 131072 131072 true (λ _. refl)),
        (
          (inl refl, refl, inr (inr (inl refl)), noted_after (exactly 1 ∷ []) 2 131072 131072 true (λ _. refl)),
          (
            (refl, noted shrinking 1 0 (exactly 2 ∷ exactly 1 ∷ []) refl, refl, all_exact (exactly 2 ∷ exactly 1 ∷ []) refl),
            (
              (inl refl, refl),
              (
                (refl, refl, leased shrinking (at 7) 0 refl, omega arith, refl, refl, refl, λ e. not_plain e, record { changed = refl; register = refl; answer = refl; answered = refl }, fresh (at 7) 2 refl),
                (
                  (refl, refl, leased shrinking (at 8) 1 refl, omega arith, refl, refl, refl, λ _. blind nine, record { changed = refl; register = refl; answer = refl; answered = refl }, fresh (at 8) 3 refl),
                  (
                    (inr (inl refl), omega arith, omega arith, refl),
                    (
                      (inr (inl refl), omega arith, omega arith, refl),
                      (
                        (omega arith, inl refl, λ f _ _ _. two_stays f, inr refl),
                        (
                          (refl, refl),
                          (
                            (refl, noted shrinking 3 2 [] refl, refl, all_exact [] refl),
                            (
                              (refl, refl, leased shrinking (at 14) 2 refl, λ _. refl, fresh (at 14) 4 refl, refl),
                              tt,
                            ),
                          ),
                        ),
                      ),
                    ),
                  ),
                ),
              ),
            ),
          ),
        ),
      ),
    ),
  ),
)
  where
    at : ℕ → RegisterState
    at k = played (start shrinking) (take k aborted_in_effect)

pub aborted_in_effect_worked : AbortedInEffect
aborted_in_effect_worked = record { plays = aborted_in_effect_plays; seen = refl; printed = refl }

pub val_kept_in_trans_plays : Plays two (start two) val_kept_in_trans
val_kept_in_trans_plays = (
  (refl, refl, leased two (at 0) 0 refl, omega arith, refl, refl, refl, λ _. blind five, record { changed = refl; register = refl; answer = refl; answered = refl }, fresh (at 0) 1 refl),
  (
    (refl, refl, leased two (at 1) 1 refl, omega arith, refl, refl, refl, λ _. blind nine, record { changed = refl; register = refl; answer = refl; answered = refl }, fresh (at 1) 2 refl),
    (
      (inl refl, omega arith, omega arith, refl),
      (
        (inr (inr (inl refl)), omega arith, omega arith, inl refl),
        (
          (inr (inl refl), refl, inl refl, noted_after ([]) 0 131073 131073 true (λ _. refl)),
          (
            (refl, noted two 1 1 (exactly 0 ∷ []) refl, refl, all_exact (exactly 0 ∷ []) refl),
            (
              inl refl,
              (
                (inr (inl refl), refl, inr (inl refl), noted_after ([]) 1 131072 131073 false inexact),
                (
                  (refl, noted two 1 0 (with_more 1 ∷ []) refl, refl),
                  tt,
                ),
              ),
            ),
          ),
        ),
      ),
    ),
  ),
)
  where
    at : ℕ → RegisterState
    at k = played (start two) (take k val_kept_in_trans)

pub val_kept_in_trans_worked : ValKeptInTrans
val_kept_in_trans_worked = (record { plays = val_kept_in_trans_plays; seen = refl; printed = refl }, refl, refl, refl)

pub joiner_plays : Plays growing (start growing) joiner
joiner_plays = (
  (refl, refl, leased growing (at 0) 0 refl, omega arith, refl, refl, refl, λ _. blind five, record { changed = refl; register = refl; answer = refl; answered = refl }, fresh (at 0) 1 refl),
  (
    refl,
    (
      (refl, fresh (at 2) 2 refl),
      (
        (omega arith, inl refl, λ f _ _ _. zero_stays f, refl),
        (
          (omega arith, inr (inl refl), λ f one _ _. absurd (omega arith), inl refl),
          (
            (refl, inexact),
            (
              (inl refl, omega arith, omega arith),
              (
                (inr (inl refl), omega arith, omega arith, inr refl),
                (
                  (inl refl, refl, inr (inl refl), noted_after ([]) 1 131072 131072 true (λ _. refl)),
                  (
                    (refl, noted growing 2 0 (exactly 1 ∷ []) refl, refl, all_exact (exactly 1 ∷ []) refl),
                    (
                      (refl, λ _. refl),
                      (
                        (inl refl, omega arith, refl),
                        (
                          (inl refl, omega arith, omega arith),
                          (
                            (omega arith, refl, inl refl),
                            (
                              (refl, refl, leased growing (at 14) 1 refl, λ _. refl, fresh (at 14) 3 refl, refl),
                              (
                                tt,
                                tt,
                              ),
                            ),
                          ),
                        ),
                      ),
                    ),
                  ),
                ),
              ),
            ),
          ),
        ),
      ),
    ),
  ),
)
  where
    at : ℕ → RegisterState
    at k = played (start growing) (take k joiner)

pub joiner_worked : Joiner
joiner_worked = record { plays = joiner_plays; seen = refl; printed = refl }

pub deleted_and_added_plays : Plays two (start two) deleted_and_added
deleted_and_added_plays = (
  (refl, refl, leased two (at 0) 0 refl, omega arith, refl, refl, refl, λ _. blind five, record { changed = refl; register = refl; answer = refl; answered = refl }, fresh (at 0) 1 refl),
  (
    (inl refl, omega arith, omega arith, refl),
    (
      (inl refl, refl, inr (inl refl), noted_after ([]) 1 131072 131072 true (λ _. refl)),
      (
        (refl, noted two 1 0 (exactly 1 ∷ []) refl, refl, all_exact (exactly 1 ∷ []) refl),
        (
          (refl, refl, leased two (at 4) 0 refl, omega arith, refl, refl, refl, λ e. not_plain e, record { changed = refl; register = refl; answer = refl; answered = refl }, fresh (at 4) 2 refl),
          (
            (inl refl, omega arith, omega arith, refl),
            (
              (inl refl, refl, inr (inl refl), noted_after ([]) 1 196608 196608 true (λ _. refl)),
              (
                (refl, noted two 1 0 (exactly 1 ∷ []) refl, refl, all_exact (exactly 1 ∷ []) refl),
                (
                  (inl refl, refl),
                  (
                    (refl, refl, leased two (at 9) 1 refl, λ _. refl, fresh (at 9) 3 refl, refl),
                    (
                      (refl, refl, leased two (at 10) 1 refl, omega arith, refl, refl, refl, λ e. not_plain e, record { changed = refl; register = refl; answer = refl; answered = refl }, fresh (at 10) 4 refl),
                      (
                        (inl refl, omega arith, omega arith, refl),
                        (
                          (inl refl, refl, inl refl, noted_after ([]) 0 262145 262145 true (λ _. refl)),
                          (
                            (refl, noted two 1 1 (exactly 0 ∷ []) refl, refl, all_exact (exactly 0 ∷ []) refl),
                            tt,
                          ),
                        ),
                      ),
                    ),
                  ),
                ),
              ),
            ),
          ),
        ),
      ),
    ),
  ),
)
  where
    at : ℕ → RegisterState
    at k = played (start two) (take k deleted_and_added)

pub deleted_and_added_worked : DeletedAndAdded
deleted_and_added_worked = (record { plays = deleted_and_added_plays; seen = refl; printed = refl }, refl, refl)
