-- The worked worlds of updates: each event is accepted, its effects are allowed, and what the key has of it is computed.
use Rattle.std.proofs.Common.{ℕ, true, false, List, [], ◌∷◌, refl, inl, inr}
use Rattle.std.proofs.lemmas.Bool.{leb-true, ltb-true}
use Rattle.hk_register.specs.Machine.{In, RegisterState}
use Rattle.hk_register.specs.Worked.{five, nine, exactly, with_more}
use Rattle.hk_register.proofs.Worked.{blind, not_plain, fresh, leased, noted, inexact, all_exact}
use Rattle.hk_world.specs.Worked.{key}
use Rattle.hk_effects.specs.Projection.{project}
use Rattle.hk_effects.specs.Orders.{family}
use Rattle.hk_effects.specs.Worked.{val_kept, left_invalid, countered, replayed}
use Rattle.hk_effects.specs.Worked.{ValKept, LeftInvalid, Countered, Replayed}
use Rattle.hk_effects.proofs.Shows.{trace_at, no_view_yet, up_to_three, by_zero_changes, by_one_changes, more_by_zero_changes, more_by_one_changes, shows, itself, noted_behind}

pub val_kept_shows : ValKept
val_kept_shows = (
  _,
  shows refl tt (
    (
      refl,
      refl,
      leased (members 0) (at 0) 0 refl,
      ltb-true _ _ refl,
      refl,
      refl,
      refl,
      λ _. blind five,
      by_zero_changes,
      fresh (at 0) 1 refl,
    ),
    tt,
  )
      refl refl ((_, itself _, inl refl), tt) refl refl,
  (
    _,
    shows refl tt (
      (
        refl,
        refl,
        leased (members 1) (at 1) 1 refl,
        ltb-true _ _ refl,
        refl,
        refl,
        refl,
        λ _. blind nine,
        by_one_changes,
        fresh (at 1) 2 refl,
      ),
      tt,
    )
        refl refl ((_, itself _, inl refl), tt) refl refl,
    (
      _,
      shows refl tt
          ((inr (inl refl), ltb-true _ _ refl, leb-true _ _ refl, refl), tt)
          refl refl ((_, itself _, inl refl), tt) refl refl,
      (
        _,
        shows refl tt
            ((inl refl, leb-true _ _ refl, leb-true _ _ refl, inl refl), tt)
            refl refl ((_, itself _, inr (inr (inl refl))), tt) refl refl,
        (
          _,
          shows refl tt (
            (inr (inr (inl refl)), refl, inl refl, noted_behind [] 0 131073 131073 true (λ _. refl)),
            ((refl, noted (members 4) 1 1 (exactly 0 ∷ []) refl, refl, all_exact (exactly 0 ∷ []) refl), tt),
          )
              refl refl tt refl refl,
          (
            _,
            shows refl tt
                (inr (inr (inr (inr (inl refl)))), tt)
                refl refl tt refl refl,
            (
              _,
              shows refl tt (
                (inr (inr (inr (inl refl))), refl, inr (inl refl), noted_behind [] 1 131072 131073 false inexact),
                ((refl, noted (members 6) 1 0 (with_more 1 ∷ []) refl, refl), tt),
              )
                  refl refl tt refl refl,
              (
                _,
                shows refl tt
                    ((refl, refl, leased (members 7) (at 7) 0 refl, λ _. refl, fresh (at 7) 3 refl, refl), tt)
                    refl refl tt refl refl,
                tt,
              ),
            ),
          ),
        ),
      ),
    ),
  ),
)
  where
    at : ℕ → RegisterState
    at k = project key (trace_at 2 val_kept k)

    members : ℕ → ℕ → List ℕ
    members k = family (trace_at 2 val_kept k).world.views

pub left_invalid_shows : LeftInvalid
left_invalid_shows = (
  _,
  shows refl tt (
    (
      refl,
      refl,
      leased (members 0) (at 0) 0 refl,
      ltb-true _ _ refl,
      refl,
      refl,
      refl,
      λ _. blind five,
      by_zero_changes,
      fresh (at 0) 1 refl,
    ),
    tt,
  )
      refl refl ((_, itself _, inl refl), tt) refl refl,
  (
    _,
    shows refl tt (
      (
        refl,
        refl,
        leased (members 1) (at 1) 1 refl,
        ltb-true _ _ refl,
        refl,
        refl,
        refl,
        λ _. blind nine,
        by_one_changes,
        fresh (at 1) 2 refl,
      ),
      tt,
    )
        refl refl ((_, itself _, inl refl), tt) refl refl,
    (
      _,
      shows refl tt
          ((inl refl, leb-true _ _ refl, leb-true _ _ refl, inl refl), tt)
          refl refl ((_, itself _, inr (inr (inl refl))), tt) refl refl,
      (
        _,
        shows refl tt
            ((inl refl, ltb-true _ _ refl, leb-true _ _ refl, refl), tt)
            refl refl ((_, itself _, inl refl), tt) refl refl,
        (
          _,
          shows refl tt
              ((inr (inr (inr (inr (inl refl)))), refl, inr (inl refl), noted_behind [] 1 131072 131073 false inexact), tt)
              refl refl tt refl refl,
          (
            _,
            shows refl tt (
              (inr (inr (inr (inr (inr (inl refl))))), refl, inr (inr (inl refl)), noted_behind (with_more 1 ∷ []) 2 131072 131072 true (λ _. refl)),
              ((refl, noted (members 5) 1 0 (with_more 1 ∷ exactly 2 ∷ []) refl), tt),
            )
                refl refl tt refl refl,
            (
              _,
              shows refl tt
                  ((refl, fresh (at 6) 3 refl), tt)
                  refl refl tt refl refl,
              tt,
            ),
          ),
        ),
      ),
    ),
  ),
)
  where
    at : ℕ → RegisterState
    at k = project key (trace_at 3 left_invalid k)

    members : ℕ → ℕ → List ℕ
    members k = family (trace_at 3 left_invalid k).world.views

pub countered_shows : Countered
countered_shows = (
  _,
  shows refl tt (
    (
      refl,
      refl,
      leased (members 0) (at 0) 0 refl,
      ltb-true _ _ refl,
      refl,
      refl,
      refl,
      λ _. blind five,
      by_zero_changes,
      fresh (at 0) 1 refl,
    ),
    tt,
  )
      refl refl ((_, itself _, inl refl), tt) refl refl,
  (
    _,
    shows refl tt
        ((inl refl, ltb-true _ _ refl, leb-true _ _ refl, refl), tt)
        refl refl ((_, itself _, inl refl), tt) refl refl,
    (
      _,
      shows refl tt (
        (inr (inl refl), refl, inr (inl refl), noted_behind [] 1 131072 131072 true (λ _. refl)),
        ((refl, noted (members 2) 1 0 (exactly 1 ∷ []) refl, refl, all_exact (exactly 1 ∷ []) refl), tt),
      )
          refl refl tt refl refl,
      (
        _,
        shows refl tt
            ((inr (inr (inl refl)), refl), tt)
            refl refl tt refl refl,
        (
          _,
          shows refl tt (
            (
              refl,
              refl,
              leased (members 4) (at 4) 0 refl,
              ltb-true _ _ refl,
              refl,
              refl,
              refl,
              λ e. not_plain e,
              more_by_zero_changes,
              fresh (at 4) 2 refl,
            ),
            tt,
          )
              refl refl ((_, itself _, inl refl), tt) refl refl,
          (
            _,
            shows refl tt (
              (
                refl,
                refl,
                leased (members 5) (at 5) 1 refl,
                ltb-true _ _ refl,
                refl,
                refl,
                refl,
                λ e. not_plain e,
                more_by_one_changes,
                fresh (at 5) 3 refl,
              ),
              tt,
            )
                refl refl ((_, itself _, inl refl), tt) refl refl,
            (
              _,
              shows refl tt
                  ((inr (inr (inr (inl refl))), ltb-true _ _ refl, leb-true _ _ refl), tt)
                  refl refl tt refl refl,
              (
                _,
                shows refl tt
                    ((inr (inr (inr (inr (inl refl)))), ltb-true _ _ refl, leb-true _ _ refl, refl), tt)
                    refl refl ((_, itself _, inl refl), tt) refl refl,
                (
                  _,
                  shows refl tt (
                    (inr (inr (inr (inr (inr (inr (inl refl)))))), refl, inl refl, noted_behind [] 0 196609 196609 true (λ _. refl)),
                    ((refl, noted (members 8) 1 1 (exactly 0 ∷ []) refl, refl, all_exact (exactly 0 ∷ []) refl), tt),
                  )
                      refl refl tt refl refl,
                  tt,
                ),
              ),
            ),
          ),
        ),
      ),
    ),
  ),
)
  where
    at : ℕ → RegisterState
    at k = project key (trace_at 2 countered k)

    members : ℕ → ℕ → List ℕ
    members k = family (trace_at 2 countered k).world.views

pub replayed_shows : Replayed
replayed_shows = (
  _,
  shows refl tt (
    (
      refl,
      refl,
      leased (members 0) (at 0) 0 refl,
      ltb-true _ _ refl,
      refl,
      refl,
      refl,
      λ _. blind five,
      by_zero_changes,
      fresh (at 0) 1 refl,
    ),
    tt,
  )
      refl refl ((_, itself _, inl refl), tt) refl refl,
  (
    _,
    shows refl tt
        ((inl refl, ltb-true _ _ refl, leb-true _ _ refl, refl), tt)
        refl refl ((_, itself _, inl refl), tt) refl refl,
    (
      _,
      shows refl tt
          (tt, tt)
          refl refl tt refl refl,
      (
        _,
        shows refl tt
            (tt, tt)
            refl refl tt refl refl,
        (
          _,
          shows refl tt
              (tt, tt)
              refl refl tt refl refl,
          (
            _,
            shows refl tt
                (tt, tt)
                refl refl tt refl refl,
            (
              _,
              shows refl tt (
                (
                  ltb-true _ _ refl,
                  inl refl,
                  λ f _ low high. up_to_three (λ e. In (members 6 e) 1) (inr (inl refl)) (inl refl) (inl refl) f low high,
                  inr refl,
                ),
                tt,
              )
                  refl refl ((_, itself _, inl refl), tt) refl refl,
              (
                _,
                shows refl tt (
                  (
                    ltb-true _ _ refl,
                    inr (inl refl),
                    λ _ had _ _. absurd (no_view_yet had),
                    inl refl,
                  ),
                  tt,
                )
                    refl refl ((_, itself _, inl refl), tt) refl refl,
                (
                  _,
                  shows refl tt
                      ((refl, refl), tt)
                      refl refl tt refl refl,
                  (
                    _,
                    shows refl tt
                        (refl, tt)
                        refl refl tt refl refl,
                    (
                      _,
                      shows refl tt
                          ((inr (inr (inl refl)), ltb-true _ _ refl, leb-true _ _ refl, refl), tt)
                          refl refl ((_, itself _, inl refl), tt) refl refl,
                      (
                        _,
                        shows refl tt (
                          (inr (inr (inr (inr (inl refl)))), refl, inr (inl refl), noted_behind [] 2 131072 131072 true (λ _. refl)),
                          ((refl, noted (members 11) 3 1 (exactly 2 ∷ []) refl, refl, all_exact (exactly 2 ∷ []) refl), tt),
                        )
                            refl refl tt refl refl,
                        (
                          _,
                          shows refl tt
                              ((inr (inr (inr (inr (inr (inl refl))))), refl), tt)
                              refl refl tt refl refl,
                          tt,
                        ),
                      ),
                    ),
                  ),
                ),
              ),
            ),
          ),
        ),
      ),
    ),
  ),
)
  where
    at : ℕ → RegisterState
    at k = project key (trace_at 2 replayed k)

    members : ℕ → ℕ → List ℕ
    members k = family (trace_at 2 replayed k).world.views
