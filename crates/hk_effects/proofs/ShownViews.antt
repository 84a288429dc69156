-- The same of the worked worlds in which a view is installed or rows are copied.
use Rattle.std.proofs.Common.{ℕ, true, List, [], ◌∷◌, refl, inl, inr}
use Rattle.std.proofs.lemmas.Bool.{leb-true, ltb-true}
use Rattle.hk_register.specs.Machine.{In, RegisterState}
use Rattle.hk_register.specs.Worked.{five, exactly}
use Rattle.hk_register.proofs.Worked.{blind, fresh, leased, noted, all_exact}
use Rattle.hk_world.specs.Worked.{key}
use Rattle.hk_effects.specs.Projection.{project}
use Rattle.hk_effects.specs.Orders.{family}
use Rattle.hk_effects.specs.Worked.{pending_installed, left_alone, view_begun, joined, copied_valid, passed}
use Rattle.hk_effects.specs.Worked.{PendingInstalled, LeftAlone, ViewBegun, Joined, CopiedValid, Passed}
use Rattle.hk_effects.proofs.Shows.{trace_with, trace_at, room_of_one, room_of_nine, lease_end, later, a_manager, no_view_yet, up_to_two, up_to_three, by_zero_changes, shows, itself, noted_behind}

pub pending_installed_shows : PendingInstalled
pending_installed_shows = (
  _,
  shows refl tt (
    (
      refl,
      refl,
      leased (members 0) (at 0) 0 refl,
      ltb-true _ _ refl,
      refl,
      refl,
      refl,
      λ _. blind five,
      by_zero_changes,
      fresh (at 0) 1 refl,
    ),
    tt,
  )
      refl refl ((_, itself _, inl refl), tt) refl refl,
  (
    _,
    shows refl tt
        (tt, tt)
        refl refl tt refl refl,
    (
      _,
      shows refl tt
          (tt, tt)
          refl refl tt refl refl,
      (
        _,
        shows refl tt
            (tt, tt)
            refl refl tt refl refl,
        (
          _,
          shows refl tt (
            (
              ltb-true _ _ refl,
              inl refl,
              λ f _ low high. up_to_three (λ e. In (members 4 e) 0) (inl refl) (inl refl) (inl refl) f low high,
              refl,
            ),
            tt,
          )
              refl refl ((_, itself _, inl refl), ((_, itself _, inr (inl refl)), tt)) refl refl,
          tt,
        ),
      ),
    ),
  ),
)
  where
    at : ℕ → RegisterState
    at k = project key (trace_at 2 pending_installed k)

    members : ℕ → ℕ → List ℕ
    members k = family (trace_at 2 pending_installed k).world.views

pub left_alone_shows : LeftAlone
left_alone_shows = (
  _,
  shows refl tt (
    (
      refl,
      refl,
      leased (members 0) (at 0) 0 refl,
      ltb-true _ _ refl,
      refl,
      refl,
      refl,
      λ _. blind five,
      by_zero_changes,
      fresh (at 0) 1 refl,
    ),
    tt,
  )
      refl refl ((_, itself _, inl refl), tt) refl refl,
  (
    _,
    shows refl tt
        (tt, tt)
        refl refl tt refl refl,
    (
      _,
      shows refl tt
          (tt, tt)
          refl refl tt refl refl,
      (
        _,
        shows refl tt (
          (
            ltb-true _ _ refl,
            inl refl,
            λ f _ low high. up_to_two (λ e. In (members 3 e) 0) (inl refl) (inl refl) f low high,
            refl,
          ),
          ((refl, noted (members 3) 2 0 [] refl, refl, all_exact [] refl), tt),
        )
            refl refl ((_, itself _, inl refl), ((_, itself _, inr (inl refl)), tt)) refl refl,
        tt,
      ),
    ),
  ),
)
  where
    at : ℕ → RegisterState
    at k = project key (trace_at 2 left_alone k)

    members : ℕ → ℕ → List ℕ
    members k = family (trace_at 2 left_alone k).world.views

pub view_begun_shows : ViewBegun
view_begun_shows = (
  _,
  shows refl tt (
    (
      refl,
      refl,
      leased (members 0) (at 0) 0 refl,
      ltb-true _ _ refl,
      refl,
      refl,
      refl,
      λ _. blind five,
      by_zero_changes,
      fresh (at 0) 1 refl,
    ),
    tt,
  )
      refl refl ((_, itself _, inl refl), tt) refl refl,
  (
    _,
    shows refl a_manager (tt, tt) refl refl tt refl refl,
    (
      _,
      shows refl tt (tt, tt) refl refl tt refl refl,
      (
        _,
        shows refl tt (tt, tt) refl refl tt refl refl,
        (
          _,
          shows refl tt (tt, tt) refl refl tt refl refl,
          (
            _,
            shows refl tt (tt, tt) refl refl tt refl refl,
            (
              _,
              shows refl later (tt, tt) refl refl tt refl refl,
              (
                _,
                shows refl a_manager (tt, tt) refl refl tt refl refl,
                (
                  _,
                  shows refl tt (
                    (
                      ltb-true _ _ refl,
                      inl refl,
                      λ f _ low high. up_to_two (λ e. In (members 8 e) 0) (inl refl) (inl refl) f low high,
                      refl,
                    ),
                    ((refl, noted (members 8) 2 0 [] refl, refl, all_exact [] refl), tt),
                  )
                      refl refl ((_, itself _, inl refl), ((_, itself _, inr (inl refl)), tt)) refl refl,
                  (
                    _,
                    shows refl a_manager (tt, tt) refl refl tt refl refl,
                    (
                      _,
                      shows refl tt (tt, tt) refl refl tt refl refl,
                      (
                        _,
                        shows refl tt (tt, tt) refl refl tt refl refl,
                        (
                          _,
                          shows refl tt ((refl, refl, leased (members 12) (at 12) 0 refl, λ _. refl, fresh (at 12) 2 refl, refl), tt) refl refl tt refl refl,
                          tt,
                        ),
                      ),
                    ),
                  ),
                ),
              ),
            ),
          ),
        ),
      ),
    ),
  ),
)
  where
    at : ℕ → RegisterState
    at k = project key (trace_with 2 1 view_begun k)

    members : ℕ → ℕ → List ℕ
    members k = family (trace_with 2 1 view_begun k).world.views

pub joined_shows : Joined
joined_shows = (
  _,
  shows refl tt (
    (
      refl,
      refl,
      leased (members 0) (at 0) 0 refl,
      ltb-true _ _ refl,
      refl,
      refl,
      refl,
      λ _. blind five,
      by_zero_changes,
      fresh (at 0) 1 refl,
    ),
    ((refl, noted (members 0) 1 0 [] refl, refl, all_exact [] refl), tt),
  )
      refl refl ((_, itself _, inl refl), tt) refl refl,
  (
    _,
    shows refl tt
        (tt, tt)
        refl refl tt refl refl,
    (
      _,
      shows refl tt
          (tt, tt)
          refl refl tt refl refl,
      (
        _,
        shows refl tt
            (tt, tt)
            refl refl tt refl refl,
        (
          _,
          shows refl tt (
            (
              ltb-true _ _ refl,
              inr (inl refl),
              λ _ had _ _. absurd (no_view_yet had),
              inl refl,
            ),
            tt,
          )
              refl refl ((_, itself _, inl refl), tt) refl refl,
          (
            _,
            shows refl tt (
              (
                ltb-true _ _ refl,
                inl refl,
                λ f _ low high. up_to_two (λ e. In (members 5 e) 0) (inl refl) (inl refl) f low high,
                inl refl,
              ),
              tt,
            )
                refl refl ((_, itself _, inl refl), tt) refl refl,
            (
              _,
              shows refl room_of_one
                  (tt, tt)
                  refl refl tt refl refl,
              (
                _,
                shows refl tt
                    ((refl, λ _. refl), tt)
                    refl refl tt refl refl,
                (
                  _,
                  shows refl tt
                      ((inl refl, leb-true _ _ refl, ltb-true _ _ refl), tt)
                      refl refl ((_, itself _, inl refl), tt) refl refl,
                  (
                    _,
                    shows refl room_of_one
                        (tt, tt)
                        refl refl tt refl refl,
                    (
                      _,
                      shows refl tt
                          (tt, tt)
                          refl refl tt refl refl,
                      (
                        _,
                        shows refl tt
                            ((leb-true _ _ refl, refl, inl refl), tt)
                            refl refl ((_, itself _, inl refl), tt) refl refl,
                        (
                          _,
                          shows refl lease_end
                              (tt, tt)
                              refl refl tt refl refl,
                          (
                            _,
                            shows refl tt
                                ((refl, refl, leased (members 13) (at 13) 1 refl, λ _. refl, fresh (at 13) 3 refl, refl), tt)
                                refl refl tt refl refl,
                            tt,
                          ),
                        ),
                      ),
                    ),
                  ),
                ),
              ),
            ),
          ),
        ),
      ),
    ),
  ),
)
  where
    at : ℕ → RegisterState
    at k = project key (trace_at 1 joined k)

    members : ℕ → ℕ → List ℕ
    members k = family (trace_at 1 joined k).world.views

pub copied_valid_shows : CopiedValid
copied_valid_shows = (
  _,
  shows refl tt
      (tt, tt)
      refl refl tt refl refl,
  (
    _,
    shows refl tt
        (tt, tt)
        refl refl tt refl refl,
    (
      _,
      shows refl tt (
        (
          ltb-true _ _ refl,
          inr (inl refl),
          λ _ had _ _. absurd (no_view_yet had),
          inl refl,
        ),
        tt,
      )
          refl refl ((_, itself _, inl refl), tt) refl refl,
      (
        _,
        shows refl tt (
          (
            ltb-true _ _ refl,
            inl refl,
            λ f _ low high. up_to_two (λ e. In (members 3 e) 0) (inl refl) (inl refl) f low high,
            inl refl,
          ),
          tt,
        )
            refl refl ((_, itself _, inl refl), tt) refl refl,
        (
          _,
          shows refl tt (
            (
              refl,
              refl,
              leased (members 4) (at 4) 0 refl,
              ltb-true _ _ refl,
              refl,
              refl,
              refl,
              λ _. blind five,
              by_zero_changes,
              fresh (at 4) 1 refl,
            ),
            tt,
          )
              refl refl ((_, itself _, inl refl), tt) refl refl,
          (
            _,
            shows refl tt
                ((inl refl, ltb-true _ _ refl, leb-true _ _ refl, refl), tt)
                refl refl ((_, itself _, inl refl), tt) refl refl,
            (
              _,
              shows refl room_of_nine
                  (tt, tt)
                  refl refl tt refl refl,
              (
                _,
                shows refl tt (
                  (inr (inl refl), refl, inr (inl refl), noted_behind [] 1 131072 131072 true (λ _. refl)),
                  ((refl, noted (members 7) 2 0 (exactly 1 ∷ []) refl, refl, all_exact (exactly 1 ∷ []) refl), tt),
                )
                    refl refl tt refl refl,
                (
                  _,
                  shows refl tt
                      ((refl, λ _. refl), tt)
                      refl refl tt refl refl,
                  (
                    _,
                    shows refl tt (
                      (inr (inr (inr (inl refl))), leb-true _ _ refl, refl),
                      ((leb-true _ _ refl, refl, inl refl), tt),
                    )
                        refl refl ((_, itself _, inl refl), tt) refl refl,
                    tt,
                  ),
                ),
              ),
            ),
          ),
        ),
      ),
    ),
  ),
)
  where
    at : ℕ → RegisterState
    at k = project key (trace_at 1 copied_valid k)

    members : ℕ → ℕ → List ℕ
    members k = family (trace_at 1 copied_valid k).world.views

pub passed_shows : Passed
passed_shows = (
  _,
  shows refl tt
      (tt, tt)
      refl refl tt refl refl,
  (
    _,
    shows refl tt
        (tt, tt)
        refl refl tt refl refl,
    (
      _,
      shows refl tt (
        (
          ltb-true _ _ refl,
          inr (inl refl),
          λ _ had _ _. absurd (no_view_yet had),
          inl refl,
        ),
        tt,
      )
          refl refl ((_, itself _, inl refl), tt) refl refl,
      (
        _,
        shows refl tt (
          (
            ltb-true _ _ refl,
            inl refl,
            λ f _ low high. up_to_two (λ e. In (members 3 e) 0) (inl refl) (inl refl) f low high,
            inl refl,
          ),
          tt,
        )
            refl refl ((_, itself _, inl refl), tt) refl refl,
        (
          _,
          shows refl room_of_nine
              (tt, tt)
              refl refl tt refl refl,
          (
            _,
            shows refl tt
                ((refl, λ _. refl), tt)
                refl refl tt refl refl,
            (
              _,
              shows refl tt (
                (
                  refl,
                  refl,
                  leased (members 6) (at 6) 0 refl,
                  ltb-true _ _ refl,
                  refl,
                  refl,
                  refl,
                  λ _. blind five,
                  by_zero_changes,
                  fresh (at 6) 1 refl,
                ),
                tt,
              )
                  refl refl ((_, itself _, inl refl), tt) refl refl,
              (
                _,
                shows refl tt
                    ((inr (inl refl), ltb-true _ _ refl, leb-true _ _ refl, refl), tt)
                    refl refl ((_, itself _, inl refl), tt) refl refl,
                (
                  _,
                  shows refl tt (
                    (inl refl, leb-true _ _ refl, leb-true _ _ refl),
                    ((leb-true _ _ refl, refl, inr refl), tt),
                  )
                      refl refl ((_, itself _, inl refl), tt) refl refl,
                  tt,
                ),
              ),
            ),
          ),
        ),
      ),
    ),
  ),
)
  where
    at : ℕ → RegisterState
    at k = project key (trace_at 1 passed k)

    members : ℕ → ℕ → List ℕ
    members k = family (trace_at 1 passed k).world.views
