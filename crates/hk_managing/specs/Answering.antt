-- When a manager may wish, by when a majority of the managers answered it.
use Rattle.std.specs.Prelude.{ℕ, ◌+◌, ◌*◌, ◌-◌, ◌/◌, min, max, Bool, true, false, nat_le, Option, None, Some}
use Rattle.hk_managing.specs.declared.answers.Answers.{Answers}
use Rattle.hk_managing.specs.declared.answers.Answers.TheVariants.{Silent, Answering}
use Rattle.hk_managing.specs.declared.answers.TheConstants.{FIRST_WISH, FIRST_BEATS}

-- For how long whoever could not reach this host may let pass before it tries again: as long as that lasted, a second at most. `since` is since when no majority answers, None
-- where none did since the process began, which may have been away for long.
abbrev pub pause : ℕ → Option ℕ → ℕ
pause now None = FIRST_WISH
pause now (Some since) = min FIRST_WISH (now - since)

-- A majority answers again. It wishes once that and some beats more have gone by, in which it hears of who lives; and no sooner than it was to before.
abbrev pub wishes_from : ℕ → ℕ → Option ℕ → ℕ → ℕ
wishes_from beat now since not_before = max not_before (now + pause now since + FIRST_BEATS * beat)

-- it looks whether a majority answered what was asked within the last half of a lease
abbrev pub heard : ℕ → ℕ → ℕ → Bool → Answers → Answers
heard lease beat now true (Silent since not_before) = Answering (wishes_from beat now since not_before)
heard lease beat now true (Answering from) = Answering from
heard lease beat now false (Silent since not_before) = Silent since not_before
heard lease beat now false (Answering from) = Silent (Some (now - lease / 2)) from

abbrev pub may_wish : ℕ → Answers → Bool
may_wish now (Silent since not_before) = false
may_wish now (Answering from) = nat_le from now
