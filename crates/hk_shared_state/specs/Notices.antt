-- When a refusal is told, who is gone or back, and which lines are written. Readings are in milliseconds.
use Rattle.std.specs.Prelude.{ℕ, ◌-◌, Bool, true, false, ◌&&◌, nat_le, if◌then◌else◌, Option, None, Some}
use Rattle.hk_host_words.specs.declared.verbosity.Verbosity.{Verbosity}
use Rattle.hk_host_words.specs.declared.verbosity.Verbosity.TheVariants as verbosities
use Rattle.hk_shared_state.specs.declared.notices.Told.{Told}
use Rattle.hk_shared_state.specs.declared.notices.Presence.{Presence}
use Rattle.hk_shared_state.specs.declared.notices.Presence.TheVariants as presences
use Rattle.hk_shared_state.specs.declared.telling.Level.{Level}
use Rattle.hk_shared_state.specs.declared.telling.Level.TheVariants as levels
use Rattle.hk_shared_state.specs.declared.notices.TheConstants.{MINUTE}

-- from when on somebody is refused who is refused now
abbrev pub since : Option ℕ → ℕ → ℕ
since None now = now
since (Some first) now = first

-- it was never told, or a minute ago at least
abbrev pub is_minute_past : Option ℕ → ℕ → Bool
is_minute_past None now = true
is_minute_past (Some at) now = nat_le MINUTE (now - at)

-- A refusal of now is to be told: for a lease there were only refusals, and none was told within a minute.
abbrev pub is_due : ℕ → ℕ → Told → Bool
is_due lease now told = nat_le lease (now - since told.since now) && is_minute_past told.at now

-- a refusal came
abbrev pub refused_by : ℕ → ℕ → Told → Told
refused_by lease now told = record {
  since = Some (since told.since now);
  at = if is_due lease now told then Some now else told.at;
}

-- something else came
abbrev pub taken_by : Told → Told
taken_by told = record told { since = None }

-- ---- who is gone, or back

abbrev pub is_gone : Presence → Bool
is_gone presences.Unseen = false
is_gone (presences.There at) = false
is_gone presences.Gone = true

-- it was there, and has not shown for so long
abbrev pub is_over : ℕ → ℕ → Presence → Bool
is_over within now presences.Unseen = false
is_over within now (presences.There at) = nat_le within (now - at)
is_over within now presences.Gone = false

-- it did not show
abbrev pub missed_by : ℕ → ℕ → Presence → Presence
missed_by within now presence = if is_over within now presence then presences.Gone else presence

-- ---- which lines are written

-- A quiet process writes errors alone. What else happens on the way is written by a verbose one.
abbrev pub is_wanted : Verbosity → Level → Bool
is_wanted verbosities.Quiet levels.Error = true
is_wanted verbosities.Quiet levels.Warning = false
is_wanted verbosities.Quiet levels.Info = false
is_wanted verbosities.Quiet levels.Debug = false
is_wanted verbosities.Usual levels.Error = true
is_wanted verbosities.Usual levels.Warning = true
is_wanted verbosities.Usual levels.Info = true
is_wanted verbosities.Usual levels.Debug = false
is_wanted verbosities.Verbose level = true
