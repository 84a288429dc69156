-- What the code writes in place where one clock rises.
use Rattle.std.specs.Prelude.{ℕ, ◌-◌, ◌*◌, List, map, nat_lt, if◌then◌else◌}
use Rattle.std.specs.BTreeMap.{is_at}
use Rattle.std.specs.Map.{remove_entry, set_value}
use Rattle.hk_base.specs.declared.letter.Actor.{Actor}
use Rattle.hk_clocks.specs.declared.pace.Pace.{Pace}
use Rattle.hk_clocks.specs.Clocks.{Paces, by_actor, lead_over}

-- a lead that falls, and is kept where it is above 0 still
abbrev pub fallen : Actor → ℕ → List (Actor × ℕ) → List (Actor × ℕ)
fallen other by leads =
    if nat_lt by (lead_over leads other) then set_value (is_at (by_actor other)) leads (lead_over leads other - by)
    else remove_entry (is_at (by_actor other)) leads

abbrev pub falls : Actor → ℕ → Pace → Pace
falls other risen pace = record pace { leads = fallen other (1100 * risen) pace.leads }

-- all leads over the actor fall, and its own clock and leads are written
abbrev pub written : Actor → ℕ → Pace → Paces → Paces
written actor risen pace paces = set_value (is_at (by_actor actor)) (map (λ p. (p.0, falls actor risen p.1)) paces) pace
