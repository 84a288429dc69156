-- The clocks of all live actors, and by how much each has run ahead of each other one.
use Rattle.std.specs.Prelude.{ℕ, List, Option, unwrap_or}
use Rattle.std.specs.declared.cmp.Ordering.{Ordering}
use Rattle.std.specs.declared.cmp.Ordering.TheVariants.{Less, Greater}
use Rattle.std.specs.Ordering.{nat_cmp}
use Rattle.std.specs.Option.{option_map}
use Rattle.std.specs.BTreeMap.{is_at}
use Rattle.std.specs.Map.{lookup}
use Rattle.hk_base.specs.declared.letter.Actor.{Actor}
use Rattle.hk_base.specs.declared.letter.Actor.TheVariants.{Node, Manager}
use Rattle.hk_clocks.specs.declared.pace.Pace.{Pace}

-- nodes before managers, each in rising order
abbrev pub by_actor : Actor → Actor → Ordering
by_actor (Node a) (Node b) = nat_cmp a.0 b.0
by_actor (Node a) (Manager m) = Less
by_actor (Manager m) (Node b) = Greater
by_actor (Manager m) (Manager k) = nat_cmp m k

-- each live actor with its clock and its leads, in rising order
abbrev pub Paces : Type 0
Paces = List (Actor × Pace)

pub record ClockState : Type 0 where
  -- by how much one clock may run ahead of another, beside the rate, in milliseconds
  pub skew : ℕ
  pub paces : Paces

abbrev pub pace_of : Paces → Actor → Option Pace
pace_of paces a = lookup (is_at (by_actor a)) paces

-- the clock of a live actor
abbrev pub clock_of : Paces → Actor → Option ℕ
clock_of paces a = option_map (λ pace. pace.clock) (pace_of paces a)

-- a lead, by the leads that are kept: those above 0
abbrev pub lead_over : List (Actor × ℕ) → Actor → ℕ
lead_over leads b = unwrap_or (lookup (is_at (by_actor b)) leads) 0
