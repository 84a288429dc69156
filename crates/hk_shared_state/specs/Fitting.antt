-- Which words a process may be of.
use Rattle.std.specs.Prelude.{◌≡◌, ◌≤◌, ℕ, Bool, true, nat_lt, List, Option, None, Some}
use Rattle.hk_hello.specs.Hellos.{IsGroupName}
use Rattle.hk_inside.specs.Parts.{IsText}

-- a host that has a manager is one of so many, counted from 0
abbrev pub is_place_below : ℕ → Option ℕ → Bool
is_place_below count None = true
is_place_below count (Some place) = nat_lt place count

-- The group has a name and 1 to 9 hosts, this host is one of them if it has a manager, and the addresses of the process
-- are texts that stand in a message. All that a process says to others of itself is in range by this.
pub record Fits (name : List ℕ) (hosts : ℕ) (own : Option ℕ) (inside clients : List ℕ) : Type 0 where
  pub group : IsGroupName name
  pub some : 1 ≤ hosts
  pub few : hosts ≤ 9
  pub place : is_place_below hosts own ≡ true
  pub inside_is : IsText inside
  pub clients_is : IsText clients
