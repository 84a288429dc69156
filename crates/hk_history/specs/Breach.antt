-- Which rule an order breaks first, and at which calls.
use Rattle.std.specs.Prelude.{◌≡◌, ◌⊎◌, ℕ, ◌<◌, ◌≤◌, List, None, Result, Ok, Err, IsTrue, ⊤, count_by}
use Rattle.hk_base.specs.Register.{first}
use Rattle.hk_history.specs.declared.event.Event.{Event}
use Rattle.hk_history.specs.declared.event.Entry.{Entry}
use Rattle.hk_history.specs.declared.fault.Rule.{Rule}
use Rattle.hk_history.specs.declared.fault.Rule.TheVariants.{Twice, Void, Lacking, Stranger, Early}
use Rattle.hk_history.specs.declared.fault.CheckFault.{CheckFault}
use Rattle.hk_history.specs.declared.fault.CheckFault.TheVariants.{Memory, Breach}
use Rattle.hk_history.specs.History.{op_of, answer_of, is_call, is_reply, Before, is_void, is_answered}
use Rattle.hk_history.specs.Legal.{Stands, is_entry, Legal}
use Rattle.hk_history.specs.Fold.{FailsFrom}

-- a stands no earlier than b, though a was answered before b began
pub record IsEarly (history : List Event) (order : List Entry) (a b : ℕ) : Type 0 where
  pub first_stands : Stands order a
  pub second_stands : Stands order b
  pub answered : IsTrue (is_answered (answer_of history a))
  pub began_after : Before (is_reply a) (is_call b) history
  pub stands_before : ¬ Before (is_entry a) (is_entry b) order

-- The order breaks the rule at the calls a and b, which are one call where the rule concerns one.
abbrev pub Breaks : Rule → List Event → List Entry → ℕ → ℕ → Type 0
Breaks Stranger history order a b = (a ≡ b) × Stands order a × (op_of history a ≡ None)
Breaks Twice history order a b = (a ≡ b) × (1 < count_by (is_entry a) order)
Breaks Void history order a b = (a ≡ b) × Stands order a × IsTrue (is_void (answer_of history a))
Breaks Lacking history order a b = (a ≡ b) × IsTrue (is_answered (answer_of history a)) × ¬ Stands order a
Breaks Early history order a b = IsEarly history order a b
Breaks rule history order a b = (a ≡ b) × FailsFrom rule history first None order a

-- the order in which the rules are looked at, where those of the fold are one
abbrev pub rank : Rule → ℕ
rank Stranger = 0
rank Twice = 1
rank Void = 2
rank Lacking = 3
rank Early = 4
rank rule = 5

-- The rule is the first that is broken, and of the calls at which it is broken these have the least numbers.
pub record IsBreach (history : List Event) (order : List Entry) (rule : Rule) (a b : ℕ) : Type 0 where
  pub breaks : Breaks rule history order a b
  pub least : (c d : ℕ) → Breaks rule history order c d → (a < c) ⊎ ((a ≡ c) × (b ≤ d))
  pub first : (other : Rule) → rank other < rank rule → (c d : ℕ) → ¬ Breaks other history order c d

-- What a check tells: nothing exactly where the order is legal, and else its first breach; want of memory says nothing.
abbrev pub IsChecked : Result (Unit {0}) CheckFault → List Event → List Entry → Type 0
IsChecked (Ok checked) history order = Legal history order
IsChecked (Err Memory) history order = ⊤
IsChecked (Err (Breach rule a b)) history order = ¬ Legal history order × IsBreach history order rule a b
