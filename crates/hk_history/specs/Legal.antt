-- When an order of calls is legal for a history: linearizability of one key (Herlihy and Wing, 1990), where calls may
-- also have been refused, given up or left without a reply.
use Rattle.std.specs.Prelude.{◌≡◌, ℕ, List, [], ◌∷◌, map, Option, Some, ◌==◌, nat_eq, Bool, false, IsTrue, is_some, unwrap_or, ⊤, MatchOption}
use Rattle.std.specs.List.{list_any, filter_map, IsDistinct}
use Rattle.std.specs.List.Sorted.{IsStrictlyIncreasing}
use Rattle.hk_base.specs.declared.call.Answer.{Answer}
use Rattle.hk_base.specs.Register.{Register, first, act, Acted}
use Rattle.hk_history.specs.declared.event.Event.{Event}
use Rattle.hk_history.specs.declared.event.Entry.{Entry}
use Rattle.hk_history.specs.History.{op_of, answer_of, is_call, is_reply, Before, is_void, is_unsure, is_answered}

abbrev pub is_entry : ℕ → Entry → Bool
is_entry n entry = entry.call.0 == n

-- the call stands in the order
abbrev pub Stands : List Entry → ℕ → Type 0
Stands order n = IsTrue (list_any (is_entry n) order)

-- the calls of an order, by number, and the tags of its changes
abbrev pub calls_of : List Entry → List ℕ
calls_of order = map (λ entry. entry.call.0) order

abbrev pub tags_of : List Entry → List ℕ
tags_of order = filter_map (λ entry. entry.tag) order

-- What an entry does to the register fits its call: an answered call was given this answer, an unsure one changes the
-- register, and the entry has a tag exactly where the register changes.
pub record FitsCall (answer : Option Answer) (tag : Option ℕ) (done : Acted) : Type 0 where
  pub answered : IsTrue (is_answered answer) → answer ≡ Some done.answer
  pub unsure : IsTrue (is_unsure answer) → IsTrue done.changed
  pub tagged : is_some tag ≡ done.changed

-- the entries fit, one after the other, from a register on; an entry's tag is the register's new one
abbrev pub FitsFrom : List Event → Register → List Entry → Type 0
FitsFrom history register [] = ⊤
FitsFrom history register (entry ∷ order) = MatchOption (op_of history entry.call.0) ⊥ (λ op.
    FitsCall (answer_of history entry.call.0) entry.tag (act op register (unwrap_or entry.tag 0))
    × FitsFrom history (act op register (unwrap_or entry.tag 0)).register order)

-- The operations, acting in this order on one register, give each answered call its answer.
abbrev pub Fits : List Event → List Entry → Type 0
Fits history order = FitsFrom history first order

-- No call stands twice, each that stands is one of the history and not void, each answered one stands, and the tags
-- of changes rise strictly.
pub record Once (history : List Event) (order : List Entry) : Type 0 where
  pub distinct : IsDistinct nat_eq (calls_of order)
  pub known : (n : ℕ) → Stands order n → IsTrue (is_some (op_of history n))
  pub not_void : (n : ℕ) → Stands order n → is_void (answer_of history n) ≡ false
  pub answered : (n : ℕ) → IsTrue (is_answered (answer_of history n)) → Stands order n
  pub rising : IsStrictlyIncreasing (tags_of order)

-- A call that was answered before another began stands before it.
abbrev pub Timely : List Event → List Entry → Type 0
Timely history order = (a b : ℕ) → Stands order a → Stands order b → IsTrue (is_answered (answer_of history a))
    → Before (is_reply a) (is_call b) history → Before (is_entry a) (is_entry b) order

-- The order is one in which a single register could have served these calls.
pub record Legal (history : List Event) (order : List Entry) : Type 0 where
  pub fits : Fits history order
  pub once : Once history order
  pub timely : Timely history order
