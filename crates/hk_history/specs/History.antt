-- What a history says of a call, which goes by its number.
use Rattle.std.specs.Prelude.{ℕ, ◌<◌, ◌≤◌, List, [], ◌∷◌, Option, None, Some, ◌==◌, Bool, true, false, if◌then◌else◌, IsTrue, count_by}
use Rattle.std.specs.List.{position_or_len, list_any}
use Rattle.hk_base.specs.declared.call.Op.{Op}
use Rattle.hk_base.specs.declared.call.Answer.{Answer}
use Rattle.hk_base.specs.declared.call.Answer.TheVariants.{Busy, Aborted, Exhausted}
use Rattle.hk_history.specs.declared.event.Event.{Event}
use Rattle.hk_history.specs.declared.event.Event.TheVariants.{Call, Reply}

-- the operation of a call, if it is one of the history
abbrev pub op_of : List Event → ℕ → Option Op
op_of [] n = None
op_of (Call c op ∷ rest) n = if c.0 == n then Some op else op_of rest n
op_of (Reply c answer ∷ rest) n = op_of rest n

-- its answer, if it has a reply
abbrev pub answer_of : List Event → ℕ → Option Answer
answer_of [] n = None
answer_of (Call c op ∷ rest) n = answer_of rest n
answer_of (Reply c answer ∷ rest) n = if c.0 == n then Some answer else answer_of rest n

-- whether an event is the beginning of the call, or its reply
abbrev pub is_call : ℕ → Event → Bool
is_call n (Call c op) = c.0 == n
is_call n (Reply c answer) = false

abbrev pub is_reply : ℕ → Event → Bool
is_reply n (Call c op) = false
is_reply n (Reply c answer) = c.0 == n

-- what passes the one test first stands before what passes the other first
abbrev pub Before : {X : Type 0} → (X → Bool) → (X → Bool) → List X → Type 0
Before earlier later xs = position_or_len earlier xs < position_or_len later xs

-- Calls are of four kinds, by their answer. A call is void where it was Busy or Exhausted: nothing was begun;
abbrev pub is_void : Option Answer → Bool
is_void None = false
is_void (Some (Busy why)) = true
is_void (Some (Exhausted s)) = true
is_void (Some answer) = false

-- it is unsure where it was Aborted, or is open, with no reply: it may have acted, or may act yet;
abbrev pub is_unsure : Option Answer → Bool
is_unsure None = true
is_unsure (Some (Aborted s)) = true
is_unsure (Some answer) = false

-- any other is answered: it did what its answer says.
abbrev pub is_answered : Option Answer → Bool
is_answered None = false
is_answered (Some (Busy why)) = false
is_answered (Some (Exhausted s)) = false
is_answered (Some (Aborted s)) = false
is_answered (Some answer) = true

-- Each number is called once, and has at most one reply, which follows its call.
pub record IsHistory (history : List Event) : Type 0 where
  pub called_once : (n : ℕ) → count_by (is_call n) history ≤ 1
  pub replied_once : (n : ℕ) → count_by (is_reply n) history ≤ 1
  pub follows : (n : ℕ) → IsTrue (list_any (is_reply n) history) → Before (is_call n) (is_reply n) history
