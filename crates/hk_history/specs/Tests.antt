-- Tests of one call against a history and an order, as the code makes them. What they mean stands in History, Legal
-- and Breach, and is proved of them.
use Rattle.std.specs.Prelude.{◌≡◌, ◌≤◌, slice_index, ℕ, List, ◌&&◌, ◌||◌, not, count_by, nat_lt, nat_le, min, length, drop, Bool, [], ◌∷◌, ◌+◌}
use Rattle.std.specs.List.{list_any, position_or_len}
use Rattle.hk_history.specs.declared.event.Event.{Event}
use Rattle.hk_history.specs.declared.event.Event.TheVariants.{Call, Reply}
use Rattle.hk_history.specs.declared.event.Entry.{Entry}
use Rattle.hk_history.specs.History.{answer_of, is_answered, is_call, is_reply}
use Rattle.hk_history.specs.Legal.{is_entry}

-- the call is answered, and does not stand
unfoldable pub lacks : List Event → List Entry → ℕ → Bool
lacks history order n = is_answered (answer_of history n) && not (list_any (is_entry n) order)

-- where in the order the call stands that an event begins, or the order's length
abbrev pub begun_place : List Entry → Event → ℕ
begun_place order (Call c op) = position_or_len (is_entry c.0) order
begun_place order (Reply c answer) = length order

-- the least place in the order of the calls that begin in these events, or the order's length
abbrev pub nearest : List Entry → List Event → ℕ
nearest order [] = length order
nearest order (event ∷ rest) = min (begun_place order event) (nearest order rest)

-- this for each rest of the history
pub record IsNearest (places : List ℕ) (history : List Event) (order : List Entry) : Type 0 where
  pub long : length places ≡ length history + 1
  pub known : (k : ℕ) → k ≤ length history → slice_index places k ≡ nearest order (drop k history)

-- the call is answered and stands, and a call that began after its reply stands no later
unfoldable pub is_overtaken : List Event → List Entry → ℕ → Bool
is_overtaken history order n =
    is_answered (answer_of history n) && list_any (is_entry n) order
    && nat_le (nearest order (drop (position_or_len (is_reply n) history + 1) history)) (position_or_len (is_entry n) order)

-- the call b began after the reply of a, and stands no later
unfoldable pub overtakes : List Event → List Entry → ℕ → ℕ → Bool
overtakes history order a b =
    nat_lt (position_or_len (is_reply a) history) (position_or_len (is_call b) history)
    && nat_le (position_or_len (is_entry b) order) (position_or_len (is_entry a) order)

-- the number is called once at most, and has at most one reply, which follows
unfoldable pub is_single : List Event → ℕ → Bool
is_single history n =
    nat_le (count_by (is_call n) history) 1 && nat_le (count_by (is_reply n) history) 1
    && (not (list_any (is_reply n) history) || nat_lt (position_or_len (is_call n) history) (position_or_len (is_reply n) history))
