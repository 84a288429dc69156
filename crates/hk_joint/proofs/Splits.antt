-- A reply that stands before a call is shown by an event before the call's.
use Rattle.std.proofs.Common.{◌≡◌, ℕ, zero, suc, Bool, true, false, cond, ◌+◌, ◌||◌, not, List, [], ◌∷◌, ◌++◌, map, length, take, ◌<◌, ◌≤◌, ◌∙◌, sym, refl, ap, arith, Option, Some, None, Result, Ok, Err, eqb, append-nil}
use Rattle.std.specs.List.{list_any, position_or_len}
use Rattle.std.proofs.lemmas.Bool.{false≢true}
use Rattle.hk_base.specs.declared.call.CallNo.{CallNo}
use Rattle.hk_base.specs.declared.call.Reply.{Reply}
use Rattle.hk_history.specs.declared.event.Event.{Event as HistoryEvent}
use Rattle.hk_history.specs.History.{is_call, is_reply}
use Rattle.hk_event.specs.declared.event.Event.{Event}
use Rattle.hk_event.specs.declared.event.Event.TheVariants.{Call}
use Rattle.hk_event.specs.declared.refused.Refused.{Refused}
use Rattle.hk_world.specs.World.{WorldState}
use Rattle.hk_world.specs.Steps.{Accepted, world_step}
use Rattle.hk_safety.specs.Run.{world_with}
use Rattle.hk_safety.specs.Shows.{reply_line}
use Rattle.hk_joint.specs.Legal.{call_lines, shown_lines, lines_from}

any_append : {X : Type 0} (p : X → Bool) (xs ys : List X) → list_any p (xs ++ ys) ≡ (list_any p xs || list_any p ys)
any_append p [] ys = refl
any_append {X} p (x ∷ xs) ys = by_test (p x) (any_append p xs ys)
  where
    by_test : (b : Bool) → list_any p (xs ++ ys) ≡ (list_any p xs || list_any p ys) → (b || list_any p (xs ++ ys)) ≡ ((b || list_any p xs) || list_any p ys)
    by_test true more = refl
    by_test false more = more

-- the first place in two lists, where it is not in the first one
position_past : {X : Type 0} (p : X → Bool) (xs ys : List X) → list_any p xs ≡ false → position_or_len p (xs ++ ys) ≡ length xs + position_or_len p ys
position_past p [] ys none = omega arith
position_past p (x ∷ xs) ys none = by_test (p x) none (position_past p xs ys)
  where
    by_test : (b : Bool) → (b || list_any p xs) ≡ false → (list_any p xs ≡ false → position_or_len p (xs ++ ys) ≡ length xs + position_or_len p ys) →
        cond (not b) (1 + position_or_len p (xs ++ ys)) 0 ≡ length (x ∷ xs) + position_or_len p ys
    by_test true none more = absurd (false≢true (sym none))
    by_test false none more = let m = more none in omega (arith, m)

no_calls : (n : ℕ) (rs : List Reply) → list_any (is_call n) (map reply_line rs) ≡ false
no_calls n [] = refl
no_calls n (r ∷ rs) = no_calls n rs

-- a call is the first line of its event
call_first : (n : ℕ) (event : Event) (result : Result Accepted Refused) (rest : List HistoryEvent) → list_any (is_call n) (shown_lines event result) ≡ true →
    position_or_len (is_call n) (shown_lines event result ++ rest) ≡ 0
call_first n event (Err refused) rest e = absurd (false≢true e)
call_first n event (Ok a) rest e = by_event event a.shown.call e
  where
    none_first : list_any (is_call n) (map reply_line a.shown.replies) ≡ true → position_or_len (is_call n) (map reply_line a.shown.replies ++ rest) ≡ 0
    none_first e = absurd (false≢true (sym (no_calls n a.shown.replies) ∙ e))

    by_event : (event : Event) (c : Option CallNo) → list_any (is_call n) (call_lines event c ++ map reply_line a.shown.replies) ≡ true →
        position_or_len (is_call n) ((call_lines event c ++ map reply_line a.shown.replies) ++ rest) ≡ 0
    by_event (Call id key op) (Some made) e = by_test (eqb made.0 n) e
      where
        by_test : (b : Bool) → (b || list_any (is_call n) (map reply_line a.shown.replies)) ≡ true → cond (not b) (1 + position_or_len (is_call n) (map reply_line a.shown.replies ++ rest)) 0 ≡ 0
        by_test true e = refl
        by_test false e = absurd (false≢true (sym (no_calls n a.shown.replies) ∙ e))
    by_event (Call id key op) None e = none_first e
    by_event event c e = none_first e

-- after some event the one is replied to, and the other has not begun
pub record IsBetween (w : WorldState) (events : List Event) (a b : ℕ) : Type 0 where
  pub count : ℕ
  pub within : count ≤ length events
  pub replied : list_any (is_reply a) (lines_from w (take count events)) ≡ true
  pub not_begun : list_any (is_call b) (lines_from w (take count events)) ≡ false

pub between : (events : List Event) (w : WorldState) (a b : ℕ) → position_or_len (is_reply a) (lines_from w events) < position_or_len (is_call b) (lines_from w events) → IsBetween w events a b
between [] w a b l = absurd (omega (arith, l))
between (x ∷ xs) w a b l = by_tests (list_any (is_call b) here) refl (list_any (is_reply a) here) refl (between xs next a b)
  where
    here : List HistoryEvent
    here = shown_lines x (world_step w x)

    next : WorldState
    next = world_with w (world_step w x)

    by_tests : (c : Bool) → list_any (is_call b) here ≡ c → (r : Bool) → list_any (is_reply a) here ≡ r →
        (position_or_len (is_reply a) (lines_from next xs) < position_or_len (is_call b) (lines_from next xs) → IsBetween next xs a b) → IsBetween w (x ∷ xs) a b
    by_tests true e r f more = let first = call_first b x (world_step w x) (lines_from next xs) e in absurd (omega (arith, l, first))
    by_tests false e true f more = record {
      count = 1;
      within = omega arith;
      replied = ap (list_any (is_reply a)) (append-nil here) ∙ f;
      not_begun = ap (list_any (is_call b)) (append-nil here) ∙ e;
    }
    by_tests false e false f more =
        let p = position_past (is_reply a) here (lines_from next xs) f in
        let q = position_past (is_call b) here (lines_from next xs) e in
        let m = more (omega (arith, l, p, q)) in
        record {
          count = suc m.count;
          within = let within = m.within in omega (arith, within);
          replied = any_append (is_reply a) here (lines_from next (take m.count xs)) ∙ (ap (λ (t : Bool). t || list_any (is_reply a) (lines_from next (take m.count xs))) f ∙ m.replied);
          not_begun = any_append (is_call b) here (lines_from next (take m.count xs)) ∙ (ap (λ (t : Bool). t || list_any (is_call b) (lines_from next (take m.count xs))) e ∙ m.not_begun);
        }

-- lines only grow
pub lines_stay : (p : HistoryEvent → Bool) (m n : ℕ) → m ≤ n → (events : List Event) (w : WorldState) → list_any p (lines_from w (take m events)) ≡ true → list_any p (lines_from w (take n events)) ≡ true
lines_stay p zero n l [] w e = absurd (false≢true e)
lines_stay p zero n l (x ∷ xs) w e = absurd (false≢true e)
lines_stay p (suc m) zero l events w e = absurd (omega (arith, l))
lines_stay p (suc m) (suc n) l [] w e = absurd (false≢true e)
lines_stay p (suc m) (suc n) l (x ∷ xs) w e =
    let here : List HistoryEvent = shown_lines x (world_step w x) in
    let next : WorldState = world_with w (world_step w x) in
    any_append p here (lines_from next (take n xs))
    ∙ by_test (list_any p here) (sym (any_append p here (lines_from next (take m xs))) ∙ e) (lines_stay p m n (omega (arith, l)) xs next)
  where
    by_test : (b : Bool) → (b || list_any p (lines_from (world_with w (world_step w x)) (take m xs))) ≡ true →
        (list_any p (lines_from (world_with w (world_step w x)) (take m xs)) ≡ true → list_any p (lines_from (world_with w (world_step w x)) (take n xs)) ≡ true) →
        (b || list_any p (lines_from (world_with w (world_step w x)) (take n xs))) ≡ true
    by_test true e more = refl
    by_test false e more = more e
