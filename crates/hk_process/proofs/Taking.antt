-- Connections that were taken, the first ones and those behind them.
use Rattle.std.proofs.Common.{◌≡◌, ℕ, ◌+◌, ◌-◌, ◌≤◌, ◌<◌, ◌∙◌, ap, subst, sym, refl, Option, None, Some, Result, Ok, Err, arith}
use Rattle.hk_outside.specs.Causes.{HasCause}
use Rattle.hk_outside.specs.Counts.{Accepts, TakesJob}
use Rattle.hk_accept.proofs.Counting.{none_more}
use Rattle.hk_accept.proofs.Received.{received_none, received_more}
use Rattle.hk_accept.specs.Serving.{Came, AreAll, AreReceived, Taken, HasServed}
use Rattle.hk_process.specs.Serving.{HasTaken, HasTakenBeside}

taken_both : (a b c : Option ℕ) (m n : ℕ) → Taken a b m → Taken b c n → Taken a c (m + n)
taken_both None b c m n first second = tt
taken_both (Some f) b c m n first second =
    let at = subst (λ (o : Option ℕ). Taken o c n) first.1 second in
    let before = first.2 in
    let now = at.2 in
    (at.0, at.1, omega (arith, before, now))

came_both : (a b c : Option ℕ) (m n : ℕ) → Came a b m → Came b c n → Came a c (m + n)
came_both None b c m n first second = tt
came_both (Some f) b c m n (within, at) second =
    let on = subst (λ (o : Option ℕ). Came o c n) at second in
    let few = on.0 in
    (omega (arith, within, few), on.1 ∙ ap Some (omega (arith, within, few)))

received_both : (a b c : Option ℕ) (f g h m n : ℕ) → AreReceived a b f g m → AreReceived b c g h n → AreReceived a c f h (m + n)
received_both a b c f g h m n first second =
    let each = first.each in
    let each_then = second.each in
    let faulted = first.faulted in
    let faulted_then = second.faulted in
    record {
      jobs = first.jobs + second.jobs;
      refused = first.refused + second.refused;
      each = omega (arith, each, each_then);
      started = taken_both a b c first.jobs second.jobs first.started second.started;
      faulted = omega (arith, faulted, faulted_then);
    }

-- where the first ones were all that were left, so are they with those behind them, which are none
all_left : (a b c : Option ℕ) (m n : ℕ) → Came a b m → Came b c n → AreAll a m → AreAll a (m + n)
all_left None b c m n first second all = tt
all_left (Some f) b c m n (within, at) second all =
    let on = subst (λ (o : Option ℕ). Came o c n) at second in
    let few = on.0 in
    omega (arith, within, few, all)

pub taken_on : (a b c d e i : Option ℕ) (f g h conns : ℕ) → HasServed a b d e f g conns → HasTaken b c e i g h 0 → HasTaken a c d i f h conns
taken_on a b c d e i f g h conns first second = record {
  count = first.count + second.count;
  came = came_both a b c first.count second.count first.came second.came;
  received = received_both d e i f g h first.count second.count first.received second.received;
  all = λ few. all_left a b c first.count second.count first.came second.came (first.all (omega (arith, few)));
}

-- what two lists of jobs were started before
pub taken_beside : (left left' a b c d : Option ℕ) (e f g h : ℕ) (first second conns : ℕ) → Taken a b first → Taken b c second → e ≤ f → f ≤ g → HasTaken left left' c d g h conns
    → HasTakenBeside (first + second) left left' a d e h conns
taken_beside left left' a b c d e f g h first second conns one two later later_then served =
    record { between = c; began = g; started = taken_both a b c first second one two; later = omega (arith, later, later_then); served = served }

-- ---- one after the other
came_none : (left : Option ℕ) → Came left left 0
came_none None = tt
came_none (Some n) = (omega arith, ap Some (omega arith))

pub taken_none : (left taken : Option ℕ) (faults : ℕ) → HasTaken left left taken taken faults faults 0
taken_none left taken faults = record { count = 0; came = came_none left; received = received_none taken faults; all = λ few. absurd (omega (arith, few)) }

-- no more came
pub taken_end : (C E : Type 0) (a b c d e : Option ℕ) (f g : ℕ) (conn : Option C) → HasTaken a b d e f g 0 → conn ≡ None → Accepts {C = C} {E = E} b c (Ok conn) → HasTaken a c d e f g 0
taken_end C E a b c d e f g conn taken none accepts = record {
  count = taken.count;
  came = (none_more C E a b c taken.count conn taken.came none accepts).0;
  received = taken.received;
  all = λ few. absurd (omega (arith, few));
}

came_more : (C E : Type 0) (a b c : Option ℕ) (n : ℕ) (conn : Option C) (one : C) → Came a b n → conn ≡ Some one → Accepts {C = C} {E = E} b c (Ok conn) → Came a c (n + 1)
came_more C E None b c n conn one came is accepts = tt
came_more C E (Some f) b c n conn one came is accepts =
    let within = came.0 in
    let before = subst (λ (o : Option ℕ). Accepts {C = C} {E = E} o c (Ok conn)) came.1 accepts in
    let comes = subst (λ (o : Option C). Accepts {C = C} {E = E} (Some (f - n)) c (Ok o)) is before in
    let more = comes.2 in
    (omega (arith, within, more), comes.1 ∙ ap Some (omega (arith, within, more)))

-- one more came, and was received
pub taken_more : (C E : Type 0) {F : Type 0} (a b c d e h : Option ℕ) (f g i : ℕ) (conn : Option C) (one : C) (result : Result (Unit {0}) F)
    → HasTaken a b d e f g 0 → conn ≡ Some one → Accepts {C = C} {E = E} b c (Ok conn) → TakesJob e h result → HasCause g i result → HasTaken a c d h f i 0
taken_more C E a b c d e h f g i conn one result taken is accepts takes cause = record {
  count = taken.count + 1;
  came = came_more C E a b c taken.count conn one taken.came is accepts;
  received = received_more d e h f g i taken.count result taken.received takes cause;
  all = λ few. absurd (omega (arith, few));
}
