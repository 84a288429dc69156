-- What is kept of replies tells the first one to each call, and the counts add up to the calls.
use Rattle.std.proofs.Common.{◌≡◌, ◌≢◌, ℕ, zero, suc, ◌+◌, ◌==◌, List, [], ◌∷◌, ◌++◌, length, drop, Bool, true, false, cond, Option, Some, None, Result, Ok, Equal, refl, sym, ap, subst, ◌∙◌, arith, append-nil, append_assoc}
use Rattle.std.specs.Ordering.{nat_cmp}
use Rattle.std.specs.Option.{option_or}
use Rattle.std.specs.Prelude.{is_some}
use Rattle.std.specs.BTreeMap.{insert_entry, is_at}
use Rattle.std.specs.Map.{lookup}
use Rattle.std.proofs.lemmas.Bool.{false≢true}
use Rattle.std.proofs.lemmas.Bool.Decides.{nat_tests}
use Rattle.hk_base.specs.declared.call.Reply.{Reply}
use Rattle.hk_event.specs.declared.event.Event.{Event}
use Rattle.hk_event.specs.declared.refused.Refused.{Refused}
use Rattle.hk_world.specs.World.{WorldState, numbered}
use Rattle.hk_world.specs.Start.{start}
use Rattle.hk_world.specs.Sound.{IsEvent}
use Rattle.hk_world.specs.Steps.{Accepted, world_step}
use Rattle.hk_safety.specs.Run.{RunState, world_with, AreAccepted}
use Rattle.hk_merge.proofs.Entries.{found_same, found_other}
use Rattle.hk_storm.specs.declared.outcomes.Outcome.{Outcome}
use Rattle.hk_storm.specs.declared.outcomes.Outcome.TheVariants as outcome
use Rattle.hk_storm.specs.declared.outcomes.Outcomes.{Outcomes}
use Rattle.hk_storm.specs.Calls.{calls_of, all_calls}
use Rattle.hk_storm.specs.Outcomes.{outcome_of, first_outcome, with_outcome, with_calls, with_run, with_runs, shown_replies, replies_from, replies_of, IsTold}
use Rattle.hk_storm.proofs.Lists.{here}

-- ---- one reply more
nat_equal : (a b : ℕ) → nat_cmp a b ≡ Equal → a ≡ b
nat_equal a b e = grind (arith, nat_tests)

nat_itself : (a : ℕ) → nat_cmp a a ≡ Equal
nat_itself a = grind (arith, nat_tests)

abbrev told : ℕ → Reply → Option Outcome
told call reply = cond (reply.call.0 == call) (Some (outcome_of reply.answer)) None

first_more : (call : ℕ) (replies : List Reply) (reply : Reply) → first_outcome call (replies ++ reply ∷ []) ≡ option_or (first_outcome call replies) (told call reply)
first_more call [] reply = refl
first_more call (r ∷ replies) reply = by_test (r.call.0 == call) (first_more call replies reply)
  where
    by_test : (b : Bool) → first_outcome call (replies ++ reply ∷ []) ≡ option_or (first_outcome call replies) (told call reply) →
        cond b (Some (outcome_of r.answer)) (first_outcome call (replies ++ reply ∷ [])) ≡ option_or (cond b (Some (outcome_of r.answer)) (first_outcome call replies)) (told call reply)
    by_test true more = refl
    by_test false more = more

or_none : (o : Option Outcome) → option_or o None ≡ o
or_none None = refl
or_none (Some x) = refl

other_reply : (call : ℕ) (reply : Reply) → reply.call.0 ≢ call → told call reply ≡ None
other_reply call reply other = ap (λ (b : Bool). cond b (Some (outcome_of reply.answer)) None) (differ (reply.call.0) other)
  where
    differ : (n : ℕ) → n ≢ call → (n == call) ≡ false
    differ n ne = grind (arith, nat_tests)

own_reply : (reply : Reply) → told reply.call.0 reply ≡ Some (outcome_of reply.answer)
own_reply reply = ap (λ (b : Bool). cond b (Some (outcome_of reply.answer)) None) (itself reply.call.0)
  where
    itself : (n : ℕ) → (n == n) ≡ true
    itself n = grind (arith, nat_tests)

module _ (kept : List (ℕ × Outcome)) (replies : List Reply) (reply : Reply) (is : IsTold kept replies) where
  -- a call that was replied to before keeps its outcome
  pub known_stays : (o : Outcome) → lookup (is_at (nat_cmp reply.call.0)) kept ≡ Some o → IsTold kept (replies ++ reply ∷ [])
  known_stays o e call = is call ∙ sym (first_more call replies reply ∙ by_test (reply.call.0 == call) refl)
    where
      by_test : (b : Bool) → (reply.call.0 == call) ≡ b → option_or (first_outcome call replies) (cond b (Some (outcome_of reply.answer)) None) ≡ first_outcome call replies
      by_test false t = or_none (first_outcome call replies)
      by_test true t =
          let same : reply.call.0 ≡ call = grind (arith, nat_tests) in
          let some : first_outcome call replies ≡ Some o = sym (is call) ∙ subst (λ (n : ℕ). lookup (is_at (nat_cmp n)) kept ≡ Some o) same e in
          ap (λ (x : Option Outcome). option_or x (Some (outcome_of reply.answer))) some ∙ sym some

  pub new_put : lookup (is_at (nat_cmp reply.call.0)) kept ≡ None → IsTold (insert_entry nat_cmp kept reply.call.0 (outcome_of reply.answer)) (replies ++ reply ∷ [])
  new_put none call = by_test (reply.call.0 == call) refl
    where
      by_test : (b : Bool) → (reply.call.0 == call) ≡ b → lookup (is_at (nat_cmp call)) (insert_entry nat_cmp kept reply.call.0 (outcome_of reply.answer)) ≡ first_outcome call (replies ++ reply ∷ [])
      by_test true t =
          let same : reply.call.0 ≡ call = grind (arith, nat_tests) in
          let first : first_outcome reply.call.0 replies ≡ None = sym (is reply.call.0) ∙ none in
          subst (λ (n : ℕ). lookup (is_at (nat_cmp n)) (insert_entry nat_cmp kept reply.call.0 (outcome_of reply.answer)) ≡ first_outcome n (replies ++ reply ∷ [])) same
          (found_same nat_cmp nat_equal nat_itself reply.call.0 (outcome_of reply.answer) kept
          ∙ sym (first_more reply.call.0 replies reply ∙ (ap (λ (x : Option Outcome). option_or x (told reply.call.0 reply)) first ∙ own_reply reply)))
      by_test false t =
          let other : call ≢ reply.call.0 = λ s. differ call reply.call.0 s t in
          found_other nat_cmp nat_equal nat_itself call reply.call.0 (outcome_of reply.answer) kept other
          ∙ (is call ∙ sym (first_more call replies reply ∙ (ap (λ (x : Option Outcome). option_or (first_outcome call replies) x) (other_reply call reply (λ s. other (sym s))) ∙ or_none (first_outcome call replies))))
        where
          differ : (a b : ℕ) → a ≡ b → (b == a) ≡ false → ⊥
          differ a b s e = grind (arith, nat_tests)

-- by whether a reply to the call is kept
pub known_by : (kept : List (ℕ × Outcome)) (replies : List Reply) (reply : Reply) → IsTold kept replies → (x : Option Outcome) → lookup (is_at (nat_cmp reply.call.0)) kept ≡ x → is_some x ≡ true → IsTold kept (replies ++ reply ∷ [])
known_by kept replies reply told None at some = absurd (false≢true some)
known_by kept replies reply told (Some o) at some = known_stays kept replies reply told o at

pub unknown_by : (kept : List (ℕ × Outcome)) (replies : List Reply) (reply : Reply) → IsTold kept replies → (x : Option Outcome) → lookup (is_at (nat_cmp reply.call.0)) kept ≡ x → is_some x ≡ false → IsTold (insert_entry nat_cmp kept reply.call.0 (outcome_of reply.answer)) (replies ++ reply ∷ [])
unknown_by kept replies reply told None at none = new_put kept replies reply told at
unknown_by kept replies reply told (Some o) at none = absurd (false≢true (sym none))

-- ---- a run made again
-- What is kept is that of the replies so far, and those that the events left show are the others.
pub record IsRemade (run : RunState) (world : WorldState) (kept : List (ℕ × Outcome)) (left : List Event) : Type 0 where
  pub before : List Reply
  pub told_is : IsTold kept before
  pub joins : before ++ replies_from world left ≡ replies_of run
  pub accepted : AreAccepted world left

pub remade_first : (run : RunState) (world : WorldState) (kept : List (ℕ × Outcome)) → world ≡ start run.header → kept ≡ [] → AreAccepted (start run.header) run.events → IsRemade run world kept run.events
remade_first run world kept first none accepted = record {
  before = [];
  told_is = λ call. ap (lookup (is_at (nat_cmp call))) none;
  joins = ap (λ (w : WorldState). replies_from w run.events) first;
  accepted = subst (λ (w : WorldState). AreAccepted w run.events) (sym first) accepted;
}

head_event : (run : RunState) (world : WorldState) (kept : List (ℕ × Outcome)) (n : ℕ) (event : Event) → numbered (n + 1) run.events ≡ Some event → IsRemade run world kept (drop n run.events) → IsRemade run world kept (event ∷ drop (n + 1) run.events)
head_event run world kept n event at is = subst (IsRemade run world kept) (here n run.events event at) is

pub may_happen : (run : RunState) (world : WorldState) (kept : List (ℕ × Outcome)) (n : ℕ) (event : Event) → numbered (n + 1) run.events ≡ Some event → IsRemade run world kept (drop n run.events) → IsEvent event
may_happen run world kept n event at is = (head_event run world kept n event at is).accepted.0

pub remade_more : (run : RunState) (world next : WorldState) (kept more : List (ℕ × Outcome)) (n : ℕ) (event : Event) → numbered (n + 1) run.events ≡ Some event → IsRemade run world kept (drop n run.events) →
    next ≡ world_with world (world_step world event) → ((before : List Reply) → IsTold kept before → IsTold more (before ++ shown_replies (world_step world event))) → IsRemade run next more (drop (n + 1) run.events)
remade_more run world next kept more n event at is made tells =
    let now : IsRemade run world kept (event ∷ drop (n + 1) run.events) = head_event run world kept n event at is in
    record {
      before = now.before ++ shown_replies (world_step world event);
      told_is = tells now.before now.told_is;
      joins =
          append_assoc now.before (shown_replies (world_step world event)) (replies_from next (drop (n + 1) run.events))
          ∙ (ap (λ (w : WorldState). now.before ++ (shown_replies (world_step world event) ++ replies_from w (drop (n + 1) run.events))) made ∙ now.joins);
      accepted = subst (λ (w : WorldState). AreAccepted w (drop (n + 1) run.events)) (sym made) (behind now.accepted);
    }
  where
    with_ok : (a : Accepted) (r : Result Accepted Refused) → r ≡ Ok a → a.world ≡ world_with world r
    with_ok a r e = rw e refl

    behind : AreAccepted world (event ∷ drop (n + 1) run.events) → AreAccepted (world_with world (world_step world event)) (drop (n + 1) run.events)
    behind all = subst (λ (w : WorldState). AreAccepted w (drop (n + 1) run.events)) (with_ok all.1 (world_step world event) all.2) all.3

pub remade_all : (run : RunState) (world : WorldState) (kept : List (ℕ × Outcome)) (left : List Event) → left ≡ [] → IsRemade run world kept left → IsTold kept (replies_of run)
remade_all run world kept left none is =
    subst (IsTold kept) (sym (append-nil is.before) ∙ (ap (λ (l : List Event). is.before ++ replies_from world l) (sym none) ∙ is.joins)) is.told_is

-- ---- counts
pub calls_turn : (o : Outcomes) (replies : List Reply) (call n m : ℕ) → n ≡ suc m → with_calls o replies call n ≡ with_calls (with_outcome o (first_outcome call replies)) replies (call + 1) m
unfolding with_calls
calls_turn o replies call n m e = rw e refl

pub calls_first : (o : Outcomes) (replies : List Reply) (n call m : ℕ) → call ≡ 1 → m ≡ n → with_calls o replies 1 n ≡ with_calls o replies call m
calls_first o replies n call m is same = ap (λ (k : ℕ). with_calls o replies k n) (sym is) ∙ ap (λ (k : ℕ). with_calls o replies call k) (sym same)

pub calls_end : (o : Outcomes) (replies : List Reply) (call n : ℕ) → n ≡ 0 → with_calls o replies call n ≡ o
unfolding with_calls
calls_end o replies call n e = rw e refl

abbrev pub total : Outcomes → ℕ
total o = o.answered + o.busy + o.aborted + o.unanswered

one_call : (o : Outcomes) (x : Option Outcome) → total (with_outcome o x) ≡ total o + 1
one_call o None = omega arith
one_call o (Some outcome.Answered) = omega arith
one_call o (Some outcome.Busy) = omega arith
one_call o (Some outcome.Aborted) = omega arith

calls_total : (o : Outcomes) (replies : List Reply) (call n : ℕ) → total (with_calls o replies call n) ≡ total o + n
unfolding with_calls
calls_total o replies call zero = omega arith
calls_total o replies call (suc n) =
    let more = calls_total (with_outcome o (first_outcome call replies)) replies (call + 1) n in
    let one = one_call o (first_outcome call replies) in
    omega (arith, more, one)

length_joined : {X : Type 0} (xs ys : List X) → length (xs ++ ys) ≡ length xs + length ys
length_joined [] ys = omega arith
length_joined (x ∷ xs) ys = let more = length_joined xs ys in omega (arith, more)

pub runs_total : (o : Outcomes) (runs : List RunState) → total (with_runs o runs) ≡ total o + length (all_calls runs)
runs_total o [] = omega arith
runs_total o (run ∷ runs) =
    let more = runs_total (with_run o run) runs in
    let one = calls_total o (replies_of run) 1 (length (calls_of run)) in
    let joined = length_joined (calls_of run) (all_calls runs) in
    omega (arith, more, one, joined)
