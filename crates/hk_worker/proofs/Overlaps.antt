-- Asks of a post, with others between the beginning of one and its end.
use Rattle.std.proofs.Common.{◌≡◌, ◌⊎◌, inl, inr, ℕ, ◌+◌, ◌<◌, ◌==◌, if◌then◌else◌, List, [], ◌∷◌, ◌++◌, Option, None, Result, Ok, Err, refl, sym, ap, ◌∙◌, subst, arith}
use mathlib.Core.List.{IsPrefix}
use Rattle.hk_base.specs.declared.memory.Memory.{Memory}
use Rattle.hk_base.specs.declared.call.Op.{Op}
use Rattle.hk_outside.specs.declared.desk.DeskReply.{DeskReply}
use Rattle.hk_outside.specs.declared.desk.DeskReply.TheVariants.{Told, Unknown, Spent}
use Rattle.hk_snap.specs.declared.rule.Publication.{Publication}
use Rattle.hk_snap.specs.Ends.{End}
use Rattle.hk_snap.proofs.Prefixes.{prefix_self, prefix_trans}
use Rattle.hk_told.proofs.Telling.{after_looks_is_shown, unknown_is_shown}
use Rattle.hk_locked.specs.Locked.{ReaderState}
use Rattle.hk_locked.specs.Steps.{end_at, StartsAt}
use Rattle.hk_worker.specs.declared.asking.OpenAsk.{OpenAsk}
use Rattle.hk_outside.specs.declared.desk.Begun.{Begun}
use Rattle.hk_outside.specs.declared.desk.Begun.TheVariants as opened
use Rattle.hk_worker.specs.Asking.{PostState, AsksAtPost, call_number, reader_of}
use Rattle.hk_worker.specs.Turns.{IsUnasked, seen_of, Rise}
use Rattle.hk_worker.specs.Reading.{HasLooked, AsksByClock}
use Rattle.hk_worker.specs.Opening.{BeginsAtPost, FinishesAt, FinishesAtPost, PostEvent, PostStep, Makes, StepsInTurn, post_after_steps, StepListsGrow, ToldAtOnce, StepAsksAreShown, StepTimedAreShown, IsShownLate, StepFinishesAreShown, counts_of_steps, StepCountsRise}
use Rattle.std.proofs.Common.{length, slice_index_or, slice_set}
use Rattle.std.proofs.lemmas.List.{get_or-set_same, get_or_default}
use Rattle.std.specs.Prelude.{IfOk}
use Rattle.hk_shard.specs.Shard.{shard_of}
use Rattle.hk_locked.specs.Steps.{IsGrown}
use Rattle.hk_worker.specs.Asking.{AreReadersBelow, no_reader, reader_at}
use Rattle.hk_worker.proofs.Freely.{looked_at}
use Rattle.hk_worker.proofs.Clocked.{grown_by_clock, shown_by_clock, same_count, next_count}
use Rattle.hk_worker.proofs.Turns.{rise_from, seen_grown, has_grown, same_seen, asked_at, shown_in}

-- ---- lists
begins_grown : (key other : List ℕ) (op : Op) (old new : PostState) (result : Result (Begun OpenAsk) Memory) → BeginsAtPost key op old new result → IsPrefix (seen_of other old) (seen_of other new)
begins_grown key other op old new (Ok (opened.Told reply)) h = asked_at key other op old new (Ok reply) h
begins_grown key other op old new (Ok (opened.Waits w)) h = has_grown key other old new h.0
begins_grown key other op old new (Err e) h = has_grown key other old new h

finishes_grown : (w : OpenAsk) (other : List ℕ) (old new : PostState) (result : Result DeskReply Memory) → FinishesAtPost w old new result → IsPrefix (seen_of other old) (seen_of other new)
finishes_grown w other old new (Ok reply) h = seen_grown w.key other old new h.0.grown h.0.others
finishes_grown w other old new (Err e) h = seen_grown w.key other old new h.grown h.others

step_grown : (was_read : ReaderState → ℕ → Type 0) (event : PostEvent) (other : List ℕ) (old new : PostState) → Makes was_read event old new → IsPrefix (seen_of other old) (seen_of other new)
step_grown was_read (PostEvent.Asks key op result) other old new h = asked_at key other op old new result h
step_grown was_read (PostEvent.AsksTimed reading key op result) other old new h = grown_by_clock was_read reading key other op old new result h
step_grown was_read (PostEvent.Looks key) other old new h = seen_grown key other old new h.grown h.others
step_grown was_read (PostEvent.Begins key op result) other old new h = begins_grown key other op old new result h
step_grown was_read (PostEvent.Finishes w result) other old new h = finishes_grown w other old new result h

-- from one moment to the end of a step
through_step : (was_read : ReaderState → ℕ → Type 0) (key : List ℕ) (post : PostState) (step : PostStep) → IsUnasked post step.before → Makes was_read step.event step.before step.after → IsPrefix (seen_of key post) (seen_of key step.after)
through_step was_read key post step un made = subst (λ (seen : List Publication). IsPrefix seen (seen_of key step.after)) (same_seen key post step.before un) (step_grown was_read step.event key step.before step.after made)

pub step_lists_grow : (was_read : ReaderState → ℕ → Type 0) → StepListsGrow was_read
step_lists_grow was_read post [] key run = prefix_self (seen_of key post)
step_lists_grow was_read post (step ∷ steps) key run =
    prefix_trans (seen_of key post) (seen_of key step.after) (seen_of key (post_after_steps step.after steps)) (through_step was_read key post step run.0 run.1) (step_lists_grow was_read step.after steps key run.2)

-- and to the beginning of a later one
grown_to : (was_read : ReaderState → ℕ → Type 0) (post : PostState) (mid back : List PostStep) (step : PostStep) (key : List ℕ) → StepsInTurn was_read post (mid ++ step ∷ back) → IsPrefix (seen_of key post) (seen_of key step.before)
grown_to was_read post [] back step key run = subst (λ (seen : List Publication). IsPrefix seen (seen_of key step.before)) (same_seen key post step.before run.0) (prefix_self (seen_of key step.before))
grown_to was_read post (s ∷ mid) back step key run =
    prefix_trans (seen_of key post) (seen_of key s.after) (seen_of key step.before) (through_step was_read key post s run.0 run.1) (grown_to was_read s.after mid back step key run.2)

-- ---- one step of a run, and what follows
run_at : (was_read : ReaderState → ℕ → Type 0) (post : PostState) (front back : List PostStep) (step : PostStep) → StepsInTurn was_read post (front ++ step ∷ back) → Makes was_read step.event step.before step.after × StepsInTurn was_read step.after back
run_at was_read post [] back step run = (run.1, run.2)
run_at was_read post (s ∷ front) back step run = run_at was_read s.after front back step run.2

asks_at_once : (was_read : ReaderState → ℕ → Type 0) (key : List ℕ) (op : Op) (result : Result DeskReply Memory) (event : PostEvent) (old new : PostState) → ToldAtOnce key op result event → Makes was_read event old new → AsksAtPost key op old new result
asks_at_once was_read key op result event old new (inl is) made = subst (λ e. Makes was_read e old new) is made
asks_at_once was_read key op result event old new (inr (reply, same, is)) made = subst (λ (r : Result DeskReply Memory). AsksAtPost key op old new r) (sym same) (subst (λ e. Makes was_read e old new) is made)

pub step_asks_are_shown : (was_read : ReaderState → ℕ → Type 0) → StepAsksAreShown was_read
step_asks_are_shown was_read post front back step key op result run told =
    let r = run_at was_read post front back step run in
    shown_in key op step.before step.after result (seen_of key (post_after_steps step.after back)) (asks_at_once was_read key op result step.event step.before step.after told r.0) (step_lists_grow was_read step.after back key r.1)

pub step_timed_are_shown : (was_read : ReaderState → ℕ → Type 0) → StepTimedAreShown was_read
step_timed_are_shown was_read post front back step reading key op result run is =
    let r = run_at was_read post front back step run in
    shown_by_clock was_read reading key op step.before step.after (seen_of key (post_after_steps step.after back)) (step_lists_grow was_read step.after back key r.1) result
    (subst (λ e. Makes was_read e step.before step.after) is r.0)

-- ---- an update that waited
-- what was seen as it was finished, as if by no load
abbrev as_if : ReaderState → ReaderState → List ℕ → End
as_if begun after key = record (end_at key after) { loads = (end_at key begun).loads + 0 }

module _ (post_old post_begun post_before post_after : PostState) (key : List ℕ) (op : Op) (ticket : ℕ) (seen : List Publication)
    (s : StartsAt (reader_of key post_old) (reader_of key post_begun) (call_number post_old.number (post_old.asks + 1)) key ticket op None)
    (later : IsPrefix (seen_of key post_begun) (seen_of key post_before)) (more : IsPrefix (seen_of key post_after) seen) where
  abbrev r_old : ReaderState
  r_old = reader_of key post_old

  abbrev r_begun : ReaderState
  r_begun = reader_of key post_begun

  abbrev r_after : ReaderState
  r_after = reader_of key post_after

  late : (reply : DeskReply) → FinishesAt key ticket (reader_of key post_before) r_after reply → IsShownLate seen key op post_old post_begun (Ok reply)
  late (Told answer) f =
      let l = f.1 in
      let t = after_looks_is_shown (call_number post_old.number (post_old.asks + 1)) key ticket op r_begun.lease.end r_begun.lease.now r_begun.skew 0 (end_at key r_old) (end_at key r_begun) (as_if r_begun r_after key) answer s.starts
      (prefix_trans (seen_of key post_begun) (seen_of key post_before) (seen_of key post_after) later l.looks.0, refl, l.looks.2) in
      (t.0, more.0, sym more.1 ∙ ap (λ (list : List Publication). list ++ more.0) t.2, t.5, (let e = s.lease.loads in omega (arith, e)))
  late (Unknown turns) f =
      let l = f.1 in
      let t = unknown_is_shown (call_number post_old.number (post_old.asks + 1)) key ticket op r_begun.lease.end r_begun.lease.now r_begun.skew 0 (end_at key r_old) (end_at key r_begun) (as_if r_begun r_after key) s.starts
      (prefix_trans (seen_of key post_begun) (seen_of key post_before) (seen_of key post_after) later l.looks.0, refl, l.looks.2) in
      (f.0, t.0, more.0, sym more.1 ∙ ap (λ (list : List Publication). list ++ more.0) t.2, t.5)
  late (Spent asks) f = absurd f

  -- it was finished as what it is
  pub late_is_shown : (w : OpenAsk) (result : Result DeskReply Memory) → w.key ≡ key → w.ticket ≡ ticket → FinishesAtPost w post_before post_after result → IsShownLate seen key op post_old post_begun result
  late_is_shown w (Ok reply) is same h =
      let k = subst (λ (k : List ℕ). FinishesAt k w.ticket (reader_of k post_before) (reader_of k post_after) reply) is h.1 in
      late reply (subst (λ (n : ℕ). FinishesAt key n (reader_of key post_before) (reader_of key post_after) reply) same k)
  late_is_shown w (Err e) is same h = tt

pub step_finishes_are_shown : (was_read : ReaderState → ℕ → Type 0) → StepFinishesAreShown was_read
step_finishes_are_shown was_read post front mid back b f key op w result run is_begin is_finish =
    let r = run_at was_read post front (mid ++ f ∷ back) b run in
    let begins = subst (λ e. Makes was_read e b.before b.after) is_begin r.0 in
    let q = run_at was_read b.after mid back f r.1 in
    let finishes = subst (λ e. Makes was_read e f.before f.after) is_finish q.0 in
    late_is_shown b.before b.after f.before f.after key op w.ticket (seen_of key (post_after_steps f.after back)) begins.2 (grown_to was_read b.after mid back f key r.1) (step_lists_grow was_read f.after back key q.1) w result begins.1.0 refl finishes

-- ---- counts
-- a step asks nothing, or makes the next ask
abbrev Counts : PostState → PostState → Type 0
Counts old new = (new.asks ≡ old.asks) ⊎ ((new.asks ≡ old.asks + 1) × (old.asks < 4294967295))

asked_counts : (key : List ℕ) (op : Op) (old new : PostState) (result : Result DeskReply Memory) → AsksAtPost key op old new result → Counts old new
asked_counts key op old new (Ok (Told answer)) h = inr (h.0.asks, h.0.may)
asked_counts key op old new (Ok (Unknown turns)) h = inr (h.0.asks, h.0.may)
asked_counts key op old new (Ok (Spent asks)) h = inl (ap (λ (p : PostState). p.asks) h.2)
asked_counts key op old new (Err e) h = inr (h.asks, h.may)

timed_counts : (was_read : ReaderState → ℕ → Type 0) (reading : Option ℕ) (key : List ℕ) (op : Op) (old new : PostState) (result : Result DeskReply Memory) → AsksByClock was_read reading key op old new result → Counts old new
timed_counts was_read reading key op old new (Ok (Told answer)) (inl h) = inl h.1.asks
timed_counts was_read reading key op old new (Ok (Told answer)) (inr h) = inr (h.0.asks, h.0.may)
timed_counts was_read reading key op old new (Ok (Unknown turns)) h = inr (h.0.asks, h.0.may)
timed_counts was_read reading key op old new (Ok (Spent asks)) h = inl h.2.asks
timed_counts was_read reading key op old new (Err e) (inl h) = inl h.asks
timed_counts was_read reading key op old new (Err e) (inr h) = inr (h.asks, h.may)

step_counts : (was_read : ReaderState → ℕ → Type 0) (event : PostEvent) (old new : PostState) → Makes was_read event old new → Counts old new
step_counts was_read (PostEvent.Asks key op result) old new h = asked_counts key op old new result h
step_counts was_read (PostEvent.AsksTimed reading key op result) old new h = timed_counts was_read reading key op old new result h
step_counts was_read (PostEvent.Looks key) old new h = inl h.asks
step_counts was_read (PostEvent.Begins key op (Ok (opened.Told reply))) old new h = asked_counts key op old new (Ok reply) h
step_counts was_read (PostEvent.Begins key op (Ok (opened.Waits w))) old new h = inr (h.0.asks, h.0.may)
step_counts was_read (PostEvent.Begins key op (Err e)) old new h = inr (h.asks, h.may)
step_counts was_read (PostEvent.Finishes w (Ok reply)) old new h = inl h.0.asks
step_counts was_read (PostEvent.Finishes w (Err e)) old new h = inl h.asks

step_counted : (old new : PostState) (counts : List ℕ) → Counts old new → Rise new.asks counts → Rise old.asks (if new.asks == old.asks then counts else new.asks ∷ counts)
step_counted old new counts (inl same) later = same_count old.asks new.asks counts same later
step_counted old new counts (inr next) later = next_count old.asks new.asks counts next.0 next.1 later

pub step_counts_rise : (was_read : ReaderState → ℕ → Type 0) → StepCountsRise was_read
step_counts_rise was_read post [] run = tt
step_counts_rise was_read post (step ∷ steps) run = rise_from post.asks step.before.asks (counts_of_steps (step ∷ steps)) run.0.asks
    (step_counted step.before step.after (counts_of_steps steps) (step_counts was_read step.event step.before step.after run.1) (step_counts_rise was_read step.after steps run.2))

-- ---- at a post: an update is finished
module _ (w : OpenAsk) (old now : PostState) (i : ℕ) (before r : ReaderState) (same : old ≡ now) (is : i ≡ shard_of w.key) (short : i < 8) (are : AreReadersBelow 8 old.node old.readers) (value : before ≡ slice_index_or old.readers i before)
    (grown : IsGrown w.key before r) where
  abbrev done : PostState
  done = record old { readers = slice_set old.readers i r }

  looked : HasLooked w.key now done
  looked = looked_at w.key old now i before r same is short are value grown

  below : i < length old.readers
  below = let long = are.long in omega (arith, short, long)

  finishes : (reply : DeskReply) → FinishesAt w.key w.ticket before r reply → FinishesAt w.key w.ticket (reader_of w.key now) (reader_of w.key done) reply
  finishes reply f = subst (λ (p : PostState). FinishesAt w.key w.ticket (reader_of w.key p) (reader_of w.key done) reply) same
      (subst (λ j. FinishesAt w.key w.ticket (reader_at old j) (reader_at done j) reply) is
      (subst (λ o. FinishesAt w.key w.ticket o (reader_at done i) reply) (value ∙ get_or_default old.readers i before no_reader below)
      (subst (λ x. FinishesAt w.key w.ticket before x reply) (sym (get_or-set_same old.readers i r no_reader below)) f)))

  pub finishes_at_post : (told result : Result DeskReply Memory) → IfOk told (λ reply. FinishesAt w.key w.ticket before r reply) → IfOk result (λ reply. told ≡ Ok reply) → FinishesAtPost w now done result
  finishes_at_post told (Ok reply) f e = (looked, finishes reply (subst (λ (t : Result DeskReply Memory). IfOk t (λ reply. FinishesAt w.key w.ticket before r reply)) e f))
  finishes_at_post told (Err x) f e = looked
