-- Logs are replayed.
use Rattle.std.proofs.Common.{◌≡◌, ◌+◌, ℕ, ◌≤◌, ◌<◌, List, [], ◌∷◌, ◌++◌, length, take, Bool, true, false, cond, Result, Ok, Err, refl, sym, ap, subst, ◌∙◌, inl, inr, ⊎_elim, arith, append-nil, append_assoc}
use Rattle.std.proofs.lemmas.Bool.{cases_lt}
use Rattle.std.proofs.lemmas.List.{take-append-le, take-take, take_all, length-append, length-take}
use Rattle.std.proofs.Math.Seq.{take-length, take-nil}
use Rattle.hk_base.specs.declared.letter.Letter.{Letter}
use Rattle.hk_paxos.specs.Run.{In}
use Rattle.hk_paxos.proofs.Quorums.{in_either}
use Rattle.hk_lease.specs.Wait.{wait}
use Rattle.hk_manager.specs.declared.event.ManagerEvent.{ManagerEvent}
use Rattle.hk_manager.specs.declared.fault.ManagerFault.{ManagerFault}
use Rattle.hk_manager.specs.Manager.{ManagerState}
use Rattle.hk_manager.specs.Steps.{ManagerStepped, manager_step}
use Rattle.hk_return.specs.Log.{is_logged, manager_or, letters_or, after, letters_of, AreTaken, steps_of, logged, log_of, but_times, with_members, returned, Process, LogEvent, next, MayHappen, IsRun, last_process, start, IsSaidIn, LogsAreReplayed}
use Rattle.hk_return.specs.Log.LogEvent.{Batch, Sync, Say, Note, Return}
use Rattle.hk_return.proofs.Timeless.{logged_same, log_is_enough}

pub after_more : (m : ManagerState) (xs ys : List ManagerEvent) → after m (xs ++ ys) ≡ after (after m xs) ys
after_more m [] ys = refl
after_more m (x ∷ xs) ys = after_more (manager_or m (manager_step m x)) xs ys

pub logged_more : (xs ys : List ManagerEvent) → logged (xs ++ ys) ≡ logged xs ++ logged ys
logged_more [] ys = refl
logged_more (x ∷ xs) ys = by_kind (is_logged x) (logged_more xs ys)
  where
    by_kind : (b : Bool) → logged (xs ++ ys) ≡ logged xs ++ logged ys → cond b (x ∷ logged (xs ++ ys)) (logged (xs ++ ys)) ≡ cond b (x ∷ logged xs) (logged xs) ++ logged ys
    by_kind true h = ap (λ (zs : List ManagerEvent). x ∷ zs) h
    by_kind false h = h

pub steps_more : (xs ys : List (List ManagerEvent)) → steps_of (xs ++ ys) ≡ steps_of xs ++ steps_of ys
steps_more [] ys = refl
steps_more (x ∷ xs) ys = ap (λ (zs : List ManagerEvent). x ++ zs) (steps_more xs ys) ∙ sym (append_assoc x (steps_of xs) (steps_of ys))

pub log_more : (xs ys : List (List ManagerEvent)) → log_of (xs ++ ys) ≡ log_of xs ++ log_of ys
log_more xs ys = ap logged (steps_more xs ys) ∙ logged_more (steps_of xs) (steps_of ys)

-- noting untils makes no difference but to them
pub returned_same : (m n : ManagerState) (steps : List ManagerEvent) → but_times m ≡ but_times n → but_times (returned m (logged steps)) ≡ but_times (after n (logged steps))
returned_same m n [] e = e
returned_same m n (event ∷ steps) e = by_kind (is_logged event) refl
    (λ is. returned_same (manager_or noted (manager_step noted event)) (manager_or n (manager_step n event)) steps (logged_same noted n event e is)) (returned_same m n steps e)
  where
    noted : ManagerState
    noted = with_members m (m.clock + wait m.lease)

    by_kind : (b : Bool) → is_logged event ≡ b → (is_logged event ≡ true → but_times (returned (manager_or noted (manager_step noted event)) (logged steps)) ≡ but_times (after (manager_or n (manager_step n event)) (logged steps))) →
        but_times (returned m (logged steps)) ≡ but_times (after n (logged steps)) → but_times (returned m (cond b (event ∷ logged steps) (logged steps))) ≡ but_times (after n (cond b (event ∷ logged steps) (logged steps)))
    by_kind true is made left = made is
    by_kind false is made left = left

-- a front of a front is a front
front_of_front : (n k : ℕ) (xs : List (List ManagerEvent)) → (j : ℕ) × (take n (take k xs) ≡ take j xs)
front_of_front n k xs = ⊎_elim
    (λ (l : k < n). (k, take_all n (take k xs) (let h = length-take k xs in omega (arith, h, l))))
    (λ (g : n ≤ k). (n, take-take n k xs g)) (cases_lt k n)

none_left : (left : ℕ) → ◌≡◌ {A = List (List ManagerEvent)} (take left []) []
none_left left = take-nil left

-- each letter of these steps is one of a step among them
record IsOneStep (m : ManagerState) (steps : List ManagerEvent) (letter : Letter) : Type 0 where
  before : List ManagerEvent
  step : ManagerEvent
  later : List ManagerEvent
  stands : steps ≡ before ++ step ∷ later
  stepped : ManagerStepped
  made : manager_step (after m before) step ≡ Ok stepped
  said : In stepped.letters letter

one_step : (m : ManagerState) (steps : List ManagerEvent) → AreTaken m steps → (letter : Letter) → In (letters_of m steps) letter → IsOneStep m steps letter
one_step m [] taken letter h = absurd h
one_step m (event ∷ steps) taken letter h = ⊎_elim
    (λ (i : In (letters_or (manager_step m event)) letter). here (manager_step m event) refl i)
    (λ (i : In (letters_of (manager_or m (manager_step m event)) steps) letter).
    let o = one_step (manager_or m (manager_step m event)) steps taken.1 letter i in
    record { before = event ∷ o.before; step = o.step; later = o.later; stands = ap (λ (xs : List ManagerEvent). event ∷ xs) o.stands; stepped = o.stepped; made = o.made; said = o.said })
    (in_either (letters_or (manager_step m event)) (letters_of (manager_or m (manager_step m event)) steps) letter h)
  where
    here : (result : Result ManagerStepped ManagerFault) → manager_step m event ≡ result → In (letters_or result) letter → IsOneStep m (event ∷ steps) letter
    here (Ok stepped) is i = record { before = []; step = event; later = steps; stands = refl; stepped = stepped; made = is; said = i }
    here (Err fault) is i = absurd i

module _ (first : ManagerState) where
  -- what every process keeps
  pub record Keeps (p : Process) : Type 0 where
    pub same : but_times p.manager ≡ but_times (after first (log_of (p.synced ++ p.unsynced)))
    pub cuts : (left : ℕ) → (m : ManagerState) × In p.was m × (but_times m ≡ but_times (after first (log_of (p.synced ++ take left p.unsynced))))
    pub back : (letter : Letter) → In p.kept_back letter → IsSaidIn first (steps_of (p.synced ++ p.unsynced)) letter
    pub free : (letter : Letter) → In p.free letter → IsSaidIn first (steps_of p.synced) letter
    pub said : (letter : Letter) → In p.said letter → IsSaidIn first (steps_of p.synced) letter

  said_more : (xs ys : List (List ManagerEvent)) (letter : Letter) → IsSaidIn first (steps_of xs) letter → IsSaidIn first (steps_of (xs ++ ys)) letter
  said_more xs ys letter h = record {
    before = h.before;
    step = h.step;
    later = h.later ++ steps_of ys;
    stands = steps_more xs ys ∙ ap (λ (zs : List ManagerEvent). zs ++ steps_of ys) h.stands ∙ append_assoc h.before (h.step ∷ h.later) (steps_of ys);
    manager = h.manager;
    then = h.then;
    stepped = h.stepped;
    made = h.made;
    said = h.said;
  }

  batch_kept : (p : Process) (steps : List ManagerEvent) → AreTaken p.manager steps → Keeps p → Keeps (next first p (Batch steps))
  batch_kept p steps taken k = record {
    same = now;
    cuts = λ left. ⊎_elim
        (λ (l : length p.unsynced < left).
        let all : take left (p.unsynced ++ steps ∷ []) ≡ p.unsynced ++ steps ∷ [] = take_all left (p.unsynced ++ steps ∷ []) (let n = length-append p.unsynced (steps ∷ []) in omega (arith, l, n)) in
        (after p.manager steps, inl refl, subst (λ (xs : List (List ManagerEvent)). but_times (after p.manager steps) ≡ but_times (after first (log_of (p.synced ++ xs)))) (sym all) now))
        (λ (g : left ≤ length p.unsynced).
        let front : take left (p.unsynced ++ steps ∷ []) ≡ take left p.unsynced = take-append-le left p.unsynced (steps ∷ []) g in
        let c = k.cuts left in
        (c.0, inr c.1, subst (λ (xs : List (List ManagerEvent)). but_times c.0 ≡ but_times (after first (log_of (p.synced ++ xs)))) (sym front) c.2)) (cases_lt (length p.unsynced) left);
    back = λ letter h. subst (λ (xs : List (List ManagerEvent)). IsSaidIn first (steps_of xs) letter) whole (⊎_elim
        (λ (i : In p.kept_back letter). said_more (p.synced ++ p.unsynced) (steps ∷ []) letter (k.back letter i))
        (λ (i : In (letters_of p.manager steps) letter). new letter (one_step p.manager steps taken letter i)) (in_either p.kept_back (letters_of p.manager steps) letter h));
    free = k.free;
    said = k.said;
  }
    where
      whole : (p.synced ++ p.unsynced) ++ steps ∷ [] ≡ p.synced ++ (p.unsynced ++ steps ∷ [])
      whole = append_assoc p.synced p.unsynced (steps ∷ [])

      -- behind some of the steps it is what the log makes with what is logged of them
      behind : (some : List ManagerEvent) → but_times (after p.manager some) ≡ but_times (after first (logged (steps_of (p.synced ++ p.unsynced) ++ some)))
      behind some = log_is_enough p.manager (after first (log_of (p.synced ++ p.unsynced))) some k.same
          ∙ ap but_times (sym (after_more first (log_of (p.synced ++ p.unsynced)) (logged some)) ∙ ap (after first) (sym (logged_more (steps_of (p.synced ++ p.unsynced)) some)))

      now : but_times (after p.manager steps) ≡ but_times (after first (log_of (p.synced ++ (p.unsynced ++ steps ∷ []))))
      now = behind steps ∙ ap (λ (xs : List ManagerEvent). but_times (after first (logged xs)))
          (ap (λ (ys : List ManagerEvent). steps_of (p.synced ++ p.unsynced) ++ ys) (sym (append-nil steps)) ∙ sym (steps_more (p.synced ++ p.unsynced) (steps ∷ [])) ∙ ap steps_of whole)

      new : (letter : Letter) → IsOneStep p.manager steps letter → IsSaidIn first (steps_of ((p.synced ++ p.unsynced) ++ steps ∷ [])) letter
      new letter o = record {
        before = steps_of (p.synced ++ p.unsynced) ++ o.before;
        step = o.step;
        later = o.later;
        stands = steps_more (p.synced ++ p.unsynced) (steps ∷ []) ∙ ap (λ (xs : List ManagerEvent). steps_of (p.synced ++ p.unsynced) ++ xs) (append-nil steps ∙ o.stands)
            ∙ sym (append_assoc (steps_of (p.synced ++ p.unsynced)) o.before (o.step ∷ o.later));
        manager = after p.manager o.before;
        then = behind o.before;
        stepped = o.stepped;
        made = o.made;
        said = o.said;
      }

  pub event_kept : (p : Process) (event : LogEvent) → MayHappen first p event → Keeps p → Keeps (next first p event)
  event_kept p (Batch steps) may k = batch_kept p steps may k
  event_kept p Sync may k = record {
    same = k.same ∙ ap (λ (xs : List (List ManagerEvent)). but_times (after first (log_of xs))) (sym (append-nil (p.synced ++ p.unsynced)));
    cuts = λ left. let c = k.cuts (length p.unsynced) in (c.0, c.1, subst (λ (xs : List (List ManagerEvent)). but_times c.0 ≡ but_times (after first (log_of xs))) (whole left) c.2);
    back = λ letter h. absurd h;
    free = λ letter h. ⊎_elim (λ (i : In p.free letter). said_more p.synced p.unsynced letter (k.free letter i)) (λ (i : In p.kept_back letter). k.back letter i) (in_either p.free p.kept_back letter h);
    said = λ letter h. said_more p.synced p.unsynced letter (k.said letter h);
  }
    where
      whole : (left : ℕ) → p.synced ++ take (length p.unsynced) p.unsynced ≡ (p.synced ++ p.unsynced) ++ take left []
      whole left = ap (λ (xs : List (List ManagerEvent)). p.synced ++ xs) (take-length p.unsynced) ∙ sym (append-nil (p.synced ++ p.unsynced)) ∙ ap (λ (xs : List (List ManagerEvent)). (p.synced ++ p.unsynced) ++ xs) (sym (none_left left))
  event_kept p (Say letter) may k = record {
    same = k.same;
    cuts = k.cuts;
    back = k.back;
    free = k.free;
    said = λ other h. ⊎_elim (λ (e : other ≡ letter). rw e (k.free letter may)) (λ (i : In p.said other). k.said other i) h;
  }
  event_kept p (Note until) may k = record { same = k.same; cuts = k.cuts; back = k.back; free = k.free; said = k.said }
  event_kept p (Return left) may k = record {
    same = returned_same first first (steps_of (p.synced ++ take left p.unsynced)) refl;
    cuts = λ more.
        let f = front_of_front more left p.unsynced in
        let c = k.cuts f.0 in
        (c.0, c.1, subst (λ (xs : List (List ManagerEvent)). but_times c.0 ≡ but_times (after first (log_of (p.synced ++ xs)))) (sym f.1) c.2);
    back = λ letter h. absurd h;
    free = λ letter h. absurd h;
    said = k.said;
  }

  pub start_keeps : Keeps (start first)
  start_keeps = record {
    same = refl;
    cuts = λ left. (first, inl refl, ap (λ (xs : List (List ManagerEvent)). but_times (after first (log_of xs))) (sym (none_left left)));
    back = λ letter h. absurd h;
    free = λ letter h. absurd h;
    said = λ letter h. absurd h;
  }

  pub run_kept : (p : Process) → Keeps p → (events : List LogEvent) → IsRun first p events → Keeps (last_process first p events)
  run_kept p k [] run = k
  run_kept p k (event ∷ events) run = run_kept (next first p event) (event_kept p event run.0 k) events run.1

pub logs_are_replayed : LogsAreReplayed
logs_are_replayed first events run = let k = run_kept first (start first) (start_keeps first) events run in record { same = k.same; cuts = k.cuts; stays = k.said }
