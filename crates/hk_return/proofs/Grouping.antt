-- A group whose managers keep logs is followed by a council whose managers make each step when its record is synced.
use Rattle.std.proofs.Common.{◌≡◌, ◌⊎◌, true, cond, nat_lt, ◌≢◌, ℕ, zero, suc, ◌<◌, ◌≤◌, max, List, [], ◌∷◌, ◌++◌, take, drop, Bool, false, Result, Ok, Err, refl, sym, ap, subst, ◌∙◌, inl, inr, ⊎_elim, arith, le_refl, append-nil}
use Rattle.std.proofs.lemmas.Bool.{cases_eq}
use Rattle.std.proofs.lemmas.List.{take-append-drop}
use Rattle.hk_base.specs.declared.view.View.{View}
use Rattle.hk_base.specs.declared.letter.Letter.{Letter}
use Rattle.hk_paxos.specs.Run.{In}
use Rattle.hk_paxos.proofs.Quorums.{in_either, in_right}
use Rattle.hk_lease.specs.Past.{past_answer}
use Rattle.hk_manager.specs.declared.event.ManagerEvent.{ManagerEvent}
use Rattle.hk_manager.specs.declared.event.ManagerEvent.TheVariants as asked
use Rattle.hk_manager.specs.declared.fault.ManagerFault.{ManagerFault}
use Rattle.hk_manager.specs.Manager.{ManagerState}
use Rattle.hk_manager.specs.Steps.{ManagerStepped, manager_step}
use Rattle.hk_council.specs.Council.{Council, Event as CouncilEvent, WasSent, last_epoch, learned_with, stepped_by as council_by, next as next_council, MayHappen as MayHappenInCouncil, IsRun as IsCouncilRun, last_council, start as start_council}
use Rattle.hk_council.specs.Agreed.{IsAgreed}
use Rattle.hk_council.proofs.Chains.{in_left}
use Rattle.hk_council.proofs.Runs.{agreement}
use Rattle.hk_earned.proofs.Places.{by_put}
use Rattle.hk_return.specs.Log.{manager_or, letters_or, after, letters_of, steps_of, logged, log_of, but_times, Process, LogEvent, next as next_process}
use Rattle.hk_return.specs.Log.LogEvent.{Batch, Sync, Say, Note, Return}
use Rattle.hk_return.specs.Group.{Group, GroupEvent, goes_out, WentOut, first, next, MayHappen, IsRun, last_group, start, ReturningManagersAgree}
use Rattle.hk_return.specs.Group.GroupEvent.{At, Post}
use Rattle.hk_return.proofs.Timeless.{IsSame, taken_too, past_all, all_past}
use Rattle.hk_return.proofs.Replaying.{after_more, logged_more, steps_more, log_more, Keeps, event_kept, start_keeps}
use Rattle.hk_return.proofs.Making.{Makes, makes_all, makes_more, makes_front, one_more}

-- letters are never taken away
was_sent_later : (c d : Council) → ((letter : Letter) → In c.sent letter → In d.sent letter) → (event : ManagerEvent) → WasSent c event → WasSent d event
was_sent_later c d up (asked.Receive letter) was = up letter was
was_sent_later c d up (asked.Propose base change) was = tt
was_sent_later c d up asked.Activate was = tt
was_sent_later c d up (asked.Tick now) was = tt

went_out : (sent : List Letter) (c : Council) → ((letter : Letter) → In sent letter → In c.sent letter) → (event : ManagerEvent) → WentOut sent event → WasSent c event
went_out sent c up (asked.Receive letter) was = up letter was
went_out sent c up (asked.Propose base change) was = tt
went_out sent c up asked.Activate was = tt
went_out sent c up (asked.Tick now) was = tt

learned_grows : (views : List View) (new view : View) → In views view → In (learned_with views new) view
learned_grows views new view i = by_order (nat_lt (last_epoch views) new.epoch)
  where
    by_order : (b : Bool) → In (cond b (views ++ new ∷ []) views) view
    by_order true = in_left views (new ∷ []) view i
    by_order false = i

-- a front of two lists is one of the first, or the first and a front of the second
abbrev rest_of : List ManagerEvent → List ManagerEvent
rest_of [] = []
rest_of (x ∷ xs) = xs

abbrev first_of : ManagerEvent → List ManagerEvent → ManagerEvent
first_of x [] = x
first_of x (y ∷ ys) = y

abbrev Split : (xs ys before later : List ManagerEvent) → Type 0
Split xs ys before later = ((rest : List ManagerEvent) × (xs ≡ before ++ rest)) ⊎ ((some : List ManagerEvent) × (before ≡ xs ++ some) × (ys ≡ some ++ later))

split : (xs ys before later : List ManagerEvent) → xs ++ ys ≡ before ++ later → Split xs ys before later
split [] ys before later e = inr (before, refl, e)
split (x ∷ xs) ys [] later e = inl (x ∷ xs, refl)
split (x ∷ xs) ys (b ∷ before) later e =
    let one : x ≡ b = ap (first_of x) e in
    ⊎_elim
    (λ (l : (rest : List ManagerEvent) × (xs ≡ before ++ rest)). inl (l.0, ap (λ (zs : List ManagerEvent). x ∷ zs) l.1 ∙ ap (λ (z : ManagerEvent). z ∷ before ++ l.0) one))
    (λ (r : (some : List ManagerEvent) × (before ≡ xs ++ some) × (ys ≡ some ++ later)). inr (r.0, ap (λ (zs : List ManagerEvent). b ∷ zs) r.1 ∙ ap (λ (z : ManagerEvent). z ∷ xs ++ r.0) (sym one), r.2))
    (split xs ys before later (ap rest_of e))

-- ---- what one step makes of a council
record StepsTo (c d : Council) (m : ℕ) (result : Result ManagerStepped ManagerFault) : Type 0 where
  there : d.manager m ≡ manager_or (c.manager m) result
  others : (k : ℕ) → k ≢ m → d.manager k ≡ c.manager k
  grows : (letter : Letter) → In c.sent letter → In d.sent letter
  letters : (letter : Letter) → In (letters_or result) letter → In d.sent letter
  learns : (view : View) → In c.learned view → In d.learned view
  stopped : d.stopped ≡ c.stopped

steps_to : (c : Council) (m : ℕ) (result : Result ManagerStepped ManagerFault) → StepsTo c (council_by c m result) m result
steps_to c m (Err fault) = record { there = refl; others = λ k d. refl; grows = λ letter i. i; letters = λ letter i. absurd i; learns = λ view i. i; stopped = refl }
steps_to c m (Ok stepped) = record {
  there = by_put (λ (x : ManagerState). x ≡ stepped.manager) m stepped.manager c.manager m (λ e. refl) (λ d. absurd (d refl));
  others = λ k d. by_put (λ (x : ManagerState). x ≡ c.manager k) m stepped.manager c.manager k (λ e. absurd (d e)) (λ o. refl);
  grows = λ letter i. in_left c.sent stepped.letters letter i;
  letters = λ letter i. in_right c.sent stepped.letters letter i;
  learns = λ view i. learned_grows c.learned stepped.manager.held view i;
  stopped = refl;
}

-- the council learned each view that these steps make the manager hold
abbrev Learned : Council → ManagerState → List ManagerEvent → Type 0
Learned d n steps = (before later : List ManagerEvent) → steps ≡ before ++ later → In d.learned (after n (logged before)).held

learned_none : (d : Council) (n : ManagerState) → In d.learned n.held → Learned d n []
learned_none d n i [] later e = i
learned_none d n i (b ∷ before) later e = absurd cc

learned_more : (d : Council) (n : ManagerState) (event : ManagerEvent) (steps : List ManagerEvent) (then : ManagerState) (x : ManagerStepped) → but_times then ≡ but_times n → manager_step then event ≡ Ok x → In d.learned n.held → Learned d x.manager steps →
    Learned d n (event ∷ steps)
learned_more d n event steps then x same made i more [] later e = i
learned_more d n event steps then x same made i more (b ∷ before) later e =
    let one : event ≡ b = ap (first_of event) e in
    let h = more before later (ap rest_of e) in
    let is : but_times (after x.manager (logged before)) ≡ but_times (after n (logged (event ∷ before))) = one_more then n event before x same made in
    subst (λ (y : ManagerEvent). In d.learned (after n (logged (y ∷ before))).held) one (subst (λ (y : ManagerState). In d.learned y.held) is h)

module _ (managers : ℕ) where
  -- by some run
  record Reaches (c d : Council) : Type 0 where
    events : List CouncilEvent
    run : IsCouncilRun managers c events
    last : last_council c events ≡ d

  nowhere : (c : Council) → Reaches c c
  nowhere c = record { events = []; run = tt; last = refl }

  run_more : (c : Council) (xs ys : List CouncilEvent) → IsCouncilRun managers c xs → IsCouncilRun managers (last_council c xs) ys → IsCouncilRun managers c (xs ++ ys)
  run_more c [] ys p q = q
  run_more c (x ∷ xs) ys p q = (p.0, run_more (next_council c x) xs ys p.1 q)

  last_more : (c : Council) (xs ys : List CouncilEvent) → last_council c (xs ++ ys) ≡ last_council (last_council c xs) ys
  last_more c [] ys = refl
  last_more c (x ∷ xs) ys = last_more (next_council c x) xs ys

  onward : (c d e : Council) → Reaches c d → Reaches d e → Reaches c e
  onward c d e r q = record {
    events = r.events ++ q.events;
    run = run_more c r.events q.events r.run (subst (λ (x : Council). IsCouncilRun managers x q.events) (sym r.last) q.run);
    last = last_more c r.events q.events ∙ ap (λ (x : Council). last_council x q.events) r.last ∙ q.last;
  }

  by_event : (c : Council) (event : CouncilEvent) → MayHappenInCouncil managers c event → Reaches c (next_council c event)
  by_event c event may = record { events = event ∷ []; run = (may, tt); last = refl }

  -- a manager does something that comes to this manager but for its times, and sends these letters
  record Comes (c d : Council) (m : ℕ) (is : ManagerState) (letters : List Letter) : Type 0 where
    reaches : Reaches c d
    there : but_times (d.manager m) ≡ but_times is
    others : (k : ℕ) → k ≢ m → d.manager k ≡ c.manager k
    grows : (letter : Letter) → In c.sent letter → In d.sent letter
    told : (letter : Letter) → In letters letter → In d.sent letter
    learns : (view : View) → In c.learned view → In d.learned view
    stopped : d.stopped ≡ c.stopped

  -- One step that a process made. First the clock of the council's manager rises past all that it noted.
  step_too : (m : ℕ) → m < managers → (c : Council) → c.stopped m ≡ false → (then : ManagerState) → but_times then ≡ but_times (c.manager m) → (event : ManagerEvent) (x : ManagerStepped) → manager_step then event ≡ Ok x → WasSent c event →
      (d : Council) × Comes c d m x.manager x.letters
  step_too m known c up then same event x made heard = (
    after_step,
    record {
      reaches = onward c ticked after_step (by_event c tick (record { known = known; running = up }, tt)) (by_event ticked step (record { known = known; running = ap (λ (f : ℕ → Bool). f m) s.stopped ∙ up }, was_sent_later c ticked s.grows event heard));
      there = ap but_times (t.there ∙ ap (manager_or (ticked.manager m)) taken.1) ∙ sym taken.2.manager;
      others = λ k d. t.others k d ∙ s.others k d;
      grows = λ letter i. t.grows letter (s.grows letter i);
      told = λ letter i. t.letters letter (subst (λ (r : Result ManagerStepped ManagerFault). In (letters_or r) letter) (sym taken.1) (subst (λ (ls : List Letter). In ls letter) taken.2.letters i));
      learns = λ view i. t.learns view (s.learns view i);
      stopped = t.stopped ∙ s.stopped;
    },
  )
    where
      late : ℕ
      late = past_all (c.manager m).untils

      tick : CouncilEvent
      tick = CouncilEvent.Step m (asked.Tick late)

      step : CouncilEvent
      step = CouncilEvent.Step m event

      ticked : Council
      ticked = next_council c tick

      s : StepsTo c ticked m (manager_step (c.manager m) (asked.Tick late))
      s = steps_to c m (manager_step (c.manager m) (asked.Tick late))

      after_step : Council
      after_step = next_council ticked step

      t : StepsTo ticked after_step m (manager_step (ticked.manager m) event)
      t = steps_to ticked m (manager_step (ticked.manager m) event)

      past : past_answer (ticked.manager m).untils (ticked.manager m).held (ticked.manager m).clock ≡ Ok tt
      past = subst (λ (y : ManagerState). past_answer y.untils y.held y.clock ≡ Ok tt) (sym s.there) (all_past (c.manager m).untils (c.manager m).held (max (c.manager m).clock late) (omega arith))

      taken : (y : ManagerStepped) × (manager_step (ticked.manager m) event ≡ Ok y) × IsSame x y
      taken = taken_too then (ticked.manager m) event x (same ∙ sym (ap but_times s.there)) made past

  -- the steps of a process, one after the other
  steps_too : (m : ℕ) → m < managers → (c : Council) → c.stopped m ≡ false → (n : ManagerState) → but_times n ≡ but_times (c.manager m) → (steps : List ManagerEvent) (letters : List Letter) → Makes n steps letters →
      ((event : ManagerEvent) → In steps event → WasSent c event) → ((d : Council) → Reaches c d → In d.learned (d.manager m).held) → (d : Council) × Comes c d m (after n (logged steps)) letters × Learned d n steps
  steps_too m known c up n same [] letters h heard held = (
    c,
    record { reaches = nowhere c; there = sym same; others = λ k d. refl; grows = λ letter i. i; told = λ letter i. absurd (h letter i); learns = λ view i. i; stopped = refl },
    learned_none c n (subst (λ (x : ManagerState). In c.learned x.held) (sym same) (held c (nowhere c))),
  )
  steps_too m known c up n same (event ∷ steps) letters h heard held =
      let a = step_too m known c up h.then (h.same ∙ same) event h.stepped h.made (heard event (inl refl)) in
      let b = steps_too m known a.0 (ap (λ (f : ℕ → Bool). f m) a.1.stopped ∙ up) h.stepped.manager (sym a.1.there) steps h.more h.rest (λ e i. was_sent_later c a.0 a.1.grows e (heard e (inr i))) (λ d r. held d (onward c a.0 d a.1.reaches r)) in (
        b.0,
        record {
          reaches = onward c a.0 b.0 a.1.reaches b.1.reaches;
          there = b.1.there ∙ one_more h.then n event steps h.stepped h.same h.made;
          others = λ k d. b.1.others k d ∙ a.1.others k d;
          grows = λ letter i. b.1.grows letter (a.1.grows letter i);
          told = λ letter i. ⊎_elim (λ (now : In h.stepped.letters letter). b.1.grows letter (a.1.told letter now)) (λ (later : In h.more letter). b.1.told letter later) (h.split letter i);
          learns = λ view i. b.1.learns view (a.1.learns view i);
          stopped = b.1.stopped ∙ a.1.stopped;
        },
        learned_more b.0 n event steps h.then h.stepped h.same h.made (subst (λ (x : ManagerState). In b.0.learned x.held) (sym same) (b.1.learns (c.manager m).held (a.1.learns (c.manager m).held (held c (nowhere c))))) b.2,
      )

module _ (managers lease : ℕ) (view : View) where
  -- a manager of the council is what the synced part of the log makes, and can make the other steps
  record Fits (c : Council) (m : ℕ) (p : Process) : Type 0 where
    manager : but_times (c.manager m) ≡ but_times (after (first managers lease view m) (log_of p.synced))
    free : (letter : Letter) → In p.free letter → In c.sent letter
    makes : Makes (after (first managers lease view m) (log_of p.synced)) (steps_of p.unsynced) p.kept_back
    heard : (event : ManagerEvent) → In (steps_of p.unsynced) event → WasSent c event
    views : Learned c (first managers lease view m) (steps_of p.synced)
    kept : Keeps (first managers lease view m) p

  record Mirrors (g : Group) (c : Council) : Type 0 where
    reaches : Reaches managers (start_council managers lease view) c
    up : (m : ℕ) → c.stopped m ≡ false
    sent : (letter : Letter) → In g.sent letter → In c.sent letter
    each : (m : ℕ) → Fits c m (g.process m)

  fits_later : (c d : Council) (m : ℕ) (p : Process) → d.manager m ≡ c.manager m → ((letter : Letter) → In c.sent letter → In d.sent letter) → ((v : View) → In c.learned v → In d.learned v) → Fits c m p → Fits d m p
  fits_later c d m p same grows learns f = record {
    manager = ap but_times same ∙ f.manager;
    free = λ letter i. grows letter (f.free letter i);
    makes = f.makes;
    heard = λ event i. was_sent_later c d grows event (f.heard event i);
    views = λ before later e. learns (after (first managers lease view m) (logged before)).held (f.views before later e);
    kept = f.kept;
  }

  -- what the log makes with more records
  log_goes_on : (m : ℕ) (xs ys : List (List ManagerEvent)) → after (first managers lease view m) (log_of (xs ++ ys)) ≡ after (after (first managers lease view m) (log_of xs)) (log_of ys)
  log_goes_on m xs ys = ap (after (first managers lease view m)) (log_more xs ys) ∙ after_more (first managers lease view m) (log_of xs) (log_of ys)

  module _ (c : Council) (m : ℕ) (p : Process) (f : Fits c m p) where
    abbrev synced_by : ManagerState
    synced_by = after (first managers lease view m) (log_of p.synced)

    abbrev one : ManagerState
    one = first managers lease view m

    fits_batch : (steps : List ManagerEvent) → ((event : ManagerEvent) → In steps event → WasSent c event) → Makes p.manager steps (letters_of p.manager steps) → Keeps one (next_process one p (Batch steps)) → Fits c m (next_process one p (Batch steps))
    fits_batch steps heard makes kept = record {
      manager = f.manager;
      free = f.free;
      makes = subst (λ (xs : List ManagerEvent). Makes synced_by xs (p.kept_back ++ letters_of p.manager steps)) (sym whole)
          (makes_more synced_by p.manager (steps_of p.unsynced) steps p.kept_back (letters_of p.manager steps) f.makes makes (f.kept.same ∙ ap but_times (log_goes_on m p.synced p.unsynced)));
      heard = λ event i. ⊎_elim (f.heard event) (heard event) (in_either (steps_of p.unsynced) steps event (subst (λ (xs : List ManagerEvent). In xs event) whole i));
      views = f.views;
      kept = kept;
    }
      where
        whole : steps_of (p.unsynced ++ steps ∷ []) ≡ steps_of p.unsynced ++ steps
        whole = steps_more p.unsynced (steps ∷ []) ∙ ap (λ (xs : List ManagerEvent). steps_of p.unsynced ++ xs) (append-nil steps)

    -- what is synced and what is not
    learned_all : (d : Council) → ((v : View) → In c.learned v → In d.learned v) → Learned d synced_by (steps_of p.unsynced) → Learned d one (steps_of (p.synced ++ p.unsynced))
    learned_all d learns more before later e = ⊎_elim
        (λ (l : (rest : List ManagerEvent) × (steps_of p.synced ≡ before ++ rest)). learns (after one (logged before)).held (f.views before l.0 l.1))
        (λ (r : (some : List ManagerEvent) × (before ≡ steps_of p.synced ++ some) × (steps_of p.unsynced ≡ some ++ later)).
        let is : after one (logged before) ≡ after synced_by (logged r.0) = ap (λ (xs : List ManagerEvent). after one (logged xs)) r.1 ∙ ap (after one) (logged_more (steps_of p.synced) r.0) ∙ after_more one (log_of p.synced) (logged r.0) in
        subst (λ (x : ManagerState). In d.learned x.held) (sym is) (more r.0 later r.2))
        (split (steps_of p.synced) (steps_of p.unsynced) before later (sym (steps_more p.synced p.unsynced) ∙ e))

    fits_sync : (d : Council) → Comes managers c d m (after synced_by (log_of p.unsynced)) p.kept_back → Learned d synced_by (steps_of p.unsynced) → Keeps one (next_process one p Sync) → Fits d m (next_process one p Sync)
    fits_sync d r more kept = record {
      manager = r.there ∙ sym (ap but_times (log_goes_on m p.synced p.unsynced));
      free = λ letter i. ⊎_elim (λ (old : In p.free letter). r.grows letter (f.free letter old)) (r.told letter) (in_either p.free p.kept_back letter i);
      makes = λ letter i. i;
      heard = λ event i. absurd i;
      views = learned_all d r.learns more;
      kept = kept;
    }

    fits_return : (left : ℕ) → Keeps one (next_process one p (Return left)) → Fits c m (next_process one p (Return left))
    fits_return left kept = record {
      manager = f.manager;
      free = λ letter i. absurd i;
      makes = makes_front synced_by (steps_of (take left p.unsynced)) (steps_of (drop left p.unsynced)) p.kept_back (subst (λ (xs : List ManagerEvent). Makes synced_by xs p.kept_back) whole f.makes);
      heard = λ event i. f.heard event (subst (λ (xs : List ManagerEvent). In xs event) (sym whole) (in_left (steps_of (take left p.unsynced)) (steps_of (drop left p.unsynced)) event i));
      views = f.views;
      kept = kept;
    }
      where
        whole : steps_of p.unsynced ≡ steps_of (take left p.unsynced) ++ steps_of (drop left p.unsynced)
        whole = ap steps_of (sym (take-append-drop left p.unsynced)) ∙ steps_more (take left p.unsynced) (drop left p.unsynced)

  agrees : (c : Council) → view.epoch ≡ 1 → Reaches managers (start_council managers lease view) c → IsAgreed managers c
  agrees c early r = subst (IsAgreed managers) r.last (agreement managers lease view r.events early r.run)

  -- what a manager of a council holds is learned
  held_in : view.epoch ≡ 1 → (m : ℕ) → m < managers → (c : Council) → Reaches managers (start_council managers lease view) c → (d : Council) → Reaches managers c d → In d.learned (d.manager m).held
  held_in early m known c r d q = (agrees d early (onward managers (start_council managers lease view) c d r q)).held m known

  -- one process changes, and the council goes on by what that makes safe
  at_one : (g : Group) (c d : Council) (m : ℕ) (event : LogEvent) → Mirrors g c → Reaches managers c d → d.stopped ≡ c.stopped → ((letter : Letter) → In c.sent letter → In d.sent letter) → ((v : View) → In c.learned v → In d.learned v) →
      ((k : ℕ) → k ≢ m → d.manager k ≡ c.manager k) → ((letter : Letter) → In (goes_out event) letter → In d.sent letter) → Fits d m (next_process (first managers lease view m) (g.process m) event) →
      Mirrors (next managers lease view g (At m event)) d
  at_one g c d m event a r stopped grows learns others out fits = record {
    reaches = onward managers (start_council managers lease view) c d a.reaches r;
    up = λ k. ap (λ (f : ℕ → Bool). f k) stopped ∙ a.up k;
    sent = λ letter i. ⊎_elim (λ (old : In g.sent letter). grows letter (a.sent letter old)) (λ (new : In (goes_out event) letter). out letter new) (in_either g.sent (goes_out event) letter i);
    each = λ k. by_put (Fits d k) m (next_process (first managers lease view m) (g.process m) event) g.process k
        (λ e. subst (λ (x : ℕ). Fits d x (next_process (first managers lease view m) (g.process m) event)) (sym e) fits)
        (λ n. fits_later c d k (g.process k) (others k n) grows learns (a.each k));
  }

  -- the council stays as it is
  at_rest : (g : Group) (c : Council) (m : ℕ) (event : LogEvent) → Mirrors g c → ((letter : Letter) → In (goes_out event) letter → In c.sent letter) → Fits c m (next_process (first managers lease view m) (g.process m) event) →
      Mirrors (next managers lease view g (At m event)) c
  at_rest g c m event a out fits = at_one g c c m event a (nowhere managers c) refl (λ letter i. i) (λ v i. i) (λ k d. refl) out fits

  follow : view.epoch ≡ 1 → (g : Group) (event : GroupEvent) → MayHappen managers lease view g event → (c : Council) → Mirrors g c → (d : Council) × Mirrors (next managers lease view g event) d
  follow early g (At m (Batch steps)) may c a =
      let p = g.process m in
      let f = a.each m in (
        c,
        at_rest g c m (Batch steps) a (λ letter i. absurd i)
            (fits_batch c m p f steps (λ event i. went_out g.sent c a.sent event (may.2 event i)) (makes_all p.manager steps may.1) (event_kept (first managers lease view m) p (Batch steps) may.1 f.kept)),
      )
  follow early g (At m Sync) may c a =
      let p = g.process m in
      let f = a.each m in
      let r = steps_too managers m may.0 c (a.up m) (after (first managers lease view m) (log_of p.synced)) (sym f.manager) (steps_of p.unsynced) p.kept_back f.makes f.heard (held_in early m may.0 c a.reaches) in
      (r.0, at_one g c r.0 m Sync a r.1.reaches r.1.stopped r.1.grows r.1.learns r.1.others (λ letter i. absurd i) (fits_sync c m p f r.0 r.1 r.2 (event_kept (first managers lease view m) p Sync tt f.kept)))
  follow early g (At m (Say letter)) may c a =
      let f = a.each m in (
        c,
        at_rest g c m (Say letter) a (λ x i. ⊎_elim (λ (s : x ≡ letter). rw s (f.free letter may.1)) (λ (z : ⊥). absurd z) i)
            (record { manager = f.manager; free = f.free; makes = f.makes; heard = f.heard; views = f.views; kept = event_kept (first managers lease view m) (g.process m) (Say letter) may.1 f.kept }),
      )
  follow early g (At m (Note until)) may c a =
      let f = a.each m in (
        c,
        at_rest g c m (Note until) a (λ letter i. absurd i)
            (record { manager = f.manager; free = f.free; makes = f.makes; heard = f.heard; views = f.views; kept = event_kept (first managers lease view m) (g.process m) (Note until) tt f.kept }),
      )
  follow early g (At m (Return left)) may c a =
      let f = a.each m in
      (c, at_rest g c m (Return left) a (λ letter i. absurd i) (fits_return c m (g.process m) f left (event_kept (first managers lease view m) (g.process m) (Return left) tt f.kept)))
  follow early g (Post letters) may c a =
      let d : Council = next_council c (CouncilEvent.Post letters) in (
        d,
        record {
          reaches = onward managers (start_council managers lease view) c d a.reaches (by_event managers c (CouncilEvent.Post letters) may);
          up = a.up;
          sent = λ letter i. ⊎_elim (λ (old : In g.sent letter). in_left c.sent letters letter (a.sent letter old)) (λ (new : In letters letter). in_right c.sent letters letter new) (in_either g.sent letters letter i);
          each = λ m. fits_later c d m (g.process m) refl (λ letter i. in_left c.sent letters letter i) (λ v i. i) (a.each m);
        },
      )

  follow_run : view.epoch ≡ 1 → (g : Group) (c : Council) → Mirrors g c → (events : List GroupEvent) → IsRun managers lease view g events → (d : Council) × Mirrors (last_group managers lease view g events) d
  follow_run early g c a [] run = (c, a)
  follow_run early g c a (event ∷ events) run = let r = follow early g event run.0 c a in follow_run early (next managers lease view g event) r.0 r.1 events run.1

  -- ---- what is not synced yet, too
  record Ends (g : Group) (c d : Council) (k : ℕ) : Type 0 where
    reaches : Reaches managers c d
    done : (m : ℕ) → m < k → but_times (d.manager m) ≡ but_times (g.process m).manager
    rest : (m : ℕ) → k ≤ m → d.manager m ≡ c.manager m
    grows : (letter : Letter) → In c.sent letter → In d.sent letter
    learns : (v : View) → In c.learned v → In d.learned v
    views : (m : ℕ) → m < k → Learned d (first managers lease view m) (steps_of ((g.process m).synced ++ (g.process m).unsynced))
    stopped : d.stopped ≡ c.stopped

  end_all : view.epoch ≡ 1 → (g : Group) (c : Council) → Mirrors g c → (k : ℕ) → k ≤ managers → (d : Council) × Ends g c d k
  end_all early g c a zero low = (c, record { reaches = nowhere managers c; done = λ m l. absurd (omega (arith, l)); rest = λ m l. refl; grows = λ letter i. i; learns = λ v i. i; views = λ m l. absurd (omega (arith, l)); stopped = refl })
  end_all early g c a (suc k) low =
      let e = end_all early g c a k (omega (arith, low)) in
      let p = g.process k in
      let f = a.each k in
      let r = steps_too managers k (omega (arith, low)) e.0 (ap (λ (f : ℕ → Bool). f k) e.1.stopped ∙ a.up k) (after (first managers lease view k) (log_of p.synced)) (sym (ap but_times (e.1.rest k (le_refl k)) ∙ f.manager)) (steps_of p.unsynced) p.kept_back f.makes
      (λ event i. was_sent_later c e.0 e.1.grows event (f.heard event i)) (held_in early k (omega (arith, low)) e.0 (onward managers (start_council managers lease view) c e.0 a.reaches e.1.reaches)) in (
        r.0,
        record {
          reaches = onward managers c e.0 r.0 e.1.reaches r.1.reaches;
          done = λ m l. ⊎_elim
              (λ (s : m ≡ k). subst (λ (x : ℕ). but_times (r.0.manager x) ≡ but_times (g.process x).manager) (sym s) (r.1.there ∙ sym (f.kept.same ∙ ap but_times (log_goes_on k p.synced p.unsynced))))
              (λ (d : m ≢ k). ap but_times (r.1.others m d) ∙ e.1.done m (omega (arith, l, d))) (cases_eq m k);
          rest = λ m l. r.1.others m (λ s. absurd (omega (arith, l, s))) ∙ e.1.rest m (omega (arith, l));
          grows = λ letter i. r.1.grows letter (e.1.grows letter i);
          learns = λ v i. r.1.learns v (e.1.learns v i);
          views = λ m l before later w. ⊎_elim
              (λ (s : m ≡ k).
              let t : steps_of (p.synced ++ p.unsynced) ≡ before ++ later = subst (λ (x : ℕ). steps_of ((g.process x).synced ++ (g.process x).unsynced) ≡ before ++ later) s w in
              let h = learned_all c k p f r.0 (λ v i. r.1.learns v (e.1.learns v i)) r.2 before later t in
              subst (λ (x : ℕ). In r.0.learned (after (first managers lease view x) (logged before)).held) (sym s) h)
              (λ (d : m ≢ k). r.1.learns (after (first managers lease view m) (logged before)).held (e.1.views m (omega (arith, l, d)) before later w)) (cases_eq m k);
          stopped = r.1.stopped ∙ e.1.stopped;
        },
      )

  start_mirrors : Mirrors (start managers lease view) (start_council managers lease view)
  start_mirrors = record {
    reaches = nowhere managers (start_council managers lease view);
    up = λ m. refl;
    sent = λ letter i. absurd i;
    each = λ m. record { manager = refl; free = λ letter i. absurd i; makes = λ letter i. i; heard = λ event i. absurd i; views = learned_none (start_council managers lease view) (first managers lease view m) (inl refl); kept = start_keeps (first managers lease view m) };
  }

pub returning_managers_agree : ReturningManagersAgree
returning_managers_agree managers lease view events early run =
    let a = follow_run managers lease view early (start managers lease view) (start_council managers lease view) (start_mirrors managers lease view) events run in
    let g : Group = last_group managers lease view (start managers lease view) events in
    let e = end_all managers lease view early g a.0 a.1 managers (le_refl managers) in (
      e.0,
      record { manager = e.1.done; sent = λ letter i. e.1.grows letter (a.1.sent letter i); views = λ m known before later w. e.1.views m known before later w },
      agrees managers lease view e.0 early (onward managers (start_council managers lease view) a.0 e.0 a.1.reaches e.1.reaches),
    )
