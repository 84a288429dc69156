-- Whoever was answered before another began stands before it, across all keys.
use Rattle.std.proofs.Common.{◌≡◌, ℕ, zero, suc, Bool, true, false, cond, ◌+◌, ◌||◌, not, List, [], ◌∷◌, ◌++◌, length, drop, take, get_or, ◌<◌, ◌≤◌, ◌∙◌, sym, refl, ap, subst, inl, inr, ⊎_elim, arith, eqb, eq-zero-or-pos}
use Rattle.std.specs.List.{filter, flat_map, list_any, position_or_len}
use Rattle.std.proofs.lemmas.Bool.{false≢true, false_from_ne_true, eqb-true, cases_lt}
use Rattle.std.proofs.lemmas.List.Sums.{fails_before_first, passes_at_first}
use Rattle.hk_history.specs.declared.event.Event.{Event as HistoryEvent}
use Rattle.hk_history.specs.declared.event.Event.TheVariants as HistoryEvent
use Rattle.hk_history.specs.History.{answer_of, is_call, is_reply, is_answered}
use Rattle.hk_history.specs.Legal.{Legal, Timely, is_entry}
use Rattle.hk_register.specs.Machine.{In}
use Rattle.hk_register.specs.Printed.{Slot, entry_of}
use Rattle.hk_register.proofs.Once.{slot_stands}
use Rattle.hk_register.proofs.Printing.{printed_is}
use Rattle.hk_register.proofs.Tests.{any_in, in_any}
use Rattle.hk_event.specs.declared.event.Event.{Event}
use Rattle.hk_world.specs.World.{WorldState}
use Rattle.hk_world.specs.Start.{start}
use Rattle.hk_effects.specs.Projection.{Trace, project}
use Rattle.hk_effects.specs.Laws.{EventIsEffects}
use Rattle.hk_effects.specs.Orders.{history_of}
use Rattle.hk_effects.specs.Runs.{start_trace, IsKept, RunsKeepParts}
use Rattle.hk_safety.specs.Run.{RunState, AreAccepted, IsRun, trace_of, history, printed, named}
use Rattle.hk_safety.specs.Kept.{called_from}
use Rattle.hk_safety.proofs.Named.{called_append}
use Rattle.hk_safety.proofs.Traces.{run_kept}
use Rattle.hk_safety.specs.Moment.{traces, is_reached, moment, replied_at, up_to}
use Rattle.hk_joint.specs.Joint.{Standing, slots, event_of, standing, standings, standings_at, moments, joint_order, entries_of}
use Rattle.hk_joint.specs.Legal.{joint_history}
use Rattle.hk_joint.proofs.AllKeys.{call_no, is_on, IsOn, on_line, history_on, same_answer}
use Rattle.hk_joint.proofs.Chain.{Views, kept_parts, IsMomentOf, moments_of_run}
use Rattle.hk_safety.proofs.Events.{traces_len}
use Rattle.hk_safety.proofs.Firsts.{at_moment}
use Rattle.hk_joint.proofs.Fitting.{stands_on}
use Rattle.hk_joint.proofs.KeyOrder.{is_change, is_other}
use Rattle.hk_joint.proofs.Lists.{in_filter, of_filter, of_flat, of_map, Rising, rising_parts, stands_first}
use Rattle.hk_joint.proofs.Moments.{change_replied, change_called, look_called}
use Rattle.hk_joint.proofs.Splits.{between, lines_stay}

-- ---- places in lists
in_get : {X : Type 0} (xs : List X) (n : ℕ) (d : X) → n < length xs → In xs (get_or xs n d)
in_get [] n d l = absurd (omega (arith, l))
in_get (x ∷ xs) zero d l = inl refl
in_get (x ∷ xs) (suc n) d l = inr (in_get xs n d (omega (arith, l)))

position_upto : {X : Type 0} (p : X → Bool) (xs : List X) (n : ℕ) (d : X) → p (get_or xs n d) ≡ true → position_or_len p xs ≤ n
position_upto p xs n d e = ⊎_elim
    (λ (l : n < position_or_len p xs). absurd (false≢true (sym (fails_before_first p xs n d l) ∙ e)))
    (λ (l : position_or_len p xs ≤ n). l)
    (cases_lt n (position_or_len p xs))

take_drop : {X : Type 0} (n : ℕ) (xs : List X) → take n xs ++ drop n xs ≡ xs
take_drop zero [] = refl
take_drop zero (x ∷ xs) = refl
take_drop (suc n) [] = refl
take_drop {X} (suc n) (x ∷ xs) = ap (λ (l : List X). x ∷ l) (take_drop n xs)

accepted_take : (n : ℕ) (events : List Event) (w : WorldState) → AreAccepted w events → AreAccepted w (take n events)
accepted_take zero [] w ok = tt
accepted_take zero (x ∷ xs) w ok = tt
accepted_take (suc n) [] w ok = tt
accepted_take (suc n) (x ∷ xs) w ok = (ok.0, ok.1, ok.2, accepted_take n xs ok.1.world ok.3)

-- the run so far is one
pub run_up_to : (n : ℕ) (run : RunState) → IsRun run → IsRun (up_to n run)
run_up_to n run ok = record { header = ok.header; accepted = accepted_take n run.events (start run.header) ok.accepted }

reply_no : (n : ℕ) (line : HistoryEvent) → is_reply n line ≡ true → call_no line ≡ n
reply_no n (HistoryEvent.Call c op) e = absurd (false≢true e)
reply_no n (HistoryEvent.Reply c answer) e = eqb-true c.0 n e

call_no_is : (n : ℕ) (line : HistoryEvent) → is_call n line ≡ true → call_no line ≡ n
call_no_is n (HistoryEvent.Call c op) e = eqb-true c.0 n e
call_no_is n (HistoryEvent.Reply c answer) e = absurd (false≢true e)

-- the entry of a standing is of the call
abbrev pub has : ℕ → Standing → Bool
has n s = is_entry n (entry_of s.slot)

pub position_entries : (n : ℕ) (order : List Standing) → position_or_len (is_entry n) (entries_of order) ≡ position_or_len (has n) order
position_entries n [] = refl
position_entries n (s ∷ order) = ap (λ (k : ℕ). cond (not (has n s)) (1 + k) 0) (position_entries n order)

pub any_entries : (n : ℕ) (order : List Standing) → list_any (is_entry n) (entries_of order) ≡ list_any (has n) order
any_entries n [] = refl
any_entries n (s ∷ order) = ap (λ (b : Bool). has n s || b) (any_entries n order)

module _ (runs : RunsKeepParts) (is_effects : EventIsEffects) (run : RunState) (ok : IsRun run) where
  -- ---- one key
  module _ (key : List ℕ) where
    abbrev last : Trace
    last = trace_of key run

    abbrev now : ℕ → Trace
    now n = trace_of key (up_to n run)

    pub kept : IsKept key last
    kept = run_kept runs key run ok

    now_is : (n : ℕ) → n ≤ length run.events → get_or (traces run key) n (start_trace run.header) ≡ now n
    now_is n l = at_moment key (start_trace run.header) run.events n (start_trace run.header) l

    pub moment_now : (n : ℕ) → n ≤ length run.events → IsMomentOf key last (now n)
    moment_now n l =
        let long = traces_len key (start_trace run.header) run.events in
        moments_of_run runs is_effects run ok key (now n) (subst (In (traces run key)) (now_is n l) (in_get (traces run key) n (start_trace run.header) (omega (arith, l, long))))

    -- what holds then has its first moment by then
    pub upto : (p : Trace → Bool) (n : ℕ) → n ≤ length run.events → p (now n) ≡ true → position_or_len p (traces run key) ≤ n
    upto p n l e = position_upto p (traces run key) n (start_trace run.header) (ap p (now_is n l) ∙ e)

    pub at_first : (p : Trace → Bool) (n : ℕ) → n ≤ length run.events → position_or_len p (traces run key) ≡ n → p (now n) ≡ true
    at_first p n l is =
        let long = traces_len key (start_trace run.header) run.events in
        sym (ap p (now_is n l)) ∙ subst (λ (m : ℕ). p (get_or (traces run key) m (start_trace run.header)) ≡ true) is (passes_at_first p (traces run key) (start_trace run.header) (omega (arith, l, is, long)))

    -- an answered call stands no later than its reply
    pub event_upto : (a : Slot) → In (slots run key) a → (n : ℕ) → n ≤ length run.events → is_answered (answer_of (history run key) a.call) ≡ true →
        list_any (is_reply a.call) (history (up_to n run) key) ≡ true → event_of run key a ≤ n
    event_upto a mine n l told e =
        let m : IsMomentOf key last (now n) = moment_now n l in
        ⊎_elim
        (λ (zero_is : a.place ≡ 0).
        let done = change_replied (Views (now n)) (Views last) (project key (now n)) (project key last) (kept_parts key last kept) kept.calls m.earlier m.grows (slots run key)
        (printed_is (Views last) (project key last) (kept_parts key last kept)) a mine zero_is told e in
        let up : moment run key a.stamp ≤ n = upto (is_reached key a.stamp) n l done in
        omega (arith, up, is_change run key kept (moments_of_run runs is_effects run ok key) a zero_is))
        (λ (pos : 0 < a.place).
        let up : replied_at run key a.call ≤ n = upto (λ (t : Trace). list_any (is_reply a.call) (history_of t)) n l e in
        omega (arith, up, is_other run key kept (moments_of_run runs is_effects run ok key) a pos))
        (eq-zero-or-pos a.place)

    -- a call that stands was made by then
    pub called_by : (b : Slot) → In (slots run key) b → (n : ℕ) → n ≤ length run.events → event_of run key b ≡ n → list_any (is_call b.call) (history (up_to n run) key) ≡ true
    called_by b mine n l is =
        let m : IsMomentOf key last (now n) = moment_now n l in
        ⊎_elim
        (λ (zero_is : b.place ≡ 0).
        let place = is_change run key kept (moments_of_run runs is_effects run ok key) b zero_is in
        change_called (Views (now n)) (Views last) (project key (now n)) (project key last) (kept_parts key last kept) kept.calls m.earlier m.grows (slots run key)
        (printed_is (Views last) (project key last) (kept_parts key last kept)) b mine zero_is
        (at_first (is_reached key b.stamp) n l (sym place ∙ is)))
        (λ (pos : 0 < b.place).
        let place = is_other run key kept (moments_of_run runs is_effects run ok key) b pos in
        look_called (Views (now n)) (Views last) (project key (now n)) (project key last) (kept_parts key last kept) kept.calls m.earlier m.grows (slots run key)
        (printed_is (Views last) (project key last) (kept_parts key last kept)) b mine pos
        (at_first (λ (t : Trace). list_any (is_reply b.call) (history_of t)) n l (sym place ∙ is)))
        (eq-zero-or-pos b.place)

    -- the lines of the key so far, by all calls of the run
    so_far : (n : ℕ) → history (up_to n run) key ≡ filter (is_on (called_from run.events) key) (joint_history (up_to n run))
    so_far n =
        let calls : called_from (take n run.events) ++ called_from (drop n run.events) ≡ called_from run.events =
        sym (called_append (take n run.events) (drop n run.events)) ∙ ap called_from (take_drop n run.events) in
        history_on runs key (up_to n run) (called_from (drop n run.events)) (run_up_to n run ok)
        ∙ ap (λ (l : List (List ℕ)). filter (is_on l key) (joint_history (up_to n run))) calls

    reply_here : (n c : ℕ) → IsOn run key c → list_any (is_reply c) (joint_history (up_to n run)) ≡ true → list_any (is_reply c) (history (up_to n run) key) ≡ true
    reply_here n c on e =
        let t = any_in (is_reply c) (joint_history (up_to n run)) e in
        let mine = in_filter (is_on (called_from run.events) key) (joint_history (up_to n run)) t.0 t.1 (on_line key (called_from run.events) c on t.0 (reply_no c t.0 t.2)) in
        in_any (is_reply c) (history (up_to n run) key) t.0 (subst (λ (l : List HistoryEvent). In l t.0) (sym (so_far n)) mine) t.2

    pub call_there : (n c : ℕ) → list_any (is_call c) (history (up_to n run) key) ≡ true → list_any (is_call c) (joint_history (up_to n run)) ≡ true
    call_there n c e =
        let t = any_in (is_call c) (history (up_to n run) key) e in
        let there = of_filter (is_on (called_from run.events) key) (joint_history (up_to n run)) t.0 (subst (λ (l : List HistoryEvent). In l t.0) (so_far n) t.1) in
        in_any (is_call c) (joint_history (up_to n run)) t.0 there.0 t.2

    call_here : (n c : ℕ) → IsOn run key c → list_any (is_call c) (joint_history (up_to n run)) ≡ true → list_any (is_call c) (history (up_to n run) key) ≡ true
    call_here n c on e =
        let t = any_in (is_call c) (joint_history (up_to n run)) e in
        let mine = in_filter (is_on (called_from run.events) key) (joint_history (up_to n run)) t.0 t.1 (on_line key (called_from run.events) c on t.0 (call_no_is c t.0 t.2)) in
        in_any (is_call c) (history (up_to n run) key) t.0 (subst (λ (l : List HistoryEvent). In l t.0) (sym (so_far n)) mine) t.2

    -- a call that has not begun stands later
    pub event_after : (b : Slot) → In (slots run key) b → (n : ℕ) → n ≤ length run.events → list_any (is_call b.call) (joint_history (up_to n run)) ≡ false → n < event_of run key b
    event_after b mine n l none = ⊎_elim
        (λ (up : n < event_of run key b). up)
        (λ (low : event_of run key b ≤ n).
        let m : ℕ = event_of run key b in
        let here = call_there m b.call (called_by b mine m (omega (arith, low, l)) refl) in
        absurd (false≢true (sym none ∙ lines_stay (is_call b.call) m n low run.events (start run.header) here)))
        (cases_lt n (event_of run key b))

    pub event_after_key : (b : Slot) → In (slots run key) b → IsOn run key b.call → (n : ℕ) → n ≤ length run.events → list_any (is_call b.call) (history (up_to n run) key) ≡ false →
        n < event_of run key b
    event_after_key b mine on n l none = event_after b mine n l (false_from_ne_true (list_any (is_call b.call) (joint_history (up_to n run))) (λ h.
        false≢true (sym none ∙ call_here n b.call on h)))

    -- the call of a slot is on the key
    pub slot_on : Legal (history run key) (printed run key) → (a : Slot) → In (slots run key) a → IsOn run key a.call
    slot_on legal a mine = stands_on runs run ok key legal a.call (slot_stands (slots run key) a mine)

  -- ---- all keys
  pub record IsStanding (s : Standing) : Type 0 where
    pub key : List ℕ
    pub slot : Slot
    pub mine : In (slots run key) slot
    pub is : s ≡ standing run key slot

  pub in_joint : (s : Standing) → In (joint_order run) s → IsStanding s
  in_joint s h =
      let t = of_flat (λ n. flat_map (standings_at run n) (named run)) (moments run) s h in
      let k = of_flat (standings_at run t.0) (named run) s t.2 in
      let f = of_filter (λ (z : Standing). eqb z.event t.0) (standings run k.0) s k.2 in
      let m = of_map (standing run k.0) (slots run k.0) s f.0 in
      record { key = k.0; slot = m.0; mine = m.1; is = m.2 }

  at_event : (n : ℕ) (s : Standing) → In (flat_map (standings_at run n) (named run)) s → s.event ≡ n
  at_event n s h =
      let k = of_flat (standings_at run n) (named run) s h in
      eqb-true s.event n (of_filter (λ (z : Standing). eqb z.event n) (standings run k.0) s k.2).1

  pub joint_rises : Rising (λ (s : Standing). s.event) (joint_order run)
  joint_rises = rising_parts (λ (s : Standing). s.event) (λ n. flat_map (standings_at run n) (named run)) at_event 0 (length run.events + 1)

  module _ (legal : (key : List ℕ) → Legal (history run key) (printed run key)) where
    answered_first : (x y : Standing) → In (joint_order run) x → In (joint_order run) y → is_answered (answer_of (joint_history run) x.slot.call) ≡ true →
        position_or_len (is_reply x.slot.call) (joint_history run) < position_or_len (is_call y.slot.call) (joint_history run) → x.event < y.event
    answered_first x y hx hy told before =
        let p = in_joint x hx in
        let q = in_joint y hy in
        let a : x.slot ≡ p.slot = ap (λ (s : Standing). s.slot) p.is in
        let b : y.slot ≡ q.slot = ap (λ (s : Standing). s.slot) q.is in
        let m = between run.events (start run.header) x.slot.call y.slot.call before in
        let on : IsOn run p.key p.slot.call = slot_on p.key (legal p.key) p.slot p.mine in
        let told_here : is_answered (answer_of (history run p.key) p.slot.call) ≡ true =
        ap is_answered (same_answer runs run ok p.key p.slot.call on) ∙ subst (λ (z : Slot). is_answered (answer_of (joint_history run) z.call) ≡ true) a told in
        let replied : list_any (is_reply p.slot.call) (joint_history (up_to m.count run)) ≡ true =
        subst (λ (z : Slot). list_any (is_reply z.call) (joint_history (up_to m.count run)) ≡ true) a m.replied in
        let none : list_any (is_call q.slot.call) (joint_history (up_to m.count run)) ≡ false =
        subst (λ (z : Slot). list_any (is_call z.call) (joint_history (up_to m.count run)) ≡ false) b m.not_begun in
        let low = event_upto p.key p.slot p.mine m.count m.within told_here (reply_here p.key m.count p.slot.call on replied) in
        let up = event_after q.key q.slot q.mine m.count m.within none in
        let ex : x.event ≡ event_of run p.key p.slot = ap (λ (s : Standing). s.event) p.is in
        let ey : y.event ≡ event_of run q.key q.slot = ap (λ (s : Standing). s.event) q.is in
        omega (arith, low, up, ex, ey)

    pub joint_timely : Timely (joint_history run) (entries_of (joint_order run))
    joint_timely a b ha hb told before =
        let order : List Standing = joint_order run in
        let first = stands_first (λ (s : Standing). s.event) (has a) (has b) order joint_rises (λ x y hx hy p q.
        let ca : x.slot.call ≡ a = eqb-true x.slot.call a p in
        let cb : y.slot.call ≡ b = eqb-true y.slot.call b q in
        answered_first x y hx hy (subst (λ (n : ℕ). is_answered (answer_of (joint_history run) n) ≡ true) (sym ca) told)
        (subst (λ (n : ℕ). position_or_len (is_reply x.slot.call) (joint_history run) < position_or_len (is_call n) (joint_history run)) (sym cb)
        (subst (λ (n : ℕ). position_or_len (is_reply n) (joint_history run) < position_or_len (is_call b) (joint_history run)) (sym ca) before)))
        (sym (any_entries a order) ∙ ha) (sym (any_entries b order) ∙ hb) in
        let pa = position_entries a order in
        let pb = position_entries b order in
        omega (arith, first, pa, pb)
