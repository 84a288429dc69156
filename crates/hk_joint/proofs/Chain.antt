-- The traces of a key at the moments of a run: each goes on from the one before.
use Rattle.std.proofs.Common.{append_assoc, ◌≡◌, ℕ, List, [], ◌∷◌, ◌++◌, ◌≤◌, ◌∙◌, sym, refl, ap, subst, inl, inr, ⊎_elim, Ok}
use Rattle.std.specs.Prelude.{⊤}
use Rattle.hk_register.specs.Machine.{In, Mark, Update, Item, RegisterState}
use Rattle.hk_register.specs.Facts.{Complete}
use Rattle.hk_register.specs.Parts.{Parts}
use Rattle.hk_register.proofs.Grow.{in_either}
use Rattle.hk_event.specs.declared.event.Event.{Event}
use Rattle.hk_event.specs.declared.event.Header.{Header}
use Rattle.hk_world.specs.World.{WorldState}
use Rattle.hk_world.specs.Steps.{Accepted, acting_of, world_step}
use Rattle.hk_world.specs.Sound.{IsHeader, IsEvent}
use Rattle.hk_effects.specs.Projection.{Trace, project, traced}
use Rattle.hk_effects.specs.Own.{IsOwn, Agrees}
use Rattle.hk_effects.specs.Laws.{Effects, EventIsEffects}
use Rattle.hk_effects.specs.Orders.{family}
use Rattle.hk_effects.specs.Runs.{start_trace, Follows, IsKept, RunsKeepParts}
use Rattle.hk_effects.proofs.Frames.{itself}
use Rattle.hk_effects.proofs.Legality.{own_agrees}
use Rattle.hk_effects.proofs.Runs.{world_is}
use Rattle.hk_effects.proofs.WorldKept.{next_kept}
use Rattle.hk_safety.specs.Run.{RunState, AreAccepted, IsRun, trace_with, trace_from, trace_of}
use Rattle.hk_safety.specs.Moment.{traces_after, traces}
use Rattle.hk_joint.proofs.Served.{Above, Goes, effect_goes, effects_go, above_less}
use Rattle.hk_joint.proofs.Earlier.{IsEarlier}

abbrev pub Views : Trace → ℕ → List ℕ
Views t = family t.world.views

pub kept_parts : (key : List ℕ) (t : Trace) → IsKept key t → Parts (Views t) (project key t)
kept_parts key t kept = kept.parts (Views t) (own_agrees t.world kept.own)

-- ---- one event
pub record IsStep (key : List ℕ) (old new : Trace) : Type 0 where
  pub kept : IsKept key new
  pub items : List Item
  pub history : new.history ≡ items ++ old.history
  pub grows : (s : ℕ) → Complete (Views old) (project key old) s → Complete (Views new) (project key new) s
  pub begun : (u : Update) → In old.begun u → In new.begun u
  pub above : (i : Item) → In items i → Above (Views old) (project key old) i

effects_goes : (V : ℕ → List ℕ) (old new : RegisterState) → Parts V old → Effects V old new → Goes V old new
effects_goes V old new parts (inl e) = effect_goes V old new parts e.0 e.1
effects_goes V old new parts (inr m) = effects_go V old m.0 new parts m.1.0 m.2.0 m.1.1 m.2.1

-- by other views with the same members in the epochs of the marks
other_views : (U V : ℕ → List ℕ) (st : RegisterState) → ((m : Mark) → In st.marks m → U m.epoch ≡ V m.epoch) → (s : ℕ) → Complete U st s → Complete V st s
other_views U V st same s (e, c) =
    let k = c.one_ready in
    let j = k.marked in
    let equal : U e ≡ V e = subst (λ (f : ℕ). U f ≡ V f) (sym j.1.epoch ∙ k.epoch) (same j.0 j.2) in (
      e,
      record {
        some_epoch = c.some_epoch;
        all = λ n h. c.all n (subst (λ (ns : List ℕ). In ns n) (sym equal) h);
        one = c.one;
        one_member = subst (λ (ns : List ℕ). In ns c.one) equal c.one_member;
        one_ready = c.one_ready;
      },
    )

module _ (is_effects : EventIsEffects) (key : List ℕ) (t : Trace) (event : Event) (a : Accepted) (is : world_step t.world event ≡ Ok a) (event_ok : IsEvent event) (was : IsKept key t)
    (now : IsKept key (traced key t event a)) where
  abbrev After : ℕ → List ℕ
  After = family a.world.views

  own_after : IsOwn a.world
  own_after = subst IsOwn (world_is key t event a (acting_of a)) now.own

  agrees : Agrees t.world After
  agrees v h = own_agrees a.world own_after v ((next_kept t.world event a is was.own).grows v h)

  same_views : (m : Mark) → In t.marks m → Views t m.epoch ≡ After m.epoch
  same_views m h =
      let some : 1 ≤ m.epoch = ((kept_parts key t was).marks m (m, itself m, h)).some_epoch in
      let v = was.own.views.each m.epoch some (was.trace.guarded m h).upto in
      subst (λ (k : ℕ). Views t k ≡ After k) v.2 (sym (own_agrees t.world was.own v.0 v.1) ∙ agrees v.0 v.1)

  goes : Goes After (project key t) (project key (traced key t event a))
  goes = effects_goes After (project key t) (project key (traced key t event a)) (was.parts After agrees) (is_effects After key t event a is event_ok was.own agrees was.trace (was.parts After agrees))

  up : (s : ℕ) → Complete (Views t) (project key t) s → Complete After (project key t) s
  up = other_views (Views t) After (project key t) same_views

  pub event_steps : IsStep key t (traced key t event a)
  event_steps = record {
    kept = now;
    items = goes.items;
    history = goes.history;
    grows = λ s c. subst (λ (w : WorldState). Complete (family w.views) (project key (traced key t event a)) s) (sym (world_is key t event a (acting_of a))) (goes.grows s (up s c));
    begun = goes.begun;
    above = λ i h. above_less (Views t) After (project key t) (project key t) up i (goes.above i h);
  }

-- ---- all events
abbrev pub Chain : List ℕ → Trace → List Trace → Type 0
Chain key t [] = ⊤
Chain key t (u ∷ us) = IsStep key t u × Chain key u us

abbrev pub last_of : Trace → List Trace → Trace
last_of t [] = t
last_of t (u ∷ us) = last_of u us

pub last_is : (key : List ℕ) (t : Trace) (events : List Event) → last_of t (traces_after key t events) ≡ trace_from key t events
last_is key t [] = refl
last_is key t (x ∷ xs) = last_is key (trace_with key t x (world_step t.world x)) xs

pub follows_then : (key : List ℕ) (first : Trace) (past : List Event) (t : Trace) (event : Event) (a : Accepted) → Follows key first past t → world_step t.world event ≡ Ok a → IsEvent event →
    Follows key first (past ++ event ∷ []) (traced key t event a)
follows_then key first [] t event a same e ok = subst (λ (z : Trace). Follows key z (event ∷ []) (traced key t event a)) (sym same) (a, e, ok, refl)
follows_then key first (x ∷ past) t event a f e ok = (f.0, f.1, f.2, follows_then key (traced key first x f.0) past t event a f.3 e ok)

module _ (runs : RunsKeepParts) (is_effects : EventIsEffects) (h : Header) (header : IsHeader h) (key : List ℕ) where
  kept_at : (past : List Event) (t : Trace) → Follows key (start_trace h) past t → IsKept key t
  kept_at past t f = runs h header key past t f

  pub chain_from : (events : List Event) (past : List Event) (t : Trace) → Follows key (start_trace h) past t → AreAccepted t.world events → Chain key t (traces_after key t events)
  chain_from [] past t f ok = tt
  chain_from (x ∷ xs) past t f ok =
      let a : Accepted = ok.1 in
      let now : Follows key (start_trace h) (past ++ x ∷ []) (traced key t x a) = follows_then key (start_trace h) past t x a f ok.2 ok.0 in
      let step : IsStep key t (traced key t x a) = event_steps is_effects key t x a ok.2 ok.0 (kept_at past t f) (kept_at (past ++ x ∷ []) (traced key t x a) now) in
      let rest : AreAccepted (traced key t x a).world xs = subst (λ (w : WorldState). AreAccepted w xs) (sym (world_is key t x a (acting_of a))) ok.3 in
      let more : Chain key (traced key t x a) (traces_after key (traced key t x a) xs) = chain_from xs (past ++ x ∷ []) (traced key t x a) now rest in
      subst (λ (z : Trace). IsStep key t z × Chain key z (traces_after key z xs)) (sym (ap (trace_with key t x) ok.2)) (step, more)

-- ---- each moment and the last one
pub record IsMomentOf (key : List ℕ) (last t : Trace) : Type 0 where
  pub kept : IsKept key t
  pub earlier : IsEarlier (Views t) (project key t) (project key last)
  pub grows : (s : ℕ) → Complete (Views t) (project key t) s → Complete (Views last) (project key last) s
  pub begun : (u : Update) → In t.begun u → In last.begun u

itself_moment : (key : List ℕ) (t : Trace) → IsKept key t → IsMomentOf key t t
itself_moment key t kept = record {
  kept = kept;
  earlier = record { parts = kept_parts key t kept; newer = []; history = refl; later = λ i h. absurd h };
  grows = λ s c. c;
  begun = λ u h. h;
}

before_step : (key : List ℕ) (last t u : Trace) → IsKept key t → IsStep key t u → IsMomentOf key last u → IsMomentOf key last t
before_step key last t u kept step m = record {
  kept = kept;
  earlier = record {
    parts = kept_parts key t kept;
    newer = m.earlier.newer ++ step.items;
    history = m.earlier.history ∙ ap (λ (l : List Item). m.earlier.newer ++ l) step.history ∙ sym (append_assoc m.earlier.newer step.items t.history);
    later = λ i h.
        ⊎_elim
        (λ (k : In m.earlier.newer i). above_less (Views t) (Views u) (project key t) (project key u) step.grows i (m.earlier.later i k))
        (step.above i) (in_either m.earlier.newer step.items i h);
  };
  grows = λ s c. m.grows s (step.grows s c);
  begun = λ v h. m.begun v (step.begun v h);
}

first_moment : (key : List ℕ) (t : Trace) (ts : List Trace) → IsKept key t → Chain key t ts → IsMomentOf key (last_of t ts) t
first_moment key t [] kept chain = itself_moment key t kept
first_moment key t (u ∷ us) kept chain = before_step key (last_of u us) t u kept chain.0 (first_moment key u us chain.0.kept chain.1)

pub each_moment : (key : List ℕ) (t : Trace) (ts : List Trace) → IsKept key t → Chain key t ts → (x : Trace) → In (t ∷ ts) x → IsMomentOf key (last_of t ts) x
each_moment key t ts kept chain x (inl e) = subst (IsMomentOf key (last_of t ts)) (sym e) (first_moment key t ts kept chain)
each_moment key t [] kept chain x (inr h) = absurd h
each_moment key t (u ∷ us) kept chain x (inr h) = each_moment key u us chain.0.kept chain.1 x h

-- of a run
pub moments_of_run : RunsKeepParts → EventIsEffects → (run : RunState) → IsRun run → (key : List ℕ) → (x : Trace) → In (traces run key) x → IsMomentOf key (trace_of key run) x
moments_of_run runs is_effects run ok key x h =
    let first : Trace = start_trace run.header in
    let kept : IsKept key first = runs run.header ok.header key [] first refl in
    let chain = chain_from runs is_effects run.header ok.header key run.events [] first refl ok.accepted in
    subst (λ (z : Trace). IsMomentOf key z x) (last_is key first run.events) (each_moment key first (traces_after key first run.events) kept chain x h)
