-- After every run of a world the register's invariant holds of each key.
use Rattle.std.proofs.Common.{◌≡◌, ℕ, Bool, true, false, cond, ◌+◌, List, [], ◌∷◌, ◌≤◌, ◌∙◌, sym, refl, ap, subst, inl, inr, ⊎_elim, arith, le_trans, Option, Some, None, Ok, eqb}
use Rattle.std.proofs.lemmas.Bool.{false≢true, eqb-true, eq-eqb}
use Rattle.hk_base.specs.declared.stamp.NodeId.{NodeId}
use Rattle.hk_base.specs.declared.view.View.{View}
use Rattle.hk_base.specs.View.{member_numbers}
use Rattle.hk_register.specs.Machine.{In, Mark, Item, Node, RegisterState, call_of}
use Rattle.hk_register.specs.Parts.{Parts}
use Rattle.hk_register.specs.Calls.{CallParts}
use Rattle.hk_register.proofs.Runs.{effect_kept}
use Rattle.hk_register.proofs.Calls.{effect_calls}
use Rattle.hk_register.proofs.Grow.{in_either, in_left}
use Rattle.hk_node.specs.Node.{NodeState, epoch_of}
use Rattle.hk_event.specs.declared.event.Event.{Event}
use Rattle.hk_event.specs.declared.event.Header.{Header}
use Rattle.hk_world.specs.World.{WorldState}
use Rattle.hk_world.specs.Steps.{acting_of, Accepted, world_step}
use Rattle.hk_world.specs.Sound.{IsHeader, IsEvent}
use Rattle.hk_effects.specs.Projection.{Trace, key_node, node_at, letters_of, step_marks, told_at, items_of, project, traced, traced_by}
use Rattle.hk_effects.specs.Own.{IsChain, IsLed, IsOwn, IsTrace, IsGuarded, Agrees}
use Rattle.hk_effects.specs.Laws.{Effects, EventIsEffects}
use Rattle.hk_effects.specs.Runs.{start_trace, Follows, IsKept}
use Rattle.hk_effects.proofs.Frames.{itself}
use Rattle.hk_effects.proofs.WorldKept.{IsNextOf, KeepsSound, next_kept, own_kept, stays_alone, led_alone}
use Rattle.hk_effects.proofs.Guards.{EpochGuarded, Guards}
use Rattle.hk_effects.proofs.EventGuards.{event_guards}
use Rattle.hk_effects.proofs.Numbered.{step_epoch, told_upto, items_upto}
use Rattle.hk_effects.proofs.Founders.{StartsSound, no_managers, founders_kept}

effects_kept : (V : ℕ → List ℕ) (old new : RegisterState) → Parts V old → Effects V old new → Parts V new
effects_kept V old new parts (inl e) = effect_kept V old new parts e.0 e.1
effects_kept V old new parts (inr m) = effect_kept V m.0 new (effect_kept V old m.0 parts m.1.0 m.1.1) m.2.0 m.2.1

effects_calls : (V : ℕ → List ℕ) (old new : RegisterState) → Parts V old → CallParts old → Effects V old new → CallParts new
effects_calls V old new parts calls (inl e) = effect_calls V old new parts calls e.0 e.1
effects_calls V old new parts calls (inr m) = effect_calls V m.0 new (effect_kept V old m.0 parts m.1.0 m.1.1) (effect_calls V old m.0 parts calls m.1.0 m.1.1) m.2.0 m.2.1

guarded_of : (w : WorldState) (k : Mark) → EpochGuarded w k.epoch → IsGuarded w k
guarded_of w k g = record { upto = g.upto; ended = g.ended }

to_epoch : (w : WorldState) (k : Mark) → IsGuarded w k → EpochGuarded w k.epoch
to_epoch w k g = record { upto = g.upto; ended = g.ended }

same_epoch : (w : WorldState) (e f : ℕ) → e ≡ f → EpochGuarded w e → EpochGuarded w f
same_epoch w e f is g = subst (λ (i : ℕ). EpochGuarded w i) is g

-- the members of the agreed views, and nobody for other epochs
abbrev pub view_members : List View → ℕ → List ℕ
view_members [] e = []
view_members (v ∷ vs) e = cond (eqb e v.epoch) (member_numbers v.members) (view_members vs e)

found_view : (vs : List View) (v : View) → In vs v → (u : View) × In vs u × (u.epoch ≡ v.epoch) × (view_members vs v.epoch ≡ member_numbers u.members)
found_view [] v h = absurd h
found_view (w ∷ vs) v h = by_test (eqb v.epoch w.epoch) refl (λ t. found_view vs v t)
  where
    by_test : (b : Bool) → eqb v.epoch w.epoch ≡ b → (In vs v → (u : View) × In vs u × (u.epoch ≡ v.epoch) × (view_members vs v.epoch ≡ member_numbers u.members)) →
        (u : View) × In (w ∷ vs) u × (u.epoch ≡ v.epoch) × (cond b (member_numbers w.members) (view_members vs v.epoch) ≡ member_numbers u.members)
    by_test true e more = (w, inl refl, sym (eqb-true v.epoch w.epoch e), refl)
    by_test false e more = ⊎_elim
        (λ (is : v ≡ w). absurd (false≢true (sym e ∙ eq-eqb v.epoch w.epoch (ap (λ (z : View). z.epoch) is))))
        (λ (t : In vs v). let r = more t in (r.0, inr r.1, r.2, r.3)) h

agrees_with : (w : WorldState) → IsChain w.views → Agrees w (view_members w.views)
agrees_with w chain v h =
    let f = found_view w.views v h in
    let same : f.0 ≡ v = chain.one f.0 v f.1 h f.2 in
    sym (f.3 ∙ ap (λ (z : View). member_numbers z.members) same)

pub world_is : (key : List ℕ) (t : Trace) (event : Event) (a : Accepted) (acting : Option NodeId) → (traced_by key t event a acting).world ≡ a.world
world_is key t event a None = refl
world_is key t event a (Some id) = refl

-- One event, after which the views are led on.
module _ (is_effects : EventIsEffects) (keeps : KeepsSound) (key : List ℕ) (t : Trace) (event : Event) (a : Accepted) (is : world_step t.world event ≡ Ok a) (event_ok : IsEvent event) (ok : IsKept key t)
    (led : IsLed a.world) where
  next : IsNextOf t.world event a.world a.told
  next = next_kept t.world event a is ok.own

  earlier : (V : ℕ → List ℕ) → Agrees a.world V → Agrees t.world V
  earlier V agrees v h = agrees v (next.grows v h)

  effects : (V : ℕ → List ℕ) → Agrees a.world V → Effects V (project key t) (project key (traced key t event a))
  effects V agrees = is_effects V key t event a is event_ok ok.own (earlier V agrees) ok.trace (ok.parts V (earlier V agrees))

  parts_now : (V : ℕ → List ℕ) → Agrees a.world V → Parts V (project key (traced key t event a))
  parts_now V agrees = effects_kept V (project key t) (project key (traced key t event a)) (ok.parts V (earlier V agrees)) (effects V agrees)

  now_agrees : Agrees a.world (view_members a.world.views)
  now_agrees = agrees_with a.world led.views

  calls_now : CallParts (project key (traced key t event a))
  calls_now = let V = view_members a.world.views in effects_calls V (project key t) (project key (traced key t event a)) (ok.parts V (earlier V now_agrees)) ok.calls (effects V now_agrees)

  -- the acting node's part of the key, before and after
  abbrev Was : NodeId → Node
  Was id = key_node key (node_at id.0 t.world.processes)

  abbrev Is : NodeId → Node
  Is id = key_node key (node_at id.0 a.world.processes)

  abbrev NewMarks : NodeId → List Mark
  NewMarks id = step_marks id.0 (Was id) (Is id) (letters_of key a.shown.letters)

  -- a new mark is of the epoch in which the acting node is now, and that is one
  record IsNew (id : NodeId) (k : Mark) : Type 0 where
    epoch : k.epoch ≡ (Is id).epoch
    some : 1 ≤ k.epoch

  -- each mark is an old one, or a new one of the acting node
  marks_are : (P : Mark → Type 0) → ((k : Mark) → In t.marks k → P k) → ((id : NodeId) → acting_of a ≡ Some id → (k : Mark) → IsNew id k → P k) → (k : Mark) → In (traced key t event a).marks k → P k
  marks_are P old new = at (acting_of a) refl (parts_now (view_members a.world.views) now_agrees)
    where
      at : (acting : Option NodeId) → acting_of a ≡ acting → Parts (view_members a.world.views) (project key (traced_by key t event a acting)) → (k : Mark) → In (traced_by key t event a acting).marks k → P k
      at None e parts k h = old k h
      at (Some id) e parts k h = ⊎_elim
          (λ (fresh : In (NewMarks id) k). new id e k (record {
            epoch = step_epoch id.0 (Was id) (Is id) (letters_of key a.shown.letters) k fresh;
            some = (parts.marks k (k, itself k, in_left _ t.marks k fresh)).some_epoch;
          }))
          (old k) (in_either (NewMarks id) t.marks k h)

  trace_now : ((k : Mark) → In (traced key t event a).marks k → IsGuarded a.world k) → IsTrace (traced key t event a)
  trace_now = at (acting_of a)
    where
      old_item : (i : Item) → In t.history i → call_of i ≤ a.world.calls
      old_item i h = le_trans (ok.trace.numbered i h) next.more

      at : (acting : Option NodeId) → ((k : Mark) → In (traced_by key t event a acting).marks k → IsGuarded a.world k) → IsTrace (traced_by key t event a acting)
      at None guarded = record { guarded = guarded; numbered = old_item }
      at (Some id) guarded = record {
        guarded = guarded;
        numbered = λ i h. ⊎_elim (items_upto key event t.world.calls a.world.calls (Was id) (Is id) (told_at key a.told) next.calls (told_upto key a.told a.world.calls next.answered) i) (old_item i)
            (in_either (items_of key event (t.world.calls + 1) (Was id) (Is id) (told_at key a.told)) t.history i h);
      }

  -- where each epoch with a mark is guarded afterwards, all is kept
  pub event_kept : ((k : Mark) → In (traced key t event a).marks k → IsGuarded a.world k) → IsKept key (traced key t event a)
  event_kept guarded = record {
    own = subst IsOwn (sym (world_is key t event a (acting_of a))) (own_kept keeps t.world event a is event_ok led ok.own);
    trace = trace_now guarded;
    parts = λ V agrees. parts_now V (subst (λ (w : WorldState). Agrees w V) (world_is key t event a (acting_of a)) agrees);
    calls = calls_now;
  }

  -- the marks of the acting node are of its old epoch, in which it was marked, or of one that the guard let it install
  pub marks_guarded : Guards t.world a → (k : Mark) → In (traced key t event a).marks k → IsGuarded a.world k
  marks_guarded guards = marks_are (IsGuarded a.world) old new
    where
      old : (k : Mark) → In t.marks k → IsGuarded a.world k
      old k h = guarded_of a.world k (guards.carries k.epoch (to_epoch t.world k (ok.trace.guarded k h)))

      new : (id : NodeId) → acting_of a ≡ Some id → (k : Mark) → IsNew id k → IsGuarded a.world k
      new id acts k is_new =
          let g = guards.acting id acts in
          let z_is : (Is id).epoch ≡ epoch_of g.now = ap (λ (o : Option NodeState). (key_node key o).epoch) g.at_now in
          guarded_of a.world k
          (⊎_elim
          (λ (same : epoch_of g.now ≡ epoch_of g.was).
          let V = view_members a.world.views in
          let node_is : (Was id).epoch ≡ epoch_of g.was = ap (λ (o : Option NodeState). (key_node key o).epoch) g.at_was in
          let at_z = is_new.epoch in
          let one = is_new.some in
          let m = ((ok.parts V (earlier V now_agrees)).nodes id.0).marked (omega (arith, at_z, z_is, same, node_is, one)) in
          let old = guards.carries m.0.epoch (to_epoch t.world m.0 (ok.trace.guarded m.0 m.2)) in
          same_epoch a.world m.0.epoch k.epoch (sym m.1.epoch ∙ (node_is ∙ (sym same ∙ (sym z_is ∙ sym is_new.epoch)))) old)
          (λ (installed : EpochGuarded a.world (epoch_of g.now)). same_epoch a.world (epoch_of g.now) k.epoch (sym z_is ∙ sym is_new.epoch) installed) g.epoch)

  -- what holds of an epoch in which a node is holds of each mark, where it outlasts the event
  pub marks_hold : (P : ℕ → Type 0) → ((k : Mark) → In t.marks k → P k.epoch) → ((id : NodeId) (x : NodeState) → node_at id.0 a.world.processes ≡ Some x → P (epoch_of x)) →
      (k : Mark) → In (traced key t event a).marks k → P k.epoch
  marks_hold P old now = marks_are (λ k. P k.epoch) old (λ id acts k is_new. by_node id k is_new (node_at id.0 a.world.processes) refl)
    where
      by_node : (id : NodeId) (k : Mark) → IsNew id k → (o : Option NodeState) → node_at id.0 a.world.processes ≡ o → P k.epoch
      by_node id k is_new None at =
          let none : (Is id).epoch ≡ 0 = ap (λ (o : Option NodeState). (key_node key o).epoch) at in
          let epoch = is_new.epoch in
          let some = is_new.some in
          absurd (omega (arith, none, epoch, some))
      by_node id k is_new (Some x) at = subst P (sym (is_new.epoch ∙ ap (λ (o : Option NodeState). (key_node key o).epoch) at)) (now id x at)

-- ---- without managers
alone_then : (key : List ℕ) (t : Trace) (event : Event) (a : Accepted) → world_step t.world event ≡ Ok a → t.world.managers ≡ [] → (traced key t event a).world.managers ≡ []
alone_then key t event a is none = ap (λ (w : WorldState). w.managers) (world_is key t event a (acting_of a)) ∙ (stays_alone t.world event a is none).managers ∙ none

follows_kept : EventIsEffects → KeepsSound → (key : List ℕ) (t : Trace) (events : List Event) (last : Trace) → t.world.managers ≡ [] → IsKept key t → Follows key t events last → IsKept key last
follows_kept is_effects keeps key t [] last none ok same = subst (IsKept key) same ok
follows_kept is_effects keeps key t (event ∷ events) last none ok f =
    let led = led_alone keeps t.world event f.0 f.1 f.2 none ok.own in
    follows_kept is_effects keeps key (traced key t event f.0) events last (alone_then key t event f.0 f.1 none)
    (event_kept is_effects keeps key t event f.0 f.1 f.2 ok led (marks_guarded is_effects keeps key t event f.0 f.1 f.2 ok led (event_guards t.world event f.0 f.1 ok.own none))) f.3

pub alone_kept : EventIsEffects → KeepsSound → StartsSound → (h : Header) → IsHeader h → h.managers ≡ 0 → (key : List ℕ) (events : List Event) (last : Trace) → Follows key (start_trace h) events last → IsKept key last
alone_kept is_effects keeps starts h header none key events last f = follows_kept is_effects keeps key (start_trace h) events last (no_managers h none) (founders_kept starts h header key) f
