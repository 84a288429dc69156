-- After every run of a group with managers the register's invariant holds of each key: each epoch in which a node ever was is guarded.
use Rattle.std.proofs.Common.{◌≡◌, ◌⊎◌, ℕ, zero, suc, false, List, [], ◌∷◌, ◌++◌, ◌≤◌, sym, refl, ap, subst, inl, inr, arith, Option, Some, None, Ok}
use Rattle.hk_base.specs.declared.stamp.NodeId.{NodeId}
use Rattle.hk_base.specs.declared.view.View.{View}
use Rattle.hk_base.specs.View.{IsView, member_numbers, is_member}
use Rattle.hk_register.specs.Machine.{In, Mark}
use Rattle.hk_node.specs.Node.{NodeState, epoch_of}
use Rattle.hk_event.specs.declared.event.Event.{Event}
use Rattle.hk_event.specs.declared.event.Header.{Header}
use Rattle.hk_world.specs.World.{WorldState, process_at, node_of, numbered, last_view}
use Rattle.hk_world.specs.Start.{start}
use Rattle.hk_world.specs.Steps.{acting_of, Accepted, world_step}
use Rattle.hk_world.specs.Sound.{IsHeader, IsEvent, IsWorld}
use Rattle.hk_managed.specs.Runs.{IsRun}
use Rattle.hk_managed.specs.Council.{WorldsAgree}
use Rattle.hk_managed.specs.Guarded.{Ended as HasEnded, Earned}
use Rattle.hk_effects.specs.Projection.{Trace, node_at, traced}
use Rattle.hk_effects.specs.Own.{IsLed, IsOwn, IsGuarded, Ended}
use Rattle.hk_effects.specs.Laws.{EventIsEffects}
use Rattle.hk_effects.specs.Runs.{start_trace, Follows, IsKept, RunsKeepParts}
use Rattle.hk_effects.proofs.Processes.{numbered_node, cases_member, member_of}
use Rattle.hk_effects.proofs.Worlds.{all_in}
use Rattle.hk_effects.proofs.Chain.{own_place}
use Rattle.hk_effects.proofs.WorldKept.{KeepsSound, next_kept, own_kept}
use Rattle.hk_effects.proofs.Founders.{StartsSound, first_marks, founders_kept}
use Rattle.hk_effects.proofs.Led.{led_of}
use Rattle.hk_effects.proofs.Runs.{world_is, event_kept, marks_hold, alone_kept}

-- a run, and one more event
run_more : (w last : WorldState) (events : List Event) → IsRun w events last → (event : Event) → IsEvent event → (a : Accepted) → world_step last event ≡ Ok a → IsRun w (events ++ event ∷ []) a.world
run_more w last [] same event event_ok a is = (event_ok, a, subst (λ (z : WorldState). world_step z event ≡ Ok a) (sym same) is, refl)
run_more w last (e ∷ events) run event event_ok a is = (run.0, run.1, run.2, run_more run.1.world last events run.3 event event_ok a is)

-- at some moment of the run so far a node was in the epoch
record EpochWas (h : Header) (w : WorldState) (e : ℕ) : Type 0 where
  past : List Event
  moment : WorldState
  came : IsRun (start h) past moment
  later : List Event
  since : IsRun moment later w
  id : NodeId
  x : NodeState
  there : node_of (process_at id moment.processes) ≡ Some x
  epoch : e ≡ epoch_of x

-- what has ended by epochs has ended for the views
ended_of : (w : WorldState) → ((e : ℕ) (v : View) → numbered e w.views ≡ Some v → v.epoch ≡ e) → (e : ℕ) → HasEnded w e → Ended w e
ended_of w epochs e ended id x at u v hu hv low at_v in_u out_v =
    ended (numbered_node id) x at u.epoch u v low (own_place w.views epochs u hu) (subst (λ (n : ℕ). numbered n w.views ≡ Some v) at_v (own_place w.views epochs v hv))
    (member_of (numbered_node id) u.members in_u) (outside (cases_member (numbered_node id) v.members))
  where
    outside : In (member_numbers v.members) id ⊎ ((is_member (numbered_node id) v.members ≡ false) × (In (member_numbers v.members) id → ⊥)) → is_member (numbered_node id) v.members ≡ false
    outside (inl inside) = absurd (out_v inside)
    outside (inr out) = out.0

module _ (is_effects : EventIsEffects) (keeps : KeepsSound) (agree : WorldsAgree) (earned : Earned) (h : Header) (header : IsHeader h) (some : 1 ≤ h.managers) (key : List ℕ) where
  -- a node's epoch is that of an agreed view, or none
  epoch_upto : (w : WorldState) → IsOwn w → (id : NodeId) (x : NodeState) → node_at id.0 w.processes ≡ Some x → epoch_of x ≤ (last_view w.views).epoch
  epoch_upto w own id x at = by_view x.view refl
    where
      view_epoch : Option View → ℕ
      view_epoch o = epoch_of (record x { view = o })

      by_view : (o : Option View) → x.view ≡ o → epoch_of x ≤ (last_view w.views).epoch
      by_view None e = let none : epoch_of x ≡ 0 = ap view_epoch e in omega (arith, none)
      by_view (Some v) e =
          let epoch : epoch_of x ≡ v.epoch = ap view_epoch e in
          let within = own.views.within v ((own.node id.0 x at).agreed v e) in
          omega (arith, epoch, within.1)

  abbrev Stays : ℕ → WorldState → Type 0
  Stays e w = EpochWas h w e × (e ≤ (last_view w.views).epoch)

  record Going (t : Trace) : Type 0 where
    past : List Event
    came : IsRun (start h) past t.world
    kept : IsKept key t
    marks : (k : Mark) → In t.marks k → Stays k.epoch t.world

  goes : (t : Trace) (event : Event) (a : Accepted) → world_step t.world event ≡ Ok a → IsEvent event → Going t → Going (traced key t event a)
  goes t event a is event_ok g = let same : (traced key t event a).world ≡ a.world = world_is key t event a (acting_of a) in record {
    past = g.past ++ event ∷ [];
    came = subst (IsRun (start h) (g.past ++ event ∷ [])) (sym same) came;
    kept = kept;
    marks = λ k m. subst (Stays k.epoch) (sym same) (marks k m);
  }
    where
      came : IsRun (start h) (g.past ++ event ∷ []) a.world
      came = run_more (start h) t.world g.past g.came event event_ok a is

      sound : IsWorld a.world
      sound = keeps t.world event a g.kept.own.sound event_ok is

      led : IsLed a.world
      led = let c = agree h header some (g.past ++ event ∷ []) a.world came in led_of a.world (λ v among. all_in IsView a.world.views v sound.each among) c.0 c.1 c.2

      own : IsOwn a.world
      own = own_kept keeps t.world event a is event_ok led g.kept.own

      old : (e : ℕ) → Stays e t.world → Stays e a.world
      old e was =
          let w = was.0 in
          let up = (led.views.within (last_view t.world.views) ((next_kept t.world event a is g.kept.own).grows (last_view t.world.views) g.kept.own.views.last)).1 in
          let upto = was.1 in
          (record { past = w.past; moment = w.moment; came = w.came; later = w.later ++ event ∷ []; since = run_more w.moment t.world w.later w.since event event_ok a is; id = w.id; x = w.x; there = w.there; epoch = w.epoch }, omega (arith, up, upto))

      now : (id : NodeId) (x : NodeState) → node_at id.0 a.world.processes ≡ Some x → Stays (epoch_of x) a.world
      now id x at = (record { past = g.past ++ event ∷ []; moment = a.world; came = came; later = []; since = refl; id = id; x = x; there = at; epoch = refl }, epoch_upto a.world own id x at)

      marks : (k : Mark) → In (traced key t event a).marks k → Stays k.epoch a.world
      marks = marks_hold is_effects keeps key t event a is event_ok g.kept led (λ e. Stays e a.world) (λ k m. old k.epoch (g.marks k m)) now

      guarded : (k : Mark) → In (traced key t event a).marks k → IsGuarded a.world k
      guarded k m =
          let s = marks k m in
          let w = s.0 in
          record {
            upto = s.1;
            ended = ended_of a.world led.epochs k.epoch (subst (HasEnded a.world) (sym w.epoch) (earned h header some w.past w.later w.moment a.world w.came w.since w.id w.x w.there));
          }

      kept : IsKept key (traced key t event a)
      kept = event_kept is_effects keeps key t event a is event_ok g.kept led guarded

  managed_kept : (t : Trace) (events : List Event) (last : Trace) → Going t → Follows key t events last → IsKept key last
  managed_kept t [] last g same = subst (IsKept key) same g.kept
  managed_kept t (event ∷ events) last g f = managed_kept (traced key t event f.0) events last (goes t event f.0 f.1 f.2 g) f.3

  begins : StartsSound → Going (start_trace h)
  begins starts = record {
    past = [];
    came = refl;
    kept = founders_kept starts h header key;
    marks = λ k m.
        let f = first_marks h k m in
        let kept = founders_kept starts h header key in
        (record { past = []; moment = start h; came = refl; later = []; since = refl; id = f.0; x = f.1; there = f.2; epoch = f.3 }, (kept.trace.guarded k m).upto);
  }

pub runs_kept : EventIsEffects → KeepsSound → StartsSound → WorldsAgree → Earned → RunsKeepParts
runs_kept is_effects keeps starts agree earned h header key events last f = by_managers h.managers refl
  where
    by_managers : (n : ℕ) → h.managers ≡ n → IsKept key last
    by_managers zero none = alone_kept is_effects keeps starts h header none key events last f
    by_managers (suc n) some =
        let one : 1 ≤ h.managers = omega (arith, some) in
        managed_kept is_effects keeps agree earned h header one key (start_trace h) events last (begins is_effects keeps agree earned h header one key starts) f
