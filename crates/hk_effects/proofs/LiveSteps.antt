-- The step of a live node in a world, for one key, and events that are no node's step.
use Rattle.std.proofs.Common.{◌≡◌, ◌⊎◌, ℕ, ◌+◌, true, false, List, [], ◌<◌, ◌≤◌, ◌∙◌, sym, refl, ap, subst, inl, inr, ⊎_elim, arith, Option, Some, None, Result, Ok}
use Rattle.std.proofs.lemmas.Bool.{cases_order}
use Rattle.std.specs.Option.{option_map}
use Rattle.hk_base.specs.declared.stamp.NodeId.{NodeId}
use Rattle.hk_base.specs.declared.call.CallNo.{CallNo}
use Rattle.hk_base.specs.View.{member_numbers, is_member}
use Rattle.hk_register.specs.Machine.{In, Item}
use Rattle.hk_register.specs.Effects.{Fresh, Leased}
use Rattle.hk_register.specs.Effects.Effect.{Quiet}
use Rattle.hk_register.specs.Parts.{Parts}
use Rattle.hk_register.proofs.Helps.{ready_in}
use Rattle.hk_clocks.specs.Clocks.{Paces}
use Rattle.hk_node.specs.Node.{NodeState, epoch_of, epoch_in, members_of}
use Rattle.hk_node.specs.Sound.{IsNode}
use Rattle.hk_node.specs.Stepped.{Stepped}
use Rattle.hk_event.specs.declared.event.Event.{Event}
use Rattle.hk_event.specs.declared.refused.Refused.{Refused}
use Rattle.hk_world.specs.World.{WorldState, process_at, node_of}
use Rattle.hk_world.specs.Steps.{Accepted, acting_of, aside}
use Rattle.hk_world.specs.declared.shown.Shown.{Shown}
use Rattle.hk_effects.specs.Projection.{key_node, node_at, letters_of, Trace, project, traced_by, traced}
use Rattle.hk_effects.specs.Own.{IsNodeOf, IsOwn, IsTrace, Agrees}
use Rattle.hk_effects.specs.Laws.{Effects}
use Rattle.hk_effects.proofs.Accepting.{alive}
use Rattle.hk_effects.proofs.Frames.{itself, accepted, items_said, step_change}
use Rattle.hk_effects.proofs.Processes.{cases_member}
use Rattle.hk_effects.proofs.Nodes.{OwesNode}
use Rattle.hk_effects.proofs.Rests.{node_holds, own_view}

abbrev pub accepts : Accepted → Result Accepted Refused
accepts a = Ok a

pub accepts_same : (a b : Accepted) → accepts a ≡ accepts b → a ≡ b
accepts_same a b e = cc

module _ (V : ℕ → List ℕ) (key : List ℕ) (t : Trace) (parts : Parts V (project key t)) (own : IsOwn t.world) (agrees : Agrees t.world V) (tok : IsTrace t) where
  -- the event is an effect, or two
  abbrev pub IsEffects : Event → Accepted → Type 0
  IsEffects event a = Effects V (project key t) (project key (traced key t event a))

  -- the process of a live node
  abbrev pub IsLive : NodeState → Type 0
  IsLive x = process_at x.id t.world.processes ≡ Some (alive x)

  pub live_is : (x : NodeState) → IsLive x → node_at x.id.0 t.world.processes ≡ Some x
  live_is x alive = ap node_of alive

  -- the register's node
  pub here : (x : NodeState) → IsLive x → (project key t).node x.id.0 ≡ key_node key (Some x)
  here x alive = ap (key_node key) (live_is x alive)

  -- what its step owes
  abbrev pub OwesLive : (x : NodeState) → IsLive x → Stepped → List Item → Type 0
  OwesLive x alive o hs = OwesNode V (project key t) parts key x (here x alive) o hs

  -- the effect of a live node's step
  pub stepped_effect : (event : Event) (calls : ℕ) (paces : Paces) (call : Option CallNo) (id : NodeId) (x : NodeState) → x.id ≡ id → (alive : IsLive x) (o : Stepped) (a : Accepted) → OwesLive x alive o (items_said key event (t.world.calls + 1) x o) →
      accepts (accepted t.world id x o calls paces call) ≡ accepts a → IsEffects event a
  stepped_effect event calls paces call id x same alive o a owes e =
      let is : a ≡ accepted t.world x.id x o calls paces call = sym (accepts_same (accepted t.world id x o calls paces call) a e) ∙ ap (λ (i : NodeId). accepted t.world i x o calls paces call) (sym same) in
      rw is (owes (project key (traced key t event (accepted t.world x.id x o calls paces call))) (step_change key t event calls paces call x.id x o (live_is x alive)))

  -- no node's step: no node looks different for the key, and nothing is sent
  pub aside_effect : (event : Event) (w : WorldState) (shown : Shown) (a : Accepted) → shown.acted ≡ None → ((m : ℕ) → key_node key (node_at m w.processes) ≡ key_node key (node_at m t.world.processes)) →
      letters_of key w.letters ≡ letters_of key t.world.letters → aside w shown ≡ accepts a → IsEffects event a
  aside_effect event w shown a none same letters e =
      let b : Accepted = record { world = w; told = []; shown = shown } in
      let is : a ≡ b = sym (accepts_same b a e) in
      let unacted : acting_of a ≡ None = ap acting_of is ∙ ap (option_map (λ acted. acted.node)) none in
      let next : traced key t event a ≡ record { world = w; marks = t.marks; begun = t.begun; history = t.history } = ap (traced_by key t event a) unacted ∙ ap (λ (b : Accepted). traced_by key t event b None) is in
      rw next (inl (
        Quiet 0,
        record {
          allowed = tt;
          change = record {
            here = same 0;
            there = λ m other. same m;
            letters = λ l h. inr (rw letters at h);
            marks_kept = λ k h. h;
            marks_new = λ k h. absurd h;
            marks_from = λ k h. (k, itself k, inr h);
            begun = refl;
            history = refl;
          };
        },
      ))

  -- a process that runs is a live node's
  pub lives : (id : NodeId) (x : NodeState) → process_at id t.world.processes ≡ Some (alive x) → (x.id ≡ id) × IsLive x
  lives id x at =
      let same : x.id ≡ id = (node_holds t.world own.sound id.0 x (ap node_of at)).0 in
      (same, subst (λ (i : NodeId). process_at i t.world.processes ≡ Some (alive x)) (sym same) at)

  -- no call so far has the next number
  pub fresh_call : Fresh (project key t) (t.world.calls + 1)
  fresh_call i h same = let low = tok.numbered i h in omega arith

  module _ (x : NodeState) (alive : IsLive x) where
    pub node_own : IsNodeOf t.world.views t.world.calls x
    node_own = own.node x.id.0 x (live_is x alive)

    pub node_sound : IsNode x
    node_sound = (node_holds t.world own.sound x.id.0 x (live_is x alive)).1

    pub members_are : 1 ≤ epoch_of x → member_numbers (members_of x) ≡ V (epoch_of x)
    members_are some = let v = own_view t.world.views t.world.calls x node_own some in rw v.1 (agrees v.0 v.2)

    pub ready_some : x.ready ≡ true → 1 ≤ epoch_of x
    ready_some ready = rw (here x alive) at (ready_in V (parts.nodes x.id.0) (rw (here x alive) ready))

    -- its lease runs, so no view that was installed leaves it out
    pub leased_now : x.ready ≡ true → x.clock + x.skew ≤ x.granted → Leased V (project key t) x.id.0
    leased_now ready runs k marked low =
        let some : 1 ≤ epoch_of x = ready_some ready in
        let u = own_view t.world.views t.world.calls x node_own some in
        let in_own : In (V (epoch_of x)) x.id.0 = rw (here x alive) at ((parts.nodes x.id.0).member (rw (here x alive) some)) in
        let low' : epoch_of x ≤ k.epoch = rw (here x alive) at low in
        ⊎_elim
        (λ (same : k.epoch ≡ epoch_of x). rw same in_own)
        (λ (o : (k.epoch < epoch_of x) ⊎ (epoch_of x < k.epoch)).
        ⊎_elim
        (λ (less : k.epoch < epoch_of x). absurd (omega arith))
        (λ (above : epoch_of x < k.epoch).
        let g = tok.guarded marked.0 marked.2 in
        let v = own.views.each marked.0.epoch (let e = marked.1.epoch in omega arith) g.upto in
        let at_v : v.0.epoch ≡ k.epoch = v.2 ∙ sym marked.1.epoch in
        let own_epoch : u.0.epoch ≡ epoch_of x = sym (ap epoch_in u.1) in
        let in_u : In (member_numbers u.0.members) x.id.0 = rw (agrees u.0 u.2, own_epoch) in_own in
        ⊎_elim
        (λ (h : In (member_numbers v.0.members) x.id.0). let there : In (V v.0.epoch) x.id.0 = rw (← agrees v.0 v.1) h in rw at_v at there)
        (λ (h : (is_member x.id v.0.members ≡ false) × (In (member_numbers v.0.members) x.id.0 → ⊥)).
        let ended = g.ended x.id.0 x alive u.0 v.0 u.2 v.1 (omega (arith, own_epoch, v.2, at_v)) v.2 in_u h.1 in absurd (omega arith))
        (cases_member x.id v.0.members)) o) (cases_order k.epoch (epoch_of x))
