-- A world of founders has its own invariant, and the register's holds of each key.
use Rattle.std.proofs.Common.{◌≡◌, ℕ, zero, suc, false, cond, ◌+◌, List, [], ◌∷◌, map, ◌<◌, ◌≤◌, ◌∙◌, sym, refl, ap, subst, inl, inr, ⊎_elim, arith, le_refl, Option, Some, None, Ordering, Less, Equal, Greater}
use Rattle.std.specs.List.{range_with_len}
use Rattle.std.specs.Ordering.{is_eq}
use Rattle.std.proofs.lemmas.Bool.{false≢true}
use Rattle.hk_base.specs.declared.stamp.NodeId.{NodeId}
use Rattle.hk_base.specs.declared.view.View.{View}
use Rattle.hk_base.specs.View.{member_numbers, counted}
use Rattle.hk_register.specs.Machine.{In, WaitingUpdate, Mark, RegisterState}
use Rattle.hk_register.specs.Effects.{Has, row_mark}
use Rattle.hk_register.specs.Runs.{founder, absent}
use Rattle.hk_register.specs.Parts.{Parts, NodeOk, MarkOk}
use Rattle.hk_register.specs.Calls.{CallParts}
use Rattle.hk_register.proofs.Keep.{weaker_ok}
use Rattle.hk_node.specs.Node.{NodeState, epoch_of}
use Rattle.hk_event.specs.declared.event.Header.{Header}
use Rattle.hk_world.specs.declared.process.Process.{Process}
use Rattle.hk_world.specs.declared.process.ManagerProcess.{ManagerProcess}
use Rattle.hk_world.specs.World.{process_at, manager_at, by_number, node_of, numbered}
use Rattle.hk_world.specs.Start.{founding_view, founding_process, founding_manager, start}
use Rattle.hk_world.specs.Sound.{IsHeader, IsWorld}
use Rattle.hk_effects.specs.Projection.{key_node, node_at, project}
use Rattle.hk_effects.specs.Own.{IsOwn, IsTrace, Agrees}
use Rattle.hk_effects.specs.Runs.{start_trace, IsKept}
use Rattle.hk_effects.proofs.Processes.{numbered_node, equal_numbers, number_itself}
use Rattle.hk_effects.proofs.Frames.{itself}
use Rattle.hk_effects.proofs.RowsKept.{first_of}

-- that a world of founders is sound, as `start_is_sound` of hk_world has it
abbrev pub StartsSound : Type 0
StartsSound = (h : Header) → IsHeader h → IsWorld (start h)

counted_within : (a k m : ℕ) → In (member_numbers (counted a k)) m → (a ≤ m) × (m < a + k)
counted_within a zero m h = absurd h
counted_within a (suc k) m h = ⊎_elim (λ (e : m ≡ a). (omega arith, omega arith)) (λ (t : In (member_numbers (counted (a + 1) k)) m). let w = counted_within (a + 1) k m t in (omega (arith, w.0), omega (arith, w.1))) h

-- who is there is a founder, and each founder is there
found_founder : (h : Header) (ids : List NodeId) (id : NodeId) (p : Process) → process_at id (map (λ n. (n, founding_process h n)) ids) ≡ Some p → (p ≡ founding_process h id) × In (member_numbers ids) id.0
found_founder h [] id p at = cc
found_founder h (n ∷ ids) id p at = by_order (by_number id n) refl at (found_founder h ids id p)
  where
    by_order : (o : Ordering) → by_number id n ≡ o → cond (is_eq o) (Some (founding_process h n)) (process_at id (map (λ n. (n, founding_process h n)) ids)) ≡ Some p →
        (process_at id (map (λ n. (n, founding_process h n)) ids) ≡ Some p → (p ≡ founding_process h id) × In (member_numbers ids) id.0) → (p ≡ founding_process h id) × In (member_numbers (n ∷ ids)) id.0
    by_order Less e at more = let m = more at in (m.0, inr m.1)
    by_order Equal e at more =
        let same : founding_process h n ≡ p = cc in
        let who = equal_numbers id n e in
        (sym same ∙ ap (founding_process h) (sym who), inl (ap (λ (k : NodeId). k.0) who))
    by_order Greater e at more = let m = more at in (m.0, inr m.1)

no_founder : (h : Header) (ids : List NodeId) (id : NodeId) → process_at id (map (λ n. (n, founding_process h n)) ids) ≡ None → In (member_numbers ids) id.0 → ⊥
no_founder h [] id none m = m
no_founder h (n ∷ ids) id none m = by_order (by_number id n) refl none (no_founder h ids id)
  where
    by_head : (o : Ordering) → by_number id n ≡ o → is_eq o ≡ false → (In (member_numbers ids) id.0 → ⊥) → ⊥
    by_head o e off more = ⊎_elim
        (λ (is : id.0 ≡ n.0). false≢true (sym off ∙ (ap is_eq (sym e) ∙ ap is_eq (subst (λ (k : NodeId). by_number id k ≡ Equal) (ap numbered_node is) (number_itself id)))))
        (λ (t : In (member_numbers ids) id.0). more t) m

    by_order : (o : Ordering) → by_number id n ≡ o → cond (is_eq o) (Some (founding_process h n)) (process_at id (map (λ n. (n, founding_process h n)) ids)) ≡ None →
        (process_at id (map (λ n. (n, founding_process h n)) ids) ≡ None → In (member_numbers ids) id.0 → ⊥) → ⊥
    by_order Less e none more = by_head Less e refl (more none)
    by_order Equal e none more = cc
    by_order Greater e none more = by_head Greater e refl (more none)

mark_in : (ids : List NodeId) (n : ℕ) → In (member_numbers ids) n → In (map (λ id. row_mark id.0 founder) ids) (row_mark n founder)
mark_in [] n h = absurd h
mark_in (k ∷ ids) n h = ⊎_elim (λ (e : n ≡ k.0). inl (ap (λ (i : ℕ). row_mark i founder) e)) (λ (t : In (member_numbers ids) n). inr (mark_in ids n t)) h

mark_from : (ids : List NodeId) (k : Mark) → In (map (λ id. row_mark id.0 founder) ids) k → (n : ℕ) × In (member_numbers ids) n × (k ≡ row_mark n founder)
mark_from [] k h = absurd h
mark_from (m ∷ ids) k h = ⊎_elim (λ (e : k ≡ row_mark m.0 founder). (m.0, inl refl, e)) (λ (t : In (map (λ id. row_mark id.0 founder) ids) k). let r = mark_from ids k t in (r.0, inr r.1, r.2)) h

one_view : (h : Header) (v : View) → In (founding_view h ∷ []) v → v ≡ founding_view h
one_view h v m = ⊎_elim (λ (e : v ≡ founding_view h). e) (λ (none : ⊥). absurd none) m

-- a node at the start is a founder, or is not there
node_founder : (h : Header) (n : ℕ) (x : NodeState) → node_at n (start h).processes ≡ Some x → (x ≡ (founding_process h (numbered_node n)).node) × In (member_numbers (counted 0 h.nodes)) n
node_founder h n x at = by_process (process_at (numbered_node n) (start h).processes) refl at
  where
    by_process : (o : Option Process) → process_at (numbered_node n) (start h).processes ≡ o → node_of o ≡ Some x → (x ≡ (founding_process h (numbered_node n)).node) × In (member_numbers (counted 0 h.nodes)) n
    by_process None e at = cc
    by_process (Some p) e at =
        let f = found_founder h (counted 0 h.nodes) (numbered_node n) p e in
        let same : p.node ≡ x = cc in
        (sym same ∙ ap (λ (q : Process). q.node) f.0, f.1)

pub no_managers : (h : Header) → h.managers ≡ 0 → (start h).managers ≡ []
no_managers h none = rw none refl

-- each manager holds the first view
first_held : (h : Header) (ns : List ℕ) (m : ℕ) (p : ManagerProcess) → manager_at m (map (λ n. founding_manager h n) ns) ≡ Some p → p.manager.held ≡ founding_view h
first_held h [] m p at = absurd cc
first_held h (n ∷ ns) zero p at = let same : founding_manager h n ≡ p = cc in ap (λ (q : ManagerProcess). q.manager.held) (sym same)
first_held h (n ∷ ns) (suc m) p at = first_held h ns m p at

first_epoch : (h : Header) (e : ℕ) (v : View) → numbered e (founding_view h ∷ []) ≡ Some v → v.epoch ≡ e
first_epoch h zero v at = absurd cc
first_epoch h (suc zero) v at = let same : founding_view h ≡ v = cc in ap (λ (u : View). u.epoch) (sym same)
first_epoch h (suc (suc k)) v at = absurd cc

pub founders_own : StartsSound → (h : Header) → IsHeader h → IsOwn (start h)
founders_own sound h is = record {
  sound = sound h is;
  views = record {
    last = inl refl;
    within = λ v m. rw (one_view h v m) (le_refl 1, le_refl 1);
    each = λ e one top. (founding_view h, inl refl, omega arith);
    one = λ u v m k same. one_view h u m ∙ sym (one_view h v k);
    chain = λ u v w mu mv mw low high n in_u in_w. subst (λ (z : View). In (member_numbers z.members) n) (one_view h w mw ∙ sym (one_view h v mv)) in_w;
    change = λ u v mu mv next. let a = ap (λ (z : View). z.epoch) (one_view h u mu) in let b = ap (λ (z : View). z.epoch) (one_view h v mv) in absurd (omega (arith, a, b, next));
    below = λ v m n in_v. let c = counted_within 0 h.nodes n (subst (λ (z : View). In (member_numbers z.members) n) (one_view h v m) in_v) in omega (arith, c.1);
  };
  epochs = first_epoch h;
  node = λ id x at.
      let f = node_founder h id x at in
      let c = counted_within 0 h.nodes id f.1 in
      let few = is.few in
      rw f.0 (record { small = omega (arith, c.1, few); agreed = λ v e. let same : founding_view h ≡ v = cc in inl (sym same); row = λ key. first_of 0 });
  letter = λ l none. absurd none;
  begun = λ l v none. absurd none;
  held = λ m p at. inl (first_held h (range_with_len 0 h.managers) m p at);
}

-- each mark at the start is of a founder's epoch
pub first_marks : (h : Header) (k : Mark) → In (start_trace h).marks k → (id : NodeId) × (x : NodeState) × (node_of (process_at id (start h).processes) ≡ Some x) × (k.epoch ≡ epoch_of x)
first_marks h k m = let r = mark_from (counted 0 h.nodes) k m in by_process r.0 r.1 r.2 (process_at (numbered_node r.0) (start h).processes) refl
  where
    by_process : (n : ℕ) → In (member_numbers (counted 0 h.nodes)) n → k ≡ row_mark n founder → (o : Option Process) → process_at (numbered_node n) (start h).processes ≡ o →
        (id : NodeId) × (x : NodeState) × (node_of (process_at id (start h).processes) ≡ Some x) × (k.epoch ≡ epoch_of x)
    by_process n inside is None at = absurd (no_founder h (counted 0 h.nodes) (numbered_node n) at inside)
    by_process n inside is (Some p) at =
        let f = found_founder h (counted 0 h.nodes) (numbered_node n) p at in
        (numbered_node n, p.node, ap node_of at, ap (λ (z : Mark). z.epoch) is ∙ sym (ap (λ (q : Process). epoch_of q.node) f.0))

pub founders_trace : (h : Header) → IsTrace (start_trace h)
founders_trace h = record {
  guarded = λ k m. let r = mark_from (counted 0 h.nodes) k m in rw r.2 (record { upto = le_refl 1; ended = λ id x at u v mu mv low at_v in_u out_v. let e = ap (λ (z : View). z.epoch) (one_view h u mu) in absurd (omega (arith, e, low)) });
  numbered = λ i none. absurd none;
}

-- a node of the key is a founder's, or an absent one's
module _ (h : Header) (key : List ℕ) where
  abbrev Start : RegisterState
  Start = project key (start_trace h)

  pub founders_parts : (V : ℕ → List ℕ) → Agrees (start h) V → Parts V Start
  founders_parts V agrees = record {
    nodes = λ n. by_node n (node_at n (start h).processes) refl;
    letters = λ l none. absurd none;
    marks = λ k m. let r = mark_from (counted 0 h.nodes) m.0 m.2 in weaker_ok V Start k m.0 m.1 (rw r.2 (the_mark r.0 r.1 (process_at (numbered_node r.0) (start h).processes) refl));
    updates = λ u none. absurd none;
    once = λ u v none. absurd none;
    items = λ i none. absurd none;
    timely = tt;
  }
    where
      members : member_numbers (counted 0 h.nodes) ≡ V 1
      members = agrees (founding_view h) (inl refl)

      the_founder : (n : ℕ) → In (member_numbers (counted 0 h.nodes)) n → NodeOk V Start n founder
      the_founder n m = record { member = λ _. rw (← members) m; marked = λ _. (row_mark n founder, itself (row_mark n founder), mark_in (counted 0 h.nodes) n m); resting = λ none. absurd (omega arith); copied = λ _. refl; bound = λ _ e one below. absurd (omega arith); known = inl (refl, refl); kept = λ none. absurd (false≢true none); phase = inl refl }

      the_absent : (n : ℕ) → NodeOk V Start n absent
      the_absent n = record { member = λ none. absurd (omega arith); marked = λ none. absurd (omega arith); resting = λ _. (refl, refl, refl); copied = λ none. absurd (false≢true none); bound = λ none. absurd (false≢true none); known = inl (refl, refl); kept = λ none. absurd (false≢true none); phase = inl refl }

      by_node : (n : ℕ) (o : Option NodeState) → node_at n (start h).processes ≡ o → NodeOk V Start n (key_node key (node_at n (start h).processes))
      by_node n None e = subst (λ (o : Option NodeState). NodeOk V Start n (key_node key o)) (sym e) (the_absent n)
      by_node n (Some x) e =
          let f = node_founder h n x e in
          subst (λ (o : Option NodeState). NodeOk V Start n (key_node key o)) (sym (e ∙ ap (λ (z : NodeState). Some z) f.0)) (the_founder n f.1)

      the_mark : (n : ℕ) → In (member_numbers (counted 0 h.nodes)) n → (o : Option Process) → process_at (numbered_node n) (start h).processes ≡ o → MarkOk V Start (row_mark n founder)
      the_mark n m None e = absurd (no_founder h (counted 0 h.nodes) (numbered_node n) e m)
      the_mark n m (Some p) e =
          let f = found_founder h (counted 0 h.nodes) (numbered_node n) p e in
          let node : Start.node n ≡ founder = ap (λ (o : Option Process). key_node key (node_of o)) (e ∙ ap (λ (z : Process). Some z) f.0) in
          record { some_epoch = le_refl 1; epoch = rw node (le_refl 1); member = rw (← members) m; top = rw node (le_refl 0); bound = λ _ _ e one below. absurd (omega arith); begun = inl refl }

  pub founders_calls : CallParts Start
  founders_calls = record { pend = λ n p r has e. absurd (calm n (node_at n (start h).processes) refl p has); called = λ u none. absurd none; items = λ i none. absurd none; starts = tt; replies = tt }
    where
      calm : (n : ℕ) (o : Option NodeState) → node_at n (start h).processes ≡ o → (p : WaitingUpdate) → Has (Start.node n).phase p → ⊥
      calm n None e p has = subst (λ (o : Option NodeState). Has (key_node key o).phase p) e has
      calm n (Some x) e p has = let f = node_founder h n x e in subst (λ (o : Option NodeState). Has (key_node key o).phase p) (e ∙ ap (λ (z : NodeState). Some z) f.0) has

pub founders_kept : StartsSound → (h : Header) → IsHeader h → (key : List ℕ) → IsKept key (start_trace h)
founders_kept sound h is key = record { own = founders_own sound h is; trace = founders_trace h; parts = founders_parts h key; calls = founders_calls h key }
