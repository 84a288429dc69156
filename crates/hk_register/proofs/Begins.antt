-- Beginning an update keeps the parts, and stands above what was complete.
use Rattle.std.proofs.Common.{◌≡◌, ◌⊎◌, ℕ, true, false, List, [], ◌∷◌, ◌<◌, ◌≤◌, ◌∙◌, sym, refl, ap, inl, inr, ⊎_elim, arith, le_refl, le_of_eq, Some, None}
use Rattle.std.proofs.lemmas.Bool.{false≢true, cases_order}
use Rattle.hk_register.specs.Machine.{In, Marked, WaitingUpdate, Node, Mark, Update, RegisterState}
use Rattle.hk_base.specs.declared.stamp.Kind.{Kind}
use Rattle.hk_base.specs.declared.stamp.Kind.TheVariants as Kind
use Rattle.hk_register.specs.Machine.Phase.{Valid, Write}
use Rattle.hk_register.specs.Machine.Message.{Inv}
use Rattle.hk_register.specs.Machine.Item.{Called, Answered, ReadOnly}
use Rattle.hk_register.specs.Facts.{ReadyCovers, Complete, Rests, Bound, PassesOver}
use Rattle.hk_register.specs.Effects.Effect.{Begin, Serve}
use Rattle.hk_register.specs.Laws.{served_at}
use Rattle.hk_register.specs.Effects.{Effect, Allowed, IsBlind, Changes, reply_of, Fresh, Change, Leased, fresh_pending, next_stamp}
use Rattle.hk_register.specs.Parts.{Known, PendingOk, Parts}
use Rattle.hk_register.proofs.Grow.{Rises, rests_grows, bound_grows}
use Rattle.hk_register.proofs.Keep.{holds_grows, keep, rises, arrives, begins_anew}
use Rattle.hk_register.proofs.Helps.{complete_of, ready_in, twin_itself, cover_of}

next_above : (kind : Kind) (b n : ℕ) → b < next_stamp kind b n
next_above Kind.Write b n = omega arith
next_above Kind.Rmw b n = omega arith

same_node : (k j : Kind) (a b n w : ℕ) → n < 65536 → w < 65536 → next_stamp k a n ≡ next_stamp j b w → n ≡ w
same_node Kind.Write Kind.Write a b n w p q e = omega arith
same_node Kind.Write Kind.Rmw a b n w p q e = omega arith
same_node Kind.Rmw Kind.Write a b n w p q e = omega arith
same_node Kind.Rmw Kind.Rmw a b n w p q e = omega arith

some_is : (m n : ℕ) → Some m ≡ Some n → m ≡ n
some_is m n e = cc

none_is : (n : ℕ) → None ≡ Some n → ⊥
none_is n e = cc

module _ (V : ℕ → List ℕ) where
  -- the row of a ready node with a lease is at least what is complete
  pub fresh_row : (st : RegisterState) → Parts V st → (n a : ℕ) → (st.node n).ready ≡ true → Leased V st n → Complete V st a → a ≤ (st.node n).stamp
  fresh_row st parts n a ready leased (e, c) =
      let o = parts.nodes n in
      let covered : In (V e) n → a ≤ (st.node n).stamp = λ member. let k = c.all n member in let m = parts.marks k.mark k.marked in let top : k.mark.stamp ≤ (st.node n).stamp = rw k.who at m.top in omega (arith, k.stamp) in
      ⊎_elim
      (λ (same : e ≡ (st.node n).epoch). covered (rw same (o.member (ready_in V o ready))))
      (λ (h : (e < (st.node n).epoch) ⊎ ((st.node n).epoch < e)).
      ⊎_elim
      (λ (below : e < (st.node n).epoch). let b = o.bound (o.copied ready) e c.some_epoch below in let k = c.all b.who b.member in let top = b.tops k.mark k.marked k.who (omega (arith, k.epoch)) in omega (arith, k.stamp))
      (λ (above : (st.node n).epoch < e). let k = c.one_ready in covered (rw k.epoch at (leased k.mark k.marked (omega (arith, k.epoch))))) h) (cases_order e (st.node n).epoch)

  pub fresh_rests : (st : RegisterState) → Parts V st → (n a : ℕ) → (st.node n).ready ≡ true → Leased V st n → Rests V st a → a ≤ (st.node n).stamp
  fresh_rests st parts n a ready leased (inl zero_is) = omega arith
  fresh_rests st parts n a ready leased (inr s) = fresh_row st parts n a ready leased (complete_of V st s)

  pub begin_kept : (old new : RegisterState) → Parts V old → (n : ℕ) (u : Update) →
      (old.node n).ready ≡ true → (old.node n).phase ≡ Valid → Leased V old n → n < 65536 →
      u.who ≡ n → u.base ≡ (old.node n).stamp → u.stamp ≡ next_stamp u.kind u.base n → (u.kind ≡ Kind.Write → IsBlind u.op) → Changes u (old.node n).content → Fresh old u.call →
      Change old new n
      (record (old.node n) { phase = Write (fresh_pending u.stamp u.kind u.content (Some (reply_of u))); stamp = u.stamp; kind = u.kind; content = u.content; kept_val = false })
      (Inv n (old.node n).epoch u.stamp u.kind u.content ∷ [])
      (record { who = n; epoch = (old.node n).epoch; stamp = u.stamp; exact = true; ready = (old.node n).ready } ∷ [])
      (u ∷ []) (Called u.call u.stamp u.op ∷ []) →
      Parts V new
  begin_kept old new parts n u ready valid leased small who base next blind content fresh ch =
      let x = old.node n in
      let p : WaitingUpdate = fresh_pending u.stamp u.kind u.content (Some (reply_of u)) in
      let y : Node = record x { phase = Write p; stamp = u.stamp; kind = u.kind; content = u.content; kept_val = false } in
      let k : Mark = record { who = n; epoch = x.epoch; stamp = u.stamp; exact = true; ready = x.ready } in
      let ms : List Mark = k ∷ [] in
      let was = parts.nodes n in
      let some : 1 ≤ x.epoch = ready_in V was ready in
      let above : u.base < u.stamp = rw next (next_above u.kind u.base n) in
      let up : x.stamp < u.stamp = rw base at above in
      let r : Rises old new n y ms = rises ch (omega arith) (omega arith) (record { who = refl; epoch = refl; row = λ _. refl; within = omega arith }, tt) in
      let here : Marked new k = arrives ch k (inl refl) in
      let begun : In new.begun u = begins_anew ch u (inl refl) in
      let covers : ReadyCovers new n x.epoch u.stamp = record { mark = k; marked = here; who = refl; epoch = refl; stamp = refl; ready = ready } in
      let known : Known new u.stamp u.kind u.content = record { update = u; begun = begun; stamp = refl; same_kind = refl; same_content = refl } in
      let w : PendingOk V new n y p = record { ready = ready; covers = covers; below = le_refl u.stamp; positive = omega arith; known = known; notes = λ j h. absurd h } in
      let bound : (e : ℕ) → 1 ≤ e → e < x.epoch → Bound V new e u.base = λ e one below. bound_grows V old new n y ms r (omega arith) (was.bound (was.copied ready) e one below) in
      let raised : (e : ℕ) → 1 ≤ e → e < x.epoch → Bound V new e u.stamp = λ e one below. bound_grows V old new n y ms r (omega arith) (was.bound (was.copied ready) e one below) in
      let top : u.stamp ≤ (new.node n).stamp = rw ch.here (le_refl u.stamp) in
      let over : (e : ℕ) → 1 ≤ e → e ≤ x.epoch → PassesOver V new e u.base u.stamp = λ e one upto.
      ⊎_elim
      (λ (same : e ≡ x.epoch). record {
        who = n;
        member = rw same (was.member some);
        over = λ j h whose at exact.
            let t = r.marks_from j h in
            ⊎_elim
            (λ (fresh : In ms t.0). inr (le_of_eq (sym (t.1.stamp ∙ r.of_row t.0 fresh (t.1.exact exact)))))
            (λ (before : Marked old t.0). inl (let up = (parts.marks t.0 before).top in let up : t.0.stamp ≤ x.stamp = rw (sym t.1.who ∙ whose) at up in omega (arith, t.1.stamp))) t.2;
        settled = inl top;
      })
      (λ (h : (e < x.epoch) ⊎ (x.epoch < e)).
      ⊎_elim
      (λ (below : e < x.epoch). let b = bound e one below in record {
        who = b.who;
        member = b.member;
        over = λ j h whose at exact. inl (b.tops j h whose (omega arith));
        settled = inr b.passed;
      })
      (λ (no : x.epoch < e). absurd (omega arith)) h) (cases_order e x.epoch) in
      keep V old new n y _ ms _ _ (record {
        parts = parts;
        change = ch;
        rise = r;
        node = record {
          member = was.member;
          marked = λ _. here;
          resting = λ zero_is. absurd (omega arith);
          copied = was.copied;
          bound = λ c e one below. raised e one below;
          known = inr known;
          kept = λ is. absurd (false≢true is);
          phase = (w, refl);
        };
        letters = ((cover_of V covers, known), tt);
        marks = (
          record {
            some_epoch = some;
            epoch = rw ch.here (le_refl x.epoch);
            member = was.member some;
            top = top;
            bound = λ _ _ e one below. raised e one below;
            begun = inr (record { update = u; begun = begun; stamp = refl; rmw = λ _. twin_itself V old new n y ms r k here refl; over = over });
          },
          tt,
        );
        updates = (
          record {
            node = rw who small;
            next = rw who next;
            below = rw who top;
            made = record { base_kind = x.kind; base_content = x.content; holds = rw base (holds_grows V old new n y ms r was.known); blind = blind; changes = content };
            base = let rests : Rests V old x.stamp = rw valid at was.phase in rw base (rests_grows V old new n y ms r rests);
          },
          tt,
        );
        once = λ v v' h h'. ⊎_elim (λ (e : v ≡ u). ⊎_elim (λ (e' : v' ≡ u). e ∙ sym e') (λ (no : ⊥). absurd no) h') (λ (no : ⊥). absurd no) h;
        unlike = λ v v' h begun' same. ⊎_elim (λ (e : v ≡ u). let o = parts.updates v' begun' in let s : u.stamp ≡ v'.stamp = sym (ap (λ (z : Update). z.stamp) e) ∙ same in let me : n ≡ v'.who = same_node u.kind v'.kind u.base v'.base n v'.who small o.node (sym next ∙ s ∙ o.next) in let b : v'.stamp ≤ x.stamp = rw (← me) at o.below in omega arith) (λ (no : ⊥). no) h;
        items = (tt, tt);
        timely = (record { answered = λ c a w h. let f = fresh_row old parts n a ready leased (parts.items (Answered c a w) h).0 in omega arith; looked = λ c a op held w h. let f = fresh_rests old parts n a ready leased (parts.items (ReadOnly c a op held w) h).0 in omega arith }, parts.timely);
      })

  -- wherever a call is served, the row is fresh
  pub served_fresh : (st : RegisterState) → Parts V st → (e : Effect) → Allowed V st e → (n : ℕ) → served_at e ≡ Some n → (s : ℕ) → Complete V st s → s ≤ (st.node n).stamp
  served_fresh st parts (Begin m u) a n is s c = rw (some_is m n is) at (fresh_row st parts m s a.0 a.2 c)
  served_fresh st parts (Serve m call op answer) a n is s c = rw (some_is m n is) at (fresh_row st parts m s a.0 a.2 c)
  served_fresh st parts e a n is s c = absurd (none_is n is)
