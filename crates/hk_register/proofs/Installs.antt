-- Installing a view keeps the parts.
use Rattle.std.proofs.Common.{◌≡◌, ◌⊎◌, ℕ, true, false, List, [], ◌∷◌, ◌<◌, ◌≤◌, ◌∙◌, sym, refl, ap, inl, inr, ⊎_elim, arith, le_refl, eq-zero-or-pos}
use Rattle.std.proofs.lemmas.Bool.{false≢true, cases_lt}
use Rattle.hk_register.specs.Machine.{In, Marked, WaitingUpdate, Phase, Node, Mark, Update, RegisterState}
use Rattle.hk_base.specs.declared.stamp.Kind.TheVariants as Kind
use Rattle.hk_register.specs.Machine.Phase.{Valid, Invalid, Write, Replay, Trans}
use Rattle.hk_register.specs.Machine.Message.{Inv}
use Rattle.hk_register.specs.Facts.{ReadyCovers, Bound, PassesOver}
use Rattle.hk_register.specs.Effects.{Between, Change, Has, row_mark, with_notes}
use Rattle.hk_register.specs.Parts.{PendingOk, PhaseOk, Twin, MarkBegun, Parts}
use Rattle.hk_register.proofs.Grow.{Rises, rests_grows, known_grows, bound_grows, passes_grows}
use Rattle.hk_register.proofs.Keep.{keep, rises, arrives, phase_grows, holds_grows}
use Rattle.hk_register.proofs.Helps.{ready_in, twin_itself, cover_of, pending_of}

module _ (V : ℕ → List ℕ) (old new : RegisterState) (parts : Parts V old) (n e : ℕ) (later : (old.node n).epoch < e) (member : In (V e) n) (middle : Between V old n e) (y : Node) (ms : List Mark) (at_y : y.epoch ≡ e) (stamp_y : y.stamp ≡ (old.node n).stamp) (r : Rises old new n y ms) where
  between : (f : ℕ) → 1 ≤ (old.node n).epoch → (old.node n).epoch ≤ f → f ≤ e → In (V f) n
  between f some from upto = middle f some from upto

  now_stamp : (new.node n).stamp ≡ (old.node n).stamp
  now_stamp = rw r.here stamp_y

  now_epoch : (new.node n).epoch ≡ e
  now_epoch = rw r.here at_y

  -- it is itself the member that is past each view before the new one
  install_bound : (f s : ℕ) → 1 ≤ (old.node n).epoch → 1 ≤ f → f < e → (old.node n).stamp ≤ s → ((f < (old.node n).epoch) → Bound V old f (old.node n).stamp) → Bound V new f s
  install_bound f s some one below up before =
      ⊎_elim
      (λ (was : f < (old.node n).epoch). bound_grows V old new n y ms r up (before was))
      (λ (from : (old.node n).epoch ≤ f). record {
        who = n;
        member = between f some from (omega arith);
        passed = rw now_epoch below;
        tops = λ k h who upto.
            let t = r.marks_from k h in
            ⊎_elim
            (λ (fresh : In ms t.0). let is = r.of_epoch t.0 fresh in absurd (omega (arith, t.1.epoch)))
            (λ (was : Marked old t.0). let top = (parts.marks t.0 was).top in let top : t.0.stamp ≤ (old.node n).stamp = rw (sym t.1.who ∙ who) at top in omega (arith, t.1.stamp)) t.2;
      }) (cases_lt f (old.node n).epoch)

  -- a mark of the node's row or pending update, in the new epoch
  install_begun : (k j : Mark) → 1 ≤ (old.node n).epoch → k.epoch ≡ e → k.stamp ≤ (old.node n).stamp → Marked old j → j.epoch ≡ (old.node n).epoch → j.stamp ≡ k.stamp → ((u : Update) → In old.begun u → u.stamp ≡ k.stamp → u.kind ≡ Kind.Rmw → Twin V new k) → (k.stamp ≡ 0) ⊎ MarkBegun V new k
  install_begun k j some at top marked at_j same twin =
      ⊎_elim (λ (zero_is : j.stamp ≡ 0). inl (sym same ∙ zero_is)) (λ (b : MarkBegun V old j). inr (record {
        update = b.update;
        begun = r.begun _ b.begun;
        stamp = b.stamp ∙ same;
        rmw = λ is. twin b.update b.begun (b.stamp ∙ same) is;
        over = λ f one upto. over b f one upto;
      })) (parts.marks j marked).begun
    where
      over : (b : MarkBegun V old j) (f : ℕ) → 1 ≤ f → f ≤ k.epoch → PassesOver V new f b.update.base b.update.stamp
      over b f one upto =
          ⊎_elim
          (λ (was : f ≤ (old.node n).epoch). passes_grows V old new n y ms r (b.over f one (omega (arith, at_j))))
          (λ (from : (old.node n).epoch < f). record {
            who = n;
            member = between f some (omega arith) (omega arith);
            over = λ i h who at_i exact.
                let t = r.marks_from i h in
                ⊎_elim
                (λ (fresh : In ms t.0). let is = r.of_row t.0 fresh (t.1.exact exact) in inr (omega (arith, is, t.1.stamp, b.stamp)))
                (λ (before : Marked old t.0). let top = (parts.marks t.0 before).epoch in let top : t.0.epoch ≤ (old.node n).epoch = rw (sym t.1.who ∙ who) at top in absurd (omega (arith, t.1.epoch))) t.2;
            settled = inl (omega (arith, now_stamp, b.stamp));
          }) (cases_le f (old.node n).epoch)
        where
          cases_le : (a b : ℕ) → (a ≤ b) ⊎ (b < a)
          cases_le a b = ⊎_elim inr inl (cases_lt b a)

module _ (V : ℕ → List ℕ) (old new : RegisterState) (parts : Parts V old) where
  at_epoch : (st : RegisterState) (n e : ℕ) (x : Node) (phase : Phase) → (phase ≡ Valid) ⊎ (phase ≡ Invalid) → PhaseOk V st n x phase → PhaseOk V st n (record x { epoch = e }) phase
  at_epoch st n e x phase (inl is) o = rw is (rw is at o)
  at_epoch st n e x phase (inr is) o = rw is (rw is at o)

  pub install_kept : (n e : ℕ) → (old.node n).epoch < e → In (V e) n → Between V old n e → ((old.node n).phase ≡ Valid) ⊎ ((old.node n).phase ≡ Invalid) → Change old new n (record (old.node n) { epoch = e }) [] (record { who = n; epoch = e; stamp = (old.node n).stamp; exact = true; ready = (old.node n).ready } ∷ []) [] [] → Parts V new
  install_kept n e later member middle idle ch =
      let x = old.node n in
      let y : Node = record x { epoch = e } in
      let k : Mark = record { who = n; epoch = e; stamp = x.stamp; exact = true; ready = x.ready } in
      let ms : List Mark = k ∷ [] in
      let was = parts.nodes n in
      let r : Rises old new n y ms = rises ch (omega arith) (omega arith) (record { who = refl; epoch = refl; row = λ _. refl; within = omega arith }, tt) in
      let here : Marked new k = arrives ch k (inl refl) in
      let bound : x.copied ≡ true → (f : ℕ) → 1 ≤ f → f < e → Bound V new f x.stamp = λ copied f one below.
      ⊎_elim
      (λ (zero_is : x.epoch ≡ 0). absurd (false≢true (sym (was.resting zero_is).2 ∙ copied)))
      (λ (some : 0 < x.epoch). install_bound V old new parts n e later member middle y ms refl refl r f x.stamp some one below (omega arith) (λ b. was.bound copied f one b)) (eq-zero-or-pos x.epoch) in
      keep V old new n y _ ms _ _ (record {
        parts = parts;
        change = ch;
        rise = r;
        node = record {
          member = λ _. member;
          marked = λ _. here;
          resting = λ zero_is. absurd (omega arith);
          copied = was.copied;
          bound = bound;
          known = holds_grows V old new n y ms r was.known;
          kept = λ is. rests_grows V old new n y ms r (was.kept is);
          phase = phase_grows V old new n y ms r n y x.phase (at_epoch old n e x x.phase idle was.phase);
        };
        letters = tt;
        marks = (
          record {
            some_epoch = omega arith;
            epoch = rw ch.here (le_refl e);
            member = member;
            top = rw ch.here (le_refl x.stamp);
            bound = λ _ ready f one below. bound (was.copied ready) f one below;
            begun = ⊎_elim
                (λ (zero_is : x.epoch ≡ 0). inl (was.resting zero_is).0)
                (λ (some : 0 < x.epoch). install_begun V old new parts n e later member middle y ms refl refl r k (row_mark n x) some refl (le_refl x.stamp) (was.marked some) refl refl (λ _ _ _ _. twin_itself V old new n y ms r k here refl)) (eq-zero-or-pos x.epoch);
          },
          tt,
        );
        updates = tt;
        once = λ u v h. absurd h;
        unlike = λ u v h. absurd h;
        items = tt;
        timely = parts.timely;
      })

  renoted : (st : RegisterState) (n : ℕ) (x y : Node) (phase : Phase) (p : WaitingUpdate) → Has phase p → PendingOk V st n y (record p { notes = [] }) → y.stamp ≡ x.stamp → PhaseOk V old n x phase → PhaseOk V st n y (with_notes phase [])
  renoted st n x y Valid p has w same o = absurd has
  renoted st n x y Invalid p has w same o = absurd has
  renoted st n x y (Write q) p has w same o = (rw has w, o.1 ∙ sym same)
  renoted st n x y (Replay q) p has w same o = (rw has w, o.1 ∙ sym same)
  renoted st n x y (Trans q) p has w same o = (rw has w, o.1)

  -- a pending read-modify-write has the row's stamp
  rmw_at_row : (n : ℕ) (x : Node) (phase : Phase) (p : WaitingUpdate) → Has phase p → PhaseOk V old n x phase → (p.kind ≡ Kind.Write) ⊎ (p.stamp ≡ x.stamp)
  rmw_at_row n x Valid p has o = absurd has
  rmw_at_row n x Invalid p has o = absurd has
  rmw_at_row n x (Write q) p has o = inr (rw (← has) o.1)
  rmw_at_row n x (Replay q) p has o = inr (rw (← has) o.1)
  rmw_at_row n x (Trans q) p has o = inl (rw (← has) o.1)

  pub install_pending_kept : (n e : ℕ) (p : WaitingUpdate) → (old.node n).epoch < e → In (V e) n → Between V old n e → Has (old.node n).phase p → Change old new n (record (old.node n) { epoch = e; phase = with_notes (old.node n).phase [] }) (Inv n e p.stamp p.kind p.content ∷ []) (record { who = n; epoch = e; stamp = (old.node n).stamp; exact = true; ready = (old.node n).ready } ∷ record { who = n; epoch = e; stamp = p.stamp; exact = false; ready = (old.node n).ready } ∷ []) [] [] → Parts V new
  install_pending_kept n e p later member middle has ch =
      let x = old.node n in
      let y : Node = record x { epoch = e; phase = with_notes x.phase [] } in
      let k : Mark = record { who = n; epoch = e; stamp = x.stamp; exact = true; ready = x.ready } in
      let j : Mark = record { who = n; epoch = e; stamp = p.stamp; exact = false; ready = x.ready } in
      let ms : List Mark = k ∷ j ∷ [] in
      let was = parts.nodes n in
      let w = pending_of V old n x x.phase p has was.phase in
      let some = ready_in V was w.ready in
      let r : Rises old new n y ms = rises ch (omega arith) (omega arith) (record { who = refl; epoch = refl; row = λ _. refl; within = omega arith }, (record { who = refl; epoch = refl; row = λ no. absurd (false≢true no); within = w.below }, tt)) in
      let here : Marked new k = arrives ch k (inl refl) in
      let here_too : Marked new j = arrives ch j (inr (inl refl)) in
      let bound : (f : ℕ) → 1 ≤ f → f < e → Bound V new f x.stamp = λ f one below. install_bound V old new parts n e later member middle y ms refl refl r f x.stamp some one below (omega arith) (λ b. was.bound (was.copied w.ready) f one b) in
      let covers : ReadyCovers new n e p.stamp = record { mark = j; marked = here_too; who = refl; epoch = refl; stamp = refl; ready = w.ready } in
      let known = known_grows V old new n y ms r w.known in
      let w' : PendingOk V new n y (record p { notes = [] }) = record { ready = w.ready; covers = covers; below = w.below; positive = w.positive; known = known; notes = λ i h. absurd h } in
      let twin : (u : Update) → In old.begun u → u.stamp ≡ p.stamp → u.kind ≡ Kind.Rmw → Twin V new j = λ u begun is rmw.
      ⊎_elim
      (λ (plain : p.kind ≡ Kind.Write).
      let same : w.known.update ≡ u = parts.once w.known.update u w.known.begun begun (w.known.stamp ∙ sym is) in
      let kinds : Kind.Write ≡ Kind.Rmw = sym (w.known.same_kind ∙ plain) ∙ ap (λ (v : Update). v.kind) same ∙ rmw in
      cc)
      (λ (top : p.stamp ≡ x.stamp). record { mark = k; marked = here; who = refl; epoch = refl; stamp = sym top; ready = λ y. y; exact = refl }) (rmw_at_row n x x.phase p has was.phase) in
      keep V old new n y _ ms _ _ (record {
        parts = parts;
        change = ch;
        rise = r;
        node = record {
          member = λ _. member;
          marked = λ _. here;
          resting = λ zero_is. absurd (omega arith);
          copied = was.copied;
          bound = λ _. bound;
          known = holds_grows V old new n y ms r was.known;
          kept = λ is. rests_grows V old new n y ms r (was.kept is);
          phase = renoted new n x y x.phase p has w' refl was.phase;
        };
        letters = ((cover_of V covers, known), tt);
        marks = (
          record {
            some_epoch = omega arith;
            epoch = rw ch.here (le_refl e);
            member = member;
            top = rw ch.here (le_refl x.stamp);
            bound = λ _ _. bound;
            begun = install_begun V old new parts n e later member middle y ms refl refl r k (row_mark n x) some refl (le_refl x.stamp) (was.marked some) refl refl (λ _ _ _ _. twin_itself V old new n y ms r k here refl);
          },
          (
            record {
              some_epoch = omega arith;
              epoch = rw ch.here (le_refl e);
              member = member;
              top = rw ch.here w.below;
              bound = λ no. absurd (false≢true no);
              begun = install_begun V old new parts n e later member middle y ms refl refl r j w.covers.mark some refl w.below w.covers.marked w.covers.epoch w.covers.stamp twin;
            },
            tt,
          ),
        );
        updates = tt;
        once = λ u v h. absurd h;
        unlike = λ u v h. absurd h;
        items = tt;
        timely = parts.timely;
      })
