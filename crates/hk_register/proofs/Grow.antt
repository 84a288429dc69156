-- Facts outlast a change of one node.
use Rattle.std.proofs.Common.{Option, ◌≡◌, ◌⊎◌, ◌≢◌, ℕ, true, List, [], ◌∷◌, ◌++◌, ◌<◌, ◌≤◌, ◌∙◌, sym, subst, inl, inr, ⊎_elim, arith, le_trans}
use Rattle.std.proofs.lemmas.Bool.{cases_eq}
use Rattle.hk_base.specs.declared.call.Content.{Content}
use Rattle.hk_register.specs.Machine.{In, Each, Weaker, Marked, Node, Mark, Update, RegisterState}
use Rattle.hk_base.specs.declared.stamp.Kind.{Kind}
use Rattle.hk_register.specs.Facts.{Covers, Exact, ReadyCovers, ReadyExact, Complete, Settled, Rests, Bound, PassesOver}
use Rattle.hk_register.specs.Parts.{Known}

pub in_right : {X : Type 0} (xs ys : List X) (y : X) → In ys y → In (xs ++ ys) y
in_right [] ys y h = h
in_right (x ∷ xs) ys y h = inr (in_right xs ys y h)

pub in_left : {X : Type 0} (xs ys : List X) (y : X) → In xs y → In (xs ++ ys) y
in_left [] ys y h = absurd h
in_left (x ∷ xs) ys y (inl e) = inl e
in_left (x ∷ xs) ys y (inr h) = inr (in_left xs ys y h)

pub in_either : {X : Type 0} (xs ys : List X) (y : X) → In (xs ++ ys) y → In xs y ⊎ In ys y
in_either [] ys y h = inr h
in_either (x ∷ xs) ys y (inl e) = inl (inl e)
in_either (x ∷ xs) ys y (inr h) = ⊎_elim (λ a. inl (inr a)) inr (in_either xs ys y h)

pub each_in : {X : Type 0} (P : X → Type 0) (xs : List X) (y : X) → Each P xs → In xs y → P y
each_in P [] y all h = absurd h
each_in P (x ∷ xs) y all (inl e) = subst P (sym e) all.0
each_in P (x ∷ xs) y all (inr h) = each_in P xs y all.1 h

-- what a change is to respect: nothing falls, and new marks are of the node, in its epoch, exact ones with its stamp
pub record Rises (old new : RegisterState) (n : ℕ) (x : Node) (ms : List Mark) : Type 0 where
  pub marks : (k : Mark) → Marked old k → Marked new k
  pub marks_from : (k : Mark) → Marked new k → (j : Mark) × Weaker k j × (In ms j ⊎ Marked old j)
  pub begun : (u : Update) → In old.begun u → In new.begun u
  pub here : new.node n ≡ x
  pub there : (m : ℕ) → m ≢ n → new.node m ≡ old.node m
  pub epoch : (old.node n).epoch ≤ x.epoch
  pub stamp : (old.node n).stamp ≤ x.stamp
  pub of_node : (k : Mark) → In ms k → k.who ≡ n
  pub of_epoch : (k : Mark) → In ms k → k.epoch ≡ x.epoch
  pub of_row : (k : Mark) → In ms k → k.exact ≡ true → k.stamp ≡ x.stamp
  pub within : (k : Mark) → In ms k → k.stamp ≤ x.stamp

module _ (V : ℕ → List ℕ) (old new : RegisterState) (n : ℕ) (x : Node) (ms : List Mark) (r : Rises old new n x ms) where
  pub epoch_rises : (m : ℕ) → (old.node m).epoch ≤ (new.node m).epoch
  epoch_rises m = ⊎_elim (λ (e : m ≡ n). rw (e, r.here) r.epoch) (λ (d : m ≢ n). rw (r.there m d) (omega arith)) (cases_eq m n)

  pub stamp_rises : (m : ℕ) → (old.node m).stamp ≤ (new.node m).stamp
  stamp_rises m = ⊎_elim (λ (e : m ≡ n). rw (e, r.here) r.stamp) (λ (d : m ≢ n). rw (r.there m d) (omega arith)) (cases_eq m n)

  pub covers_grows : {m e s : ℕ} → Covers old m e s → Covers new m e s
  covers_grows c = record { mark = c.mark; marked = r.marks _ c.marked; who = c.who; epoch = c.epoch; stamp = c.stamp }

  pub exact_grows : {m e s : ℕ} → Exact old m e s → Exact new m e s
  exact_grows c = record { mark = c.mark; marked = r.marks _ c.marked; who = c.who; epoch = c.epoch; stamp = c.stamp; exact = c.exact }

  pub ready_covers_grows : {m e s : ℕ} → ReadyCovers old m e s → ReadyCovers new m e s
  ready_covers_grows c = record { mark = c.mark; marked = r.marks _ c.marked; who = c.who; epoch = c.epoch; stamp = c.stamp; ready = c.ready }

  pub ready_exact_grows : {m e s : ℕ} → ReadyExact old m e s → ReadyExact new m e s
  ready_exact_grows c = record { mark = c.mark; marked = r.marks _ c.marked; who = c.who; epoch = c.epoch; stamp = c.stamp; exact = c.exact; ready = c.ready }

  pub complete_grows : {s : ℕ} → Complete V old s → Complete V new s
  complete_grows (e, c) = (e, record { some_epoch = c.some_epoch; all = λ m h. covers_grows (c.all m h); one = c.one; one_member = c.one_member; one_ready = ready_covers_grows c.one_ready })

  pub settled_grows : {s : ℕ} → Settled V old s → Settled V new s
  settled_grows (e, c) = (e, record { some_epoch = c.some_epoch; all = λ m h. exact_grows (c.all m h); one = c.one; one_member = c.one_member; one_ready = ready_exact_grows c.one_ready })

  pub rests_grows : {s : ℕ} → Rests V old s → Rests V new s
  rests_grows (inl e) = inl e
  rests_grows (inr h) = inr (settled_grows h)

  pub known_grows : {s : ℕ} {kind : Kind} {content : Option Content} → Known old s kind content → Known new s kind content
  known_grows k = record { update = k.update; begun = r.begun _ k.begun; stamp = k.stamp; same_kind = k.same_kind; same_content = k.same_content }

  -- a mark of a node of an epoch that it has passed is old
  pub old_of_passed : (k : Mark) → k.epoch < (old.node k.who).epoch → Marked new k → (j : Mark) × Weaker k j × Marked old j
  old_of_passed k below h =
      let t = r.marks_from k h in (
        t.0,
        t.1,
        ⊎_elim
            (λ (fresh : In ms t.0). let e = r.of_epoch t.0 fresh in let b : k.epoch < (old.node n).epoch = rw (t.1.who ∙ r.of_node t.0 fresh) at below in absurd (omega (arith, r.epoch, t.1.epoch)))
            (λ (was : Marked old t.0). was) t.2,
      )

  pub bound_grows : {e s t : ℕ} → s ≤ t → Bound V old e s → Bound V new e t
  bound_grows {e} {s} {t} up b = record {
    who = b.who;
    member = b.member;
    passed = let up = epoch_rises b.who in omega (arith, b.passed, up);
    tops = λ k h w below.
        let here : k.epoch < (old.node k.who).epoch = rw w (omega (arith, b.passed, below)) in
        let t = old_of_passed k here h in let top = b.tops t.0 t.2 (sym t.1.who ∙ w) (omega (arith, t.1.epoch)) in omega (arith, t.1.stamp);
  }

  pub passes_grows : {e base u : ℕ} → PassesOver V old e base u → PassesOver V new e base u
  passes_grows {e} {base} {u} p = record {
    who = p.who;
    member = p.member;
    over = λ k h w at exact.
        let t = r.marks_from k h in
        let exact' = t.1.exact exact in
        ⊎_elim
        (λ (fresh : In ms t.0).
        let is : t.0.stamp ≡ x.stamp = r.of_row t.0 fresh exact' in
        let me : p.who ≡ n = sym w ∙ t.1.who ∙ r.of_node t.0 fresh in
        let epoch = r.of_epoch t.0 fresh in
        ⊎_elim
        (λ (up : u ≤ (old.node p.who).stamp). inr (let up : u ≤ (old.node n).stamp = rw me at up in omega (arith, r.stamp, t.1.stamp)))
        (λ (past : e < (old.node p.who).epoch). let past : e < (old.node n).epoch = rw me at past in absurd (omega (arith, r.epoch, t.1.epoch))) p.settled)
        (λ (was : Marked old t.0). rw t.1.stamp (p.over t.0 was (sym t.1.who ∙ w) (sym t.1.epoch ∙ at) exact')) t.2;
    settled = ⊎_elim
        (λ (up : u ≤ (old.node p.who).stamp). inl (le_trans up (stamp_rises p.who)))
        (λ (past : e < (old.node p.who).epoch). inr (le_trans past (epoch_rises p.who))) p.settled;
  }
