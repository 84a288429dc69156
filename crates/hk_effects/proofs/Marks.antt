-- The marks of a step, brought down to those that are new.
use Rattle.std.proofs.Common.{◌≡◌, ◌⊎◌, ℕ, Bool, true, false, cond, List, [], ◌∷◌, ◌++◌, ◌≤◌, sym, refl, inl, inr, ⊎_elim, arith, leb, ltb, leb-true, le-leb}
use Rattle.std.proofs.lemmas.Bool.{false≢true, ltb-true}
use Rattle.hk_register.specs.Machine.{In, Weaker, Marked, WaitingUpdate, Phase, Node, Message, Mark, Update, Item, RegisterState}
use Rattle.hk_register.specs.Machine.Phase.{Valid, Invalid, Write, Replay, Trans}
use Rattle.hk_register.specs.Facts.{ReadyCovers}
use Rattle.hk_register.specs.Effects.{Change, Has, row_mark, cover_mark}
use Rattle.hk_register.specs.Parts.{Parts, PendingOk}
use Rattle.hk_register.proofs.Helps.{pending_of}
use Rattle.hk_register.proofs.Grow.{in_either, in_right}
use Rattle.hk_effects.specs.Projection.{pending_marks, moment_marks, install_marks, ack_marks, step_marks}
use Rattle.hk_effects.proofs.Frames.{itself, narrow}

-- a pending update's stamp is the row's, or was covered before
abbrev pub Sourced : RegisterState → ℕ → Node → Type 0
Sourced st n z = (p : WaitingUpdate) → Has z.phase p → (p.stamp ≡ z.stamp) ⊎ ReadyCovers st n z.epoch p.stamp

pub no_install : (n : ℕ) (was z : Node) → z.epoch ≡ was.epoch → install_marks n was z ≡ []
no_install n was z same = by_test (ltb was.epoch z.epoch) refl
  where
    by_test : (b : Bool) → ltb was.epoch z.epoch ≡ b → cond b (pending_marks n z was.phase) [] ≡ []
    by_test true e = absurd (let l = ltb-true was.epoch z.epoch e in omega arith)
    by_test false e = refl

module _ (st : RegisterState) (n : ℕ) (z : Node) where
  -- a cover of the row's stamp, or of an older one
  one_source : (p : WaitingUpdate) → (p.stamp ≡ z.stamp) ⊎ ReadyCovers st n z.epoch p.stamp → (k : Mark) → k ≡ cover_mark n z p.stamp → Weaker k (row_mark n z) ⊎ ((j : Mark) × Weaker k j × Marked st j)
  one_source p (inl same) k is = inl (rw is (record { who = refl; epoch = refl; stamp = same; exact = λ no_exact. absurd (false≢true no_exact); ready = λ e. e }))
  one_source p (inr w) k is = inr (w.mark, rw is (record { who = sym w.who; epoch = sym w.epoch; stamp = sym w.stamp; exact = λ no_exact. absurd (false≢true no_exact); ready = λ _. w.ready }), w.marked)

  pending_source : (phase : Phase) → ((p : WaitingUpdate) → Has phase p → (p.stamp ≡ z.stamp) ⊎ ReadyCovers st n z.epoch p.stamp) → (k : Mark) → In (pending_marks n z phase) k → Weaker k (row_mark n z) ⊎ ((j : Mark) × Weaker k j × Marked st j)
  pending_source Valid ok k h = absurd h
  pending_source Invalid ok k h = absurd h
  pending_source (Write p) ok k h = ⊎_elim (one_source p (ok p refl) k) (λ (none : ⊥). absurd none) h
  pending_source (Replay p) ok k h = ⊎_elim (one_source p (ok p refl) k) (λ (none : ⊥). absurd none) h
  pending_source (Trans p) ok k h = ⊎_elim (one_source p (ok p refl) k) (λ (none : ⊥). absurd none) h

  -- a mark of the moment is at most the row's, or old
  pub moment_source : Sourced st n z → (k : Mark) → In (moment_marks n z) k → (1 ≤ z.epoch) × (Weaker k (row_mark n z) ⊎ ((j : Mark) × Weaker k j × Marked st j))
  moment_source ok k h = by_test (leb 1 z.epoch) refl h
    where
      by_test : (b : Bool) → leb 1 z.epoch ≡ b → In (cond b (row_mark n z ∷ pending_marks n z z.phase) []) k → (1 ≤ z.epoch) × (Weaker k (row_mark n z) ⊎ ((j : Mark) × Weaker k j × Marked st j))
      by_test true e h = (leb-true 1 z.epoch e, ⊎_elim (λ (is : k ≡ row_mark n z). inl (rw is (itself (row_mark n z)))) (λ (p : In (pending_marks n z z.phase) k). pending_source z.phase ok k p) h)
      by_test false e h = absurd h

  pub row_first : 1 ≤ z.epoch → (ks : List Mark) → In (moment_marks n z ++ ks) (row_mark n z)
  row_first some ks = rw (le-leb 1 z.epoch some) (inl refl)

  -- the row's mark is the only new one
  pub row_is_new : (new : RegisterState) (was : Node) (ls acks_from ls' : List Message) (us : List Update) (hs : List Item) → 1 ≤ z.epoch → z.epoch ≡ was.epoch → Sourced st n z →
      ((l : Message) → In ls l → In ls' l) → ((k : Mark) → In (ack_marks n z acks_from) k → k ≡ cover_mark n z z.stamp) →
      Change st new n z ls (step_marks n was z acks_from) us hs → Change st new n z ls' (row_mark n z ∷ []) us hs
  row_is_new new was ls acks_from ls' us hs some same ok letters acks ch =
      narrow st new n z ls ls' (step_marks n was z acks_from) (row_mark n z ∷ []) us hs letters
      (λ k h. ⊎_elim (λ (is : k ≡ row_mark n z). rw is (row_first some _)) (λ (none : ⊥). absurd none) h)
      (λ k h.
      ⊎_elim
      (λ (a : In (moment_marks n z) k).
      ⊎_elim
      (λ (w : Weaker k (row_mark n z)). (row_mark n z, w, inl (inl refl)))
      (λ (o : (j : Mark) × Weaker k j × Marked st j). (o.0, o.1, inr o.2)) (moment_source ok k a).1)
      (λ (b : In (install_marks n was z ++ ack_marks n z acks_from) k).
      let b' : In (ack_marks n z acks_from) k = rw (no_install n was z same) at b in
      (row_mark n z, rw (acks k b') (record { who = refl; epoch = refl; stamp = refl; exact = λ no_exact. absurd (false≢true no_exact); ready = λ e. e }), inl (inl refl)))
      (in_either (moment_marks n z) (install_marks n was z ++ ack_marks n z acks_from) k h)) ch

  -- the ACKs' marks are the only new ones
  pub acks_are_new : (new : RegisterState) (was : Node) (ls acks_from ls' : List Message) (us : List Update) (hs : List Item) → (1 ≤ z.epoch → Marked st (row_mark n z)) → z.epoch ≡ was.epoch → Sourced st n z →
      ((l : Message) → In ls l → In ls' l) →
      Change st new n z ls (step_marks n was z acks_from) us hs → Change st new n z ls' (ack_marks n z acks_from) us hs
  acks_are_new new was ls acks_from ls' us hs row same ok letters ch =
      narrow st new n z ls ls' (step_marks n was z acks_from) (ack_marks n z acks_from) us hs letters
      (λ k h. in_right (moment_marks n z) _ k (in_right (install_marks n was z) (ack_marks n z acks_from) k h))
      (λ k h.
      ⊎_elim
      (λ (a : In (moment_marks n z) k).
      let m = moment_source ok k a in
      ⊎_elim
      (λ (w : Weaker k (row_mark n z)). (row_mark n z, w, inr (row m.0)))
      (λ (o : (j : Mark) × Weaker k j × Marked st j). (o.0, o.1, inr o.2)) m.1)
      (λ (b : In (install_marks n was z ++ ack_marks n z acks_from) k).
      let b' : In (ack_marks n z acks_from) k = rw (no_install n was z same) at b in (k, itself k, inl b'))
      (in_either (moment_marks n z) (install_marks n was z ++ ack_marks n z acks_from) k h)) ch

-- what the parts give of a pending update
module _ (V : ℕ → List ℕ) (st : RegisterState) (parts : Parts V st) (n : ℕ) where
  pub own_pending : (p : WaitingUpdate) → Has (st.node n).phase p → PendingOk V st n (st.node n) p
  own_pending p has = pending_of V st n (st.node n) (st.node n).phase p has (parts.nodes n).phase

  pub sourced_same : Sourced st n (st.node n)
  sourced_same p has = inr (own_pending p has).covers
