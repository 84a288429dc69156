-- Two effects of one event.
use Rattle.std.proofs.Common.{◌≡◌, ℕ, cond, List, [], ◌∷◌, ◌++◌, ◌∙◌, refl, ap, inl, inr, ⊎_elim, eqb}
use Rattle.std.proofs.lemmas.Bool.{eq-eqb, ne_eqb}
use Rattle.hk_register.specs.Machine.{In, Marked, Node, Message, Mark, Update, Item, RegisterState}
use Rattle.hk_register.specs.Effects.{Change}
use Rattle.hk_register.proofs.Grow.{in_left, in_right, in_either}
use Rattle.hk_effects.proofs.Frames.{itself, weaker_trans}

pub append_three : {X : Type 0} (a b c : List X) → (a ++ b) ++ c ≡ a ++ (b ++ c)
append_three [] b c = refl
append_three (x ∷ a) b c = ap (λ (l : List _). x ∷ l) (append_three a b c)

-- a state after the first effect
abbrev pub mid_state : RegisterState → ℕ → Node → List Message → List Mark → List Update → List Item → RegisterState
mid_state st n z ls ms us hs = record { node = λ m. cond (eqb m n) z (st.node m); letters = ls ++ st.letters; marks = ms ++ st.marks; begun = us ++ st.begun; history = hs ++ st.history }

pub at_mid : (st : RegisterState) (n : ℕ) (z : Node) (ls : List Message) (ms : List Mark) (us : List Update) (hs : List Item) → (mid_state st n z ls ms us hs).node n ≡ z
at_mid st n z ls ms us hs = rw (eq-eqb n n refl) refl

pub mid_change : (st : RegisterState) (n : ℕ) (z : Node) (ls : List Message) (ms : List Mark) (us : List Update) (hs : List Item) → Change st (mid_state st n z ls ms us hs) n z ls ms us hs
mid_change st n z ls ms us hs = record {
  here = rw (eq-eqb n n refl) refl;
  there = λ m other. rw (ne_eqb m n other) refl;
  letters = λ l h. in_either ls st.letters l h;
  marks_kept = λ k h. (h.0, h.1, in_right ms st.marks h.0 h.2);
  marks_new = λ k h. (k, itself k, in_left ms st.marks k h);
  marks_from = λ k h. ⊎_elim (λ (a : In ms h.0). (h.0, h.1, inl a)) (λ (b : In st.marks h.0). (h.0, h.1, inr (h.0, itself h.0, b))) (in_either ms st.marks h.0 h.2);
  begun = refl;
  history = refl;
}

-- the second effect, from the change as a whole
pub second_change : (st new : RegisterState) (n : ℕ) (y z : Node) (ls' ls : List Message) (ks ms : List Mark) (us : List Update) (hs' hs : List Item) → Change st new n z ls ms us (hs ++ hs') →
    ((k : Mark) → In ks k → Marked new k) → Change (mid_state st n y ls' ks us hs') new n z ls ms [] hs
second_change st new n y z ls' ls ks ms us hs' hs ch weak = record {
  here = ch.here;
  there = λ m other. ch.there m other ∙ (rw (ne_eqb m n other) refl);
  letters = λ l h. ⊎_elim inl (λ (a : In st.letters l). inr (in_right ls' st.letters l a)) (ch.letters l h);
  marks_kept = λ k h. ⊎_elim
      (λ (a : In ks h.0). let i = weak h.0 a in (i.0, weaker_trans k h.0 i.0 h.1 i.1, i.2))
      (λ (b : In st.marks h.0). ch.marks_kept k (h.0, h.1, b)) (in_either ks st.marks h.0 h.2);
  marks_new = ch.marks_new;
  marks_from = λ k h. let t = ch.marks_from k h in (t.0, t.1, ⊎_elim inl (λ (b : Marked st t.0). inr (b.0, b.1, in_right ks st.marks b.0 b.2)) t.2);
  begun = ch.begun;
  history = ch.history ∙ append_three hs hs' st.history;
}
