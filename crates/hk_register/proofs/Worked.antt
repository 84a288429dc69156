-- The worked runs.
use Rattle.std.proofs.Common.{◌≡◌, ℕ, Bool, true, false, not, ◌||◌, List, [], ◌∷◌, ◌++◌, Option, Some, None, ◌∙◌, sym, refl, ap, subst, inl, inr, ⊎_elim, arith, eqb}
use Rattle.std.proofs.lemmas.Bool.{false≢true, eqb-true, eq-eqb, ne_eqb, or_cases, ltb-true}
use Rattle.std.specs.Prelude.{nat_lt}
use Rattle.std.specs.List.{list_any, list_all}
use Rattle.hk_base.specs.declared.stamp.Kind.TheVariants as Kind
use Rattle.hk_base.specs.declared.call.Content.{Content}
use Rattle.hk_base.specs.declared.call.Op.TheVariants as op
use Rattle.hk_base.specs.Register.{act}
use Rattle.hk_register.specs.Machine.{In, Each, Marked, Note, Mark, Update, Item, RegisterState, call_of}
use Rattle.hk_register.specs.Effects.{Effect, Happens, Allowed, register_of, IsBlind, Fresh, Leased, AllNoted, AllExact, NotesAfter, done}
use Rattle.hk_register.specs.Runs.{Step, Run, Reached, is_in, start, last, after, played, Plays}
use Rattle.hk_register.specs.Worked.{Possible}
use Rattle.hk_register.proofs.Grow.{in_left, in_right, in_either}
use Rattle.hk_register.proofs.Tests.{in_is, any_in, all_in}

-- a write does not look at the register
pub blind : (c : Content) → IsBlind (op.Write c)
blind c r r' tag = at r.content r'.content
  where
    at : (x y : Option Content) → act (op.Write c) (register_of x r.tag) tag ≡ act (op.Write c) (register_of y r'.tag) tag
    at None None = refl
    at None (Some y) = refl
    at (Some x) None = refl
    at (Some x) (Some y) = refl

pub not_plain : {A : Type 0} → Kind.Rmw ≡ Kind.Write → A
not_plain e = absurd (apart e)
  where
    apart : Kind.Rmw ≡ Kind.Write → ⊥
    apart e = cc

pub fresh : (st : RegisterState) (call : ℕ) → list_all (λ i. not (eqb (call_of i) call)) st.history ≡ true → Fresh st call
fresh st call e i h same = differs (eqb (call_of i) call) (all_in (λ i. not (eqb (call_of i) call)) st.history e i h) (eq-eqb (call_of i) call same)
  where
    differs : (b : Bool) → not b ≡ true → b ≡ true → ⊥
    differs true e f = false≢true e
    differs false e f = false≢true f

pub leased : (V : ℕ → List ℕ) (st : RegisterState) (n : ℕ) → list_all (λ (j : Mark). nat_lt j.epoch (st.node n).epoch || is_in n (V j.epoch)) st.marks ≡ true → Leased V st n
leased V st n e k marked late =
    let j = marked.0 in
    ⊎_elim
    (λ (earlier : nat_lt j.epoch (st.node n).epoch ≡ true). let l = ltb-true j.epoch (st.node n).epoch earlier in absurd (omega (arith, marked.1.epoch)))
    (λ (there : is_in n (V j.epoch) ≡ true). rw marked.1.epoch (in_is n (V j.epoch) there))
    (or_cases (nat_lt j.epoch (st.node n).epoch) (is_in n (V j.epoch)) (all_in (λ (j : Mark). nat_lt j.epoch (st.node n).epoch || is_in n (V j.epoch)) st.marks e j marked.2))

pub noted : (V : ℕ → List ℕ) (e n : ℕ) (notes : List Note) → list_all (λ m. eqb m n || list_any (λ (k : Note). eqb k.who m) notes) (V e) ≡ true → AllNoted V e n notes
noted V e n notes is m h other = ⊎_elim
    (λ (same : eqb m n ≡ true). absurd (other (eqb-true m n same)))
    (λ (there : list_any (λ (k : Note). eqb k.who m) notes ≡ true). let t = any_in (λ (k : Note). eqb k.who m) notes there in (t.0, t.1, eqb-true t.0.who m t.2))
    (or_cases (eqb m n) (list_any (λ (k : Note). eqb k.who m) notes) (all_in (λ m. eqb m n || list_any (λ (k : Note). eqb k.who m) notes) (V e) is m h))

pub noted_after : (old : List Note) (m s top : ℕ) (exact : Bool) → (exact ≡ true → top ≡ s) → NotesAfter old (record { who = m; exact = exact } ∷ old) m s top
noted_after old m s top exact says k (inl is) = inr (ap (λ (j : Note). j.who) is, λ e. says (sym (ap (λ (j : Note). j.exact) is) ∙ e))
noted_after old m s top exact says k (inr h) = inl h

pub inexact : {A : Type 0} → false ≡ true → A
inexact e = absurd (false≢true e)

pub all_exact : (notes : List Note) → list_all (λ (k : Note). k.exact) notes ≡ true → AllExact notes
all_exact notes e = all_in (λ (k : Note). k.exact) notes e

-- the computed state is one that the effect leads to
itself : (k : Mark) → Rattle.hk_register.specs.Machine.Weaker k k
itself k = record { who = refl; epoch = refl; stamp = refl; exact = λ e. e; ready = λ e. e }

happens : (V : ℕ → List ℕ) (st : RegisterState) (e : Effect) → Allowed V st e → Happens V st e (after st e)
happens V st e allowed = record {
  allowed = allowed;
  change = record {
    here = rw (eq-eqb (done st e).actor (done st e).actor refl) refl;
    there = λ m d. rw (ne_eqb m (done st e).actor d) refl;
    letters = λ l h. in_either (done st e).letters st.letters l h;
    marks_kept = λ k h. (h.0, h.1, in_right (done st e).marks st.marks h.0 h.2);
    marks_new = λ k h. (k, itself k, in_left (done st e).marks st.marks k h);
    marks_from = λ k h. (h.0, h.1, ⊎_elim (λ (a : In (done st e).marks h.0). inl a) (λ (b : In st.marks h.0). inr (h.0, itself h.0, b)) (in_either (done st e).marks st.marks h.0 h.2));
    begun = refl;
    history = refl;
  };
}

-- computed runs are runs
abbrev pub steps_of : RegisterState → List Effect → List Step
steps_of st [] = []
steps_of st (e ∷ es) = record { effect = e; state = after st e } ∷ steps_of (after st e) es

runs : (V : ℕ → List ℕ) (st : RegisterState) (es : List Effect) → Plays V st es → Run V st (steps_of st es)
runs V st [] p = tt
runs V st (e ∷ es) p = (happens V st e p.0, runs V (after st e) es p.1)

ends_at : (st : RegisterState) (es : List Effect) → played st es ≡ last st (steps_of st es)
ends_at st [] = refl
ends_at st (e ∷ es) = ends_at (after st e) es

pub reached : (V : ℕ → List ℕ) (es : List Effect) → Plays V (start V) es → Reached V (played (start V) es)
reached V es p = record { run = steps_of (start V) es; runs = runs V (start V) es p; at = ends_at (start V) es }

-- each effect of a computed run is possible
pub each_possible : (V : ℕ → List ℕ) (st : RegisterState) (es : List Effect) → Reached V st → Plays V st es → Each Possible es
each_possible V st [] r p = tt
each_possible V st (e ∷ es) r p = (record { V = V; before = st; reached = r; next = after st e; happens = happens V st e p.0 }, each_possible V (after st e) es (further V st e r p.0) p.1)
  where
    last_more : (st : RegisterState) (run : List Step) (s : Step) → last st (run ++ (s ∷ [])) ≡ s.state
    last_more st [] s = refl
    last_more st (x ∷ run) s = last_more x.state run s

    run_more : (V : ℕ → List ℕ) (st : RegisterState) (run : List Step) (s : Step) → Run V st run → Happens V (last st run) s.effect s.state → Run V st (run ++ (s ∷ []))
    run_more V st [] s r h = (h, tt)
    run_more V st (x ∷ run) s r h = (r.0, run_more V x.state run s r.1 h)

    further : (V : ℕ → List ℕ) (st : RegisterState) (e : Effect) → Reached V st → Allowed V st e → Reached V (after st e)
    further V st e r a =
        let s : Step = record { effect = e; state = after st e } in
        record { run = r.run ++ (s ∷ []); runs = run_more V (start V) r.run s r.runs (subst (λ (t : RegisterState). Happens V t e (after st e)) r.at (happens V st e a)); at = sym (last_more (start V) r.run s) }
