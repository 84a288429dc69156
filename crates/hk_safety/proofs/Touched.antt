-- What a node's step marks at a key, and what is touched of it: all that no moment before has told.
use Rattle.std.proofs.Common.{◌≡◌, ◌≢◌, ◌⊎◌, ℕ, Bool, true, false, cond, not, ◌&&◌, List, [], ◌∷◌, ◌++◌, ◌<◌, ◌≤◌, ◌∙◌, sym, refl, ap, ap₂, subst, inl, inr, ⊎_elim, arith, Option, Some, None, unwrap_or, is_some, eqb, eq-zero-or-pos, rules, ltb, leb}
use Rattle.std.specs.List.{AllByRecursion, flat_map, list_any}
use Rattle.std.proofs.lemmas.Bool.{false≢true, eqb-true, eq-eqb, and_parts, and_from, or_parts, or_from, ltb-false}
use Rattle.hk_base.specs.declared.call.State.{State}
use Rattle.hk_base.specs.declared.call.State.TheVariants as State
use Rattle.hk_base.specs.declared.letter.Body.{Body}
use Rattle.hk_base.specs.declared.letter.Body.TheVariants as Body
use Rattle.hk_base.specs.declared.letter.Letter.{Letter}
use Rattle.hk_base.specs.declared.stamp.Stamp.{Stamp}
use Rattle.hk_base.specs.declared.view.View.{View}
use Rattle.hk_base.specs.View.{member_numbers}
use Rattle.hk_base.specs.Stamp.{tag_of}
use Rattle.hk_key.specs.declared.row.Pending.{Pending}
use Rattle.hk_key.specs.declared.row.Row.{Row}
use Rattle.hk_key.specs.Sound.{Holds}
use Rattle.hk_register.specs.Machine.{In, Weaker, Marked, Mark, Node, Phase, WaitingUpdate, Message, RegisterState}
use Rattle.hk_register.specs.Machine.Phase.{Valid, Invalid, Write, Replay, Trans}
use Rattle.hk_register.specs.Effects.{Has, row_mark, cover_mark}
use Rattle.hk_register.specs.Facts.{Complete, Settled, Rests, ReadyCovers}
use Rattle.hk_register.specs.Parts.{Parts, PhaseOk}
use Rattle.hk_register.specs.Printed.{is_mark}
use Rattle.hk_register.specs.Runs.{is_in}
use Rattle.hk_register.proofs.Grow.{in_left, in_right, in_either}
use Rattle.hk_register.proofs.Helps.{complete_of}
use Rattle.hk_register.proofs.Tests.{in_is, is_in_from, any_in, in_any, in_all}
use Rattle.hk_node.specs.declared.report.PriorRow.{PriorRow}
use Rattle.hk_key.specs.Same.{is_same_row}
use Rattle.hk_node.specs.Report.{AreChanged}
use Rattle.hk_node.specs.Rows.{Rows, find_row, row_at}
use Rattle.hk_key.specs.Table.{first_row}
use Rattle.hk_node.specs.Copies.{is_valid}
use Rattle.hk_node.specs.Node.{NodeState, epoch_of, epoch_in}
use Rattle.hk_node.specs.Sound.{IsNode}
use Rattle.hk_effects.specs.Projection.{key_node, is_same_key, phase_of, pending_marks, moment_marks, install_marks, ack_marks, step_marks, letter_of, letters_of, covers, item_at, number_of}
use Rattle.hk_effects.proofs.Frames.{itself}
use Rattle.hk_effects.proofs.Marks.{own_pending}
use Rattle.hk_effects.proofs.Order.{cases_key, same_true, same_of, same_not}
use Rattle.hk_effects.proofs.Rests.{row_sound}
use Rattle.hk_world.specs.declared.shown.Acted.{Acted}
use Rattle.hk_safety.specs.declared.evidence.Cover.{Cover}
use Rattle.hk_safety.specs.declared.evidence.Evidence.{Evidence}
use Rattle.hk_safety.specs.declared.evidence.Evidence.TheVariants.{Covers}
use Rattle.hk_safety.specs.declared.evidence.Evidence.TheVariants as Evidence
use Rattle.hk_safety.specs.Kept.{covers_in, is_ready_mark, ready_in}
use Rattle.hk_safety.specs.Grown.{CompleteBy, IsKnownBy, mark_by, with_mark, Touch, tags_at, wait_touches, touches_now, prior_waits, changed_touches, ack_touches, letter_touches, has_risen, has_moved, is_open}
use Rattle.hk_safety.proofs.Known.{TellNoLess, TellSame, same_of_both, same_known, more_complete}

-- ---- what marks tell, by the marks
pub record Names (m : Mark) (n e s : ℕ) : Type 0 where
  pub who : m.who ≡ n
  pub epoch : m.epoch ≡ e
  pub stamp : m.stamp ≡ s

pub named_by : (n e s : ℕ) (m : Mark) → is_mark n e s m ≡ true → Names m n e s
named_by n e s m is =
    let a = and_parts (eqb m.who n) (eqb m.epoch e && eqb m.stamp s) is in
    let b = and_parts (eqb m.epoch e) (eqb m.stamp s) a.1 in
    record { who = eqb-true m.who n a.0; epoch = eqb-true m.epoch e b.0; stamp = eqb-true m.stamp s b.1 }

pub by_names : (n e s : ℕ) (m : Mark) → Names m n e s → is_mark n e s m ≡ true
by_names n e s m is = and_from (eqb m.who n) _ (eq-eqb m.who n is.who) (and_from (eqb m.epoch e) _ (eq-eqb m.epoch e is.epoch) (eq-eqb m.stamp s is.stamp))

pub ready_by : (e s : ℕ) (m : Mark) → is_ready_mark e s m ≡ true → (m.ready ≡ true) × (m.epoch ≡ e) × (m.stamp ≡ s)
ready_by e s m is =
    let a = and_parts m.ready (eqb m.epoch e && eqb m.stamp s) is in
    let b = and_parts (eqb m.epoch e) (eqb m.stamp s) a.1 in
    (a.0, eqb-true m.epoch e b.0, eqb-true m.stamp s b.1)

pub by_ready : (e s : ℕ) (m : Mark) → m.ready ≡ true → m.epoch ≡ e → m.stamp ≡ s → is_ready_mark e s m ≡ true
by_ready e s m ready epoch stamp = and_from m.ready _ ready (and_from (eqb m.epoch e) _ (eq-eqb m.epoch e epoch) (eq-eqb m.stamp s stamp))

-- the one mark says no more of covers than the other
pub record Under (m j : Mark) : Type 0 where
  pub who : m.who ≡ j.who
  pub epoch : m.epoch ≡ j.epoch
  pub stamp : m.stamp ≡ j.stamp
  pub ready : m.ready ≡ true → j.ready ≡ true

under_itself : (m : Mark) → Under m m
under_itself m = record { who = refl; epoch = refl; stamp = refl; ready = λ r. r }

under_then : (m j k : Mark) → Under m j → Weaker j k → Under m k
under_then m j k a b = record { who = a.who ∙ b.who; epoch = a.epoch ∙ b.epoch; stamp = a.stamp ∙ b.stamp; ready = λ r. b.ready (a.ready r) }

-- each mark of the stamp is told by some other
pub told_no_less : (few more : List Mark) (s : ℕ) → ((m : Mark) → In few m → m.stamp ≡ s → (j : Mark) × Under m j × In more j) → TellNoLess few more s
told_no_less few more s told = record { covers = covers; ready = ready }
  where
    covers : (n e : ℕ) → covers_in few s n e ≡ true → covers_in more s n e ≡ true
    covers n e h =
        let f = any_in (is_mark n e s) few h in
        let is = named_by n e s f.0 f.2 in
        let j = told f.0 f.1 is.stamp in
        in_any (is_mark n e s) more j.0 j.2
        (by_names n e s j.0 (record { who = sym j.1.who ∙ is.who; epoch = sym j.1.epoch ∙ is.epoch; stamp = sym j.1.stamp ∙ is.stamp }))

    ready : (e : ℕ) → ready_in few s e ≡ true → ready_in more s e ≡ true
    ready e h =
        let f = any_in (is_ready_mark e s) few h in
        let is = ready_by e s f.0 f.2 in
        let j = told f.0 f.1 is.2 in
        in_any (is_ready_mark e s) more j.0 j.2 (by_ready e s j.0 (j.1.ready is.0) (sym j.1.epoch ∙ is.1) (sym j.1.stamp ∙ is.2))

-- what is complete is so by the marks
pub complete_by : (V : ℕ → List ℕ) (st : RegisterState) (s : ℕ) → Complete V st s → CompleteBy V st.marks s
complete_by V st s (e, c) =
    let r = c.one_ready in
    let w = r.marked.1 in (
      e,
      in_any (is_ready_mark e s) st.marks r.marked.0 r.marked.2
          (by_ready e s r.marked.0 (w.ready r.ready) (sym w.epoch ∙ r.epoch) (sym w.stamp ∙ r.stamp)),
      in_all (λ q. covers_in st.marks s q e) (V e) (λ q h.
          let k = c.all q h in
          let u = k.marked.1 in
          in_any (is_mark q e s) st.marks k.marked.0 k.marked.2
          (by_names q e s k.marked.0 (record { who = sym u.who ∙ k.who; epoch = sym u.epoch ∙ k.epoch; stamp = sym u.stamp ∙ k.stamp }))),
    )

-- ---- all marks of a step are of its node, as it is after it
pub record IsBy (id : ℕ) (x : Node) (m : Mark) : Type 0 where
  pub who : m.who ≡ id
  pub epoch : m.epoch ≡ x.epoch
  pub ready : m.ready ≡ x.ready

module _ (id : ℕ) (x : Node) where
  cover_by : (s : ℕ) (m : Mark) → In (cover_mark id x s ∷ []) m → IsBy id x m
  cover_by s m h = ⊎_elim (λ (e : m ≡ cover_mark id x s). subst (IsBy id x) (sym e) (record { who = refl; epoch = refl; ready = refl })) (λ (n : ⊥). absurd n) h

  pending_by : (ph : Phase) (m : Mark) → In (pending_marks id x ph) m → IsBy id x m
  pending_by Valid m h = absurd h
  pending_by Invalid m h = absurd h
  pending_by (Write p) m h = cover_by p.stamp m h
  pending_by (Replay p) m h = cover_by p.stamp m h
  pending_by (Trans p) m h = cover_by p.stamp m h

  moment_by : (m : Mark) → In (moment_marks id x) m → IsBy id x m
  moment_by m h = by_test (leb 1 x.epoch) h
    where
      by_test : (b : Bool) → In (cond b (row_mark id x ∷ pending_marks id x x.phase) []) m → IsBy id x m
      by_test false h = absurd h
      by_test true h = ⊎_elim
          (λ (e : m ≡ row_mark id x). subst (IsBy id x) (sym e) (record { who = refl; epoch = refl; ready = refl }))
          (λ (p : In (pending_marks id x x.phase) m). pending_by x.phase m p) h

  install_by : (was : Node) (m : Mark) → In (install_marks id was x) m → IsBy id x m
  install_by was m h = by_test (ltb was.epoch x.epoch) h
    where
      by_test : (b : Bool) → In (cond b (pending_marks id x was.phase) []) m → IsBy id x m
      by_test false h = absurd h
      by_test true h = pending_by was.phase m h

  ack_by : (ls : List Message) (m : Mark) → In (ack_marks id x ls) m → IsBy id x m
  ack_by [] m h = absurd h
  ack_by (Message.Ack from epoch s top ∷ ls) m h = ⊎_elim (λ (e : m ≡ cover_mark id x s). cover_by s m (inl e)) (λ (t : In (ack_marks id x ls) m). ack_by ls m t) h
  ack_by (Message.Inv from epoch s kind content ∷ ls) m h = ack_by ls m h
  ack_by (Message.Val from epoch s ∷ ls) m h = ack_by ls m h
  ack_by (Message.Give from epoch s kind content valid ∷ ls) m h = ack_by ls m h

  pub step_by : (was : Node) (ls : List Message) (m : Mark) → In (step_marks id was x ls) m → IsBy id x m
  step_by was ls m h = ⊎_elim (λ (a : In (moment_marks id x) m). moment_by m a)
      (λ (b : In (install_marks id was x ++ ack_marks id x ls) m). ⊎_elim (λ (i : In (install_marks id was x) m). install_by was m i)
      (λ (k : In (ack_marks id x ls) m). ack_by ls m k) (in_either (install_marks id was x) (ack_marks id x ls) m b))
      (in_either (moment_marks id x) (install_marks id was x ++ ack_marks id x ls) m h)

-- ---- the touches of a key, among all touches
pub in_tags : (key : List ℕ) (ts : List Touch) (s : ℕ) → In (tags_at key ts) s → In ts (key, s)
in_tags key [] s h = absurd h
in_tags key (t ∷ ts) s h = by_test (is_same_key key t.0) refl h (in_tags key ts s)
  where
    by_test : (b : Bool) → is_same_key key t.0 ≡ b → In (cond b (t.1 ∷ tags_at key ts) (tags_at key ts)) s → (In (tags_at key ts) s → In ts (key, s)) →
        In (t ∷ ts) (key, s)
    by_test true is (inl e) more = inl (ap₂ (λ (k : List ℕ) (n : ℕ). (k, n)) (same_true key t.0 is) e)
    by_test true is (inr g) more = inr (more g)
    by_test false is g more = inr (more g)

pub tags_have : (key : List ℕ) (ts : List Touch) (s : ℕ) → In ts (key, s) → In (tags_at key ts) s
tags_have key [] s h = absurd h
tags_have key (t ∷ ts) s (inl e) =
    let same : is_same_key key t.0 ≡ true = same_of key t.0 (ap (λ (p : Touch). p.0) e) in
    subst (λ (b : Bool). In (cond b (t.1 ∷ tags_at key ts) (tags_at key ts)) s) (sym same) (inl (ap (λ (p : Touch). p.1) e))
tags_have key (t ∷ ts) s (inr g) = by_test (is_same_key key t.0) (tags_have key ts s g)
  where
    by_test : (b : Bool) → In (tags_at key ts) s → In (cond b (t.1 ∷ tags_at key ts) (tags_at key ts)) s
    by_test true g = inr g
    by_test false g = g

in_flat : {X Y : Type 0} (f : X → List Y) (xs : List X) (y : Y) → In (flat_map f xs) y → (x : X) × In xs x × In (f x) y
in_flat f [] y h = absurd h
in_flat f (x ∷ xs) y h = ⊎_elim (λ (a : In (f x) y). (x, inl refl, a))
    (λ (b : In (flat_map f xs) y). let more = in_flat f xs y b in (more.0, inr more.1, more.2)) (in_either (f x) (flat_map f xs) y h)

flat_has : {X Y : Type 0} (f : X → List Y) (xs : List X) (x : X) (y : Y) → In xs x → In (f x) y → In (flat_map f xs) y
flat_has f [] x y h g = absurd h
flat_has f (z ∷ xs) x y (inl e) g = in_left (f z) (flat_map f xs) y (subst (λ (w : _). In (f w) y) e g)
flat_has f (z ∷ xs) x y (inr h) g = in_right (f z) (flat_map f xs) y (flat_has f xs x y h g)

-- what waits, in the words of the key's node
wait_marks : (key q : List ℕ) (o : Option Pending) (s : ℕ) → In (wait_touches q o) (key, s) → (key ≡ q) × (p : Pending) × (o ≡ Some p) × (s ≡ tag_of p.stamp)
wait_marks key q None s h = absurd h
wait_marks key q (Some p) s h = ⊎_elim
    (λ (e : ◌≡◌ {A = Touch} (key, s) (q, tag_of p.stamp)). (ap (λ (t : Touch). t.0) e, p, refl, ap (λ (t : Touch). t.1) e))
    (λ (n : ⊥). absurd n) h

abbrev waiting_mark : ℕ → Node → Option Pending → Mark
waiting_mark id z None = cover_mark id z 0
waiting_mark id z (Some w) = cover_mark id z (tag_of w.stamp)

pending_has : (id : ℕ) (z : Node) (st : State) (o : Option Pending) (at : Stamp) (p : Pending) → Holds st o at → o ≡ Some p →
    In (pending_marks id z (phase_of st o)) (cover_mark id z (tag_of p.stamp))
pending_has id z State.Valid o at p h e = absurd (false≢true (ap is_some (sym h ∙ e)))
pending_has id z State.Invalid o at p h e = absurd (false≢true (ap is_some (sym h ∙ e)))
pending_has id z State.Write None at p h e = absurd h
pending_has id z State.Write (Some q) at p h e = inl (ap (waiting_mark id z) (sym e))
pending_has id z State.Replay None at p h e = absurd h
pending_has id z State.Replay (Some q) at p h e = inl (ap (waiting_mark id z) (sym e))
pending_has id z State.Trans None at p h e = absurd h
pending_has id z State.Trans (Some q) at p h e = inl (ap (waiting_mark id z) (sym e))

-- a pending mark is of what waits
pending_is : (id : ℕ) (z : Node) (st : State) (o : Option Pending) (m : Mark) → In (pending_marks id z (phase_of st o)) m →
    (p : Pending) × (o ≡ Some p) × (m ≡ cover_mark id z (tag_of p.stamp))
pending_is id z State.Valid o m h = absurd h
pending_is id z State.Invalid o m h = absurd h
pending_is id z State.Write None m h = absurd h
pending_is id z State.Write (Some p) m h = ⊎_elim (λ (e : m ≡ cover_mark id z (tag_of p.stamp)). (p, refl, e)) (λ (n : ⊥). absurd n) h
pending_is id z State.Replay None m h = absurd h
pending_is id z State.Replay (Some p) m h = ⊎_elim (λ (e : m ≡ cover_mark id z (tag_of p.stamp)). (p, refl, e)) (λ (n : ⊥). absurd n) h
pending_is id z State.Trans None m h = absurd h
pending_is id z State.Trans (Some p) m h = ⊎_elim (λ (e : m ≡ cover_mark id z (tag_of p.stamp)). (p, refl, e)) (λ (n : ⊥). absurd n) h

-- ---- acknowledgements
acks_append : (id : ℕ) (z : Node) (a b : List Message) → ack_marks id z (a ++ b) ≡ ack_marks id z a ++ ack_marks id z b
acks_append id z [] b = refl
acks_append id z (Message.Ack from epoch s top ∷ a) b = ap (λ (l : List Mark). cover_mark id z s ∷ l) (acks_append id z a b)
acks_append id z (Message.Inv from epoch s kind content ∷ a) b = acks_append id z a b
acks_append id z (Message.Val from epoch s ∷ a) b = acks_append id z a b
acks_append id z (Message.Give from epoch s kind content valid ∷ a) b = acks_append id z a b

-- the letter acknowledges the stamp at the key
ack_touched : (key : List ℕ) (b : Body) (s : ℕ) → In (ack_touches b) (key, s) →
    (k : List ℕ) × (st : Stamp) × (top : Stamp) × (b ≡ Body.Ack k st top) × (key ≡ k) × (s ≡ tag_of st)
ack_touched key (Body.Ack k st top) s h = ⊎_elim
    (λ (e : ◌≡◌ {A = Touch} (key, s) (k, tag_of st)). (k, st, top, refl, ap (λ (t : Touch). t.0) e, ap (λ (t : Touch). t.1) e)) (λ (n : ⊥). absurd n) h
ack_touched key body s h = absurd h

module _ (id : ℕ) (z : Node) (key : List ℕ) where
  letter_acks : (l : Letter) (b : Body) (k : List ℕ) (st top : Stamp) → b ≡ Body.Ack k st top → key ≡ k →
      In (ack_marks id z (letter_of key l b)) (cover_mark id z (tag_of st))
  letter_acks l b k st top is same = subst (λ (c : Body). In (ack_marks id z (letter_of key l c)) (cover_mark id z (tag_of st))) (sym is)
      (subst (λ (t : Bool). In (ack_marks id z (cond t (Message.Ack (number_of l.from) l.epoch (tag_of st) (tag_of top) ∷ []) [])) (cover_mark id z (tag_of st)))
      (sym (same_of key k same)) (inl refl))

  pub acks_marked : (ls : List Letter) (s : ℕ) → In (flat_map letter_touches ls) (key, s) → In (ack_marks id z (letters_of key ls)) (cover_mark id z s)
  acks_marked [] s h = absurd h
  acks_marked (l ∷ ls) s h = subst (λ (ms : List Mark). In ms (cover_mark id z s)) (sym (acks_append id z (letter_of key l l.body) (letters_of key ls)))
      (⊎_elim
      (λ (a : In (ack_touches l.body) (key, s)).
      let t = ack_touched key l.body s a in
      in_left (ack_marks id z (letter_of key l l.body)) (ack_marks id z (letters_of key ls)) (cover_mark id z s)
      (subst (λ (n : ℕ). In (ack_marks id z (letter_of key l l.body)) (cover_mark id z n)) (sym t.5) (letter_acks l l.body t.0 t.1 t.2 t.3 t.4)))
      (λ (b : In (flat_map letter_touches ls) (key, s)). in_right (ack_marks id z (letter_of key l l.body)) (ack_marks id z (letters_of key ls))
      (cover_mark id z s) (acks_marked ls s b))
      (in_either (ack_touches l.body) (flat_map letter_touches ls) (key, s) h))

  letter_marks : (l : Letter) (b : Body) (m : Mark) → In (ack_marks id z (letter_of key l b)) m → In (ack_touches b) (key, m.stamp)
  letter_marks l (Body.Ack k st top) m h = by_test (is_same_key key k) refl h
    where
      by_test : (t : Bool) → is_same_key key k ≡ t → In (ack_marks id z (cond t (Message.Ack (number_of l.from) l.epoch (tag_of st) (tag_of top) ∷ []) [])) m →
          In (ack_touches (Body.Ack k st top)) (key, m.stamp)
      by_test true is (inl e) = inl (ap₂ (λ (q : List ℕ) (n : ℕ). (q, n)) (same_true key k is) (ap (λ (j : Mark). j.stamp) e))
      by_test true is (inr n) = absurd n
      by_test false is h = absurd h
  letter_marks l (Body.Inv k st kind content) m h = absurd (by_test (is_same_key key k) h)
    where
      by_test : (t : Bool) → In (ack_marks id z (cond t (Message.Inv (number_of l.from) l.epoch (tag_of st) kind content ∷ []) [])) m → ⊥
      by_test true h = h
      by_test false h = h
  letter_marks l (Body.Val k st) m h = absurd (by_test (is_same_key key k) h)
    where
      by_test : (t : Bool) → In (ack_marks id z (cond t (Message.Val (number_of l.from) l.epoch (tag_of st) ∷ []) [])) m → ⊥
      by_test true h = h
      by_test false h = h
  letter_marks l (Body.CopyGive after done items) m h = absurd (by_test (covers key after done items) h)
    where
      by_test : (t : Bool) → In (ack_marks id z (cond t (Message.Give (number_of l.from) l.epoch (tag_of (item_at key items).stamp) (item_at key items).kind (item_at key items).content
          (item_at key items).valid ∷ []) [])) m → ⊥
      by_test true h = h
      by_test false h = h
  letter_marks l body m h = absurd h

  pub acks_touched : (ls : List Letter) (m : Mark) → In (ack_marks id z (letters_of key ls)) m → In (flat_map letter_touches ls) (key, m.stamp)
  acks_touched [] m h = absurd h
  acks_touched (l ∷ ls) m h = ⊎_elim
      (λ (a : In (ack_marks id z (letter_of key l l.body)) m). in_left (ack_touches l.body) (flat_map letter_touches ls) (key, m.stamp) (letter_marks l l.body m a))
      (λ (b : In (ack_marks id z (letters_of key ls)) m). in_right (ack_touches l.body) (flat_map letter_touches ls) (key, m.stamp) (acks_touched ls m b))
      (in_either (ack_marks id z (letter_of key l l.body)) (ack_marks id z (letters_of key ls)) m
      (subst (λ (ms : List Mark). In ms m) (acks_append id z (letter_of key l l.body) (letters_of key ls)) h))

-- ---- the rows that changed
-- each prior row is the key's row before; and a key with none has its row still
pub record AreChanges (prior : List PriorRow) (old new : Rows) : Type 0 where
  pub each : (f : PriorRow) → In prior f → f.row ≡ find_row f.key old
  pub others : (key : List ℕ) → ((f : PriorRow) → In prior f → f.key ≢ key) → find_row key new ≡ find_row key old

each_in : (old new : Rows) (prior : List PriorRow) → AllByRecursion (λ f. (find_row f.key old ≡ f.row) × (is_same_row (row_at f.key old) (row_at f.key new) ≡ false)) prior →
    (f : PriorRow) → In prior f → f.row ≡ find_row f.key old
each_in old new [] all f h = absurd h
each_in old new (g ∷ prior) all f (inl e) = subst (λ (k : PriorRow). k.row ≡ find_row k.key old) (sym e) (sym all.0.0)
each_in old new (g ∷ prior) all f (inr h) = each_in old new prior all.1 f h

none_of_key : (key : List ℕ) (prior : List PriorRow) → ((f : PriorRow) → In prior f → f.key ≢ key) → list_any (λ f. is_same_key key f.key) prior ≡ false
none_of_key key [] none = refl
none_of_key key (f ∷ prior) none =
    or_from (is_same_key key f.key) _ (same_not key f.key (λ e. none f (inl refl) (sym e))) (none_of_key key prior (λ g h. none g (inr h)))

pub changes_of : (prior : List PriorRow) (old new : Rows) → AreChanged prior old new → AreChanges prior old new
changes_of prior old new are = record {
  each = each_in old new prior are.differ;
  others = λ key none. are.others key (none_of_key key prior none);
}

changed_or_not : (key : List ℕ) (prior : List PriorRow) → ((f : PriorRow) × In prior f × (f.key ≡ key)) ⊎ ((f : PriorRow) → In prior f → f.key ≢ key)
changed_or_not key [] = inr (λ f h. absurd h)
changed_or_not key (f ∷ prior) = ⊎_elim
    (λ (e : f.key ≡ key). inl (f, inl refl, e))
    (λ (ne : f.key ≢ key). ⊎_elim (λ (c : (g : PriorRow) × In prior g × (g.key ≡ key)). inl (c.0, inr c.1, c.2))
    (λ (none : (g : PriorRow) → In prior g → g.key ≢ key). inr (λ g h. ⊎_elim (λ (is : g ≡ f). subst (λ (k : PriorRow). k.key ≢ key) (sym is) ne) (none g) h))
    (changed_or_not key prior)) (cases_key f.key key)

from_one : (e : ℕ) → 1 ≤ e → leb 1 e ≡ true
from_one e some = search (rules)

-- ---- a step, seen from the key
pub record IsSeen (V : ℕ → List ℕ) (key : List ℕ) (st new : RegisterState) (id : ℕ) (acted : Acted) (n x : NodeState) (v : View) (letters : List Letter) : Type 0 where
  pub parts : Parts V st
  pub parts_now : Parts V new
  pub was : st.node id ≡ key_node key (Some n)
  pub now : new.node id ≡ key_node key (Some x)
  pub marks : new.marks ≡ step_marks id (key_node key (Some n)) (key_node key (Some x)) (letters_of key letters) ++ st.marks
  pub ok_was : IsNode n
  pub ok_now : IsNode x
  pub view : x.view ≡ Some v
  pub some : 1 ≤ v.epoch
  pub epoch : acted.report.epoch ≡ epoch_of n
  pub readied : acted.report.readied ≡ (not n.ready && x.ready)
  pub rows : AreChanges acted.report.rows n.rows x.rows
  pub fits : member_numbers v.members ≡ V v.epoch

abbrev pub touches_of : NodeState → View → Acted → List (List ℕ) → List Letter → List Touch
touches_of x v acted seen letters =
    (flat_map (changed_touches x (has_risen acted v)) acted.report.rows ++ flat_map (touches_now x) seen) ++ flat_map letter_touches letters

module _ (V : ℕ → List ℕ) (key : List ℕ) (st new : RegisterState) (id : ℕ) (acted : Acted) (n x : NodeState) (v : View) (letters : List Letter)
    (seen : List (List ℕ)) (is : IsSeen V key st new id acted n x v letters)
    (all : has_moved acted v ≡ true → (q : List ℕ) → is_open q x ≡ true → In seen q) where
  abbrev before : Node
  before = key_node key (Some n)

  abbrev after : Node
  after = key_node key (Some x)

  abbrev steps : List Mark
  steps = step_marks id before after (letters_of key letters)

  abbrev touches : List Touch
  touches = touches_of x v acted seen letters

  abbrev changes : List Touch
  changes = flat_map (changed_touches x (has_risen acted v)) acted.report.rows

  abbrev opens : List Touch
  opens = flat_map (touches_now x) seen

  epoch_is : after.epoch ≡ v.epoch
  epoch_is = ap epoch_in is.view

  some_epoch : 1 ≤ after.epoch
  some_epoch = subst (λ (e : ℕ). 1 ≤ e) (sym epoch_is) is.some

  -- ---- what is touched was marked
  moment_has : (m : Mark) → In (row_mark id after ∷ pending_marks id after after.phase) m → In steps m
  moment_has m h = in_left (moment_marks id after) (install_marks id before after ++ ack_marks id after (letters_of key letters)) m
      (subst (λ (b : Bool). In (cond b (row_mark id after ∷ pending_marks id after after.phase) []) m) (sym (from_one after.epoch some_epoch)) h)

  abbrev MarkedOf : ℕ → Type 0
  MarkedOf s = (m : Mark) × In steps m × (m.stamp ≡ s)

  now_marked : (q : List ℕ) (s : ℕ) → In (touches_now x q) (key, s) → MarkedOf s
  now_marked q s (inl e) =
      let same : key ≡ q = ap (λ (t : Touch). t.0) e in
      let tag : s ≡ tag_of (row_at q x.rows).stamp = ap (λ (t : Touch). t.1) e in
      (row_mark id after, moment_has (row_mark id after) (inl refl), ap (λ (k : List ℕ). tag_of (row_at k x.rows).stamp) same ∙ sym tag)
  now_marked q s (inr h) =
      let w = wait_marks key q (row_at q x.rows).pending s h in
      let row : Row = row_at key x.rows in
      let waits : row.pending ≡ Some w.1 = ap (λ (k : List ℕ). (row_at k x.rows).pending) w.0 ∙ w.2 in (
        cover_mark id after (tag_of w.1.stamp),
        moment_has (cover_mark id after (tag_of w.1.stamp))
            (inr (pending_has id after row.state row.pending row.stamp w.1 (row_sound x is.ok_now key).holds waits)),
        sym w.3,
      )

  prior_marked : (f : PriorRow) (s : ℕ) → In acted.report.rows f → has_risen acted v ≡ true → In (prior_waits f.key f.row) (key, s) → MarkedOf s
  prior_marked f s h rose g = by_row f.row (is.rows.each f h) g
    where
      risen : ltb before.epoch after.epoch ≡ true
      risen = ap₂ (λ (a b : ℕ). ltb a b) (sym is.epoch) epoch_is ∙ rose

      by_row : (o : Option Row) → o ≡ find_row f.key n.rows → In (prior_waits f.key o) (key, s) → MarkedOf s
      by_row None e g = absurd g
      by_row (Some r) e g =
          let w = wait_marks key f.key r.pending s g in
          let found : row_at key n.rows ≡ r = ap (λ (k : List ℕ). row_at k n.rows) w.0 ∙ ap (λ (o : Option Row). unwrap_or o first_row) (sym e) in
          let row : Row = row_at key n.rows in
          let waits : row.pending ≡ Some w.1 = ap (λ (q : Row). q.pending) found ∙ w.2 in
          let m : Mark = cover_mark id after (tag_of w.1.stamp) in
          let there : In (install_marks id before after) m =
          subst (λ (b : Bool). In (cond b (pending_marks id after before.phase) []) m) (sym risen)
          (pending_has id after row.state row.pending row.stamp w.1 (row_sound n is.ok_was key).holds waits) in
          (m, in_right (moment_marks id after) _ m (in_left (install_marks id before after) (ack_marks id after (letters_of key letters)) m there), sym w.3)

  changed_marked : (f : PriorRow) (s : ℕ) → In acted.report.rows f → In (changed_touches x (has_risen acted v) f) (key, s) → MarkedOf s
  changed_marked f s h g = ⊎_elim (λ (a : In (touches_now x f.key) (key, s)). now_marked f.key s a)
      (λ (b : In (cond (has_risen acted v) (prior_waits f.key f.row) []) (key, s)). by_rose (has_risen acted v) refl b)
      (in_either (touches_now x f.key) (cond (has_risen acted v) (prior_waits f.key f.row) []) (key, s) g)
    where
      by_rose : (b : Bool) → has_risen acted v ≡ b → In (cond b (prior_waits f.key f.row) []) (key, s) → MarkedOf s
      by_rose true rose g = prior_marked f s h rose g
      by_rose false rose g = absurd g

  touched_marked : (s : ℕ) → In touches (key, s) → MarkedOf s
  touched_marked s h = ⊎_elim
      (λ (a : In (changes ++ opens) (key, s)). ⊎_elim
      (λ (c : In changes (key, s)). let f = in_flat (changed_touches x (has_risen acted v)) acted.report.rows (key, s) c in changed_marked f.0 s f.1 f.2)
      (λ (o : In opens (key, s)). let q = in_flat (touches_now x) seen (key, s) o in now_marked q.0 s q.2)
      (in_either changes opens (key, s) a))
      (λ (b : In (flat_map letter_touches letters) (key, s)).
      let m : Mark = cover_mark id after s in (
        m,
        in_right (moment_marks id after) _ m (in_right (install_marks id before after) (ack_marks id after (letters_of key letters)) m
            (acks_marked id after key letters s b)),
        refl,
      ))
      (in_either (changes ++ opens) (flat_map letter_touches letters) (key, s) h)

  -- ---- and what was marked is touched, or was told before, or is of a stamp that is complete
  abbrev WasTold : Mark → Type 0
  WasTold m = (j : Mark) × Under m j × In st.marks j

  abbrev IsSettledBefore : ℕ → Type 0
  IsSettledBefore s = CompleteBy V st.marks s

  abbrev IsCase : Mark → Type 0
  IsCase m = In touches (key, m.stamp) ⊎ (WasTold m ⊎ IsSettledBefore m.stamp)

  -- a row that has not changed is as before
  abbrev Unchanged : Type 0
  Unchanged = find_row key x.rows ≡ find_row key n.rows

  row_same : Unchanged → row_at key x.rows ≡ row_at key n.rows
  row_same same = ap (λ (o : Option Row). unwrap_or o first_row) same

  in_changes : (f : PriorRow) (t : Touch) → In acted.report.rows f → In (changed_touches x (has_risen acted v) f) t → In touches t
  in_changes f t h g = in_left (changes ++ opens) (flat_map letter_touches letters) t
      (in_left changes opens t (flat_has (changed_touches x (has_risen acted v)) acted.report.rows f t h g))

  now_touched : (m : Mark) → In (row_mark id after ∷ pending_marks id after after.phase) m → In (touches_now x key) (key, m.stamp)
  now_touched m (inl e) = inl (ap (λ (j : Mark). (key, j.stamp)) e)
  now_touched m (inr h) =
      let p = pending_is id after (row_at key x.rows).state (row_at key x.rows).pending m h in
      inr (subst (λ (o : Option Pending). In (wait_touches key o) (key, m.stamp)) (sym p.1) (inl (ap (λ (j : Mark). (key, j.stamp)) p.2)))

  open_not : (state : State) → (row_at key x.rows).state ≡ state → is_open key x ≡ false → not (is_valid state) ≡ true → ⊥
  open_not state e closed shut = false≢true (sym (subst (λ (w : State). not (is_valid w) ≡ false) e closed) ∙ shut)

  -- a Valid row's stamp is complete
  valid_case : (m : Mark) → 1 ≤ m.stamp → Unchanged → is_open key x ≡ false → In (row_mark id after ∷ pending_marks id after after.phase) m →
      IsSettledBefore m.stamp
  valid_case m some same closed h = by_state (row_at key x.rows).state refl closed h
    where
      by_state : (state : State) → (row_at key x.rows).state ≡ state → is_open key x ≡ false →
          In (row_mark id after ∷ pending_marks id after (phase_of (row_at key x.rows).state (row_at key x.rows).pending)) m → IsSettledBefore m.stamp
      by_state State.Valid e closed h =
          let stamp : m.stamp ≡ before.stamp = valid_mark m (subst (λ (w : State). In (row_mark id after ∷ pending_marks id after (phase_of w (row_at key x.rows).pending)) m) e h)
          ∙ ap (λ (r : Row). tag_of r.stamp) (row_same same) in
          let phase : before.phase ≡ Valid = ap (λ (r : Row). phase_of r.state r.pending) (sym (row_same same)) ∙ ap (λ (w : State). phase_of w (row_at key x.rows).pending) e in
          let rests : Rests V st before.stamp = subst (λ (ph : Phase). PhaseOk V st id before ph) phase (subst (λ (z : Node). PhaseOk V st id z z.phase) is.was (is.parts.nodes id).phase) in
          ⊎_elim
          (λ (zero : before.stamp ≡ 0). absurd (omega (arith, stamp, zero, some)))
          (λ (s : Settled V st before.stamp). subst IsSettledBefore (sym stamp) (complete_by V st before.stamp (complete_of V st s))) rests
        where
          valid_mark : (m : Mark) → In (row_mark id after ∷ []) m → m.stamp ≡ after.stamp
          valid_mark m (inl e) = ap (λ (j : Mark). j.stamp) e
          valid_mark m (inr none) = absurd none
      by_state State.Invalid e closed h = absurd (open_not State.Invalid e closed refl)
      by_state State.Write e closed h = absurd (open_not State.Write e closed refl)
      by_state State.Replay e closed h = absurd (open_not State.Replay e closed refl)
      by_state State.Trans e closed h = absurd (open_not State.Trans e closed refl)

  -- ---- where the node stayed in its epoch, and as ready
  phase_pends : (ph : Phase) (m : Mark) → In (pending_marks id after ph) m → (p : WaitingUpdate) × Has ph p × (m ≡ cover_mark id after p.stamp)
  phase_pends Valid m h = absurd h
  phase_pends Invalid m h = absurd h
  phase_pends (Write p) m h = ⊎_elim (λ (e : m ≡ cover_mark id after p.stamp). (p, refl, e)) (λ (n : ⊥). absurd n) h
  phase_pends (Replay p) m h = ⊎_elim (λ (e : m ≡ cover_mark id after p.stamp). (p, refl, e)) (λ (n : ⊥). absurd n) h
  phase_pends (Trans p) m h = ⊎_elim (λ (e : m ≡ cover_mark id after p.stamp). (p, refl, e)) (λ (n : ⊥). absurd n) h

  was_marked : 1 ≤ before.epoch → Marked st (row_mark id before)
  was_marked some = subst (λ (z : Node). 1 ≤ z.epoch → Marked st (row_mark id z)) is.was (is.parts.nodes id).marked some

  marks_stay : (m : Mark) → In st.marks m → In new.marks m
  marks_stay m h = subst (λ (ms : List Mark). In ms m) (sym is.marks) (in_right steps st.marks m h)

  epoch_rises : before.epoch ≤ after.epoch
  epoch_rises = ⊎_elim (λ (zero : before.epoch ≡ 0). omega (arith, zero)) (λ (pos : 0 < before.epoch).
      let was = was_marked (omega (arith, pos)) in
      subst (λ (z : Node). before.epoch ≤ z.epoch) is.now (is.parts_now.marks (row_mark id before) (was.0, was.1, marks_stay was.0 was.2)).epoch)
      (eq-zero-or-pos before.epoch)

  module _ (unmoved : has_moved acted v ≡ false) where
    calm : (has_risen acted v ≡ false) × (acted.report.readied ≡ false)
    calm = or_parts (has_risen acted v) acted.report.readied unmoved

    same_epoch : after.epoch ≡ before.epoch
    same_epoch =
        let low : ltb before.epoch after.epoch ≡ false = ap₂ (λ (a b : ℕ). ltb a b) (sym is.epoch) epoch_is ∙ calm.0 in
        let up = epoch_rises in
        let not_less = ltb-false before.epoch after.epoch low in
        omega (arith, up, not_less)

    was_ready : after.ready ≡ true → before.ready ≡ true
    was_ready ready = by_bits n.ready x.ready (sym is.readied ∙ calm.1) ready
      where
        by_bits : (a b : Bool) → (not a && b) ≡ false → b ≡ true → a ≡ true
        by_bits true b e h = refl
        by_bits false true e h = absurd (false≢true (sym e))
        by_bits false false e h = absurd (false≢true h)

    unmoved_case : (m : Mark) → Unchanged → In (row_mark id after ∷ pending_marks id after after.phase) m → WasTold m
    unmoved_case m same (inl e) =
        let j = was_marked (subst (λ (k : ℕ). 1 ≤ k) same_epoch some_epoch) in
        let stamp : after.stamp ≡ before.stamp = ap (λ (r : Row). tag_of r.stamp) (row_same same) in
        let w : Under m (row_mark id before) = subst (λ (k : Mark). Under k (row_mark id before)) (sym e)
        (record { who = refl; epoch = same_epoch; stamp = stamp; ready = was_ready }) in
        (j.0, under_then m (row_mark id before) j.0 w j.1, j.2)
    unmoved_case m same (inr h) =
        let phase : after.phase ≡ before.phase = ap (λ (r : Row). phase_of r.state r.pending) (row_same same) in
        let p = phase_pends before.phase m (subst (λ (ph : Phase). In (pending_marks id after ph) m) phase h) in
        let ok = subst (λ (z : Node). Has z.phase p.0 → ReadyCovers st id z.epoch p.0.stamp) is.was (λ has. (own_pending V st is.parts id p.0 has).covers) p.1 in
        let w : Under m ok.mark = subst (λ (k : Mark). Under k ok.mark) (sym p.2)
        (record { who = sym ok.who; epoch = same_epoch ∙ sym ok.epoch; stamp = sym ok.stamp; ready = λ t. ok.ready }) in
        (ok.marked.0, under_then m ok.mark ok.marked.0 w ok.marked.1, ok.marked.2)

  -- ---- all marks of the step
  moment_case : (m : Mark) → 1 ≤ m.stamp → In (row_mark id after ∷ pending_marks id after after.phase) m → IsCase m
  moment_case m some h = ⊎_elim
      (λ (c : (f : PriorRow) × In acted.report.rows f × (f.key ≡ key)).
      inl (in_changes c.0 (key, m.stamp) c.1 (in_left (touches_now x c.0.key) _ (key, m.stamp)
      (subst (λ (q : List ℕ). In (touches_now x q) (key, m.stamp)) (sym c.2) (now_touched m h)))))
      (λ (none : (f : PriorRow) → In acted.report.rows f → f.key ≢ key). still (is.rows.others key none))
      (changed_or_not key acted.report.rows)
    where
      by_open : Unchanged → has_moved acted v ≡ true → (b : Bool) → is_open key x ≡ b → IsCase m
      by_open same moved true opened = inl (in_left (changes ++ opens) (flat_map letter_touches letters) (key, m.stamp) (in_right changes opens (key, m.stamp)
          (flat_has (touches_now x) seen key (key, m.stamp) (all moved key opened) (now_touched m h))))
      by_open same moved false closed = inr (inr (valid_case m some same closed h))

      by_moved : Unchanged → (b : Bool) → has_moved acted v ≡ b → IsCase m
      by_moved same true moved = by_open same moved (is_open key x) refl
      by_moved same false unmoved = inr (inl (unmoved_case unmoved m same h))

      still : Unchanged → IsCase m
      still same = by_moved same (has_moved acted v) refl

  install_case : (m : Mark) → 1 ≤ m.stamp → In (install_marks id before after) m → IsCase m
  install_case m some h = by_test (ltb before.epoch after.epoch) refl h
    where
      risen : ltb before.epoch after.epoch ≡ true → has_risen acted v ≡ true
      risen e = ap₂ (λ (a b : ℕ). ltb a b) is.epoch (sym epoch_is) ∙ e

      pended : (p : Pending) → (row_at key n.rows).pending ≡ Some p → m ≡ cover_mark id after (tag_of p.stamp) → has_risen acted v ≡ true →
          (f : PriorRow) → In acted.report.rows f → f.key ≡ key → IsCase m
      pended p waits e rose f h same = inl (in_changes f (key, m.stamp) h (in_right (touches_now x f.key) _ (key, m.stamp)
          (subst (λ (b : Bool). In (cond b (prior_waits f.key f.row) []) (key, m.stamp)) (sym rose)
          (subst (λ (q : List ℕ). In (prior_waits q f.row) (key, m.stamp)) (sym same)
          (subst (λ (o : Option Row). In (prior_waits key o) (key, m.stamp)) (sym (is.rows.each f h ∙ ap (λ (q : List ℕ). find_row q n.rows) same))
          (by_found (find_row key n.rows) waits))))))
        where
          by_found : (o : Option Row) → (unwrap_or o first_row).pending ≡ Some p → In (prior_waits key o) (key, m.stamp)
          by_found None e = absurd (false≢true (ap is_some e))
          by_found (Some r) w = subst (λ (o : Option Pending). In (wait_touches key o) (key, m.stamp)) (sym w) (inl (ap (λ (j : Mark). (key, j.stamp)) e))

      by_test : (b : Bool) → ltb before.epoch after.epoch ≡ b → In (cond b (pending_marks id after before.phase) []) m → IsCase m
      by_test false e h = absurd h
      by_test true e h = ⊎_elim
          (λ (c : (f : PriorRow) × In acted.report.rows f × (f.key ≡ key)).
          let p = pending_is id after (row_at key n.rows).state (row_at key n.rows).pending m h in
          pended p.0 p.1 p.2 (risen e) c.0 c.1 c.2)
          (λ (none : (f : PriorRow) → In acted.report.rows f → f.key ≢ key).
          let phase : before.phase ≡ after.phase = ap (λ (r : Row). phase_of r.state r.pending) (sym (row_same (is.rows.others key none))) in
          moment_case m some (inr (subst (λ (ph : Phase). In (pending_marks id after ph) m) phase h)))
          (changed_or_not key acted.report.rows)

  step_case : (m : Mark) → 1 ≤ m.stamp → In steps m → IsCase m
  step_case m some h = ⊎_elim
      (λ (a : In (moment_marks id after) m). moment_case m some
      (subst (λ (b : Bool). In (cond b (row_mark id after ∷ pending_marks id after after.phase) []) m) (from_one after.epoch some_epoch) a))
      (λ (b : In (install_marks id before after ++ ack_marks id after (letters_of key letters)) m). ⊎_elim
      (λ (i : In (install_marks id before after) m). install_case m some i)
      (λ (k : In (ack_marks id after (letters_of key letters)) m).
      inl (in_right (changes ++ opens) (flat_map letter_touches letters) (key, m.stamp) (acks_touched id after key letters m k)))
      (in_either (install_marks id before after) (ack_marks id after (letters_of key letters)) m b))
      (in_either (moment_marks id after) (install_marks id before after ++ ack_marks id after (letters_of key letters)) m h)

  -- ---- what is known
  module _ (c : Cover) (who : c.node.0 ≡ id) (ready : c.ready ≡ x.ready) (s : ℕ) (some : 1 ≤ s) where
    abbrev pub own : Mark
    own = mark_by c v s

    abbrev all_now : List Mark
    all_now = steps ++ st.marks

    -- the stamp is touched: the step marks it just as the cover does
    touched_same : In touches (key, s) → TellSame (own ∷ st.marks) all_now s
    touched_same h = same_of_both (own ∷ st.marks) all_now s (told_no_less (own ∷ st.marks) all_now s into) (told_no_less all_now (own ∷ st.marks) s back)
      where
        into : (m : Mark) → In (own ∷ st.marks) m → m.stamp ≡ s → (j : Mark) × Under m j × In all_now j
        into m (inl e) at =
            let t = touched_marked s h in
            let by = step_by id after before (letters_of key letters) t.0 t.1 in (
              t.0,
              subst (λ (k : Mark). Under k t.0) (sym e) (record {
                who = who ∙ sym by.who;
                epoch = sym epoch_is ∙ sym by.epoch;
                stamp = sym t.2;
                ready = λ r. by.ready ∙ sym ready ∙ r;
              }),
              in_left steps st.marks t.0 t.1,
            )
        into m (inr g) at = (m, under_itself m, in_right steps st.marks m g)

        back : (m : Mark) → In all_now m → m.stamp ≡ s → (j : Mark) × Under m j × In (own ∷ st.marks) j
        back m g at = ⊎_elim
            (λ (a : In steps m).
            let by = step_by id after before (letters_of key letters) m a in
            (own, record { who = by.who ∙ sym who; epoch = by.epoch ∙ epoch_is; stamp = at; ready = λ r. ready ∙ sym by.ready ∙ r }, inl refl))
            (λ (b : In st.marks m). (m, under_itself m, inr b)) (in_either steps st.marks m g)

    old_less : TellNoLess st.marks all_now s
    old_less = told_no_less st.marks all_now s (λ m h at. (m, under_itself m, in_right steps st.marks m h))

    -- it is not: what the step marks of it was told, or it is complete
    untouched_same : (In touches (key, s) → ⊥) → (CompleteBy V st.marks s → ⊥) → TellSame st.marks all_now s
    untouched_same none part = same_of_both st.marks all_now s old_less (told_no_less all_now st.marks s back)
      where
        back : (m : Mark) → In all_now m → m.stamp ≡ s → (j : Mark) × Under m j × In st.marks j
        back m g at = ⊎_elim
            (λ (a : In steps m). ⊎_elim
            (λ (t : In touches (key, m.stamp)). absurd (none (subst (λ (k : ℕ). In touches (key, k)) at t)))
            (λ (o : WasTold m ⊎ IsSettledBefore m.stamp). ⊎_elim (λ (w : WasTold m). w)
            (λ (c : IsSettledBefore m.stamp). absurd (part (subst IsSettledBefore at c))) o)
            (step_case m (subst (λ (k : ℕ). 1 ≤ k) (sym at) some) a))
            (λ (b : In st.marks m). (m, under_itself m, b)) (in_either steps st.marks m g)

    untouched_known : (ev : Evidence) → (In touches (key, s) → ⊥) → IsKnownBy V st.marks s ev → IsKnownBy V all_now s ev
    untouched_known (Evidence.Complete event) none k = more_complete V st.marks all_now s old_less k
    untouched_known (Covers groups) none k = same_known V st.marks all_now s (Covers groups) (untouched_same none k.0) k

    pub seen_known : (ev : Evidence) → IsKnownBy V (with_mark (is_in s (tags_at key touches)) own st.marks) s ev → IsKnownBy V new.marks s ev
    seen_known ev k = subst (λ (ms : List Mark). IsKnownBy V ms s ev) (sym is.marks) (by_test (is_in s (tags_at key touches)) refl k)
      where
        by_test : (b : Bool) → is_in s (tags_at key touches) ≡ b → IsKnownBy V (with_mark b own st.marks) s ev → IsKnownBy V all_now s ev
        by_test true e k = same_known V (own ∷ st.marks) all_now s ev (touched_same (in_tags key touches s (in_is s (tags_at key touches) e))) k
        by_test false e k = untouched_known ev (λ h. false≢true (sym e ∙ is_in_from s (tags_at key touches) (tags_have key touches s h))) k

-- a node with no view marks nothing
pub unseen_known : (V : ℕ → List ℕ) (new : RegisterState) (id : ℕ) (was x : Node) (ls : List Message) (marks : List Mark) → Parts V new →
    new.marks ≡ step_marks id was x ls ++ marks → x.epoch ≡ 0 → (s : ℕ) (ev : Evidence) → IsKnownBy V marks s ev → IsKnownBy V new.marks s ev
unseen_known V new id was x ls marks parts is zero s ev k = subst (λ (ms : List Mark). IsKnownBy V ms s ev) (sym is) (same_known V marks (steps ++ marks) s ev same k)
  where
    steps : List Mark
    steps = step_marks id was x ls

    none : (m : Mark) → In steps m → ⊥
    none m h =
        let by = step_by id x was ls m h in
        let some : 1 ≤ m.epoch = (parts.marks m (m, itself m, subst (λ (ms : List Mark). In ms m) (sym is) (in_left steps marks m h))).some_epoch in
        absurd (omega (arith, some, by.epoch, zero))

    same : TellSame marks (steps ++ marks) s
    same = same_of_both marks (steps ++ marks) s
        (told_no_less marks (steps ++ marks) s (λ m h at. (m, under_itself m, in_right steps marks m h)))
        (told_no_less (steps ++ marks) marks s (λ m h at. ⊎_elim (λ (a : In steps m). absurd (none m a)) (λ (b : In marks m). (m, under_itself m, b))
        (in_either steps marks m h)))
