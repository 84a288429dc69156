-- What the effects' proofs share.
use Rattle.std.proofs.Common.{◌≡◌, ◌⊎◌, ◌≢◌, ℕ, Bool, true, List, [], ◌∷◌, ◌++◌, ◌<◌, ◌≤◌, ◌∙◌, sym, refl, subst, inl, inr, ⊎_elim, arith, le_trans, Option, Some, None, eq-zero-or-pos}
use Rattle.std.proofs.lemmas.Bool.{false≢true, cases_eq}
use Rattle.hk_base.specs.declared.call.Content.{Content}
use Rattle.hk_base.specs.declared.call.Reply.{Reply}
use Rattle.hk_register.specs.Machine.{In, Each, Marked, Note, WaitingUpdate, Phase, Node, Message, Mark, Update, Item, RegisterState}
use Rattle.hk_base.specs.declared.stamp.Kind.{Kind}
use Rattle.hk_base.specs.declared.stamp.Kind.TheVariants as Kind
use Rattle.hk_register.specs.Machine.Phase.{Valid, Invalid, Write, Replay, Trans}
use Rattle.hk_register.specs.Facts.{Covers, Exact, ReadyCovers, ReadyExact, Complete, Settled, Rests}
use Rattle.hk_register.specs.Effects.{Change, Has, AllNoted, answer_of, row_mark, cover_mark, with_notes, overtaken}
use Rattle.hk_register.specs.Parts.{Known, PendingOk, PhaseOk, NodeOk, Twin, MarkBegun, LetterOk, ItemOk, TimelyAfter, Parts}
use Rattle.hk_register.proofs.Grow.{Rises, passes_grows}
use Rattle.hk_register.proofs.Keep.{keep, rises, node_grows, letter_grows, item_grows}

module _ (V : ℕ → List ℕ) where
  pub pending_of : (st : RegisterState) (n : ℕ) (x : Node) (phase : Phase) (p : WaitingUpdate) → Has phase p → PhaseOk V st n x phase → PendingOk V st n x p
  pending_of st n x Valid p has o = absurd has
  pending_of st n x Invalid p has o = absurd has
  pending_of st n x (Write q) p has o = subst (PendingOk V st n x) has o.0
  pending_of st n x (Replay q) p has o = subst (PendingOk V st n x) has o.0
  pending_of st n x (Trans q) p has o = subst (PendingOk V st n x) has o.0

  -- a pending update at a row that differs elsewhere
  pub pending_at : {st : RegisterState} {n : ℕ} {x y : Node} {p : WaitingUpdate} → y.ready ≡ x.ready → y.epoch ≡ x.epoch → x.stamp ≤ y.stamp → PendingOk V st n x p → PendingOk V st n y p
  pending_at {st} {n} {x} {y} {p} ready epoch up o = record {
    ready = ready ∙ o.ready;
    covers = rw epoch o.covers;
    below = le_trans o.below up;
    positive = o.positive;
    known = o.known;
    notes = λ k h. rw epoch (o.notes k h);
  }

  pub known_positive : (st : RegisterState) (s : ℕ) (kind : Kind) (content : Option Content) → Parts V st → Known st s kind content → 1 ≤ s
  known_positive st s kind content parts k =
      let next = (parts.updates k.update k.begun).next in
      let is = k.stamp in
      above k.update.kind k.update.base k.update.who s (sym is ∙ next)
    where
      above : (kind : Kind) (b w s : ℕ) → s ≡ Rattle.hk_register.specs.Effects.next_stamp kind b w → 1 ≤ s
      above Kind.Write b w s e = omega arith
      above Kind.Rmw b w s e = omega arith

  module _ (old new : RegisterState) (n : ℕ) (x : Node) (ms : List Mark) (r : Rises old new n x ms) where
    -- a new mark of a stamp that another mark has, in an epoch not below
    pub begun_from : (k : Mark) (kind : Kind) (j : Mark) → j.stamp ≡ k.stamp → k.epoch ≤ j.epoch → ((u : Update) → In old.begun u → u.stamp ≡ k.stamp → u.kind ≡ Kind.Rmw → Twin V new k) → (j.stamp ≡ 0) ⊎ MarkBegun V old j → (k.stamp ≡ 0) ⊎ MarkBegun V new k
    begun_from k kind j same upto twin (inl zero_is) = inl (sym same ∙ zero_is)
    begun_from k kind j same upto twin (inr b) = inr (record {
      update = b.update;
      begun = r.begun _ b.begun;
      stamp = b.stamp ∙ same;
      rmw = λ is. twin b.update b.begun (b.stamp ∙ same) is;
      over = λ e one below. passes_grows V old new n x ms r (b.over e one (le_trans below upto));
    })

    pub twin_itself : (k : Mark) → Marked new k → k.exact ≡ true → Twin V new k
    twin_itself k h exact = record { mark = k; marked = h; who = refl; epoch = refl; stamp = refl; ready = λ y. y; exact = exact }

  pub ready_in : {st : RegisterState} {n : ℕ} {x : Node} → NodeOk V st n x → x.ready ≡ true → 1 ≤ x.epoch
  ready_in {st} {n} {x} o ready = ⊎_elim (λ (zero_is : x.epoch ≡ 0). absurd (false≢true (sym (o.resting zero_is).1 ∙ ready))) (λ (pos : 0 < x.epoch). pos) (eq-zero-or-pos x.epoch)

  pub cover_of : {st : RegisterState} {n e s : ℕ} → ReadyCovers st n e s → Covers st n e s
  cover_of c = record { mark = c.mark; marked = c.marked; who = c.who; epoch = c.epoch; stamp = c.stamp }

  -- all others are noted
  pub completes : (st : RegisterState) (n : ℕ) (x : Node) (p : WaitingUpdate) → NodeOk V st n x → PendingOk V st n x p → AllNoted V x.epoch n p.notes → Complete V st p.stamp
  completes st n x p o w noted = (
    x.epoch,
    record {
      some_epoch = ready_in o w.ready;
      all = λ m h.
          ⊎_elim
          (λ (is : m ≡ n). rw is (cover_of w.covers))
          (λ (other : m ≢ n). let t = noted m h other in rw t.2 at (w.notes t.0 t.1).covers) (cases_eq m n);
      one = n;
      one_member = o.member (ready_in o w.ready);
      one_ready = w.covers;
    },
  )

  pub row_exact : {st : RegisterState} {n : ℕ} {x : Node} → NodeOk V st n x → 1 ≤ x.epoch → Exact st n x.epoch x.stamp
  row_exact {st} {n} {x} o one = record { mark = row_mark n x; marked = o.marked one; who = refl; epoch = refl; stamp = refl; exact = refl }

  pub row_ready_exact : {st : RegisterState} {n : ℕ} {x : Node} → NodeOk V st n x → x.ready ≡ true → ReadyExact st n x.epoch x.stamp
  row_ready_exact {st} {n} {x} o ready = record { mark = row_mark n x; marked = o.marked (ready_in o ready); who = refl; epoch = refl; stamp = refl; exact = refl; ready = ready }

  pub settles_there : (st : RegisterState) (n : ℕ) (x : Node) (p : WaitingUpdate) → NodeOk V st n x → PendingOk V st n x p → AllNoted V x.epoch n p.notes → p.stamp ≡ x.stamp → ((k : Note) → In p.notes k → k.exact ≡ true) → Settled V st p.stamp
  settles_there st n x p o w noted same exact = (
    x.epoch,
    record {
      some_epoch = ready_in o w.ready;
      all = λ m h.
          ⊎_elim
          (λ (is : m ≡ n). rw (is, same) (row_exact o (ready_in o w.ready)))
          (λ (other : m ≢ n). let t = noted m h other in rw t.2 at ((w.notes t.0 t.1).exact (exact t.0 t.1))) (cases_eq m n);
      one = n;
      one_member = o.member (ready_in o w.ready);
      one_ready = rw same (row_ready_exact o w.ready);
    },
  )

  pub answers_ok : (st : RegisterState) (call : Option Reply) (s : ℕ) → Complete V st s → 1 ≤ s → Each (ItemOk V st) (answer_of call s)
  answers_ok st None s c one = tt
  answers_ok st (Some n) s c one = ((c, one), tt)

  pub answers_timely : (call : Option Reply) (s : ℕ) (h : List Item) → TimelyAfter V h → TimelyAfter V (answer_of call s ++ h)
  answers_timely None s h t = t
  answers_timely (Some n) s h t = t

  -- a change of phase and of the bit alone
  pub keep_phase : (old new : RegisterState) → Parts V old → (n : ℕ) (ph : Phase) (kp : Bool) (ls : List Message) (hs : List Item) →
      Change old new n (record (old.node n) { phase = ph; kept_val = kp }) ls [] [] hs →
      PhaseOk V old n (record (old.node n) { phase = ph; kept_val = kp }) ph →
      (kp ≡ true → Rests V old (old.node n).stamp) → Each (LetterOk V old) ls → Each (ItemOk V old) hs → TimelyAfter V (hs ++ old.history) → Parts V new
  keep_phase old new parts n ph kp ls hs ch phase kept letters items timely =
      let x = old.node n in
      let y : Node = record x { phase = ph; kept_val = kp } in
      let was = parts.nodes n in
      let r : Rises old new n y [] = rises ch (omega arith) (omega arith) tt in
      let now : NodeOk V old n y = record {
        member = was.member;
        marked = was.marked;
        resting = was.resting;
        copied = was.copied;
        bound = was.bound;
        known = was.known;
        kept = kept;
        phase = phase;
      } in
      keep V old new n y ls [] [] hs (record {
        parts = parts;
        change = ch;
        rise = r;
        node = node_grows V old new n y [] r now;
        letters = each_map ls (letter_grows V old new n y [] r) letters;
        marks = tt;
        updates = tt;
        once = λ u v h. absurd h;
        unlike = λ u v h. absurd h;
        items = each_map hs (item_grows V old new n y [] r) items;
        timely = timely;
      })
    where
      each_map : {X : Type 0} {P Q : X → Type 0} (xs : List X) → ((a : X) → P a → Q a) → Each P xs → Each Q xs
      each_map [] f t = tt
      each_map (a ∷ xs) f t = (f a t.0, each_map xs f t.1)

  pub complete_of : (st : RegisterState) {s : ℕ} → Settled V st s → Complete V st s
  complete_of st (e, t) = (
    e,
    record {
      some_epoch = t.some_epoch;
      all = λ m h. let x = t.all m h in record { mark = x.mark; marked = x.marked; who = x.who; epoch = x.epoch; stamp = x.stamp };
      one = t.one;
      one_member = t.one_member;
      one_ready = let x = t.one_ready in record { mark = x.mark; marked = x.marked; who = x.who; epoch = x.epoch; stamp = x.stamp; ready = x.ready };
    },
  )
