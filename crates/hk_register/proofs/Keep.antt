-- A change of one node keeps the parts, if what it makes anew fits them.
use Rattle.std.proofs.Common.{Option, ◌≡◌, ◌≢◌, ℕ, true, List, ◌++◌, ◌≤◌, ◌∙◌, sym, inl, inr, ⊎_elim, arith, le_trans}
use Rattle.std.proofs.lemmas.Bool.{cases_eq}
use Rattle.hk_base.specs.declared.call.Content.{Content}
use Rattle.hk_register.specs.Machine.{In, Each, Weaker, Marked, Note, WaitingUpdate, Phase, Node, Message, Mark, Update, Item, RegisterState}
use Rattle.hk_base.specs.declared.stamp.Kind.{Kind}
use Rattle.hk_register.specs.Machine.Phase.{Valid, Invalid, Write, Replay, Trans}
use Rattle.hk_register.specs.Machine.Message.{Inv, Ack, Val, Give}
use Rattle.hk_register.specs.Machine.Item.{Called, Answered, ReadOnly, Rejected, Dropped}
use Rattle.hk_register.specs.Effects.{Change}
use Rattle.hk_register.specs.Parts.{Holds, Made, NoteOk, PendingOk, PhaseOk, NodeOk, Twin, MarkBegun, MarkOk, UpdateOk, LetterOk, ItemOk, TimelyAfter, Parts}
use Rattle.hk_register.proofs.Grow.{Rises, in_left, in_right, in_either, each_in, epoch_rises, stamp_rises, covers_grows, exact_grows, ready_covers_grows, complete_grows, settled_grows, rests_grows, known_grows, bound_grows, passes_grows}

-- a new mark is of the node, in its epoch, and an exact one has its stamp
pub record Fits (n : ℕ) (x : Node) (k : Mark) : Type 0 where
  pub who : k.who ≡ n
  pub epoch : k.epoch ≡ x.epoch
  pub row : k.exact ≡ true → k.stamp ≡ x.stamp
  pub within : k.stamp ≤ x.stamp

pub arrives : {old new : RegisterState} {n : ℕ} {x : Node} {ls : List Message} {ms : List Mark} {us : List Update} {hs : List Item} → Change old new n x ls ms us hs → (k : Mark) → In ms k → Marked new k
arrives ch k h = ch.marks_new k h

pub begins_anew : {old new : RegisterState} {n : ℕ} {x : Node} {ls : List Message} {ms : List Mark} {us : List Update} {hs : List Item} → Change old new n x ls ms us hs → (u : Update) → In us u → In new.begun u
begins_anew {old} {us = us} ch u h = rw ch.begun (in_left us old.begun u h)

pub rises : {old new : RegisterState} {n : ℕ} {x : Node} {ls : List Message} {ms : List Mark} {us : List Update} {hs : List Item} → Change old new n x ls ms us hs → (old.node n).epoch ≤ x.epoch → (old.node n).stamp ≤ x.stamp → Each (Fits n x) ms → Rises old new n x ms
rises {old} {new} {n} {x} {ms = ms} {us = us} ch epoch stamp fits = record {
  marks = ch.marks_kept;
  marks_from = ch.marks_from;
  begun = λ u h. rw ch.begun (in_right us old.begun u h);
  here = ch.here;
  there = ch.there;
  epoch = epoch;
  stamp = stamp;
  of_node = λ k h. (each_in (Fits n x) ms k fits h).who;
  of_epoch = λ k h. (each_in (Fits n x) ms k fits h).epoch;
  of_row = λ k h. (each_in (Fits n x) ms k fits h).row;
  within = λ k h. (each_in (Fits n x) ms k fits h).within;
}

pub weaker_ok : (V : ℕ → List ℕ) (st : RegisterState) (k j : Mark) → Weaker k j → MarkOk V st j → MarkOk V st k
weaker_ok V st k j w o = record {
  some_epoch = rw w.epoch o.some_epoch;
  epoch = rw (w.epoch, w.who) o.epoch;
  member = rw (w.epoch, w.who) o.member;
  top = rw (w.stamp, w.who) o.top;
  bound = λ exact ready e one below. rw w.stamp (o.bound (w.exact exact) (w.ready ready) e one (rw w.epoch at below));
  begun = ⊎_elim (λ (e : j.stamp ≡ 0). inl (w.stamp ∙ e)) (λ (b : MarkBegun V st j). inr (record {
    update = b.update;
    begun = b.begun;
    stamp = b.stamp ∙ sym w.stamp;
    rmw = λ is. let t = b.rmw is in record { mark = t.mark; marked = t.marked; who = t.who ∙ sym w.who; epoch = t.epoch ∙ sym w.epoch; stamp = t.stamp ∙ sym w.stamp; ready = λ y. t.ready (w.ready y); exact = t.exact };
    over = λ e one upto. b.over e one (rw w.epoch at upto);
  })) o.begun;
}

module _ (V : ℕ → List ℕ) (old new : RegisterState) (n : ℕ) (x : Node) (ms : List Mark) (r : Rises old new n x ms) where
  pub note_grows : {e s : ℕ} {k : Note} → NoteOk V old e s k → NoteOk V new e s k
  note_grows o = record { member = o.member; covers = covers_grows V old new n x ms r o.covers; exact = λ e. exact_grows V old new n x ms r (o.exact e) }

  pub pending_grows : {m : ℕ} {y : Node} {p : WaitingUpdate} → PendingOk V old m y p → PendingOk V new m y p
  pending_grows o = record {
    ready = o.ready;
    covers = ready_covers_grows V old new n x ms r o.covers;
    below = o.below;
    positive = o.positive;
    known = known_grows V old new n x ms r o.known;
    notes = λ k h. note_grows (o.notes k h);
  }

  pub phase_grows : (m : ℕ) (y : Node) (phase : Phase) → PhaseOk V old m y phase → PhaseOk V new m y phase
  phase_grows m y Valid o = rests_grows V old new n x ms r o
  phase_grows m y Invalid o = o
  phase_grows m y (Write p) o = (pending_grows o.0, o.1)
  phase_grows m y (Replay p) o = (pending_grows o.0, o.1)
  phase_grows m y (Trans p) o = (pending_grows o.0, o.1)

  pub holds_grows : {s : ℕ} {c : Option Content} {kind : Kind} → Holds old s kind c → Holds new s kind c
  holds_grows (inl e) = inl e
  holds_grows (inr k) = inr (known_grows V old new n x ms r k)

  pub made_grows : {u : Update} → Made old u → Made new u
  made_grows m = record { base_kind = m.base_kind; base_content = m.base_content; holds = holds_grows m.holds; blind = m.blind; changes = m.changes }

  pub node_grows : {m : ℕ} {y : Node} → NodeOk V old m y → NodeOk V new m y
  node_grows {m} {y} o = record {
    member = o.member;
    marked = λ h. r.marks _ (o.marked h);
    resting = o.resting;
    copied = o.copied;
    bound = λ c e one below. bound_grows V old new n x ms r (omega arith) (o.bound c e one below);
    known = holds_grows o.known;
    kept = λ k. rests_grows V old new n x ms r (o.kept k);
    phase = phase_grows m y y.phase o.phase;
  }

  pub twin_grows : {k : Mark} → Twin V old k → Twin V new k
  twin_grows t = record { mark = t.mark; marked = r.marks _ t.marked; who = t.who; epoch = t.epoch; stamp = t.stamp; ready = t.ready; exact = t.exact }

  pub mark_begun_grows : {k : Mark} → MarkBegun V old k → MarkBegun V new k
  mark_begun_grows b = record {
    update = b.update;
    begun = r.begun _ b.begun;
    stamp = b.stamp;
    rmw = λ h. twin_grows (b.rmw h);
    over = λ e one upto. passes_grows V old new n x ms r (b.over e one upto);
  }

  pub mark_grows : {k : Mark} → MarkOk V old k → MarkOk V new k
  mark_grows {k} o = record {
    some_epoch = o.some_epoch;
    epoch = le_trans o.epoch (epoch_rises V old new n x ms r k.who);
    member = o.member;
    top = le_trans o.top (stamp_rises V old new n x ms r k.who);
    bound = λ exact ready e one below. bound_grows V old new n x ms r (omega arith) (o.bound exact ready e one below);
    begun = ⊎_elim inl (λ b. inr (mark_begun_grows b)) o.begun;
  }

  pub update_grows : {u : Update} → UpdateOk V old u → UpdateOk V new u
  update_grows {u} o = record {
    node = o.node;
    next = o.next;
    below = le_trans o.below (stamp_rises V old new n x ms r u.who);
    base = rests_grows V old new n x ms r o.base;
    made = made_grows o.made;
  }

  pub letter_grows : (l : Message) → LetterOk V old l → LetterOk V new l
  letter_grows (Inv m e s kind content) o = (covers_grows V old new n x ms r o.0, known_grows V old new n x ms r o.1)
  letter_grows (Ack m e s t) o = (covers_grows V old new n x ms r o.0, λ is. exact_grows V old new n x ms r (o.1 is))
  letter_grows (Val m e s) o = settled_grows V old new n x ms r o
  letter_grows (Give m e s kind content valid) o = (
    ⊎_elim inl (λ c. inr (covers_grows V old new n x ms r c.0, known_grows V old new n x ms r c.1)) o.0,
    λ v. rests_grows V old new n x ms r (o.1 v),
    λ f one below. bound_grows V old new n x ms r (omega arith) (o.2 f one below),
  )

  pub item_grows : (i : Item) → ItemOk V old i → ItemOk V new i
  item_grows (Called c s op) o = o
  item_grows (Answered c s a) o = (complete_grows V old new n x ms r o.0, o.1)
  item_grows (ReadOnly c s op held a) o = (rests_grows V old new n x ms r o.0, o.1, holds_grows o.2, o.3)
  item_grows (Rejected c op a) o = o
  item_grows (Dropped c s a) o = o

-- what a change makes anew
pub record Anew (V : ℕ → List ℕ) (old new : RegisterState) (n : ℕ) (x : Node) (ls : List Message) (ms : List Mark) (us : List Update) (hs : List Item) : Type 0 where
  pub parts : Parts V old
  pub change : Change old new n x ls ms us hs
  pub rise : Rises old new n x ms
  pub node : NodeOk V new n x
  pub letters : Each (LetterOk V new) ls
  pub marks : Each (MarkOk V new) ms
  pub updates : Each (UpdateOk V new) us
  pub once : (u v : Update) → In us u → In us v → u ≡ v
  pub unlike : (u v : Update) → In us u → In old.begun v → u.stamp ≢ v.stamp
  pub items : Each (ItemOk V new) hs
  pub timely : TimelyAfter V (hs ++ old.history)

pub keep : (V : ℕ → List ℕ) (old new : RegisterState) (n : ℕ) (x : Node) (ls : List Message) (ms : List Mark) (us : List Update) (hs : List Item) → Anew V old new n x ls ms us hs → Parts V new
keep V old new n x ls ms us hs a =
    let p = a.parts in
    let ch = a.change in
    let r = a.rise in
    record {
      nodes = λ m.
          ⊎_elim
          (λ (is : m ≡ n). rw (is, ch.here) a.node)
          (λ (other : m ≢ n). rw (ch.there m other) (node_grows V old new n x ms r (p.nodes m))) (cases_eq m n);
      letters = λ l h.
          ⊎_elim
          (λ (fresh : In ls l). each_in (LetterOk V new) ls l a.letters fresh)
          (λ (was : In old.letters l). letter_grows V old new n x ms r l (p.letters l was)) (ch.letters l h);
      marks = λ k h.
          let t = r.marks_from k h in
          weaker_ok V new k t.0 t.1
          (⊎_elim
          (λ (fresh : In ms t.0). each_in (MarkOk V new) ms t.0 a.marks fresh)
          (λ (was : Marked old t.0). mark_grows V old new n x ms r (p.marks t.0 was)) t.2);
      updates = λ u h.
          ⊎_elim
          (λ (fresh : In us u). each_in (UpdateOk V new) us u a.updates fresh)
          (λ (was : In old.begun u). update_grows V old new n x ms r (p.updates u was)) (in_either us old.begun u (rw ch.begun at h));
      once = λ u v h k same.
          ⊎_elim
          (λ (fresh : In us u).
          ⊎_elim
          (λ (fresh_too : In us v). a.once u v fresh fresh_too)
          (λ (was : In old.begun v). absurd (a.unlike u v fresh was same)) (in_either us old.begun v (rw ch.begun at k)))
          (λ (was : In old.begun u).
          ⊎_elim
          (λ (fresh : In us v). absurd (a.unlike v u fresh was (sym same)))
          (λ (was_too : In old.begun v). p.once u v was was_too same) (in_either us old.begun v (rw ch.begun at k))) (in_either us old.begun u (rw ch.begun at h));
      items = λ i h.
          ⊎_elim
          (λ (fresh : In hs i). each_in (ItemOk V new) hs i a.items fresh)
          (λ (was : In old.history i). item_grows V old new n x ms r i (p.items i was)) (in_either hs old.history i (rw ch.history at h));
      timely = rw ch.history a.timely;
    }
