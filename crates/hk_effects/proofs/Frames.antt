-- What a step of one node leaves as it was, seen from one key.
use Rattle.std.proofs.Common.{◌≡◌, ◌⊎◌, ℕ, ◌+◌, false, List, [], ◌∷◌, ◌++◌, ◌∙◌, refl, ap, inl, inr, ⊎_elim, Option, Some}
use Rattle.hk_base.specs.declared.stamp.NodeId.{NodeId}
use Rattle.hk_base.specs.declared.call.CallNo.{CallNo}
use Rattle.hk_base.specs.declared.letter.Letter.{Letter}
use Rattle.hk_register.specs.Machine.{In, Weaker, Marked, Node, Message, Mark, Update, Item, RegisterState}
use Rattle.hk_register.specs.Effects.{Change}
use Rattle.hk_register.proofs.Grow.{in_left, in_right, in_either}
use Rattle.hk_clocks.specs.Clocks.{Paces}
use Rattle.hk_node.specs.Node.{NodeState}
use Rattle.hk_node.specs.Stepped.{Stepped}
use Rattle.hk_event.specs.declared.event.Event.{Event}
use Rattle.hk_world.specs.World.{WorldState, put_process}
use Rattle.hk_world.specs.Steps.{Accepted, with_step, shown_of}
use Rattle.hk_effects.specs.Projection.{key_node, node_at, letter_of, letters_of, Trace, project, step_marks, told_at, items_of, updates_of, traced}
use Rattle.hk_effects.proofs.Processes.{node-put_same, node-put_other}

pub in_letters_append : (key : List ℕ) (xs ys : List Letter) (l : Message) → In (letters_of key (xs ++ ys)) l → In (letters_of key xs) l ⊎ In (letters_of key ys) l
in_letters_append key [] ys l h = inr h
in_letters_append key (x ∷ xs) ys l h =
    ⊎_elim
    (λ (a : In (letter_of key x x.body) l). inl (in_left (letter_of key x x.body) (letters_of key xs) l a))
    (λ (b : In (letters_of key (xs ++ ys)) l). ⊎_elim (λ (c : In (letters_of key xs) l). inl (in_right (letter_of key x x.body) (letters_of key xs) l c)) inr (in_letters_append key xs ys l b))
    (in_either (letter_of key x x.body) (letters_of key (xs ++ ys)) l h)

pub itself : (k : Mark) → Weaker k k
itself k = record { who = refl; epoch = refl; stamp = refl; exact = λ e. e; ready = λ e. e }

pub weaker_trans : (k j i : Mark) → Weaker k j → Weaker j i → Weaker k i
weaker_trans k j i a b = record { who = a.who ∙ b.who; epoch = a.epoch ∙ b.epoch; stamp = a.stamp ∙ b.stamp; exact = λ e. b.exact (a.exact e); ready = λ e. b.ready (a.ready e) }

-- what an event makes that is one node's step: the world after it, with so many calls and these clocks
abbrev pub accepted : WorldState → NodeId → NodeState → Stepped → ℕ → Paces → Option CallNo → Accepted
accepted w id x o calls paces call = record { world = record (with_step w id o) { calls = calls; paces = paces }; told = o.told; shown = shown_of w id x o call }

-- what the step says in the key's history
abbrev pub items_said : List ℕ → Event → ℕ → NodeState → Stepped → List Item
items_said key event call x o = items_of key event call (key_node key (Some x)) (key_node key (Some o.node)) (told_at key o.told)

-- The step of a node, from one key: a change of the register's node, with all that is marked and said.
pub step_change : (key : List ℕ) (t : Trace) (event : Event) (calls : ℕ) (paces : Paces) (call : Option CallNo) (id : NodeId) (x : NodeState) (o : Stepped) → node_at id.0 t.world.processes ≡ Some x →
    Change (project key t) (project key (traced key t event (accepted t.world id x o calls paces call))) id.0 (key_node key (Some o.node))
    (letters_of key o.letters) (step_marks id.0 (key_node key (Some x)) (key_node key (Some o.node)) (letters_of key o.letters))
    (updates_of id.0 (key_node key (Some x)) (items_said key event (t.world.calls + 1) x o)) (items_said key event (t.world.calls + 1) x o)
step_change key t event calls paces call id x o at =
    let ps = put_process id (record { node = o.node; crashed = false }) t.world.processes in
    let now : node_at id.0 ps ≡ Some o.node = node-put_same id (record { node = o.node; crashed = false }) t.world.processes in
    let node : key_node key (node_at id.0 ps) ≡ key_node key (Some o.node) = ap (key_node key) now in
    let was : key_node key (node_at id.0 t.world.processes) ≡ key_node key (Some x) = ap (key_node key) at in
    let all = step_marks id.0 (key_node key (Some x)) (key_node key (Some o.node)) (letters_of key o.letters) in
    let new : RegisterState = project key (traced key t event (accepted t.world id x o calls paces call)) in
    let marks : new.marks ≡ all ++ t.marks = rw (node, was) refl in
    record {
      here = node;
      there = λ m other. ap (key_node key) (node-put_other m id (record { node = o.node; crashed = false }) t.world.processes other);
      letters = λ l h. ⊎_elim (λ (a : In (letters_of key t.world.letters) l). inr a) inl (in_letters_append key t.world.letters o.letters l h);
      marks_kept = λ k h. (h.0, h.1, rw marks (in_right all t.marks h.0 h.2));
      marks_new = λ k h. (k, itself k, rw marks (in_left all t.marks k h));
      marks_from = λ k h.
          ⊎_elim
          (λ (a : In all h.0). (h.0, h.1, inl a))
          (λ (b : In t.marks h.0). (h.0, h.1, inr (h.0, itself h.0, b))) (in_either all t.marks h.0 (rw marks at h.2));
      begun = rw (node, was) refl;
      history = rw (node, was) refl;
    }

-- a change that tells of fewer new marks, and of more letters
pub narrow : (st new : RegisterState) (n : ℕ) (z : Node) (ls ls' : List Message) (ms ms' : List Mark) (us : List Update) (hs : List Item) →
    ((l : Message) → In ls l → In ls' l) → ((k : Mark) → In ms' k → In ms k) → ((k : Mark) → In ms k → (j : Mark) × Weaker k j × (In ms' j ⊎ Marked st j)) →
    Change st new n z ls ms us hs → Change st new n z ls' ms' us hs
narrow st new n z ls ls' ms ms' us hs letters there from ch = record {
  here = ch.here;
  there = ch.there;
  letters = λ l h. ⊎_elim (λ (a : In ls l). inl (letters l a)) inr (ch.letters l h);
  marks_kept = ch.marks_kept;
  marks_new = λ k h. ch.marks_new k (there k h);
  marks_from = λ k h.
      let a = ch.marks_from k h in
      ⊎_elim
      (λ (fresh : In ms a.0). let j = from a.0 fresh in (j.0, weaker_trans k a.0 j.0 a.1 j.1, j.2))
      (λ (old : Marked st a.0). (a.0, a.1, inr old)) a.2;
  begun = ch.begun;
  history = ch.history;
}
