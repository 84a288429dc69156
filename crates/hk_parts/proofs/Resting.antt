-- On whose covers a copied row rests, in every run.
use Rattle.std.proofs.Common.{◌≡◌, ℕ, Bool, true, false, cond, List, [], ◌∷◌, ◌++◌, ◌<◌, ◌≤◌, refl, subst, ⊎_elim, arith, le_trans, Option, Some, None, leb, ltb}
use Rattle.hk_base.specs.declared.stamp.NodeId.{NodeId}
use Rattle.hk_register.specs.Machine.{In, Mark, Node, Phase, Message}
use Rattle.hk_register.specs.Machine.Message.{Inv, Ack, Val, Give}
use Rattle.hk_register.specs.Effects.{row_mark, cover_mark}
use Rattle.hk_register.proofs.Grow.{in_either}
use Rattle.hk_event.specs.declared.event.Event.{Event}
use Rattle.hk_event.specs.declared.event.Header.{Header}
use Rattle.hk_world.specs.Steps.{acting_of, Accepted}
use Rattle.hk_world.specs.World.{WorldState}
use Rattle.hk_effects.specs.Projection.{Trace, project, traced, traced_by, key_node, node_at, letters_of, pending_marks, moment_marks, install_marks, ack_marks, step_marks}
use Rattle.hk_effects.specs.Runs.{IsKept}
use Rattle.hk_effects.proofs.Numbered.{step_epoch}
use Rattle.hk_parts.specs.Moments.{Run}
use Rattle.hk_parts.specs.ViewPart.{RestsOn}
use Rattle.hk_parts.proofs.Moments.{mark_kept, world_is}
use Rattle.hk_parts.proofs.Origins.{risen}
use Rattle.hk_parts.proofs.Sending.{event_later}

-- ---- a step's marks are its node's
pending_who : (id : ℕ) (z : Node) (phase : Phase) (k : Mark) → In (pending_marks id z phase) k → k.who ≡ id
pending_who id z Phase.Valid k h = absurd h
pending_who id z Phase.Invalid k h = absurd h
pending_who id z (Phase.Write p) k h = ⊎_elim (λ (e : k ≡ cover_mark id z p.stamp). rw e refl) (λ (none : ⊥). absurd none) h
pending_who id z (Phase.Replay p) k h = ⊎_elim (λ (e : k ≡ cover_mark id z p.stamp). rw e refl) (λ (none : ⊥). absurd none) h
pending_who id z (Phase.Trans p) k h = ⊎_elim (λ (e : k ≡ cover_mark id z p.stamp). rw e refl) (λ (none : ⊥). absurd none) h

ack_who : (id : ℕ) (z : Node) (ls : List Message) (k : Mark) → In (ack_marks id z ls) k → k.who ≡ id
ack_who id z [] k h = absurd h
ack_who id z (Ack from epoch s top ∷ ls) k h = ⊎_elim (λ (e : k ≡ cover_mark id z s). rw e refl) (ack_who id z ls k) h
ack_who id z (Inv from epoch s kind content ∷ ls) k h = ack_who id z ls k h
ack_who id z (Val from epoch s ∷ ls) k h = ack_who id z ls k h
ack_who id z (Give from epoch s kind content valid ∷ ls) k h = ack_who id z ls k h

step_who : (id : ℕ) (was z : Node) (ls : List Message) (k : Mark) → In (step_marks id was z ls) k → k.who ≡ id
step_who id was z ls k h =
    ⊎_elim
    (λ (a : In (moment_marks id z) k). moment (leb 1 z.epoch) a)
    (λ (b : In (install_marks id was z ++ ack_marks id z ls) k).
    ⊎_elim (λ (i : In (install_marks id was z) k). installed (ltb was.epoch z.epoch) i) (ack_who id z ls k) (in_either (install_marks id was z) (ack_marks id z ls) k b))
    (in_either (moment_marks id z) (install_marks id was z ++ ack_marks id z ls) k h)
  where
    moment : (b : Bool) → In (cond b (row_mark id z ∷ pending_marks id z z.phase) []) k → k.who ≡ id
    moment true h = ⊎_elim (λ (e : k ≡ row_mark id z). rw e refl) (pending_who id z z.phase k) h
    moment false h = absurd h

    installed : (b : Bool) → In (cond b (pending_marks id z was.phase) []) k → k.who ≡ id
    installed true h = pending_who id z was.phase k h
    installed false h = absurd h

-- Some member of view e has gone on, and covered nothing above the stamp up to e: the node, or its giver, and so on.
pub record Below (key : List ℕ) (run : Run) (V : ℕ → List ℕ) (t : Trace) (e n s : ℕ) : Type 0 where
  pub who : ℕ
  pub member : In (V e) who
  pub later : e < ((project key t).node who).epoch
  pub covered : (k : Mark) → In t.marks k → k.who ≡ who → k.epoch ≤ e → k.stamp ≤ s
  pub givers : List ℕ
  pub rests : RestsOn key run (V e) givers n who

-- in a longer run
rests_later : (key : List ℕ) (h : Header) (past : List Event) (event : Event) (members givers : List ℕ) (n d : ℕ) → RestsOn key (record { header = h; events = past }) members givers n d → RestsOn key (record { header = h; events = past ++ event ∷ [] }) members givers n d
rests_later key h past event members [] n d r = r
rests_later key h past event members (g ∷ givers) n d r = (
  r.0,
  let o = r.1 in record {
    at = event_later key h past event o.at;
    number = o.number;
    event = o.event;
    letter = o.letter;
    taken = o.taken;
    from = o.from;
    to = o.to;
    node = o.node;
    there = o.there;
    epoch = o.epoch;
    done = o.done;
    items = o.items;
    body = o.body;
    covered = o.covered;
    not_yet = o.not_yet;
    now = o.now;
  },
  rests_later key h past event members givers g d r.2,
)

module _ (key : List ℕ) (t : Trace) (event : Event) (a : Accepted) (before : IsKept key t) (now : IsKept key (traced key t event a)) where
  pub rises : (n : ℕ) → (((project key t).node n).stamp ≤ ((project key (traced key t event a)).node n).stamp) × (((project key t).node n).epoch ≤ ((project key (traced key t event a)).node n).epoch)
  rises n = risen key (traced key t event a) now t before (λ k h. mark_kept key t event a (acting_of a) k h) n

  -- a node that has passed an epoch makes no new mark in it
  old_mark : (acting : Option NodeId) → ((n : ℕ) → ((project key t).node n).epoch ≤ (key_node key (node_at n a.world.processes)).epoch) → (e : ℕ) (k : Mark) → In (traced_by key t event a acting).marks k → k.epoch ≤ e → e < ((project key t).node k.who).epoch → In t.marks k
  old_mark None up e k h low passed = h
  old_mark (Some id) up e k h low passed =
      let was = key_node key (node_at id.0 t.world.processes) in
      let z = key_node key (node_at id.0 a.world.processes) in
      ⊎_elim
      (λ (new : In (step_marks id.0 was z (letters_of key a.shown.letters)) k).
      let who = step_who id.0 was z (letters_of key a.shown.letters) k new in
      let epoch = step_epoch id.0 was z (letters_of key a.shown.letters) k new in
      let passed' : e < ((project key t).node id.0).epoch = rw who at passed in
      let up' = up id.0 in
      absurd (omega arith))
      (λ (old : In t.marks k). old) (in_either (step_marks id.0 was z (letters_of key a.shown.letters)) t.marks k h)

  epochs_up : (n : ℕ) → ((project key t).node n).epoch ≤ (key_node key (node_at n a.world.processes)).epoch
  epochs_up n = subst (λ (w : WorldState). ((project key t).node n).epoch ≤ (key_node key (node_at n w.processes)).epoch) (world_is key t event a (acting_of a)) (rises n).1

  pub below_later : (h : Header) (past : List Event) (V : ℕ → List ℕ) (e n s c : ℕ) → s ≤ c → Below key (record { header = h; events = past }) V t e n s → Below key (record { header = h; events = past ++ event ∷ [] }) V (traced key t event a) e n c
  below_later h past V e n s c up o = record {
    who = o.who;
    member = o.member;
    later = let r = (rises o.who).1 in let l = o.later in omega arith;
    covered = λ k i whose low. le_trans (o.covered k (old_mark (acting_of a) epochs_up e k i low (rw whose o.later)) whose low) up;
    givers = o.givers;
    rests = rests_later key h past event (V e) o.givers n o.who o.rests;
  }
