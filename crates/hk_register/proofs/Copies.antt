-- Giving and merging copies keeps the parts.
use Rattle.std.proofs.Common.{◌≡◌, ◌⊎◌, ℕ, Bool, true, false, List, [], ◌∷◌, ◌<◌, ◌≤◌, ◌∙◌, sym, refl, inl, inr, ⊎_elim, arith, le_trans, le_refl, le_of_eq, Option, None, if◌then◌else◌}
use Rattle.std.proofs.lemmas.Bool.{false≢true}
use Rattle.hk_base.specs.declared.call.Content.{Content}
use Rattle.hk_register.specs.Machine.{In, Marked, Phase, Node, Mark, RegisterState}
use Rattle.hk_base.specs.declared.stamp.Kind.{Kind}
use Rattle.hk_register.specs.Machine.Phase.{Valid, Invalid, Write, Replay, Trans}
use Rattle.hk_register.specs.Machine.Message.{Give}
use Rattle.hk_register.specs.Facts.{Covers, Rests, Bound}
use Rattle.hk_register.specs.Effects.{Change, row_mark}
use Rattle.hk_register.specs.Parts.{Known, PhaseOk, NodeOk, Parts}
use Rattle.hk_register.proofs.Grow.{Rises, rests_grows, known_grows, bound_grows}
use Rattle.hk_register.proofs.Keep.{keep, rises, arrives, phase_grows, holds_grows, node_grows}
use Rattle.hk_register.proofs.Helps.{pending_at, ready_in, begun_from, twin_itself, keep_phase}

module _ (V : ℕ → List ℕ) (old new : RegisterState) (parts : Parts V old) (n : ℕ) where
  -- past each earlier view, of which it is a member or not, some member is known
  pub give_row_kept : (valid : Bool) → (old.node n).ready ≡ true → (valid ≡ true → (old.node n).phase ≡ Valid) → Change old new n (old.node n) (Give n (old.node n).epoch (old.node n).stamp (old.node n).kind (old.node n).content valid ∷ []) [] [] [] → Parts V new
  give_row_kept valid ready rests ch =
      let x = old.node n in
      let was = parts.nodes n in
      let some = ready_in V was ready in
      let covers : Covers old n x.epoch x.stamp = record { mark = row_mark n x; marked = was.marked some; who = refl; epoch = refl; stamp = refl } in
      keep_phase V old new parts n x.phase x.kept_val (Give n x.epoch x.stamp x.kind x.content valid ∷ []) [] ch was.phase was.kept
      ((⊎_elim inl (λ (k : Known old x.stamp x.kind x.content). inr (covers, k)) was.known, λ is. rw (rests is) at was.phase, λ f one below. was.bound (was.copied ready) f one below), tt) tt parts.timely

  -- what it has of the letter
  given_bound : (m e s : ℕ) (kind : Kind) (content : Option Content) (valid : Bool) → In old.letters (Give m e s kind content valid) → (f : ℕ) → 1 ≤ f → f < e → Bound V old f s
  given_bound m e s kind content valid sent = (parts.letters _ sent).2

  pub copy_row_kept : (m s : ℕ) (kind : Kind) (content : Option Content) (valid : Bool) → In old.letters (Give m (old.node n).epoch s kind content valid) → 1 ≤ (old.node n).epoch → (old.node n).stamp < s → Change old new n (record (old.node n) { copied = true; phase = if valid then Valid else Invalid; stamp = s; kind = kind; content = content; kept_val = false }) [] (record { who = n; epoch = (old.node n).epoch; stamp = s; exact = true; ready = (old.node n).ready } ∷ []) [] [] → Parts V new
  copy_row_kept m s kind content valid sent some above ch =
      let x = old.node n in
      let y : Node = record x { copied = true; phase = if valid then Valid else Invalid; stamp = s; kind = kind; content = content; kept_val = false } in
      let k : Mark = record { who = n; epoch = x.epoch; stamp = s; exact = true; ready = x.ready } in
      let ms : List Mark = k ∷ [] in
      let was = parts.nodes n in
      let told = parts.letters _ sent in
      let r : Rises old new n y ms = rises ch (omega arith) (omega arith) (record { who = refl; epoch = refl; row = λ _. refl; within = omega arith }, tt) in
      let here : Marked new k = arrives ch k (inl refl) in
      let from : Covers old m x.epoch s × Known old s kind content = ⊎_elim (λ (zero_is : (s ≡ 0) × (content ≡ None)). absurd (omega arith)) (λ (h : Covers old m x.epoch s × Known old s kind content). h) told.0 in
      let j = parts.marks from.0.mark from.0.marked in
      let bound : (f : ℕ) → 1 ≤ f → f < x.epoch → Bound V new f s = λ f one below. bound_grows V old new n y ms r (le_refl s) (told.2 f one below) in
      let phase : (v : Bool) → (v ≡ true → Rests V new s) → PhaseOk V new n y (if v then Valid else Invalid) = elim [ true ↦ λ h. h refl | false ↦ λ h. omega arith ] in
      keep V old new n y _ ms _ _ (record {
        parts = parts;
        change = ch;
        rise = r;
        node = record {
          member = was.member;
          marked = λ _. here;
          resting = λ zero_is. absurd (omega arith);
          copied = λ _. refl;
          bound = λ _. bound;
          known = inr (known_grows V old new n y ms r from.1);
          kept = λ is. absurd (false≢true is);
          phase = phase valid (λ is. rests_grows V old new n y ms r (told.1 is));
        };
        letters = tt;
        marks = (
          record {
            some_epoch = some;
            epoch = rw ch.here (le_refl x.epoch);
            member = was.member some;
            top = rw ch.here (le_refl s);
            bound = λ _ _. bound;
            begun = begun_from V old new n y ms r k kind from.0.mark from.0.stamp (omega (arith, from.0.epoch)) (λ _ _ _ _. twin_itself V old new n y ms r k here refl) j.begun;
          },
          tt,
        );
        updates = tt;
        once = λ u v h. absurd h;
        unlike = λ u v h. absurd h;
        items = tt;
        timely = parts.timely;
      })

  copied_at : (x y : Node) (phase : Phase) → y.ready ≡ x.ready → y.epoch ≡ x.epoch → y.stamp ≡ x.stamp → PhaseOk V old n x phase → PhaseOk V old n y phase
  copied_at x y Valid ready epoch stamp o = rw stamp o
  copied_at x y Invalid ready epoch stamp o = rw stamp o
  copied_at x y (Write p) ready epoch stamp o = (pending_at V ready epoch (le_of_eq (sym stamp)) o.0, o.1 ∙ sym stamp)
  copied_at x y (Replay p) ready epoch stamp o = (pending_at V ready epoch (le_of_eq (sym stamp)) o.0, o.1 ∙ sym stamp)
  copied_at x y (Trans p) ready epoch stamp o = (pending_at V ready epoch (le_of_eq (sym stamp)) o.0, o.1)

  -- an item that is not above the row
  merge_still : (ph : Phase) → 1 ≤ (old.node n).epoch → PhaseOk V old n (record (old.node n) { copied = true; phase = ph }) ph → ((f : ℕ) → 1 ≤ f → f < (old.node n).epoch → Bound V old f (old.node n).stamp) → Change old new n (record (old.node n) { copied = true; phase = ph }) [] [] [] [] → Parts V new
  merge_still ph some phase bound ch =
      let x = old.node n in
      let y : Node = record x { copied = true; phase = ph } in
      let was = parts.nodes n in
      let r : Rises old new n y [] = rises ch (omega arith) (omega arith) tt in
      let now : NodeOk V old n y = record { member = was.member; marked = was.marked; resting = λ zero_is. absurd (omega arith); copied = λ _. refl; bound = λ _. bound; known = was.known; kept = was.kept; phase = phase } in
      keep V old new n y [] [] [] [] (record {
        parts = parts;
        change = ch;
        rise = r;
        node = node_grows V old new n y [] r now;
        letters = tt;
        marks = tt;
        updates = tt;
        once = λ u v h. absurd h;
        unlike = λ u v h. absurd h;
        items = tt;
        timely = parts.timely;
      })

  raise : {f s t : ℕ} → s ≤ t → Bound V old f s → Bound V old f t
  raise up b = record { who = b.who; member = b.member; passed = b.passed; tops = λ k h w below. le_trans (b.tops k h w below) up }

  pub pass_row_kept : (m s : ℕ) (kind : Kind) (content : Option Content) (valid : Bool) → In old.letters (Give m (old.node n).epoch s kind content valid) → 1 ≤ (old.node n).epoch → s ≤ (old.node n).stamp → Change old new n (record (old.node n) { copied = true }) [] [] [] [] → Parts V new
  pass_row_kept m s kind content valid sent some upto ch =
      let x = old.node n in
      merge_still x.phase some (copied_at x (record x { copied = true }) x.phase refl refl refl (parts.nodes n).phase) (λ f one below. raise upto ((parts.letters _ sent).2 f one below)) ch

  pub copy_valid_kept : (m s : ℕ) (kind : Kind) (content : Option Content) → In old.letters (Give m (old.node n).epoch s kind content true) → 1 ≤ (old.node n).epoch → s ≡ (old.node n).stamp → Change old new n (record (old.node n) { copied = true; phase = Valid }) [] [] [] [] → Parts V new
  copy_valid_kept m s kind content sent some same ch =
      let x = old.node n in
      let told = parts.letters _ sent in
      let rests : Rests V old x.stamp = rw same at (told.1 refl) in
      merge_still Valid some rests (λ f one below. raise (le_of_eq same) (told.2 f one below)) ch

  pub get_ready_kept : 1 ≤ (old.node n).epoch → (old.node n).copied ≡ true → ((old.node n).phase ≡ Valid) ⊎ ((old.node n).phase ≡ Invalid) → Change old new n (record (old.node n) { ready = true }) [] (record { who = n; epoch = (old.node n).epoch; stamp = (old.node n).stamp; exact = true; ready = true } ∷ []) [] [] → Parts V new
  get_ready_kept some copied idle ch =
      let x = old.node n in
      let y : Node = record x { ready = true } in
      let k : Mark = record { who = n; epoch = x.epoch; stamp = x.stamp; exact = true; ready = true } in
      let ms : List Mark = k ∷ [] in
      let was = parts.nodes n in
      let r : Rises old new n y ms = rises ch (omega arith) (omega arith) (record { who = refl; epoch = refl; row = λ _. refl; within = omega arith }, tt) in
      let here : Marked new k = arrives ch k (inl refl) in
      let bound : (f : ℕ) → 1 ≤ f → f < x.epoch → Bound V new f x.stamp = λ f one below. bound_grows V old new n y ms r (le_refl x.stamp) (was.bound copied f one below) in
      let phase : PhaseOk V old n y x.phase = ⊎_elim (λ (is : x.phase ≡ Valid). rw is (rw is at was.phase)) (λ (is : x.phase ≡ Invalid). rw is (rw is at was.phase)) idle in
      keep V old new n y _ ms _ _ (record {
        parts = parts;
        change = ch;
        rise = r;
        node = record {
          member = was.member;
          marked = λ _. here;
          resting = λ zero_is. absurd (omega arith);
          copied = λ _. copied;
          bound = λ _. bound;
          known = holds_grows V old new n y ms r was.known;
          kept = λ is. rests_grows V old new n y ms r (was.kept is);
          phase = phase_grows V old new n y ms r n y x.phase phase;
        };
        letters = tt;
        marks = (
          record {
            some_epoch = some;
            epoch = rw ch.here (le_refl x.epoch);
            member = was.member some;
            top = rw ch.here (le_refl x.stamp);
            bound = λ _ _. bound;
            begun = begun_from V old new n y ms r k x.kind (row_mark n x) refl (le_refl x.epoch) (λ _ _ _ _. twin_itself V old new n y ms r k here refl) (parts.marks (row_mark n x) (was.marked some)).begun;
          },
          tt,
        );
        updates = tt;
        once = λ u v h. absurd h;
        unlike = λ u v h. absurd h;
        items = tt;
        timely = parts.timely;
      })
