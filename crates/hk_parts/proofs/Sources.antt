-- Marks mean what was so at moments.
use Rattle.std.proofs.Common.{◌≡◌, ℕ, Bool, true, false, cond, List, [], ◌∷◌, ◌++◌, ◌<◌, ◌≤◌, sym, refl, ap, inl, inr, ⊎_elim, leb, ltb, leb-true}
use Rattle.std.proofs.lemmas.Bool.{ltb-true, lt-ltb}
use Rattle.hk_register.specs.Machine.{In, Mark, Node, WaitingUpdate, Phase, Message}
use Rattle.hk_register.specs.Machine.Message.{Inv, Ack, Val, Give}
use Rattle.hk_register.specs.Effects.{Has, row_mark, cover_mark}
use Rattle.hk_register.proofs.Grow.{in_either, in_left, in_right}
use Rattle.hk_effects.specs.Projection.{pending_marks, moment_marks, install_marks, ack_marks, step_marks}

-- ---- where a mark of a step comes from
-- the row's mark, a pending update's, or an ACK's
pub data Source (id : ℕ) (was z : Node) (ls : List Message) (k : Mark) : Type 0 where
  Row : 1 ≤ z.epoch → k ≡ row_mark id z → Source id was z ls k
  Waiting : (p : WaitingUpdate) → Has z.phase p → k ≡ cover_mark id z p.stamp → Source id was z ls k
  Installing : (p : WaitingUpdate) → Has was.phase p → was.epoch < z.epoch → k ≡ cover_mark id z p.stamp → Source id was z ls k
  Acking : (from e s top : ℕ) → In ls (Ack from e s top) → k ≡ cover_mark id z s → Source id was z ls k

pending_source : (id : ℕ) (z : Node) (phase : Phase) (k : Mark) → In (pending_marks id z phase) k → (p : WaitingUpdate) × Has phase p × (k ≡ cover_mark id z p.stamp)
pending_source id z Phase.Valid k h = absurd h
pending_source id z Phase.Invalid k h = absurd h
pending_source id z (Phase.Write p) k h = ⊎_elim (λ (e : k ≡ cover_mark id z p.stamp). (p, refl, e)) (λ (none : ⊥). absurd none) h
pending_source id z (Phase.Replay p) k h = ⊎_elim (λ (e : k ≡ cover_mark id z p.stamp). (p, refl, e)) (λ (none : ⊥). absurd none) h
pending_source id z (Phase.Trans p) k h = ⊎_elim (λ (e : k ≡ cover_mark id z p.stamp). (p, refl, e)) (λ (none : ⊥). absurd none) h

ack_source : (id : ℕ) (z : Node) (ls : List Message) (k : Mark) → In (ack_marks id z ls) k → (from e s top : ℕ) × In ls (Ack from e s top) × (k ≡ cover_mark id z s)
ack_source id z [] k h = absurd h
ack_source id z (Ack from e s top ∷ ls) k h = ⊎_elim
    (λ (is : k ≡ cover_mark id z s). (from, e, s, top, inl refl, is))
    (λ (t : In (ack_marks id z ls) k). let r = ack_source id z ls k t in (r.0, r.1, r.2, r.3, inr r.4, r.5)) h
ack_source id z (Inv from e s kind content ∷ ls) k h = let r = ack_source id z ls k h in (r.0, r.1, r.2, r.3, inr r.4, r.5)
ack_source id z (Val from e s ∷ ls) k h = let r = ack_source id z ls k h in (r.0, r.1, r.2, r.3, inr r.4, r.5)
ack_source id z (Give from e s kind content valid ∷ ls) k h = let r = ack_source id z ls k h in (r.0, r.1, r.2, r.3, inr r.4, r.5)

pub source_of : (id : ℕ) (was z : Node) (ls : List Message) (k : Mark) → In (step_marks id was z ls) k → Source id was z ls k
source_of id was z ls k h =
    ⊎_elim
    (λ (a : In (moment_marks id z) k). moment (leb 1 z.epoch) refl a)
    (λ (b : In (install_marks id was z ++ ack_marks id z ls) k).
    ⊎_elim
    (λ (i : In (install_marks id was z) k). installed (ltb was.epoch z.epoch) refl i)
    (λ (c : In (ack_marks id z ls) k). let r = ack_source id z ls k c in Source.Acking r.0 r.1 r.2 r.3 r.4 r.5) (in_either (install_marks id was z) (ack_marks id z ls) k b))
    (in_either (moment_marks id z) (install_marks id was z ++ ack_marks id z ls) k h)
  where
    moment : (b : Bool) → leb 1 z.epoch ≡ b → In (cond b (row_mark id z ∷ pending_marks id z z.phase) []) k → Source id was z ls k
    moment true e h = ⊎_elim (λ (is : k ≡ row_mark id z). Source.Row (leb-true 1 z.epoch e) is) (λ (p : In (pending_marks id z z.phase) k). let r = pending_source id z z.phase k p in Source.Waiting r.0 r.1 r.2) h
    moment false e h = absurd h

    installed : (b : Bool) → ltb was.epoch z.epoch ≡ b → In (cond b (pending_marks id z was.phase) []) k → Source id was z ls k
    installed true e h = let r = pending_source id z was.phase k h in Source.Installing r.0 r.1 (ltb-true was.epoch z.epoch e) r.2
    installed false e h = absurd h

-- the mark of an update that was pending at an install
has_mark : (id : ℕ) (z : Node) (phase : Phase) (p : WaitingUpdate) → Has phase p → In (pending_marks id z phase) (cover_mark id z p.stamp)
has_mark id z Phase.Valid p h = absurd h
has_mark id z Phase.Invalid p h = absurd h
has_mark id z (Phase.Write q) p h = inl (ap (λ (w : WaitingUpdate). cover_mark id z w.stamp) (sym h))
has_mark id z (Phase.Replay q) p h = inl (ap (λ (w : WaitingUpdate). cover_mark id z w.stamp) (sym h))
has_mark id z (Phase.Trans q) p h = inl (ap (λ (w : WaitingUpdate). cover_mark id z w.stamp) (sym h))

pub install_mark : (id : ℕ) (was z : Node) (ls : List Message) (p : WaitingUpdate) → Has was.phase p → was.epoch < z.epoch → In (step_marks id was z ls) (cover_mark id z p.stamp)
install_mark id was z ls p has up =
    in_right (moment_marks id z) (install_marks id was z ++ ack_marks id z ls) (cover_mark id z p.stamp)
    (in_left (install_marks id was z) (ack_marks id z ls) (cover_mark id z p.stamp) (rw (lt-ltb was.epoch z.epoch up) (has_mark id z was.phase p has)))
