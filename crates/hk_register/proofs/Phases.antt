-- Changes of a node's phase keep the parts.
use Rattle.std.proofs.Common.{◌≡◌, ℕ, Bool, true, List, [], ◌∷◌, ◌<◌, ◌≤◌, ◌∙◌, sym, refl, inr, ⊎_elim, arith, le_trans, le_refl, None}
use Rattle.hk_base.specs.declared.call.Answer.{Answer}
use Rattle.hk_base.specs.declared.call.Op.{Op}
use Rattle.hk_register.specs.Machine.{In, Note, WaitingUpdate, Phase, Node, Mark, RegisterState}
use Rattle.hk_register.specs.Machine.Phase.{Valid, Invalid, Write, Replay, Trans}
use Rattle.hk_register.specs.Machine.Item.{Answered, ReadOnly, Rejected}
use Rattle.hk_register.specs.Machine.Message.{Inv, Ack, Val}
use Rattle.hk_register.specs.Facts.{Covers, ReadyCovers, Settled, Rests}
use Rattle.hk_register.specs.Effects.{Change, Has, AllNoted, Leased, NotesAfter, fresh_pending, Stays, register_of, answer_of, row_mark, with_notes}
use Rattle.hk_register.specs.Parts.{Known, NoteOk, PendingOk, PhaseOk, Parts}
use Rattle.hk_register.proofs.Begins.{fresh_row, fresh_rests}
use Rattle.hk_register.proofs.Helps.{pending_of, pending_at, cover_of, row_ready_exact, completes, settles_there, answers_ok, answers_timely, keep_phase}

module _ (V : ℕ → List ℕ) (old new : RegisterState) (parts : Parts V old) (n : ℕ) where
  the_pending : (p : WaitingUpdate) → Has (old.node n).phase p → PendingOk V old n (old.node n) p
  the_pending p has = pending_of V old n (old.node n) (old.node n).phase p has (parts.nodes n).phase

  with_notes_ok : (x y : Node) (phase : Phase) (p : WaitingUpdate) (after : List Note) → y.ready ≡ x.ready → y.epoch ≡ x.epoch → y.stamp ≡ x.stamp → Has phase p → ((k : Note) → In after k → NoteOk V old x.epoch p.stamp k) → PhaseOk V old n x phase → PhaseOk V old n y (with_notes phase after)
  with_notes_ok x y Valid p after ready epoch stamp has ok o = absurd has
  with_notes_ok x y Invalid p after ready epoch stamp has ok o = absurd has
  with_notes_ok x y (Write q) p after ready epoch stamp has ok o = (noted, o.1 ∙ sym stamp)
    where
      noted : PendingOk V old n y (record q { notes = after })
      noted = record { ready = ready ∙ o.0.ready; covers = rw epoch o.0.covers; below = rw stamp o.0.below; positive = o.0.positive; known = o.0.known; notes = λ k h. rw (epoch, has) (ok k h) }
  with_notes_ok x y (Replay q) p after ready epoch stamp has ok o = (noted, o.1 ∙ sym stamp)
    where
      noted : PendingOk V old n y (record q { notes = after })
      noted = record { ready = ready ∙ o.0.ready; covers = rw epoch o.0.covers; below = rw stamp o.0.below; positive = o.0.positive; known = o.0.known; notes = λ k h. rw (epoch, has) (ok k h) }
  with_notes_ok x y (Trans q) p after ready epoch stamp has ok o = (noted, o.1)
    where
      noted : PendingOk V old n y (record q { notes = after })
      noted = record { ready = ready ∙ o.0.ready; covers = rw epoch o.0.covers; below = rw stamp o.0.below; positive = o.0.positive; known = o.0.known; notes = λ k h. rw (epoch, has) (ok k h) }

  pub note_ack_kept : (m t : ℕ) (p : WaitingUpdate) (after : List Note) → In old.letters (Ack m (old.node n).epoch p.stamp t) → Has (old.node n).phase p → In (V (old.node n).epoch) m → NotesAfter p.notes after m p.stamp t → Change old new n (record (old.node n) { phase = with_notes (old.node n).phase after }) [] [] [] [] → Parts V new
  note_ack_kept m t p after sent has member noted ch =
      let x = old.node n in
      let told = parts.letters _ sent in
      let ok : (k : Note) → In after k → NoteOk V old x.epoch p.stamp k = λ k h.
      ⊎_elim
      (λ (was : In p.notes k). (the_pending p has).notes k was)
      (λ (is : (k.who ≡ m) × (k.exact ≡ true → t ≡ p.stamp)). record { member = rw is.0 member; covers = rw is.0 told.0; exact = λ e. rw is.0 (told.1 (is.1 e)) }) (noted k h) in
      keep_phase V old new parts n (with_notes x.phase after) x.kept_val [] [] ch (with_notes_ok x (record x { phase = with_notes x.phase after }) x.phase p after refl refl refl has ok (parts.nodes n).phase) (parts.nodes n).kept tt tt parts.timely

  pub settle_kept : (p : WaitingUpdate) → Has (old.node n).phase p → AllNoted V (old.node n).epoch n p.notes → p.stamp ≡ (old.node n).stamp → ((k : Note) → In p.notes k → k.exact ≡ true) → Change old new n (record (old.node n) { phase = Valid }) (Val n (old.node n).epoch p.stamp ∷ []) [] [] (answer_of p.reply p.stamp) → Parts V new
  settle_kept p has noted same exact ch =
      let x = old.node n in
      let w = the_pending p has in
      let done : Settled V old p.stamp = settles_there V old n x p (parts.nodes n) w noted same exact in
      let at_pending : Rests V old p.stamp = inr done in
      let rests : Rests V old x.stamp = rw same at at_pending in
      keep_phase V old new parts n Valid x.kept_val (Val n x.epoch p.stamp ∷ []) (answer_of p.reply p.stamp) ch rests (parts.nodes n).kept (done, tt) (answers_ok V old p.reply p.stamp (completes V old n x p (parts.nodes n) w noted) w.positive) (answers_timely V p.reply p.stamp old.history parts.timely)

  pub finish_valid_kept : (p : WaitingUpdate) → Has (old.node n).phase p → AllNoted V (old.node n).epoch n p.notes → (old.node n).kept_val ≡ true → Change old new n (record (old.node n) { phase = Valid }) [] [] [] (answer_of p.reply p.stamp) → Parts V new
  finish_valid_kept p has noted kept ch =
      let x = old.node n in
      let w = the_pending p has in
      keep_phase V old new parts n Valid x.kept_val [] (answer_of p.reply p.stamp) ch ((parts.nodes n).kept kept) (parts.nodes n).kept tt (answers_ok V old p.reply p.stamp (completes V old n x p (parts.nodes n) w noted) w.positive) (answers_timely V p.reply p.stamp old.history parts.timely)

  pub finish_invalid_kept : (p : WaitingUpdate) → Has (old.node n).phase p → AllNoted V (old.node n).epoch n p.notes → Change old new n (record (old.node n) { phase = Invalid }) [] [] [] (answer_of p.reply p.stamp) → Parts V new
  finish_invalid_kept p has noted ch =
      let x = old.node n in
      let w = the_pending p has in
      keep_phase V old new parts n Invalid x.kept_val [] (answer_of p.reply p.stamp) ch (le_trans w.positive w.below) (parts.nodes n).kept tt (answers_ok V old p.reply p.stamp (completes V old n x p (parts.nodes n) w noted) w.positive) (answers_timely V p.reply p.stamp old.history parts.timely)

  pub take_val_kept : (m : ℕ) → In old.letters (Val m (old.node n).epoch (old.node n).stamp) → Change old new n (record (old.node n) { phase = Valid }) [] [] [] [] → Parts V new
  take_val_kept m sent ch = keep_phase V old new parts n Valid (old.node n).kept_val [] [] ch (inr (parts.letters _ sent)) (parts.nodes n).kept tt tt parts.timely

  phase_at_kept : (x : Node) (kp : Bool) (phase : Phase) → PhaseOk V old n x phase → PhaseOk V old n (record x { kept_val = kp }) phase
  phase_at_kept x kp Valid o = o
  phase_at_kept x kp Invalid o = o
  phase_at_kept x kp (Write p) o = (pending_at V refl refl (le_refl x.stamp) o.0, o.1)
  phase_at_kept x kp (Replay p) o = (pending_at V refl refl (le_refl x.stamp) o.0, o.1)
  phase_at_kept x kp (Trans p) o = (pending_at V refl refl (le_refl x.stamp) o.0, o.1)

  pub keep_val_kept : (m : ℕ) → In old.letters (Val m (old.node n).epoch (old.node n).stamp) → Change old new n (record (old.node n) { kept_val = true }) [] [] [] [] → Parts V new
  keep_val_kept m sent ch = keep_phase V old new parts n (old.node n).phase true [] [] ch (phase_at_kept (old.node n) true (old.node n).phase (parts.nodes n).phase) (λ _. inr (parts.letters _ sent)) tt tt parts.timely

  known_row : 1 ≤ (old.node n).stamp → Known old (old.node n).stamp (old.node n).kind (old.node n).content
  known_row one = ⊎_elim (λ (zero_is : ((old.node n).stamp ≡ 0) × ((old.node n).content ≡ None)). absurd (omega arith)) (λ (k : Known old (old.node n).stamp (old.node n).kind (old.node n).content). k) (parts.nodes n).known

  pub start_replay_kept : (old.node n).ready ≡ true → (old.node n).phase ≡ Invalid → Change old new n (record (old.node n) { phase = Replay (fresh_pending (old.node n).stamp (old.node n).kind (old.node n).content None) }) (Inv n (old.node n).epoch (old.node n).stamp (old.node n).kind (old.node n).content ∷ []) [] [] [] → Parts V new
  start_replay_kept ready invalid ch =
      let x = old.node n in
      let was = parts.nodes n in
      let one : 1 ≤ x.stamp = rw invalid at was.phase in
      let p : WaitingUpdate = fresh_pending x.stamp x.kind x.content None in
      let e = row_ready_exact V was ready in
      let covers : ReadyCovers old n x.epoch x.stamp = record { mark = e.mark; marked = e.marked; who = e.who; epoch = e.epoch; stamp = e.stamp; ready = e.ready } in
      let w : PendingOk V old n (record x { phase = Replay p }) p = record { ready = ready; covers = covers; below = le_refl x.stamp; positive = one; known = known_row one; notes = λ k h. absurd h } in
      keep_phase V old new parts n (Replay p) x.kept_val (Inv n x.epoch x.stamp x.kind x.content ∷ []) [] ch (w, refl) was.kept ((cover_of V covers, known_row one), tt) tt parts.timely

  pub resend_kept : (p : WaitingUpdate) → Has (old.node n).phase p → Change old new n (old.node n) (Inv n (old.node n).epoch p.stamp p.kind p.content ∷ []) [] [] [] → Parts V new
  resend_kept p has ch =
      let x = old.node n in
      let w = the_pending p has in
      keep_phase V old new parts n x.phase x.kept_val (Inv n x.epoch p.stamp p.kind p.content ∷ []) [] ch (parts.nodes n).phase (parts.nodes n).kept ((cover_of V w.covers, w.known), tt) tt parts.timely

  pub counter_inv_kept : (s : ℕ) → s < (old.node n).stamp → 1 ≤ (old.node n).epoch → Change old new n (old.node n) (Inv n (old.node n).epoch (old.node n).stamp (old.node n).kind (old.node n).content ∷ []) [] [] [] → Parts V new
  counter_inv_kept s above some ch =
      let x = old.node n in
      let row : Mark = row_mark n x in
      let covers : Covers old n x.epoch x.stamp = record { mark = row; marked = (parts.nodes n).marked some; who = refl; epoch = refl; stamp = refl } in
      keep_phase V old new parts n x.phase x.kept_val (Inv n x.epoch x.stamp x.kind x.content ∷ []) [] ch (parts.nodes n).phase (parts.nodes n).kept ((covers, known_row (omega arith)), tt) tt parts.timely

  pub look_kept : (call : ℕ) (op : Op) (answer : Answer) → (old.node n).ready ≡ true → (old.node n).phase ≡ Valid → Leased V old n → Stays op (register_of (old.node n).content (old.node n).stamp) answer →
      Change old new n (old.node n) [] [] [] (ReadOnly call (old.node n).stamp op (old.node n).content answer ∷ []) → Parts V new
  look_kept call op answer ready valid leased stays ch =
      let x = old.node n in
      let was = parts.nodes n in
      let rests : Rests V old x.stamp = rw valid at was.phase in
      keep_phase V old new parts n x.phase x.kept_val [] (ReadOnly call x.stamp op x.content answer ∷ []) ch was.phase was.kept tt ((rests, x.kind, was.known, stays), tt)
      (record { answered = λ c a w h. fresh_row V old parts n a ready leased (parts.items (Answered c a w) h).0; looked = λ c a o held w h. fresh_rests V old parts n a ready leased (parts.items (ReadOnly c a o held w) h).0 }, parts.timely)

  pub refuse_kept : (call : ℕ) (op : Op) (answer : Answer) → Change old new n (old.node n) [] [] [] (Rejected call op answer ∷ []) → Parts V new
  refuse_kept call op answer ch = keep_phase V old new parts n (old.node n).phase (old.node n).kept_val [] (Rejected call op answer ∷ []) ch (parts.nodes n).phase (parts.nodes n).kept tt (tt, tt) parts.timely

  pub quiet_kept : Change old new n (old.node n) [] [] [] [] → Parts V new
  quiet_kept ch = keep_phase V old new parts n (old.node n).phase (old.node n).kept_val [] [] ch (parts.nodes n).phase (parts.nodes n).kept tt tt parts.timely
