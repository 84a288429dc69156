-- What an ACK tells of its sender's row, in every run.
use Rattle.std.proofs.Common.{◌≡◌, ◌⊎◌, ℕ, Bool, true, List, [], ◌∷◌, ◌∙◌, sym, refl, inl, inr, ⊎_elim, Option}
use Rattle.hk_base.specs.declared.stamp.Kind.{Kind}
use Rattle.hk_base.specs.declared.stamp.Kind.TheVariants as Kind
use Rattle.hk_base.specs.declared.call.Answer.{Answer}
use Rattle.hk_base.specs.declared.call.Content.{Content}
use Rattle.hk_register.specs.Machine.{In, Marked, Mark, Update, RegisterState}
use Rattle.hk_register.specs.Machine.Message.{Inv, Ack, Val, Give}
use Rattle.hk_register.specs.Facts.{Exact}
use Rattle.hk_register.specs.Effects.{Effect, Happens, done, row_mark}
use Rattle.hk_register.specs.Effects.Effect.{Begin, TakeInv, AckInv, CounterInv, NoteAck, Settle, FinishValid, FinishInvalid, TakeVal, KeepVal, StartReplay, Resend, Install, InstallPending, GiveRow, CopyRow, PassRow, CopyValid, GetReady, Serve, Refuse, Quiet}
use Rattle.hk_register.specs.Parts.{Parts}
use Rattle.hk_register.proofs.Grow.{in_right}
use Rattle.hk_register.proofs.Runs.{effect_kept}
use Rattle.hk_effects.specs.Laws.{Effects}

-- Its sender's row had the top. What was acknowledged is an update, and a plain write, or the top is its stamp.
pub record AckTold (st : RegisterState) (m e s top : ℕ) : Type 0 where
  pub exact : Exact st m e top
  pub update : Update
  pub begun : In st.begun update
  pub stamp : update.stamp ≡ s
  pub tops : (update.kind ≡ Kind.Write) ⊎ (top ≡ s)

abbrev pub AcksTold : RegisterState → Type 0
AcksTold st = (m e s top : ℕ) → In st.letters (Ack m e s top) → AckTold st m e s top

pub told_grows : (old new : RegisterState) → ((k : Mark) → Marked old k → Marked new k) → ((u : Update) → In old.begun u → In new.begun u) → (m e s top : ℕ) → AckTold old m e s top → AckTold new m e s top
told_grows old new marks begun m e s top o = record {
  exact = record { mark = o.exact.mark; marked = marks o.exact.mark o.exact.marked; who = o.exact.who; epoch = o.exact.epoch; stamp = o.exact.stamp; exact = o.exact.exact };
  update = o.update;
  begun = begun o.update o.begun;
  stamp = o.stamp;
  tops = o.tops;
}

no_inv : (m e s top n f c : ℕ) (kind : Kind) (content : Option Content) → In (Inv n f c kind content ∷ []) (Ack m e s top) → ⊥
no_inv m e s top n f c kind content (inl is) = cc
no_inv m e s top n f c kind content (inr none) = none

no_val : (m e s top n f c : ℕ) → In (Val n f c ∷ []) (Ack m e s top) → ⊥
no_val m e s top n f c (inl is) = cc
no_val m e s top n f c (inr none) = none

no_give : (m e s top n f c : ℕ) (kind : Kind) (content : Option Content) (valid : Bool) → In (Give n f c kind content valid ∷ []) (Ack m e s top) → ⊥
no_give m e s top n f c kind content valid (inl is) = cc
no_give m e s top n f c kind content valid (inr none) = none

same_ack : (st : RegisterState) (m e s top n f c d : ℕ) → In (Ack n f c d ∷ []) (Ack m e s top) → AckTold st n f c d → AckTold st m e s top
same_ack st m e s top n f c d (inr none) o = absurd none
same_ack st m e s top n f c d (inl is) o =
    let one : m ≡ n = cc in
    let two : e ≡ f = cc in
    let three : s ≡ c = cc in
    let four : top ≡ d = cc in
    rw (one, two, three, four) o

module _ (V : ℕ → List ℕ) (old new : RegisterState) (parts : Parts V old) where
  abbrev New : Effect → Type 0
  New x = Happens V old x new → (m e s top : ℕ) → In (done old x).letters (Ack m e s top) → AckTold new m e s top

  taken : (n from c : ℕ) (kind : Kind) (content : Option Content) (why : Answer) → New (TakeInv n from c kind content why)
  taken n from c kind content why h m e s top i =
      let k : Mark = record { who = n; epoch = (old.node n).epoch; stamp = c; exact = true; ready = (old.node n).ready } in
      let w = (parts.letters (Inv from (old.node n).epoch c kind content) h.allowed.0).1 in
      same_ack new m e s top n (old.node n).epoch c c i (record {
        exact = record { mark = k; marked = h.change.marks_new k (inl refl); who = refl; epoch = refl; stamp = refl; exact = refl };
        update = w.update;
        begun = rw h.change.begun w.begun;
        stamp = w.stamp;
        tops = inr refl;
      })

  acked : (n from c : ℕ) (kind : Kind) (content : Option Content) → New (AckInv n from c kind content)
  acked n from c kind content h m e s top i =
      let k = row_mark n (old.node n) in
      let w = (parts.letters (Inv from (old.node n).epoch c kind content) h.allowed.0).1 in
      same_ack new m e s top n (old.node n).epoch c (old.node n).stamp i (record {
        exact = record { mark = k; marked = h.change.marks_kept k ((parts.nodes n).marked h.allowed.2); who = refl; epoch = refl; stamp = refl; exact = refl };
        update = w.update;
        begun = rw h.change.begun w.begun;
        stamp = w.stamp;
        tops = ⊎_elim (λ (p : kind ≡ Kind.Write). inl (w.same_kind ∙ p)) (λ (same : c ≡ (old.node n).stamp). inr (sym same)) h.allowed.3;
      })

  new_ack : (x : Effect) → New x
  new_ack (TakeInv n from c kind content why) h m e s top i = taken n from c kind content why h m e s top i
  new_ack (AckInv n from c kind content) h m e s top i = acked n from c kind content h m e s top i
  new_ack (Begin n u) h m e s top i = absurd (no_inv m e s top _ _ _ _ _ i)
  new_ack (CounterInv n from c kind content) h m e s top i = absurd (no_inv m e s top _ _ _ _ _ i)
  new_ack (NoteAck n from t p notes) h m e s top i = absurd i
  new_ack (Settle n p) h m e s top i = absurd (no_val m e s top _ _ _ i)
  new_ack (FinishValid n p) h m e s top i = absurd i
  new_ack (FinishInvalid n p) h m e s top i = absurd i
  new_ack (TakeVal n from) h m e s top i = absurd i
  new_ack (KeepVal n from) h m e s top i = absurd i
  new_ack (StartReplay n) h m e s top i = absurd (no_inv m e s top _ _ _ _ _ i)
  new_ack (Resend n p) h m e s top i = absurd (no_inv m e s top _ _ _ _ _ i)
  new_ack (Install n f) h m e s top i = absurd i
  new_ack (InstallPending n f p) h m e s top i = absurd (no_inv m e s top _ _ _ _ _ i)
  new_ack (GiveRow n valid) h m e s top i = absurd (no_give m e s top _ _ _ _ _ _ i)
  new_ack (CopyRow n from c kind content valid) h m e s top i = absurd i
  new_ack (PassRow n from c kind content valid) h m e s top i = absurd i
  new_ack (CopyValid n from c kind content) h m e s top i = absurd i
  new_ack (GetReady n) h m e s top i = absurd i
  new_ack (Serve n call op answer) h m e s top i = absurd i
  new_ack (Refuse n call op answer) h m e s top i = absurd i
  new_ack (Quiet n) h m e s top i = absurd i

  pub effect_acks : (x : Effect) → Happens V old x new → AcksTold old → AcksTold new
  effect_acks x h told m e s top i = ⊎_elim
      (λ (fresh : In (done old x).letters (Ack m e s top)). new_ack x h m e s top fresh)
      (λ (was : In old.letters (Ack m e s top)).
      told_grows old new h.change.marks_kept (λ u b. rw h.change.begun (in_right (done old x).updates old.begun u b)) m e s top (told m e s top was)) (h.change.letters (Ack m e s top) i)

pub effects_acks : (V : ℕ → List ℕ) (old new : RegisterState) → Parts V old → Effects V old new → AcksTold old → AcksTold new
effects_acks V old new parts (inl e) told = effect_acks V old new parts e.0 e.1 told
effects_acks V old new parts (inr m) told = effect_acks V m.0 new (effect_kept V old m.0 parts m.1.0 m.1.1) m.2.0 m.2.1 (effect_acks V old m.0 parts m.1.0 m.1.1 told)
