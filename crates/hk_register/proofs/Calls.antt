-- Every effect keeps what is said of calls.
use Rattle.std.proofs.Common.{◌≡◌, ◌⊎◌, ◌≢◌, ℕ, Bool, true, false, List, [], ◌∷◌, ◌++◌, ◌∙◌, sym, refl, ap, subst, inl, inr, ⊎_elim, Option, Some, None, IsTrue}
use Rattle.std.proofs.lemmas.Bool.{cases_eq}
use Rattle.hk_base.specs.declared.stamp.Kind.{Kind}
use Rattle.hk_base.specs.declared.stamp.Kind.TheVariants as Kind
use Rattle.hk_base.specs.declared.call.Answer.{Answer}
use Rattle.hk_base.specs.declared.call.Reply.{Reply}
use Rattle.hk_history.specs.History.{is_unsure}
use Rattle.hk_register.specs.Machine.{In, Mark, Note, WaitingUpdate, Phase, Node, Message, Update, Item, RegisterState, call_of}
use Rattle.hk_register.specs.Machine.Phase.{Valid, Invalid, Write, Replay, Trans}
use Rattle.hk_register.specs.Machine.Item.{Called, Answered, Dropped, ReadOnly, Rejected}
use Rattle.hk_register.specs.Effects.{Change, Effect, Happens, Fresh, Has, answer_of, dropped, drop_of, overtaken, with_notes, fresh_pending, reply_of}
use Rattle.hk_register.specs.Effects.Effect.{Begin, TakeInv, AckInv, CounterInv, NoteAck, Settle, FinishValid, FinishInvalid, TakeVal, KeepVal, StartReplay, Resend, Install, InstallPending, GiveRow, CopyRow, PassRow, CopyValid, GetReady, Serve, Refuse, Quiet}
use Rattle.hk_register.specs.Parts.{Parts}
use Rattle.hk_register.specs.Calls.{IsStart, IsReply, PendCall, CallItem, OneStart, OneReply, CallParts}
use Rattle.hk_register.proofs.Grow.{in_left, in_right, in_either}

-- two starts of one call are one
pub one_start : (items : List Item) → OneStart items → (i j : Item) → In items i → In items j → IsStart i → IsStart j → call_of i ≡ call_of j → i ≡ j
one_start [] o i j h k a b e = absurd h
one_start (x ∷ xs) o i j (inl p) (inl q) a b e = p ∙ sym q
one_start (x ∷ xs) o i j (inr p) (inr q) a b e = one_start xs o.1 i j p q a b e
one_start (x ∷ xs) o i j (inl p) (inr q) a b e = absurd (o.0 (subst IsStart p a) j q (sym e ∙ ap call_of p))
one_start (x ∷ xs) o i j (inr p) (inl q) a b e = absurd (o.0 (subst IsStart q b) i p (e ∙ ap call_of q))

abbrev stamp_in : Item → ℕ
stamp_in (Called c s op) = s
stamp_in (Answered c s a) = s
stamp_in (Dropped c s a) = s
stamp_in (ReadOnly c s op held a) = s
stamp_in (Rejected c op a) = 0

module _ (V : ℕ → List ℕ) (st : RegisterState) (parts : Parts V st) (cp : CallParts st) where
  -- two updates of one call are one
  pub own_call : (u v : Update) → In st.begun u → In st.begun v → u.call ≡ v.call → u ≡ v
  own_call u v h k e =
      let same = one_start st.history cp.starts (Called u.call u.stamp u.op) (Called v.call v.stamp v.op) (cp.called u h) (cp.called v k) tt tt e in
      parts.once u v h k (stamps u v same)
    where
      stamps : (u v : Update) → Called u.call u.stamp u.op ≡ Called v.call v.stamp v.op → u.stamp ≡ v.stamp
      stamps u v e = ap stamp_in e

module _ (V : ℕ → List ℕ) (old new : RegisterState) (parts : Parts V old) (cp : CallParts old) (n : ℕ) (x : Node) (ls : List Message) (ms : List Mark) (us : List Update) (hs : List Item) (ch : Change old new n x ls ms us hs) where
  begun_grows : (u : Update) → In old.begun u → In new.begun u
  begun_grows u h = rw ch.begun (in_right us old.begun u h)

  item_grows : (i : Item) → CallItem old i → CallItem new i
  item_grows (Called c s op) o = (o.0, begun_grows o.0 o.1, o.2, o.3, o.4)
  item_grows (Answered c s a) o = (o.0, begun_grows o.0 o.1, o.2, o.3, o.4)
  item_grows (Dropped c s a) o = ((o.0.0, begun_grows o.0.0 o.0.1, o.0.2), o.1)
  item_grows (ReadOnly c s op held a) o = o
  item_grows (Rejected c op a) o = o

  -- a pending update goes on, where no reply that is new is its call's
  pend_grows : (m : ℕ) (p q : WaitingUpdate) (r : Reply) → p.stamp ≡ q.stamp → PendCall old m p r → ((i : Item) → In hs i → IsReply i → call_of i ≢ r.call.0) → PendCall new m q r
  pend_grows m p q r same w apart = record {
    update = w.update;
    begun = begun_grows w.update w.begun;
    stamp = w.stamp ∙ same;
    call = w.call;
    answer = w.answer;
    who = w.who;
    open_so_far = λ i h reply. ⊎_elim (λ (a : In hs i). apart i a reply) (λ (b : In old.history i). w.open_so_far i b reply) (in_either hs old.history i (rw ch.history at h));
  }

  pub keep_calls : ((p : WaitingUpdate) (r : Reply) → Has x.phase p → p.reply ≡ Some r → PendCall new n p r) →
      ((m : ℕ) → m ≢ n → (p : WaitingUpdate) (r : Reply) → Has (old.node m).phase p → p.reply ≡ Some r → (i : Item) → In hs i → IsReply i → call_of i ≢ r.call.0) →
      ((u : Update) → In us u → In hs (Called u.call u.stamp u.op)) → ((i : Item) → In hs i → CallItem new i) → OneStart (hs ++ old.history) → OneReply (hs ++ old.history) → CallParts new
  keep_calls here apart called items starts replies = record {
    pend = λ m p r has e. ⊎_elim
        (λ (is : m ≡ n). subst (λ (i : ℕ). PendCall new i p r) (sym is) (here p r (subst (λ (y : Node). Has y.phase p) ch.here (subst (λ (i : ℕ). Has (new.node i).phase p) is has)) e))
        (λ (other : m ≢ n). let had : Has (old.node m).phase p = subst (λ (y : Node). Has y.phase p) (ch.there m other) has in pend_grows m p p r refl (cp.pend m p r had e) (apart m other p r had e)) (cases_eq m n);
    called = λ u h. ⊎_elim
        (λ (a : In us u). rw ch.history (in_left hs old.history (Called u.call u.stamp u.op) (called u a)))
        (λ (b : In old.begun u). rw ch.history (in_right hs old.history (Called u.call u.stamp u.op) (cp.called u b))) (in_either us old.begun u (rw ch.begun at h));
    items = λ i h. ⊎_elim (items i) (λ (b : In old.history i). item_grows i (cp.items i b)) (in_either hs old.history i (rw ch.history at h));
    starts = rw ch.history starts;
    replies = rw ch.history replies;
  }

module _ (V : ℕ → List ℕ) (old new : RegisterState) (parts : Parts V old) (cp : CallParts old) where
  -- nothing is said, and what is pending was
  silent : (n : ℕ) (x : Node) (ls : List Message) (ms : List Mark) → Change old new n x ls ms [] [] → ((p : WaitingUpdate) → Has x.phase p → (p.reply ≡ None) ⊎ ((q : WaitingUpdate) × Has (old.node n).phase q × (q.stamp ≡ p.stamp) × (q.reply ≡ p.reply))) → CallParts new
  silent n x ls ms ch had = keep_calls V old new parts cp n x ls ms [] [] ch
      (λ p r has e. ⊎_elim
      (λ (none : p.reply ≡ None). clash p.reply r none e)
      (λ (q : (q : WaitingUpdate) × Has (old.node n).phase q × (q.stamp ≡ p.stamp) × (q.reply ≡ p.reply)). pend_grows V old new parts cp n x ls ms [] [] ch n q.0 p r q.2 (cp.pend n q.0 r q.1 (q.3 ∙ e)) (λ i h. absurd h)) (had p has))
      (λ m other p r has e i h. absurd h) (λ u h. absurd h) (λ i h. absurd h) cp.starts cp.replies
    where
      clash : (o : Option Reply) (r : Reply) → o ≡ None → o ≡ Some r → {A : Type 0} → A
      clash o r a b = absurd (no_way o r a b)
        where
          no_way : (o : Option Reply) (r : Reply) → o ≡ None → o ≡ Some r → ⊥
          no_way o r a b = cc

  -- the node's pending update is replied to, and is gone
  replied : (n : ℕ) (x : Node) (ls : List Message) (ms : List Mark) (p : WaitingUpdate) (r : Reply) (item : Item) → call_of item ≡ r.call.0 → (IsStart item → ⊥) → Change old new n x ls ms [] (item ∷ []) → Has (old.node n).phase p → p.reply ≡ Some r → ((q : WaitingUpdate) → Has x.phase q → ⊥) → CallItem old item → CallParts new
  replied n x ls ms p r item is not_start ch has e gone good =
      let w = cp.pend n p r has e in
      keep_calls V old new parts cp n x ls ms [] (item ∷ []) ch
      (λ q s h. absurd (gone q h))
      (λ m other q s had f i h reply same. ⊎_elim
      (λ (it : i ≡ item).
      let v = cp.pend m q s had f in
      let calls : v.update.call ≡ w.update.call = v.call ∙ (sym same ∙ (ap call_of it ∙ (is ∙ sym w.call))) in
      let one = own_call V old parts cp v.update w.update v.begun w.begun calls in
      other (sym v.who ∙ (ap (λ (u : Update). u.who) one ∙ w.who)))
      (λ (none : ⊥). none) h)
      (λ u h. absurd h)
      (λ i h. ⊎_elim (λ (it : i ≡ item). subst (CallItem new) (sym it) (item_grows V old new parts cp n x ls ms [] (item ∷ []) ch item good)) (λ (none : ⊥). absurd none) h)
      (λ start. absurd (not_start start), cp.starts)
      (λ reply j h rj same. w.open_so_far j h rj (same ∙ is), cp.replies)

  -- a call that is replied to at once
  at_once : (n : ℕ) (x : Node) (ls : List Message) (ms : List Mark) (item : Item) → Fresh old (call_of item) → Change old new n x ls ms [] (item ∷ []) → x.phase ≡ (old.node n).phase → CallItem old item → CallParts new
  at_once n x ls ms item fresh ch same good = keep_calls V old new parts cp n x ls ms [] (item ∷ []) ch
      (λ p r has e. let had : Has (old.node n).phase p = subst (λ (ph : Phase). Has ph p) same has in pend_grows V old new parts cp n x ls ms [] (item ∷ []) ch n p p r refl (cp.pend n p r had e) (apart n p r had e))
      (λ m other p r had e. apart m p r had e) (λ u h. absurd h)
      (λ i h. ⊎_elim (λ (it : i ≡ item). subst (CallItem new) (sym it) (item_grows V old new parts cp n x ls ms [] (item ∷ []) ch item good)) (λ (none : ⊥). absurd none) h)
      (λ start j h. fresh j h, cp.starts) (λ reply j h rj. fresh j h, cp.replies)
    where
      apart : (m : ℕ) (p : WaitingUpdate) (r : Reply) → Has (old.node m).phase p → p.reply ≡ Some r → (i : Item) → In (item ∷ []) i → IsReply i → call_of i ≢ r.call.0
      apart m p r had e i h reply same = ⊎_elim
          (λ (it : i ≡ item). let w = cp.pend m p r had e in fresh (Called w.update.call w.update.stamp w.update.op) (cp.called w.update w.begun) (w.call ∙ (sym same ∙ ap call_of it)))
          (λ (none : ⊥). none) h

  kept_pending : (n : ℕ) (ph : Phase) → ph ≡ (old.node n).phase → (p : WaitingUpdate) → Has ph p → (p.reply ≡ None) ⊎ ((q : WaitingUpdate) × Has (old.node n).phase q × (q.stamp ≡ p.stamp) × (q.reply ≡ p.reply))
  kept_pending n ph same p has = inr (p, subst (λ (f : Phase). Has f p) same has, refl, refl)

  ended : (n : ℕ) (x : Node) (ls : List Message) (ms : List Mark) (p : WaitingUpdate) → Has (old.node n).phase p → ((q : WaitingUpdate) → Has x.phase q → ⊥) → (o : Option Reply) → p.reply ≡ o → Change old new n x ls ms [] (answer_of o p.stamp) → CallParts new
  ended n x ls ms p has gone None e ch = silent n x ls ms ch (λ q h. absurd (gone q h))
  ended n x ls ms p has gone (Some r) e ch =
      let w = cp.pend n p r has e in
      replied n x ls ms p r (Answered r.call.0 p.stamp r.answer) refl (λ s. s) ch has e gone (w.update, w.begun, w.call, w.stamp, w.answer)

  noted_had : (ph : Phase) (ns : List Note) (p : WaitingUpdate) → Has (with_notes ph ns) p → (q : WaitingUpdate) × Has ph q × (q.stamp ≡ p.stamp) × (q.reply ≡ p.reply)
  noted_had Valid ns p h = absurd h
  noted_had Invalid ns p h = absurd h
  noted_had (Write q) ns p h = (q, refl, ap (λ (z : WaitingUpdate). z.stamp) h, ap (λ (z : WaitingUpdate). z.reply) h)
  noted_had (Replay q) ns p h = (q, refl, ap (λ (z : WaitingUpdate). z.stamp) h, ap (λ (z : WaitingUpdate). z.reply) h)
  noted_had (Trans q) ns p h = (q, refl, ap (λ (z : WaitingUpdate). z.stamp) h, ap (λ (z : WaitingUpdate). z.reply) h)

  take_inv_calls : (n : ℕ) (x : Node) (ls : List Message) (ms : List Mark) (why : Answer) → IsTrue (is_unsure (Some why)) → (ph : Phase) → (old.node n).phase ≡ ph → x.phase ≡ overtaken ph → Change old new n x ls ms [] (dropped ph why) → CallParts new
  take_inv_calls n x ls ms why unsure Valid e is ch = silent n x ls ms ch (λ p h. absurd (subst (λ (f : Phase). Has f p) is h))
  take_inv_calls n x ls ms why unsure Invalid e is ch = silent n x ls ms ch (λ p h. absurd (subst (λ (f : Phase). Has f p) is h))
  take_inv_calls n x ls ms why unsure (Replay q) e is ch = silent n x ls ms ch (λ p h. absurd (subst (λ (f : Phase). Has f p) is h))
  take_inv_calls n x ls ms why unsure (Trans q) e is ch = silent n x ls ms ch (λ p h. kept_pending n (Trans q) (sym e) p (subst (λ (f : Phase). Has f p) is h))
  take_inv_calls n x ls ms why unsure (Write q) e is ch = by_kind q.kind is ch
    where
      has : Has (old.node n).phase q
      has = subst (λ (f : Phase). Has f q) (sym e) refl

      by_reply : (o : Option Reply) → q.reply ≡ o → x.phase ≡ Invalid → Change old new n x ls ms [] (drop_of o q.stamp why) → CallParts new
      by_reply None f is ch = silent n x ls ms ch (λ p h. absurd (subst (λ (g : Phase). Has g p) is h))
      by_reply (Some r) f is ch =
          let w = cp.pend n q r has f in
          replied n x ls ms q r (Dropped r.call.0 q.stamp why) refl (λ s. s) ch has f (λ p h. subst (λ (g : Phase). Has g p) is h) ((w.update, w.begun, w.call), unsure)

      by_kind : (kind : Kind) → x.phase ≡ elim kind as (λ _. Phase) [ Kind.Write ↦ Trans q | Kind.Rmw ↦ Invalid ] → Change old new n x ls ms [] (elim kind as (λ _. List Item) [ Kind.Write ↦ [] | Kind.Rmw ↦ drop_of q.reply q.stamp why ]) → CallParts new
      by_kind Kind.Write is ch = silent n x ls ms ch (λ p h. let same : q ≡ p = subst (λ (g : Phase). Has g p) is h in inr (q, has, ap (λ (z : WaitingUpdate). z.stamp) same, ap (λ (z : WaitingUpdate). z.reply) same))
      by_kind Kind.Rmw is ch = by_reply q.reply refl is ch

  begin_calls : (n : ℕ) (u : Update) (x : Node) (ls : List Message) (ms : List Mark) → x.phase ≡ Write (fresh_pending u.stamp u.kind u.content (Some (reply_of u))) → u.who ≡ n → Fresh old u.call → Change old new n x ls ms (u ∷ []) (Called u.call u.stamp u.op ∷ []) → CallParts new
  begin_calls n u x ls ms is who fresh ch =
      let begun : In new.begun u = rw ch.begun (inl refl) in
      keep_calls V old new parts cp n x ls ms (u ∷ []) (Called u.call u.stamp u.op ∷ []) ch
      (λ p r h e.
      let same : fresh_pending u.stamp u.kind u.content (Some (reply_of u)) ≡ p = subst (λ (f : Phase). Has f p) is h in
      let replies : Some (reply_of u) ≡ Some r = ap (λ (z : WaitingUpdate). z.reply) same ∙ e in
      let reply : reply_of u ≡ r = the_reply (reply_of u) r replies in
      record {
        update = u;
        begun = begun;
        stamp = ap (λ (z : WaitingUpdate). z.stamp) same;
        call = ap (λ (z : Reply). z.call.0) reply;
        answer = ap (λ (z : Reply). z.answer) reply;
        who = who;
        open_so_far = λ i g ri bad. ⊎_elim
            (λ (a : In (Called u.call u.stamp u.op ∷ []) i). ⊎_elim (λ (it : i ≡ Called u.call u.stamp u.op). subst IsReply it ri) (λ (none : ⊥). none) a)
            (λ (b : In old.history i). fresh i b (bad ∙ sym (ap (λ (z : Reply). z.call.0) reply))) (in_either (Called u.call u.stamp u.op ∷ []) old.history i (rw ch.history at g));
      })
      (λ m other p r had e i h ri. ⊎_elim (λ (it : i ≡ Called u.call u.stamp u.op). absurd (subst IsReply it ri)) (λ (none : ⊥). absurd none) h)
      (λ v h. ⊎_elim (λ (it : v ≡ u). inl (ap (λ (z : Update). Called z.call z.stamp z.op) it)) (λ (none : ⊥). absurd none) h)
      (λ i h. ⊎_elim (λ (it : i ≡ Called u.call u.stamp u.op). subst (CallItem new) (sym it) (u, begun, refl, refl, refl)) (λ (none : ⊥). absurd none) h)
      (λ start j h. fresh j h, cp.starts) (λ reply. absurd reply, cp.replies)
    where
      the_reply : (a b : Reply) → Some a ≡ Some b → a ≡ b
      the_reply a b e = cc

  pub effect_calls : (e : Effect) → Happens V old e new → CallParts new
  effect_calls (Begin n u) happens = begin_calls n u _ _ _ refl happens.allowed.4 happens.allowed.9 happens.change
  effect_calls (TakeInv n m s kind content why) happens = take_inv_calls n _ _ _ why happens.allowed.3 (old.node n).phase refl refl happens.change
  effect_calls (AckInv n m s kind content) happens = silent n _ _ _ happens.change (kept_pending n _ refl)
  effect_calls (CounterInv n m s kind content) happens = silent n _ _ _ happens.change (kept_pending n _ refl)
  effect_calls (NoteAck n m t p after) happens = silent n _ _ _ happens.change (λ q h. inr (noted_had (old.node n).phase after q h))
  effect_calls (Settle n p) happens = ended n _ _ _ p happens.allowed.0 (λ q h. h) p.reply refl happens.change
  effect_calls (FinishValid n p) happens = ended n _ _ _ p happens.allowed.0 (λ q h. h) p.reply refl happens.change
  effect_calls (FinishInvalid n p) happens = ended n _ _ _ p happens.allowed.0 (λ q h. h) p.reply refl happens.change
  effect_calls (TakeVal n m) happens = silent n _ _ _ happens.change (λ q h. absurd h)
  effect_calls (KeepVal n m) happens = silent n _ _ _ happens.change (kept_pending n _ refl)
  effect_calls (StartReplay n) happens = silent n _ _ _ happens.change (λ q h. inl (sym (ap (λ (z : WaitingUpdate). z.reply) h)))
  effect_calls (Resend n p) happens = silent n _ _ _ happens.change (kept_pending n _ refl)
  effect_calls (Install n e) happens = silent n _ _ _ happens.change (kept_pending n _ refl)
  effect_calls (InstallPending n e p) happens = silent n _ _ _ happens.change (λ q h. inr (noted_had (old.node n).phase [] q h))
  effect_calls (GiveRow n valid) happens = silent n _ _ _ happens.change (kept_pending n _ refl)
  effect_calls (CopyRow n m s kind content valid) happens = silent n _ _ _ happens.change (λ q h. absurd (by_valid valid q h))
    where
      by_valid : (v : Bool) (q : WaitingUpdate) → Has (Rattle.std.proofs.Common.cond v Valid Invalid) q → ⊥
      by_valid true q h = h
      by_valid false q h = h
  effect_calls (PassRow n m s kind content valid) happens = silent n _ _ _ happens.change (kept_pending n _ refl)
  effect_calls (CopyValid n m s kind content) happens = silent n _ _ _ happens.change (λ q h. absurd h)
  effect_calls (GetReady n) happens = silent n _ _ _ happens.change (kept_pending n _ refl)
  effect_calls (Serve n call op answer) happens = at_once n _ _ _ (ReadOnly call (old.node n).stamp op (old.node n).content answer) happens.allowed.4 happens.change refl happens.allowed.5
  effect_calls (Refuse n call op answer) happens = at_once n _ _ _ (Rejected call op answer) happens.allowed.1 happens.change refl happens.allowed.0
  effect_calls (Quiet n) happens = silent n _ _ _ happens.change (kept_pending n _ refl)
