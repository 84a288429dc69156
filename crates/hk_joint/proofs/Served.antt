-- What is complete when a call is served: a change is begun above it all, and a call that changes nothing finds no less.
use Rattle.std.proofs.Common.{append_assoc, ◌≡◌, ℕ, List, [], ◌++◌, ◌<◌, ◌≤◌, ◌∙◌, sym, ap, subst, inl, inr, ⊎_elim, arith, Some, None}
use Rattle.std.specs.Prelude.{⊤}
use Rattle.hk_base.specs.declared.call.Answer.{Answer}
use Rattle.hk_base.specs.declared.call.Reply.{Reply}
use Rattle.hk_base.specs.declared.stamp.Kind.{Kind}
use Rattle.hk_base.specs.declared.stamp.Kind.TheVariants as Kind
use Rattle.std.specs.Prelude.{Option}
use Rattle.hk_register.specs.Machine.{In, Marked, Mark, Phase, Update, Item, RegisterState}
use Rattle.hk_register.specs.Machine.Phase.{Valid, Invalid, Write, Replay, Trans}
use Rattle.hk_register.specs.Machine.Item.{Called, Answered, Dropped, ReadOnly, Rejected}
use Rattle.hk_register.specs.Facts.{Complete}
use Rattle.hk_register.specs.Effects.{Effect, Happens, Allowed, done, next_stamp, answer_of, drop_of, dropped}
use Rattle.hk_register.specs.Effects.Effect.{Begin, TakeInv, AckInv, CounterInv, NoteAck, Settle, FinishValid, FinishInvalid, TakeVal, KeepVal, StartReplay, Resend, Install, InstallPending, GiveRow, CopyRow, PassRow, CopyValid, GetReady, Serve, Refuse, Quiet}
use Rattle.hk_register.specs.Parts.{Parts}
use Rattle.hk_register.proofs.Grow.{in_right, in_either}
use Rattle.hk_register.proofs.Begins.{fresh_row}
use Rattle.hk_register.proofs.Runs.{effect_kept}

next_above : (kind : Kind) (b n : ℕ) → b < next_stamp kind b n
next_above Kind.Write b n = omega arith
next_above Kind.Rmw b n = omega arith

-- what is complete stays complete where marks do
pub complete_marks : (V : ℕ → List ℕ) (old new : RegisterState) → ((k : Mark) → Marked old k → Marked new k) → (s : ℕ) → Complete V old s → Complete V new s
complete_marks V old new more s (e, c) = (
  e,
  record {
    some_epoch = c.some_epoch;
    all = λ n h. let k = c.all n h in record { mark = k.mark; marked = more k.mark k.marked; who = k.who; epoch = k.epoch; stamp = k.stamp };
    one = c.one;
    one_member = c.one_member;
    one_ready = let k = c.one_ready in record { mark = k.mark; marked = more k.mark k.marked; who = k.who; epoch = k.epoch; stamp = k.stamp; ready = k.ready };
  },
)

-- the item is of a call that was served in this state, or of no such call
abbrev pub Above : (ℕ → List ℕ) → RegisterState → Item → Type 0
Above V st (Called c s op) = (b : ℕ) → Complete V st b → b < s
Above V st (ReadOnly c s op held a) = (b : ℕ) → Complete V st b → b ≤ s
Above V st (Answered c s a) = ⊤
Above V st (Dropped c s a) = ⊤
Above V st (Rejected c op a) = ⊤

-- what was complete earlier is complete later
pub above_less : (U V : ℕ → List ℕ) (old new : RegisterState) → ((s : ℕ) → Complete U old s → Complete V new s) → (i : Item) → Above V new i → Above U old i
above_less U V old new grows (Called c s op) f = λ b d. f b (grows b d)
above_less U V old new grows (ReadOnly c s op held a) f = λ b d. f b (grows b d)
above_less U V old new grows (Answered c s a) f = tt
above_less U V old new grows (Dropped c s a) f = tt
above_less U V old new grows (Rejected c op a) f = tt

module _ (V : ℕ → List ℕ) where
  -- from one state to another, items of calls that were served in the first one
  pub record Goes (old new : RegisterState) : Type 0 where
    pub items : List Item
    pub history : new.history ≡ items ++ old.history
    pub grows : (s : ℕ) → Complete V old s → Complete V new s
    pub begun : (u : Update) → In old.begun u → In new.begun u
    pub above : (i : Item) → In items i → Above V old i

  answers_above : (st : RegisterState) (call : Option Reply) (s : ℕ) (i : Item) → In (answer_of call s) i → Above V st i
  answers_above st None s i h = absurd h
  answers_above st (Some r) s i (inl e) = subst (Above V st) (sym e) tt
  answers_above st (Some r) s i (inr h) = absurd h

  drops_above : (st : RegisterState) (call : Option Reply) (s : ℕ) (why : Answer) (i : Item) → In (drop_of call s why) i → Above V st i
  drops_above st None s why i h = absurd h
  drops_above st (Some r) s why i (inl e) = subst (Above V st) (sym e) tt
  drops_above st (Some r) s why i (inr h) = absurd h

  dropped_above : (st : RegisterState) (phase : Phase) (why : Answer) (i : Item) → In (dropped phase why) i → Above V st i
  dropped_above st Valid why i h = absurd h
  dropped_above st Invalid why i h = absurd h
  dropped_above st (Replay p) why i h = absurd h
  dropped_above st (Trans p) why i h = absurd h
  dropped_above st (Write p) why i h = by_kind p.kind h
    where
      by_kind : (k : Kind) → In (elim k [ Kind.Write ↦ [] | Kind.Rmw ↦ drop_of p.reply p.stamp why ]) i → Above V st i
      by_kind Kind.Write h = absurd h
      by_kind Kind.Rmw h = drops_above st p.reply p.stamp why i h

  effect_above : (st : RegisterState) → Parts V st → (e : Effect) → Allowed V st e → (i : Item) → In (done st e).items i → Above V st i
  effect_above st parts (Begin n u) a i (inl e) = subst (Above V st) (sym e) (λ b c.
      let fresh : b ≤ (st.node n).stamp = fresh_row V st parts n b a.0 a.2 c in
      let up : u.base < u.stamp = rw a.6 (next_above u.kind u.base n) in
      omega (arith, fresh, up, a.5))
  effect_above st parts (Begin n u) a i (inr h) = absurd h
  effect_above st parts (Serve n call op answer) a i (inl e) = subst (Above V st) (sym e) (λ b c. fresh_row V st parts n b a.0 a.2 c)
  effect_above st parts (Serve n call op answer) a i (inr h) = absurd h
  effect_above st parts (Refuse n call op answer) a i (inl e) = subst (Above V st) (sym e) tt
  effect_above st parts (Refuse n call op answer) a i (inr h) = absurd h
  effect_above st parts (TakeInv n m s kind content why) a i h = dropped_above st (st.node n).phase why i h
  effect_above st parts (Settle n p) a i h = answers_above st p.reply p.stamp i h
  effect_above st parts (FinishValid n p) a i h = answers_above st p.reply p.stamp i h
  effect_above st parts (FinishInvalid n p) a i h = answers_above st p.reply p.stamp i h
  effect_above st parts (AckInv n m s kind content) a i h = absurd h
  effect_above st parts (CounterInv n m s kind content) a i h = absurd h
  effect_above st parts (NoteAck n m top p notes) a i h = absurd h
  effect_above st parts (TakeVal n m) a i h = absurd h
  effect_above st parts (KeepVal n m) a i h = absurd h
  effect_above st parts (StartReplay n) a i h = absurd h
  effect_above st parts (Resend n p) a i h = absurd h
  effect_above st parts (Install n e) a i h = absurd h
  effect_above st parts (InstallPending n e p) a i h = absurd h
  effect_above st parts (GiveRow n valid) a i h = absurd h
  effect_above st parts (CopyRow n m s kind content valid) a i h = absurd h
  effect_above st parts (PassRow n m s kind content valid) a i h = absurd h
  effect_above st parts (CopyValid n m s kind content) a i h = absurd h
  effect_above st parts (GetReady n) a i h = absurd h
  effect_above st parts (Quiet n) a i h = absurd h

  pub effect_goes : (old new : RegisterState) → Parts V old → (e : Effect) → Happens V old e new → Goes old new
  effect_goes old new parts e happens = record {
    items = (done old e).items;
    history = happens.change.history;
    grows = complete_marks V old new happens.change.marks_kept;
    begun = λ u h. subst (λ (us : List Update). In us u) (sym happens.change.begun) (in_right (done old e).updates old.begun u h);
    above = effect_above old parts e happens.allowed;
  }

  pub both_go : (old mid new : RegisterState) → Goes old mid → Goes mid new → Goes old new
  both_go old mid new f g = record {
    items = g.items ++ f.items;
    history = g.history ∙ ap (λ (is : List Item). g.items ++ is) f.history ∙ sym (append_assoc g.items f.items old.history);
    grows = λ s c. g.grows s (f.grows s c);
    begun = λ u h. g.begun u (f.begun u h);
    above = λ i h.
        ⊎_elim
        (λ (k : In g.items i). above_less V V old mid f.grows i (g.above i k))
        (λ (k : In f.items i). f.above i k) (in_either g.items f.items i h);
  }

  pub effects_go : (old mid new : RegisterState) → Parts V old → (e d : Effect) → Happens V old e mid → Happens V mid d new → Goes old new
  effects_go old mid new parts e d h k = both_go old mid new (effect_goes old mid parts e h) (effect_goes mid new (effect_kept V old mid parts e h) d k)
