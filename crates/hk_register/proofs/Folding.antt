-- The printed order fits.
use Rattle.std.proofs.Common.{◌≡◌, ◌⊎◌, ℕ, zero, suc, true, List, [], ◌∷◌, ◌<◌, ◌≤◌, ◌∙◌, sym, refl, ap, subst, inl, inr, ⊎_elim, arith, Option, Some, None, unwrap_or, le_refl, eq-zero-or-pos}
use Rattle.std.proofs.lemmas.Bool.{false≢true, cases_lt, cases_order}
use Rattle.hk_base.specs.declared.stamp.Kind.{Kind}
use Rattle.hk_base.specs.declared.stamp.Kind.TheVariants as Kind
use Rattle.hk_base.specs.declared.call.Op.{Op}
use Rattle.hk_base.specs.declared.call.Answer.{Answer}
use Rattle.hk_base.specs.declared.call.Answer.TheVariants.{Busy, Aborted, Exhausted}
use Rattle.hk_base.specs.declared.call.Content.{Content}
use Rattle.hk_base.specs.Register.{Register, Acted, first, act, stays}
use Rattle.hk_history.specs.declared.event.Event.{Event}
use Rattle.hk_history.specs.History.{op_of, answer_of, is_unsure, is_answered}
use Rattle.hk_history.specs.Legal.{FitsCall, FitsFrom}
use Rattle.hk_register.specs.Machine.{In, Update, Item, RegisterState, call_of}
use Rattle.hk_register.specs.Machine.Item.{Called, Answered, Dropped, ReadOnly, Rejected}
use Rattle.hk_register.specs.Facts.{Complete, Settled}
use Rattle.hk_register.specs.Effects.{IsBlind, register_of}
use Rattle.hk_register.specs.Parts.{Known, Holds, Parts}
use Rattle.hk_register.specs.Calls.{IsStart, CallItem, CallParts}
use Rattle.hk_register.proofs.Helps.{complete_of}
use Rattle.hk_register.proofs.Orders.{above_base, the_update, none_between}
use Rattle.hk_register.proofs.Calls.{one_start, own_call}
use Rattle.hk_register.specs.Printed.{Slot, entries, tag_at, Below, Sorted, update_slot, StandsAt, IsPrinted, events_of}
use Rattle.hk_register.proofs.Histories.{op_is, answer_is, MaybeReplier, replier, AnswerIn}

pub unlike : (a : Answer) → is_answered (Some a) ≡ true → is_unsure (Some a) ≡ true → ⊥
unlike (Busy w) e f = false≢true e
unlike (Aborted s) e f = false≢true e
unlike (Exhausted s) e f = false≢true e
unlike a e f = false≢true f

pub stands_in : (items : List Item) (k : ℕ) (j : Item) → StandsAt items k j → In items j
stands_in [] k j h = absurd h
stands_in (i ∷ items) k j (inl e) = inl e.0
stands_in (i ∷ items) k j (inr h) = inr (stands_in items k j h)

module _ (V : ℕ → List ℕ) (st : RegisterState) (parts : Parts V st) (cp : CallParts st) (slots : List Slot) (pr : IsPrinted V st slots) where
  -- where the fold stands: at a stamp whose register has this content, with all updates above it still to come
  record At (rest : List Slot) (s : ℕ) (c : Option Content) : Type 0 where
    stands : (s ≡ 0) × (c ≡ None) ⊎ ((v : Update) × In st.begun v × Complete V st v.stamp × (v.stamp ≡ s) × (v.content ≡ c))
    within : (v : Slot) → In rest v → In slots v
    ahead : (v : Slot) → In rest v → s ≤ v.stamp
    ahead_update : (v : Slot) → In rest v → v.place ≡ 0 → s < v.stamp
    behind : (u : Update) → In st.begun u → Complete V st u.stamp → s < u.stamp → In rest (update_slot u)

  below_stamp : (a b : Slot) → Below a b → a.stamp ≤ b.stamp
  below_stamp a b below = ⊎_elim (λ (l : a.stamp < b.stamp). omega arith) (λ (l : (a.stamp ≡ b.stamp) × (a.place < b.place)). omega (arith, l.0)) below

  below_update : (a b : Slot) → Below a b → b.place ≡ 0 → a.stamp < b.stamp
  below_update a b below is = ⊎_elim (λ (l : a.stamp < b.stamp). l) (λ (l : (a.stamp ≡ b.stamp) × (a.place < b.place)). absurd (omega (arith, l.1))) below

  -- the register of a stamp is one
  same_content : (rest : List Slot) (s : ℕ) (c : Option Content) → At rest s c → (kind : Kind) (b : Option Content) (t : ℕ) → Holds st t kind b → t ≡ s → b ≡ c
  same_content rest s c at kind b t held at_s =
      ⊎_elim
      (λ (zero_is : (t ≡ 0) × (b ≡ None)).
      ⊎_elim
      (λ (z : (s ≡ 0) × (c ≡ None)). zero_is.1 ∙ sym z.1)
      (λ (v : (v : Update) × In st.begun v × Complete V st v.stamp × (v.stamp ≡ s) × (v.content ≡ c)). let up = above_base V st parts v.0 v.1 in absurd (omega (arith, v.3, zero_is.0))) at.stands)
      (λ (k : Known st t kind b).
      ⊎_elim
      (λ (z : (s ≡ 0) × (c ≡ None)). let up = above_base V st parts k.update k.begun in absurd (omega (arith, k.stamp, z.0)))
      (λ (v : (v : Update) × In st.begun v × Complete V st v.stamp × (v.stamp ≡ s) × (v.content ≡ c)).
      let same = parts.once k.update v.0 k.begun v.1 (k.stamp ∙ at_s ∙ sym v.3) in
      sym k.same_content ∙ ap (λ (w : Update). w.content) same ∙ v.4) at.stands) held

  -- the base of a read-modify-write is where the fold stands
  base_here : (u : Update) (us : List Slot) (s : ℕ) (c : Option Content) → Sorted (update_slot u ∷ us) → At (update_slot u ∷ us) s c → In st.begun u → Complete V st u.stamp → s < u.stamp → u.kind ≡ Kind.Rmw → u.base ≡ s
  base_here u us s c sorted at begun done up rmw =
      let o = parts.updates u begun in
      let low = above_base V st parts u begun in
      ⊎_elim
      (λ (same : u.base ≡ s). same)
      (λ (h : (u.base < s) ⊎ (s < u.base)).
      ⊎_elim
      (λ (lower : u.base < s).
      ⊎_elim
      (λ (z : (s ≡ 0) × (c ≡ None)). absurd (omega (arith, z.0)))
      (λ (v : (v : Update) × In st.begun v × Complete V st v.stamp × (v.stamp ≡ s) × (v.content ≡ c)).
      absurd (none_between V st parts v.0.stamp u begun rmw done v.0 v.1 v.2 (omega (arith, v.3)) (omega (arith, v.3)) (le_refl v.0.stamp))) at.stands)
      (λ (higher : s < u.base).
      ⊎_elim
      (λ (z : u.base ≡ 0). absurd (omega arith))
      (λ (settled : Settled V st u.base).
      ⊎_elim
      (λ (z : u.base ≡ 0). absurd (omega arith))
      (λ (v : (v : Update) × In st.begun v × (v.stamp ≡ u.base)).
      let there = at.behind v.0 v.1 (rw v.2 (complete_of V st settled)) (rw v.2 higher) in
      ⊎_elim
      (λ (e : update_slot v.0 ≡ update_slot u). let same = ap (λ (w : Slot). w.stamp) e in absurd (omega (arith, v.2)))
      (λ (h : In us (update_slot v.0)). let b = below_stamp (update_slot u) (update_slot v.0) (sorted.0 (update_slot v.0) h) in absurd (omega (arith, v.2))) there) (the_update V st parts u.base (complete_of V st settled))) o.base) h) (cases_order u.base s)

  -- an update that is answered has its own answer
  own_answer : (u : Update) → In st.begun u → (o : Option Answer) → MaybeReplier st.history u.call o → is_answered o ≡ true → o ≡ Some u.answer
  own_answer u begun None r e = absurd (false≢true e)
  own_answer u begun (Some a) r e = by_item r.item (cp.items r.item r.there) r.there r.call r.answer
    where
      clash : (x y : Item) → x ≡ y → IsStart x → (c s : ℕ) (op : Op) → x ≡ Called c s op → (d k : ℕ) (p : Op) (held : Option Content) (b : Answer) → (y ≡ ReadOnly d k p held b) ⊎ (y ≡ Rejected d p b) → ⊥
      clash x y e st c s op is d k p held b (inl f) = cc
      clash x y e st c s op is d k p held b (inr f) = cc

      by_item : (i : Item) → CallItem st i → In st.history i → call_of i ≡ u.call → AnswerIn i a → Some a ≡ Some u.answer
      by_item (Called c s op) w h call is = absurd is
      by_item (Answered c s b) w h call is = let same = own_call V st parts cp w.0 u w.1 begun (w.2 ∙ call) in ap (λ (x : Answer). Some x) (sym is ∙ (sym w.4 ∙ ap (λ (v : Update). v.answer) same))
      by_item (Dropped c s b) w h call is = absurd (unlike a e (subst (λ (x : Answer). is_unsure (Some x) ≡ true) is w.1))
      by_item (ReadOnly c s op held b) w h call is = absurd (clash (Called u.call u.stamp u.op) (ReadOnly c s op held b) (one_start st.history cp.starts (Called u.call u.stamp u.op) (ReadOnly c s op held b) (cp.called u begun) h tt tt (sym call)) tt u.call u.stamp u.op refl c s op held b (inl refl))
      by_item (Rejected c op b) w h call is = absurd (clash (Called u.call u.stamp u.op) (Rejected c op b) (one_start st.history cp.starts (Called u.call u.stamp u.op) (Rejected c op b) (cp.called u begun) h tt tt (sym call)) tt u.call u.stamp u.op refl c 0 op None b (inr refl))

  -- one entry, where the operation is known
  entry_fits : (h : List Event) (r : Register) (call : ℕ) (tag : Option ℕ) (more : List Rattle.hk_history.specs.declared.event.Entry.Entry) (op : Op) → op_of h call ≡ Some op → FitsCall (answer_of h call) tag (act op r (unwrap_or tag 0)) → FitsFrom h (act op r (unwrap_or tag 0)).register more →
      FitsFrom h r (record { call = record { 0 = call }; tag = tag } ∷ more)
  entry_fits h r call tag more op is fits rest = rw is (fits, rest)

  fits : (rest : List Slot) (s : ℕ) (c : Option Content) → Sorted rest → At rest s c → FitsFrom (events_of st.history) (register_of c s) (entries rest)
  fits [] s c sorted at = tt
  fits (x ∷ us) s c sorted at = ⊎_elim (update (λ t d. fits us t d sorted.1)) (look (fits us s c sorted.1)) (eq-zero-or-pos x.place)
    where
      mine : In slots x
      mine = at.within x (inl refl)

      update : ((t : ℕ) (d : Option Content) → At us t d → FitsFrom (events_of st.history) (register_of d t) (entries us)) → x.place ≡ 0 → FitsFrom (events_of st.history) (register_of c s) (entries (x ∷ us))
      update more is =
          let f = pr.update x mine is in
          let up = at.ahead_update x (inl refl) is in
          subst (λ (y : Slot). FitsFrom (events_of st.history) (register_of c s) (entries (y ∷ us))) (sym f.3)
          (of_update f.0 f.1 f.2 (subst (λ (y : Slot). Sorted (y ∷ us)) f.3 sorted) (subst (λ (y : Slot). At (y ∷ us) s c) f.3 at) (subst (λ (y : Slot). s < y.stamp) f.3 up) more)
        where
          of_update : (u : Update) → In st.begun u → Complete V st u.stamp → Sorted (update_slot u ∷ us) → At (update_slot u ∷ us) s c → s < u.stamp → ((t : ℕ) (d : Option Content) → At us t d → FitsFrom (events_of st.history) (register_of d t) (entries us)) → FitsFrom (events_of st.history) (register_of c s) (entries (update_slot u ∷ us))
          of_update u begun done sorted at up more =
              let made = (parts.updates u begun).made in
              let a = act u.op (register_of c s) u.stamp in
              let b = act u.op (register_of made.base_content u.base) u.stamp in
              let same : a ≡ b = by_kind u.kind refl made.base_kind made.base_content made.holds made.blind in
              let changed : a.changed ≡ true = ap (λ (z : Acted). z.changed) same ∙ made.changes.changed in
              let answer : a.answer ≡ u.answer = ap (λ (z : Acted). z.answer) same ∙ made.changes.answer in
              let register : a.register ≡ register_of u.content u.stamp = ap (λ (z : Acted). z.register) same ∙ made.changes.register in
              let next : At us u.stamp u.content = record {
                stands = inr (u, begun, done, refl, refl);
                within = λ v h. at.within v (inr h);
                ahead = λ v h. below_stamp (update_slot u) v (sorted.0 v h);
                ahead_update = λ v h i. below_update (update_slot u) v (sorted.0 v h) i;
                behind = λ v h d above. ⊎_elim (λ (e : update_slot v ≡ update_slot u). let z = ap (λ (w : Slot). w.stamp) e in absurd (omega arith)) (λ (t : In us (update_slot v)). t) (at.behind v h d (omega arith));
              } in
              entry_fits (events_of st.history) (register_of c s) u.call (Some u.stamp) (entries us) u.op (op_is st.history cp.starts (Called u.call u.stamp u.op) u.op (cp.called u begun) refl)
              (record {
                answered = λ e. own_answer u begun (answer_of (events_of st.history) u.call) (replier st.history u.call) e ∙ ap (λ (z : Answer). Some z) (sym answer);
                unsure = λ e. changed;
                tagged = sym changed;
              }) (subst (λ (g : Register). FitsFrom (events_of st.history) g (entries us)) (sym register) (more u.stamp u.content next))
            where
              by_kind : (k : Kind) → u.kind ≡ k → (bk : Kind) (bc : Option Content) → Holds st u.base bk bc → (u.kind ≡ Kind.Write → IsBlind u.op) → act u.op (register_of c s) u.stamp ≡ act u.op (register_of bc u.base) u.stamp
              by_kind Kind.Write e bk bc holds blind = blind e (register_of c s) (register_of bc u.base) u.stamp
              by_kind Kind.Rmw e bk bc holds blind =
                  let here = base_here u us s c sorted at begun done up e in
                  let held = same_content (update_slot u ∷ us) s c at bk bc u.base holds here in
                  rw (held, here) refl

      look : (At us s c → FitsFrom (events_of st.history) (register_of c s) (entries us)) → 0 < x.place → FitsFrom (events_of st.history) (register_of c s) (entries (x ∷ us))
      look more pos =
          let there = stands_in st.history x.place (ReadOnly x.call x.stamp x.op x.content x.answer) (pr.look x mine pos) in
          let o = parts.items (ReadOnly x.call x.stamp x.op x.content x.answer) there in
          let not_update : (v : Slot) → v.place ≡ 0 → v ≡ x → ⊥ = λ v i e. let z = ap (λ (w : Slot). w.place) e in omega (arith, z, i) in
          let here : x.stamp ≡ s =
          ⊎_elim
          (λ (below : s < x.stamp).
          ⊎_elim
          (λ (z : x.stamp ≡ 0). absurd (omega arith))
          (λ (settled : Settled V st x.stamp).
          ⊎_elim
          (λ (z : x.stamp ≡ 0). absurd (omega arith))
          (λ (v : (v : Update) × In st.begun v × (v.stamp ≡ x.stamp)).
          ⊎_elim
          (λ (e : update_slot v.0 ≡ x). absurd (not_update (update_slot v.0) refl e))
          (λ (h : In us (update_slot v.0)). let l = below_update x (update_slot v.0) (sorted.0 (update_slot v.0) h) refl in absurd (omega (arith, v.2)))
          (at.behind v.0 v.1 (rw v.2 (complete_of V st settled)) (rw v.2 below))) (the_update V st parts x.stamp (complete_of V st settled))) o.0)
          (λ (upto : x.stamp ≤ s). let l = at.ahead x (inl refl) in omega arith) (cases_lt s x.stamp) in
          let held : x.content ≡ c = same_content (x ∷ us) s c at o.1 x.content x.stamp o.2 here in
          let stay : act x.op (register_of c s) 0 ≡ stays x.answer (register_of c s) = subst (λ (d : Option Content). act x.op (register_of d s) 0 ≡ stays x.answer (register_of d s)) held (subst (λ (t : ℕ). act x.op (register_of x.content t) 0 ≡ stays x.answer (register_of x.content t)) here (o.3 0)) in
          let told : answer_of (events_of st.history) x.call ≡ Some x.answer = answer_is st.history cp.replies (ReadOnly x.call x.stamp x.op x.content x.answer) x.answer there refl in
          let is_told = cp.items (ReadOnly x.call x.stamp x.op x.content x.answer) there in
          let next : At us s c = record {
            stands = at.stands;
            within = λ v h. at.within v (inr h);
            ahead = λ v h. at.ahead v (inr h);
            ahead_update = λ v h i. at.ahead_update v (inr h) i;
            behind = λ v h d above. ⊎_elim (λ (e : update_slot v ≡ x). absurd (not_update (update_slot v) refl e)) (λ (t : In us (update_slot v)). t) (at.behind v h d above);
          } in
          let no_tag : tag_at x.place x.stamp ≡ None = untagged x.place x.stamp pos in
          subst (λ (o : Option ℕ). FitsFrom (events_of st.history) (register_of c s) (record { call = record { 0 = x.call }; tag = o } ∷ entries us)) (sym no_tag)
          (entry_fits (events_of st.history) (register_of c s) x.call None (entries us) x.op (op_is st.history cp.starts (ReadOnly x.call x.stamp x.op x.content x.answer) x.op there refl)
          (record {
            answered = λ e. told ∙ ap (λ (z : Acted). Some z.answer) (sym stay);
            unsure = λ e. absurd (unlike x.answer is_told (subst (λ (o : Option Answer). is_unsure o ≡ true) told e));
            tagged = sym (ap (λ (z : Acted). z.changed) stay);
          }) (subst (λ (g : Register). FitsFrom (events_of st.history) g (entries us)) (sym (ap (λ (z : Acted). z.register) stay)) (more next)))
        where
          untagged : (k s : ℕ) → 0 < k → tag_at k s ≡ None
          untagged zero s h = absurd (omega arith)
          untagged (suc k) s h = refl

  start : At slots 0 None
  start = record {
    stands = inl (refl, refl);
    within = λ v h. h;
    ahead = λ v h. omega arith;
    ahead_update = λ v h i. let f = pr.update v h i in let up = above_base V st parts f.0 f.1 in let z = ap (λ (w : Slot). w.stamp) f.3 in omega arith;
    behind = λ u h d above. pr.updates u h d;
  }

  pub all_fits : FitsFrom (events_of st.history) first (entries slots)
  all_fits = fits slots 0 None pr.sorted start
