-- Laws that follow from the parts alone.
use Rattle.std.proofs.Common.{◌≡◌, ◌⊎◌, ℕ, zero, suc, List, ◌<◌, ◌≤◌, ◌∙◌, sym, refl, ap, subst, inl, inr, ⊎_elim, arith, le_of_eq}
use Rattle.std.proofs.lemmas.Bool.{cases_order, cases_lt}
use Rattle.hk_register.specs.Machine.{In, Marked, Mark, Update, RegisterState}
use Rattle.hk_base.specs.declared.stamp.Kind.{Kind}
use Rattle.hk_base.specs.declared.stamp.Kind.TheVariants as Kind
use Rattle.hk_register.specs.Facts.{Covers, Exact, ReadyCovers, ReadyExact, CompleteIn, SettledIn, Complete, Settled, Rests, PassesOver}
use Rattle.hk_register.specs.Effects.{next_stamp}
use Rattle.hk_register.specs.Parts.{MarkBegun, Parts}
use Rattle.hk_register.proofs.Helps.{complete_of, cover_of}

module _ (V : ℕ → List ℕ) (st : RegisterState) (parts : Parts V st) where
  pub above_base : (u : Update) → In st.begun u → u.base < u.stamp
  above_base u begun = rw ((parts.updates u begun).next) (up u.kind u.base u.who)
    where
      up : (kind : Kind) (b n : ℕ) → b < next_stamp kind b n
      up Kind.Write b n = omega arith
      up Kind.Rmw b n = omega arith

  the_begun : (u : Update) → In st.begun u → (k : Mark) → Marked st k → k.stamp ≡ u.stamp → (b : MarkBegun V st k) × (b.update ≡ u)
  the_begun u begun k marked same =
      ⊎_elim
      (λ (zero_is : k.stamp ≡ 0). let up = above_base u begun in absurd (omega arith))
      (λ (b : MarkBegun V st k). (b, parts.once b.update u b.begun begun (b.stamp ∙ same))) (parts.marks k marked).begun

  pub member_passes : (u : Update) → In st.begun u → (n e f : ℕ) → Covers st n f u.stamp → 1 ≤ e → e ≤ f → PassesOver V st e u.base u.stamp
  member_passes u begun n e f c one upto =
      let b = the_begun u begun c.mark c.marked c.stamp in
      subst (λ (v : Update). PassesOver V st e v.base v.stamp) b.1 (b.0.over e one (rw c.epoch upto))

  pub base_not_below : (u : Update) → In st.begun u → (s e n f : ℕ) → SettledIn V st s e → Covers st n f u.stamp → e ≤ f → s < u.stamp → s ≤ u.base
  base_not_below u begun s e n f settled c upto below =
      let p = member_passes u begun n e f c settled.some_epoch upto in
      let x = settled.all p.who p.member in
      ⊎_elim
      (λ (low : x.mark.stamp ≤ u.base). omega (arith, x.stamp))
      (λ (high : u.stamp ≤ x.mark.stamp). absurd (omega (arith, x.stamp))) (p.over x.mark x.marked x.who x.epoch x.exact)

  -- what was complete in an earlier epoch is not above a row that a ready node had later
  below_later : (s e u f n : ℕ) → ReadyExact st n e s → CompleteIn V st u f → f < e → u ≤ s
  below_later s e u f n x c below =
      let b = (parts.marks x.mark x.marked).bound x.exact x.ready f c.some_epoch (rw x.epoch below) in
      let k = c.all b.who b.member in
      let top = b.tops k.mark k.marked k.who (le_of_eq k.epoch) in
      omega (arith, k.stamp, x.stamp)

  -- a settled stamp and a complete update above it
  pub settled_below : (u : Update) → In st.begun u → (s : ℕ) → Settled V st s → Complete V st u.stamp → s < u.stamp → s ≤ u.base
  settled_below u begun s (e, settled) (f, c) below =
      ⊎_elim
      (λ (earlier : f < e). let low = below_later s e u.stamp f settled.one settled.one_ready c earlier in absurd (omega arith))
      (λ (later : e ≤ f). base_not_below u begun s e c.one f settled (cover_of V c.one_ready) later below) (cases_lt f e)

  rmw_exact : (u : Update) → In st.begun u → u.kind ≡ Kind.Rmw → (n e : ℕ) → Covers st n e u.stamp → Exact st n e u.stamp
  rmw_exact u begun rmw n e c =
      let b = the_begun u begun c.mark c.marked c.stamp in
      let t = b.0.rmw (ap (λ (v : Update). v.kind) b.1 ∙ rmw) in
      record { mark = t.mark; marked = t.marked; who = t.who ∙ c.who; epoch = t.epoch ∙ c.epoch; stamp = t.stamp ∙ c.stamp; exact = t.exact }

  rmw_ready_exact : (u : Update) → In st.begun u → u.kind ≡ Kind.Rmw → (n e : ℕ) → ReadyCovers st n e u.stamp → ReadyExact st n e u.stamp
  rmw_ready_exact u begun rmw n e c =
      let b = the_begun u begun c.mark c.marked c.stamp in
      let t = b.0.rmw (ap (λ (v : Update). v.kind) b.1 ∙ rmw) in
      record { mark = t.mark; marked = t.marked; who = t.who ∙ c.who; epoch = t.epoch ∙ c.epoch; stamp = t.stamp ∙ c.stamp; exact = t.exact; ready = t.ready c.ready }

  -- a complete read-modify-write is settled
  pub rmw_settled : (u : Update) → In st.begun u → u.kind ≡ Kind.Rmw → Complete V st u.stamp → Settled V st u.stamp
  rmw_settled u begun rmw (e, c) = (e, record { some_epoch = c.some_epoch; all = λ n h. rmw_exact u begun rmw n e (c.all n h); one = c.one; one_member = c.one_member; one_ready = rmw_ready_exact u begun rmw c.one e c.one_ready })

  pub not_both : (u v : Update) → In st.begun u → In st.begun v → u.kind ≡ Kind.Rmw → u.base ≡ v.base → u.stamp < v.stamp → Complete V st u.stamp → Complete V st v.stamp → ⊥
  not_both u v begun begun' rmw same below c c' =
      let low = settled_below v begun' u.stamp (rmw_settled u begun rmw c) c' below in
      let up = above_base u begun in
      omega arith

  pub one_complete : (u v : Update) → In st.begun u → In st.begun v → u.kind ≡ Kind.Rmw → v.kind ≡ Kind.Rmw → u.base ≡ v.base → Complete V st u.stamp → Complete V st v.stamp → u ≡ v
  one_complete u v begun begun' rmw rmw' same c c' = ⊎_elim
      (λ (stamp : u.stamp ≡ v.stamp). parts.once u v begun begun' stamp)
      (λ (h : (u.stamp < v.stamp) ⊎ (v.stamp < u.stamp)).
      ⊎_elim
      (λ (l : u.stamp < v.stamp). absurd (not_both u v begun begun' rmw same l c c'))
      (λ (l : v.stamp < u.stamp). absurd (not_both v u begun' begun rmw' (sym same) l c' c)) h) (cases_order u.stamp v.stamp)

  rests_below : (u : Update) → In st.begun u → (s : ℕ) → Rests V st s → Complete V st u.stamp → s < u.stamp → s ≤ u.base
  rests_below u begun s (inl zero_is) c below = omega arith
  rests_below u begun s (inr settled) c below = settled_below u begun s settled c below

  -- the one that stands between is a read-modify-write too
  between_steps : (j k : Kind) (b n w s r : ℕ) → n < 65536 → w < 65536 → s ≡ next_stamp j b n → r ≡ next_stamp k b w → k ≡ Kind.Rmw → s < r → j ≡ Kind.Rmw
  between_steps Kind.Rmw k b n w s r p q is is' rmw below = refl
  between_steps Kind.Write Kind.Write b n w s r p q is is' rmw below = cc
  between_steps Kind.Write Kind.Rmw b n w s r p q is is' rmw below = absurd (omega arith)

  pub the_update : (s : ℕ) → Complete V st s → (s ≡ 0) ⊎ ((u : Update) × In st.begun u × (u.stamp ≡ s))
  the_update s (e, c) =
      let k = c.one_ready in
      ⊎_elim
      (λ (zero_is : k.mark.stamp ≡ 0). inl (sym k.stamp ∙ zero_is))
      (λ (b : MarkBegun V st k.mark). inr (b.update, b.begun, b.stamp ∙ k.stamp)) (parts.marks k.mark k.marked).begun

  pub none_between : (fuel : ℕ) (r : Update) → In st.begun r → r.kind ≡ Kind.Rmw → Complete V st r.stamp → (u : Update) → In st.begun u → Complete V st u.stamp → r.base < u.stamp → u.stamp < r.stamp → u.stamp ≤ fuel → ⊥
  none_between zero r begun rmw c u begun' c' above below within = omega arith
  none_between (suc fuel) r begun rmw c u begun' c' above below within =
      let o = parts.updates u begun' in
      let q = parts.updates r begun in
      let not_below : r.base ≤ u.base = rests_below u begun' r.base q.base c' above in
      let up = above_base u begun' in
      ⊎_elim
      (λ (same : r.base ≡ u.base).
      let kind : u.kind ≡ Kind.Rmw = between_steps u.kind r.kind u.base u.who r.who u.stamp r.stamp o.node q.node o.next (rw same at q.next) rmw below in
      not_both u r begun' begun kind (sym same) below c' c)
      (λ (h : (r.base < u.base) ⊎ (u.base < r.base)).
      ⊎_elim
      (λ (higher : r.base < u.base).
      ⊎_elim
      (λ (zero_is : u.base ≡ 0). omega arith)
      (λ (settled : Settled V st u.base).
      ⊎_elim
      (λ (zero_is : u.base ≡ 0). omega arith)
      (λ (v : (v : Update) × In st.begun v × (v.stamp ≡ u.base)).
      none_between fuel r begun rmw c v.0 v.1 (rw v.2 (complete_of V st settled)) (rw v.2 higher) (rw v.2 (omega arith)) (rw v.2 (omega arith))) (the_update u.base (complete_of V st settled))) o.base)
      (λ (lower : u.base < r.base). omega arith) h) (cases_order r.base u.base)
