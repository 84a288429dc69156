-- What it is to read a language exactly, and that two such readers, one behind the other, read what the two make.
use Rattle.std.proofs.Common.{◌≡◌, ℕ, suc, ◌<◌, List, [], ◌∷◌, ◌++◌, length, refl, ap, ◌∙◌, sym, arith, subst, ◌⊎◌, inl, inr, append_assoc}
use Rattle.std.specs.Prelude.{Result, Ok, Err}
use Rattle.hk_reply.specs.declared.scan.Stop.{Stop}
use Rattle.hk_reply.specs.declared.scan.Stop.TheVariants.{Need, Bad}
use Rattle.hk_reply.specs.Scans.{◌>>=◌}
use Rattle.hk_reply.specs.Stops.{Begins, StopsAt}

-- below a length of the bytes: what is found is in the language, more is needed only within a text of it, a byte is
-- bad exactly where no text goes on, and what is in the language is found, whatever follows
pub record IsExactBelow {A : Type 0} (n : ℕ) (L : A → List ℕ → Type 0) (scan : List ℕ → Result (A × List ℕ) Stop) : Type 0 where
  pub found : (bs : List ℕ) (a : A) (rest : List ℕ) → length bs < n → scan bs ≡ Ok (a, rest) → (text : List ℕ) × L a text × (bs ≡ text ++ rest)
  pub need : (bs : List ℕ) → length bs < n → scan bs ≡ Err Need → Begins L bs
  pub bad : (bs : List ℕ) (left : ℕ) → length bs < n → scan bs ≡ Err (Bad left) → StopsAt L bs left
  pub again : (a : A) (text rest : List ℕ) → length (text ++ rest) < n → L a text → scan (text ++ rest) ≡ Ok (a, rest)

abbrev pub IsExact : {A : Type 0} → (A → List ℕ → Type 0) → (List ℕ → Result (A × List ℕ) Stop) → Type 0
IsExact L scan = (n : ℕ) → IsExactBelow n L scan

-- one text behind the other
pub record Seq {A B : Type 0} (L : A → List ℕ → Type 0) (M : A → B → List ℕ → Type 0) (b : B) (text : List ℕ) : Type 0 where
  pub value : A
  pub first : List ℕ
  pub second : List ℕ
  pub is_first : L value first
  pub is_second : M value b second
  pub whole : text ≡ first ++ second

pub bind_ok : {A B : Type 0} (r : Result A Stop) (f : A → Result B Stop) (y : B) → (r >>= f) ≡ Ok y → (x : A) × (r ≡ Ok x) × (f x ≡ Ok y)
bind_ok (Ok x) f y h = (x, refl, h)
bind_ok (Err e) f y h = absurd (cc)

pub bind_err : {A B : Type 0} (r : Result A Stop) (f : A → Result B Stop) (e : Stop) → (r >>= f) ≡ Err e → (r ≡ Err e) ⊎ ((x : A) × (r ≡ Ok x) × (f x ≡ Err e))
bind_err (Ok x) f e h = inr (x, refl, h)
bind_err (Err d) f e h = inl (cc)

cons_same : (x y : ℕ) (xs ys : List ℕ) → x ∷ xs ≡ y ∷ ys → (x ≡ y) × (xs ≡ ys)
cons_same x y xs ys h = (cc, cc)

-- of two fronts of a list one is a front of the other
pub fronts : (xs ys zs ws : List ℕ) → xs ++ ys ≡ zs ++ ws → ((u : List ℕ) × (zs ≡ xs ++ u)) ⊎ ((u : List ℕ) × (xs ≡ zs ++ u))
fronts [] ys zs ws h = inl (zs, refl)
fronts (x ∷ xs) ys [] ws h = inr (x ∷ xs, refl)
fronts (x ∷ xs) ys (z ∷ zs) ws h =
    let c = cons_same x z (xs ++ ys) (zs ++ ws) h in
    elim (fronts xs ys zs ws c.1) [ inl p ↦ inl (p.0, rw (c.0, p.1) refl) | inr p ↦ inr (p.0, rw (c.0, p.1) refl) ]

ok_inj : {A : Type 0} (r : Result A Stop) (p q : A) → r ≡ Ok p → r ≡ Ok q → p ≡ q
ok_inj r p q h k = cc

pair_is : {A : Type 0} (p q : A × List ℕ) → p ≡ q → (p.0 ≡ q.0) × (p.1 ≡ q.1)
pair_is p q e = (ap (λ x. x.0) e, ap (λ x. x.1) e)

ok_is : {A : Type 0} (r : Result (A × List ℕ) Stop) (a b : A) (xs ys : List ℕ) → r ≡ Ok (a, xs) → r ≡ Ok (b, ys) → (a ≡ b) × (xs ≡ ys)
ok_is r a b xs ys h k = pair_is (a, xs) (b, ys) (ok_inj r (a, xs) (b, ys) h k)

pub ok_not_err : {A : Type 0} (r : Result A Stop) (x : A) (e : Stop) → r ≡ Ok x → r ≡ Err e → ⊥
ok_not_err r x e h k = cc

pub goes_first : {A B : Type 0} (L : A → List ℕ → Type 0) (M : A → B → List ℕ → Type 0) → ((a : A) (t : List ℕ) → L a t → Begins (M a) []) → (bs : List ℕ) → Begins L bs → Begins (Seq L M) bs
goes_first L M live bs g = let l = live g.0 (bs ++ g.1) g.2 in (l.0, g.1 ++ l.1, record { value = g.0; first = bs ++ g.1; second = l.1; is_first = g.2; is_second = l.2; whole = sym (append_assoc bs g.1 l.1) })

pub goes_second : {A B : Type 0} (L : A → List ℕ → Type 0) (M : A → B → List ℕ → Type 0) (a : A) (t bs : List ℕ) → L a t → Begins (M a) bs → Begins (Seq L M) (t ++ bs)
goes_second L M a t bs l g = (g.0, g.1, record { value = a; first = t; second = bs ++ g.1; is_first = l; is_second = g.2; whole = append_assoc t bs g.1 })

-- no text of two goes on where the first does not
ends_first : {A B : Type 0} (L : A → List ℕ → Type 0) (M : A → B → List ℕ → Type 0) (s : List ℕ → Result (A × List ℕ) Stop) → IsExact L s → (bs : List ℕ) (left : ℕ) → s bs ≡ Err (Bad left) → (st : StopsAt L bs left) → Begins (Seq L M) (st.front ++ st.bad ∷ []) → ⊥
ends_first L M s e bs left h st g = elim (fronts (st.front ++ st.bad ∷ []) g.1 g.2.first g.2.second g.2.whole) [ inl p ↦ st.ends (g.2.value, p.0, subst (λ t. L g.2.value t) p.1 g.2.is_first) | inr p ↦ ok_not_err (s bs) (g.2.value, p.0 ++ st.back) (Bad left) (subst (λ x. s x ≡ Ok (g.2.value, p.0 ++ st.back)) (sym (same p.0 p.1)) ((e (suc (length (g.2.first ++ (p.0 ++ st.back))))).again g.2.value g.2.first (p.0 ++ st.back) (omega arith) g.2.is_first)) h ]
  where
    same : (u : List ℕ) → st.front ++ st.bad ∷ [] ≡ g.2.first ++ u → bs ≡ g.2.first ++ (u ++ st.back)
    same u k = st.is ∙ sym (append_assoc st.front (st.bad ∷ []) st.back) ∙ ap (λ x. x ++ st.back) k ∙ append_assoc g.2.first u st.back

-- a text that was read is read in every other text that begins so
same_first : {A : Type 0} (L : A → List ℕ → Type 0) (s : List ℕ → Result (A × List ℕ) Stop) → IsExact L s → (a b : A) (t u xs ys : List ℕ) → L a t → L b u → t ++ xs ≡ u ++ ys → (a ≡ b) × (xs ≡ ys)
same_first L s e a b t u xs ys l m h =
    let p : s (t ++ xs) ≡ Ok (a, xs) = (e (suc (length (t ++ xs)))).again a t xs (omega arith) l in
    let q : s (u ++ ys) ≡ Ok (b, ys) = (e (suc (length (u ++ ys)))).again b u ys (omega arith) m in
    ok_is (s (t ++ xs)) a b xs ys p (ap s h ∙ q)

-- no text of two goes on where the second does not
ends_second : {A B : Type 0} (L : A → List ℕ → Type 0) (M : A → B → List ℕ → Type 0) (s : List ℕ → Result (A × List ℕ) Stop) → IsExact L s → (a : A) (t rest : List ℕ) (left : ℕ) → L a t → (st : StopsAt (M a) rest left) → Begins (Seq L M) ((t ++ st.front) ++ st.bad ∷ []) → ⊥
ends_second L M s e a t rest left l st g =
    let x = same_first L s e a g.2.value t g.2.first ((st.front ++ st.bad ∷ []) ++ g.1) g.2.second l g.2.is_first (regrouped ∙ g.2.whole) in
    st.ends (g.0, g.1, subst (λ z. M z g.0 ((st.front ++ st.bad ∷ []) ++ g.1)) (sym x.0) (subst (λ z. M g.2.value g.0 z) (sym x.1) g.2.is_second))
  where
    regrouped : t ++ ((st.front ++ st.bad ∷ []) ++ g.1) ≡ ((t ++ st.front) ++ st.bad ∷ []) ++ g.1
    regrouped = sym (append_assoc t (st.front ++ st.bad ∷ []) g.1) ∙ ap (λ x. x ++ g.1) (sym (append_assoc t st.front (st.bad ∷ [])))

pub seq : {A B : Type 0} (n m : ℕ) (L : A → List ℕ → Type 0) (M : A → B → List ℕ → Type 0) (s : List ℕ → Result (A × List ℕ) Stop) (f : A → List ℕ → Result (B × List ℕ) Stop) → IsExact L s → ((a : A) → IsExactBelow m (M a) (f a)) → ((a : A) (text rest : List ℕ) → L a text → length (text ++ rest) < n → length rest < m) → ((a : A) (t : List ℕ) → L a t → Begins (M a) []) → IsExactBelow n (Seq L M) (λ bs. s bs >>= λ x. f x.0 x.1)
seq {A} {B} n m L M s f e d shrinks live = record {
  found = λ bs b rest lt h. (let x = bind_ok (s bs) _ (b, rest) h in
      let p = (e n).found bs x.0.0 x.0.1 lt x.1 in
      let q = (d x.0.0).found x.0.1 b rest (shrinks x.0.0 p.0 x.0.1 p.1 (subst (λ z. length z < n) p.2 lt)) x.2 in
      (p.0 ++ q.0, record { value = x.0.0; first = p.0; second = q.0; is_first = p.1; is_second = q.1; whole = refl }, p.2 ∙ ap (λ z. p.0 ++ z) q.2 ∙ sym (append_assoc p.0 q.0 rest)));
  need = λ bs lt h. elim (bind_err (s bs) _ Need h) [ inl k ↦ goes_first L M live bs ((e n).need bs lt k) | inr x ↦ (let p = (e n).found bs x.0.0 x.0.1 lt x.1 in subst (λ z. Begins (Seq L M) z) (sym p.2) (goes_second L M x.0.0 p.0 x.0.1 p.1 ((d x.0.0).need x.0.1 (shrinks x.0.0 p.0 x.0.1 p.1 (subst (λ z. length z < n) p.2 lt)) x.2))) ];
  bad = λ bs left lt h. elim (bind_err (s bs) _ (Bad left) h) [ inl k ↦ first_bad bs left k ((e n).bad bs left lt k) | inr x ↦ (let p = (e n).found bs x.0.0 x.0.1 lt x.1 in second_bad bs left x.0.0 p.0 x.0.1 p.1 p.2 ((d x.0.0).bad x.0.1 left (shrinks x.0.0 p.0 x.0.1 p.1 (subst (λ z. length z < n) p.2 lt)) x.2)) ];
  again = λ b text rest lt q. read_again b text rest lt q;
}
  where
    first_bad : (bs : List ℕ) (left : ℕ) → s bs ≡ Err (Bad left) → StopsAt L bs left → StopsAt (Seq L M) bs left
    first_bad bs left k st = record { front = st.front; bad = st.bad; back = st.back; is = st.is; at = st.at; goes = goes_first L M live st.front st.goes; ends = ends_first L M s e bs left k st }

    second_bad : (bs : List ℕ) (left : ℕ) (a : A) (t rest : List ℕ) → L a t → bs ≡ t ++ rest → StopsAt (M a) rest left → StopsAt (Seq L M) bs left
    second_bad bs left a t rest l h st = record { front = t ++ st.front; bad = st.bad; back = st.back; is = h ∙ ap (λ z. t ++ z) st.is ∙ sym (append_assoc t st.front (st.bad ∷ st.back)); at = st.at; goes = goes_second L M a t st.front l st.goes; ends = ends_second L M s e a t rest left l st }

    read_again : (b : B) (text rest : List ℕ) → length (text ++ rest) < n → Seq L M b text → (s (text ++ rest) >>= λ x. f x.0 x.1) ≡ Ok (b, rest)
    read_again b text rest lt q =
        let w : text ++ rest ≡ q.first ++ (q.second ++ rest) = ap (λ z. z ++ rest) q.whole ∙ append_assoc q.first q.second rest in
        let p : s (q.first ++ (q.second ++ rest)) ≡ Ok (q.value, q.second ++ rest) = (e (suc (length (q.first ++ (q.second ++ rest))))).again q.value q.first (q.second ++ rest) (omega arith) q.is_first in
        ap (λ r. r >>= λ x. f x.0 x.1) (ap s w ∙ p) ∙ (d q.value).again b q.second rest (shrinks q.value q.first (q.second ++ rest) q.is_first (subst (λ z. length z < n) w lt)) q.is_second
