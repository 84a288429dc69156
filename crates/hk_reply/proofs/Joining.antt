-- Readers one behind the other, and the first texts of replies.
use Rattle.std.proofs.Common.{◌≡◌, ℕ, suc, ◌+◌, ◌<◌, ◌≤◌, List, [], ◌∷◌, ◌++◌, length, Bool, true, false, refl, ap, ◌∙◌, sym, arith, ◌⊎◌, inl, inr, append_assoc, append-nil, length-append}
use Rattle.std.specs.Prelude.{Result, Ok, Err, nat_lt, if◌then◌else◌}
use Rattle.std.specs.List.{AllByRecursion}
use Rattle.std.proofs.lemmas.Bool.Decides.{nat_tests}
use Rattle.hk_reply.specs.declared.scan.Stop.{Stop}
use Rattle.hk_reply.specs.declared.scan.Stop.TheVariants.{Memory, Need, Bad}
use Rattle.hk_reply.specs.declared.reply.ClientText.TheVariants as client
use Rattle.hk_reply.specs.declared.reply.ServerText.TheVariants as server
use Rattle.hk_reply.specs.declared.opening.Opening.{Opening}
use Rattle.hk_reply.specs.declared.opening.Opening.TheVariants.{Value, End, Stored, Exists, NotFound, NotStored, Deleted, Error, Version, Client, Server}
use Rattle.hk_reply.specs.Scans.{◌>>=◌, literal_at}
use Rattle.hk_reply.specs.Openings.{opening_text, opening_in, opening_at, openings, or_others, lesser}
use Rattle.hk_reply.specs.Stops.{Begins, StopsAt}
use Rattle.hk_reply.proofs.Exact.{IsExactBelow, IsExact, Seq, seq, goes_first, fronts}
use Rattle.hk_reply.proofs.Simple.{both_are, literal_exact, IsThis}

-- a reader of a language that has a text
pub record IsReader {A : Type 0} (L : A → List ℕ → Type 0) (scan : List ℕ → Result (A × List ℕ) Stop) : Type 0 where
  pub exact : IsExact L scan
  pub lives : Begins L []

shorter : (n : ℕ) (text rest : List ℕ) → length (text ++ rest) < n → length rest < n
shorter n text rest h = let e : length (text ++ rest) ≡ length text + length rest = length-append text rest in omega (arith, h, e)

pub then_read : {A B : Type 0} (L : A → List ℕ → Type 0) (M : A → B → List ℕ → Type 0) (s : List ℕ → Result (A × List ℕ) Stop) (f : A → List ℕ → Result (B × List ℕ) Stop) → IsReader L s → ((a : A) → IsReader (M a) (f a)) → IsReader (Seq L M) (λ bs. s bs >>= λ x. f x.0 x.1)
then_read L M s f r d = record {
  exact = λ n. seq n n L M s f r.exact (λ a. (d a).exact n) (λ a text rest l h. shorter n text rest h) (λ a t l. (d a).lives);
  lives = goes_first L M (λ a t l. (d a).lives) [] r.lives;
}

pub same_below : {A : Type 0} (n : ℕ) (L M : A → List ℕ → Type 0) (s : List ℕ → Result (A × List ℕ) Stop) → ((a : A) (t : List ℕ) → L a t → M a t) → ((a : A) (t : List ℕ) → M a t → L a t) → IsExactBelow n L s → IsExactBelow n M s
same_below n L M s to from e = record {
  found = λ bs a rest lt h. (let t = e.found bs a rest lt h in (t.0, to a t.0 t.1, t.2));
  need = λ bs lt h. (let g = e.need bs lt h in (g.0, g.1, to g.0 (bs ++ g.1) g.2));
  bad = λ bs left lt h. (let st = e.bad bs left lt h in let g = st.goes in record { front = st.front; bad = st.bad; back = st.back; is = st.is; at = st.at; goes = (g.0, g.1, to g.0 (st.front ++ g.1) g.2); ends = λ k. st.ends (k.0, k.1, from k.0 ((st.front ++ st.bad ∷ []) ++ k.1) k.2) });
  again = λ a text rest lt q. e.again a text rest lt (from a text q);
}

pub same_language : {A : Type 0} (L M : A → List ℕ → Type 0) (s : List ℕ → Result (A × List ℕ) Stop) → ((a : A) (t : List ℕ) → L a t → M a t) → ((a : A) (t : List ℕ) → M a t → L a t) → IsReader L s → IsReader M s
same_language L M s to from r = record { exact = λ n. same_below n L M s to from (r.exact n); lives = (let g = r.lives in (g.0, g.1, to g.0 g.1 g.2)) }

-- nothing is read
abbrev pub IsNothing : {A : Type 0} → A → A → List ℕ → Type 0
IsNothing v a text = (v ≡ a) × (text ≡ [])

pub nothing : {A : Type 0} (v : A) → IsReader (IsNothing v) (λ bs. Ok (v, bs))
nothing {A} v = record {
  exact = λ n. record {
    found = λ bs a rest lt h. (let w = both_are (whole bs) v a bs rest refl h in ([], (w.0, refl), w.1));
    need = λ bs lt h. absurd (cc);
    bad = λ bs left lt h. absurd (cc);
    again = λ a text rest lt q. rw (q.1, sym q.0) refl;
  };
  lives = (v, [], (refl, refl));
}
  where
    whole : List ℕ → Result (A × List ℕ) Stop
    whole bs = Ok (v, bs)

pub this : (t : List ℕ) → IsReader (IsThis t) (literal_at t)
this t = record { exact = literal_exact t; lives = (tt, t, refl) }

-- the first texts
abbrev pub IsOpening : Opening → List ℕ → Type 0
IsOpening o text = text ≡ opening_text o

opening_found : (os : List Opening) (least : ℕ) (bs : List ℕ) (o : Opening) (rest : List ℕ) → opening_in os least bs ≡ Ok (o, rest) → bs ≡ opening_text o ++ rest
opening_found [] least bs o rest h = absurd (cc)
opening_found (p ∷ os) least bs o rest h = by_literal (literal_at (opening_text p) bs) refl (λ least h. opening_found os least bs o rest h) h
  where
    by_literal : (r : Result (Unit {0} × List ℕ) Stop) → literal_at (opening_text p) bs ≡ r → ((least : ℕ) → opening_in os least bs ≡ Ok (o, rest) → bs ≡ opening_text o ++ rest) → or_others p r (λ left. opening_in os (lesser left least) bs) ≡ Ok (o, rest) → bs ≡ opening_text o ++ rest
    by_literal (Ok x) e ih h =
        let w = both_are (or_others p (Ok x) (λ left. opening_in os (lesser left least) bs)) p o x.1 rest refl h in
        let t = (literal_exact (opening_text p) (suc (length bs))).found bs x.0 x.1 (omega arith) e in
        t.2 ∙ ap (λ z. z ++ x.1) t.1 ∙ ap (λ z. opening_text z ++ x.1) w.0 ∙ ap (λ z. opening_text o ++ z) w.1
    by_literal (Err (Bad left)) e ih h = ih (lesser left least) h
    by_literal (Err Need) e ih h = absurd (cc)
    by_literal (Err Memory) e ih h = absurd (cc)

opening_need : (os : List Opening) (least : ℕ) (bs : List ℕ) → opening_in os least bs ≡ Err Need → Begins IsOpening bs
opening_need [] least bs h = absurd (cc)
opening_need (p ∷ os) least bs h = by_literal (literal_at (opening_text p) bs) refl (λ least h. opening_need os least bs h) h
  where
    by_literal : (r : Result (Unit {0} × List ℕ) Stop) → literal_at (opening_text p) bs ≡ r → ((least : ℕ) → opening_in os least bs ≡ Err Need → Begins IsOpening bs) → or_others p r (λ left. opening_in os (lesser left least) bs) ≡ Err Need → Begins IsOpening bs
    by_literal (Ok x) e ih h = absurd (cc)
    by_literal (Err (Bad left)) e ih h = ih (lesser left least) h
    by_literal (Err Need) e ih h = let g = (literal_exact (opening_text p) (suc (length bs))).need bs (omega arith) e in (p, g.1, g.2)
    by_literal (Err Memory) e ih h = absurd (cc)

abbrev IsWorse : ℕ → List ℕ → Opening → Type 0
IsWorse left bs o = (l : ℕ) × (literal_at (opening_text o) bs ≡ Err (Bad l)) × (left ≤ l)

record AreWorse (os : List Opening) (least : ℕ) (bs : List ℕ) (left : ℕ) : Type 0 where
  all : AllByRecursion (IsWorse left bs) os
  within : left ≤ least
  one : (left ≡ least) ⊎ ((o : Opening) × (literal_at (opening_text o) bs ≡ Err (Bad left)))

lesser_is : (l least : ℕ) → (lesser l least ≤ l) × (lesser l least ≤ least) × ((lesser l least ≡ l) ⊎ (lesser l least ≡ least))
lesser_is l least = by_test (nat_lt l least) refl
  where
    by_test : (t : Bool) → nat_lt l least ≡ t → ((if t then l else least) ≤ l) × ((if t then l else least) ≤ least) × (((if t then l else least) ≡ l) ⊎ ((if t then l else least) ≡ least))
    by_test true e = (omega arith, grind (arith, nat_tests, e), inl refl)
    by_test false e = (grind (arith, nat_tests, e), omega arith, inr refl)

opening_bad : (os : List Opening) (least : ℕ) (bs : List ℕ) (left : ℕ) → opening_in os least bs ≡ Err (Bad left) → AreWorse os least bs left
opening_bad [] least bs left h = let e : least ≡ left = cc in record { all = tt; within = rw e (omega arith); one = inl (sym e) }
opening_bad (p ∷ os) least bs left h = by_literal (literal_at (opening_text p) bs) refl (λ least h. opening_bad os least bs left h) h
  where
    by_literal : (r : Result (Unit {0} × List ℕ) Stop) → literal_at (opening_text p) bs ≡ r → ((least : ℕ) → opening_in os least bs ≡ Err (Bad left) → AreWorse os least bs left) → or_others p r (λ left. opening_in os (lesser left least) bs) ≡ Err (Bad left) → AreWorse (p ∷ os) least bs left
    by_literal (Ok x) e ih h = absurd (cc)
    by_literal (Err (Bad l)) e ih h =
        let w = ih (lesser l least) h in
        let z = lesser_is l least in
        let i = w.within in
        let z0 = z.0 in
        let z1 = z.1 in
        record { all = ((l, e, omega (arith, i, z0)), w.all); within = omega (arith, i, z1); one = elim w.one [ inl a ↦ elim z.2 [ inl b ↦ inr (p, rw (a ∙ b) at_bad) | inr b ↦ inl (a ∙ b) ] | inr a ↦ inr a ] }
      where
        at_bad : literal_at (opening_text p) bs ≡ Err (Bad l)
        at_bad = e
    by_literal (Err Need) e ih h = absurd (cc)
    by_literal (Err Memory) e ih h = absurd (cc)

of_all : (P : Opening → Type 0) (o : Opening) → AllByRecursion P openings → P o
of_all P Value h = h.0
of_all P End h = h.1.0
of_all P Stored h = h.1.1.0
of_all P Exists h = h.1.1.1.0
of_all P NotFound h = h.1.1.1.1.0
of_all P NotStored h = h.1.1.1.1.1.0
of_all P Deleted h = h.1.1.1.1.1.1.0
of_all P Error h = h.1.1.1.1.1.1.1.0
of_all P Version h = h.1.1.1.1.1.1.1.1.0
of_all P (Client client.BadKey) h = h.1.1.1.1.1.1.1.1.1.0
of_all P (Client client.BadNumber) h = h.1.1.1.1.1.1.1.1.1.1.0
of_all P (Client client.BadChunk) h = h.1.1.1.1.1.1.1.1.1.1.1.0
of_all P (Client client.NotNumber) h = h.1.1.1.1.1.1.1.1.1.1.1.1.0
of_all P (Client client.TooLong) h = h.1.1.1.1.1.1.1.1.1.1.1.1.1.0
of_all P (Server server.TooLarge) h = h.1.1.1.1.1.1.1.1.1.1.1.1.1.1.0
of_all P (Server server.Expiry) h = h.1.1.1.1.1.1.1.1.1.1.1.1.1.1.1.0
of_all P (Server server.Busy) h = h.1.1.1.1.1.1.1.1.1.1.1.1.1.1.1.1.0
of_all P (Server server.Aborted) h = h.1.1.1.1.1.1.1.1.1.1.1.1.1.1.1.1.1.0
of_all P (Server server.Unknown) h = h.1.1.1.1.1.1.1.1.1.1.1.1.1.1.1.1.1.1.0
of_all P (Server server.Spent) h = h.1.1.1.1.1.1.1.1.1.1.1.1.1.1.1.1.1.1.1.0
of_all P (Server server.VersionLimit) h = h.1.1.1.1.1.1.1.1.1.1.1.1.1.1.1.1.1.1.1.1.0
of_all P (Server server.Memory) h = h.1.1.1.1.1.1.1.1.1.1.1.1.1.1.1.1.1.1.1.1.1.0

opening_again : (o : Opening) (rest : List ℕ) → opening_at (opening_text o ++ rest) ≡ Ok (o, rest)
unfolding opening_at
opening_again Value rest = refl
opening_again End rest = refl
opening_again Stored rest = refl
opening_again Exists rest = refl
opening_again NotFound rest = refl
opening_again NotStored rest = refl
opening_again Deleted rest = refl
opening_again Error rest = refl
opening_again Version rest = refl
opening_again (Client client.BadKey) rest = refl
opening_again (Client client.BadNumber) rest = refl
opening_again (Client client.BadChunk) rest = refl
opening_again (Client client.NotNumber) rest = refl
opening_again (Client client.TooLong) rest = refl
opening_again (Server server.TooLarge) rest = refl
opening_again (Server server.Expiry) rest = refl
opening_again (Server server.Busy) rest = refl
opening_again (Server server.Aborted) rest = refl
opening_again (Server server.Unknown) rest = refl
opening_again (Server server.Spent) rest = refl
opening_again (Server server.VersionLimit) rest = refl
opening_again (Server server.Memory) rest = refl

nil_of : (u : List ℕ) → length u ≤ 0 → u ≡ []
nil_of [] h = refl
nil_of (x ∷ u) h = absurd (grind (arith, h))

-- of two places in a list the front of the earlier one begins the front of the other
earlier : (bs f g a b : List ℕ) (x y : ℕ) → bs ≡ f ++ x ∷ a → bs ≡ g ++ y ∷ b → length b ≤ length a → (u : List ℕ) × (g ++ y ∷ [] ≡ (f ++ x ∷ []) ++ u)
earlier bs f g a b x y h k l = elim (fronts (f ++ x ∷ []) a (g ++ y ∷ []) b (append_assoc f (x ∷ []) a ∙ sym h ∙ k ∙ sym (append_assoc g (y ∷ []) b))) [ inl p ↦ p | inr p ↦ (let e = ap length p.1 in let s = ap length (sym h ∙ k) in let z : length p.0 ≤ 0 = grind (arith, length-append, e, s, l) in let n = nil_of p.0 z in ([], sym (append-nil (f ++ x ∷ []) ∙ p.1 ∙ ap (λ w. (g ++ y ∷ []) ++ w) n ∙ append-nil (g ++ y ∷ [])))) ]

no_opening : (bs : List ℕ) (left : ℕ) (st_front st_back : List ℕ) (st_bad : ℕ) → bs ≡ st_front ++ st_bad ∷ st_back → left ≡ suc (length st_back) → AllByRecursion (IsWorse left bs) openings → Begins IsOpening (st_front ++ st_bad ∷ []) → ⊥
no_opening bs left f b x is at all g =
    let w = of_all (IsWorse left bs) g.0 all in
    let st = (literal_exact (opening_text g.0) (suc (length bs))).bad bs w.0 (omega arith) w.1 in
    let a = st.at in
    let l = w.2 in
    let u = earlier bs st.front f st.back b st.bad x st.is is (omega (arith, a, at, l)) in
    st.ends (tt, u.0 ++ g.1, sym (append_assoc (st.front ++ st.bad ∷ []) u.0 g.1) ∙ ap (λ z. z ++ g.1) (sym u.1) ∙ g.2)

opening_stops : (bs : List ℕ) (left : ℕ) → AreWorse openings (length bs + 1) bs left → StopsAt IsOpening bs left
opening_stops bs left w = elim w.one [ inl e ↦ absurd (too_long e) | inr o ↦ (let st = (literal_exact (opening_text o.0) (suc (length bs))).bad bs left (omega arith) o.1 in record { front = st.front; bad = st.bad; back = st.back; is = st.is; at = st.at; goes = (o.0, st.goes.1, st.goes.2); ends = no_opening bs left st.front st.back st.bad st.is st.at w.all }) ]
  where
    too_long : left ≡ length bs + 1 → ⊥
    too_long e =
        let v = of_all (IsWorse left bs) Value w.all in
        let st = (literal_exact (opening_text Value) (suc (length bs))).bad bs v.0 (omega arith) v.1 in
        let a = st.at in
        let i = ap length st.is in
        let l = v.2 in
        grind (arith, length-append, a, i, l, e)

pub opening_read : IsReader IsOpening opening_at
unfolding opening_at
opening_read = record {
  exact = λ n. record {
    found = λ bs o rest lt h. (opening_text o, refl, opening_found openings (length bs + 1) bs o rest h);
    need = λ bs lt h. opening_need openings (length bs + 1) bs h;
    bad = λ bs left lt h. opening_stops bs left (opening_bad openings (length bs + 1) bs left h);
    again = λ o text rest lt q. rw q (opening_again o rest);
  };
  lives = (Value, opening_text Value, refl);
}
