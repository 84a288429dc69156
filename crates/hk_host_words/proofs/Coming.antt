-- How options are read one by one.
use Rattle.std.proofs.Common.{◌≡◌, ℕ, Bool, true, false, true≢false, List, [], ◌∷◌, ◌++◌, length, map, refl, sym, ap, subst, ◌∙◌, arith, inl, inr, append_assoc, append-nil}
use Rattle.std.specs.Prelude.{◌==◌}
use Rattle.std.proofs.lemmas.Bool.Decides.{Decides-eqb}
use Rattle.hk_host_words.specs.Options.{Setting, BeginsWith, AreSettings}
use Rattle.hk_host_words.specs.declared.settings.Typed.{Typed}
use Rattle.hk_host_words.specs.Reading.{setting_of, settings_of}
use Rattle.hk_host_words.proofs.Taking.{one_next}

-- what was read so far, and what is left: whatever options that is, behind those they are all
pub record Come (words left : List (List ℕ)) (read : List Setting) : Type 0 where
  pub all : (more : List Setting) → AreSettings more left → AreSettings (read ++ more) words
  pub alone : (settings : List Setting) → AreSettings settings words → (more : List Setting) × (settings ≡ read ++ more) × AreSettings more left

pub begun : (words : List (List ℕ)) → Come words words []
begun words = record { all = λ more are. are; alone = λ settings are. (settings, refl, are) }

abbrev is_none : List (List ℕ) → Bool
is_none [] = true
is_none (w ∷ words) = false

none_begins : (s : Setting) (words behind : List (List ℕ)) → words ≡ [] → BeginsWith s words behind → ⊥
none_begins s words behind e (inl f) = true≢false (sym (ap is_none e) ∙ ap is_none f)
none_begins s words behind e (inr f) = true≢false (sym (ap is_none e) ∙ ap is_none f)

module _ (words left behind : List (List ℕ)) (read : List Setting) (come : Come words left read) where
  pub more : (s : Setting) → BeginsWith s left behind → Come words behind (read ++ s ∷ [])
  more s begins = record {
    all = λ more are. subst (λ (l : List Setting). AreSettings l words) (sym (append_assoc read (s ∷ []) more)) (come.all (s ∷ more) (behind, begins, are));
    alone = λ settings are. (let c = come.alone settings are in one c.0 settings c.1 c.2);
  }
    where
      one : (more settings : List Setting) → settings ≡ read ++ more → AreSettings more left → (rest : List Setting) × (settings ≡ (read ++ s ∷ []) ++ rest) × AreSettings rest behind
      one [] settings e are = absurd (none_begins s left behind are begins)
      one (t ∷ more) settings e are =
          let same = one_next s t left behind are.0 begins are.1 in (
            more,
            e ∙ ap (λ (x : Setting). read ++ x ∷ more) (sym same.0) ∙ sym (append_assoc read (s ∷ []) more),
            subst (AreSettings more) (sym same.1) are.2,
          )

  pub ended : left ≡ [] → AreSettings read words
  ended e = subst (λ (l : List Setting). AreSettings l words) (append-nil read) (come.all [] e)

  -- where something is left, options that words are have one more
  pub goes_on : (left ≡ [] → ⊥) → (settings : List Setting) → AreSettings settings words → (next : Setting × List (List ℕ)) × BeginsWith next.0 left next.1
  goes_on some settings are = (let c = come.alone settings are in at c.0 c.2)
    where
      at : (more : List Setting) → AreSettings more left → (next : Setting × List (List ℕ)) × BeginsWith next.0 left next.1
      at [] e = absurd (some e)
      at (t ∷ more) begins = ((t, begins.0), begins.1)

pub map_none : {A B : Type 0} (f : A → B) (l : List A) → map f l ≡ [] → l ≡ []
map_none f [] e = refl
map_none f (x ∷ l) e = cc

pub none_left : {A : Type 0} (l : List A) → (length l == 0) ≡ true → l ≡ []
none_left [] e = refl
none_left (x ∷ l) e = (let none : length (x ∷ l) ≡ 0 = (Decides-eqb (length (x ∷ l)) 0).0 e in absurd (omega (arith, none)))

pub settings_more : (typed : List Typed) (t : Typed) → settings_of (typed ++ t ∷ []) ≡ settings_of typed ++ setting_of t ∷ []
settings_more [] t = refl
settings_more (x ∷ typed) t = ap (λ (l : List Setting). setting_of x ∷ l) (settings_more typed t)

-- the options that words are, are one list
pub one_list : (a b : List Setting) (words : List (List ℕ)) → AreSettings a words → AreSettings b words → a ≡ b
one_list [] [] words x y = refl
one_list [] (t ∷ b) words x y = absurd (none_begins t words y.0 x y.1)
one_list (s ∷ a) [] words x y = absurd (none_begins s words x.0 y x.1)
one_list (s ∷ a) (t ∷ b) words x y =
    let same = one_next s t words x.0 y.0 x.1 y.1 in
    ap (λ (z : Setting). z ∷ a) same.0 ∙ ap (λ (l : List Setting). t ∷ l) (one_list a b x.0 x.2 (subst (AreSettings b) (sym same.1) y.2))
