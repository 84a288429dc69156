-- Two rounds of loads, one key after the other.
use Rattle.std.proofs.Common.{◌≡◌, ℕ, suc, List, [], ◌∷◌, ◌++◌, length, arith, Option, refl, sym, ap, subst, ◌∙◌, append-nil, append_assoc}
use Rattle.std.specs.List.{AllByRecursion}
use Rattle.hk_snap.specs.declared.rule.Publication.{Publication}
use Rattle.hk_snap.specs.Snapshots.{cell_of, last_shown, IsRising}
use Rattle.hk_snap.specs.Ends.{Reader, seen_at, Loads}
use Rattle.hk_joint_reads.specs.declared.look.KeyLoads.{KeyLoads}
use Rattle.hk_joint_reads.specs.Reads.{LoadsEach, shown_of, ticket_of, tickets_of, looks_of}

-- what is loaded later of the keys that are left makes a round of all keys
abbrev pub GoesOn : Reader → Reader → List (List ℕ) → List (List ℕ) → List (List Publication) → Type 0
GoesOn old now keys left lists = (later : List (List Publication)) (last : Reader) → LoadsEach now left later last → LoadsEach old keys (lists ++ later) last

goes_on : (old now loaded : Reader) (keys rest : List (List ℕ)) (lists : List (List Publication)) (key : List ℕ) → GoesOn old now keys (key ∷ rest) lists → Loads now (cell_of key) loaded
    → loaded.shown ≡ last_shown (seen_at loaded.ends (cell_of key)) → GoesOn old loaded keys rest (lists ++ seen_at loaded.ends (cell_of key) ∷ [])
goes_on old now loaded keys rest lists key goes loads shown later last h =
    subst (λ (l : List (List Publication)). LoadsEach old keys l last) (sym (append_assoc lists (seen_at loaded.ends (cell_of key) ∷ []) later))
    (goes (seen_at loaded.ends (cell_of key) ∷ later) last (loaded, loads, refl, shown, h))

-- ---- the first round
pub record FirstRound (old now : Reader) (keys left : List (List ℕ)) (tickets : List (Option ℕ)) : Type 0 where
  pub lists : List (List Publication)
  pub goes : GoesOn old now keys left lists
  pub told : (later : List (List Publication)) → tickets ++ tickets_of left later ≡ tickets_of keys (lists ++ later)

pub first_begins : (old : Reader) (keys : List (List ℕ)) → FirstRound old old keys keys []
first_begins old keys = record { lists = []; goes = λ later last h. h; told = λ later. refl }

pub first_more : (old now loaded : Reader) (keys left rest : List (List ℕ)) (key : List ℕ) (tickets : List (Option ℕ)) (ticket : Option ℕ) → FirstRound old now keys left tickets → left ≡ key ∷ rest
    → Loads now (cell_of key) loaded → loaded.shown ≡ last_shown (seen_at loaded.ends (cell_of key)) → ticket ≡ ticket_of key loaded.shown → FirstRound old loaded keys rest (tickets ++ ticket ∷ [])
first_more old now loaded keys left rest key tickets ticket is same loads shown told =
    let seen = seen_at loaded.ends (cell_of key) in
    let goes : GoesOn old now keys (key ∷ rest) is.lists = subst (λ (l : List (List ℕ)). GoesOn old now keys l is.lists) same is.goes in
    record {
      lists = is.lists ++ seen ∷ [];
      goes = goes_on old now loaded keys rest is.lists key goes loads shown;
      told = λ later.
          append_assoc tickets (ticket ∷ []) (tickets_of rest later)
          ∙ ap (λ (t : Option ℕ). tickets ++ t ∷ tickets_of rest later) (told ∙ ap (ticket_of key) shown)
          ∙ ap (λ (l : List (List ℕ)). tickets ++ tickets_of l (seen ∷ later)) (sym same)
          ∙ is.told (seen ∷ later)
          ∙ ap (tickets_of keys) (sym (append_assoc is.lists (seen ∷ []) later));
    }

pub first_ends : (old now : Reader) (keys left : List (List ℕ)) (tickets : List (Option ℕ)) → FirstRound old now keys left tickets → left ≡ []
    → (first : List (List Publication)) × LoadsEach old keys first now × (tickets ≡ tickets_of keys first)
first_ends old now keys left tickets is none =
    let goes : GoesOn old now keys [] is.lists = subst (λ (l : List (List ℕ)). GoesOn old now keys l is.lists) none is.goes in
    (is.lists ++ [], goes [] now refl, sym (append-nil tickets) ∙ ap (λ (l : List (List ℕ)). tickets ++ tickets_of l []) (sym none) ∙ is.told [])

-- ---- the second round
pub record SecondRound (old now : Reader) (keys left : List (List ℕ)) (first behind : List (Option ℕ)) (looks : List KeyLoads) : Type 0 where
  pub lists : List (List Publication)
  pub goes : GoesOn old now keys left lists
  pub rising : AllByRecursion IsRising lists
  pub told : (later : List (List Publication)) → looks ++ looks_of left behind later ≡ looks_of keys first (lists ++ later)

pub second_begins : (old : Reader) (keys : List (List ℕ)) (first : List (Option ℕ)) → SecondRound old old keys keys first first []
second_begins old keys first = record { lists = []; goes = λ later last h. h; rising = tt; told = λ later. refl }

all_more : (lists : List (List Publication)) (seen : List Publication) → AllByRecursion IsRising lists → IsRising seen → AllByRecursion IsRising (lists ++ seen ∷ [])
all_more [] seen all is = (is, tt)
all_more (l ∷ lists) seen all is = (all.0, all_more lists seen all.1 is)

pub second_more : (old now loaded : Reader) (keys left rest : List (List ℕ)) (first behind others : List (Option ℕ)) (key : List ℕ) (ticket : Option ℕ) (looks : List KeyLoads) (look : KeyLoads)
    → SecondRound old now keys left first behind looks → left ≡ key ∷ rest → behind ≡ ticket ∷ others → Loads now (cell_of key) loaded
    → loaded.shown ≡ last_shown (seen_at loaded.ends (cell_of key)) → IsRising (seen_at loaded.ends (cell_of key))
    → look ≡ record { key = key; first = ticket; second = shown_of key loaded.shown } → SecondRound old loaded keys rest first others (looks ++ look ∷ [])
second_more old now loaded keys left rest first behind others key ticket looks look is same with_ticket loads shown rises told =
    let seen = seen_at loaded.ends (cell_of key) in
    let goes : GoesOn old now keys (key ∷ rest) is.lists = subst (λ (l : List (List ℕ)). GoesOn old now keys l is.lists) same is.goes in
    let known : look ≡ record { key = key; first = ticket; second = shown_of key (last_shown seen) } = told ∙ ap (λ s. let l : KeyLoads = record { key = key; first = ticket; second = shown_of key s } in l) shown in
    record {
      lists = is.lists ++ seen ∷ [];
      goes = goes_on old now loaded keys rest is.lists key goes loads shown;
      rising = all_more is.lists seen is.rising rises;
      told = λ later.
          append_assoc looks (look ∷ []) (looks_of rest others later)
          ∙ ap (λ (l : KeyLoads). looks ++ l ∷ looks_of rest others later) known
          ∙ ap (λ (l : List (List ℕ)). looks ++ looks_of l (ticket ∷ others) (seen ∷ later)) (sym same)
          ∙ ap (λ (l : List (Option ℕ)). looks ++ looks_of left l (seen ∷ later)) (sym with_ticket)
          ∙ is.told (seen ∷ later)
          ∙ ap (looks_of keys first) (sym (append_assoc is.lists (seen ∷ []) later));
    }

pub second_ends : (old now : Reader) (keys left : List (List ℕ)) (first behind : List (Option ℕ)) (looks : List KeyLoads) → SecondRound old now keys left first behind looks → left ≡ []
    → (second : List (List Publication)) × LoadsEach old keys second now × (looks ≡ looks_of keys first second) × AllByRecursion IsRising second
second_ends old now keys left first behind looks is none =
    let goes : GoesOn old now keys [] is.lists = subst (λ (l : List (List ℕ)). GoesOn old now keys l is.lists) none is.goes in (
      is.lists ++ [],
      goes [] now refl,
      sym (append-nil looks) ∙ ap (λ (l : List (List ℕ)). looks ++ looks_of l behind []) (sym none) ∙ is.told [],
      subst (AllByRecursion IsRising) (sym (append-nil is.lists)) is.rising,
    )

-- ---- as many as there are keys
pub each_long : (old new : Reader) (keys : List (List ℕ)) (lists : List (List Publication)) → LoadsEach old keys lists new → length lists ≡ length keys
each_long old new [] [] h = refl
each_long old new [] (seen ∷ lists) h = absurd h
each_long old new (key ∷ keys) [] h = absurd h
each_long old new (key ∷ keys) (seen ∷ lists) h = ap (λ n. suc n) (each_long h.0 new keys lists h.4)

pub tickets_long : (keys : List (List ℕ)) (lists : List (List Publication)) → length lists ≡ length keys → length (tickets_of keys lists) ≡ length keys
tickets_long [] lists e = refl
tickets_long (key ∷ keys) [] e = e
tickets_long (key ∷ keys) (seen ∷ lists) e = ap (λ n. suc n) (tickets_long keys lists (omega (arith, e)))
