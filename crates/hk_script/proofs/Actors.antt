-- Actors, keys, data and limited numbers, each by its word.
use Rattle.std.proofs.Common.{◌≡◌, ℕ, ◌+◌, ◌<◌, ◌≤◌, ◌^◌, inl, inr, List, [], ◌∷◌, length, Bool, true, false, cond, Option, Some, None, is_some, nat_lt, ◌==◌, if◌then◌else◌, codes, decimal, refl, sym, ap, subst, ◌∙◌, arith, position}
use Rattle.std.specs.Option.{option_map}
use Rattle.std.proofs.lemmas.Bool.Decides.{nat_tests}
use Rattle.hk_base.specs.declared.stamp.NodeId.{NodeId}
use Rattle.hk_base.specs.declared.letter.Actor.{Actor}
use Rattle.hk_base.specs.declared.letter.Actor.TheVariants.{Node, Manager}
use Rattle.hk_base.specs.declared.time.TheConstants.{MAX_TIME}
use Rattle.hk_base.specs.declared.key.TheConstants.{MAX_KEY_LEN}
use Rattle.hk_base.specs.declared.data.TheConstants.{MAX_DATA_LEN}
use Rattle.hk_base.specs.declared.key.KeyFault.TheVariants.{Empty, TooLong, BadByte}
use Rattle.hk_base.specs.declared.data.DataFault.TheVariants.{TooLarge}
use Rattle.hk_base.specs.Key.{IsKey, IsData}
use Rattle.hk_base.specs.KeyBytes.{is_bad_byte}
use Rattle.hk_base.specs.KeyFaults.{key_fault, data_fault}
use Rattle.hk_script.specs.Words.{word_of, actor_word}
use Rattle.hk_script.specs.Grammar.{IsNodeNo, IsActorNo, IsNumber, IsKeyBytes}
use Rattle.hk_script.specs.Parts.{number_of, bytes_of, key_of, data_of, node_of, manager_of, actor_of, actor_or_all, target_of, number_64, flags_of, time_of, some_of, is_text}
use Rattle.hk_script.proofs.Choices.{chosen, held, failed, bind_some, map_some, some_same, none_of, no_some, not_found, map_none, text_is}
use Rattle.hk_script.proofs.Spaces.{NoSpace}
use Rattle.hk_script.proofs.Spelled.{AreBytes}
use Rattle.hk_script.proofs.Spelling.{IsPart, number_takes, number_again, number_part, bytes_takes, bytes_again, word_no_space}

-- ---- numbers under a strict limit
strict_part : (limit over : ℕ) → over ≡ limit + 1 → over ≤ 2 ^ 64 → IsPart (λ n. n < over) decimal (number_of limit)
strict_part limit over is le =
    let part = number_part limit (omega arith) in
    record {
      takes = λ w n e. let t = number_takes limit w n e in (let m = t.0 in omega (arith, m), t.1);
      again = λ n lt. number_again limit n (omega arith) (omega arith);
      spaceless = λ n lt. part.spaceless n (omega arith);
    }

pub number_64_part : IsPart IsNumber decimal number_64
number_64_part = strict_part 18446744073709551615 (2 ^ 64) (omega arith) (omega arith)

pub flags_part : IsPart (λ n. n < 2 ^ 32) decimal flags_of
flags_part = strict_part 4294967295 (2 ^ 32) (omega arith) (omega arith)

pub time_part : IsPart (λ n. n ≤ MAX_TIME) decimal time_of
time_part = number_part MAX_TIME (omega arith)

-- ---- nodes and managers
node_takes : (w : List ℕ) (id : NodeId) → node_of w ≡ Some id → IsNodeNo id × (w ≡ decimal id.0)
unfolding node_of
node_takes w id e =
    let m = map_some (number_of 65535 w) _ id e in
    let t = number_takes 65535 w m.0 m.1 in
    let is : m.0 ≡ id.0 = ap (λ (n : NodeId). n.0) m.2 in
    (let l = t.0 in omega (arith, l, is), t.1 ∙ ap decimal is)

node_again : (id : NodeId) → IsNodeNo id → node_of (decimal id.0) ≡ Some id
unfolding node_of
node_again id lt = rw (number_again 65535 id.0 (omega arith) (omega arith)) refl

pub node_part : IsPart IsNodeNo (λ id. decimal id.0) node_of
node_part = record { takes = node_takes; again = node_again; spaceless = λ id lt. (number_part 65535 (omega arith)).spaceless id.0 (omega arith) }

m_word : (b m : ℕ) (rest : List ℕ) → b ≡ 109 → rest ≡ decimal m → b ∷ rest ≡ actor_word (Manager m)
m_word b m rest e f = rw (e, f) refl

manager_takes : (w : List ℕ) (m : ℕ) → manager_of w ≡ Some m → (m < 9) × (w ≡ actor_word (Manager m))
unfolding manager_of
manager_takes [] m e = cc
manager_takes (b ∷ digits) m e =
    let h = held (b == 109) _ m e in
    let t = number_takes 8 digits m h.1 in
    let is : b ≡ 109 = (let k = h.0 in grind (arith, nat_tests, k)) in
    (let l = t.0 in omega (arith, l), m_word b m digits is t.1)

manager_again : (m : ℕ) → m < 9 → manager_of (actor_word (Manager m)) ≡ Some m
unfolding manager_of
manager_again m lt = number_again 8 m (omega arith) (omega arith)

manager_no_space : (m : ℕ) → m < 9 → NoSpace (actor_word (Manager m))
manager_no_space m lt = (refl, (number_part 8 (omega arith)).spaceless m (omega arith))

pub manager_part : IsPart (λ m. m < 9) (λ m. actor_word (Manager m)) manager_of
manager_part = record { takes = manager_takes; again = manager_again; spaceless = manager_no_space }

-- ---- actors
actor_takes : (w : List ℕ) (actor : Actor) → actor_of w ≡ Some actor → IsActorNo actor × (w ≡ actor_word actor)
unfolding actor_of
actor_takes [] actor e = cc
actor_takes (b ∷ rest) actor e = elim (chosen (b == 109) _ _ (Some actor) e) [
  | inl m ↦
      let x = map_some (number_of 8 rest) _ actor m.1 in
      let t = number_takes 8 rest x.0 x.1 in
      let is : b ≡ 109 = (let k = m.0 in grind (arith, nat_tests, k)) in
      subst (λ a. IsActorNo a × (b ∷ rest ≡ actor_word a)) x.2 (let l = t.0 in omega (arith, l), m_word b x.0 rest is t.1)
  | inr n ↦
      let x = map_some (node_of (b ∷ rest)) _ actor n.1 in
      subst (λ a. IsActorNo a × (b ∷ rest ≡ actor_word a)) x.2 (node_takes (b ∷ rest) x.0 x.1)
]

-- a word that is a node's does not begin with an m
no_digit : (rest : List ℕ) → node_of (109 ∷ rest) ≡ None
unfolding node_of number_of
no_digit rest = let some : (length (109 ∷ rest) == 0) ≡ false = grind (arith, nat_tests) in rw some refl

by_first : (t : Bool) (b : ℕ) (rest : List ℕ) (id : NodeId) → (b == 109) ≡ t → node_of (b ∷ rest) ≡ Some id → cond t (option_map Manager (number_of 8 rest)) (option_map Node (node_of (b ∷ rest))) ≡ Some (Node id)
by_first true b rest id is e = let same : b ≡ 109 = grind (arith, nat_tests, is) in absurd (no_some id (sym (no_digit rest) ∙ subst (λ k. node_of (k ∷ rest) ≡ Some id) same e))
by_first false b rest id is e = rw e refl

no_m : (w : List ℕ) (id : NodeId) → node_of w ≡ Some id → actor_of w ≡ Some (Node id)
unfolding actor_of node_of number_of
no_m [] id e = absurd (no_some id e)
no_m (b ∷ rest) id e = by_first (b == 109) b rest id refl e

actor_again : (actor : Actor) → IsActorNo actor → actor_of (actor_word actor) ≡ Some actor
unfolding actor_of
actor_again (Node id) lt = no_m (decimal id.0) id (node_again id lt)
actor_again (Manager m) lt = rw (number_again 8 m (omega arith) (omega arith)) refl

actor_no_space : (actor : Actor) → IsActorNo actor → NoSpace (actor_word actor)
actor_no_space (Node id) lt = node_part.spaceless id lt
actor_no_space (Manager m) lt = manager_no_space m lt

pub actor_part : IsPart IsActorNo actor_word actor_of
actor_part = record { takes = actor_takes; again = actor_again; spaceless = actor_no_space }

-- ---- an actor or all
abbrev pub IsTarget : Option Actor → Type 0
IsTarget None = Unit {0}
IsTarget (Some actor) = IsActorNo actor

abbrev pub target_word : Option Actor → List ℕ
target_word None = codes "all"
target_word (Some actor) = actor_word actor

target_at : (o : Option Actor) (w : List ℕ) (t : Option Actor) → actor_of w ≡ o → actor_or_all o (is_text w (codes "all")) ≡ Some t → IsTarget t × (w ≡ target_word t)
target_at (Some actor) w t is e = subst (λ t. IsTarget t × (w ≡ target_word t)) (some_same (Some actor) t e) (actor_takes w actor is)
target_at None w t is e = let h = held (is_text w (codes "all")) (Some None) t e in subst (λ t. IsTarget t × (w ≡ target_word t)) (some_same None t h.1) (tt, text_is w (codes "all") h.0)

target_takes : (w : List ℕ) (t : Option Actor) → target_of w ≡ Some t → IsTarget t × (w ≡ target_word t)
unfolding target_of
target_takes w t e = target_at (actor_of w) w t refl e

target_again : (t : Option Actor) → IsTarget t → target_of (target_word t) ≡ Some t
unfolding target_of actor_of node_of number_of
target_again None is = refl
target_again (Some actor) is = rw (actor_again actor is) refl

target_no_space : (t : Option Actor) → IsTarget t → NoSpace (target_word t)
target_no_space None is = (refl, (refl, (refl, tt)))
target_no_space (Some actor) is = actor_no_space actor is

pub target_part : IsPart IsTarget target_word target_of
target_part = record { takes = target_takes; again = target_again; spaceless = target_no_space }

-- ---- a number from 1 on
some_takes : (limit : ℕ) (w : List ℕ) (n : ℕ) → some_of limit w ≡ Some n → ((1 ≤ n) × (n ≤ limit)) × (w ≡ decimal n)
unfolding some_of
some_takes limit w n e =
    let b = bind_some (number_of limit w) _ n e in
    let f = failed (b.0 == 0) (Some b.0) n b.2 in
    let t = number_takes limit w b.0 b.1 in
    let is : b.0 ≡ n = some_same b.0 n f.1 in
    ((let z = f.0 in grind (arith, nat_tests, z, is), let l = t.0 in omega (arith, l, is)), t.1 ∙ ap decimal is)

some_again : (limit : ℕ) → limit < 2 ^ 64 → (n : ℕ) → (1 ≤ n) × (n ≤ limit) → some_of limit (decimal n) ≡ Some n
unfolding some_of
some_again limit lt n is = let some : (n == 0) ≡ false = (let p = is.0 in grind (arith, nat_tests, p)) in rw (number_again limit n is.1 lt, some) refl

pub some_part : (limit : ℕ) → limit < 2 ^ 64 → IsPart (λ n. (1 ≤ n) × (n ≤ limit)) decimal (some_of limit)
some_part limit lt = record { takes = some_takes limit; again = some_again limit lt; spaceless = λ n is. (number_part limit lt).spaceless n is.1 }

-- ---- keys and data
key_is : (key : List ℕ) → key_fault key ≡ None → IsKey key
key_is key e =
    let a = not_found (length key == 0) Empty _ e in
    let b = not_found (nat_lt MAX_KEY_LEN (length key)) (TooLong (length key)) _ a.1 in
    let some : 1 ≤ length key = (let p = a.0 in grind (arith, nat_tests, p)) in
    let short : length key ≤ MAX_KEY_LEN = (let p = b.0 in grind (arith, nat_tests, p)) in
    record { some = some; short = short; clean = map_none BadByte (position is_bad_byte key) b.1 }

key_faultless : (key : List ℕ) → IsKey key → key_fault key ≡ None
key_faultless key is =
    let some : (length key == 0) ≡ false = (let p = is.some in grind (arith, nat_tests, p)) in
    let short : nat_lt MAX_KEY_LEN (length key) ≡ false = (let p = is.short in grind (arith, nat_tests, p)) in
    rw (some, short, is.clean) refl

data_is : (bytes : List ℕ) → data_fault bytes ≡ None → IsData bytes
data_is bytes e =
    let a = not_found (nat_lt MAX_DATA_LEN (length bytes)) (TooLarge (length bytes)) None e in
    let short : length bytes ≤ MAX_DATA_LEN = (let p = a.0 in grind (arith, nat_tests, p)) in
    record { short = short }

data_faultless : (bytes : List ℕ) → IsData bytes → data_fault bytes ≡ None
data_faultless bytes is = let short : nat_lt MAX_DATA_LEN (length bytes) ≡ false = (let p = is.short in grind (arith, nat_tests, p)) in rw short refl

key_takes : (w key : List ℕ) → key_of w ≡ Some key → IsKeyBytes key × (w ≡ word_of key)
unfolding key_of
key_takes w key e =
    let b = bind_some (bytes_of w) _ key e in
    let f = failed (is_some (key_fault b.0)) (Some b.0) key b.2 in
    let t = bytes_takes w b.0 b.1 in
    subst (λ k. IsKeyBytes k × (w ≡ word_of k)) (some_same b.0 key f.1) (record { is_key = key_is b.0 (none_of (key_fault b.0) f.0); each = t.0 }, t.1)

key_again : (key : List ℕ) → IsKeyBytes key → key_of (word_of key) ≡ Some key
unfolding key_of
key_again key is = rw (bytes_again key is.each) (ap (λ o. if is_some o then None else Some key) (key_faultless key is.is_key))

pub key_part : IsPart IsKeyBytes word_of key_of
key_part = record { takes = key_takes; again = key_again; spaceless = λ key is. word_no_space key }

abbrev pub IsDataBytes : List ℕ → Type 0
IsDataBytes bytes = IsData bytes × AreBytes bytes

data_takes : (w bytes : List ℕ) → data_of w ≡ Some bytes → IsDataBytes bytes × (w ≡ word_of bytes)
unfolding data_of
data_takes w bytes e =
    let b = bind_some (bytes_of w) _ bytes e in
    let f = failed (is_some (data_fault b.0)) (Some b.0) bytes b.2 in
    let t = bytes_takes w b.0 b.1 in
    subst (λ k. IsDataBytes k × (w ≡ word_of k)) (some_same b.0 bytes f.1) ((data_is b.0 (none_of (data_fault b.0) f.0), t.0), t.1)

data_again : (bytes : List ℕ) → IsDataBytes bytes → data_of (word_of bytes) ≡ Some bytes
unfolding data_of
data_again bytes is = rw (bytes_again bytes is.1) (ap (λ o. if is_some o then None else Some bytes) (data_faultless bytes is.0))

pub data_part : IsPart IsDataBytes word_of data_of
data_part = record { takes = data_takes; again = data_again; spaceless = λ bytes is. word_no_space bytes }
