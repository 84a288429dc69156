-- Lists of ends.
use Rattle.std.proofs.Common.{◌≡◌, ℕ, zero, suc, ◌+◌, ◌<◌, List, [], ◌∷◌, ◌++◌, length, map, take, drop, set, get_or, ◌≤◌, refl, sym, ap, ◌∙◌, arith, le_refl, length-append}
use Rattle.std.proofs.lemmas.List.{take-append-le, get_or-take}
use Rattle.std.proofs.Math.Seq.{take-length, take-nil}
use Rattle.hk_snap.specs.Ends.{End, seen_at, names, another, joined_end, joined_ends}

pub name_at : (xs : List End) (k : ℕ) (d : End) → (get_or xs k d).name ≡ get_or (names xs) k d.name
name_at [] k d = refl
name_at (x ∷ xs) zero d = refl
name_at (x ∷ xs) (suc k) d = name_at xs k d

pub map_more : (xs : List End) (k : ℕ) (d : End) → k < length xs → map another (take (k + 1) xs) ≡ map another (take k xs) ++ another (get_or xs k d) ∷ []
map_more [] k d below = absurd (omega arith)
map_more (x ∷ xs) zero d below = refl
map_more (x ∷ xs) (suc k) d below = let g : suc k + 1 ≡ suc (k + 1) = omega arith in rw g (ap (λ l. another x ∷ l) (map_more xs k d (omega arith)))

pub none_more : (xs : List End) (x : End) → x.seen ≡ [] → ((cell : ℕ) → seen_at xs cell ≡ []) → (cell : ℕ) → seen_at (xs ++ x ∷ []) cell ≡ []
none_more [] x e all zero = e
none_more [] x e all (suc cell) = refl
none_more (y ∷ xs) x e all zero = all zero
none_more (y ∷ xs) x e all (suc cell) = none_more xs x e (λ c. all (suc c)) cell

any_default : {A : Type 0} (l : List A) (k : ℕ) (d e : A) → k < length l → get_or l k d ≡ get_or l k e
any_default [] k d e below = absurd (omega arith)
any_default (x ∷ l) zero d e below = refl
any_default (x ∷ l) (suc k) d e below = any_default l k d e (omega arith)

pub met_names : (xs ys : List End) (k : ℕ) (a b : End) → names xs ≡ names ys → k < length (names xs) → a ≡ get_or xs k a → b ≡ get_or ys k b → a.name ≡ b.name
met_names xs ys k a b e below ea eb =
    ap (λ x. x.name) ea ∙ (name_at xs k a ∙ (any_default (names xs) k a.name b.name below ∙ (ap (λ ns. get_or ns k b.name) e ∙ (sym (name_at ys k b) ∙ ap (λ x. x.name) (sym eb)))))

pub names_long : (xs : List End) → length (names xs) ≡ length xs
names_long [] = refl
names_long (x ∷ xs) = ap suc (names_long xs)

-- one end more is joined, from the last down
pub join_step : (m : ℕ) (ends others : List End) (d d' : End) → m < length ends → m < length others
    → set (take (suc m) ends ++ joined_ends (drop (suc m) ends) (drop (suc m) others)) m (joined_end (get_or ends m d) (get_or others m d')) ≡ take m ends ++ joined_ends (drop m ends) (drop m others)
join_step m [] others d d' below here = absurd (omega arith)
join_step m (e ∷ ends) [] d d' below here = absurd (omega arith)
join_step zero (e ∷ ends) (f ∷ others) d d' below here = refl
join_step (suc m) (e ∷ ends) (f ∷ others) d d' below here = ap (λ l. e ∷ l) (join_step m ends others d d' (omega arith) (omega arith))

pub join_at : (m : ℕ) (ends more : List End) (d : End) → m < length ends → get_or (take (suc m) ends ++ more) m d ≡ get_or ends m d
join_at m [] more d below = absurd (omega arith)
join_at zero (e ∷ ends) more d below = refl
join_at (suc m) (e ∷ ends) more d below = join_at m ends more d (omega arith)

joined_long : (ends others : List End) → length (joined_ends ends others) ≡ length ends
joined_long [] others = refl
joined_long (e ∷ ends) [] = refl
joined_long (e ∷ ends) (f ∷ others) = ap suc (joined_long ends others)

pub long_by : (new ends others : List End) → new ≡ joined_ends ends others → length new ≡ length ends
long_by new ends others is = ap length is ∙ joined_long ends others

pub same_long : (xs ys : List End) → names xs ≡ names ys → length xs ≡ length ys
same_long xs ys e = sym (names_long xs) ∙ (ap length e ∙ names_long ys)

last_of : (xs : List End) (x d : End) → get_or (xs ++ x ∷ []) (length xs) d ≡ x
last_of [] x d = refl
last_of (y ∷ xs) x d = last_of xs x d

plus_one : (n : ℕ) → n + 1 ≡ suc n
plus_one n = omega arith

shorter : (m : ℕ) (xs : List End) → take m (take (suc m) xs) ≡ take m xs
shorter m [] = ap (take m) (take-nil (suc m))
shorter zero (x ∷ xs) = refl
shorter (suc m) (x ∷ xs) = ap (λ l. x ∷ l) (shorter m xs)

-- what is known of the last of the others, which is taken off
pub record IsLast (O old new : List End) (other : End) : Type 0 where
  pub long : length old ≡ suc (length new)
  pub rest : new ≡ take (length new) O
  pub last : other ≡ get_or O (length new) other

pub is_last : (O old new : List End) (other : End) → old ≡ take (length old) O → old ≡ new ++ other ∷ [] → IsLast O old new other
is_last O old new other front is = record {
  long = long;
  rest = sym (take-append-le (length new) new (other ∷ []) (le_refl (length new)) ∙ take-length new) ∙ (ap (take (length new)) whole ∙ shorter (length new) O);
  last = sym (last_of new other other) ∙ (ap (λ l. get_or l (length new) other) whole ∙ get_or-take (suc (length new)) O (length new) other (le_refl (suc (length new))));
}
  where
    long : length old ≡ suc (length new)
    long = ap length is ∙ (length-append new (other ∷ []) ∙ plus_one (length new))

    whole : new ++ other ∷ [] ≡ take (suc (length new)) O
    whole = sym is ∙ (front ∙ ap (λ n. take n O) long)

pub joins_on : (E O old new ends : List End) (other x joined : End) (place : ℕ) → names O ≡ names E → length old ≤ length O → IsLast O old new other
    → ends ≡ take (length old) E ++ joined_ends (drop (length old) E) (drop (length old) O) → place ≡ length new → x ≡ get_or ends place x → joined ≡ joined_end x other
    → set ends place joined ≡ take (length new) E ++ joined_ends (drop (length new) E) (drop (length new) O)
joins_on E O old new ends other x joined place named few last is here value made =
    let m : ℕ = length new in
    let below : m < length O = omega (arith, few, last.long) in
    let below' : m < length E = omega (arith, below, same_long O E named) in
    let whole : ends ≡ take (suc m) E ++ joined_ends (drop (suc m) E) (drop (suc m) O) = is ∙ ap (λ n. take n E ++ joined_ends (drop n E) (drop n O)) last.long in
    let first : x ≡ get_or E m x = value ∙ (ap (λ k. get_or ends k x) here ∙ (ap (λ l. get_or l m x) whole ∙ join_at m E (joined_ends (drop (suc m) E) (drop (suc m) O)) x below')) in
    let end : joined ≡ joined_end (get_or E m x) (get_or O m other) = made ∙ (λ i. joined_end (first i) (last.last i)) in
    (λ i. set (whole i) (here i) (end i)) ∙ join_step m E O x other below' below

pub joins_named : (E O old new ends : List End) (other x : End) (place : ℕ) → names O ≡ names E → length old ≤ length O → IsLast O old new other
    → ends ≡ take (length old) E ++ joined_ends (drop (length old) E) (drop (length old) O) → place ≡ length new → x ≡ get_or ends place x → other.name ≡ x.name
joins_named E O old new ends other x place named few last is here value =
    let m : ℕ = length new in
    let below : m < length O = omega (arith, few, last.long) in
    let below' : m < length E = omega (arith, below, same_long O E named) in
    let whole : ends ≡ take (suc m) E ++ joined_ends (drop (suc m) E) (drop (suc m) O) = is ∙ ap (λ n. take n E ++ joined_ends (drop n E) (drop n O)) last.long in
    let first : x ≡ get_or E m x = value ∙ (ap (λ k. get_or ends k x) here ∙ (ap (λ l. get_or l m x) whole ∙ join_at m E (joined_ends (drop (suc m) E) (drop (suc m) O)) x below')) in
    met_names O E m other x named (omega (arith, below, names_long O)) last.last first
