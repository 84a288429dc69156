-- What a list of publications says of one key, and what is added to it says.
use Rattle.std.proofs.Common.{◌≡◌, ◌≢◌, ◌⊎◌, ℕ, ◌&&◌, not, if◌then◌else◌, List, [], ◌∷◌, ◌++◌, Bool, true, false, Option, Some, None, refl, sym, ap, ◌∙◌, subst}
use Rattle.std.specs.Option.{IsSomeAnd}
use Rattle.std.specs.List.{AllByRecursion}
use Rattle.std.proofs.lemmas.Option.{none-some}
use Rattle.std.specs.BTreeMap.{is_at}
use Rattle.hk_base.specs.declared.call.CallNo.{CallNo}
use Rattle.hk_base.specs.declared.call.State.{State}
use Rattle.hk_copy.specs.Batches.{key_cmp}
use Rattle.hk_key.specs.declared.row.Row.{Row}
use Rattle.hk_node.proofs.Order.{same_of, same_not}
use Rattle.hk_snap.specs.declared.rule.Publication.{Publication}
use Rattle.hk_told.specs.Lists.{leaves, next_past, last_row}

-- no publication of the key
abbrev pub NoneOf : List ℕ → List Publication → Type 0
NoneOf key list = AllByRecursion (λ p. key ≢ p.key) list

-- of the key there is this one alone
pub record OneOf (key : List ℕ) (s : Publication) (list : List Publication) : Type 0 where
  pub front : List Publication
  pub back : List Publication
  pub stands : list ≡ front ++ s ∷ back
  pub key_of : key ≡ s.key
  pub none_before : NoneOf key front
  pub none_behind : NoneOf key back

-- What a step adds of a key: nothing, and its row is as it was; or the row that it has then, under the step's ticket and call.
pub record Shows (key : List ℕ) (new : Option Row) (ticket : ℕ) (call : Option CallNo) (more : List Publication) : Type 0 where
  pub s : Publication
  pub one : OneOf key s more
  pub row : Some s.row ≡ new
  pub ticket_of : s.ticket ≡ ticket
  pub call_of : s.call ≡ call

abbrev pub Adds : List ℕ → Option Row → Option Row → ℕ → Option CallNo → List Publication → Type 0
Adds key old new ticket call more = (NoneOf key more × (new ≡ old)) ⊎ Shows key new ticket call more

-- ---- the last row
pub last_more : (key : List ℕ) (row : Option Row) (xs ys : List Publication) → last_row key (xs ++ ys) row ≡ last_row key ys (last_row key xs row)
last_more key row [] ys = refl
last_more key row (x ∷ xs) ys = last_more key (if is_at (key_cmp key) x.key then Some x.row else row) xs ys

pub last_none : (key : List ℕ) (row : Option Row) (list : List Publication) → NoneOf key list → last_row key list row ≡ row
last_none key row [] none = refl
last_none key row (p ∷ list) none =
    ap (λ (b : Bool). last_row key list (if b then Some p.row else row)) (same_not key p.key none.0) ∙ last_none key row list none.1

-- ---- the next one past some states
pub next_more_none : (stays : State → Bool) (key : List ℕ) (xs ys : List Publication) → next_past stays key xs ≡ None → next_past stays key (xs ++ ys) ≡ next_past stays key ys
next_more_none stays key [] ys e = refl
next_more_none stays key (x ∷ xs) ys e = at (leaves stays key x) e (next_more_none stays key xs ys)
  where
    at : (b : Bool) → (if b then Some x else next_past stays key xs) ≡ None → (next_past stays key xs ≡ None → next_past stays key (xs ++ ys) ≡ next_past stays key ys) →
        (if b then Some x else next_past stays key (xs ++ ys)) ≡ next_past stays key ys
    at true e ih = absurd (none-some x (sym e))
    at false e ih = ih e

pub next_more_some : (P : Publication → Type 0) (stays : State → Bool) (key : List ℕ) (xs ys : List Publication) → IsSomeAnd (next_past stays key xs) P →
    IsSomeAnd (next_past stays key (xs ++ ys)) P
next_more_some P stays key [] ys h = absurd h
next_more_some P stays key (x ∷ xs) ys h = at (leaves stays key x) h (next_more_some P stays key xs ys)
  where
    at : (b : Bool) → IsSomeAnd (if b then Some x else next_past stays key xs) P → (IsSomeAnd (next_past stays key xs) P → IsSomeAnd (next_past stays key (xs ++ ys)) P) →
        IsSomeAnd (if b then Some x else next_past stays key (xs ++ ys)) P
    at true h ih = h
    at false h ih = ih h

pub next_none : (stays : State → Bool) (key : List ℕ) (list : List Publication) → NoneOf key list → next_past stays key list ≡ None
next_none stays key [] none = refl
next_none stays key (p ∷ list) none =
    ap (λ (b : Bool). if b && not (stays p.row.state) then Some p else next_past stays key list) (same_not key p.key none.0) ∙ next_none stays key list none.1

-- where the one of the key is passed over, or is not
pub next_stays : (stays : State → Bool) (key : List ℕ) (s : Publication) (list : List Publication) → OneOf key s list → stays s.row.state ≡ true → next_past stays key list ≡ None
next_stays stays key s list one e =
    ap (next_past stays key) one.stands ∙ next_more_none stays key one.front (s ∷ one.back) (next_none stays key one.front one.none_before)
    ∙ ap (λ (b : Bool). if is_at (key_cmp key) s.key && not b then Some s else next_past stays key one.back) e ∙ at (is_at (key_cmp key) s.key)
    ∙ next_none stays key one.back one.none_behind
  where
    at : (b : Bool) → (if b && false then Some s else next_past stays key one.back) ≡ next_past stays key one.back
    at true = refl
    at false = refl

pub next_leaves : (stays : State → Bool) (key : List ℕ) (s : Publication) (list : List Publication) → OneOf key s list → stays s.row.state ≡ false → next_past stays key list ≡ Some s
next_leaves stays key s list one e =
    ap (next_past stays key) one.stands ∙ next_more_none stays key one.front (s ∷ one.back) (next_none stays key one.front one.none_before)
    ∙ ap (λ (b : Bool). if b && not (stays s.row.state) then Some s else next_past stays key one.back) (same_of key s.key one.key_of)
    ∙ ap (λ (b : Bool). if not b then Some s else next_past stays key one.back) e

-- ---- one among many
pub all_more : (P : Publication → Type 0) (xs ys : List Publication) → AllByRecursion P xs → AllByRecursion P ys → AllByRecursion P (xs ++ ys)
all_more P [] ys a b = b
all_more P (x ∷ xs) ys a b = (a.0, all_more P xs ys a.1 b)

pub all_at : (P : Publication → Type 0) (front : List Publication) (x : Publication) (back : List Publication) → AllByRecursion P (front ++ x ∷ back) → P x
all_at P [] x back h = h.0
all_at P (y ∷ front) x back h = all_at P front x back h.1

pub all_only : (P Q : Publication → Type 0) (list : List Publication) → ((p : Publication) → P p → Q p) → AllByRecursion P list → AllByRecursion Q list
all_only P Q [] f h = tt
all_only P Q (p ∷ list) f h = (f p h.0, all_only P Q list f h.1)

abbrev head_or : Publication → List Publication → Publication
head_or d [] = d
head_or d (x ∷ xs) = x

abbrev tail_of : List Publication → List Publication
tail_of [] = []
tail_of (x ∷ xs) = xs

-- two that stand in one list are one where all others differ from them
pub one_place : (Other : Publication → Type 0) (f g : List Publication) (x y : Publication) (m n : List Publication) → f ++ x ∷ m ≡ g ++ y ∷ n →
    AllByRecursion Other g → AllByRecursion Other n → (Other x → ⊥) → (Other y → ⊥) → (x ≡ y) × (m ≡ n)
one_place Other [] [] x y m n e before behind not_x not_y = (ap (head_or x) e, ap tail_of e)
one_place Other [] (z ∷ g) x y m n e before behind not_x not_y = absurd (not_x (subst Other (sym (ap (head_or x) e)) before.0))
one_place Other (z ∷ f) [] x y m n e before behind not_x not_y = absurd (not_x (all_at Other f x m (subst (AllByRecursion Other) (sym (ap tail_of e)) behind)))
one_place Other (z ∷ f) (w ∷ g) x y m n e before behind not_x not_y = one_place Other f g x y m n (ap tail_of e) before.1 behind not_x not_y
