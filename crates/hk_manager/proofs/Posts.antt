-- Letters to the managers, one more at a time; and letters that are dropped.
use Rattle.std.proofs.Common.{◌≡◌, ◌∙◌, ◌+◌, ◌==◌, ◌++◌, ℕ, zero, suc, Bool, true, false, cond, not, List, [], ◌∷◌, map, Option, refl, sym, ap, subst, append-nil, add-one, arith}
use Rattle.std.specs.List.{range_with_len, filter}
use Rattle.std.proofs.lemmas.List.FromFn.{map-range_with_len_more}
use Rattle.hk_base.specs.declared.stamp.NodeId.{NodeId}
use Rattle.hk_base.specs.declared.letter.Actor.TheVariants.{Manager}
use Rattle.hk_base.specs.declared.letter.Body.{Body}
use Rattle.hk_base.specs.declared.letter.Body.TheVariants.{Inv, Ack, Val, CopyAsk, CopyGive, LeaseAsk, LeaseGive, Prepare, Promise, Accept, Accepted, Chosen, Activate}
use Rattle.hk_base.specs.declared.letter.Letter.{Letter}
use Rattle.hk_base.specs.declared.view.Ballot.{Ballot}
use Rattle.hk_base.specs.declared.view.View.{View}
use Rattle.hk_base.specs.declared.view.Voted.{Voted}
use Rattle.std.proofs.lemmas.Bool.{false≢true}
use Rattle.hk_manager.specs.Manager.{ManagerState}
use Rattle.hk_manager.specs.Sends.{letter_to}
use Rattle.hk_manager.specs.Steps.{idle, from_node, from_manager}

-- the letters to the managers below a number
abbrev pub to_first : ManagerState → ℕ → Body → ℕ → List Letter
to_first m epoch body n = map (λ to. letter_to m epoch body (Manager to)) (range_with_len 0 n)

pub first_more : (m : ManagerState) (epoch : ℕ) (body : Body) (n : ℕ) → to_first m epoch body (n + 1) ≡ to_first m epoch body n ++ letter_to m epoch body (Manager n) ∷ []
first_more m epoch body n = map-range_with_len_more (λ to. letter_to m epoch body (Manager to)) 0 n n (omega arith)

-- and to those but one
abbrev pub to_first_others : ManagerState → ℕ → Body → ℕ → List Letter
to_first_others m epoch body n = map (λ to. letter_to m epoch body (Manager to)) (filter (λ to. not (to == m.id)) (range_with_len 0 n))

abbrev others_in : ManagerState → ℕ → Body → List ℕ → List Letter
others_in m epoch body numbers = map (λ to. letter_to m epoch body (Manager to)) (filter (λ to. not (to == m.id)) numbers)

abbrev pub one_in : ManagerState → ℕ → Body → ℕ → List Letter
one_in m epoch body n = cond (not (n == m.id)) (letter_to m epoch body (Manager n) ∷ []) []

last_of : (m : ManagerState) (epoch : ℕ) (body : Body) (a n k : ℕ) → a + n ≡ k →
    others_in m epoch body (range_with_len a (suc n)) ≡ others_in m epoch body (range_with_len a n) ++ one_in m epoch body k
last_of m epoch body a zero k sum = let same : a ≡ k = omega (arith, sum) in subst (λ (i : ℕ). others_in m epoch body (a ∷ []) ≡ one_in m epoch body i) same (at (not (a == m.id)))
  where
    at : (b : Bool) → map {A = ℕ} (λ to. letter_to m epoch body (Manager to)) (cond b (a ∷ []) []) ≡ cond b (letter_to m epoch body (Manager a) ∷ []) []
    at true = refl
    at false = refl
last_of m epoch body a (suc n) k sum = at (not (a == m.id)) (last_of m epoch body (a + 1) n k (omega (arith, sum)))
  where
    at : (b : Bool) → others_in m epoch body (range_with_len (a + 1) (suc n)) ≡ others_in m epoch body (range_with_len (a + 1) n) ++ one_in m epoch body k →
        map {A = ℕ} (λ to. letter_to m epoch body (Manager to)) (cond b (a ∷ filter (λ to. not (to == m.id)) (range_with_len (a + 1) (suc n))) (filter (λ to. not (to == m.id)) (range_with_len (a + 1) (suc n))))
        ≡ map {A = ℕ} (λ to. letter_to m epoch body (Manager to)) (cond b (a ∷ filter (λ to. not (to == m.id)) (range_with_len (a + 1) n)) (filter (λ to. not (to == m.id)) (range_with_len (a + 1) n))) ++ one_in m epoch body k
    at true ih = ap (λ (letters : List Letter). letter_to m epoch body (Manager a) ∷ letters) ih
    at false ih = ih

pub others_more : (m : ManagerState) (epoch : ℕ) (body : Body) (n : ℕ) → to_first_others m epoch body (n + 1) ≡ to_first_others m epoch body n ++ one_in m epoch body n
others_more m epoch body n = rw add-one (last_of m epoch body 0 n n (omega arith))

-- what a manager takes from no node
pub dropped_from_node : (body : Body) (m : ManagerState) (from : NodeId) → ((asked : ℕ) → body ≡ LeaseAsk asked → ⊥) → idle m ≡ from_node body m from
dropped_from_node (LeaseAsk asked) m from other = absurd (other asked refl)
dropped_from_node (Inv key s kind content) m from other = refl
dropped_from_node (Ack key s top) m from other = refl
dropped_from_node (Val key s) m from other = refl
dropped_from_node (CopyAsk after room) m from other = refl
dropped_from_node (CopyGive after done items) m from other = refl
dropped_from_node (LeaseGive end) m from other = refl
dropped_from_node (Prepare ballot) m from other = refl
dropped_from_node (Promise ballot vote) m from other = refl
dropped_from_node (Accept ballot view) m from other = refl
dropped_from_node (Accepted ballot) m from other = refl
dropped_from_node (Chosen view) m from other = refl
dropped_from_node (Activate view) m from other = refl

-- and what it takes from no manager
pub dropped_from_manager : (body : Body) (m : ManagerState) (epoch from : ℕ) →
    ((ballot : Ballot) → body ≡ Prepare ballot → ⊥) → ((ballot : Ballot) (vote : Option Voted) → body ≡ Promise ballot vote → ⊥) → ((ballot : Ballot) (view : View) → body ≡ Accept ballot view → ⊥) →
    ((ballot : Ballot) → body ≡ Accepted ballot → ⊥) → ((view : View) → body ≡ Chosen view → ⊥) → idle m ≡ from_manager body m epoch from
dropped_from_manager (Prepare ballot) m epoch from p q a t h = absurd (p ballot refl)
dropped_from_manager (Promise ballot vote) m epoch from p q a t h = absurd (q ballot vote refl)
dropped_from_manager (Accept ballot view) m epoch from p q a t h = absurd (a ballot view refl)
dropped_from_manager (Accepted ballot) m epoch from p q a t h = absurd (t ballot refl)
dropped_from_manager (Chosen view) m epoch from p q a t h = absurd (h view refl)
dropped_from_manager (LeaseAsk asked) m epoch from p q a t h = refl
dropped_from_manager (Inv key s kind content) m epoch from p q a t h = refl
dropped_from_manager (Ack key s top) m epoch from p q a t h = refl
dropped_from_manager (Val key s) m epoch from p q a t h = refl
dropped_from_manager (CopyAsk after room) m epoch from p q a t h = refl
dropped_from_manager (CopyGive after done items) m epoch from p q a t h = refl
dropped_from_manager (LeaseGive end) m epoch from p q a t h = refl
dropped_from_manager (Activate view) m epoch from p q a t h = refl

-- ---- which branch it is
pub first_of : {X : Type 0} (b : Bool) (x y : X) → b ≡ true → x ≡ cond b x y
first_of true x y h = refl
first_of false x y h = absurd (false≢true h)

pub second_of : {X : Type 0} (b : Bool) (x y : X) → b ≡ false → y ≡ cond b x y
second_of true x y h = absurd (false≢true (sym h))
second_of false x y h = refl

-- ---- one more letter
pub all_step : (m : ManagerState) (epoch : ℕ) (body same : Body) (n : ℕ) (letters new : List Letter) → same ≡ body → letters ≡ to_first m epoch body n →
    new ≡ letters ++ letter_to m epoch same (Manager n) ∷ [] → new ≡ to_first m epoch body (n + 1)
all_step m epoch body same n letters new is at made =
    made ∙ ap (λ (b : Body). letters ++ letter_to m epoch b (Manager n) ∷ []) is ∙ ap (λ (l : List Letter). l ++ letter_to m epoch body (Manager n) ∷ []) at ∙ sym (first_more m epoch body n)

pub others_step : (m : ManagerState) (epoch : ℕ) (body same : Body) (n : ℕ) (letters new : List Letter) → same ≡ body → letters ≡ to_first_others m epoch body n → (n == m.id) ≡ false →
    new ≡ letters ++ letter_to m epoch same (Manager n) ∷ [] → new ≡ to_first_others m epoch body (n + 1)
others_step m epoch body same n letters new is at apart made =
    let one : one_in m epoch body n ≡ letter_to m epoch body (Manager n) ∷ [] = rw apart refl in
    made ∙ ap (λ (b : Body). letters ++ letter_to m epoch b (Manager n) ∷ []) is ∙ ap (λ (l : List Letter). l ++ letter_to m epoch body (Manager n) ∷ []) at
    ∙ ap (λ (l : List Letter). to_first_others m epoch body n ++ l) (sym one) ∙ sym (others_more m epoch body n)

pub others_skip : (m : ManagerState) (epoch : ℕ) (body : Body) (n : ℕ) (letters : List Letter) → letters ≡ to_first_others m epoch body n → (n == m.id) ≡ true →
    letters ≡ to_first_others m epoch body (n + 1)
others_skip m epoch body n letters at same =
    let one : one_in m epoch body n ≡ [] = rw same refl in
    at ∙ sym (append-nil (to_first_others m epoch body n)) ∙ ap (λ (l : List Letter). to_first_others m epoch body n ++ l) (sym one) ∙ sym (others_more m epoch body n)
