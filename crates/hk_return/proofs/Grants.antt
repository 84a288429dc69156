-- What a manager granted, one grant after the other, and what it notes at its return.
use Rattle.std.proofs.Common.{◌≡◌, ◌≢◌, ◌⊎◌, ℕ, ◌<◌, ◌≤◌, Bool, true, false, cond, List, [], ◌∷◌, ◌++◌, drop, zero, suc, nat_eq, nat_lt, max, refl, sym, ap, ◌∙◌, inl, inr, ⊎_elim, arith, le_refl, le_trans}
use Rattle.std.proofs.lemmas.Bool.{cases_lt, ltb-true, eqb-true, false≢true, or_cases}
use Rattle.hk_base.specs.declared.stamp.NodeId.{NodeId}
use Rattle.hk_base.specs.View.{is_member}
use Rattle.hk_lease.specs.Grants.{until_of, with_grant}
use Rattle.hk_lease.proofs.Noted.{granted_same, granted_other}
use Rattle.hk_earned.specs.Machine.{Setting, Give, In, granted_by, member}
use Rattle.hk_earned.proofs.Places.{same_node, which_node, which_pair, other_give, here_give}
use Rattle.hk_return.specs.Machine.{latest, with_all, noted_again}

pub in_left : {X : Type 0} (xs ys : List X) (x : X) → In xs x → In (xs ++ ys) x
in_left [] ys x h = absurd h
in_left (y ∷ xs) ys x (inl e) = inl e
in_left (y ∷ xs) ys x (inr h) = inr (in_left xs ys x h)

pub in_right : {X : Type 0} (xs ys : List X) (x : X) → In ys x → In (xs ++ ys) x
in_right [] ys x h = h
in_right (y ∷ xs) ys x h = inr (in_right xs ys x h)

pub in_either : {X : Type 0} (xs ys : List X) (x : X) → In (xs ++ ys) x → In xs x ⊎ In ys x
in_either [] ys x h = inr h
in_either (y ∷ xs) ys x (inl e) = inl (inl e)
in_either (y ∷ xs) ys x (inr h) = ⊎_elim (λ (l : In xs x). inl (inr l)) (λ (r : In ys x). inr r) (in_either xs ys x h)

pub in_drop : {X : Type 0} (n : ℕ) (xs : List X) (x : X) → In (drop n xs) x → In xs x
in_drop zero xs x h = h
in_drop (suc n) [] x h = absurd h
in_drop (suc n) (y ∷ xs) x h = inr (in_drop n xs x h)

-- ---- grants
-- a letter of this grant
pub record IsGive (gives : List Give) (m : ℕ) (n : NodeId) (end : ℕ) : Type 0 where
  pub give : Give
  pub among : In gives give
  pub its_manager : give.manager ≡ m
  pub its_node : give.node ≡ n
  pub its_end : give.end ≡ end

-- the manager granted the node this end, by a letter or from the start
abbrev pub Granted : Setting → List Give → ℕ → NodeId → ℕ → Type 0
Granted s gives m n end = IsGive gives m n end ⊎ ((n.0 < s.founders) × (end ≡ s.lease))

pub granted_more : (s : Setting) (xs ys : List Give) (m : ℕ) (n : NodeId) (end : ℕ) → ((give : Give) → In xs give → give.manager ≡ m → In ys give) → Granted s xs m n end → Granted s ys m n end
granted_more s xs ys m n end up (inl g) = inl (record { give = g.give; among = up g.give g.among g.its_manager; its_manager = g.its_manager; its_node = g.its_node; its_end = g.its_end })
granted_more s xs ys m n end up (inr f) = inr f

pub granted_last : (s : Setting) (give : Give) (gives : List Give) (m : ℕ) (n : NodeId) (end : ℕ) → Granted s (give ∷ gives) m n end → ((n ≡ give.node) × (end ≡ give.end)) ⊎ Granted s gives m n end
granted_last s give gives m n end (inr f) = inr (inr f)
granted_last s give gives m n end (inl g) = ⊎_elim
    (λ (e : g.give ≡ give). inl (sym g.its_node ∙ ap (λ (x : Give). x.node) e, sym g.its_end ∙ ap (λ (x : Give). x.end) e))
    (λ (i : In gives g.give). inr (inl (record { give = g.give; among = i; its_manager = g.its_manager; its_node = g.its_node; its_end = g.its_end }))) g.among

-- the greatest end that it granted it is one of them
pub greatest_granted : (s : Setting) (gives : List Give) (m : ℕ) (n : NodeId) → 1 ≤ granted_by s.lease s.founders gives m n → Granted s gives m n (granted_by s.lease s.founders gives m n)
greatest_granted s [] m n some = by_place (nat_lt n.0 s.founders) refl some
  where
    by_place : (t : Bool) → nat_lt n.0 s.founders ≡ t → 1 ≤ cond t s.lease 0 → Granted s [] m n (cond t s.lease 0)
    by_place true e h = inr (ltb-true n.0 s.founders e, refl)
    by_place false e h = absurd (omega (arith, h))
greatest_granted s (give ∷ gives) m n some = ⊎_elim here there (which_pair give.manager give.node m n) (greatest_granted s gives m n)
  where
    older : ℕ
    older = granted_by s.lease s.founders gives m n

    there : ((m ≡ give.manager) × (n ≡ give.node) → ⊥) → (1 ≤ older → Granted s gives m n older) → Granted s (give ∷ gives) m n (granted_by s.lease s.founders (give ∷ gives) m n)
    there o before =
        let a = other_give s.lease s.founders gives give m n o in
        rw a (granted_more s gives (give ∷ gives) m n older (λ g i q. inr i) (before (omega (arith, a, some))))

    here : (m ≡ give.manager) × (n ≡ give.node) → (1 ≤ older → Granted s gives m n older) → Granted s (give ∷ gives) m n (granted_by s.lease s.founders (give ∷ gives) m n)
    here e before = rw now (⊎_elim
        (λ (l : older < give.end). let is : max older give.end ≡ give.end = omega (arith, l) in rw is (inl (record { give = give; among = inl refl; its_manager = sym e.0; its_node = sym e.1; its_end = refl })))
        (λ (g : give.end ≤ older).
        let is : max older give.end ≡ older = omega (arith, g) in
        rw is (granted_more s gives (give ∷ gives) m n older (λ g i q. inr i) (before (omega (arith, now, g, some))))) (cases_lt older give.end))
      where
        now : granted_by s.lease s.founders (give ∷ gives) m n ≡ max older give.end
        now = rw (e.0, e.1) (here_give s.lease s.founders gives give)

pub more_granted : (s : Setting) (give : Give) (gives : List Give) (m : ℕ) (n : NodeId) → granted_by s.lease s.founders gives m n ≤ granted_by s.lease s.founders (give ∷ gives) m n
more_granted s give gives m n = ⊎_elim
    (λ (e : (m ≡ give.manager) × (n ≡ give.node)). let a = here_give s.lease s.founders gives give in rw (e.0, e.1) (omega (arith, a)))
    (λ (o : (m ≡ give.manager) × (n ≡ give.node) → ⊥). let a = other_give s.lease s.founders gives give m n o in omega (arith, a)) (which_pair give.manager give.node m n)

pub all_granted : (s : Setting) (more gives : List Give) (m : ℕ) (n : NodeId) → granted_by s.lease s.founders gives m n ≤ granted_by s.lease s.founders (more ++ gives) m n
all_granted s [] gives m n = le_refl (granted_by s.lease s.founders gives m n)
all_granted s (give ∷ more) gives m n = le_trans (all_granted s more gives m n) (more_granted s give (more ++ gives) m n)

pub is_granted : (s : Setting) (gives : List Give) (give : Give) → In gives give → give.end ≤ granted_by s.lease s.founders gives give.manager give.node
is_granted s [] give i = absurd i
is_granted s (first ∷ gives) give (inl e) = rw e (let h = here_give s.lease s.founders gives first in omega (arith, h))
is_granted s (first ∷ gives) give (inr i) = le_trans (is_granted s gives give i) (more_granted s first gives give.manager give.node)

-- ---- epochs in falling order
abbrev pub Descends : List ℕ → Type 0
Descends [] = Unit
Descends (epoch ∷ earlier) = ((e : ℕ) → In earlier e → e ≤ epoch) × Descends earlier

pub latest_is : (xs : List ℕ) (x : ℕ) → In xs x → In xs (latest xs)
latest_is [] x h = absurd h
latest_is (y ∷ xs) x h = inl refl

pub below_latest : (xs : List ℕ) → Descends xs → (x : ℕ) → In xs x → x ≤ latest xs
below_latest [] d x h = absurd h
below_latest (y ∷ xs) d x (inl e) = omega (arith, e)
below_latest (y ∷ xs) d x (inr h) = d.0 x h

pub descends_left : (n : ℕ) (xs ys : List ℕ) → Descends (xs ++ ys) → Descends (drop n xs ++ ys)
descends_left zero xs ys d = d
descends_left (suc n) [] ys d = d
descends_left (suc n) (x ∷ xs) ys d = descends_left n xs ys d.1

-- ---- what a manager notes
pub until_up : (untils : List (NodeId × ℕ)) (n : NodeId) (until : ℕ) (k : NodeId) → until_of untils k ≤ until_of (with_grant untils n until) k
until_up untils n until k = ⊎_elim
    (λ (e : k ≡ n). let h = granted_same untils n until in rw e (omega (arith, h)))
    (λ (d : k ≢ n). let h = granted_other untils n until k (λ q. d (same_node k n q)) in omega (arith, h)) (which_node k n)

pub until_noted : (untils : List (NodeId × ℕ)) (n : NodeId) (until : ℕ) → until ≤ until_of (with_grant untils n until) n
until_noted untils n until = let h = granted_same untils n until in omega (arith, h)

pub all_up : (untils : List (NodeId × ℕ)) (nodes : List NodeId) (until : ℕ) (k : NodeId) → until_of untils k ≤ until_of (with_all untils nodes until) k
all_up untils [] until k = le_refl (until_of untils k)
all_up untils (n ∷ nodes) until k = le_trans (until_up untils n until k) (all_up (with_grant untils n until) nodes until k)

pub all_noted : (untils : List (NodeId × ℕ)) (nodes : List NodeId) (until : ℕ) (k : NodeId) → is_member k nodes ≡ true → until ≤ until_of (with_all untils nodes until) k
all_noted untils [] until k h = absurd (false≢true h)
all_noted untils (n ∷ nodes) until k h = ⊎_elim
    (λ (e : nat_eq n.0 k.0 ≡ true). let s : k ≡ n = same_node k n (sym (eqb-true n.0 k.0 e)) in le_trans (rw s (until_noted untils n until)) (all_up (with_grant untils n until) nodes until k))
    (λ (m : is_member k nodes ≡ true). all_noted (with_grant untils n until) nodes until k m) (or_cases (nat_eq n.0 k.0) (is_member k nodes) h)

-- a member of one of the views of these epochs
pub record IsInOne (s : Setting) (epochs : List ℕ) (n : NodeId) : Type 0 where
  pub epoch : ℕ
  pub among : In epochs epoch
  pub member : member s epoch n ≡ true

pub in_one_more : (s : Setting) (xs ys : List ℕ) (n : NodeId) → ((e : ℕ) → In xs e → In ys e) → IsInOne s xs n → IsInOne s ys n
in_one_more s xs ys n up h = record { epoch = h.epoch; among = up h.epoch h.among; member = h.member }

pub noted_for_all : (s : Setting) (epochs : List ℕ) (until : ℕ) (n : NodeId) → IsInOne s epochs n → until ≤ until_of (noted_again s epochs until) n
noted_for_all s [] until n h = absurd h.among
noted_for_all s (epoch ∷ earlier) until n h = ⊎_elim
    (λ (e : h.epoch ≡ epoch). all_noted (noted_again s earlier until) (s.views epoch).members until n (rw (sym e) h.member))
    (λ (i : In earlier h.epoch).
    le_trans (noted_for_all s earlier until n (record { epoch = h.epoch; among = i; member = h.member })) (all_up (noted_again s earlier until) (s.views epoch).members until n)) h.among
