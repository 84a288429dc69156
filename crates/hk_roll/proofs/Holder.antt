-- A number has one holder.
--
-- What counts is to what each manager bound a number *first*. That never changes, and at most one ticket has it from a majority, since two majorities meet. A
-- manager changes a binding only to a ticket that a majority told, each at some moment; of these either one had bound it by such a change before, or all had
-- bound it first. So every binding of a log is the manager's first one, or of the ticket that a majority bound first.
use Rattle.std.proofs.Common.{◌≡◌, ◌≢◌, ◌⊎◌, ◌<◌, ◌≤◌, ◌+◌, ◌/◌, ◌==◌, nat_lt, ℕ, zero, suc, Bool, true, false, cond, List, [], ◌∷◌, ◌++◌, length, slice_get, Option, None, Some, refl, sym, ap, ◌∙◌, subst, inl, inr, arith}
use Rattle.std.specs.List.{count_by, find}
use Rattle.std.specs.BTreeMap.{is_at}
use Rattle.std.proofs.lemmas.Bool.{true≢false, eqb-true, eqb-false, eq-eqb, ne_eqb, ltb-true, lt-ltb}
use Rattle.std.proofs.lemmas.List.Sums.{sum_by-cons}
use Rattle.hk_base.specs.declared.stamp.NodeId.{NodeId}
use Rattle.hk_base.specs.declared.letter.Actor.{Actor}
use Rattle.hk_base.specs.declared.letter.Actor.TheVariants.{Node, Manager}
use Rattle.hk_base.specs.declared.view.View.{View}
use Rattle.hk_fields.specs.declared.tickets.Ticket.{Ticket}
use Rattle.hk_roll.specs.declared.binding.Binding.{Binding}
use Rattle.hk_roll.specs.declared.binding.Founder.{Founder}
use Rattle.hk_roll.specs.declared.steps.Seating.{Seating}
use Rattle.hk_roll.specs.Rolls.{by_actor, Entries, bound, with_bound, replayed, node_bindings, host_bindings, founding}
use Rattle.hk_roll.specs.Boards.{names, is_by_most, flat, named}
use Rattle.hk_roll.specs.Numbers.{next_number}
use Rattle.hk_roll.specs.Steps.{claimed, seated}
use Rattle.hk_roll.specs.Group.{Told, Group, Event, put, In, logs, tells, next, last, start, WereTold, MayHappen, IsRun, counted, Most, Binds, HasTold}
use Rattle.hk_roll.specs.Group.Event.{Seat, Claim, Tell, Restart}
use Rattle.hk_roll.specs.Laws.{IsAllowed, LogTellsTheRoll, OneHolder, HoldersStay, OneHolderIsTold}
use Rattle.hk_roll.proofs.Lookups.{named_is, is_named, at_itself, same_at, bound_same, bound_other, replayed_more, first, never_bound, was_bound}
use Rattle.hk_roll.proofs.Rule.{claim_allowed, seat_allowed}

-- ---- puts
pub put_at : {X : Type 0} (m : ℕ) (x : X) (f : ℕ → X) (n : ℕ) → n ≡ m → put m x f n ≡ x
put_at m x f n e = rw (eq-eqb n m e) refl

pub put_off : {X : Type 0} (m : ℕ) (x : X) (f : ℕ → X) (n : ℕ) → n ≢ m → put m x f n ≡ f n
put_off m x f n d = rw (ne_eqb n m d) refl

-- ---- counting

counted_le : (f g : ℕ → Bool) (n : ℕ) → ((m : ℕ) → m < n → f m ≡ true → g m ≡ true) → counted f n ≤ counted g n
counted_le f g zero imp = omega arith
counted_le f g (suc n) imp = at (f 0) (g 0) refl refl (counted_le (λ m. f (suc m)) (λ m. g (suc m)) n (λ m lt e. imp (suc m) (omega (arith, lt)) e))
  where
    at : (a b : Bool) → f 0 ≡ a → g 0 ≡ b → counted (λ m. f (suc m)) n ≤ counted (λ m. g (suc m)) n →
        cond a 1 0 + counted (λ m. f (suc m)) n ≤ cond b 1 0 + counted (λ m. g (suc m)) n
    at true true p q more = omega (arith, more)
    at true false p q more = absurd (true≢false (sym (imp 0 (omega arith) p) ∙ q))
    at false true p q more = omega (arith, more)
    at false false p q more = omega (arith, more)

pub record Meets (f g : ℕ → Bool) (n : ℕ) : Type 0 where
  pub place : ℕ
  pub below : place < n
  pub one : f place ≡ true
  pub other : g place ≡ true

pub meet : (f g : ℕ → Bool) (n : ℕ) → n < counted f n + counted g n → Meets f g n
meet f g zero more = absurd (omega (arith, more))
meet f g (suc n) more = at (f 0) (g 0) refl refl (meet (λ m. f (suc m)) (λ m. g (suc m)) n) more
  where
    behind : Meets (λ m. f (suc m)) (λ m. g (suc m)) n → Meets f g (suc n)
    behind m = let lt = m.below in record { place = suc m.place; below = omega (arith, lt); one = m.one; other = m.other }

    at : (a b : Bool) → f 0 ≡ a → g 0 ≡ b → (n < counted (λ m. f (suc m)) n + counted (λ m. g (suc m)) n → Meets (λ m. f (suc m)) (λ m. g (suc m)) n) →
        suc n < (cond a 1 0 + counted (λ m. f (suc m)) n) + (cond b 1 0 + counted (λ m. g (suc m)) n) → Meets f g (suc n)
    at true true p q later more = record { place = 0; below = omega arith; one = p; other = q }
    at true false p q later more = behind (later (omega (arith, more)))
    at false true p q later more = behind (later (omega (arith, more)))
    at false false p q later more = behind (later (omega (arith, more)))

-- two majorities have more than all
pub halves : (n a b : ℕ) → n / 2 < a → n / 2 < b → n < a + b
halves n a b p q = omega (arith, p, q)

-- the boards that name a ticket, by the places of their managers
pub boards_counted : (t : Ticket) (boards : List (Option Ticket)) → counted (λ p. names t (flat (slice_get boards p))) (length boards) ≡ count_by (names t) boards
boards_counted t [] = refl
boards_counted t (x ∷ xs) = ap (λ (n : ℕ). cond (names t x) 1 0 + n) (boards_counted t xs) ∙ sym (sum_by-cons (λ y. cond (names t y) 1 0) x xs)

-- ---- lists

pub in_either : {X : Type 0} (xs ys : List X) (x : X) → In (xs ++ ys) x → In xs x ⊎ In ys x
in_either [] ys x i = inr i
in_either (z ∷ xs) ys x (inl e) = inl (inl e)
in_either (z ∷ xs) ys x (inr i) = at (in_either xs ys x i)
  where
    at : In xs x ⊎ In ys x → In (z ∷ xs) x ⊎ In ys x
    at (inl j) = inl (inr j)
    at (inr j) = inr j

in_front : {X : Type 0} (xs ys : List X) (x : X) → In xs x → In (xs ++ ys) x
in_front [] ys x i = absurd i
in_front (z ∷ xs) ys x (inl e) = inl e
in_front (z ∷ xs) ys x (inr i) = inr (in_front xs ys x i)

first_more : (a : Actor) (xs ys : List Binding) (t : Ticket) → first a xs ≡ Some t → first a (xs ++ ys) ≡ Some t
first_more a [] ys t e = absurd cc
first_more a (x ∷ xs) ys t e = at (is_at (by_actor a) x.actor) e (first_more a xs ys t)
  where
    at : (b : Bool) → cond b (Some x.ticket) (first a xs) ≡ Some t → (first a xs ≡ Some t → first a (xs ++ ys) ≡ Some t) → cond b (Some x.ticket) (first a (xs ++ ys)) ≡ Some t
    at true e more = e
    at false e more = more e

first_last : (xs : List Binding) (b : Binding) → first b.actor xs ≡ None → first b.actor (xs ++ b ∷ []) ≡ Some b.ticket
first_last [] b e = rw (at_itself b.actor) refl
first_last (x ∷ xs) b e = at (is_at (by_actor b.actor) x.actor) e (first_last xs b)
  where
    at : (c : Bool) → cond c (Some x.ticket) (first b.actor xs) ≡ None → (first b.actor xs ≡ None → first b.actor (xs ++ b ∷ []) ≡ Some b.ticket) →
        cond c (Some x.ticket) (first b.actor (xs ++ b ∷ [])) ≡ Some b.ticket
    at true e more = absurd cc
    at false e more = more e

pub find_passes : (test : Option Ticket → Bool) (xs : List (Option Ticket)) (x : Option Ticket) → find test xs ≡ Some x → test x ≡ true
find_passes test [] x e = absurd cc
find_passes test (y ∷ xs) x e = at (test y) refl e (find_passes test xs x)
  where
    at : (b : Bool) → test y ≡ b → cond b (Some y) (find test xs) ≡ Some x → (find test xs ≡ Some x → test x ≡ true) → test x ≡ true
    at true is e later = let same : y ≡ x = cc in subst (λ (z : Option Ticket). test z ≡ true) same is
    at false is e later = later e

pub named_by_most : (boards : List (Option Ticket)) (t : Ticket) → named boards ≡ Some t → is_by_most boards (Some t) ≡ true
named_by_most boards t e = at (find (is_by_most boards) boards) refl e
  where
    at : (x : Option (Option Ticket)) → find (is_by_most boards) boards ≡ x → flat x ≡ Some t → is_by_most boards (Some t) ≡ true
    at None is e = absurd cc
    at (Some y) is e = subst (λ (z : Option Ticket). is_by_most boards z ≡ true) e (find_passes (is_by_most boards) boards y is)

pub flat_is : (x : Option (Option Ticket)) (t : Ticket) → flat x ≡ Some t → x ≡ Some (Some t)
flat_is None t e = absurd cc
flat_is (Some y) t e = ap Some e

-- ---- what is first

module _ (managers : ℕ) where
  -- more than half of the managers bound the number to the ticket first
  abbrev MostFirst : Group → Actor → Ticket → Type 0
  MostFirst g a t = nat_lt (managers / 2) (counted (λ m. names t (first a (g.log m))) managers) ≡ true

  pub record Sound (g : Group) : Type 0 where
    pub roll : (m : ℕ) → g.roll m ≡ replayed [] (g.log m)
    pub chosen : (m : ℕ) (b : Binding) → In (g.log m) b → (first b.actor (g.log m) ≡ Some b.ticket) ⊎ MostFirst g b.actor b.ticket
    pub told : (s : Told) → In g.told s → In (g.log s.from) (record { actor = Node s.node; ticket = s.ticket })

  -- ---- what it gives

  some_same : (x : Option Ticket) (t u : Ticket) → x ≡ Some t → x ≡ Some u → t ≡ u
  some_same x t u p q = let e : Some t ≡ Some u = sym p ∙ q in cc

  two_most : (g : Group) (a : Actor) (t u : Ticket) → MostFirst g a t → MostFirst g a u → t ≡ u
  two_most g a t u p q =
      let m = meet (λ m. names t (first a (g.log m))) (λ m. names u (first a (g.log m))) managers
      (halves managers (counted (λ m. names t (first a (g.log m))) managers) (counted (λ m. names u (first a (g.log m))) managers)
      (ltb-true (managers / 2) (counted (λ m. names t (first a (g.log m))) managers) p) (ltb-true (managers / 2) (counted (λ m. names u (first a (g.log m))) managers) q)) in
      some_same (first a (g.log m.place)) t u (named_is t (first a (g.log m.place)) m.one) (named_is u (first a (g.log m.place)) m.other)

  -- What a majority has bound, each at some moment, a majority bound first.
  most_first : (g : Group) → Sound g → (a : Actor) (t : Ticket) → Most managers (λ m. In (g.log m) (record { actor = a; ticket = t })) → MostFirst g a t
  most_first g s a t most = at (nat_lt (managers / 2) (counted (λ m. names t (first a (g.log m))) managers)) refl
    where
      at : (b : Bool) → nat_lt (managers / 2) (counted (λ m. names t (first a (g.log m))) managers) ≡ b → MostFirst g a t
      at true e = e
      at false e = absurd (true≢false (sym now ∙ e))
        where
          by : (m : ℕ) → (first a (g.log m) ≡ Some t) ⊎ MostFirst g a t → names t (first a (g.log m)) ≡ true
          by m (inl is) = is_named t (first a (g.log m)) is
          by m (inr others) = absurd (true≢false (sym others ∙ e))

          few : counted most.who managers ≤ counted (λ m. names t (first a (g.log m))) managers
          few = counted_le most.who (λ m. names t (first a (g.log m))) managers (λ m lt w. by m (s.chosen m (record { actor = a; ticket = t }) (most.all m lt w)))

          now : MostFirst g a t
          now = lt-ltb (managers / 2) (counted (λ m. names t (first a (g.log m))) managers) (let more = most.more in let le = few in omega (arith, more, le))

  -- ---- a group whose managers have bound more

  abbrev Keeps : Group → Group → Type 0
  Keeps g h = (m : ℕ) (a : Actor) (t : Ticket) → first a (g.log m) ≡ Some t → first a (h.log m) ≡ Some t

  still_most : (g h : Group) → Keeps g h → (a : Actor) (t : Ticket) → MostFirst g a t → MostFirst h a t
  still_most g h keeps a t most =
      let before = ltb-true (managers / 2) (counted (λ m. names t (first a (g.log m))) managers) most in
      let grows = counted_le (λ m. names t (first a (g.log m))) (λ m. names t (first a (h.log m))) managers
      (λ m lt e. is_named t (first a (h.log m)) (keeps m a t (named_is t (first a (g.log m)) e))) in
      lt-ltb (managers / 2) (counted (λ m. names t (first a (h.log m))) managers) (omega (arith, before, grows))

  -- ---- a binding is logged

  module _ (g : Group) (s : Sound g) (m : ℕ) (b : Binding) where
    abbrev after : Group
    after = logs g m (Some b)

    log_at : (n : ℕ) → n ≡ m → put m (g.log m ++ b ∷ []) g.log n ≡ g.log m ++ b ∷ []
    log_at n e = put_at m (g.log m ++ b ∷ []) g.log n e

    log_off : (n : ℕ) → n ≢ m → put m (g.log m ++ b ∷ []) g.log n ≡ g.log n
    log_off n d = put_off m (g.log m ++ b ∷ []) g.log n d

    keeps_firsts : Keeps g (logs g m (Some b))
    keeps_firsts n a t e = at (n == m) refl
      where
        at : (v : Bool) → (n == m) ≡ v → first a (put m (g.log m ++ b ∷ []) g.log n) ≡ Some t
        at true is =
            let q = eqb-true n m is in
            ap (λ (l : List Binding). first a l) (log_at n q) ∙ first_more a (g.log m) (b ∷ []) t (subst (λ (k : ℕ). first a (g.log k) ≡ Some t) q e)
        at false is = ap (λ (l : List Binding). first a l) (log_off n (eqb-false n m is)) ∙ e

    keeps_entries : (n : ℕ) (c : Binding) → In (g.log n) c → In (put m (g.log m ++ b ∷ []) g.log n) c
    keeps_entries n c i = at (n == m) refl
      where
        at : (v : Bool) → (n == m) ≡ v → In (put m (g.log m ++ b ∷ []) g.log n) c
        at true is =
            let q = eqb-true n m is in
            subst (λ (l : List Binding). In l c) (sym (log_at n q)) (in_front (g.log m) (b ∷ []) c (subst (λ (k : ℕ). In (g.log k) c) q i))
        at false is = subst (λ (l : List Binding). In l c) (sym (log_off n (eqb-false n m is))) i

    module _ (allowed : (bound b.actor (g.roll m) ≡ None) ⊎ MostFirst g b.actor b.ticket) where
      abbrev Chosen : ℕ → Binding → Type 0
      Chosen n c = (first c.actor (put m (g.log m ++ b ∷ []) g.log n) ≡ Some c.ticket) ⊎ MostFirst (logs g m (Some b)) c.actor c.ticket

      old_chosen : (n : ℕ) (c : Binding) → In (g.log n) c → Chosen n c
      old_chosen n c i = at (s.chosen n c i)
        where
          at : (first c.actor (g.log n) ≡ Some c.ticket) ⊎ MostFirst g c.actor c.ticket → Chosen n c
          at (inl is) = inl (keeps_firsts n c.actor c.ticket is)
          at (inr most) = inr (still_most g (logs g m (Some b)) keeps_firsts c.actor c.ticket most)

      new_chosen : (n : ℕ) → n ≡ m → Chosen n b
      new_chosen n q = at allowed
        where
          at : (bound b.actor (g.roll m) ≡ None) ⊎ MostFirst g b.actor b.ticket → Chosen n b
          at (inl free) =
              let never = never_bound b.actor (g.log m) [] (ap (λ (r : Entries). bound b.actor r) (sym (s.roll m)) ∙ free) in
              inl (ap (λ (l : List Binding). first b.actor l) (log_at n q) ∙ first_last (g.log m) b never.1)
          at (inr most) = inr (still_most g (logs g m (Some b)) keeps_firsts b.actor b.ticket most)

      chosen_after : (n : ℕ) (c : Binding) → In (put m (g.log m ++ b ∷ []) g.log n) c → Chosen n c
      chosen_after n c i = at (n == m) refl
        where
          at : (v : Bool) → (n == m) ≡ v → Chosen n c
          at false is = old_chosen n c (subst (λ (l : List Binding). In l c) (log_off n (eqb-false n m is)) i)
          at true is = by (in_either (g.log m) (b ∷ []) c (subst (λ (l : List Binding). In l c) (log_at n (eqb-true n m is)) i))
            where
              by : In (g.log m) c ⊎ In (b ∷ []) c → Chosen n c
              by (inl old) = old_chosen n c (subst (λ (k : ℕ). In (g.log k) c) (sym (eqb-true n m is)) old)
              by (inr (inl new)) = subst (λ (x : Binding). Chosen n x) (sym new) (new_chosen n (eqb-true n m is))
              by (inr (inr none)) = absurd none

      roll_after : (n : ℕ) → put m (with_bound (g.roll m) b) g.roll n ≡ replayed [] (put m (g.log m ++ b ∷ []) g.log n)
      roll_after n = at (n == m) refl
        where
          at : (v : Bool) → (n == m) ≡ v → put m (with_bound (g.roll m) b) g.roll n ≡ replayed [] (put m (g.log m ++ b ∷ []) g.log n)
          at true is =
              let q = eqb-true n m is in
              put_at m (with_bound (g.roll m) b) g.roll n q ∙ ap (λ (r : Entries). with_bound r b) (s.roll m) ∙ sym (replayed_more [] (g.log m) (b ∷ [])) ∙
              ap (λ (l : List Binding). replayed [] l) (sym (log_at n q))
          at false is =
              let d = eqb-false n m is in
              put_off m (with_bound (g.roll m) b) g.roll n d ∙ s.roll n ∙ ap (λ (l : List Binding). replayed [] l) (sym (log_off n d))

      sound_after : Sound (logs g m (Some b))
      sound_after = record { roll = roll_after; chosen = chosen_after; told = λ t i. keeps_entries t.from (record { actor = Node t.node; ticket = t.ticket }) (s.told t i) }

  -- ---- what a step may log

  -- boards by which a majority names a ticket tell what a majority has bound
  told_most : (g : Group) → Sound g → (node : NodeId) (boards : List (Option Ticket)) → length boards ≡ managers → WereTold g node boards → (t : Ticket) → named boards ≡ Some t →
      MostFirst g (Node node) t
  told_most g s node boards long were t e = most_first g s (Node node) t (record { who = λ p. names t (flat (slice_get boards p)); more = many; all = λ p lt w. there p w })
    where
      many : managers / 2 < counted (λ p. names t (flat (slice_get boards p))) managers
      many =
          let count = ltb-true (length boards / 2) (count_by (names t) boards) (named_by_most boards t e) in
          subst (λ (n : ℕ). n / 2 < counted (λ p. names t (flat (slice_get boards p))) n) long (subst (λ (n : ℕ). length boards / 2 < n) (sym (boards_counted t boards)) count)

      there : (p : ℕ) → names t (flat (slice_get boards p)) ≡ true → In (g.log p) (record { actor = Node node; ticket = t })
      there p w =
          let at = flat_is (slice_get boards p) t (named_is t (flat (slice_get boards p)) w) in
          s.told (record { from = p; node = node; ticket = t }) (were p t at)

  abbrev MayLog : Group → ℕ → Binding → Type 0
  MayLog g m b = (bound b.actor (g.roll m) ≡ None) ⊎ MostFirst g b.actor b.ticket

  claim_may : (g : Group) → Sound g → (m : ℕ) (views : List View) (boards : List (Option Ticket)) (node : NodeId) (ticket : Ticket) → MayHappen managers g (Claim m views boards node ticket) →
      (b : Binding) → (claimed (g.roll m) views boards node ticket).logged ≡ Some b → MayLog g m b
  claim_may g s m views boards node ticket may b e = at (claim_allowed (g.roll m) views boards node ticket b e)
    where
      at : IsAllowed (g.roll m) views boards node ticket b → MayLog g m b
      at a = by a.changes
        where
          by : (bound (Node node) (g.roll m) ≡ None) ⊎ (named boards ≡ Some ticket) → MayLog g m b
          by (inl free) = inl (subst (λ (x : Binding). bound x.actor (g.roll m) ≡ None) (sym a.is) free)
          by (inr most) = inr (subst (λ (x : Binding). MostFirst g x.actor x.ticket) (sym a.is) (told_most g s node boards may.1 may.2 ticket most))

  seat_may : (g : Group) (m : ℕ) (views : List View) (seating : Seating) (ticket : Ticket) (b : Binding) → (seated (g.roll m) views seating ticket).logged ≡ Some b → MayLog g m b
  seat_may g m views seating ticket b e = at (seat_allowed (g.roll m) views seating ticket b e)
    where
      at : (node : NodeId) × (next_number views ≡ Some node) × IsAllowed (g.roll m) views [] node ticket b → MayLog g m b
      at (node, is, a) = by a.changes
        where
          by : (bound (Node node) (g.roll m) ≡ None) ⊎ (named [] ≡ Some ticket) → MayLog g m b
          by (inl free) = inl (subst (λ (x : Binding). bound x.actor (g.roll m) ≡ None) (sym a.is) free)
          by (inr none) = absurd cc

  -- ---- each event

  -- what a step logs, if anything
  logged_sound : (g : Group) → Sound g → (m : ℕ) (x : Option Binding) → ((b : Binding) → x ≡ Some b → MayLog g m b) → Sound (logs g m x)
  logged_sound g s m None may = s
  logged_sound g s m (Some b) may = sound_after g s m b (may b refl)

  logged_keeps : (g : Group) → Sound g → (m : ℕ) (x : Option Binding) → Keeps g (logs g m x)
  logged_keeps g s m None = λ n a t e. e
  logged_keeps g s m (Some b) = keeps_firsts g s m b

  told_sound : (g : Group) → Sound g → (m : ℕ) (node : NodeId) (x : Option Ticket) → bound (Node node) (g.roll m) ≡ x → Sound (tells g m node x)
  told_sound g s m node None is = s
  told_sound g s m node (Some t) is = record { roll = s.roll; chosen = s.chosen; told = told }
    where
      entry : (bound (Node node) [] ≡ Some t) ⊎ In (g.log m) (record { actor = Node node; ticket = t }) → In (g.log m) (record { actor = Node node; ticket = t })
      entry (inl none) = absurd cc
      entry (inr there) = there

      told : (s : Told) → (s ≡ record { from = m; node = node; ticket = t }) ⊎ In g.told s → In (g.log s.from) (record { actor = Node s.node; ticket = s.ticket })
      told x (inr old) = s.told x old
      told x (inl new) =
          subst (λ (y : Told). In (g.log y.from) (record { actor = Node y.node; ticket = y.ticket })) (sym new)
          (entry (was_bound (Node node) t (g.log m) [] (ap (λ (r : Entries). bound (Node node) r) (sym (s.roll m)) ∙ is)))

  told_keeps : (g : Group) (m : ℕ) (node : NodeId) (x : Option Ticket) → Keeps g (tells g m node x)
  told_keeps g m node None = λ n a t e. e
  told_keeps g m node (Some u) = λ n a t e. e

  -- a process that begins again has the roll that it had
  pub same_roll : (g : Group) → Sound g → (m n : ℕ) → put m (replayed [] (g.log m)) g.roll n ≡ g.roll n
  same_roll g s m n = at (n == m) refl
    where
      at : (v : Bool) → (n == m) ≡ v → put m (replayed [] (g.log m)) g.roll n ≡ g.roll n
      at true is =
          let q = eqb-true n m is in
          put_at m (replayed [] (g.log m)) g.roll n q ∙ sym (s.roll m) ∙ ap (λ (k : ℕ). g.roll k) (sym q)
      at false is = put_off m (replayed [] (g.log m)) g.roll n (eqb-false n m is)

  pub next_sound : (g : Group) (e : Event) → Sound g → MayHappen managers g e → Sound (next g e)
  next_sound g (Seat m views seating ticket) s may = logged_sound g s m (seated (g.roll m) views seating ticket).logged (λ b e. seat_may g m views seating ticket b e)
  next_sound g (Claim m views boards node ticket) s may =
      logged_sound g s m (claimed (g.roll m) views boards node ticket).logged (λ b e. claim_may g s m views boards node ticket may b e)
  next_sound g (Tell m node) s may = told_sound g s m node (bound (Node node) (g.roll m)) refl
  next_sound g (Restart m) s may = record { roll = λ n. same_roll g s m n ∙ s.roll n; chosen = s.chosen; told = s.told }

  next_keeps : (g : Group) (e : Event) → Sound g → Keeps g (next g e)
  next_keeps g (Seat m views seating ticket) s = logged_keeps g s m (seated (g.roll m) views seating ticket).logged
  next_keeps g (Claim m views boards node ticket) s = logged_keeps g s m (claimed (g.roll m) views boards node ticket).logged
  next_keeps g (Tell m node) s = told_keeps g m node (bound (Node node) (g.roll m))
  next_keeps g (Restart m) s = λ n a t e. e

  run_sound : (g : Group) (events : List Event) → Sound g → IsRun managers g events → Sound (last g events)
  run_sound g [] s run = s
  run_sound g (e ∷ events) s run = run_sound (next g e) events (next_sound g e s run.0) run.1

  run_most : (g : Group) (events : List Event) → Sound g → IsRun managers g events → (a : Actor) (t : Ticket) → MostFirst g a t → MostFirst (last g events) a t
  run_most g [] s run a t most = most
  run_most g (e ∷ events) s run a t most =
      run_most (next g e) events (next_sound g e s run.0) run.1 a t (still_most g (next g e) (next_keeps g e s) a t most)

  -- ---- what a majority has bound first stays bound

  logged_stays : (g : Group) → Sound g → (m : ℕ) (x : Option Binding) → ((b : Binding) → x ≡ Some b → MayLog g m b) → (node : NodeId) (t : Ticket) → MostFirst g (Node node) t →
      (n : ℕ) → Binds g node t n → Binds (logs g m x) node t n
  logged_stays g s m None may node t most n e = e
  logged_stays g s m (Some b) may node t most n e = at (n == m) refl
    where
      here : n ≡ m → bound (Node node) (with_bound (g.roll m) b) ≡ Some t
      here q = by (is_at (by_actor (Node node)) b.actor) refl
        where
          was : bound (Node node) (g.roll m) ≡ Some t
          was = subst (λ (k : ℕ). bound (Node node) (g.roll k) ≡ Some t) q e

          own : Node node ≡ b.actor → MayLog g m b → b.ticket ≡ t
          own who (inl free) = let none : Some t ≡ None = sym was ∙ ap (λ (a : Actor). bound a (g.roll m)) who ∙ free in absurd cc
          own who (inr others) = sym (two_most g b.actor t b.ticket (subst (λ (a : Actor). MostFirst g a t) who most) others)

          by : (v : Bool) → is_at (by_actor (Node node)) b.actor ≡ v → bound (Node node) (with_bound (g.roll m) b) ≡ Some t
          by true is =
              let who = same_at (Node node) b.actor is in
              ap (λ (a : Actor). bound a (with_bound (g.roll m) b)) who ∙ bound_same b (g.roll m) ∙ ap Some (own who (may b refl))
          by false is = bound_other (Node node) b (g.roll m) is ∙ was

      at : (v : Bool) → (n == m) ≡ v → bound (Node node) (put m (with_bound (g.roll m) b) g.roll n) ≡ Some t
      at true is = let q = eqb-true n m is in ap (λ (r : Entries). bound (Node node) r) (put_at m (with_bound (g.roll m) b) g.roll n q) ∙ here q
      at false is = ap (λ (r : Entries). bound (Node node) r) (put_off m (with_bound (g.roll m) b) g.roll n (eqb-false n m is)) ∙ e

  told_stays : (g : Group) (m : ℕ) (other : NodeId) (x : Option Ticket) (node : NodeId) (t : Ticket) (n : ℕ) → Binds g node t n → Binds (tells g m other x) node t n
  told_stays g m other None node t n e = e
  told_stays g m other (Some u) node t n e = e

  next_stays : (g : Group) (e : Event) → Sound g → MayHappen managers g e → (node : NodeId) (t : Ticket) → MostFirst g (Node node) t → (n : ℕ) → Binds g node t n → Binds (next g e) node t n
  next_stays g (Seat m views seating ticket) s may node t most n e =
      logged_stays g s m (seated (g.roll m) views seating ticket).logged (λ b is. seat_may g m views seating ticket b is) node t most n e
  next_stays g (Claim m views boards other ticket) s may node t most n e =
      logged_stays g s m (claimed (g.roll m) views boards other ticket).logged (λ b is. claim_may g s m views boards other ticket may b is) node t most n e
  next_stays g (Tell m other) s may node t most n e = told_stays g m other (bound (Node other) (g.roll m)) node t n e
  next_stays g (Restart m) s may node t most n e = ap (λ (r : Entries). bound (Node node) r) (same_roll g s m n) ∙ e

  run_stays : (g : Group) (events : List Event) → Sound g → IsRun managers g events → (node : NodeId) (t : Ticket) → MostFirst g (Node node) t → (n : ℕ) → Binds g node t n → Binds (last g events) node t n
  run_stays g [] s run node t most n e = e
  run_stays g (x ∷ events) s run node t most n e =
      run_stays (next g x) events (next_sound g x s run.0) run.1 node t (still_most g (next g x) (next_keeps g x s) (Node node) t most) n (next_stays g x s run.0 node t most n e)

  -- what a majority binds now, it has bound
  binds_most : (g : Group) → Sound g → (node : NodeId) (t : Ticket) → Most managers (Binds g node t) → MostFirst g (Node node) t
  binds_most g s node t most = most_first g s (Node node) t (record { who = most.who; more = most.more; all = λ m lt w. there m (most.all m lt w) })
    where
      entry : (m : ℕ) → (bound (Node node) [] ≡ Some t) ⊎ In (g.log m) (record { actor = Node node; ticket = t }) → In (g.log m) (record { actor = Node node; ticket = t })
      entry m (inl none) = absurd cc
      entry m (inr there) = there

      there : (m : ℕ) → Binds g node t m → In (g.log m) (record { actor = Node node; ticket = t })
      there m e = entry m (was_bound (Node node) t (g.log m) [] (ap (λ (r : Entries). bound (Node node) r) (sym (s.roll m)) ∙ e))

  told_most_bound : (g : Group) → Sound g → (node : NodeId) (t : Ticket) → Most managers (HasTold g node t) → MostFirst g (Node node) t
  told_most_bound g s node t most =
      most_first g s (Node node) t (record { who = most.who; more = most.more; all = λ m lt w. s.told (record { from = m; node = node; ticket = t }) (most.all m lt w) })

-- ---- the founding binds each number once

abbrev pub number : Actor → ℕ
number (Node node) = node.0
number (Manager m) = m

pub node_above : (k : ℕ) (x : Option Ticket) (b : Binding) → In (node_bindings k x) b → b.actor ≡ Node (record { 0 = k })
node_above k None b i = absurd i
node_above k (Some t) b (inl e) = ap (λ (c : Binding). c.actor) e
node_above k (Some t) b (inr i) = absurd i

pub founded_above : (hosts : List Founder) (k : ℕ) (b : Binding) → In (founding k hosts) b → k ≤ number b.actor
founded_above [] k b i = absurd i
founded_above (h ∷ hosts) k b i = at (founded_above hosts (k + 1) b) (in_either (host_bindings k h) (founding (k + 1) hosts) b i)
  where
    is_place : (a : Actor) → number a ≡ k → k ≤ number a
    is_place a e = omega (arith, e)

    at : (In (founding (k + 1) hosts) b → k + 1 ≤ number b.actor) → In (host_bindings k h) b ⊎ In (founding (k + 1) hosts) b → k ≤ number b.actor
    at later (inl (inl e)) = is_place b.actor (ap (λ (c : Binding). number c.actor) e)
    at later (inl (inr i)) = is_place b.actor (ap number (node_above k h.node b i))
    at later (inr i) = let above = later i in omega (arith, above)

first_skips : (a : Actor) (x : Binding) (xs : List Binding) → a ≢ x.actor → first a (x ∷ xs) ≡ first a xs
first_skips a x xs ne = at (is_at (by_actor a) x.actor) refl
  where
    at : (b : Bool) → is_at (by_actor a) x.actor ≡ b → cond b (Some x.ticket) (first a xs) ≡ first a xs
    at true is = absurd (ne (same_at a x.actor is))
    at false is = refl

first_here : (x : Binding) (xs : List Binding) → first x.actor (x ∷ xs) ≡ Some x.ticket
first_here x xs = rw (at_itself x.actor) refl

founded_first : (hosts : List Founder) (k : ℕ) (b : Binding) → In (founding k hosts) b → first b.actor (founding k hosts) ≡ Some b.ticket
founded_first [] k b i = absurd i
founded_first (h ∷ hosts) k b i = at h.node (founded_first hosts (k + 1) b) (in_either (host_bindings k h) (founding (k + 1) hosts) b i)
  where
    manager : Binding
    manager = record { actor = Manager k; ticket = h.manager }

    apart : (c : Binding) → number c.actor ≡ k → In (founding (k + 1) hosts) b → b.actor ≢ c.actor
    apart c e j same = let above = founded_above hosts (k + 1) b j in let is : number b.actor ≡ k = ap number same ∙ e in omega (arith, above, is)

    later : (c : Binding) → number c.actor ≡ k → In (founding (k + 1) hosts) b → (xs : List Binding) → first b.actor xs ≡ Some b.ticket → first b.actor (c ∷ xs) ≡ Some b.ticket
    later c e j xs more = first_skips b.actor c xs (apart c e j) ∙ more

    no_manager : (n : NodeId) (m : ℕ) → Node n ≡ Manager m → ⊥
    no_manager n m e = absurd cc

    at : (x : Option Ticket) → (In (founding (k + 1) hosts) b → first b.actor (founding (k + 1) hosts) ≡ Some b.ticket) →
        In (record { actor = Manager k; ticket = h.manager } ∷ node_bindings k x) b ⊎ In (founding (k + 1) hosts) b →
        first b.actor (record { actor = Manager k; ticket = h.manager } ∷ (node_bindings k x ++ founding (k + 1) hosts)) ≡ Some b.ticket
    at x more (inl (inl e)) =
        subst (λ (c : Binding). first c.actor (record { actor = Manager k; ticket = h.manager } ∷ (node_bindings k x ++ founding (k + 1) hosts)) ≡ Some c.ticket) (sym e)
        (first_here (record { actor = Manager k; ticket = h.manager }) (node_bindings k x ++ founding (k + 1) hosts))
    at None more (inl (inr none)) = absurd none
    at (Some t) more (inl (inr (inr none))) = absurd none
    at (Some t) more (inl (inr (inl e))) =
        subst (λ (c : Binding). first c.actor (record { actor = Manager k; ticket = h.manager } ∷ record { actor = Node (record { 0 = k }); ticket = t } ∷ founding (k + 1) hosts) ≡ Some c.ticket) (sym e)
        (first_skips (Node (record { 0 = k })) (record { actor = Manager k; ticket = h.manager }) (record { actor = Node (record { 0 = k }); ticket = t } ∷ founding (k + 1) hosts) (no_manager (record { 0 = k }) k) ∙
        first_here (record { actor = Node (record { 0 = k }); ticket = t }) (founding (k + 1) hosts))
    at None more (inr j) = later (record { actor = Manager k; ticket = h.manager }) refl j (founding (k + 1) hosts) (more j)
    at (Some t) more (inr j) =
        later (record { actor = Manager k; ticket = h.manager }) refl j (record { actor = Node (record { 0 = k }); ticket = t } ∷ founding (k + 1) hosts)
        (later (record { actor = Node (record { 0 = k }); ticket = t }) refl j (founding (k + 1) hosts) (more j))

-- ---- runs

pub start_sound : (hosts : List Founder) → Sound (length hosts) (start hosts)
start_sound hosts = record { roll = λ m. refl; chosen = λ m b i. inl (founded_first hosts 0 b i); told = λ s i. absurd i }

pub log_tells : LogTellsTheRoll
log_tells hosts events run m km = (run_sound (length hosts) (start hosts) events (start_sound hosts) run).roll m

pub one_holder : OneHolder
one_holder hosts events later run more node t u first second =
    let s = run_sound (length hosts) (start hosts) events (start_sound hosts) run in
    let h = run_sound (length hosts) (last (start hosts) events) later s more in
    let most = run_most (length hosts) (last (start hosts) events) later s more (Node node) t (binds_most (length hosts) (last (start hosts) events) s node t first) in
    two_most (length hosts) (last (last (start hosts) events) later) (Node node) t u most (binds_most (length hosts) (last (last (start hosts) events) later) h node u second)

pub holders_stay : HoldersStay
holders_stay hosts events later run more node t first m km e =
    let s = run_sound (length hosts) (start hosts) events (start_sound hosts) run in
    run_stays (length hosts) (last (start hosts) events) later s more node t (binds_most (length hosts) (last (start hosts) events) s node t first) m e

pub one_is_told : OneHolderIsTold
one_is_told hosts events run node t u first second =
    let s = run_sound (length hosts) (start hosts) events (start_sound hosts) run in
    two_most (length hosts) (last (start hosts) events) (Node node) t u (told_most_bound (length hosts) (last (start hosts) events) s node t first)
    (told_most_bound (length hosts) (last (start hosts) events) s node u second)
