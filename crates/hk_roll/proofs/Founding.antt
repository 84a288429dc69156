-- What a founding binds, and that the numbers of managers stay.
use Rattle.std.proofs.Common.{◌≡◌, ◌≢◌, ◌<◌, ◌≤◌, ◌+◌, ◌==◌, ℕ, zero, suc, Bool, true, false, List, [], ◌∷◌, length, slice_get, Option, None, Some, refl, sym, ap, ◌∙◌, subst, inl, inr, arith, le_refl}
use Rattle.std.specs.BTreeMap.{is_at}
use Rattle.std.proofs.lemmas.Bool.{eqb-true, eqb-false}
use Rattle.hk_base.specs.declared.stamp.NodeId.{NodeId}
use Rattle.hk_base.specs.declared.letter.Actor.{Actor}
use Rattle.hk_base.specs.declared.letter.Actor.TheVariants.{Node, Manager}
use Rattle.hk_fields.specs.declared.tickets.Ticket.{Ticket}
use Rattle.hk_roll.specs.declared.binding.Binding.{Binding}
use Rattle.hk_roll.specs.declared.binding.Founder.{Founder}
use Rattle.hk_roll.specs.Rolls.{by_actor, Entries, bound, with_bound, replayed, node_bindings, host_bindings, founding}
use Rattle.hk_roll.specs.Steps.{claimed, seated}
use Rattle.hk_roll.specs.Group.{Group, Event, put, In, logs, tells, next, last, start, IsRun}
use Rattle.hk_roll.specs.Group.Event.{Seat, Claim, Tell, Restart}
use Rattle.hk_roll.specs.Laws.{manager_of, node_of, FoundingBindsPlaces, ManagersStay}
use Rattle.hk_roll.proofs.Lookups.{same_at, bound_same, bound_other, replayed_more}
use Rattle.hk_roll.proofs.Rule.{claim_allowed, seat_allowed}
use Rattle.hk_roll.proofs.Holder.{Sound, number, node_above, founded_above, start_sound, next_sound, same_roll, put_at, put_off}

-- ---- a founding

other_bound : (a : Actor) (b : Binding) (roll : Entries) → a ≢ b.actor → bound a (with_bound roll b) ≡ bound a roll
other_bound a b roll ne = at (is_at (by_actor a) b.actor) refl
  where
    at : (t : Bool) → is_at (by_actor a) b.actor ≡ t → bound a (with_bound roll b) ≡ bound a roll
    at true is = absurd (ne (same_at a b.actor is))
    at false is = bound_other a b roll is

-- bindings of others leave what an actor has
apart_stays : (a : Actor) (bs : List Binding) (roll : Entries) → ((b : Binding) → In bs b → a ≢ b.actor) → bound a (replayed roll bs) ≡ bound a roll
apart_stays a [] roll apart = refl
apart_stays a (b ∷ bs) roll apart = apart_stays a bs (with_bound roll b) (λ c i. apart c (inr i)) ∙ other_bound a b roll (apart b (inl refl))

-- no number from this one on is bound
abbrev Unbound : ℕ → Entries → Type 0
Unbound k roll = (n : ℕ) → k ≤ n → (bound (Manager n) roll ≡ None) × (bound (Node (record { 0 = n })) roll ≡ None)

abbrev behind_host : ℕ → Founder → Entries → Entries
behind_host k h roll = replayed roll (host_bindings k h)

number_is : (k : ℕ) (h : Founder) (b : Binding) → In (host_bindings k h) b → number b.actor ≡ k
number_is k h b (inl e) = ap (λ (c : Binding). number c.actor) e
number_is k h b (inr i) = ap number (node_above k h.node b i)

apart_number : (a : Actor) (k : ℕ) (h : Founder) → number a ≢ k → (b : Binding) → In (host_bindings k h) b → a ≢ b.actor
apart_number a k h ne b i same = ne (ap number same ∙ number_is k h b i)

still_unbound : (k : ℕ) (h : Founder) (roll : Entries) → Unbound k roll → Unbound (k + 1) (behind_host k h roll)
still_unbound k h roll free n le = (
  apart_stays (Manager n) (host_bindings k h) roll (apart_number (Manager n) k h ne) ∙ (free n (omega (arith, le))).0,
  apart_stays (Node (record { 0 = n })) (host_bindings k h) roll (apart_number (Node (record { 0 = n })) k h ne) ∙ (free n (omega (arith, le))).1,
)
  where
    ne : n ≢ k
    ne e = omega (arith, le, e)

-- what those behind it are founded with leaves what a number below has
below_stays : (a : Actor) (k : ℕ) (hosts : List Founder) (roll : Entries) → number a < k → bound a (replayed roll (founding k hosts)) ≡ bound a roll
below_stays a k hosts roll lt = apart_stays a (founding k hosts) roll apart
  where
    apart : (b : Binding) → In (founding k hosts) b → a ≢ b.actor
    apart b i same = let above = founded_above hosts k b i in let is : number a ≡ number b.actor = ap number same in omega (arith, above, is, lt)

no_node : (m n : ℕ) → Manager m ≡ Node (record { 0 = n }) → ⊥
no_node m n e = absurd cc

own_manager : (k : ℕ) (h : Founder) (roll : Entries) → bound (Manager k) (behind_host k h roll) ≡ Some h.manager
own_manager k h roll =
    apart_stays (Manager k) (node_bindings k h.node) (with_bound roll (record { actor = Manager k; ticket = h.manager })) (λ b i same. no_node k k (same ∙ node_above k h.node b i)) ∙
    bound_same (record { actor = Manager k; ticket = h.manager }) roll

own_node : (k : ℕ) (x : Option Ticket) (roll : Entries) → bound (Node (record { 0 = k })) roll ≡ None → bound (Node (record { 0 = k })) (replayed roll (node_bindings k x)) ≡ x
own_node k None roll free = free
own_node k (Some t) roll free = bound_same (record { actor = Node (record { 0 = k }); ticket = t }) roll

no_manager : (m n : ℕ) → Node (record { 0 = n }) ≡ Manager m → ⊥
no_manager m n e = absurd cc

Binds : ℕ → ℕ → List Founder → Entries → Type 0
Binds k i hosts roll = (bound (Manager (k + i)) roll ≡ manager_of (slice_get hosts i)) × (bound (Node (record { 0 = k + i })) roll ≡ node_of (slice_get hosts i))

places : (hosts : List Founder) (k i : ℕ) (roll : Entries) → Unbound k roll → Binds k i hosts (replayed roll (founding k hosts))
unfolding Binds
places [] k i roll free = free (k + i) (omega arith)
places (h ∷ hosts) k zero roll free = (
  ap (λ (r : Entries). bound (Manager (k + 0)) r) (replayed_more roll (host_bindings k h) (founding (k + 1) hosts)) ∙
      below_stays (Manager (k + 0)) (k + 1) hosts (behind_host k h roll) (omega arith) ∙ ap (λ (n : ℕ). bound (Manager n) (behind_host k h roll)) here ∙ own_manager k h roll,
  ap (λ (r : Entries). bound (Node (record { 0 = k + 0 })) r) (replayed_more roll (host_bindings k h) (founding (k + 1) hosts)) ∙
      below_stays (Node (record { 0 = k + 0 })) (k + 1) hosts (behind_host k h roll) (omega arith) ∙ ap (λ (n : ℕ). bound (Node (record { 0 = n })) (behind_host k h roll)) here ∙
      own_node k h.node (with_bound roll (record { actor = Manager k; ticket = h.manager }))
      (other_bound (Node (record { 0 = k })) (record { actor = Manager k; ticket = h.manager }) roll (no_manager k k) ∙ (free k (le_refl k)).1),
)
  where
    here : k + 0 ≡ k
    here = omega arith
places (h ∷ hosts) k (suc i) roll free = moved (places hosts (k + 1) i (behind_host k h roll) (still_unbound k h roll free))
  where
    there : (k + 1) + i ≡ k + suc i
    there = omega arith

    moved : Binds (k + 1) i hosts (replayed (behind_host k h roll) (founding (k + 1) hosts)) → Binds k (suc i) (h ∷ hosts) (replayed roll (founding k (h ∷ hosts)))
    moved b =
        let all = replayed_more roll (host_bindings k h) (founding (k + 1) hosts) in (
          ap (λ (r : Entries). bound (Manager (k + suc i)) r) all ∙ ap (λ (n : ℕ). bound (Manager n) (replayed (behind_host k h roll) (founding (k + 1) hosts))) (sym there) ∙ b.0,
          ap (λ (r : Entries). bound (Node (record { 0 = k + suc i })) r) all ∙
              ap (λ (n : ℕ). bound (Node (record { 0 = n })) (replayed (behind_host k h roll) (founding (k + 1) hosts))) (sym there) ∙ b.1,
        )

pub founding_binds : FoundingBindsPlaces
unfolding Binds
founding_binds hosts place =
    let here : 0 + place ≡ place = omega arith in
    subst (λ (n : ℕ). (bound (Manager n) (replayed [] (founding 0 hosts)) ≡ manager_of (slice_get hosts place)) × (bound (Node (record { 0 = n })) (replayed [] (founding 0 hosts)) ≡ node_of (slice_get hosts place)))
    here (places hosts 0 place [] (λ n le. (refl, refl)))

-- ---- managers

module _ (managers : ℕ) where
  -- what is bound by a step is no manager's number
  logged_managers : (g : Group) (m : ℕ) (x : Option Binding) → ((b : Binding) → x ≡ Some b → (node : NodeId) × (b.actor ≡ Node node)) → (k n : ℕ) →
      bound (Manager k) ((logs g m x).roll n) ≡ bound (Manager k) (g.roll n)
  logged_managers g m None nodes k n = refl
  logged_managers g m (Some b) nodes k n = at (n == m) refl
    where
      own : (node : NodeId) × (b.actor ≡ Node node) → bound (Manager k) (with_bound (g.roll m) b) ≡ bound (Manager k) (g.roll m)
      own (node, is) = bound_other (Manager k) b (g.roll m) (ap (λ (a : Actor). is_at (by_actor (Manager k)) a) is)

      at : (v : Bool) → (n == m) ≡ v → bound (Manager k) (put m (with_bound (g.roll m) b) g.roll n) ≡ bound (Manager k) (g.roll n)
      at true is =
          let q = eqb-true n m is in
          ap (λ (r : Entries). bound (Manager k) r) (put_at m (with_bound (g.roll m) b) g.roll n q) ∙ own (nodes b refl) ∙ ap (λ (i : ℕ). bound (Manager k) (g.roll i)) (sym q)
      at false is = ap (λ (r : Entries). bound (Manager k) r) (put_off m (with_bound (g.roll m) b) g.roll n (eqb-false n m is))

  told_managers : (g : Group) (m : ℕ) (node : NodeId) (x : Option Ticket) (k n : ℕ) → bound (Manager k) ((tells g m node x).roll n) ≡ bound (Manager k) (g.roll n)
  told_managers g m node None k n = refl
  told_managers g m node (Some t) k n = refl

  next_managers : (g : Group) (e : Event) → Sound managers g → (k n : ℕ) → bound (Manager k) ((next g e).roll n) ≡ bound (Manager k) (g.roll n)
  next_managers g (Seat m views seating ticket) s k n = logged_managers g m (seated (g.roll m) views seating ticket).logged
      (λ b e. let given = seat_allowed (g.roll m) views seating ticket b e in (given.0, ap (λ (c : Binding). c.actor) given.2.is)) k n
  next_managers g (Claim m views boards node ticket) s k n = logged_managers g m (claimed (g.roll m) views boards node ticket).logged
      (λ b e. (node, ap (λ (c : Binding). c.actor) (claim_allowed (g.roll m) views boards node ticket b e).is)) k n
  next_managers g (Tell m node) s k n = told_managers g m node (bound (Node node) (g.roll m)) k n
  next_managers g (Restart m) s k n = ap (λ (r : Entries). bound (Manager k) r) (same_roll managers g s m n)

  run_managers : (g : Group) (events : List Event) → Sound managers g → IsRun managers g events → (k n : ℕ) → bound (Manager k) ((last g events).roll n) ≡ bound (Manager k) (g.roll n)
  run_managers g [] s run k n = refl
  run_managers g (e ∷ events) s run k n = run_managers (next g e) events (next_sound managers g e s run.0) run.1 k n ∙ next_managers g e s k n

pub managers_stay : ManagersStay
managers_stay hosts events run m place km = run_managers (length hosts) (start hosts) events (start_sound hosts) run place m ∙ (founding_binds hosts place).0
