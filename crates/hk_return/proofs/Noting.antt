-- What a manager that returns is, and which untils it noted.
use Rattle.std.proofs.Common.{◌≡◌, ◌+◌, ◌||◌, nat_eq, map, inl, inr, ℕ, ◌≤◌, List, [], ◌∷◌, ◌++◌, Bool, true, false, cond, refl, sym, ap, subst, ◌∙◌, arith, le_refl, le_trans}
use Rattle.std.proofs.lemmas.Bool.{eq-eqb}
use Rattle.hk_base.specs.declared.stamp.NodeId.{NodeId}
use Rattle.hk_base.specs.View.{is_member}
use Rattle.hk_lease.specs.Grants.{until_of, with_grant}
use Rattle.hk_paxos.specs.Run.{In}
use Rattle.hk_lease.specs.Wait.{wait}
use Rattle.hk_manager.specs.declared.event.ManagerEvent.{ManagerEvent}
use Rattle.hk_manager.specs.Manager.{ManagerState}
use Rattle.hk_manager.specs.Steps.{manager_step}
use Rattle.hk_return.specs.Machine.{with_all}
use Rattle.hk_return.specs.Log.{is_logged, manager_or, after, logged, but_times, with_members, returned, ask_of, NotedByAsks, UntilsAreNotedAnew}
use Rattle.hk_return.proofs.Grants.{all_up, all_noted}
use Rattle.hk_return.proofs.Timeless.{logged_same, logged_stays}
use Rattle.hk_return.proofs.Replaying.{returned_same}

-- a lease that is granted now
abbrev until_now : ManagerState → ℕ
until_now m = m.clock + wait m.lease

abbrev noted : ManagerState → ManagerState
noted m = with_members m (until_now m)

-- the manager after one more entry
abbrev made : ManagerState → ManagerEvent → ManagerState
made m event = manager_or (noted m) (manager_step (noted m) event)

same_until : (m : ManagerState) (event : ManagerEvent) → is_logged event ≡ true → until_now (made m event) ≡ until_now m
same_until m event is = let h = logged_stays (noted m) event is in rw (h.clock, h.lease) refl

clock_stays : (m : ManagerState) (steps : List ManagerEvent) → (returned m (logged steps)).clock ≡ m.clock
clock_stays m [] = refl
clock_stays m (event ∷ steps) = by_kind (is_logged event) refl (clock_stays (made m event) steps) (clock_stays m steps)
  where
    by_kind : (b : Bool) → is_logged event ≡ b → (returned (made m event) (logged steps)).clock ≡ (made m event).clock → (returned m (logged steps)).clock ≡ m.clock → (returned m (cond b (event ∷ logged steps) (logged steps))).clock ≡ m.clock
    by_kind true is more left = more ∙ (logged_stays (noted m) event is).clock
    by_kind false is more left = left

-- what was noted stays noted
untils_stay : (m : ManagerState) (steps : List ManagerEvent) (node : NodeId) → until_of (noted m).untils node ≤ until_of (returned m (logged steps)).untils node
untils_stay m [] node = le_refl (until_of (noted m).untils node)
untils_stay m (event ∷ steps) node = by_kind (is_logged event) refl (untils_stay (made m event) steps node) (untils_stay m steps node)
  where
    by_kind : (b : Bool) → is_logged event ≡ b → until_of (noted (made m event)).untils node ≤ until_of (returned (made m event) (logged steps)).untils node → until_of (noted m).untils node ≤ until_of (returned m (logged steps)).untils node →
        until_of (noted m).untils node ≤ until_of (returned m (cond b (event ∷ logged steps) (logged steps))).untils node
    by_kind true is more left =
        let h = all_up (made m event).untils (made m event).held.members (until_now (made m event)) node in
        let s : until_of (made m event).untils node ≡ until_of (noted m).untils node = ap (λ (untils : List (NodeId × ℕ)). until_of untils node) (logged_stays (noted m) event is).untils in
        omega (arith, h, s, more)
    by_kind false is more left = left

abbrev rest_of : List ManagerEvent → List ManagerEvent
rest_of [] = []
rest_of (x ∷ xs) = xs

abbrev first_of : ManagerEvent → List ManagerEvent → ManagerEvent
first_of x [] = x
first_of x (y ∷ ys) = y

-- held by its log: by what it began with, or by an entry
abbrev Covers : ManagerState → ManagerState → List ManagerEvent → Type 0
Covers m n steps = (before later : List ManagerEvent) (node : NodeId) → logged steps ≡ before ++ later → is_member node (after n before).held.members ≡ true → until_now m ≤ until_of (returned m (logged steps)).untils node

held_now : (m n : ManagerState) (steps : List ManagerEvent) (node : NodeId) → but_times m ≡ but_times n → is_member node n.held.members ≡ true → until_now m ≤ until_of (returned m (logged steps)).untils node
held_now m n steps node e is =
    let h : is_member node m.held.members ≡ true = ap (λ (x : ManagerState). is_member node x.held.members) e ∙ is in
    le_trans (all_noted m.untils m.held.members (until_now m) node h) (untils_stay m steps node)

covers : (m n : ManagerState) (steps : List ManagerEvent) → but_times m ≡ but_times n → Covers m n steps
covers m n steps e [] later node is mem = held_now m n steps node e mem
covers m n [] e (b ∷ before) later node is mem = absurd cc
covers m n (event ∷ steps) e (b ∷ before) later node is mem = by_kind (is_logged event) refl is
    (λ logs. covers (made m event) (manager_or n (manager_step n event)) steps (logged_same (noted m) n event e logs) before later node)
    (covers m n steps e (b ∷ before) later node)
  where
    by_kind : (t : Bool) → is_logged event ≡ t → cond t (event ∷ logged steps) (logged steps) ≡ b ∷ before ++ later →
        (is_logged event ≡ true → logged steps ≡ before ++ later → is_member node (after (manager_or n (manager_step n event)) before).held.members ≡ true → until_now (made m event) ≤ until_of (returned (made m event) (logged steps)).untils node) →
        (logged steps ≡ b ∷ before ++ later → is_member node (after n (b ∷ before)).held.members ≡ true → until_now m ≤ until_of (returned m (logged steps)).untils node) →
        until_now m ≤ until_of (returned m (cond t (event ∷ logged steps) (logged steps))).untils node
    by_kind true logs at more left =
        let one : event ≡ b = ap (first_of event) at in
        let rest : logged steps ≡ before ++ later = ap rest_of at in
        let member : is_member node (after (manager_or n (manager_step n event)) before).held.members ≡ true = subst (λ (x : ManagerEvent). is_member node (after (manager_or n (manager_step n x)) before).held.members ≡ true) (sym one) mem in
        let h = more logs rest member in
        let s = same_until m event logs in
        omega (arith, h, s)
    by_kind false logs at more left = left at mem

pub untils_are_noted_anew : UntilsAreNotedAnew
untils_are_noted_anew first steps = record {
  same = returned_same first first steps refl;
  clock = clock_stays first steps;
  noted = covers first first steps refl;
}

-- ---- by asks
is_there : (nodes : List NodeId) (k : NodeId) → In nodes k → is_member k nodes ≡ true
is_there [] k h = absurd h
is_there (n ∷ nodes) k (inl e) = rw (e, eq-eqb n.0 n.0 refl) refl
is_there (n ∷ nodes) k (inr h) = or_second (nat_eq n.0 k.0) (is_member k nodes) (is_there nodes k h)
  where
    or_second : (a b : Bool) → b ≡ true → (a || b) ≡ true
    or_second true b h = refl
    or_second false b h = h

one_ask : (m : ManagerState) (n : NodeId) → is_member n m.held.members ≡ true → manager_or m (manager_step m (ask_of m n)) ≡ record m { untils = with_grant m.untils n (until_now m) }
one_ask m n is = rw (eq-eqb m.id m.id refl, is) refl

all_asks : (m : ManagerState) (nodes : List NodeId) → ((k : NodeId) → In nodes k → is_member k m.held.members ≡ true) → after m (map (ask_of m) nodes) ≡ record m { untils = with_all m.untils nodes (until_now m) }
all_asks m [] known = refl
all_asks m (n ∷ nodes) known =
    ap (λ (x : ManagerState). after x (map (ask_of m) nodes)) (one_ask m n (known n (inl refl)))
    ∙ all_asks (record m { untils = with_grant m.untils n (until_now m) }) nodes (λ k h. known k (inr h))

pub noted_by_asks : NotedByAsks
noted_by_asks m = all_asks m m.held.members (is_there m.held.members)
