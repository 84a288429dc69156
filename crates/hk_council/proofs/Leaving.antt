-- A node that a view of a chain leaves out is in no later one.
use Rattle.std.proofs.Common.{◌≡◌, ◌⊎◌, ℕ, ◌+◌, ◌<◌, ◌≤◌, ◌||◌, Bool, true, false, cond, not, List, [], ◌∷◌, ◌++◌, All, nat_eq, refl, sym, ap, subst, ◌∙◌, inl, inr, ⊎_elim, arith, le_refl, le_trans}
use Rattle.std.specs.List.{filter, list_any}
use Rattle.std.proofs.lemmas.List.Elements.{All-head, All-tail}
use Rattle.std.proofs.lemmas.Bool.{or_cases, eqb-true, false≢true}
use Rattle.hk_base.specs.declared.stamp.NodeId.{NodeId}
use Rattle.hk_base.specs.declared.view.View.{View}
use Rattle.hk_base.specs.declared.view.Change.{Change}
use Rattle.hk_base.specs.declared.view.Change.TheVariants.{Drop, Add}
use Rattle.hk_base.specs.View.{is_member}
use Rattle.hk_paxos.specs.Run.{In}
use Rattle.hk_manager.specs.Changes.{changed}
use Rattle.hk_council.specs.Chain.{IsChange, AreChanges, NeverReturns}
use Rattle.hk_council.proofs.Chains.{change_epoch}

abbrev among : List NodeId → NodeId → Bool
among members node = list_any (λ (member : NodeId). nat_eq member.0 node.0) members

-- each member is below the next number
abbrev IsBelow : View → Type 0
IsBelow v = (node : NodeId) → is_member node v.members ≡ true → node.0 < v.next

-- ---- one change
in_filtered : (members : List NodeId) (gone node : NodeId) → among (filter (λ (member : NodeId). not (nat_eq member.0 gone.0)) members) node ≡ true → among members node ≡ true
in_filtered [] gone node h = h
in_filtered (x ∷ members) gone node h = at (nat_eq x.0 gone.0) h (in_filtered members gone node)
  where
    into : (b c d : Bool) → (b || c) ≡ true → (c ≡ true → d ≡ true) → (b || d) ≡ true
    into true c d h more = refl
    into false c d h more = more h

    behind : (b d : Bool) → d ≡ true → (b || d) ≡ true
    behind true d h = refl
    behind false d h = h

    at : (t : Bool) → among (cond (not t) (x ∷ filter (λ (member : NodeId). not (nat_eq member.0 gone.0)) members) (filter (λ (member : NodeId). not (nat_eq member.0 gone.0)) members)) node ≡ true →
        (among (filter (λ (member : NodeId). not (nat_eq member.0 gone.0)) members) node ≡ true → among members node ≡ true) → among (x ∷ members) node ≡ true
    at true g more = behind (nat_eq x.0 node.0) (among members node) (more g)
    at false g more = into (nat_eq x.0 node.0) (among (filter (λ (member : NodeId). not (nat_eq member.0 gone.0)) members) node) (among members node) g more

in_added : (members : List NodeId) (new node : NodeId) → among (members ++ new ∷ []) node ≡ true → (among members node ≡ true) ⊎ (node.0 ≡ new.0)
in_added [] new node h = ⊎_elim (λ (e : nat_eq new.0 node.0 ≡ true). inr (sym (eqb-true new.0 node.0 e))) (λ (n : false ≡ true). absurd (false≢true n)) (or_cases (nat_eq new.0 node.0) false h)
in_added (x ∷ members) new node h = ⊎_elim
    (λ (e : nat_eq x.0 node.0 ≡ true). inl (first (nat_eq x.0 node.0) e))
    (λ (k : among (members ++ new ∷ []) node ≡ true). ⊎_elim (λ (g : among members node ≡ true). inl (behind (nat_eq x.0 node.0) g)) (λ (is : node.0 ≡ new.0). inr is) (in_added members new node k))
    (or_cases (nat_eq x.0 node.0) (among (members ++ new ∷ []) node) h)
  where
    first : (b : Bool) → b ≡ true → (b || among members node) ≡ true
    first true e = refl
    first false e = absurd (false≢true e)

    behind : (b : Bool) → among members node ≡ true → (b || among members node) ≡ true
    behind true g = refl
    behind false g = g

changed_member : (v : View) (change : Change) (node : NodeId) → is_member node (changed v change).members ≡ true → (is_member node v.members ≡ true) ⊎ ((node.0 ≡ v.next) × ((changed v change).next ≡ v.next + 1))
changed_member v (Drop gone) node h = inl (in_filtered v.members gone node h)
changed_member v Add node h = ⊎_elim (λ (g : is_member node v.members ≡ true). inl g) (λ (is : node.0 ≡ v.next). inr (is, refl)) (in_added v.members (record { 0 = v.next }) node h)

changed_next : (v : View) (change : Change) → v.next ≤ (changed v change).next
changed_next v (Drop gone) = le_refl v.next
changed_next v Add = omega arith

change_next : (v w : View) → IsChange v w → v.next ≤ w.next
change_next v w is = subst (λ (x : View). v.next ≤ x.next) (sym is.made) (changed_next v is.change)

-- a member of the view after was one before, or has the number that was given
change_member : (v w : View) → IsChange v w → (node : NodeId) → is_member node w.members ≡ true → (is_member node v.members ≡ true) ⊎ ((node.0 ≡ v.next) × (w.next ≡ v.next + 1))
change_member v w is node h = ⊎_elim
    (λ (g : is_member node v.members ≡ true). inl g)
    (λ (new : (node.0 ≡ v.next) × ((changed v is.change).next ≡ v.next + 1)). inr (new.0, ap (λ (x : View). x.next) is.made ∙ new.1))
    (changed_member v is.change node (subst (λ (x : View). is_member node x.members ≡ true) is.made h))

change_below : (v w : View) → IsChange v w → IsBelow v → IsBelow w
change_below v w is below node h = ⊎_elim
    (λ (g : is_member node v.members ≡ true). let low = below node g in let up = change_next v w is in omega (arith, low, up))
    (λ (new : (node.0 ≡ v.next) × (w.next ≡ v.next + 1)). omega (arith, new.0, new.1)) (change_member v w is node h)

-- ---- a chain
not_older : (v : View) (later : List View) (w : View) → AreChanges v later → In (v ∷ later) w → v.epoch ≤ w.epoch
not_older v later w are (inl e) = rw e (le_refl v.epoch)
not_older v [] w are (inr h) = absurd h
not_older v (u ∷ later) w are (inr h) = let e = change_epoch v u are.0 in let rest = not_older u later w are.1 h in omega (arith, e, rest)

all_below : (v : View) (later : List View) (w : View) → AreChanges v later → IsBelow v → In (v ∷ later) w → IsBelow w
all_below v later w are below (inl e) = subst IsBelow (sym e) below
all_below v [] w are below (inr h) = absurd h
all_below v (u ∷ later) w are below (inr h) = all_below u later w are.1 (change_below v u are.0 below) h

next_from : (v : View) (later : List View) (w : View) → AreChanges v later → In (v ∷ later) w → v.next ≤ w.next
next_from v later w are (inl e) = rw e (le_refl v.next)
next_from v [] w are (inr h) = absurd h
next_from v (u ∷ later) w are (inr h) = le_trans (change_next v u are.0) (next_from u later w are.1 h)

-- no number is given below the next one of an earlier view
next_rises : (v : View) (later : List View) (x y : View) → AreChanges v later → In (v ∷ later) x → In (v ∷ later) y → x.epoch ≤ y.epoch → x.next ≤ y.next
next_rises v later x y are (inl e) k upto = rw e (next_from v later y are k)
next_rises v [] x y are (inr h) k upto = absurd h
next_rises v (u ∷ later) x y are (inr h) (inl e) upto =
    let next = change_epoch v u are.0 in
    let from = not_older u later x are.1 h in
    let own : y.epoch ≡ v.epoch = ap (λ (z : View). z.epoch) e in
    absurd (omega (arith, next, from, own, upto))
next_rises v (u ∷ later) x y are (inr h) (inr k) upto = next_rises u later x y are.1 h k upto

-- a member of a later view whose number was given before this one is a member of this one
was_from : (v : View) (later : List View) (w : View) (node : NodeId) → AreChanges v later → In (v ∷ later) w → node.0 < v.next → is_member node w.members ≡ true → is_member node v.members ≡ true
was_from v later w node are (inl e) given h = subst (λ (x : View). is_member node x.members ≡ true) e h
was_from v [] w node are (inr k) given h = absurd k
was_from v (u ∷ later) w node are (inr k) given h =
    let up = change_next v u are.0 in
    let there = was_from u later w node are.1 k (omega (arith, given, up)) h in
    ⊎_elim (λ (g : is_member node v.members ≡ true). g) (λ (new : (node.0 ≡ v.next) × (u.next ≡ v.next + 1)). absurd (omega (arith, given, new.0))) (change_member v u are.0 node there)

was : (v : View) (later : List View) (x w : View) (node : NodeId) → AreChanges v later → In (v ∷ later) x → In (v ∷ later) w → x.epoch ≤ w.epoch → node.0 < x.next → is_member node w.members ≡ true → is_member node x.members ≡ true
was v later x w node are (inl e) k upto given h =
    let given_then : node.0 < v.next = subst (λ (z : View). node.0 < z.next) e given in
    subst (λ (z : View). is_member node z.members ≡ true) (sym e) (was_from v later w node are k given_then h)
was v [] x w node are (inr j) k upto given h = absurd j
was v (u ∷ later) x w node are (inr j) (inl e) upto given h =
    let next = change_epoch v u are.0 in
    let from = not_older u later x are.1 j in
    let own : w.epoch ≡ v.epoch = ap (λ (z : View). z.epoch) e in
    absurd (omega (arith, next, from, own, upto))
was v (u ∷ later) x w node are (inr j) (inr k) upto given h = was u later x w node are.1 j k upto given h

-- the members of a view are below its next number
members_below : (next : ℕ) (members : List NodeId) → All (λ member. member.0 < next) members → (node : NodeId) → among members node ≡ true → node.0 < next
members_below next [] all node h = absurd (false≢true h)
members_below next (x ∷ members) all node h = ⊎_elim
    (λ (e : nat_eq x.0 node.0 ≡ true). subst (λ (k : ℕ). k < next) (eqb-true x.0 node.0 e) (All-head (λ (member : NodeId). member.0 < next) x members all))
    (λ (k : among members node ≡ true). members_below next members (All-tail (λ (member : NodeId). member.0 < next) x members all) node k) (or_cases (nat_eq x.0 node.0) (among members node) h)

pub never_returns : NeverReturns
never_returns first later is chain u v w node h j k from upto member_u member_w =
    let low = all_below first later u chain.1 (members_below first.next first.members is.below) h node member_u in
    let up = next_rises first later u v chain.1 h j from in
    was first later v w node chain.1 j k upto (omega (arith, low, up)) member_w
