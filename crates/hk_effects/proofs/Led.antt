-- What the agreement of a council gives a world: its views are a chain, by their epochs, and have each view that a manager holds.
use Rattle.std.proofs.Common.{◌≡◌, ℕ, zero, suc, ◌+◌, List, [], ◌∷◌, ◌++◌, ◌<◌, ◌∙◌, sym, refl, ap, subst, inl, inr, ⊎_elim, arith, Some, slice_get, length, append-nil, append_assoc, nat_eq, All, Bool, true, false, cond, None, ◌⊎◌}
use Rattle.std.specs.List.{list_any}
use Rattle.std.proofs.lemmas.Bool.{or_cases, eqb-true, false≢true}
use Rattle.std.proofs.lemmas.List.Elements.{All-head, All-tail}
use Rattle.hk_base.specs.declared.stamp.NodeId.{NodeId}
use Rattle.hk_base.specs.declared.view.View.{View}
use Rattle.hk_base.specs.declared.view.Change.{Change}
use Rattle.hk_base.specs.declared.view.Change.TheVariants.{Drop, Add}
use Rattle.hk_base.specs.View.{IsView, member_numbers, is_member}
use Rattle.hk_register.specs.Machine.{In}
use Rattle.hk_paxos.specs.Run.{In as Among}
use Rattle.hk_manager.specs.Manager.{ManagerState}
use Rattle.hk_manager.specs.declared.fault.ManagerFault.TheVariants.{LastMember, NoSuchMember}
use Rattle.hk_manager.specs.Changes.{changed, change_fault}
use Rattle.hk_council.specs.Chain.{AreChanges, IsChain as IsCouncilChain}
use Rattle.hk_council.specs.Council.{Council}
use Rattle.hk_council.specs.Agreed.{IsAgreed}
use Rattle.hk_world.specs.World.{WorldState, numbered, last_view}
use Rattle.hk_managed.specs.Council.{IsCouncilOf}
use Rattle.hk_effects.specs.Own.{IsDropped, IsAdded, IsChain, IsLed}
use Rattle.hk_effects.proofs.Chain.{last_added, more_views}
use Rattle.hk_effects.proofs.Accepting.{may_follow}

-- what stands among the views of a council is one of the list
among_in : {X : Type 0} (xs : List X) (x : X) → Among xs x → In xs x
among_in [] x h = absurd h
among_in (y ∷ xs) x (inl e) = inl e
among_in (y ∷ xs) x (inr h) = inr (among_in xs x h)

below_next : (next : ℕ) (ms : List NodeId) → All (λ member. member.0 < next) ms → (n : ℕ) → In (member_numbers ms) n → n < next
below_next next [] all n h = absurd h
below_next next (m ∷ ms) all n (inl e) = let low = All-head (λ (member : NodeId). member.0 < next) m ms all in omega (arith, low, e)
below_next next (m ∷ ms) all n (inr h) = below_next next ms (All-tail (λ (member : NodeId). member.0 < next) m ms all) n h

-- the first view alone is a chain
first_chain : (v : View) → IsView v → v.epoch ≡ 1 → IsChain (v ∷ [])
first_chain v is one = record {
  last = inl refl;
  within = λ u h. let e = ap (λ (z : View). z.epoch) (the_first u h) in (omega (arith, e, one), omega (arith, e));
  each = λ e low top. (v, inl refl, omega (arith, low, top, one));
  one = λ u w h k same. the_first u h ∙ sym (the_first w k);
  chain = λ u w x hu hw hx low high n in_u in_x. subst (λ (z : View). In (member_numbers z.members) n) (the_first x hx ∙ sym (the_first w hw)) in_x;
  change = λ u w h k next. let a = ap (λ (z : View). z.epoch) (the_first u h) in let b = ap (λ (z : View). z.epoch) (the_first w k) in absurd (omega (arith, a, b, next));
  below = λ u h n in_u. below_next v.next v.members is.below n (subst (λ (z : View). In (member_numbers z.members) n) (the_first u h) in_u);
}
  where
    the_first : (u : View) → In (v ∷ []) u → u ≡ v
    the_first u h = ⊎_elim (λ (e : u ≡ v). e) (λ (none : ⊥). absurd none) h

member_number : (node : NodeId) (ms : List NodeId) → list_any (λ (member : NodeId). nat_eq member.0 node.0) ms ≡ true → In (member_numbers ms) node.0
member_number node [] h = absurd (false≢true h)
member_number node (m ∷ ms) h = ⊎_elim (λ (here : nat_eq m.0 node.0 ≡ true). inl (sym (eqb-true m.0 node.0 here))) (λ (there : list_any (λ (member : NodeId). nat_eq member.0 node.0) ms ≡ true). inr (member_number node ms there))
    (or_cases (nat_eq m.0 node.0) (list_any (λ (member : NodeId). nat_eq member.0 node.0) ms) h)

-- what a change makes of a view is the view with a member dropped, or a node added
changed_is : (u v : View) (change : Change) → change_fault u change ≡ None → v ≡ changed u change → IsDropped u v ⊎ IsAdded u v
changed_is u v Add possible is = inr is
changed_is u v (Drop node) possible is = inl (node, by_member (is_member node u.members) refl possible, is)
  where
    by_member : (b : Bool) → is_member node u.members ≡ b → cond b (cond (nat_eq (length u.members) 1) (Some LastMember) None) (Some NoSuchMember) ≡ None → In (member_numbers u.members) node.0
    by_member true e none = member_number node u.members e
    by_member false e none = absurd cc

-- each change of the last view is one more of the chain
changes_chain : (seen : List View) → IsChain seen → (v : View) → last_view seen ≡ v → (later : List View) → AreChanges v later → IsChain (seen ++ later)
changes_chain seen chain v last [] are = subst IsChain (sym (append-nil seen)) chain
changes_chain seen chain v last (next ∷ later) are =
    let changed : IsDropped (last_view seen) next ⊎ IsAdded (last_view seen) next = subst (λ (u : View). IsDropped u next ⊎ IsAdded u next) (sym last) (changed_is v next are.0.change are.0.possible are.0.made) in
    let more : IsChain (seen ++ next ∷ []) = more_views seen next chain (may_follow seen chain next changed) in
    subst IsChain (append_assoc seen (next ∷ []) later) (changes_chain (seen ++ next ∷ []) more next (last_added seen next) later are.1)

pub council_chain : (views : List View) → ((v : View) → In views v → IsView v) → IsCouncilChain views → IsChain views
council_chain [] each chain = absurd chain
council_chain (first ∷ later) each chain = changes_chain (first ∷ []) (first_chain first (each first (inl refl)) chain.0) first refl later chain.1

some_within : {X : Type 0} (xs : List X) (k : ℕ) (x : X) → slice_get xs k ≡ Some x → k < length xs
some_within [] k x e = absurd cc
some_within (y ∷ xs) zero x e = omega arith
some_within (y ∷ xs) (suc k) x e = let rest = some_within xs k x e in omega (arith, rest)

pub led_of : (w : WorldState) → ((v : View) → In w.views v → IsView v) → (c : Council) → IsCouncilOf w c → IsAgreed (length w.managers) c → IsLed w
led_of w each c is agreed = record {
  views = council_chain w.views each (subst IsCouncilChain is.learned agreed.chain);
  epochs = epochs;
  held = λ m p at. among_in w.views p.manager.held
      (subst (λ (views : List View). Among views p.manager.held) is.learned
      (subst (λ (g : ManagerState). Among c.learned g.held) (is.managers m p at) (agreed.held m (some_within w.managers m p at))));
}
  where
    epochs : (e : ℕ) (v : View) → numbered e w.views ≡ Some v → v.epoch ≡ e
    epochs zero v at = absurd cc
    epochs (suc k) v at = let epoch = agreed.epochs k v (subst (λ (views : List View). slice_get views k ≡ Some v) (sym is.learned) at) in omega (arith, epoch)
