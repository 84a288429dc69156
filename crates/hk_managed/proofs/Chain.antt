-- The views of a chain by their epochs, the last one standing for those to come: a node that one leaves out is in no later one.
use Rattle.std.proofs.Common.{◌≡◌, ◌⊎◌, ◌<◌, ◌≤◌, ℕ, zero, suc, List, [], ◌∷◌, length, true, Some, Option, unwrap_or, slice_get, refl, sym, ap, subst, ◌∙◌, inl, inr, ⊎_elim, arith}
use Rattle.std.specs.List.{AllByRecursion}
use Rattle.std.proofs.lemmas.Bool.{false≢true, cases_lt}
use Rattle.std.proofs.lemmas.Option.{slice_get_past}
use Rattle.hk_base.specs.declared.stamp.NodeId.{NodeId}
use Rattle.hk_base.specs.declared.view.View.{View}
use Rattle.hk_base.specs.View.{IsView, is_member}
use Rattle.hk_paxos.specs.Run.{In}
use Rattle.hk_council.specs.Chain.{IsChain, LeavesForGood}
use Rattle.hk_council.proofs.Chains.{epoch_at}
use Rattle.hk_council.proofs.Leaving.{never_returns}
use Rattle.hk_world.specs.World.{numbered, last_view}
use Rattle.hk_managed.proofs.Places.{view_in, view_at, there_is}

pub chain_epochs : (views : List View) → IsChain views → (e : ℕ) (v : View) → numbered e views ≡ Some v → v.epoch ≡ e
chain_epochs views chain zero v at = absurd cc
chain_epochs views chain (suc k) v at = let h = epoch_at views k v chain at in omega (arith, h)

pub last_numbered : (views : List View) → 1 ≤ length views → numbered (length views) views ≡ Some (last_view views)
last_numbered [] some = absurd (omega (arith, some))
last_numbered (v ∷ []) some = refl
last_numbered (v ∷ u ∷ views) some = last_numbered (u ∷ views) (omega arith)

in_place : {X : Type 0} (xs : List X) (k : ℕ) (x : X) → slice_get xs k ≡ Some x → In xs x
in_place [] k x e = absurd cc
in_place (y ∷ ys) zero x e = inl cc
in_place (y ∷ ys) (suc k) x e = inr (in_place ys k x e)

numbered_in : (views : List View) (e : ℕ) (v : View) → numbered e views ≡ Some v → In views v
numbered_in views zero v at = absurd cc
numbered_in views (suc k) v at = in_place views k v at

leaves_for_good : (views : List View) → AllByRecursion IsView views → IsChain views → LeavesForGood views
leaves_for_good [] each chain = absurd chain
leaves_for_good (first ∷ later) each chain = never_returns first later each.0 chain

module _ (views : List View) (each : AllByRecursion IsView views) (chain : IsChain views) where
  -- the view of an epoch, or the last one
  record Stands (e : ℕ) : Type 0 where
    inside : In views (view_in views e)
    epoch : ((e ≤ length views) × ((view_in views e).epoch ≡ e)) ⊎ ((length views < e) × ((view_in views e).epoch ≡ length views))

  some_view : (vs : List View) → IsChain vs → 1 ≤ length vs
  some_view [] none = absurd none
  some_view (v ∷ vs) is = omega arith

  stands : (k : ℕ) → Stands (suc k)
  stands k = ⊎_elim
      (λ (low : k < length views).
      let x = there_is views k low in
      let same : x.0 ≡ view_in views (suc k) = sym (view_at views (suc k) x.0 x.1) in
      record {
        inside = subst (In views) same (in_place views k x.0 x.1);
        epoch = inl (omega (arith, low), ap (λ (v : View). v.epoch) (sym same) ∙ chain_epochs views chain (suc k) x.0 x.1);
      })
      (λ (past : length views ≤ k).
      let at = last_numbered views (some_view views chain) in
      let same : last_view views ≡ view_in views (suc k) = sym (ap (λ (o : Option View). unwrap_or o (last_view views)) (slice_get_past views k past)) in
      record {
        inside = subst (In views) same (numbered_in views (length views) (last_view views) at);
        epoch = inr (omega (arith, past), ap (λ (v : View). v.epoch) (sym same) ∙ chain_epochs views chain (length views) (last_view views) at);
      })
      (cases_lt k (length views))

  in_order : (j k : ℕ) → j ≤ k → (view_in views (suc j)).epoch ≤ (view_in views (suc k)).epoch
  in_order j k up = at (stands j).epoch (stands k).epoch
    where
      at : ((suc j ≤ length views) × ((view_in views (suc j)).epoch ≡ suc j)) ⊎ ((length views < suc j) × ((view_in views (suc j)).epoch ≡ length views)) →
          ((suc k ≤ length views) × ((view_in views (suc k)).epoch ≡ suc k)) ⊎ ((length views < suc k) × ((view_in views (suc k)).epoch ≡ length views)) → (view_in views (suc j)).epoch ≤ (view_in views (suc k)).epoch
      at (inl a) (inl b) = omega (arith, a.1, b.1, up)
      at (inl a) (inr b) = omega (arith, a.0, a.1, b.1)
      at (inr a) (inl b) = absurd (omega (arith, a.0, b.0, up))
      at (inr a) (inr b) = omega (arith, a.1, b.1)

  pub never : (e f g : ℕ) (n : NodeId) → e ≤ f → f ≤ g → is_member n (view_in views e).members ≡ true → is_member n (view_in views g).members ≡ true → is_member n (view_in views f).members ≡ true
  never zero f g n low high was is = absurd (false≢true was)
  never (suc e) zero g n low high was is = absurd (omega (arith, low))
  never (suc e) (suc f) zero n low high was is = absurd (omega (arith, high))
  never (suc e) (suc f) (suc g) n low high was is =
      leaves_for_good views each chain (view_in views (suc e)) (view_in views (suc f)) (view_in views (suc g)) n (stands e).inside (stands f).inside (stands g).inside
      (in_order e f (omega (arith, low))) (in_order f g (omega (arith, high))) was is
