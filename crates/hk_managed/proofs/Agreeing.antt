-- What the agreement of a council tells of the views that were learned, by their epochs.
use Rattle.std.proofs.Common.{◌≡◌, ◌<◌, ℕ, zero, suc, List, [], ◌∷◌, length, Some, slice_get, refl, sym, ap, subst, inl, inr, arith}
use Rattle.hk_base.specs.declared.view.View.{View}
use Rattle.hk_base.specs.declared.letter.Actor.TheVariants.{Manager}
use Rattle.hk_base.specs.declared.letter.Body.TheVariants.{Activate}
use Rattle.hk_base.specs.declared.letter.Letter.{Letter}
use Rattle.hk_paxos.specs.Run.{In}
use Rattle.hk_manager.specs.Manager.{ManagerState}
use Rattle.hk_council.specs.Chain.{IsChain}
use Rattle.hk_council.specs.Council.{Council}
use Rattle.hk_council.specs.Agreed.{HasSaid, IsAgreed}
use Rattle.hk_world.specs.declared.process.ManagerProcess.{ManagerProcess}
use Rattle.hk_world.specs.World.{WorldState, manager_at, numbered}
use Rattle.hk_managed.specs.Council.{IsCouncilOf}
use Rattle.std.proofs.lemmas.Option.{slice_get_within}
use Rattle.hk_managed.proofs.Chain.{chain_epochs}

-- of a world with managers, whose views are those that they learned
pub record IsCouncil (w : WorldState) : Type 0 where
  pub chain : IsChain w.views
  -- what a manager holds is the view of its epoch
  pub held : (m : ℕ) (p : ManagerProcess) → manager_at m w.managers ≡ Some p → numbered p.manager.held.epoch w.views ≡ Some p.manager.held
  -- and so is one that a manager lets begin
  pub begun : (l : Letter) (m : ℕ) (view : View) → In w.letters l → l.from ≡ Manager m → l.body ≡ Activate view → numbered view.epoch w.views ≡ Some view

placed : (views : List View) (v : View) → In views v → (k : ℕ) × (slice_get views k ≡ Some v)
placed [] v h = absurd h
placed (u ∷ views) v (inl e) = (zero, ap (λ (x : View). Some x) (sym e))
placed (u ∷ views) v (inr h) = let p = placed views v h in (suc p.0, p.1)

chain_place : (views : List View) → IsChain views → (v : View) → In views v → numbered v.epoch views ≡ Some v
chain_place views chain v h =
    let p = placed views v h in
    let e : v.epoch ≡ suc p.0 = chain_epochs views chain (suc p.0) v p.1 in
    subst (λ (n : ℕ). numbered n views ≡ Some v) (sym e) p.1

pub council_of : (w : WorldState) (c : Council) (count : ℕ) → length w.managers ≡ count → IsCouncilOf w c → IsAgreed count c → IsCouncil w
council_of w c count many is agreed = record {
  chain = chain;
  held = λ m p at.
      let low : m < count = let k = slice_get_within w.managers m p at in omega (arith, k, many) in
      let inside : In w.views p.manager.held = subst (λ (views : List View). In views p.manager.held) is.learned (subst (λ (g : ManagerState). In c.learned g.held) (is.managers m p at) (agreed.held m low)) in
      chain_place w.views chain p.manager.held inside;
  begun = λ l m view sent from body.
      let said : HasSaid c l.epoch m (Activate view) = record { letter = l; ever = subst (λ (letters : List Letter). In letters l) (sym is.sent) sent; of_epoch = refl; sender = from; says = body } in
      chain_place w.views chain view (subst (λ (views : List View). In views view) is.learned (agreed.begun m l.epoch view said).0);
}
  where
    chain : IsChain w.views
    chain = subst IsChain is.learned agreed.chain
