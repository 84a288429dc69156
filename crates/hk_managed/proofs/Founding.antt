-- The world of founders is mirrored by the start of the machine, and none of its nodes heard anything yet.
use Rattle.std.proofs.Common.{◌≡◌, ◌≢◌, ◌⊎◌, ◌<◌, ◌≤◌, ◌+◌, ℕ, zero, suc, map, length, Bool, true, false, cond, ◌||◌, nat_lt, Option, Some, None, is_some, unwrap_or, replicate, refl, sym, ap, subst, ◌∙◌, inl, inr, ⊎_elim, arith}
use Rattle.std.specs.List.{fold, range_with_len}
use Rattle.std.proofs.lemmas.Bool.{false≢true, cases_lt, cases_eq, lt-ltb, ltb-true, le-ltb, ne_eqb}
use Rattle.std.proofs.lemmas.List.FromFn.{length-map-range_with_len}
use Rattle.hk_base.specs.declared.stamp.NodeId.{NodeId}
use Rattle.hk_base.specs.declared.letter.Actor.TheVariants.{Node, Manager}
use Rattle.hk_base.specs.View.{is_member, counted}
use Rattle.hk_lease.specs.Grants.{until_of, with_grant}
use Rattle.hk_lease.specs.Wait.{wait}
use Rattle.hk_clocks.specs.Clocks.{clock_of}
use Rattle.hk_clocks.specs.Runs.{seen}
use Rattle.hk_earned.specs.Machine.{Setting, State, first_untils, times, start as machine_start}
use Rattle.hk_earned.proofs.Beginning.{start_parts, until_first}
use Rattle.hk_earned.proofs.Parts.{Parts, Rate}
use Rattle.hk_earned.proofs.Places.{same_node}
use Rattle.hk_event.specs.declared.event.Header.{Header}
use Rattle.hk_world.specs.declared.process.ManagerProcess.{ManagerProcess}
use Rattle.hk_world.specs.World.{WorldState, process_at, manager_at, clocks_of, node_clock, manager_clock}
use Rattle.hk_world.specs.Start.{founding_process, founding_manager, start}
use Rattle.hk_world.specs.Sound.{IsHeader, IsWorld}
use Rattle.hk_managed.proofs.Places.{at_itself, at_other, mapped, replicated, index_replicated, length_replicated}
use Rattle.hk_managed.proofs.Mirror.{NodeIn, ManagerIn, setting_of}
use Rattle.hk_managed.proofs.Beginning.{HasHeard}
use Rattle.hk_managed.proofs.Kept.{HeardIn, IsKept}

-- the untils of a first lease are the same, in whichever order they are said
noted : (lease a k : ℕ) → fold (λ untils node. with_grant untils node (wait lease)) (first_untils lease a) (counted a k) ≡ first_untils lease (a + k)
noted lease a zero = let e : a ≡ a + 0 = omega arith in ap (first_untils lease) e
noted lease a (suc k) =
    let one : a + 1 ≡ suc a = omega arith in
    let all : suc a + k ≡ a + suc k = omega arith in
    ap (λ (n : ℕ). fold (λ untils node. with_grant untils node (wait lease)) (first_untils lease (suc a)) (counted n k)) one ∙ (noted lease (suc a) k ∙ ap (first_untils lease) all)

counted_none : (a k : ℕ) (n : NodeId) → a + k ≤ n.0 → is_member n (counted a k) ≡ false
counted_none a zero n past = refl
counted_none a (suc k) n past =
    ap (λ (b : Bool). b || is_member n (counted (a + 1) k)) (ne_eqb a n.0 (λ e. absurd (omega (arith, e, past))))
    ∙ counted_none (a + 1) k n (omega (arith, past))

module _ (h : Header) (is : IsHeader h) (sound : IsWorld (start h)) (some : 1 ≤ h.managers) where
  -- ---- founders
  founder_found : (a k : ℕ) (n : NodeId) → a ≤ n.0 → n.0 < a + k → process_at n (map (λ id. (id, founding_process h id)) (counted a k)) ≡ Some (founding_process h n)
  founder_found a zero n low high = absurd (omega (arith, low, high))
  founder_found a (suc k) n low high = ⊎_elim
      (λ (e : n.0 ≡ a).
      let same : n ≡ record { 0 = a } = same_node n (record { 0 = a }) e in
      subst (λ (m : NodeId). process_at m (map (λ id. (id, founding_process h id)) (counted a (suc k))) ≡ Some (founding_process h m)) (sym same)
      (ap (λ (b : Bool). cond b (Some (founding_process h (record { 0 = a }))) (process_at (record { 0 = a }) (map (λ id. (id, founding_process h id)) (counted (a + 1) k)))) (at_itself (record { 0 = a }))))
      (λ (d : n.0 ≢ a).
      ap (λ (b : Bool). cond b (Some (founding_process h (record { 0 = a }))) (process_at n (map (λ id. (id, founding_process h id)) (counted (a + 1) k)))) (at_other n (record { 0 = a }) (λ s. d (ap (λ (m : NodeId). m.0) s)))
      ∙ founder_found (a + 1) k n (omega (arith, low, d)) (omega (arith, high))) (cases_eq n.0 a)

  none_found : (a k : ℕ) (n : NodeId) → a + k ≤ n.0 → process_at n (map (λ id. (id, founding_process h id)) (counted a k)) ≡ None
  none_found a zero n past = refl
  none_found a (suc k) n past =
      ap (λ (b : Bool). cond b (Some (founding_process h (record { 0 = a }))) (process_at n (map (λ id. (id, founding_process h id)) (counted (a + 1) k))))
      (at_other n (record { 0 = a }) (λ s. let e : n.0 ≡ a = ap (λ (m : NodeId). m.0) s in absurd (omega (arith, e, past))))
      ∙ none_found (a + 1) k n (omega (arith, past))

  abbrev w : WorldState
  w = start h

  abbrev s : Setting
  s = setting_of w h.nodes

  many : length w.managers ≡ h.managers
  many = length-map-range_with_len (founding_manager h) 0 h.managers

  abbrev state : State
  state = record (machine_start s) { clocks = clocks_of w }

  -- which numbers are founders'
  which : (n : NodeId) → ((n.0 < h.nodes) × (process_at n w.processes ≡ Some (founding_process h n))) ⊎ ((nat_lt n.0 h.nodes ≡ false) × (process_at n w.processes ≡ None))
  which n = ⊎_elim
      (λ (low : n.0 < h.nodes). inl (low, founder_found 0 h.nodes n (omega arith) (omega (arith, low))))
      (λ (past : h.nodes ≤ n.0). inr (le-ltb n.0 h.nodes past, none_found 0 h.nodes n (omega (arith, past)))) (cases_lt n.0 h.nodes)

  -- whoever is live is a founder, whose clock reads 1
  node_one : (n : NodeId) → (seen (clocks_of w)).live (Node n) ≡ true → (n.0 < h.nodes) × ((seen (clocks_of w)).clock (Node n) ≡ 1)
  node_one n live = ⊎_elim
      (λ (f : (n.0 < h.nodes) × (process_at n w.processes ≡ Some (founding_process h n))). (f.0, ap (λ (o : Option ℕ). unwrap_or o 0) (sound.paced (Node n) ∙ ap node_clock f.1)))
      (λ (f : (nat_lt n.0 h.nodes ≡ false) × (process_at n w.processes ≡ None)). let none : clock_of w.paces (Node n) ≡ None = sound.paced (Node n) ∙ ap node_clock f.1 in absurd (false≢true (sym (ap is_some none) ∙ live)))
      (which n)

  manager_one : (m : ℕ) → (seen (clocks_of w)).live (Manager m) ≡ true → (seen (clocks_of w)).clock (Manager m) ≡ 1
  manager_one m live = at (manager_at m w.managers) refl
    where
      at : (o : Option ManagerProcess) → manager_at m w.managers ≡ o → (seen (clocks_of w)).clock (Manager m) ≡ 1
      at None e = let none : clock_of w.paces (Manager m) ≡ None = sound.paced (Manager m) ∙ ap manager_clock e in absurd (false≢true (sym (ap is_some none) ∙ live))
      at (Some p) e =
          let f = mapped (founding_manager h) (range_with_len 0 h.managers) m p e in
          ap (λ (o : Option ℕ). unwrap_or o 0) (sound.paced (Manager m) ∙ ap manager_clock (e ∙ ap (λ (q : ManagerProcess). Some q) f.2))

  founding : Parts s (machine_start s)
  founding = start_parts s is.skew (let m = many in omega (arith, m, some))

  rate : (m : ℕ) (n : NodeId) (t : Bool) → nat_lt n.0 h.nodes ≡ t → 1 ≤ cond t h.lease 0 → Rate (clocks_of w) m n (cond t h.lease 0) (until_of (first_untils h.lease h.nodes) n)
  rate m n true e granted l =
      let a = manager_one m l.first in
      let b = (node_one n l.second).1 in
      let u = until_first h.lease h.nodes n (ltb-true n.0 h.nodes e) in
      omega (arith, a, b, u)
  rate m n false e granted l = absurd (omega (arith, granted))

  parts : Parts s state
  parts = record {
    sound = sound.clocks;
    skew = refl;
    ones = λ n l. let o = node_one n l in let low = o.0 in let one = o.1 in (lt-ltb n.0 h.nodes low, omega (arith, one));
    managers = λ m l. let one = manager_one m l in omega (arith, one);
    asks = λ ask i. absurd i;
    known = founding.known;
    rates = λ m n. rate m n (nat_lt n.0 h.nodes) refl;
    gives = λ give i. absurd i;
    ends = founding.ends;
    reached = founding.reached;
    activates = λ sent i. absurd i;
    heard = λ n m t. absurd (false≢true t);
    installed = λ epoch i. ⊎_elim (λ (e : epoch ≡ 1). inl (omega (arith, e))) (λ (z : ⊥). absurd z) i;
  }

  -- ---- what the world has
  node_in : (n : NodeId) → NodeIn (length w.managers) state n (process_at n w.processes)
  node_in n = ⊎_elim
      (λ (f : (n.0 < h.nodes) × (process_at n w.processes ≡ Some (founding_process h n))).
      let t = lt-ltb n.0 h.nodes f.0 in
      subst (NodeIn (length w.managers) state n) (sym f.1) (record { started = t; ends = ap (λ (b : Bool). times (length w.managers) (cond b h.lease 0)) t ∙ (replicated (length w.managers) h.lease ∙ ap (λ (k : ℕ). replicate k h.lease) many); granted = ap (λ (b : Bool). cond b h.lease 0) t }))
      (λ (f : (nat_lt n.0 h.nodes ≡ false) × (process_at n w.processes ≡ None)).
      subst (NodeIn (length w.managers) state n) (sym f.1) (record { started = f.0; ends = ap (λ (b : Bool). times (length w.managers) (cond b h.lease 0)) f.0; granted = ap (λ (b : Bool). cond b h.lease 0) f.0 }))
      (which n)

  manager_in : (m : ℕ) → ManagerIn state m (manager_at m w.managers)
  manager_in m = at (manager_at m w.managers) refl
    where
      of_founding : (k : ℕ) → ManagerIn state m (Some (founding_manager h k))
      of_founding k = record { held = refl; untils = let zero_plus : 0 + h.nodes ≡ h.nodes = omega arith in sym (noted h.lease 0 h.nodes ∙ ap (first_untils h.lease) zero_plus) }

      at : (o : Option ManagerProcess) → manager_at m w.managers ≡ o → ManagerIn state m o
      at None e = tt
      at (Some p) e = let f = mapped (founding_manager h) (range_with_len 0 h.managers) m p e in subst (λ (q : ManagerProcess). ManagerIn state m (Some q)) (sym f.2) (of_founding f.0)

  heard_in : (n : NodeId) → HeardIn (length w.managers) w.letters (process_at n w.processes)
  heard_in n = ⊎_elim
      (λ (f : (n.0 < h.nodes) × (process_at n w.processes ≡ Some (founding_process h n))). subst (HeardIn (length w.managers) w.letters) (sym f.1) founder)
      (λ (f : (nat_lt n.0 h.nodes ≡ false) × (process_at n w.processes ≡ None)). subst (HeardIn (length w.managers) w.letters) (sym f.1) tt)
      (which n)
    where
      founder : HasHeard (length w.managers) w.letters (founding_process h n).node
      founder = record {
        long = length_replicated h.managers 0 ∙ sym many;
        sent = λ m one. let none = index_replicated h.managers m in absurd (omega (arith, none, one));
        begun = inl (omega arith);
      }

  -- the first view has the founders alone
  first : (n : NodeId) → is_member n (counted 0 h.nodes) ≡ true → nat_lt n.0 h.nodes ≡ true
  first n member = ⊎_elim
      (λ (low : n.0 < h.nodes). lt-ltb n.0 h.nodes low)
      (λ (past : h.nodes ≤ n.0). absurd (false≢true (sym (counted_none 0 h.nodes n (omega (arith, past))) ∙ member))) (cases_lt n.0 h.nodes)

  pub start_kept : IsKept w
  start_kept = record {
    some = let m = many in omega (arith, m, some);
    earned = record {
      founders = h.nodes;
      state = state;
      parts = parts;
      mirrors = record { clocks = refl; nodes = node_in; managers = manager_in; upto = λ m. omega arith; letters = λ l i. absurd i };
      first = first;
    };
    heard = heard_in;
  }
