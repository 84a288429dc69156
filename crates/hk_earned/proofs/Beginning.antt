-- What holds at the start.
use Rattle.std.proofs.Common.{◌≡◌, ◌≢◌, ℕ, zero, suc, ◌<◌, ◌≤◌, List, [], ◌∷◌, ◌++◌, Bool, true, false, cond, nat_le, nat_lt, Option, Some, None, unwrap_or, is_some, refl, sym, ap, subst, ◌∙◌, inl, ⊎_elim, arith, le_refl}
use Rattle.std.specs.Option.{option_map}
use Rattle.std.specs.BTreeMap.{insert_entry, is_at}
use Rattle.std.proofs.lemmas.Bool.{false≢true, le-leb, lt-ltb, ltb-true, cases_eq}
use Rattle.hk_base.specs.declared.stamp.NodeId.{NodeId}
use Rattle.hk_base.specs.declared.letter.Actor.{Actor}
use Rattle.hk_base.specs.declared.letter.Actor.TheVariants.{Node, Manager}
use Rattle.hk_base.specs.declared.time.TheConstants.{MAX_TIME}
use Rattle.hk_lease.specs.Wait.{wait}
use Rattle.hk_lease.specs.Grants.{until_of}
use Rattle.hk_lease.proofs.Noted.{granted_same, granted_other}
use Rattle.hk_clocks.specs.declared.pace.Pace.{Pace}
use Rattle.hk_clocks.specs.Clocks.{ClockState, by_actor, pace_of}
use Rattle.hk_clocks.specs.Steps.{ClockEvent, clock_step, starts}
use Rattle.hk_clocks.specs.Steps.ClockEvent.{Start}
use Rattle.hk_clocks.specs.Runs.{no_clocks, made_or, after, seen}
use Rattle.hk_clocks.specs.Sound.{AreClocks}
use Rattle.hk_clocks.proofs.Lookups.{which, put_same, put_other}
use Rattle.hk_clocks.proofs.Running.{goes, start_kept_all}
use Rattle.hk_earned.specs.Machine.{Setting, begin_nodes, begin_managers, begin, first_untils, last_state, start}
use Rattle.hk_earned.specs.Earned.{Guarded}
use Rattle.hk_earned.proofs.Majorities.{length_times, below_times, count_all}
use Rattle.hk_earned.proofs.Places.{same_node}
use Rattle.hk_earned.proofs.Clocked.{skew_kept}
use Rattle.hk_earned.proofs.Parts.{Rate, Parts, guards}
use Rattle.hk_earned.proofs.Going.{run_kept}

-- clocks that have just begun, those of founders and of managers
record Fresh (founders : ℕ) (c : ClockState) : Type 0 where
  sound : AreClocks c
  ones : (a : Actor) (pace : Pace) → pace_of c.paces a ≡ Some pace → pace.clock ≡ 1
  nodes : (n : NodeId) (pace : Pace) → pace_of c.paces (Node n) ≡ Some pace → n.0 < founders

fresh_next : (founders : ℕ) (c : ClockState) (a : Actor) → ((n : NodeId) → a ≡ Node n → n.0 < founders) → Fresh founders c → Fresh founders (made_or c (clock_step c (Start a 1)))
fresh_next founders c a among f = at (pace_of c.paces a) refl (goes c (Start a 1) f.sound (omega arith)).kept
  where
    at : (o : Option Pace) → pace_of c.paces a ≡ o → AreClocks (made_or c (starts o c a 1)) → Fresh founders (made_or c (starts o c a 1))
    at (Some pace) e k = f
    at None e k = record { sound = k; ones = ones; nodes = nodes }
      where
        here : (b : Actor) (pace : Pace) → b ≡ a → pace_of (insert_entry by_actor c.paces a (record { clock = 1; leads = [] })) b ≡ Some pace → pace.clock ≡ 1
        here b pace s is =
            let p = put_same a (record { clock = 1; leads = [] }) c.paces in
            let q : pace_of (insert_entry by_actor c.paces a (record { clock = 1; leads = [] })) a ≡ Some pace = subst (λ (x : Actor). pace_of (insert_entry by_actor c.paces a (record { clock = 1; leads = [] })) x ≡ Some pace) s is in
            ap (λ (o : Option Pace). unwrap_or (option_map (λ pace. pace.clock) o) 0) (sym q ∙ p)

        ones : (b : Actor) (pace : Pace) → pace_of (insert_entry by_actor c.paces a (record { clock = 1; leads = [] })) b ≡ Some pace → pace.clock ≡ 1
        ones b pace is = ⊎_elim
            (λ (s : b ≡ a). here b pace s is)
            (λ (d : (b ≡ a → ⊥) × (is_at (by_actor b) a ≡ false) × (is_at (by_actor a) b ≡ false)). f.ones b pace (sym (put_other b a (record { clock = 1; leads = [] }) c.paces d.1) ∙ is)) (which b a)

        nodes : (n : NodeId) (pace : Pace) → pace_of (insert_entry by_actor c.paces a (record { clock = 1; leads = [] })) (Node n) ≡ Some pace → n.0 < founders
        nodes n pace is = ⊎_elim
            (λ (s : Node n ≡ a). among n (sym s))
            (λ (d : (Node n ≡ a → ⊥) × (is_at (by_actor (Node n)) a ≡ false) × (is_at (by_actor a) (Node n) ≡ false)). f.nodes n pace (sym (put_other (Node n) a (record { clock = 1; leads = [] }) c.paces d.1) ∙ is)) (which (Node n) a)

abbrev number_of : Actor → ℕ
number_of (Node n) = n.0
number_of (Manager m) = 0

abbrev is_node : Actor → Bool
is_node (Node n) = true
is_node (Manager m) = false

fresh_managers : (founders : ℕ) (c : ClockState) (k : ℕ) → Fresh founders c → Fresh founders (after c (begin_managers k))
fresh_managers founders c zero f = f
fresh_managers founders c (suc k) f = fresh_managers founders (made_or c (clock_step c (Start (Manager k) 1))) k (fresh_next founders c (Manager k) (λ n e. absurd (false≢true (ap is_node e))) f)

fresh_all : (founders managers : ℕ) (c : ClockState) (k : ℕ) → k ≤ founders → Fresh founders c → Fresh founders (after c (begin_nodes k ++ begin_managers managers))
fresh_all founders managers c zero low f = fresh_managers founders c managers f
fresh_all founders managers c (suc k) low f = fresh_all founders managers (made_or c (clock_step c (Start (Node (record { 0 = k })) 1))) k (omega (arith, low))
    (fresh_next founders c (Node (record { 0 = k })) (λ n e. let s : k ≡ n.0 = ap number_of e in omega (arith, low, s)) f)

skew_after : (c : ClockState) (events : List ClockEvent) → (after c events).skew ≡ c.skew
skew_after c [] = refl
skew_after c (event ∷ events) = skew_after (made_or c (clock_step c event)) events ∙ skew_kept c event

pub until_first : (lease k : ℕ) (n : NodeId) → n.0 < k → wait lease ≤ until_of (first_untils lease k) n
until_first lease zero n below = absurd (omega (arith, below))
until_first lease (suc k) n below = ⊎_elim
    (λ (e : n.0 ≡ k).
    let s : n ≡ record { 0 = k } = same_node n (record { 0 = k }) e in
    rw s (let h = granted_same (first_untils lease k) (record { 0 = k }) (wait lease) in omega (arith, h)))
    (λ (d : n.0 ≢ k).
    let h = granted_other (first_untils lease k) (record { 0 = k }) (wait lease) n d in
    let l : n.0 < k = omega (arith, below, d) in
    let r = until_first lease k n l in
    omega (arith, h, r)) (cases_eq n.0 k)

module _ (s : Setting) (low : s.skew ≤ MAX_TIME) (some : 1 ≤ s.managers) where
  fresh : Fresh s.founders (start s).clocks
  fresh = fresh_all s.founders s.managers (no_clocks s.skew) s.founders (le_refl s.founders) (record { sound = start_kept_all s.skew low; ones = λ a pace e. absurd (none_some e); nodes = λ n pace e. absurd (none_some e) })
    where
      none_some : {pace : Pace} → None ≡ Some pace → ⊥
      none_some e = absurd cc

  one_at : (a : Actor) → (seen (start s).clocks).live a ≡ true → (seen (start s).clocks).clock a ≡ 1
  one_at a live = at (pace_of (start s).clocks.paces a) refl live
    where
      at : (o : Option Pace) → pace_of (start s).clocks.paces a ≡ o → is_some (option_map (λ pace. pace.clock) o) ≡ true → unwrap_or (option_map (λ pace. pace.clock) o) 0 ≡ 1
      at None e h = absurd (false≢true h)
      at (Some pace) e h = fresh.ones a pace e

  founder_at : (n : NodeId) → (seen (start s).clocks).live (Node n) ≡ true → n.0 < s.founders
  founder_at n live = at (pace_of (start s).clocks.paces (Node n)) refl live
    where
      at : (o : Option Pace) → pace_of (start s).clocks.paces (Node n) ≡ o → is_some (option_map (λ pace. pace.clock) o) ≡ true → n.0 < s.founders
      at None e h = absurd (false≢true h)
      at (Some pace) e h = fresh.nodes n pace e

  rate : (m : ℕ) (n : NodeId) (t : Bool) → nat_lt n.0 s.founders ≡ t → 1 ≤ cond t s.lease 0 → Rate (start s).clocks m n (cond t s.lease 0) (until_of (first_untils s.lease s.founders) n)
  rate m n true e h l =
      let a = one_at (Manager m) l.first in
      let b = one_at (Node n) l.second in
      let u = until_first s.lease s.founders n (ltb-true n.0 s.founders e) in
      omega (arith, a, b, u)
  rate m n false e h l = absurd (omega (arith, h))

  known : (n : NodeId) (t : Bool) → 1 ≤ cond t s.lease 0 → t ≡ true
  known n true h = refl
  known n false h = absurd (omega (arith, h))

  pub start_parts : Parts s (start s)
  start_parts = record {
    sound = fresh.sound;
    skew = skew_after (no_clocks s.skew) (begin s);
    ones = λ n l. (lt-ltb n.0 s.founders (founder_at n l), let o = one_at (Node n) l in omega (arith, o));
    managers = λ m l. let o = one_at (Manager m) l in omega (arith, o);
    asks = λ ask i. absurd i;
    known = λ m n h. known n (nat_lt n.0 s.founders) h;
    rates = λ m n. rate m n (nat_lt n.0 s.founders) refl;
    gives = λ give i. absurd i;
    ends = λ n. (length_times s.managers (cond (nat_lt n.0 s.founders) s.lease 0), below_times s.managers (cond (nat_lt n.0 s.founders) s.lease 0) (λ m. cond (nat_lt n.0 s.founders) s.lease 0) (λ m. le_refl (cond (nat_lt n.0 s.founders) s.lease 0)));
    reached = λ n h. let all = count_all (λ m. nat_le ((start s).granted n) ((start s).granted n)) (λ m. le-leb ((start s).granted n) ((start s).granted n) (le_refl ((start s).granted n))) s.managers in omega (arith, all, some);
    activates = λ sent i. absurd i;
    heard = λ n m h. absurd (false≢true h);
    installed = λ epoch i. ⊎_elim (λ (e : epoch ≡ 1). inl (omega (arith, e))) (λ (z : ⊥). absurd z) i;
  }

pub guarded : Guarded
guarded s some lease low chain events run = guards s (last_state s (start s) events) (run_kept s chain (start s) (start_parts s low some) events run)
