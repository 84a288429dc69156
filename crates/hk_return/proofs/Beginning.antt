-- What holds at the start.
use Rattle.std.proofs.Common.{◌≡◌, ℕ, ◌<◌, ◌≤◌, true, cond, [], ◌∷◌, nat_le, nat_lt, refl, inl, inr, ⊎_elim, arith, le_refl}
use Rattle.std.proofs.lemmas.Bool.{false≢true, le-leb}
use Rattle.hk_base.specs.declared.stamp.NodeId.{NodeId}
use Rattle.hk_base.specs.declared.letter.Actor.TheVariants.{Manager}
use Rattle.hk_lease.specs.Grants.{until_of}
use Rattle.hk_earned.specs.Machine.{Setting, first_untils}
use Rattle.hk_earned.proofs.Majorities.{length_times, below_times, count_all}
use Rattle.hk_earned.proofs.Beginning.{until_first}
use Rattle.hk_return.specs.Lives.{Lives, IsPacedForLeases}
use Rattle.hk_return.specs.Machine.{start, part_new, last_state, every}
use Rattle.hk_return.specs.Guarded.{FoundersAreMembers, GuardedWithReturns, GuardedWhereViewsMayBegin}
use Rattle.hk_return.proofs.Grants.{Granted, IsInOne}
use Rattle.hk_return.proofs.Parts.{IsBound, Rate, PartKept, Parts, guards, guards_letters}
use Rattle.hk_return.proofs.Going.{run_kept}

module _ (s : Setting) (lives : Lives) (last : ℕ) (paced : IsPacedForLeases s.skew s.founders lives last) (some : 1 ≤ s.managers) (founders : FoundersAreMembers s) where
  -- only founders were granted a lease
  founder : (m : ℕ) (n : NodeId) (end : ℕ) → Granted s [] m n end → (n.0 < s.founders) × (end ≡ s.lease)
  founder m n end (inl g) = absurd g.among
  founder m n end (inr f) = f

  bound : (n : NodeId) (end : ℕ) → (n.0 < s.founders) × (end ≡ s.lease) → IsBound s lives last paced 0 n end
  bound n end f = record {
    run = record { moment = 0; upto = le_refl 0; was = λ later up low live. paced.founders_first n later f.0 low live };
    most = let e = f.1 in omega (arith, e);
  }

  rate : (m : ℕ) (n : NodeId) (end later : ℕ) → (n.0 < s.founders) × (end ≡ s.lease) → later ≤ last → lives.life later m ≡ 0 → (lives.at later).live (Manager m) ≡ true → Rate s lives last paced 0 m 0 n end (until_of (first_untils s.lease s.founders) n)
  rate m n end later f low same live =
      let first = paced.managers_first m later (let l = f.0 in omega (arith, l)) low same live in
      record {
        since = 0;
        upto = le_refl 0;
        same = first.1;
        manager = first.0;
        node = (bound n end f).run;
        rate = λ is.
            let a = first.2 in
            let b = paced.node_reads n 0 (omega arith) is in
            let u = until_first s.lease s.founders n f.0 in
            let e = f.1 in
            omega (arith, a, b, u, e);
      }

  member : (n : NodeId) → n.0 < s.founders → IsInOne s (1 ∷ []) n
  member n f = record { epoch = 1; among = inl refl; member = founders n f }

  part : (m : ℕ) → PartKept s lives last paced 0 [] m (part_new s)
  part m = record {
    own = λ give i. absurd i;
    first = inl refl;
    descends = (λ e i. absurd i, tt);
    rates = λ n end g later up low same live. rate m n end later (founder m n end g) low same live;
    bounds = λ n end g. bound n end (founder m n end g);
    members = λ n end g. member n (founder m n end g).0;
    members_out = λ n end g. member n (founder m n end g).0;
    activates = λ sent i. absurd i;
  }

  pub start_parts : Parts s lives last paced (start s)
  start_parts = record {
    managers = part;
    asks = λ ask i. absurd i;
    ends = λ n. (length_times s.managers (cond (nat_lt n.0 s.founders) s.lease 0), below_times s.managers (cond (nat_lt n.0 s.founders) s.lease 0) (λ m. cond (nat_lt n.0 s.founders) s.lease 0) (λ m. le_refl (cond (nat_lt n.0 s.founders) s.lease 0)));
    reached = λ n h. let all = count_all (λ m. nat_le ((start s).granted n) ((start s).granted n)) (λ m. le-leb ((start s).granted n) ((start s).granted n) (le_refl ((start s).granted n))) s.managers in omega (arith, all, some);
    activates = λ sent i. absurd i;
    heard = λ n m h. absurd (false≢true h);
    installed = λ epoch i. ⊎_elim (λ (e : epoch ≡ 1). inl (omega (arith, e))) (λ (z : ⊥). absurd z) i;
  }

pub guarded : GuardedWithReturns
guarded s some chain founders lives events run paced =
    let last : ℕ = (last_state s lives every (start s) events).now in
    guards s lives last paced (last_state s lives every (start s) events) (le_refl last) (run_kept s lives last paced chain founders (start s) (start_parts s lives last paced some founders) events run (le_refl last))

pub guarded_letters : GuardedWhereViewsMayBegin
guarded_letters s some chain founders lives events run paced =
    let last : ℕ = (last_state s lives every (start s) events).now in
    guards_letters s lives last paced (last_state s lives every (start s) events) (le_refl last) (run_kept s lives last paced chain founders (start s) (start_parts s lives last paced some founders) events run (le_refl last))
