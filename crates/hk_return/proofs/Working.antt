-- The worked runs are what they are said to be.
use Rattle.std.proofs.Common.{◌≡◌, Bool, ◌||◌, ℕ, zero, suc, ◌<◌, ◌≤◌, true, false, nat_lt, nat_eq, refl, sym, subst, ◌∙◌, inl, ⊎_elim, arith, le_refl, le_trans}
use Rattle.std.proofs.lemmas.Bool.{eqb-true, eqb-false, and_parts, cases_lt, false≢true}
use Rattle.hk_base.specs.declared.stamp.NodeId.{NodeId}
use Rattle.hk_base.specs.declared.letter.Actor.TheVariants.{Node, Manager}
use Rattle.hk_clocks.specs.Paced.{Moment}
use Rattle.hk_earned.specs.Machine.{member}
use Rattle.hk_earned.specs.Earned.{NeverReturns}
use Rattle.hk_earned.specs.Worked.{second_node, setting}
use Rattle.hk_earned.proofs.Working.{worked_run}
use Rattle.hk_return.specs.Lives.{NeverOutruns, IsPacedForLeases}
use Rattle.hk_return.specs.Guarded.{FoundersAreMembers}
use Rattle.hk_return.specs.Worked.{life_at, at, lives, WorkedReturn, missed_at, missed_lives, MissedWithNone, MissedWithLatest, disk_setting, WorkedDisk}

-- what rises at each moment rises from any to any later one
rises : (f : ℕ → ℕ) → ((i : ℕ) → f i ≤ f (suc i)) → (from to : ℕ) → from ≤ to → f from ≤ f to
rises f up from zero l = let e : from ≡ zero = omega (arith, l) in subst (λ (i : ℕ). f i ≤ f zero) (sym e) (le_refl (f zero))
rises f up from (suc to) l = by_order (λ (k : from ≤ to). le_trans (rises f up from to k) (up to))
  where
    by_order : (from ≤ to → f from ≤ f (suc to)) → f from ≤ f (suc to)
    by_order ih = ⊎_elim (λ (k : from < suc to). ih (omega (arith, k))) (λ (g : suc to ≤ from). let e : from ≡ suc to = omega (arith, g, l) in subst (λ (i : ℕ). f i ≤ f (suc to)) (sym e) (le_refl (f (suc to)))) (cases_lt from (suc to))

founders : FoundersAreMembers setting
founders node few = by_number node.0 few
  where
    by_number : (k : ℕ) → k < 2 → member setting 1 (record { 0 = k }) ≡ true
    by_number zero l = refl
    by_number (suc zero) l = refl
    by_number (suc (suc k)) l = absurd (omega (arith, l))

module _ (moments : ℕ → Moment) (nodes : (i : ℕ) (n : NodeId) → (moments i).live (Node n) ≡ nat_lt n.0 2) (first : (m i : ℕ) → (moments i).live (Manager m) ≡ true → (moments 0).live (Manager m) ≡ true)
    (begins : (m : ℕ) → (moments 0).clock (Manager m) ≡ 1) (reads : (i : ℕ) (n : NodeId) → 1 ≤ (moments i).clock (Node n)) (manager_reads : (i m : ℕ) → 1 ≤ (moments i).clock (Manager m))
    (up : (n : NodeId) (i : ℕ) → (moments i).clock (Node n) ≤ (moments (suc i)).clock (Node n)) where
  paced_by : (leased last : ℕ) → ((m : ℕ) (n : NodeId) → NeverOutruns 0 (record { at = moments; life = λ i m. life_at i }) last m n) → IsPacedForLeases 0 leased (record { at = moments; life = λ i m. life_at i }) last
  paced_by leased last rate = record {
    rate = rate;
    once = λ n i j k from to low was is. nodes j n ∙ sym (nodes i n) ∙ was;
    rising = λ n from to l low was is. rises (λ i. (moments i).clock (Node n)) (up n) from to l;
    node_reads = λ n i low is. reads i n;
    manager_reads = λ m i low is. manager_reads i m;
    founders_first = λ n i few low is. nodes 0 n ∙ sym (nodes i n) ∙ is;
    managers_first = λ m i some low same is. (first m i is, refl, begins m);
  }

-- ---- a manager returns
node_live : (i : ℕ) (n : NodeId) → (at i).live (Node n) ≡ nat_lt n.0 2
node_live zero n = refl
node_live (suc zero) n = refl
node_live (suc (suc zero)) n = refl
node_live (suc (suc (suc i))) n = refl

manager_first : (m i : ℕ) → (at i).live (Manager m) ≡ true → (at 0).live (Manager m) ≡ true
manager_first m zero is = is
manager_first m (suc zero) is = absurd (false≢true (and_parts (nat_eq m 0) false is).1)
manager_first m (suc (suc zero)) is = is
manager_first m (suc (suc (suc i))) is = is

node_reads : (i : ℕ) (n : NodeId) → 1 ≤ (at i).clock (Node n)
node_reads zero n = omega arith
node_reads (suc zero) n = omega arith
node_reads (suc (suc zero)) n = omega arith
node_reads (suc (suc (suc i))) n = omega arith

manager_reads : (i m : ℕ) → 1 ≤ (at i).clock (Manager m)
manager_reads zero m = omega arith
manager_reads (suc zero) m = omega arith
manager_reads (suc (suc zero)) m = omega arith
manager_reads (suc (suc (suc i))) m = omega arith

node_up : (n : NodeId) (i : ℕ) → (at i).clock (Node n) ≤ (at (suc i)).clock (Node n)
node_up n zero = omega arith
node_up n (suc zero) = omega arith
node_up n (suc (suc zero)) = omega arith
node_up n (suc (suc (suc i))) = omega arith

never_outruns : (m : ℕ) (n : NodeId) → NeverOutruns 0 lives 3 m n
never_outruns m n zero zero l low same was is = omega arith
never_outruns m n zero (suc zero) l low same was is = omega arith
never_outruns m n zero (suc (suc to)) l low same was is = absurd (omega (arith, same))
never_outruns m n (suc zero) zero l low same was is = omega arith
never_outruns m n (suc zero) (suc zero) l low same was is = omega arith
never_outruns m n (suc zero) (suc (suc to)) l low same was is = absurd (omega (arith, same))
never_outruns m n (suc (suc from)) zero l low same was is = absurd (omega (arith, l))
never_outruns m n (suc (suc from)) (suc zero) l low same was is = absurd (omega (arith, l))
never_outruns m n (suc (suc zero)) (suc (suc zero)) l low same was is = omega arith
never_outruns m n (suc (suc zero)) (suc (suc (suc to))) l low same was is = omega arith
never_outruns m n (suc (suc (suc from))) (suc (suc zero)) l low same was is = absurd (omega (arith, l))
never_outruns m n (suc (suc (suc from))) (suc (suc (suc to))) l low same was is = omega arith

pub worked_return : WorkedReturn
worked_return = record {
  runs = (refl, (((refl, refl), inl refl, refl), ((refl, refl), ((refl, inl refl), (((refl, refl), omega arith), (tt, (refl, (tt, ((refl, omega arith, omega arith), (((refl, refl), inl refl, refl), (((refl, refl), omega arith), ((refl, refl), ((refl, inl refl), (tt, (((refl, refl), refl), ((refl, refl), ((refl, inl refl, omega arith), ((refl, omega arith), tt))))))))))))))))));
  paced = paced_by at node_live manager_first (λ m. refl) node_reads manager_reads node_up 2 3 never_outruns;
  chain = worked_run.stays;
  founders = founders;
  ends = refl;
  down = refl;
  again = refl;
  granted = refl;
  installed = inl refl;
  left_out = record { before = 1; first = omega arith; lower = omega arith; was = refl; out = refl; live = refl };
}

-- ---- what a manager must note
missed_node : (i : ℕ) (n : NodeId) → (missed_at i).live (Node n) ≡ nat_lt n.0 2
missed_node zero n = refl
missed_node (suc zero) n = refl
missed_node (suc (suc i)) n = refl

missed_first : (m i : ℕ) → (missed_at i).live (Manager m) ≡ true → (missed_at 0).live (Manager m) ≡ true
missed_first m zero is = is
missed_first m (suc zero) is = absurd (false≢true (and_parts (nat_eq m 0) false is).1)
missed_first m (suc (suc i)) is = is

missed_reads : (i : ℕ) (n : NodeId) → 1 ≤ (missed_at i).clock (Node n)
missed_reads zero n = omega arith
missed_reads (suc zero) n = omega arith
missed_reads (suc (suc i)) n = omega arith

missed_one : (i m : ℕ) → (missed_at i).clock (Manager m) ≡ 1
missed_one zero m = refl
missed_one (suc zero) m = refl
missed_one (suc (suc i)) m = refl

missed_up : (n : NodeId) (i : ℕ) → (missed_at i).clock (Node n) ≤ (missed_at (suc i)).clock (Node n)
missed_up n zero = omega arith
missed_up n (suc zero) = omega arith
missed_up n (suc (suc i)) = omega arith

-- the manager's clock stands still
missed_outruns : (m : ℕ) (n : NodeId) → NeverOutruns 0 missed_lives 2 m n
missed_outruns m n from to l low same was is = let a = missed_one from m in let b = missed_one to m in omega (arith, a, b)

missed_paced : (leased : ℕ) → IsPacedForLeases 0 leased missed_lives 2
missed_paced leased = paced_by missed_at missed_node missed_first (λ m. refl) missed_reads (λ i m. let o = missed_one i m in omega (arith, o)) missed_up leased 2 missed_outruns

pub missed_with_none : MissedWithNone
missed_with_none = record {
  runs = (refl, (((refl, refl), inl refl, refl), (((refl, refl), omega arith), ((refl, refl), ((refl, inl refl), (tt, (tt, ((refl, omega arith, omega arith), (((refl, refl), refl), ((refl, refl), ((refl, inl refl, omega arith), ((refl, omega arith), tt))))))))))));
  paced = missed_paced 2;
  chain = worked_run.stays;
  founders = founders;
  ends = refl;
  unguarded = λ g.
      let h = (g 2 second_node (inl refl) (record { before = 1; first = omega arith; lower = omega arith; was = refl; out = refl; live = refl })).received in
      absurd (omega (arith, h));
}

pub missed_with_latest : MissedWithLatest
missed_with_latest = record {
  runs = (refl, (((refl, refl), inl refl, refl), (((refl, refl), omega arith), ((refl, refl), ((refl, inl refl), (tt, (tt, ((refl, omega arith, omega arith), (((refl, refl), refl), ((refl, refl), ((refl, inl refl, omega arith), ((refl, omega arith), tt))))))))))));
  paced = missed_paced 2;
  chain = worked_run.stays;
  founders = founders;
  ends = refl;
  unguarded = λ g.
      let h = (g 2 second_node (inl refl) (record { before = 1; first = omega arith; lower = omega arith; was = refl; out = refl; live = refl })).received in
      absurd (omega (arith, h));
}

-- ---- where the disk loses what was synced
disk_founders : FoundersAreMembers disk_setting
disk_founders node few = by_number node.0 few
  where
    by_number : (k : ℕ) → k < 1 → member disk_setting 1 (record { 0 = k }) ≡ true
    by_number zero l = refl
    by_number (suc k) l = absurd (omega (arith, l))

-- the first node is always a member, and the second one in one view alone
disk_chain : NeverReturns disk_setting
disk_chain e f g n low high = by_views (nat_eq e 2) (nat_eq f 2) (nat_eq g 2) refl refl refl
  where
    more : (t u : Bool) → (t || false) ≡ true → (t || (u || false)) ≡ true
    more true u h = refl
    more false u h = absurd (false≢true h)

    by_views : (t u v : Bool) → nat_eq e 2 ≡ t → nat_eq f 2 ≡ u → nat_eq g 2 ≡ v → member disk_setting e n ≡ true → member disk_setting g n ≡ true → member disk_setting f n ≡ true
    by_views t true true p q r was is = rw q (rw r at is)
    by_views t true false p q r was is = rw q (more (nat_eq 0 n.0) (nat_eq 1 n.0) (rw r at is))
    by_views t false false p q r was is = rw q (rw r at is)
    by_views false false true p q r was is = rw q (rw p at was)
    by_views true false true p q r was is =
        let a = eqb-true e 2 p in
        let b = eqb-true g 2 r in
        absurd (eqb-false f 2 q (omega (arith, a, b, low, high)))

pub worked_disk : WorkedDisk
worked_disk = record {
  runs = (((refl, refl), omega arith), (refl, (((refl, refl), inl refl, refl), ((refl, refl), ((refl, inl refl), (tt, (tt, ((refl, omega arith, tt), (((refl, refl), omega arith), (((refl, refl), omega arith), (((refl, refl), refl), ((refl, refl), ((refl, inl refl, omega arith), ((refl, omega arith), tt))))))))))))));
  paced = missed_paced 1;
  chain = disk_chain;
  founders = disk_founders;
  ends = refl;
  unguarded = λ g.
      let h = (g 3 second_node (inl refl) (record { before = 2; first = omega arith; lower = omega arith; was = refl; out = refl; live = refl })).received in
      absurd (omega (arith, h));
  soon = (((refl, refl), omega arith), (refl, (((refl, refl), inl refl, refl), ((refl, refl), ((refl, inl refl), (tt, (tt, ((refl, omega arith, tt), (((refl, refl), omega arith), ((refl, refl), (((refl, refl), omega arith), tt)))))))))));
  refused = λ may. absurd cc;
}
