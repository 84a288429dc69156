-- Each event keeps what holds at every moment.
use Rattle.std.proofs.Common.{◌≡◌, ◌⊎◌, ℕ, ◌+◌, ◌<◌, ◌≤◌, Bool, true, false, cond, List, [], ◌∷◌, length, nat_eq, nat_le, max, refl, sym, ◌∙◌, inl, inr, ⊎_elim, arith, le_refl, le_trans}
use Rattle.std.proofs.lemmas.Bool.{cases_lt, eqb-true, eq-eqb}
use Rattle.hk_base.specs.declared.stamp.NodeId.{NodeId}
use Rattle.hk_base.specs.declared.letter.Actor.TheVariants.{Node, Manager}
use Rattle.hk_lease.specs.Wait.{wait}
use Rattle.hk_lease.specs.Grants.{until_of, with_grant}
use Rattle.hk_lease.specs.Ends.{granted_end}
use Rattle.hk_lease.proofs.Noted.{granted_same, granted_other, past}
use Rattle.hk_clocks.specs.Steps.{ClockEvent, clock_step}
use Rattle.hk_clocks.specs.Steps.ClockEvent.{Start}
use Rattle.hk_clocks.specs.Runs.{IsEvent, made_or, seen}
use Rattle.hk_clocks.proofs.Running.{Goes, goes}
use Rattle.hk_earned.specs.Machine.{Setting, State, Ask, Give, Activate, Event, In, put, IsMajority, with_end, granted_by, member, MayBegin, started_after, end_for, heard_with, next, MayHappen, IsRun, last_state}
use Rattle.hk_earned.specs.Machine.Event.{Clock, Learn, AskLease, TakeAsk, TakeGive, SendActivate, TakeActivate, Install}
use Rattle.hk_earned.specs.Earned.{NeverReturns}
use Rattle.hk_earned.proofs.Majorities.{Most, Below, below_up, below_with, length_with, most_reach, end_reached}
use Rattle.hk_earned.proofs.Places.{same_node, by_put, by_node, which_pair, other_give, here_give}
use Rattle.hk_earned.proofs.Clocked.{IsNew, lives, skew_kept, started_kept}
use Rattle.hk_earned.proofs.Parts.{no_manager, no_started, Rate, rate_goes, over, rate_grant, Past, Parts, past_goes, past_up, never_again}

-- who starts is known from then on
new_known : (st : State) (event : ClockEvent) (n : NodeId) → MayBegin st event → IsNew st.clocks event (Node n) → (started_after event st.started n ≡ true) × (1 ≤ (seen (made_or st.clocks (clock_step st.clocks event))).clock (Node n))
new_known st event n may new = (known event new.is, let b = (begins event may new.is) in let r = new.reads in omega (arith, b, r))
  where
    known : (e : ClockEvent) → e ≡ Start (Node n) new.clock → started_after e st.started n ≡ true
    known e is = rw is (rw (eq-eqb n.0 n.0 refl) refl)

    begins : (e : ClockEvent) → MayBegin st e → e ≡ Start (Node n) new.clock → 1 ≤ new.clock
    begins e may is = (rw is at may).1

module _ (s : Setting) (chain : NeverReturns s) where
  clock_kept : (st : State) (event : ClockEvent) → IsEvent event → MayBegin st event → Parts s st → Parts s (next s st (Clock event))
  clock_kept st event low may p = record {
    sound = g.kept;
    skew = skew_kept st.clocks event ∙ p.skew;
    ones = λ n l. ⊎_elim
        (λ (was : (seen st.clocks).live (Node n) ≡ true). let o = p.ones n was in let c = g.follows.clocks (Node n) was l in (started_kept event st.started n o.0, le_trans o.1 c))
        (λ (w : IsNew st.clocks event (Node n)). new_known st event n may w) (lives st.clocks event p.sound (Node n) l);
    managers = λ m l. ⊎_elim
        (λ (was : (seen st.clocks).live (Manager m) ≡ true). le_trans (p.managers m was) (g.follows.clocks (Manager m) was l))
        (λ (w : IsNew st.clocks event (Manager m)). absurd (no_manager st event m may w)) (lives st.clocks event p.sound (Manager m) l);
    asks = λ ask i. let a = p.asks ask i in (
      started_kept event st.started ask.node a.0,
      λ l. ⊎_elim
          (λ (was : (seen st.clocks).live (Node ask.node) ≡ true). le_trans (a.1 was) (g.follows.clocks (Node ask.node) was l))
          (λ (w : IsNew st.clocks event (Node ask.node)). absurd (no_started st event ask.node may a.0 w)) (lives st.clocks event p.sound (Node ask.node) l),
    );
    known = λ m n some. started_kept event st.started n (p.known m n some);
    rates = λ m n some. rate_goes st event p.sound low may m n (granted_by s.lease s.founders st.gives m n) (until_of (st.untils m) n) (p.known m n some) (p.rates m n some);
    gives = p.gives;
    ends = p.ends;
    reached = p.reached;
    activates = λ sent i. kept sent.manager sent.epoch (p.activates sent i);
    heard = λ n m h. kept m (st.heard_epoch n) (p.heard n m h);
    installed = λ epoch i. ⊎_elim (λ (l : epoch ≤ 1). inl l) (λ (m : Most s.managers (λ m. Past s st.clocks (st.held m) (granted_by s.lease s.founders st.gives m) epoch)). inr (record { test = m.test; many = m.many; each = λ j h. kept j epoch (m.each j h) })) (p.installed epoch i);
  }
    where
      g : Goes st.clocks (made_or st.clocks (clock_step st.clocks event))
      g = goes st.clocks event p.sound low

      kept : (m epoch : ℕ) → Past s st.clocks (st.held m) (granted_by s.lease s.founders st.gives m) epoch → Past s (made_or st.clocks (clock_step st.clocks event)) (st.held m) (granted_by s.lease s.founders st.gives m) epoch
      kept m epoch = past_goes s st event p.sound low may (st.held m) (granted_by s.lease s.founders st.gives m) epoch (λ n some. p.known m n some)

  learn_kept : (st : State) (m epoch : ℕ) → MayHappen s st (Learn m epoch) → Parts s st → Parts s (next s st (Learn m epoch))
  learn_kept st m epoch may p = record {
    sound = p.sound;
    skew = p.skew;
    ones = p.ones;
    managers = p.managers;
    asks = p.asks;
    known = p.known;
    rates = p.rates;
    gives = p.gives;
    ends = p.ends;
    reached = p.reached;
    activates = λ sent i. kept sent.manager sent.epoch (p.activates sent i);
    heard = λ n j h. kept j (st.heard_epoch n) (p.heard n j h);
    installed = λ e i. ⊎_elim (λ (l : e ≤ 1). inl l) (λ (m : Most s.managers (λ m. Past s st.clocks (st.held m) (granted_by s.lease s.founders st.gives m) e)). inr (record { test = m.test; many = m.many; each = λ j h. kept j e (m.each j h) })) (p.installed e i);
  }
    where
      kept : (j e : ℕ) → Past s st.clocks (st.held j) (granted_by s.lease s.founders st.gives j) e → Past s st.clocks (put m epoch st.held j) (granted_by s.lease s.founders st.gives j) e
      kept j e old = by_put (λ (h : ℕ). Past s st.clocks h (granted_by s.lease s.founders st.gives j) e) m epoch st.held j
          (λ q. let l : st.held j ≤ epoch = rw q (omega (arith, may.1)) in past_up s st.clocks (st.held j) epoch (granted_by s.lease s.founders st.gives j) e l old)
          (λ d. old)

  ask_kept : (st : State) (n : NodeId) (m : ℕ) → MayHappen s st (AskLease n m) → Parts s st → Parts s (next s st (AskLease n m))
  ask_kept st n m may p = record {
    sound = p.sound;
    skew = p.skew;
    ones = p.ones;
    managers = p.managers;
    asks = λ ask i. ⊎_elim
        (λ (e : ask ≡ record { node = n; manager = m; asked = (seen st.clocks).clock (Node n) }). rw e ((p.ones n may).0, λ l. le_refl ((seen st.clocks).clock (Node n))))
        (λ (i : In st.asks ask). p.asks ask i) i;
    known = p.known;
    rates = p.rates;
    gives = p.gives;
    ends = p.ends;
    reached = p.reached;
    activates = p.activates;
    heard = p.heard;
    installed = p.installed;
  }

  grant_kept : (st : State) (ask : Ask) → MayHappen s st (TakeAsk ask) → Parts s st → Parts s (next s st (TakeAsk ask))
  grant_kept st ask may p = record {
    sound = p.sound;
    skew = p.skew;
    ones = p.ones;
    managers = p.managers;
    asks = p.asks;
    known = λ j k. known j k (which_pair ask.manager ask.node j k);
    rates = λ j k. rate j k (which_pair ask.manager ask.node j k);
    gives = λ give i. ⊎_elim
        (λ (e : give ≡ letter). rw e (let h = here_give s.lease s.founders st.gives letter in omega (arith, h)))
        (λ (i : In st.gives give). le_trans (p.gives give i) (up give.manager give.node)) i;
    ends = λ n. ((p.ends n).0, below_up (st.ends n) (λ m. granted_by s.lease s.founders st.gives m n) (λ m. granted m n) (λ m. up m n) (p.ends n).1);
    reached = λ n some. most_reach s.managers (st.granted n) (λ m. granted_by s.lease s.founders st.gives m n) (λ m. granted m n) (λ m. up m n) (p.reached n some);
    activates = λ sent i. kept sent.manager sent.epoch (p.activates sent i);
    heard = λ n j h. kept j (st.heard_epoch n) (p.heard n j h);
    installed = λ e i. ⊎_elim (λ (l : e ≤ 1). inl l) (λ (m : Most s.managers (λ m. Past s st.clocks (st.held m) (granted_by s.lease s.founders st.gives m) e)). inr (record { test = m.test; many = m.many; each = λ j h. kept j e (m.each j h) })) (p.installed e i);
  }
    where
      letter : Give
      letter = record { manager = ask.manager; node = ask.node; end = end_for s ask.asked }

      old_end : ℕ
      old_end = granted_by s.lease s.founders st.gives ask.manager ask.node

      old_until : ℕ
      old_until = until_of (st.untils ask.manager) ask.node

      noted : ℕ
      noted = (seen st.clocks).clock (Manager ask.manager) + wait s.lease

      granted : ℕ → NodeId → ℕ
      granted = granted_by s.lease s.founders (letter ∷ st.gives)

      untils : ℕ → List (NodeId × ℕ)
      untils = put ask.manager (with_grant (st.untils ask.manager) ask.node noted) st.untils

      Its : ℕ → NodeId → Type 0
      Its j k = (j ≡ ask.manager) × (k ≡ ask.node)

      here_granted : (j : ℕ) (k : NodeId) → Its j k → granted j k ≡ max old_end letter.end
      here_granted j k e = rw (e.0, e.1) (here_give s.lease s.founders st.gives letter)

      up : (j : ℕ) (k : NodeId) → granted_by s.lease s.founders st.gives j k ≤ granted j k
      up j k = ⊎_elim
          (λ (e : Its j k).
          let a = here_granted j k e in
          let b : granted_by s.lease s.founders st.gives j k ≡ old_end = rw (e.0, e.1) refl in
          omega (arith, a, b))
          (λ (o : Its j k → ⊥). let a = other_give s.lease s.founders st.gives letter j k o in omega (arith, a)) (which_pair ask.manager ask.node j k)

      known : (j : ℕ) (k : NodeId) → Its j k ⊎ (Its j k → ⊥) → 1 ≤ granted j k → st.started k ≡ true
      known j k (inl e) some = rw e.1 (p.asks ask may.1).0
      known j k (inr o) some = let a = other_give s.lease s.founders st.gives letter j k o in p.known j k (omega (arith, a, some))

      until_here : until_of (untils ask.manager) ask.node ≡ max old_until noted
      until_here = rw (eq-eqb ask.manager ask.manager refl) (granted_same (st.untils ask.manager) ask.node noted)

      until_there : (j : ℕ) (k : NodeId) → (Its j k → ⊥) → until_of (untils j) k ≡ until_of (st.untils j) k
      until_there j k o = by_put (λ (g : List (NodeId × ℕ)). until_of g k ≡ until_of (st.untils j) k) ask.manager (with_grant (st.untils ask.manager) ask.node noted) st.untils j
          (λ e. rw e (granted_other (st.untils ask.manager) ask.node noted k (λ q. o (e, same_node k ask.node q))))
          (λ d. refl)

      rate : (j : ℕ) (k : NodeId) → Its j k ⊎ (Its j k → ⊥) → 1 ≤ granted j k → Rate st.clocks j k (granted j k) (until_of (untils j) k)
      rate j k (inl e) some =
          let a = p.asks ask may.1 in
          rw (e.0, e.1) (rw (here_give s.lease s.founders st.gives letter, until_here)
          (rate_grant st.clocks ask.manager ask.node old_end old_until ask.asked letter.end s.lease a.1 (omega arith) (p.rates ask.manager ask.node)))
      rate j k (inr o) some =
          let a = other_give s.lease s.founders st.gives letter j k o in
          rw (a, until_there j k o) (p.rates j k (omega (arith, a, some)))

      kept : (j e : ℕ) → Past s st.clocks (st.held j) (granted_by s.lease s.founders st.gives j) e → Past s st.clocks (st.held j) (granted j) e
      kept j e old = record {
        upto = old.upto;
        past = λ k l. ⊎_elim
            (λ (q : Its j k). let h : member s (st.held j) k ≡ true = rw (q.0, q.1) may.2 in absurd (never_again s chain st.clocks (st.held j) (granted_by s.lease s.founders st.gives j) e k old l h))
            (λ (o : Its j k → ⊥). let a = other_give s.lease s.founders st.gives letter j k o in let b = old.past k l in omega (arith, a, b)) (which_pair ask.manager ask.node j k);
      }

  give_kept : (st : State) (give : Give) → MayHappen s st (TakeGive give) → Parts s st → Parts s (next s st (TakeGive give))
  give_kept st give may p = record {
    sound = p.sound;
    skew = p.skew;
    ones = p.ones;
    managers = p.managers;
    asks = p.asks;
    known = p.known;
    rates = p.rates;
    gives = p.gives;
    ends = λ n. by_node (λ (row : List ℕ). (length row ≡ s.managers) × Below row (λ m. granted_by s.lease s.founders st.gives m n)) give.node ends st.ends n (λ e. rw e (long, below)) (λ d. p.ends n);
    reached = λ n. by_node (λ (v : ℕ). 1 ≤ v → IsMajority s.managers (λ m. nat_le v (granted_by s.lease s.founders st.gives m n))) give.node (max (st.granted give.node) (granted_end ends)) st.granted n (λ e. rw e reach) (λ d. p.reached n);
    activates = p.activates;
    heard = p.heard;
    installed = p.installed;
  }
    where
      ends : List ℕ
      ends = with_end give.manager give.end (st.ends give.node)

      long : length ends ≡ s.managers
      long = length_with give.manager give.end (st.ends give.node) ∙ (p.ends give.node).0

      below : Below ends (λ m. granted_by s.lease s.founders st.gives m give.node)
      below = below_with give.manager give.end (st.ends give.node) (λ m. granted_by s.lease s.founders st.gives m give.node) (p.gives give may.1) (p.ends give.node).1

      reach : 1 ≤ max (st.granted give.node) (granted_end ends) → IsMajority s.managers (λ m. nat_le (max (st.granted give.node) (granted_end ends)) (granted_by s.lease s.founders st.gives m give.node))
      reach some = ⊎_elim
          (λ (l : st.granted give.node < granted_end ends).
          let e : max (st.granted give.node) (granted_end ends) ≡ granted_end ends = omega (arith, l) in
          rw e (end_reached s.managers ends (λ m. granted_by s.lease s.founders st.gives m give.node) long below (omega (arith, l))))
          (λ (h : granted_end ends ≤ st.granted give.node).
          let e : max (st.granted give.node) (granted_end ends) ≡ st.granted give.node = omega (arith, h) in
          rw e (p.reached give.node (omega (arith, some, h)))) (cases_lt (st.granted give.node) (granted_end ends))

  send_kept : (st : State) (m : ℕ) → MayHappen s st (SendActivate m) → Parts s st → Parts s (next s st (SendActivate m))
  send_kept st m may p = record {
    sound = p.sound;
    skew = p.skew;
    ones = p.ones;
    managers = p.managers;
    asks = p.asks;
    known = p.known;
    rates = p.rates;
    gives = p.gives;
    ends = p.ends;
    reached = p.reached;
    activates = λ sent i. ⊎_elim (λ (e : sent ≡ record { manager = m; epoch = st.held m }). rw e now) (λ (i : In st.activates sent). p.activates sent i) i;
    heard = p.heard;
    installed = p.installed;
  }
    where
      now : Past s st.clocks (st.held m) (granted_by s.lease s.founders st.gives m) (st.held m)
      now = record {
        upto = le_refl (st.held m);
        past = λ n l. ⊎_elim
            (λ (none : granted_by s.lease s.founders st.gives m n < 1). let c = (p.ones n l.live).1 in omega (arith, none, c))
            (λ (some : 1 ≤ granted_by s.lease s.founders st.gives m n).
            let quiet = past (st.untils m) (s.views (st.held m)) ((seen st.clocks).clock (Manager m)) n may.1 l.out (p.managers m may.0) in
            let gone = over st.clocks p.sound m n (granted_by s.lease s.founders st.gives m n) (until_of (st.untils m) n) (p.rates m n some) (record { first = may.0; second = l.live }) quiet in
            let k = p.skew in
            omega (arith, gone, k)) (cases_lt (granted_by s.lease s.founders st.gives m n) 1);
      }

  heard_kept : (st : State) (n : NodeId) (sent : Activate) → MayHappen s st (TakeActivate n sent) → Parts s st → Parts s (next s st (TakeActivate n sent))
  heard_kept st n sent may p = record {
    sound = p.sound;
    skew = p.skew;
    ones = p.ones;
    managers = p.managers;
    asks = p.asks;
    known = p.known;
    rates = p.rates;
    gives = p.gives;
    ends = p.ends;
    reached = p.reached;
    activates = p.activates;
    heard = λ k m. at k m (nat_eq k.0 n.0);
    installed = p.installed;
  }
    where
      Its : ℕ → ℕ → Type 0
      Its m epoch = Past s st.clocks (st.held m) (granted_by s.lease s.founders st.gives m) epoch

      from_sender : (m : ℕ) → m ≡ sent.manager → Its m sent.epoch
      from_sender m e = rw e (p.activates sent may.1)

      new : (m : ℕ) (u : Bool) → nat_eq (st.heard_epoch n) sent.epoch ≡ u → (cond u (put sent.manager true (st.heard n)) (λ (j : ℕ). nat_eq j sent.manager)) m ≡ true → Its m sent.epoch
      new m true e = by_put (λ (v : Bool). v ≡ true → Its m sent.epoch) sent.manager true (st.heard n) m (λ q h. from_sender m q) (λ d h. rw (sym (eqb-true (st.heard_epoch n) sent.epoch e)) (p.heard n m h))
      new m false e = λ h. from_sender m (eqb-true m sent.manager h)

      at : (k : NodeId) (m : ℕ) (t : Bool) → (cond t (heard_with s st n sent) (st.heard k)) m ≡ true → Its m (cond t sent.epoch (st.heard_epoch k))
      at k m true h = new m (nat_eq (st.heard_epoch n) sent.epoch) refl h
      at k m false h = p.heard k m h

  install_kept : (st : State) (n : NodeId) → MayHappen s st (Install n) → Parts s st → Parts s (next s st (Install n))
  install_kept st n may p = record {
    sound = p.sound;
    skew = p.skew;
    ones = p.ones;
    managers = p.managers;
    asks = p.asks;
    known = p.known;
    rates = p.rates;
    gives = p.gives;
    ends = p.ends;
    reached = p.reached;
    activates = p.activates;
    heard = p.heard;
    installed = λ epoch i. ⊎_elim
        (λ (e : epoch ≡ st.heard_epoch n). inr (record { test = st.heard n; many = may.1; each = λ m h. rw e (p.heard n m h) }))
        (λ (i : In st.installed epoch). p.installed epoch i) i;
  }

  pub event_kept : (st : State) (event : Event) → MayHappen s st event → Parts s st → Parts s (next s st event)
  event_kept st (Clock event) may p = clock_kept st event may.0 may.1 p
  event_kept st (Learn m epoch) may p = learn_kept st m epoch may p
  event_kept st (AskLease n m) may p = ask_kept st n m may p
  event_kept st (TakeAsk ask) may p = grant_kept st ask may p
  event_kept st (TakeGive give) may p = give_kept st give may p
  event_kept st (SendActivate m) may p = send_kept st m may p
  event_kept st (TakeActivate n sent) may p = heard_kept st n sent may p
  event_kept st (Install n) may p = install_kept st n may p

  pub run_kept : (st : State) → Parts s st → (events : List Event) → IsRun s st events → Parts s (last_state s st events)
  run_kept st p [] run = p
  run_kept st p (event ∷ events) run = run_kept (next s st event) (event_kept st event run.0 p) events run.1
