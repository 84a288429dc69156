-- What holds at every moment of a run.
use Rattle.std.proofs.Common.{◌≡◌, ◌⊎◌, ℕ, ◌+◌, ◌-◌, ◌*◌, ◌<◌, ◌≤◌, length, true, ◌&&◌, cond, nat_le, max, refl, sym, ◌∙◌, inl, inr, ⊎_elim, arith, le_trans}
use Rattle.std.proofs.lemmas.Bool.{false≢true, cases_lt, leb-true}
use Rattle.hk_base.specs.declared.stamp.NodeId.{NodeId}
use Rattle.hk_base.specs.declared.letter.Actor.TheVariants.{Node, Manager}
use Rattle.hk_lease.specs.Wait.{wait}
use Rattle.hk_lease.specs.Grants.{until_of}
use Rattle.hk_clocks.specs.Clocks.{ClockState}
use Rattle.hk_clocks.specs.Steps.{ClockEvent, clock_step, lead_by}
use Rattle.hk_clocks.specs.Steps.ClockEvent.{Start}
use Rattle.hk_clocks.specs.Paced.{AreLive}
use Rattle.hk_clocks.specs.Runs.{IsEvent, made_or, seen, lead_of}
use Rattle.hk_clocks.specs.Sound.{AreClocks}
use Rattle.hk_clocks.proofs.Running.{Goes, goes, lead_within}
use Rattle.hk_earned.specs.Machine.{Setting, State, Ask, Give, Activate, In, IsMajority, granted_by, member, MayBegin}
use Rattle.hk_earned.specs.Earned.{IsLeftOut, HasEnded, NeverReturns, IsGuarded}
use Rattle.hk_earned.proofs.Majorities.{Most, Below, meet}
use Rattle.hk_earned.proofs.Clocked.{IsNew, lives}

-- a grant of a manager to a node: while both are live the rate by which its until is later than its end
abbrev pub Rate : ClockState → ℕ → NodeId → (granted until : ℕ) → Type 0
Rate c m n granted until = AreLive (seen c) (Manager m) (Node n) →
    1000 * (seen c).clock (Manager m) + 1100 * granted ≤ 1000 * until + 1100 * (seen c).clock (Node n) + lead_of c (Manager m) (Node n)

-- no manager starts, and no node that was started
pub no_manager : (st : State) (event : ClockEvent) (m : ℕ) → MayBegin st event → IsNew st.clocks event (Manager m) → ⊥
no_manager st event m may new = at event may new.is
  where
    at : (e : ClockEvent) → MayBegin st e → e ≡ Start (Manager m) new.clock → ⊥
    at e may is = move (rw is at may)
      where
        move : MayBegin st (Start (Manager m) new.clock) → ⊥
        move x = x

pub no_started : (st : State) (event : ClockEvent) (n : NodeId) → MayBegin st event → st.started n ≡ true → IsNew st.clocks event (Node n) → ⊥
no_started st event n may is new = false≢true (sym (rw new.is at may).0 ∙ is)

pub rate_goes : (st : State) (event : ClockEvent) → AreClocks st.clocks → IsEvent event → MayBegin st event → (m : ℕ) (n : NodeId) (granted until : ℕ) → st.started n ≡ true → Rate st.clocks m n granted until →
    Rate (made_or st.clocks (clock_step st.clocks event)) m n granted until
rate_goes st event k low may m n granted until known r l = at (lives st.clocks event k (Manager m) l.first) (lives st.clocks event k (Node n) l.second)
  where
    g : Goes st.clocks (made_or st.clocks (clock_step st.clocks event))
    g = goes st.clocks event k low

    at : ((seen st.clocks).live (Manager m) ≡ true) ⊎ IsNew st.clocks event (Manager m) → ((seen st.clocks).live (Node n) ≡ true) ⊎ IsNew st.clocks event (Node n) →
        1000 * (seen (made_or st.clocks (clock_step st.clocks event))).clock (Manager m) + 1100 * granted ≤ 1000 * until + 1100 * (seen (made_or st.clocks (clock_step st.clocks event))).clock (Node n) + lead_of (made_or st.clocks (clock_step st.clocks event)) (Manager m) (Node n)
    at (inl a) (inl b) =
        let was = r (record { first = a; second = b }) in
        let x = g.follows.clocks (Manager m) a l.first in
        let y = g.follows.clocks (Node n) b l.second in
        let e = g.follows.leads (Manager m) (Node n) l.first l.second ∙ both a b in
        omega (arith, was, x, y, e)
      where
        both : (seen st.clocks).live (Manager m) ≡ true → (seen st.clocks).live (Node n) ≡ true →
            cond ((seen st.clocks).live (Manager m) && (seen st.clocks).live (Node n)) (lead_by (lead_of st.clocks (Manager m) (Node n)) ((seen (made_or st.clocks (clock_step st.clocks event))).clock (Manager m) - (seen st.clocks).clock (Manager m)) ((seen (made_or st.clocks (clock_step st.clocks event))).clock (Node n) - (seen st.clocks).clock (Node n))) 0
            ≡ lead_by (lead_of st.clocks (Manager m) (Node n)) ((seen (made_or st.clocks (clock_step st.clocks event))).clock (Manager m) - (seen st.clocks).clock (Manager m)) ((seen (made_or st.clocks (clock_step st.clocks event))).clock (Node n) - (seen st.clocks).clock (Node n))
        both p q = rw (p, q) refl
    at (inr w) b = absurd (no_manager st event m may w)
    at (inl a) (inr w) = absurd (no_started st event n may known w)

-- a grant that is past by the manager's clock is past by the node's
pub over : (c : ClockState) → AreClocks c → (m : ℕ) (n : NodeId) (granted until : ℕ) → Rate c m n granted until → AreLive (seen c) (Manager m) (Node n) → until < (seen c).clock (Manager m) → granted < (seen c).clock (Node n) + c.skew
over c k m n granted until r l past =
    let rate = r l in
    let w = lead_within c k (Manager m) (Node n) in
    omega (arith, rate, w, past)

-- a grant of asked and the lease, or less, with an until of now and its wait, beside what was noted before
pub rate_grant : (c : ClockState) (m : ℕ) (n : NodeId) (granted until asked end lease : ℕ) → ((seen c).live (Node n) ≡ true → asked ≤ (seen c).clock (Node n)) → end ≤ asked + lease →
    (1 ≤ granted → Rate c m n granted until) → Rate c m n (max granted end) (max until ((seen c).clock (Manager m) + wait lease))
rate_grant c m n granted until asked end lease before upto old l = at (before l.second) (cases_lt granted 1)
  where
    at : asked ≤ (seen c).clock (Node n) → (granted < 1) ⊎ (1 ≤ granted) →
        1000 * (seen c).clock (Manager m) + 1100 * max granted end ≤ 1000 * max until ((seen c).clock (Manager m) + wait lease) + 1100 * (seen c).clock (Node n) + lead_of c (Manager m) (Node n)
    at b (inl low) = omega (arith, low, b, upto)
    at b (inr some) = let k = old some l in omega (arith, k, b, upto)

module _ (s : Setting) where
  -- A manager that holds the view of this epoch or of a later one, and whose grants outside that view are past: by this it
  -- may have sent ACTIVATE.
  pub record Past (c : ClockState) (held : ℕ) (granted : NodeId → ℕ) (epoch : ℕ) : Type 0 where
    pub upto : epoch ≤ held
    pub past : (n : NodeId) → IsLeftOut s c epoch n → granted n < (seen c).clock (Node n) + s.skew

  pub record Parts (st : State) : Type 0 where
    pub sound : AreClocks st.clocks
    pub skew : st.clocks.skew ≡ s.skew
    pub ones : (n : NodeId) → (seen st.clocks).live (Node n) ≡ true → (st.started n ≡ true) × (1 ≤ (seen st.clocks).clock (Node n))
    pub managers : (m : ℕ) → (seen st.clocks).live (Manager m) ≡ true → 1 ≤ (seen st.clocks).clock (Manager m)
    pub asks : (ask : Ask) → In st.asks ask → (st.started ask.node ≡ true) × ((seen st.clocks).live (Node ask.node) ≡ true → ask.asked ≤ (seen st.clocks).clock (Node ask.node))
    pub known : (m : ℕ) (n : NodeId) → 1 ≤ granted_by s.lease s.founders st.gives m n → st.started n ≡ true
    pub rates : (m : ℕ) (n : NodeId) → 1 ≤ granted_by s.lease s.founders st.gives m n → Rate st.clocks m n (granted_by s.lease s.founders st.gives m n) (until_of (st.untils m) n)
    pub gives : (give : Give) → In st.gives give → give.end ≤ granted_by s.lease s.founders st.gives give.manager give.node
    pub ends : (n : NodeId) → (length (st.ends n) ≡ s.managers) × Below (st.ends n) (λ m. granted_by s.lease s.founders st.gives m n)
    pub reached : (n : NodeId) → 1 ≤ st.granted n → IsMajority s.managers (λ m. nat_le (st.granted n) (granted_by s.lease s.founders st.gives m n))
    pub activates : (sent : Activate) → In st.activates sent → Past st.clocks (st.held sent.manager) (granted_by s.lease s.founders st.gives sent.manager) sent.epoch
    pub heard : (n : NodeId) (m : ℕ) → st.heard n m ≡ true → Past st.clocks (st.held m) (granted_by s.lease s.founders st.gives m) (st.heard_epoch n)
    pub installed : (epoch : ℕ) → In st.installed epoch → (epoch ≤ 1) ⊎ Most s.managers (λ m. Past st.clocks (st.held m) (granted_by s.lease s.founders st.gives m) epoch)

  pub past_goes : (st : State) (event : ClockEvent) → AreClocks st.clocks → IsEvent event → MayBegin st event → (held : ℕ) (granted : NodeId → ℕ) (epoch : ℕ) →
      ((n : NodeId) → 1 ≤ granted n → st.started n ≡ true) → Past st.clocks held granted epoch → Past (made_or st.clocks (clock_step st.clocks event)) held granted epoch
  past_goes st event k low may held granted epoch known p = record { upto = p.upto; past = λ n l. at n l (lives st.clocks event k (Node n) l.live) }
    where
      at : (n : NodeId) → IsLeftOut s (made_or st.clocks (clock_step st.clocks event)) epoch n → ((seen st.clocks).live (Node n) ≡ true) ⊎ IsNew st.clocks event (Node n) →
          granted n < (seen (made_or st.clocks (clock_step st.clocks event))).clock (Node n) + s.skew
      at n l (inl was) =
          let h = p.past n (record { before = l.before; first = l.first; lower = l.lower; was = l.was; out = l.out; live = was }) in
          let c = (goes st.clocks event k low).follows.clocks (Node n) was l.live in
          omega (arith, h, c)
      at n l (inr w) = ⊎_elim
          (λ (none : granted n < 1). let b = (rw w.is at may).1 in let r = w.reads in omega (arith, none, b, r))
          (λ (some : 1 ≤ granted n). absurd (no_started st event n may (known n some) w)) (cases_lt (granted n) 1)

  pub past_up : (c : ClockState) (held later : ℕ) (granted : NodeId → ℕ) (epoch : ℕ) → held ≤ later → Past c held granted epoch → Past c later granted epoch
  past_up c held later granted epoch up p = record { upto = le_trans p.upto up; past = p.past }

  -- a node that the view leaves out is no member of the view that the manager holds
  pub never_again : NeverReturns s → (c : ClockState) (held : ℕ) (granted : NodeId → ℕ) (epoch : ℕ) (n : NodeId) → Past c held granted epoch → IsLeftOut s c epoch n → member s held n ≡ true → ⊥
  never_again chain c held granted epoch n p l h =
      let k = chain l.before epoch held n (omega (arith, l.lower)) p.upto l.was h in
      false≢true (sym l.out ∙ k)

  -- a node that a view leaves out has no lease any more, where a majority of the managers could send ACTIVATE for the view
  pub ended : (st : State) → Parts st → (epoch : ℕ) (node : NodeId) → Most s.managers (λ m. Past st.clocks (st.held m) (granted_by s.lease s.founders st.gives m) epoch) → IsLeftOut s st.clocks epoch node → HasEnded s st node
  ended st p epoch node most l = record {
    received = ⊎_elim
        (λ (none : st.granted node < 1). let first = (p.ones node l.live).1 in omega (arith, none, first))
        (λ (some : 1 ≤ st.granted node). by_grants (st.granted node) (p.reached node some)) (cases_lt (st.granted node) 1);
    by_grants = by_grants;
  }
    where
      by_grants : (end : ℕ) → IsMajority s.managers (λ m. nat_le end (granted_by s.lease s.founders st.gives m node)) → end < (seen st.clocks).clock (Node node) + s.skew
      by_grants end many =
          let m = meet s.managers most.test (λ m. nat_le end (granted_by s.lease s.founders st.gives m node)) most.many many in
          let upto = leb-true end (granted_by s.lease s.founders st.gives m.0 node) m.2 in
          let past = (most.each m.0 m.1).past node l in
          omega (arith, upto, past)

  -- by the letters alone, whether or not any node has installed the view
  pub by_letters : (st : State) → Parts st → (epoch : ℕ) (node : NodeId) → Most s.managers (λ m. In st.activates (record { manager = m; epoch = epoch })) → IsLeftOut s st.clocks epoch node → HasEnded s st node
  by_letters st p epoch node most l = ended st p epoch node (record { test = most.test; many = most.many; each = λ m h. p.activates (record { manager = m; epoch = epoch }) (most.each m h) }) l

  pub guards : (st : State) → Parts st → IsGuarded s st
  guards st p epoch node i l = ⊎_elim
      (λ (low : epoch ≤ 1). let a = l.first in let b = l.lower in absurd (omega (arith, low, a, b)))
      (λ (most : Most s.managers (λ m. Past st.clocks (st.held m) (granted_by s.lease s.founders st.gives m) epoch)). ended st p epoch node most l) (p.installed epoch i)
