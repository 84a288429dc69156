-- What holds at every moment of a run.
use Rattle.std.proofs.Common.{◌≡◌, ◌⊎◌, ℕ, suc, ◌+◌, ◌*◌, ◌<◌, ◌≤◌, List, ◌++◌, length, true, nat_le, sym, ◌∙◌, ⊎_elim, arith, le_refl, le_trans}
use Rattle.std.proofs.lemmas.Bool.{false≢true, cases_lt, leb-true}
use Rattle.hk_base.specs.declared.stamp.NodeId.{NodeId}
use Rattle.hk_base.specs.declared.letter.Actor.TheVariants.{Node, Manager}
use Rattle.hk_lease.specs.Wait.{wait}
use Rattle.hk_lease.specs.Grants.{until_of}
use Rattle.hk_earned.specs.Machine.{Setting, Ask, Give, Activate, In, IsMajority, granted_by, member}
use Rattle.hk_earned.specs.Earned.{NeverReturns}
use Rattle.hk_earned.proofs.Majorities.{Most, Below, meet}
use Rattle.hk_return.specs.Lives.{Lives, IsPacedForLeases}
use Rattle.hk_return.specs.Machine.{Part, State, epochs}
use Rattle.hk_return.specs.Guarded.{IsLeftOut, HasEnded, IsGuarded, IsGuardedByLetters}
use Rattle.hk_return.proofs.Grants.{Granted, granted_more, greatest_granted, Descends, IsInOne, in_right}

module _ (s : Setting) (lives : Lives) (last : ℕ) (paced : IsPacedForLeases s.skew s.founders lives last) where
  -- a moment up to now at which the node ran, if it runs later
  pub record HasRun (now : ℕ) (n : NodeId) : Type 0 where
    pub moment : ℕ
    pub upto : moment ≤ now
    pub was : (later : ℕ) → now ≤ later → later ≤ last → (lives.at later).live (Node n) ≡ true → (lives.at moment).live (Node n) ≡ true

  -- so it runs from now to any later moment at which it runs
  pub runs_still : (now : ℕ) (n : NodeId) → HasRun now n → (later : ℕ) → now ≤ later → later ≤ last → (lives.at later).live (Node n) ≡ true → (lives.at now).live (Node n) ≡ true
  runs_still now n h later up low is = paced.once n h.moment now later h.upto up low (h.was later up low is) is

  abbrev pub has_run_later : (now later : ℕ) (n : NodeId) → now ≤ later → HasRun now n → HasRun later n
  has_run_later now later n up h = record { moment = h.moment; upto = le_trans h.upto up; was = λ k after low is. h.was k (le_trans up after) low is }

  -- an end no later than a lease from a moment at which the node ran
  pub record IsBound (now : ℕ) (n : NodeId) (end : ℕ) : Type 0 where
    pub run : HasRun now n
    pub most : end ≤ (lives.at run.moment).clock (Node n) + s.lease

  pub bound_later : (now later : ℕ) (n : NodeId) (end : ℕ) → now ≤ later → IsBound now n end → IsBound later n end
  bound_later now later n end up b = record { run = has_run_later now later n up b.run; most = b.most }

  -- so it is no later than a lease from now
  pub bound_now : (now : ℕ) (n : NodeId) (end : ℕ) → now ≤ last → IsBound now n end → (lives.at now).live (Node n) ≡ true → end ≤ (lives.at now).clock (Node n) + s.lease
  bound_now now n end low b is =
      let r = paced.rising n b.run.moment now b.run.upto low (b.run.was now (le_refl now) low is) is in
      let m = b.most in
      omega (arith, r, m)

  -- A grant of a manager to a node: at a moment of this life of the manager its until was later than the end by the rate.
  pub record Rate (now m life : ℕ) (n : NodeId) (end until : ℕ) : Type 0 where
    pub since : ℕ
    pub upto : since ≤ now
    pub same : lives.life since m ≡ life
    pub manager : (lives.at since).live (Manager m) ≡ true
    pub node : HasRun since n
    pub rate : (lives.at since).live (Node n) ≡ true → 1000 * (lives.at since).clock (Manager m) + 1100 * end ≤ 1000 * until + 1100 * (lives.at since).clock (Node n)

  pub rate_later : (now later m life : ℕ) (n : NodeId) (end until more : ℕ) → now ≤ later → until ≤ more → Rate now m life n end until → Rate later m life n end more
  rate_later now later m life n end until more up low r = record { since = r.since; upto = le_trans r.upto up; same = r.same; manager = r.manager; node = r.node; rate = λ is. let h = r.rate is in omega (arith, h, low) }

  -- a grant that is past by the manager's clock is past by the node's
  pub over : (now m life : ℕ) (n : NodeId) (end until : ℕ) → now ≤ last → Rate now m life n end until → (lives.at now).live (Manager m) ≡ true → lives.life now m ≡ life → (lives.at now).live (Node n) ≡ true →
      until < (lives.at now).clock (Manager m) → end < (lives.at now).clock (Node n) + s.skew
  over now m life n end until low r manager same node past =
      let was : (lives.at r.since).live (Node n) ≡ true = runs_still r.since n r.node now r.upto low node in
      let rate = r.rate was in
      let y = paced.rising n r.since now r.upto low was node in
      let w = paced.rate m n r.since now r.upto low (r.same ∙ sym same) (record { first = r.manager; second = was }) (record { first = manager; second = node }) in
      omega (arith, rate, y, w, past)

  -- an until of now and the wait covers each end no later than a lease from now
  pub rate_now : (now m life : ℕ) (n : NodeId) (end until : ℕ) → now ≤ last → IsBound now n end → (lives.at now).live (Manager m) ≡ true → lives.life now m ≡ life → (lives.at now).clock (Manager m) + wait s.lease ≤ until →
      Rate now m life n end until
  rate_now now m life n end until low b manager same noted = record {
    since = now;
    upto = le_refl now;
    same = same;
    manager = manager;
    node = b.run;
    rate = λ is. let h = bound_now now n end low b is in omega (arith, h, noted);
  }

  -- an ask: its node ran at some moment up to now, at the clock that it tells
  pub record IsAsked (now : ℕ) (ask : Ask) : Type 0 where
    pub moment : ℕ
    pub upto : moment ≤ now
    pub live : (lives.at moment).live (Node ask.node) ≡ true
    pub reads : ask.asked ≡ (lives.at moment).clock (Node ask.node)

  pub bound_asked : (now : ℕ) (ask : Ask) (end : ℕ) → IsAsked now ask → end ≤ ask.asked + s.lease → IsBound now ask.node end
  bound_asked now ask end a upto = record {
    run = record { moment = a.moment; upto = a.upto; was = λ later up low is. a.live };
    most = let q = a.reads in omega (arith, q, upto);
  }

  -- A manager that has the epoch among these, and whose grants outside its view are past: by this it may have sent ACTIVATE.
  pub record Past (now : ℕ) (views : List ℕ) (gives : List Give) (m epoch : ℕ) : Type 0 where
    pub among : In views epoch
    pub past : (n : NodeId) (end : ℕ) → IsLeftOut s (lives.at now) epoch n → Granted s gives m n end → end < (lives.at now).clock (Node n) + s.skew

  pub past_up : (now : ℕ) (views later : List ℕ) (gives fewer : List Give) (m epoch : ℕ) → ((e : ℕ) → In views e → In later e) → ((n : NodeId) (end : ℕ) → Granted s fewer m n end → Granted s gives m n end) → Past now views gives m epoch →
      Past now later fewer m epoch
  past_up now views later gives fewer m epoch up down p = record { among = up epoch p.among; past = λ n end l g. p.past n end l (down n end g) }

  -- a node that the view leaves out is no member of a view that is not earlier
  pub never_again : NeverReturns s → (now epoch later : ℕ) (n : NodeId) → epoch ≤ later → IsLeftOut s (lives.at now) epoch n → member s later n ≡ true → ⊥
  never_again chain now epoch later n up l h =
      let k = chain l.before epoch later n (omega (arith, l.lower)) up l.was h in
      false≢true (sym l.out ∙ k)

  -- what holds of a manager, where these letters of grants went out
  pub record PartKept (now : ℕ) (out : List Give) (m : ℕ) (p : Part) : Type 0 where
    pub own : (give : Give) → In p.gives give → give.manager ≡ m
    pub first : In p.synced 1
    pub descends : Descends (epochs p)
    pub rates : (n : NodeId) (end : ℕ) → Granted s (p.gives ++ out) m n end → (later : ℕ) → now ≤ later → later ≤ last → lives.life later m ≡ p.life → (lives.at later).live (Manager m) ≡ true → Rate now m p.life n end (until_of p.untils n)
    pub bounds : (n : NodeId) (end : ℕ) → Granted s (p.gives ++ out) m n end → IsBound now n end
    -- each was granted as a member of a view that it has: what went out, of one that no stop takes from it
    pub members : (n : NodeId) (end : ℕ) → Granted s (p.gives ++ out) m n end → IsInOne s (epochs p) n
    pub members_out : (n : NodeId) (end : ℕ) → Granted s out m n end → IsInOne s p.synced n
    pub activates : (sent : Activate) → In p.activates sent → (sent.manager ≡ m) × Past now (epochs p) (p.gives ++ out) m sent.epoch

  -- by which a view that a node heard of, or has installed, may have been sent
  abbrev pub MayBe : State → ℕ → ℕ → Type 0
  MayBe st epoch m = Past st.now (st.manager m).synced ((st.manager m).gives ++ st.gives) m epoch

  pub record Parts (st : State) : Type 0 where
    pub managers : (m : ℕ) → PartKept st.now st.gives m (st.manager m)
    pub asks : (ask : Ask) → In st.asks ask → IsAsked st.now ask
    pub ends : (n : NodeId) → (length (st.ends n) ≡ s.managers) × Below (st.ends n) (λ m. granted_by s.lease s.founders st.gives m n)
    pub reached : (n : NodeId) → 1 ≤ st.granted n → IsMajority s.managers (λ m. nat_le (st.granted n) (granted_by s.lease s.founders st.gives m n))
    pub activates : (sent : Activate) → In st.activates sent → MayBe st sent.epoch sent.manager
    pub heard : (n : NodeId) (m : ℕ) → st.heard n m ≡ true → MayBe st (st.heard_epoch n) m
    pub installed : (epoch : ℕ) → In st.installed epoch → (epoch ≤ 1) ⊎ Most s.managers (MayBe st epoch)

  -- the next moment
  pub past_goes : (now : ℕ) (views : List ℕ) (gives : List Give) (m epoch : ℕ) → suc now ≤ last → ((n : NodeId) (end : ℕ) → Granted s gives m n end → IsBound now n end) → Past now views gives m epoch → Past (suc now) views gives m epoch
  past_goes now views gives m epoch low bounds p = record { among = p.among; past = by_grant }
    where
      by_grant : (n : NodeId) (end : ℕ) → IsLeftOut s (lives.at (suc now)) epoch n → Granted s gives m n end → end < (lives.at (suc now)).clock (Node n) + s.skew
      by_grant n end l g =
          let was : (lives.at now).live (Node n) ≡ true = runs_still now n (bounds n end g).run (suc now) (omega arith) low l.live in
          let h = p.past n end (record { before = l.before; first = l.first; lower = l.lower; was = l.was; out = l.out; live = was }) g in
          let c = paced.rising n now (suc now) (omega arith) low was l.live in
          omega (arith, h, c)

  -- a node that a view leaves out has no lease any more, where a majority of the managers could send ACTIVATE for the view
  pub ended : (st : State) → st.now ≤ last → Parts st → (epoch : ℕ) (node : NodeId) → Most s.managers (MayBe st epoch) → IsLeftOut s (lives.at st.now) epoch node → HasEnded s (lives.at st.now) st node
  ended st low p epoch node most l = record {
    received = ⊎_elim
        (λ (none : st.granted node < 1). let first = paced.node_reads node st.now low l.live in omega (arith, none, first))
        (λ (some : 1 ≤ st.granted node). by_grants (st.granted node) (p.reached node some)) (cases_lt (st.granted node) 1);
    by_grants = by_grants;
  }
    where
      granted : ℕ → ℕ
      granted m = granted_by s.lease s.founders st.gives m node

      by_grants : (end : ℕ) → IsMajority s.managers (λ m. nat_le end (granted_by s.lease s.founders st.gives m node)) → end < (lives.at st.now).clock (Node node) + s.skew
      by_grants end many =
          let m = meet s.managers most.test (λ m. nat_le end (granted m)) most.many many in
          let upto = leb-true end (granted m.0) m.2 in
          ⊎_elim
          (λ (none : granted m.0 < 1). let first = paced.node_reads node st.now low l.live in omega (arith, upto, none, first))
          (λ (some : 1 ≤ granted m.0).
          let g = granted_more s st.gives ((st.manager m.0).gives ++ st.gives) m.0 node (granted m.0) (λ give i q. in_right (st.manager m.0).gives st.gives give i) (greatest_granted s st.gives m.0 node some) in
          let past = (most.each m.0 m.1).past node (granted m.0) l g in
          omega (arith, upto, past)) (cases_lt (granted m.0) 1)

  pub guards : (st : State) → st.now ≤ last → Parts st → IsGuarded s (lives.at st.now) st
  guards st low p epoch node i l = ⊎_elim
      (λ (one : epoch ≤ 1). let a = l.first in let b = l.lower in absurd (omega (arith, one, a, b)))
      (λ (most : Most s.managers (MayBe st epoch)). ended st low p epoch node most l) (p.installed epoch i)

  -- by the letters alone, whether or not any node has installed the view
  pub guards_letters : (st : State) → st.now ≤ last → Parts st → IsGuardedByLetters s (lives.at st.now) st
  guards_letters st low p epoch node may l = ended st low p epoch node (record { test = may.0; many = may.1; each = λ m h. p.activates (record { manager = m; epoch = epoch }) (may.2 m h) }) l
