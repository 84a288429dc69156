-- Each event keeps what holds at every moment.
use Rattle.std.proofs.Common.{◌≡◌, ◌≢◌, ◌⊎◌, ℕ, suc, ◌+◌, ◌-◌, ◌<◌, ◌≤◌, Bool, true, false, cond, List, [], ◌∷◌, ◌++◌, drop, length, nat_eq, nat_le, max, refl, sym, subst, ◌∙◌, inl, inr, ⊎_elim, arith, le_refl, le_trans}
use Rattle.std.proofs.lemmas.Bool.{eqb-true, cases_lt}
use Rattle.hk_base.specs.declared.stamp.NodeId.{NodeId}
use Rattle.hk_base.specs.declared.letter.Actor.TheVariants.{Node, Manager}
use Rattle.hk_lease.specs.Wait.{wait}
use Rattle.hk_lease.specs.Grants.{until_of, with_grant}
use Rattle.hk_lease.specs.Ends.{granted_end}
use Rattle.hk_lease.proofs.Noted.{past}
use Rattle.hk_earned.specs.Machine.{Setting, Ask, Give, Activate, In, put, IsMajority, with_end, granted_by, member, end_for}
use Rattle.hk_earned.specs.Earned.{NeverReturns}
use Rattle.hk_earned.proofs.Majorities.{Most, Below, below_up, below_with, length_with, most_reach, end_reached}
use Rattle.hk_earned.proofs.Places.{by_put, by_node}
use Rattle.hk_return.specs.Lives.{Lives, IsPacedForLeases}
use Rattle.hk_return.specs.Machine.{Part, State, Event, epochs, held, every, KeepsSynced, noted_again, heard_with, next, MayHappen, IsRun, last_state}
use Rattle.hk_return.specs.Machine.Event.{Pass, Learn, AskLease, TakeAsk, TakeGive, SendActivate, TakeActivate, Install, Sync, Note, Return}
use Rattle.hk_return.specs.Guarded.{FoundersAreMembers}
use Rattle.hk_return.proofs.Grants.{Granted, granted_more, granted_last, all_granted, is_granted, latest_is, below_latest, descends_left, until_up, until_noted, IsInOne, in_one_more, noted_for_all, in_left, in_right, in_either}
use Rattle.hk_return.proofs.Parts.{IsBound, bound_later, rate_later, over, rate_now, bound_asked, Past, past_up, past_goes, never_again, PartKept, MayBe, Parts}

module _ (s : Setting) (lives : Lives) where
  -- no moment comes again
  pub rises_by : (st : State) (event : Event) → st.now ≤ (next s lives every st event).now
  rises_by st Pass = omega arith
  rises_by st (Learn m epoch) = le_refl st.now
  rises_by st (AskLease n m) = le_refl st.now
  rises_by st (TakeAsk ask) = le_refl st.now
  rises_by st (TakeGive give) = le_refl st.now
  rises_by st (SendActivate m) = le_refl st.now
  rises_by st (TakeActivate n sent) = le_refl st.now
  rises_by st (Install n) = le_refl st.now
  rises_by st (Sync m) = le_refl st.now
  rises_by st (Note m n until) = le_refl st.now
  rises_by st (Return m lost) = le_refl st.now

  pub rises : (st : State) (events : List Event) → st.now ≤ (last_state s lives every st events).now
  rises st [] = le_refl st.now
  rises st (event ∷ events) = le_trans (rises_by st event) (rises (next s lives every st event) events)

module _ (s : Setting) (lives : Lives) (last : ℕ) (paced : IsPacedForLeases s.skew s.founders lives last) where
  -- a majority, each of which is such as well
  most_up : (P Q : ℕ → Type 0) → ((m : ℕ) → P m → Q m) → (epoch : ℕ) → (epoch ≤ 1) ⊎ Most s.managers P → (epoch ≤ 1) ⊎ Most s.managers Q
  most_up P Q up epoch (inl low) = inl low
  most_up P Q up epoch (inr most) = inr (record { test = most.test; many = most.many; each = λ m h. up m (most.each m h) })

  -- One manager becomes another part, and letters that it kept back go out.
  record Becomes (st : State) (m : ℕ) (p : Part) (out : List Give) (sent : List Activate) : Type 0 where
    kept : PartKept s lives last paced st.now (out ++ st.gives) m p
    gone : (give : Give) → In out give → give.manager ≡ m
    past : (epoch : ℕ) → MayBe s lives last paced st epoch m → Past s lives last paced st.now p.synced (p.gives ++ (out ++ st.gives)) m epoch
    begins : (activate : Activate) → In sent activate → (activate.manager ≡ m) × Past s lives last paced st.now p.synced (p.gives ++ (out ++ st.gives)) m activate.epoch

  abbrev after : State → ℕ → Part → List Give → List Activate → State
  after st m p out sent = record st { manager = put m p st.manager; gives = out ++ st.gives; activates = sent ++ st.activates }

  -- letters that went out of one manager are no other's grants
  not_others : (k m : ℕ) → k ≢ m → (kept out gives : List Give) → ((give : Give) → In out give → give.manager ≡ m) → (n : NodeId) (end : ℕ) → Granted s (kept ++ (out ++ gives)) k n end → Granted s (kept ++ gives) k n end
  not_others k m d kept out gives gone n end g = granted_more s (kept ++ (out ++ gives)) (kept ++ gives) k n end
      (λ give i q. ⊎_elim (λ (l : In kept give). in_left kept gives give l)
      (λ (r : In (out ++ gives) give). ⊎_elim (λ (o : In out give). absurd (d (sym q ∙ gone give o))) (λ (h : In gives give). in_right kept gives give h) (in_either out gives give r)) (in_either kept (out ++ gives) give i)) g

  other_kept : (now k m : ℕ) → k ≢ m → (out gives : List Give) → ((give : Give) → In out give → give.manager ≡ m) → (p : Part) → PartKept s lives last paced now gives k p → PartKept s lives last paced now (out ++ gives) k p
  other_kept now k m d out gives gone p h = record {
    own = h.own;
    first = h.first;
    descends = h.descends;
    rates = λ n end g. h.rates n end (fewer n end g);
    bounds = λ n end g. h.bounds n end (fewer n end g);
    members = λ n end g. h.members n end (fewer n end g);
    members_out = λ n end g. h.members_out n end (not_others k m d [] out gives gone n end g);
    activates = λ sent i. let a = h.activates sent i in (a.0, past_up s lives last paced now (epochs p) (epochs p) (p.gives ++ gives) (p.gives ++ (out ++ gives)) k sent.epoch (λ e i. i) fewer a.1);
  }
    where
      fewer : (n : NodeId) (end : ℕ) → Granted s (p.gives ++ (out ++ gives)) k n end → Granted s (p.gives ++ gives) k n end
      fewer = not_others k m d p.gives out gives gone

  becomes_kept : (st : State) (m : ℕ) (p : Part) (out : List Give) (sent : List Activate) → Becomes st m p out sent → Parts s lives last paced st → Parts s lives last paced (after st m p out sent)
  becomes_kept st m p out sent b h = record {
    managers = λ k. by_put (PartKept s lives last paced st.now (out ++ st.gives) k) m p st.manager k (λ e. rw e b.kept) (λ d. other_kept st.now k m d out st.gives b.gone (st.manager k) (h.managers k));
    asks = h.asks;
    ends = λ n. ((h.ends n).0, below_up (st.ends n) (λ k. granted_by s.lease s.founders st.gives k n) (λ k. granted_by s.lease s.founders (out ++ st.gives) k n) (λ k. all_granted s out st.gives k n) (h.ends n).1);
    reached = λ n some. most_reach s.managers (st.granted n) (λ k. granted_by s.lease s.founders st.gives k n) (λ k. granted_by s.lease s.founders (out ++ st.gives) k n) (λ k. all_granted s out st.gives k n) (h.reached n some);
    activates = λ a i. ⊎_elim (λ (new : In sent a). let x = b.begins a new in rw x.0 (here a.epoch x.1)) (λ (old : In st.activates a). may a.epoch a.manager (h.activates a old)) (in_either sent st.activates a i);
    heard = λ n k is. may (st.heard_epoch n) k (h.heard n k is);
    installed = λ epoch i. most_up (MayBe s lives last paced st epoch) (MayBe s lives last paced (after st m p out sent) epoch) (λ k. may epoch k) epoch (h.installed epoch i);
  }
    where
      here : (epoch : ℕ) → Past s lives last paced st.now p.synced (p.gives ++ (out ++ st.gives)) m epoch → MayBe s lives last paced (after st m p out sent) epoch m
      here epoch x = by_put (λ (q : Part). Past s lives last paced st.now q.synced (q.gives ++ (out ++ st.gives)) m epoch) m p st.manager m (λ e. x) (λ d. absurd (d refl))

      may : (epoch k : ℕ) → MayBe s lives last paced st epoch k → MayBe s lives last paced (after st m p out sent) epoch k
      may epoch k old = by_put (λ (q : Part). Past s lives last paced st.now q.synced (q.gives ++ (out ++ st.gives)) k epoch) m p st.manager k
          (λ e. rw e (b.past epoch (rw (sym e) old)))
          (λ d. past_up s lives last paced st.now (st.manager k).synced (st.manager k).synced ((st.manager k).gives ++ st.gives) ((st.manager k).gives ++ (out ++ st.gives)) k epoch (λ e i. i) (not_others k m d (st.manager k).gives out st.gives b.gone) old)

  -- where nothing goes out
  record Alters (st : State) (m : ℕ) (p : Part) : Type 0 where
    kept : PartKept s lives last paced st.now st.gives m p
    past : (epoch : ℕ) → MayBe s lives last paced st epoch m → Past s lives last paced st.now p.synced (p.gives ++ st.gives) m epoch

  alters_kept : (st : State) (m : ℕ) (p : Part) → Alters st m p → Parts s lives last paced st → Parts s lives last paced (after st m p [] [])
  alters_kept st m p a h = becomes_kept st m p [] [] (record { kept = a.kept; gone = λ give i. absurd i; past = a.past; begins = λ sent i. absurd i }) h

  -- ---- the events
  pass_kept : (st : State) → suc st.now ≤ last → Parts s lives last paced st → Parts s lives last paced (next s lives every st Pass)
  pass_kept st low h = record {
    managers = part;
    asks = λ ask i. let a = h.asks ask i in record { moment = a.moment; upto = le_trans a.upto (omega arith); live = a.live; reads = a.reads };
    ends = h.ends;
    reached = h.reached;
    activates = λ sent i. may sent.epoch sent.manager (h.activates sent i);
    heard = λ n m is. may (st.heard_epoch n) m (h.heard n m is);
    installed = λ epoch i. most_up (MayBe s lives last paced st epoch) (MayBe s lives last paced (record st { now = suc st.now }) epoch) (may epoch) epoch (h.installed epoch i);
  }
    where
      may : (epoch m : ℕ) → MayBe s lives last paced st epoch m → MayBe s lives last paced (record st { now = suc st.now }) epoch m
      may epoch m old = past_goes s lives last paced st.now (st.manager m).synced ((st.manager m).gives ++ st.gives) m epoch low (h.managers m).bounds old

      part : (m : ℕ) → PartKept s lives last paced (suc st.now) st.gives m (st.manager m)
      part m = let p = st.manager m in let k = h.managers m in record {
        own = k.own;
        first = k.first;
        descends = k.descends;
        rates = λ n end g later up upto same live. rate_later s lives last paced st.now (suc st.now) m p.life n end (until_of p.untils n) (until_of p.untils n) (omega arith) (le_refl (until_of p.untils n)) (k.rates n end g later (omega (arith, up)) upto same live);
        bounds = λ n end g. bound_later s lives last paced st.now (suc st.now) n end (omega arith) (k.bounds n end g);
        members = k.members;
        members_out = k.members_out;
        activates = λ sent i. let a = k.activates sent i in (a.0, past_goes s lives last paced st.now (epochs p) (p.gives ++ st.gives) m sent.epoch low k.bounds a.1);
      }

  learn_kept : (st : State) (m epoch : ℕ) → MayHappen s lives every KeepsSynced st (Learn m epoch) → Parts s lives last paced st → Parts s lives last paced (next s lives every st (Learn m epoch))
  learn_kept st m epoch may h = alters_kept st m (record p { unsynced = epoch ∷ p.unsynced }) (record { kept = part; past = λ e old. old }) h
    where
      p : Part
      p = st.manager m

      k : PartKept s lives last paced st.now st.gives m p
      k = h.managers m

      part : PartKept s lives last paced st.now st.gives m (record p { unsynced = epoch ∷ p.unsynced })
      part = record {
        own = k.own;
        first = k.first;
        descends = (λ e i. let l = below_latest (epochs p) k.descends e i in let u = may.1 in omega (arith, l, u), k.descends);
        rates = k.rates;
        bounds = k.bounds;
        members = λ n end g. in_one_more s (epochs p) (epoch ∷ epochs p) n (λ e i. inr i) (k.members n end g);
        members_out = k.members_out;
        activates = λ sent i. let a = k.activates sent i in (a.0, past_up s lives last paced st.now (epochs p) (epoch ∷ epochs p) (p.gives ++ st.gives) (p.gives ++ st.gives) m sent.epoch (λ e i. inr i) (λ n end g. g) a.1);
      }

  ask_kept : (st : State) (n : NodeId) (m : ℕ) → MayHappen s lives every KeepsSynced st (AskLease n m) → Parts s lives last paced st → Parts s lives last paced (next s lives every st (AskLease n m))
  ask_kept st n m may h = record {
    managers = h.managers;
    asks = λ ask i. ⊎_elim
        (λ (e : ask ≡ record { node = n; manager = m; asked = (lives.at st.now).clock (Node n) }). rw e (record { moment = st.now; upto = le_refl st.now; live = may; reads = refl }))
        (λ (i : In st.asks ask). h.asks ask i) i;
    ends = h.ends;
    reached = h.reached;
    activates = h.activates;
    heard = h.heard;
    installed = h.installed;
  }

  -- the until of a node is noted besides
  noted_kept : (now : ℕ) (out : List Give) (m : ℕ) (p : Part) (n : NodeId) (until : ℕ) → PartKept s lives last paced now out m p → PartKept s lives last paced now out m (record p { untils = with_grant p.untils n until })
  noted_kept now out m p n until k = record {
    own = k.own;
    first = k.first;
    descends = k.descends;
    rates = λ node end g later up low same live. rate_later s lives last paced now now m p.life node end (until_of p.untils node) (until_of (with_grant p.untils n until) node) (le_refl now) (until_up p.untils n until node) (k.rates node end g later up low same live);
    bounds = k.bounds;
    members = k.members;
    members_out = k.members_out;
    activates = k.activates;
  }

  note_kept : (st : State) (m : ℕ) (n : NodeId) (until : ℕ) → Parts s lives last paced st → Parts s lives last paced (next s lives every st (Note m n until))
  note_kept st m n until h = alters_kept st m (record (st.manager m) { untils = with_grant (st.manager m).untils n until }) (record { kept = noted_kept st.now st.gives m (st.manager m) n until (h.managers m); past = λ e old. old }) h

  grant_kept : (st : State) (ask : Ask) → st.now ≤ last → MayHappen s lives every KeepsSynced st (TakeAsk ask) → NeverReturns s → Parts s lives last paced st → Parts s lives last paced (next s lives every st (TakeAsk ask))
  grant_kept st ask low may chain h = alters_kept st ask.manager new (record { kept = part; past = λ e old. kept_past p.synced e (λ i. in_right p.unsynced p.synced e i) old }) h
    where
      p : Part
      p = st.manager ask.manager

      until : ℕ
      until = (lives.at st.now).clock (Manager ask.manager) + wait s.lease

      letter : Give
      letter = record { manager = ask.manager; node = ask.node; end = end_for s ask.asked }

      new : Part
      new = record p { untils = with_grant p.untils ask.node until; gives = letter ∷ p.gives }

      k : PartKept s lives last paced st.now st.gives ask.manager (record p { untils = with_grant p.untils ask.node until })
      k = noted_kept st.now st.gives ask.manager p ask.node until (h.managers ask.manager)

      bound : IsBound s lives last paced st.now ask.node letter.end
      bound = bound_asked s lives last paced st.now ask letter.end (h.asks ask may.1) (omega arith)

      -- nobody is granted a lease whom a view that was let begin leaves out
      kept_past : (views : List ℕ) (epoch : ℕ) → (In views epoch → In (epochs p) epoch) → Past s lives last paced st.now views (p.gives ++ st.gives) ask.manager epoch → Past s lives last paced st.now views (letter ∷ p.gives ++ st.gives) ask.manager epoch
      kept_past views epoch has old = record {
        among = old.among;
        past = λ n end l g. ⊎_elim
            (λ (e : (n ≡ ask.node) × (end ≡ letter.end)).
            let is : member s (held p) n ≡ true = rw e.0 may.2 in
            absurd (never_again s lives last paced chain st.now epoch (held p) n (below_latest (epochs p) k.descends epoch (has old.among)) l is))
            (λ (o : Granted s (p.gives ++ st.gives) ask.manager n end). old.past n end l o) (granted_last s letter (p.gives ++ st.gives) ask.manager n end g);
      }

      part : PartKept s lives last paced st.now st.gives ask.manager new
      part = record {
        own = λ give i. ⊎_elim (λ (e : give ≡ letter). rw e refl) (λ (i : In p.gives give). k.own give i) i;
        first = k.first;
        descends = k.descends;
        rates = λ n end g later up upto same live. ⊎_elim
            (λ (e : (n ≡ ask.node) × (end ≡ letter.end)).
            rw (e.0, e.1) (rate_now s lives last paced st.now ask.manager p.life ask.node letter.end (until_of (with_grant p.untils ask.node until) ask.node) low bound may.0.0 may.0.1 (until_noted p.untils ask.node until)))
            (λ (o : Granted s (p.gives ++ st.gives) ask.manager n end). k.rates n end o later up upto same live) (granted_last s letter (p.gives ++ st.gives) ask.manager n end g);
        bounds = λ n end g. ⊎_elim (λ (e : (n ≡ ask.node) × (end ≡ letter.end)). rw (e.0, e.1) bound) (λ (o : Granted s (p.gives ++ st.gives) ask.manager n end). k.bounds n end o) (granted_last s letter (p.gives ++ st.gives) ask.manager n end g);
        members = λ n end g. ⊎_elim
            (λ (e : (n ≡ ask.node) × (end ≡ letter.end)). rw e.0 (record { epoch = held p; among = latest_is (epochs p) 1 (in_right p.unsynced p.synced 1 k.first); member = may.2 }))
            (λ (o : Granted s (p.gives ++ st.gives) ask.manager n end). k.members n end o) (granted_last s letter (p.gives ++ st.gives) ask.manager n end g);
        members_out = k.members_out;
        activates = λ sent i. let a = k.activates sent i in (a.0, kept_past (epochs p) sent.epoch (λ i. i) a.1);
      }

  give_kept : (st : State) (give : Give) → MayHappen s lives every KeepsSynced st (TakeGive give) → Parts s lives last paced st → Parts s lives last paced (next s lives every st (TakeGive give))
  give_kept st give may h = record {
    managers = h.managers;
    asks = h.asks;
    ends = λ n. by_node (λ (row : List ℕ). (length row ≡ s.managers) × Below row (λ m. granted_by s.lease s.founders st.gives m n)) give.node ends st.ends n (λ e. rw e (long, below)) (λ d. h.ends n);
    reached = λ n. by_node (λ (v : ℕ). 1 ≤ v → IsMajority s.managers (λ m. nat_le v (granted_by s.lease s.founders st.gives m n))) give.node (max (st.granted give.node) (granted_end ends)) st.granted n (λ e. rw e reach) (λ d. h.reached n);
    activates = h.activates;
    heard = h.heard;
    installed = h.installed;
  }
    where
      ends : List ℕ
      ends = with_end give.manager give.end (st.ends give.node)

      long : length ends ≡ s.managers
      long = length_with give.manager give.end (st.ends give.node) ∙ (h.ends give.node).0

      below : Below ends (λ m. granted_by s.lease s.founders st.gives m give.node)
      below = below_with give.manager give.end (st.ends give.node) (λ m. granted_by s.lease s.founders st.gives m give.node) (is_granted s st.gives give may.1) (h.ends give.node).1

      reach : 1 ≤ max (st.granted give.node) (granted_end ends) → IsMajority s.managers (λ m. nat_le (max (st.granted give.node) (granted_end ends)) (granted_by s.lease s.founders st.gives m give.node))
      reach some = ⊎_elim
          (λ (l : st.granted give.node < granted_end ends).
          let e : max (st.granted give.node) (granted_end ends) ≡ granted_end ends = omega (arith, l) in
          rw e (end_reached s.managers ends (λ m. granted_by s.lease s.founders st.gives m give.node) long below (omega (arith, l))))
          (λ (g : granted_end ends ≤ st.granted give.node).
          let e : max (st.granted give.node) (granted_end ends) ≡ st.granted give.node = omega (arith, g) in
          rw e (h.reached give.node (omega (arith, some, g)))) (cases_lt (st.granted give.node) (granted_end ends))

  send_kept : (st : State) (m : ℕ) → st.now ≤ last → MayHappen s lives every KeepsSynced st (SendActivate m) → Parts s lives last paced st → Parts s lives last paced (next s lives every st (SendActivate m))
  send_kept st m low may h = alters_kept st m (record p { activates = record { manager = m; epoch = held p } ∷ p.activates }) (record { kept = part; past = λ e old. old }) h
    where
      p : Part
      p = st.manager m

      k : PartKept s lives last paced st.now st.gives m p
      k = h.managers m

      now : Past s lives last paced st.now (epochs p) (p.gives ++ st.gives) m (held p)
      now = record {
        among = latest_is (epochs p) 1 (in_right p.unsynced p.synced 1 k.first);
        past = λ n end l g.
            let quiet = past p.untils (s.views (held p)) ((lives.at st.now).clock (Manager m)) n may.1 l.out (paced.manager_reads m st.now low may.0.0) in
            over s lives last paced st.now m p.life n end (until_of p.untils n) low (k.rates n end g st.now (le_refl st.now) low may.0.1 may.0.0) may.0.0 may.0.1 l.live quiet;
      }

      part : PartKept s lives last paced st.now st.gives m (record p { activates = record { manager = m; epoch = held p } ∷ p.activates })
      part = record {
        own = k.own;
        first = k.first;
        descends = k.descends;
        rates = k.rates;
        bounds = k.bounds;
        members = k.members;
        members_out = k.members_out;
        activates = λ sent i. ⊎_elim (λ (e : sent ≡ record { manager = m; epoch = held p }). rw e (refl, now)) (λ (i : In p.activates sent). k.activates sent i) i;
      }

  sync_kept : (st : State) (m : ℕ) → Parts s lives last paced st → Parts s lives last paced (next s lives every st (Sync m))
  sync_kept st m h = becomes_kept st m (record p { synced = epochs p; unsynced = []; gives = []; activates = [] }) p.gives p.activates (record {
    kept = part;
    gone = k.own;
    past = λ epoch old. past_up s lives last paced st.now p.synced (epochs p) (p.gives ++ st.gives) (p.gives ++ st.gives) m epoch (λ e i. in_right p.unsynced p.synced e i) (λ n end g. g) old;
    begins = k.activates;
  }) h
    where
      p : Part
      p = st.manager m

      k : PartKept s lives last paced st.now st.gives m p
      k = h.managers m

      part : PartKept s lives last paced st.now (p.gives ++ st.gives) m (record p { synced = epochs p; unsynced = []; gives = []; activates = [] })
      part = record {
        own = λ give i. absurd i;
        first = in_right p.unsynced p.synced 1 k.first;
        descends = k.descends;
        rates = k.rates;
        bounds = k.bounds;
        members = k.members;
        members_out = k.members;
        activates = λ sent i. absurd i;
      }

  return_kept : (st : State) (m lost : ℕ) → st.now ≤ last → MayHappen s lives every KeepsSynced st (Return m lost) → FoundersAreMembers s → Parts s lives last paced st → Parts s lives last paced (next s lives every st (Return m lost))
  return_kept st m lost low may founders h = subst (λ (xs : List ℕ). Parts s lives last paced (after st m (with_synced xs) [] [])) (sym kept_all) (alters_kept st m new (record { kept = part; past = λ epoch old. past_up s lives last paced st.now p.synced p.synced (p.gives ++ st.gives) st.gives m epoch (λ e i. i) fewer old }) h)
    where
      p : Part
      p = st.manager m

      k : PartKept s lives last paced st.now st.gives m p
      k = h.managers m

      left : List ℕ
      left = drop lost p.unsynced

      until : ℕ
      until = (lives.at st.now).clock (Manager m) + wait s.lease

      with_synced : List ℕ → Part
      with_synced synced = record { life = lives.life st.now m; synced = synced; unsynced = left; untils = noted_again s (left ++ synced) until; gives = []; activates = [] }

      new : Part
      new = with_synced p.synced

      -- nothing that is synced is lost
      kept_all : drop (lost - length p.unsynced) p.synced ≡ p.synced
      kept_all = let none : lost - length p.unsynced ≡ 0 = let few = may.2 in omega (arith, few) in rw none refl

      fewer : (n : NodeId) (end : ℕ) → Granted s st.gives m n end → Granted s (p.gives ++ st.gives) m n end
      fewer n end g = granted_more s st.gives (p.gives ++ st.gives) m n end (λ give i q. in_right p.gives st.gives give i) g

      member_left : (n : NodeId) (end : ℕ) → Granted s st.gives m n end → IsInOne s (left ++ p.synced) n
      member_left n end g = in_one_more s p.synced (left ++ p.synced) n (λ e i. in_right left p.synced e i) (k.members_out n end g)

      part : PartKept s lives last paced st.now st.gives m new
      part = record {
        own = λ give i. absurd i;
        first = k.first;
        descends = descends_left lost p.unsynced p.synced k.descends;
        rates = λ n end g later up upto same live. rate_now s lives last paced st.now m (lives.life st.now m) n end (until_of new.untils n) low (k.bounds n end (fewer n end g)) may.0 refl (noted_for_all s (left ++ p.synced) until n (member_left n end g));
        bounds = λ n end g. k.bounds n end (fewer n end g);
        members = member_left;
        members_out = k.members_out;
        activates = λ sent i. absurd i;
      }

  heard_kept : (st : State) (n : NodeId) (sent : Activate) → MayHappen s lives every KeepsSynced st (TakeActivate n sent) → Parts s lives last paced st → Parts s lives last paced (next s lives every st (TakeActivate n sent))
  heard_kept st n sent may h = record {
    managers = h.managers;
    asks = h.asks;
    ends = h.ends;
    reached = h.reached;
    activates = h.activates;
    heard = λ k m. by_place k m (nat_eq k.0 n.0);
    installed = h.installed;
  }
    where
      from_sender : (m : ℕ) → m ≡ sent.manager → MayBe s lives last paced st sent.epoch m
      from_sender m e = rw e (h.activates sent may.1)

      new : (m : ℕ) (u : Bool) → nat_eq (st.heard_epoch n) sent.epoch ≡ u → (cond u (put sent.manager true (st.heard n)) (λ (j : ℕ). nat_eq j sent.manager)) m ≡ true → MayBe s lives last paced st sent.epoch m
      new m true e = by_put (λ (v : Bool). v ≡ true → MayBe s lives last paced st sent.epoch m) sent.manager true (st.heard n) m (λ q is. from_sender m q) (λ d is. rw (sym (eqb-true (st.heard_epoch n) sent.epoch e)) (h.heard n m is))
      new m false e = λ is. from_sender m (eqb-true m sent.manager is)

      by_place : (k : NodeId) (m : ℕ) (t : Bool) → (cond t (heard_with st n sent) (st.heard k)) m ≡ true → MayBe s lives last paced st (cond t sent.epoch (st.heard_epoch k)) m
      by_place k m true is = new m (nat_eq (st.heard_epoch n) sent.epoch) refl is
      by_place k m false is = h.heard k m is

  install_kept : (st : State) (n : NodeId) → MayHappen s lives every KeepsSynced st (Install n) → Parts s lives last paced st → Parts s lives last paced (next s lives every st (Install n))
  install_kept st n may h = record {
    managers = h.managers;
    asks = h.asks;
    ends = h.ends;
    reached = h.reached;
    activates = h.activates;
    heard = h.heard;
    installed = λ epoch i. ⊎_elim
        (λ (e : epoch ≡ st.heard_epoch n). inr (record { test = st.heard n; many = may.1; each = λ m is. rw e (h.heard n m is) }))
        (λ (i : In st.installed epoch). h.installed epoch i) i;
  }

  module _ (chain : NeverReturns s) (founders : FoundersAreMembers s) where
    pub event_kept : (st : State) (event : Event) → (next s lives every st event).now ≤ last → MayHappen s lives every KeepsSynced st event → Parts s lives last paced st → Parts s lives last paced (next s lives every st event)
    event_kept st Pass low may h = pass_kept st low h
    event_kept st (Learn m epoch) low may h = learn_kept st m epoch may h
    event_kept st (AskLease n m) low may h = ask_kept st n m may h
    event_kept st (TakeAsk ask) low may h = grant_kept st ask low may chain h
    event_kept st (TakeGive give) low may h = give_kept st give may h
    event_kept st (SendActivate m) low may h = send_kept st m low may h
    event_kept st (TakeActivate n sent) low may h = heard_kept st n sent may h
    event_kept st (Install n) low may h = install_kept st n may h
    event_kept st (Sync m) low may h = sync_kept st m h
    event_kept st (Note m n until) low may h = note_kept st m n until h
    event_kept st (Return m lost) low may h = return_kept st m lost low may founders h

    pub run_kept : (st : State) → Parts s lives last paced st → (events : List Event) → IsRun s lives every KeepsSynced st events → (last_state s lives every st events).now ≤ last → Parts s lives last paced (last_state s lives every st events)
    run_kept st h [] run low = h
    run_kept st h (event ∷ events) run low = run_kept (next s lives every st event) (event_kept st event (le_trans (rises s lives (next s lives every st event) events) low) run.0 h) events run.1 low
