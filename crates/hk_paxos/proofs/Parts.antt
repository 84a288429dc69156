-- What holds at every moment of a run, and outlasts each event.
use Rattle.std.proofs.Common.{◌≡◌, ◌⊎◌, ℕ, ◌<◌, true, false, List, Option, None, Some, nat_eq, refl, sym, subst, ◌∙◌, ⊎_elim}
use Rattle.std.specs.List.{IsDistinct}
use Rattle.std.proofs.lemmas.Bool.{true≢false}
use Rattle.hk_base.specs.declared.view.Ballot.{Ballot}
use Rattle.hk_base.specs.declared.view.View.{View}
use Rattle.hk_base.specs.declared.view.Voted.{Voted}
use Rattle.hk_paxos.specs.declared.acceptor.Promise.{Promise}
use Rattle.hk_paxos.specs.declared.acceptor.Acceptor.{Acceptor}
use Rattle.hk_paxos.specs.declared.proposer.Proposer.{Proposer}
use Rattle.hk_paxos.specs.Paxos.{has_promises, value_of}
use Rattle.hk_paxos.specs.Run.{PaxosLetter, PaxosState, In, IsQuorum, IsChosen}
use Rattle.hk_paxos.specs.Run.PaxosLetter.{PrepareLetter, PromiseLetter, AcceptLetter, AcceptedLetter, ChosenLetter}
use Rattle.hk_paxos.proofs.Order.{level, Le, Lt, le_then, lt_then, lt_not_le, order}
use Rattle.hk_paxos.proofs.Quorums.{meet}

abbrev pub promise_of : Ballot → Option Voted → Promise
promise_of b told = record { ballot = b; accepted = told }

abbrev pub voted_of : Ballot → View → Voted
voted_of b v = record { ballot = b; view = v }

module _ (managers : ℕ) where
  -- at this ballot no other view will have a majority
  pub record Safe (st : PaxosState) (v : View) (c : Ballot) : Type 0 where
    pub quorum : List ℕ
    pub majority : IsQuorum managers quorum
    pub past : (a : ℕ) → In quorum a → Lt (Some c) (st.acceptor a).promised
    pub same : (a : ℕ) → In quorum a → (w : Voted) → In st.sent (AcceptedLetter a w) → w.ballot ≡ c → w.view ≡ v

  pub record PromiseOk (st : PaxosState) (a : ℕ) (p : Promise) : Type 0 where
    pub known : a < managers
    pub kept : Le (Some p.ballot) (st.acceptor a).promised
    pub sent : (v : Voted) → p.accepted ≡ Some v → In st.sent (AcceptLetter v.ballot v.view)
    pub told : (v : Voted) → In st.sent (AcceptedLetter a v) → Lt (Some v.ballot) (Some p.ballot) → Le (Some v.ballot) (level p.accepted)

  pub record AcceptOk (st : PaxosState) (b : Ballot) (v : View) : Type 0 where
    pub begun : In st.sent (PrepareLetter b)
    pub safe : (c : Ballot) → Lt (Some c) (Some b) → Safe st v c
    pub one : (w : View) → In st.sent (AcceptLetter b w) → w ≡ v

  pub record AcceptedOk (st : PaxosState) (a : ℕ) (v : Voted) : Type 0 where
    pub known : a < managers
    pub sent : In st.sent (AcceptLetter v.ballot v.view)
    pub within : Le (Some v.ballot) (level (st.acceptor a).accepted)

  abbrev pub LetterOk : PaxosState → PaxosLetter → Type 0
  LetterOk st (PrepareLetter b) = Unit {0}
  LetterOk st (PromiseLetter a p) = PromiseOk st a p
  LetterOk st (AcceptLetter b v) = AcceptOk st b v
  LetterOk st (AcceptedLetter a v) = AcceptedOk st a v
  LetterOk st (ChosenLetter v) = IsChosen managers st v

  pub record AcceptorOk (st : PaxosState) (a : Acceptor) : Type 0 where
    pub sent : (v : Voted) → a.accepted ≡ Some v → In st.sent (AcceptLetter v.ballot v.view)
    pub below : Le (level a.accepted) a.promised

  pub record ProposerOk (st : PaxosState) (m : ℕ) (p : Proposer) : Type 0 where
    pub its : p.ballot.manager ≡ m
    pub all : p.managers ≡ managers
    pub begun : In st.sent (PrepareLetter p.ballot)
    pub promised : (a : ℕ) → In p.promised a → (told : Option Voted) × In st.sent (PromiseLetter a (promise_of p.ballot told)) × Le (level told) (level p.highest)
    pub highest : (v : Voted) → p.highest ≡ Some v → In st.sent (AcceptLetter v.ballot v.view)
    pub distinct : IsDistinct nat_eq p.promised
    pub early : has_promises p ≡ false → (w : View) → In st.sent (AcceptLetter p.ballot w) → ⊥
    pub late : has_promises p ≡ true → (w : View) → In st.sent (AcceptLetter p.ballot w) → w ≡ value_of p
    pub accepted : (a : ℕ) → In p.accepted a → (has_promises p ≡ true) × In st.sent (AcceptedLetter a (voted_of p.ballot (value_of p)))
    pub distinct_accepted : IsDistinct nat_eq p.accepted

  pub record Parts (st : PaxosState) : Type 0 where
    pub letters : (l : PaxosLetter) → In st.sent l → LetterOk st l
    pub acceptors : (n : ℕ) → AcceptorOk st (st.acceptor n)
    pub proposers : (m : ℕ) (p : Proposer) → st.proposer m ≡ Some p → ProposerOk st m p

  -- promises and acceptances rise, no acceptance comes below a promise, and no second view comes at a ballot
  pub record Growth (old new : PaxosState) : Type 0 where
    pub rises : (n : ℕ) → Le (old.acceptor n).promised (new.acceptor n).promised
    pub rises_accepted : (n : ℕ) → Le (level (old.acceptor n).accepted) (level (new.acceptor n).accepted)
    pub stays : (l : PaxosLetter) → In old.sent l → In new.sent l
    pub acceptances : (a : ℕ) (v : Voted) → In new.sent (AcceptedLetter a v) → In old.sent (AcceptedLetter a v) ⊎ Le (old.acceptor a).promised (Some v.ballot)
    pub accepts : (b : Ballot) (v : View) → In new.sent (AcceptLetter b v) → In old.sent (AcceptLetter b v) ⊎ ((w : View) → In old.sent (AcceptLetter b w) → ⊥)

  module _ (old new : PaxosState) (g : Growth old new) where
    pub safe_grows : (v : View) (c : Ballot) → Safe old v c → Safe new v c
    safe_grows v c s = record {
      quorum = s.quorum;
      majority = s.majority;
      past = λ a q. lt_then (Some c) (old.acceptor a).promised (new.acceptor a).promised (s.past a q) (g.rises a);
      same = λ a q w h at. ⊎_elim
          (λ (was : In old.sent (AcceptedLetter a w)). s.same a q w was at)
          (λ (up : Le (old.acceptor a).promised (Some w.ballot)). absurd (lt_not_le (Some c) (old.acceptor a).promised (s.past a q) (rw at at up))) (g.acceptances a w h);
    }

    pub chosen_grows : (v : View) → IsChosen managers old v → IsChosen managers new v
    chosen_grows v c = record { ballot = c.ballot; quorum = c.quorum; majority = c.majority; accepted = λ m q. g.stays _ (c.accepted m q) }

    pub letter_grows : (l : PaxosLetter) → In old.sent l → LetterOk old l → LetterOk new l
    letter_grows (PrepareLetter b) sent o = tt
    letter_grows (PromiseLetter a p) sent o = record {
      known = o.known;
      kept = le_then (Some p.ballot) (old.acceptor a).promised (new.acceptor a).promised o.kept (g.rises a);
      sent = λ v is. g.stays _ (o.sent v is);
      told = λ v h under. ⊎_elim
          (λ (was : In old.sent (AcceptedLetter a v)). o.told v was under)
          (λ (up : Le (old.acceptor a).promised (Some v.ballot)). absurd (lt_not_le (Some v.ballot) (Some p.ballot) under (le_then (Some p.ballot) (old.acceptor a).promised (Some v.ballot) o.kept up))) (g.acceptances a v h);
    }
    letter_grows (AcceptLetter b v) sent o = record {
      begun = g.stays _ o.begun;
      safe = λ c under. safe_grows v c (o.safe c under);
      one = λ w h. ⊎_elim (λ (was : In old.sent (AcceptLetter b w)). o.one w was) (λ (none : (w : View) → In old.sent (AcceptLetter b w) → ⊥). absurd (none v sent)) (g.accepts b w h);
    }
    letter_grows (AcceptedLetter a v) sent o = record {
      known = o.known;
      sent = g.stays _ o.sent;
      within = le_then (Some v.ballot) (level (old.acceptor a).accepted) (level (new.acceptor a).accepted) o.within (g.rises_accepted a);
    }
    letter_grows (ChosenLetter v) sent o = chosen_grows v o

    pub acceptor_grows : (x : Acceptor) → AcceptorOk old x → AcceptorOk new x
    acceptor_grows x o = record { sent = λ v is. g.stays _ (o.sent v is); below = o.below }

    pub proposer_grows : (m : ℕ) (p : Proposer) → ((w : View) → In new.sent (AcceptLetter p.ballot w) → In old.sent (AcceptLetter p.ballot w)) → ProposerOk old m p → ProposerOk new m p
    proposer_grows m p none o = record {
      its = o.its;
      all = o.all;
      begun = g.stays _ o.begun;
      promised = λ a h. let t = o.promised a h in (t.0, g.stays _ t.1, t.2);
      highest = λ v is. g.stays _ (o.highest v is);
      distinct = o.distinct;
      early = λ not_yet w h. o.early not_yet w (none w h);
      late = λ given w h. o.late given w (none w h);
      accepted = λ a h. let t = o.accepted a h in (t.0, g.stays _ t.1);
      distinct_accepted = o.distinct_accepted;
    }

    pub keep : Parts old → ((l : PaxosLetter) → In new.sent l → In old.sent l ⊎ LetterOk new l) → ((n : ℕ) → (new.acceptor n ≡ old.acceptor n) ⊎ AcceptorOk new (new.acceptor n)) →
        ((m : ℕ) (p : Proposer) → new.proposer m ≡ Some p → ((old.proposer m ≡ Some p) × ((w : View) → In new.sent (AcceptLetter p.ballot w) → In old.sent (AcceptLetter p.ballot w))) ⊎ ProposerOk new m p) → Parts new
    keep parts news accs props = record {
      letters = λ l h. ⊎_elim (λ (was : In old.sent l). letter_grows l was (parts.letters l was)) (λ (ok : LetterOk new l). ok) (news l h);
      acceptors = λ n. ⊎_elim (λ (e : new.acceptor n ≡ old.acceptor n). subst (λ (x : Acceptor). AcceptorOk new x) (sym e) (acceptor_grows (old.acceptor n) (parts.acceptors n))) (λ (ok : AcceptorOk new (new.acceptor n)). ok) (accs n);
      proposers = λ m p is. ⊎_elim (λ (was : (old.proposer m ≡ Some p) × ((w : View) → In new.sent (AcceptLetter p.ballot w) → In old.sent (AcceptLetter p.ballot w))). proposer_grows m p was.1 (parts.proposers m p was.0)) (λ (ok : ProposerOk new m p). ok) (props m p is);
    }

  -- what a majority promised makes its highest acceptance safe at every lower ballot
  pub offer_safe : (st : PaxosState) → Parts st → (b : Ballot) (quorum : List ℕ) (highest : Option Voted) (view : View) → IsQuorum managers quorum →
      ((a : ℕ) → In quorum a → (told : Option Voted) × In st.sent (PromiseLetter a (promise_of b told)) × Le (level told) (level highest)) →
      ((v : Voted) → highest ≡ Some v → In st.sent (AcceptLetter v.ballot v.view)) → ((v : Voted) → highest ≡ Some v → v.view ≡ view) →
      (c : Ballot) → Lt (Some c) (Some b) → Safe st view c
  offer_safe st parts b quorum highest view majority promised sent of_highest c under = by_highest highest refl
    where
      told : (a : ℕ) (q : In quorum a) → PromiseOk st a (promise_of b (promised a q).0)
      told a q = parts.letters _ (promised a q).1

      past : (a : ℕ) → In quorum a → Lt (Some c) (st.acceptor a).promised
      past a q = lt_then (Some c) (Some b) (st.acceptor a).promised under (told a q).kept

      -- no promise hides an acceptance
      upto : (a : ℕ) → In quorum a → (w : Voted) → In st.sent (AcceptedLetter a w) → w.ballot ≡ c → Le (Some c) (level highest)
      upto a q w h at =
          let below : Lt (Some w.ballot) (Some b) = rw at under in
          let l : Le (Some w.ballot) (level (promised a q).0) = (told a q).told w h below in
          le_then (Some c) (level (promised a q).0) (level highest) (rw at at l) (promised a q).2

      by_highest : (x : Option Voted) → highest ≡ x → Safe st view c
      by_highest None is = record {
        quorum = quorum;
        majority = majority;
        past = past;
        same = λ a q w h at. let u : Le (Some c) None = rw is at (upto a q w h at) in absurd (true≢false u.not_above);
      }
      by_highest (Some top) is = ⊎_elim
          (λ (e : c ≡ top.ballot). record {
            quorum = quorum;
            majority = majority;
            past = past;
            same = λ a q w h at.
                let k : AcceptOk st top.ballot top.view = parts.letters _ (sent top is) in
                let o : AcceptedOk st a w = parts.letters _ h in
                let s : In st.sent (AcceptLetter top.ballot w.view) = rw (at ∙ e) at o.sent in
                k.one w.view s ∙ of_highest top is;
          })
          (λ (d : Lt (Some c) (Some top.ballot) ⊎ Lt (Some top.ballot) (Some c)). ⊎_elim
          (λ (low : Lt (Some c) (Some top.ballot)).
          let k : AcceptOk st top.ballot top.view = parts.letters _ (sent top is) in
          subst (λ (v : View). Safe st v c) (of_highest top is) (k.safe c low))
          (λ (high : Lt (Some top.ballot) (Some c)). record {
            quorum = quorum;
            majority = majority;
            past = past;
            same = λ a q w h at. let u : Le (Some c) (Some top.ballot) = rw is at (upto a q w h at) in absurd (lt_not_le (Some top.ballot) (Some c) high u);
          }) d) (order c top.ballot)

  -- two chosen views are equal
  pub agree : (st : PaxosState) → Parts st → (v w : View) → IsChosen managers st v → IsChosen managers st w → v ≡ w
  agree st parts v w p q = ⊎_elim
      (λ (same : p.ballot ≡ q.ballot).
      let a = meet managers p.quorum q.quorum p.majority q.majority in
      let x : AcceptedOk st a.0 (voted_of p.ballot v) = parts.letters _ (p.accepted a.0 a.1) in
      let y : AcceptedOk st a.0 (voted_of q.ballot w) = parts.letters _ (q.accepted a.0 a.2) in
      let k : AcceptOk st q.ballot w = parts.letters _ y.sent in
      let s : In st.sent (AcceptLetter q.ballot v) = rw same at x.sent in
      k.one v s)
      (λ (d : Lt (Some p.ballot) (Some q.ballot) ⊎ Lt (Some q.ballot) (Some p.ballot)). ⊎_elim (λ (l : Lt (Some p.ballot) (Some q.ballot)). lower v w p q l) (λ (l : Lt (Some q.ballot) (Some p.ballot)). sym (lower w v q p l)) d) (order p.ballot q.ballot)
    where
      lower : (v w : View) (p : IsChosen managers st v) (q : IsChosen managers st w) → Lt (Some p.ballot) (Some q.ballot) → v ≡ w
      lower v w p q below =
          let any = meet managers q.quorum q.quorum q.majority q.majority in
          let y : AcceptedOk st any.0 (voted_of q.ballot w) = parts.letters _ (q.accepted any.0 any.1) in
          let k : AcceptOk st q.ballot w = parts.letters _ y.sent in
          let safe = k.safe p.ballot below in
          let a = meet managers p.quorum safe.quorum p.majority safe.majority in
          safe.same a.0 a.2 (voted_of p.ballot v) (p.accepted a.0 a.1) refl
