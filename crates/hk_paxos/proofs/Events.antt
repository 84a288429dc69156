-- Each event keeps what holds at every moment of a run.
use Rattle.std.proofs.Common.{◌≡◌, ◌≢◌, ◌⊎◌, ℕ, ◌*◌, ◌<◌, Bool, true, false, cond, List, [], ◌∷◌, ◌++◌, length, Option, None, Some, nat_eq, refl, sym, ap, subst, ◌∙◌, inl, inr, ⊎_elim, arith}
use Rattle.std.specs.Option.{option_map, option_to_list}
use Rattle.std.proofs.lemmas.Bool.{ltb-true, false≢true, eqb-true, eqb-false, and_parts, not-true}
use Rattle.hk_base.specs.declared.view.Ballot.{Ballot}
use Rattle.hk_base.specs.declared.view.View.{View}
use Rattle.hk_base.specs.declared.view.Voted.{Voted}
use Rattle.hk_paxos.specs.declared.acceptor.Promise.{Promise}
use Rattle.hk_paxos.specs.declared.acceptor.Acceptor.{Acceptor}
use Rattle.hk_paxos.specs.declared.proposer.Proposer.{Proposer}
use Rattle.hk_paxos.specs.Paxos.{stays, is_refused, is_higher, is_noted, acceptor_on_prepare, acceptor_on_accept, proposer_new, proposer_on_promise, proposer_on_accepted, has_promises, has_acceptances, value_of, counts_promise, counts_acceptance, with_promise, with_acceptance}
use Rattle.hk_paxos.specs.Run.{PaxosLetter, PaxosState, PaxosEvent, In, put, with_acceptor, with_proposer, on_promise, on_accepted, next, MayHappen, IsPaxosRun, last_state, IsQuorum, paxos_start, Agrees}
use Rattle.hk_paxos.specs.Run.PaxosLetter.{PrepareLetter, PromiseLetter, AcceptLetter, AcceptedLetter, ChosenLetter}
use Rattle.hk_paxos.specs.Run.PaxosEvent.{Propose, Deliver, Stop}
use Rattle.hk_paxos.proofs.Order.{level, Le, Lt, le_same, le_then, same_ballot, not_refused, higher_told, higher_known}
use Rattle.hk_paxos.proofs.Quorums.{in_right, in_either, none_twice, distinct_with}
use Rattle.hk_paxos.proofs.Parts.{Safe, PromiseOk, AcceptOk, AcceptedOk, LetterOk, AcceptorOk, ProposerOk, promise_of, voted_of, Parts, Growth, keep, acceptor_grows, proposer_grows, safe_grows, offer_safe, agree}

put_cases : {X : Type 0} (m : ℕ) (x : X) (f : ℕ → X) (n : ℕ) → ((n ≡ m) × (put m x f n ≡ x)) ⊎ ((n ≢ m) × (put m x f n ≡ f n))
put_cases m x f n = at (nat_eq n m) refl
  where
    at : (t : Bool) → nat_eq n m ≡ t → ((n ≡ m) × (cond t x (f n) ≡ x)) ⊎ ((n ≢ m) × (cond t x (f n) ≡ f n))
    at true e = inl (eqb-true n m e, refl)
    at false e = inr (eqb-false n m e, refl)

same_some : {X : Type 0} (x y : X) → Some x ≡ Some y → x ≡ y
same_some x y e = cc

module _ (managers : ℕ) where
  abbrev acceptor_at : PaxosState → ℕ → Acceptor → List PaxosLetter → PaxosState
  acceptor_at st m x ls = record st { acceptor = put m x st.acceptor; sent = ls ++ st.sent }

  acceptor_step : (st : PaxosState) → Parts managers st → (m : ℕ) (x : Acceptor) (ls : List PaxosLetter) →
      Le (st.acceptor m).promised x.promised → Le (level (st.acceptor m).accepted) (level x.accepted) →
      ((a : ℕ) (v : Voted) → In ls (AcceptedLetter a v) → (a ≡ m) × Le (st.acceptor m).promised (Some v.ballot)) →
      ((b : Ballot) (v : View) → In ls (AcceptLetter b v) → ⊥) →
      (Growth managers st (acceptor_at st m x ls) → (l : PaxosLetter) → In ls l → LetterOk managers (acceptor_at st m x ls) l) →
      (Growth managers st (acceptor_at st m x ls) → AcceptorOk managers (acceptor_at st m x ls) x) → Parts managers (acceptor_at st m x ls)
  acceptor_step st parts m x ls up up_accepted fresh none news ok =
      keep managers st new growth parts
      (λ l h. ⊎_elim (λ (a : In ls l). inr (news growth l a)) inl (in_either ls st.sent l h))
      (λ n. ⊎_elim (λ (e : (n ≡ m) × (put m x st.acceptor n ≡ x)). inr (subst (λ (y : Acceptor). AcceptorOk managers new y) (sym e.1) (ok growth))) (λ (d : (n ≢ m) × (put m x st.acceptor n ≡ st.acceptor n)). inl d.1) (put_cases m x st.acceptor n))
      (λ j p is. inl (is, λ w h. old_accept p.ballot w h))
    where
      new : PaxosState
      new = acceptor_at st m x ls

      old_accept : (b : Ballot) (w : View) → In (ls ++ st.sent) (AcceptLetter b w) → In st.sent (AcceptLetter b w)
      old_accept b w h = ⊎_elim (λ (a : In ls (AcceptLetter b w)). absurd (none b w a)) (λ (s : In st.sent (AcceptLetter b w)). s) (in_either ls st.sent (AcceptLetter b w) h)

      growth : Growth managers st (acceptor_at st m x ls)
      growth = record {
        rises = λ n. ⊎_elim (λ (e : (n ≡ m) × (put m x st.acceptor n ≡ x)). rw (e.1, e.0) up) (λ (d : (n ≢ m) × (put m x st.acceptor n ≡ st.acceptor n)). rw d.1 (le_same (st.acceptor n).promised)) (put_cases m x st.acceptor n);
        rises_accepted = λ n. ⊎_elim (λ (e : (n ≡ m) × (put m x st.acceptor n ≡ x)). rw (e.1, e.0) up_accepted) (λ (d : (n ≢ m) × (put m x st.acceptor n ≡ st.acceptor n)). rw d.1 (le_same (level (st.acceptor n).accepted))) (put_cases m x st.acceptor n);
        stays = λ l h. in_right ls st.sent l h;
        acceptances = λ a v h. ⊎_elim (λ (f : In ls (AcceptedLetter a v)). let k = fresh a v f in inr (rw k.0 k.1)) inl (in_either ls st.sent (AcceptedLetter a v) h);
        accepts = λ b v h. inl (old_accept b v h);
      }

  abbrev proposer_at : PaxosState → ℕ → Proposer → List PaxosLetter → PaxosState
  proposer_at st m p ls = record st { proposer = put m (Some p) st.proposer; sent = ls ++ st.sent }

  proposer_step : (st : PaxosState) → Parts managers st → (m : ℕ) (p : Proposer) (ls : List PaxosLetter) →
      ((a : ℕ) (v : Voted) → In ls (AcceptedLetter a v) → ⊥) →
      ((b : Ballot) (v : View) → In ls (AcceptLetter b v) → (b.manager ≡ m) × ((w : View) → In st.sent (AcceptLetter b w) → ⊥)) →
      (Growth managers st (proposer_at st m p ls) → (l : PaxosLetter) → In ls l → LetterOk managers (proposer_at st m p ls) l) →
      (Growth managers st (proposer_at st m p ls) → ProposerOk managers (proposer_at st m p ls) m p) → Parts managers (proposer_at st m p ls)
  proposer_step st parts m p ls none fresh news ok =
      keep managers st new growth parts
      (λ l h. ⊎_elim (λ (a : In ls l). inr (news growth l a)) inl (in_either ls st.sent l h))
      (λ n. inl refl)
      (λ j q is. ⊎_elim
      (λ (e : (j ≡ m) × (put m (Some p) st.proposer j ≡ Some p)). let s : p ≡ q = same_some p q (sym e.1 ∙ is) in inr (rw (e.0, ← s) (ok growth)))
      (λ (d : (j ≢ m) × (put m (Some p) st.proposer j ≡ st.proposer j)).
      let was : st.proposer j ≡ Some q = sym d.1 ∙ is in
      inl (
        was,
        λ w h. ⊎_elim
            (λ (a : In ls (AcceptLetter q.ballot w)). absurd (d.0 (sym (parts.proposers j q was).its ∙ (fresh q.ballot w a).0)))
            (λ (s : In st.sent (AcceptLetter q.ballot w)). s) (in_either ls st.sent (AcceptLetter q.ballot w) h),
      ))
      (put_cases m (Some p) st.proposer j))
    where
      new : PaxosState
      new = proposer_at st m p ls

      growth : Growth managers st (proposer_at st m p ls)
      growth = record {
        rises = λ n. le_same (st.acceptor n).promised;
        rises_accepted = λ n. le_same (level (st.acceptor n).accepted);
        stays = λ l h. in_right ls st.sent l h;
        acceptances = λ a v h. ⊎_elim (λ (f : In ls (AcceptedLetter a v)). absurd (none a v f)) inl (in_either ls st.sent (AcceptedLetter a v) h);
        accepts = λ b v h. ⊎_elim (λ (f : In ls (AcceptLetter b v)). inr (fresh b v f).1) inl (in_either ls st.sent (AcceptLetter b v) h);
      }

  alone : (l k : PaxosLetter) → In (l ∷ []) k → k ≡ l
  alone l k (inl e) = e
  alone l k (inr h) = absurd h

  -- a manager's acceptor is delivered a Prepare
  prepare_kept : (st : PaxosState) → Parts managers st → (m : ℕ) (b : Ballot) → m < managers →
      Parts managers (with_acceptor st m (acceptor_on_prepare (st.acceptor m) b) (λ promise. PromiseLetter m promise))
  prepare_kept st parts m b known = at (is_refused was.promised b) refl
    where
      was : Acceptor
      was = st.acceptor m

      at : (t : Bool) → is_refused (st.acceptor m).promised b ≡ t →
          Parts managers (with_acceptor st m (cond t (stays (st.acceptor m)) (record { after = record { promised = Some b; accepted = (st.acceptor m).accepted }; answer = Some (promise_of b (st.acceptor m).accepted) })) (λ promise. PromiseLetter m promise))
      at true e = acceptor_step st parts m (st.acceptor m) [] (le_same (st.acceptor m).promised) (le_same (level (st.acceptor m).accepted)) (λ a v h. absurd h) (λ c v h. h) (λ g l h. absurd h) (λ g. acceptor_grows managers st _ g (st.acceptor m) (parts.acceptors m))
      at false e =
          let up : Le (st.acceptor m).promised (Some b) = not_refused (st.acceptor m).promised b e in
          let x : Acceptor = record { promised = Some b; accepted = (st.acceptor m).accepted } in
          let l0 = PromiseLetter m (promise_of b (st.acceptor m).accepted) in
          acceptor_step st parts m x (l0 ∷ []) up (le_same (level (st.acceptor m).accepted))
          (λ a v h. let n : AcceptedLetter a v ≡ l0 = alone l0 (AcceptedLetter a v) h in absurd cc)
          (λ c v h. let n : AcceptLetter c v ≡ l0 = alone l0 (AcceptLetter c v) h in cc)
          (λ g l h. rw (alone l0 l h) (record {
            known = known;
            kept = promised_now x;
            sent = λ v is. g.stays _ ((parts.acceptors m).sent v is);
            told = λ v h under. ⊎_elim
                (λ (s : In (l0 ∷ []) (AcceptedLetter m v)). let n : AcceptedLetter m v ≡ l0 = alone l0 (AcceptedLetter m v) s in absurd cc)
                (λ (s : In st.sent (AcceptedLetter m v)). let o : AcceptedOk managers st m v = parts.letters _ s in o.within) (in_either (l0 ∷ []) st.sent (AcceptedLetter m v) h);
          }))
          (λ g. record { sent = λ v is. g.stays _ ((parts.acceptors m).sent v is); below = le_then (level (st.acceptor m).accepted) (st.acceptor m).promised (Some b) (parts.acceptors m).below up })
        where
          promised_now : (x : Acceptor) → Le x.promised (put m x st.acceptor m).promised
          promised_now x = ⊎_elim (λ (s : (m ≡ m) × (put m x st.acceptor m ≡ x)). rw s.1 (le_same x.promised)) (λ (d : (m ≢ m) × (put m x st.acceptor m ≡ st.acceptor m)). absurd (d.0 refl)) (put_cases m x st.acceptor m)

  -- a manager's acceptor is delivered an Accept
  accept_kept : (st : PaxosState) → Parts managers st → (m : ℕ) (b : Ballot) (view : View) → m < managers → In st.sent (AcceptLetter b view) →
      Parts managers (with_acceptor st m (acceptor_on_accept (st.acceptor m) b view) (λ at. AcceptedLetter m (record { ballot = at; view = view })))
  accept_kept st parts m b view known sent = at (is_refused (st.acceptor m).promised b) refl
    where
      at : (t : Bool) → is_refused (st.acceptor m).promised b ≡ t →
          Parts managers (with_acceptor st m (cond t (stays (st.acceptor m)) (record { after = record { promised = Some b; accepted = Some (voted_of b view) }; answer = Some b })) (λ at. AcceptedLetter m (record { ballot = at; view = view })))
      at true e = acceptor_step st parts m (st.acceptor m) [] (le_same (st.acceptor m).promised) (le_same (level (st.acceptor m).accepted)) (λ a v h. absurd h) (λ c v h. h) (λ g l h. absurd h) (λ g. acceptor_grows managers st _ g (st.acceptor m) (parts.acceptors m))
      at false e =
          let up : Le (st.acceptor m).promised (Some b) = not_refused (st.acceptor m).promised b e in
          let x : Acceptor = record { promised = Some b; accepted = Some (voted_of b view) } in
          let l0 = AcceptedLetter m (voted_of b view) in
          acceptor_step st parts m x (l0 ∷ []) up (le_then (level (st.acceptor m).accepted) (st.acceptor m).promised (Some b) (parts.acceptors m).below up)
          (λ a v h. let n : AcceptedLetter a v ≡ l0 = alone l0 (AcceptedLetter a v) h in
          let who : a ≡ m = cc in let what : v ≡ voted_of b view = cc in (who, rw what up))
          (λ c v h. let n : AcceptLetter c v ≡ l0 = alone l0 (AcceptLetter c v) h in cc)
          (λ g l h. rw (alone l0 l h) (record { known = known; sent = g.stays _ sent; within = accepted_now x }))
          (λ g. record { sent = λ v is. let s : voted_of b view ≡ v = same_some (voted_of b view) v is in rw (← s) (g.stays _ sent); below = le_same (Some b) })
        where
          accepted_now : (x : Acceptor) → Le (level x.accepted) (level (put m x st.acceptor m).accepted)
          accepted_now x = ⊎_elim (λ (s : (m ≡ m) × (put m x st.acceptor m ≡ x)). rw s.1 (le_same (level x.accepted))) (λ (d : (m ≢ m) × (put m x st.acceptor m ≡ st.acceptor m)). absurd (d.0 refl)) (put_cases m x st.acceptor m)

  -- a new proposal
  propose_kept : (epoch : ℕ) (st : PaxosState) → Parts managers st → (m round : ℕ) (view : View) → (In st.sent (PrepareLetter (record { round = round; manager = m })) → ⊥) →
      Parts managers (next epoch managers st (Propose m round view))
  propose_kept epoch st parts m round view unused =
      proposer_step st parts m (proposer_new epoch b view managers) (l0 ∷ [])
      (λ a v h. let n : AcceptedLetter a v ≡ l0 = alone l0 (AcceptedLetter a v) h in cc)
      (λ c v h. let n : AcceptLetter c v ≡ l0 = alone l0 (AcceptLetter c v) h in absurd cc)
      (λ g l h. rw (alone l0 l h) tt)
      (λ g. record {
        its = refl;
        all = refl;
        begun = inl refl;
        promised = λ a h. absurd h;
        highest = λ v is. let n : None ≡ Some v = is in absurd cc;
        distinct = none_twice;
        early = λ not_yet w h. ⊎_elim
            (λ (a : In (l0 ∷ []) (AcceptLetter b w)). let n : AcceptLetter b w ≡ l0 = alone l0 (AcceptLetter b w) a in cc)
            (λ (s : In st.sent (AcceptLetter b w)). let o : AcceptOk managers st b w = parts.letters _ s in unused o.begun) (in_either (l0 ∷ []) st.sent (AcceptLetter b w) h);
        late = λ given w h. absurd (not_given given);
        accepted = λ a h. absurd h;
        distinct_accepted = none_twice;
      })
    where
      b : Ballot
      b = record { round = round; manager = m }

      l0 : PaxosLetter
      l0 = PrepareLetter (record { round = round; manager = m })

      not_given : has_promises (proposer_new epoch b view managers) ≡ true → ⊥
      not_given h = absurd (omega (arith, ltb-true managers (2 * 0) h))

  -- a manager stops
  stop_kept : (epoch : ℕ) (st : PaxosState) → Parts managers st → (m : ℕ) → Parts managers (next epoch managers st (Stop m))
  stop_kept epoch st parts m =
      keep managers st (next epoch managers st (Stop m)) (record {
        rises = λ n. le_same (st.acceptor n).promised;
        rises_accepted = λ n. le_same (level (st.acceptor n).accepted);
        stays = λ l h. h;
        acceptances = λ a v h. inl h;
        accepts = λ b v h. inl h;
      }) parts (λ l h. inl h) (λ n. inl refl) (λ j p is. inl (is, λ w h. h))

  -- of what is known and what is told, the higher is above both, and one of them
  abbrev higher_of : Option Voted → Option Voted → Option Voted
  higher_of told known = cond (is_higher told known) told known

  above_known : (told known : Option Voted) → Le (level known) (level (higher_of told known))
  above_known told known = at (is_higher told known) refl
    where
      at : (t : Bool) → is_higher told known ≡ t → Le (level known) (level (cond t told known))
      at true e = higher_known told known e
      at false e = le_same (level known)

  above_told : (told known : Option Voted) → Le (level told) (level (higher_of told known))
  above_told told known = at (is_higher told known) refl
    where
      at : (t : Bool) → is_higher told known ≡ t → Le (level told) (level (cond t told known))
      at true e = le_same (level told)
      at false e = higher_told told known e

  either_of : (told known : Option Voted) (v : Voted) → higher_of told known ≡ Some v → (told ≡ Some v) ⊎ (known ≡ Some v)
  either_of told known v = at (is_higher told known)
    where
      at : (t : Bool) → cond t told known ≡ Some v → (told ≡ Some v) ⊎ (known ≡ Some v)
      at true h = inl h
      at false h = inr h

  value_at : (p : Proposer) (v : Voted) → p.highest ≡ Some v → v.view ≡ value_of p
  value_at p v is = sym (ap (λ (h : Option Voted). value_of (record p { highest = h })) is)

  module _ (st : PaxosState) (parts : Parts managers st) (m : ℕ) (p : Proposer) (is : st.proposer m ≡ Some p) where
    known_ok : ProposerOk managers st m p
    known_ok = parts.proposers m p is

    unchanged : Parts managers (proposer_at st m p [])
    unchanged = proposer_step st parts m p [] (λ a v h. h) (λ b v h. absurd h) (λ g l h. absurd h) (λ g. proposer_grows managers st _ g m p (λ w h. h) known_ok)

    module _ (from : ℕ) (promise : Promise) (sent : In st.sent (PromiseLetter from promise)) (same : promise.ballot ≡ p.ballot) (before : has_promises p ≡ false) (new : is_noted from p.promised ≡ false) where
      abbrev after : Proposer
      after = with_promise p from promise.accepted

      promised_after : (a : ℕ) → In after.promised a → (told : Option Voted) × In st.sent (PromiseLetter a (promise_of p.ballot told)) × Le (level told) (level after.highest)
      promised_after a h = ⊎_elim
          (λ (was : In p.promised a). let t = known_ok.promised a was in (t.0, t.1, le_then (level t.0) (level p.highest) (level after.highest) t.2 (above_known promise.accepted p.highest)))
          (λ (one : In (from ∷ []) a). ⊎_elim
          (λ (e : a ≡ from). (promise.accepted, rw e (subst (λ (b : Ballot). In st.sent (PromiseLetter from (promise_of b promise.accepted))) same sent), above_told promise.accepted p.highest))
          (λ (none : ⊥). absurd none) one)
          (in_either p.promised (from ∷ []) a h)

      highest_after : (v : Voted) → after.highest ≡ Some v → In st.sent (AcceptLetter v.ballot v.view)
      highest_after v h = ⊎_elim
          (λ (e : promise.accepted ≡ Some v). let o : PromiseOk managers st from promise = parts.letters _ sent in o.sent v e)
          (λ (e : p.highest ≡ Some v). known_ok.highest v e) (either_of promise.accepted p.highest v h)

      quorum_after : has_promises after ≡ true → IsQuorum managers after.promised
      quorum_after given =
          let more : p.managers < 2 * length after.promised = ltb-true p.managers (2 * length after.promised) given in
          record {
            distinct = distinct_with from p.promised new known_ok.distinct;
            known = λ a h. let t = promised_after a h in let o : PromiseOk managers st a (promise_of p.ballot t.0) = parts.letters _ t.1 in o.known;
            majority = rw known_ok.all at more;
          }

      offered : has_promises after ≡ true → (c : Ballot) → Lt (Some c) (Some p.ballot) → Safe managers st (value_of after) c
      offered given = offer_safe managers st parts p.ballot after.promised after.highest (value_of after) (quorum_after given) promised_after highest_after (value_at after)

      after_ok : (ls : List PaxosLetter) → Growth managers st (proposer_at st m after ls) →
          (has_promises after ≡ false → (w : View) → In (ls ++ st.sent) (AcceptLetter p.ballot w) → ⊥) → (has_promises after ≡ true → (w : View) → In (ls ++ st.sent) (AcceptLetter p.ballot w) → w ≡ value_of after) →
          ProposerOk managers (proposer_at st m after ls) m after
      after_ok ls g early late = record {
        its = known_ok.its;
        all = known_ok.all;
        begun = g.stays _ known_ok.begun;
        promised = λ a h. let t = promised_after a h in (t.0, g.stays _ t.1, t.2);
        highest = λ v e. g.stays _ (highest_after v e);
        distinct = distinct_with from p.promised new known_ok.distinct;
        early = early;
        late = late;
        accepted = λ a h. absurd (false≢true (sym before ∙ (known_ok.accepted a h).0));
        distinct_accepted = known_ok.distinct_accepted;
      }

      counted : (given : Bool) → has_promises after ≡ given → Parts managers (proposer_at st m after (option_to_list (option_map (λ view. AcceptLetter p.ballot view) (cond given (Some (value_of after)) None))))
      counted false e =
          proposer_step st parts m after [] (λ a v h. h) (λ b v h. absurd h) (λ g l h. absurd h)
          (λ g. after_ok [] g (λ n w h. known_ok.early before w h) (λ given w h. absurd (false≢true (sym e ∙ given))))
      counted true e =
          let l0 = AcceptLetter p.ballot (value_of after) in
          proposer_step st parts m after (l0 ∷ [])
          (λ a v h. let n : AcceptedLetter a v ≡ l0 = alone l0 (AcceptedLetter a v) h in cc)
          (λ b v h. let n : AcceptLetter b v ≡ l0 = alone l0 (AcceptLetter b v) h in
          let at : b ≡ p.ballot = cc in (ap (λ (x : Ballot). x.manager) at ∙ known_ok.its, λ w s. known_ok.early before w (rw at at s)))
          (λ g l h. rw (alone l0 l h) (record {
            begun = g.stays _ known_ok.begun;
            safe = λ c under. safe_grows managers st _ g (value_of after) c (offered e c under);
            one = only;
          }))
          (λ g. after_ok (l0 ∷ []) g (λ n w h. absurd (false≢true (sym n ∙ e))) (λ given w h. only w h))
        where
          only : (w : View) → In (AcceptLetter p.ballot (value_of after) ∷ st.sent) (AcceptLetter p.ballot w) → w ≡ value_of after
          only w (inl n) = view_of p.ballot w (value_of after) n
            where
              view_of : (b : Ballot) (x y : View) → AcceptLetter b x ≡ AcceptLetter b y → x ≡ y
              view_of b x y k = cc
          only w (inr s) = absurd (known_ok.early before w s)

    promise_kept : (from : ℕ) (promise : Promise) → In st.sent (PromiseLetter from promise) →
        Parts managers (with_proposer st m (proposer_on_promise p from promise) (λ view. AcceptLetter p.ballot view))
    promise_kept from promise sent = at (counts_promise p from promise.ballot) refl
      where
        at : (t : Bool) → counts_promise p from promise.ballot ≡ t →
            Parts managers (with_proposer st m (cond t (record { after = with_promise p from promise.accepted; answer = cond (has_promises (with_promise p from promise.accepted)) (Some (value_of (with_promise p from promise.accepted))) None }) (stays p)) (λ view. AcceptLetter p.ballot view))
        at false e = unchanged
        at true e =
            let x = and_parts _ _ e in
            let y = and_parts _ _ x.0 in
            counted from promise sent (same_ballot _ _ y.0) (not-true _ y.1) (not-true _ x.1) (has_promises (with_promise p from promise.accepted)) refl

    module _ (from : ℕ) (voted : Voted) (sent : In st.sent (AcceptedLetter from voted)) (same : voted.ballot ≡ p.ballot) (given : has_promises p ≡ true) (new : is_noted from p.accepted ≡ false) where
      abbrev noted : Proposer
      noted = with_acceptance p from

      -- what was accepted at its ballot is what it proposed
      its_view : voted.view ≡ value_of p
      its_view = let o : AcceptedOk managers st from voted = parts.letters _ sent in known_ok.late given voted.view (rw same at o.sent)

      accepted_after : (a : ℕ) → In noted.accepted a → In st.sent (AcceptedLetter a (voted_of p.ballot (value_of p)))
      accepted_after a h = ⊎_elim
          (λ (was : In p.accepted a). (known_ok.accepted a was).1)
          (λ (one : In (from ∷ []) a). ⊎_elim
          (λ (e : a ≡ from). rw e (subst (λ (v : View). In st.sent (AcceptedLetter from (voted_of p.ballot v))) its_view (subst (λ (b : Ballot). In st.sent (AcceptedLetter from (voted_of b voted.view))) same sent)))
          (λ (none : ⊥). absurd none) one)
          (in_either p.accepted (from ∷ []) a h)

      noted_ok : (ls : List PaxosLetter) → Growth managers st (proposer_at st m noted ls) → ((w : View) → In (ls ++ st.sent) (AcceptLetter p.ballot w) → In st.sent (AcceptLetter p.ballot w)) → ProposerOk managers (proposer_at st m noted ls) m noted
      noted_ok ls g none = record {
        its = known_ok.its;
        all = known_ok.all;
        begun = g.stays _ known_ok.begun;
        promised = λ a h. let t = known_ok.promised a h in (t.0, g.stays _ t.1, t.2);
        highest = λ v e. g.stays _ (known_ok.highest v e);
        distinct = known_ok.distinct;
        early = λ n w h. absurd (false≢true (sym n ∙ given));
        late = λ n w h. known_ok.late given w (none w h);
        accepted = λ a h. (given, g.stays _ (accepted_after a h));
        distinct_accepted = distinct_with from p.accepted new known_ok.distinct_accepted;
      }

      quorum_noted : has_acceptances noted ≡ true → IsQuorum managers noted.accepted
      quorum_noted enough =
          let more : p.managers < 2 * length noted.accepted = ltb-true p.managers (2 * length noted.accepted) enough in
          record {
            distinct = distinct_with from p.accepted new known_ok.distinct_accepted;
            known = λ a h. let o : AcceptedOk managers st a (voted_of p.ballot (value_of p)) = parts.letters _ (accepted_after a h) in o.known;
            majority = rw known_ok.all at more;
          }

      told : (enough : Bool) → has_acceptances noted ≡ enough → Parts managers (proposer_at st m noted (option_to_list (option_map (λ view. ChosenLetter view) (cond enough (Some (value_of noted)) None))))
      told false e = proposer_step st parts m noted [] (λ a v h. h) (λ b v h. absurd h) (λ g l h. absurd h) (λ g. noted_ok [] g (λ w h. h))
      told true e =
          let l0 = ChosenLetter (value_of p) in
          proposer_step st parts m noted (l0 ∷ [])
          (λ a v h. let n : AcceptedLetter a v ≡ l0 = alone l0 (AcceptedLetter a v) h in cc)
          (λ b v h. let n : AcceptLetter b v ≡ l0 = alone l0 (AcceptLetter b v) h in absurd cc)
          (λ g l h. rw (alone l0 l h) (record { ballot = p.ballot; quorum = noted.accepted; majority = quorum_noted e; accepted = λ a q. g.stays _ (accepted_after a q) }))
          (λ g. noted_ok (l0 ∷ []) g (λ w h. ⊎_elim
          (λ (a : In (l0 ∷ []) (AcceptLetter p.ballot w)). let n : AcceptLetter p.ballot w ≡ l0 = alone l0 (AcceptLetter p.ballot w) a in absurd cc)
          (λ (s : In st.sent (AcceptLetter p.ballot w)). s) (in_either (l0 ∷ []) st.sent (AcceptLetter p.ballot w) h)))

    accepted_kept : (from : ℕ) (voted : Voted) → In st.sent (AcceptedLetter from voted) →
        Parts managers (with_proposer st m (proposer_on_accepted p from voted.ballot) (λ view. ChosenLetter view))
    accepted_kept from voted sent = at (counts_acceptance p from voted.ballot) refl
      where
        at : (t : Bool) → counts_acceptance p from voted.ballot ≡ t →
            Parts managers (with_proposer st m (cond t (record { after = with_acceptance p from; answer = cond (has_acceptances (with_acceptance p from)) (Some (value_of (with_acceptance p from))) None }) (stays p)) (λ view. ChosenLetter view))
        at false e = unchanged
        at true e =
            let x = and_parts _ _ e in
            let y = and_parts _ _ x.0 in
            let z = and_parts _ _ y.0 in
            told from voted sent (same_ballot _ _ z.0) z.1 (not-true _ x.1) (has_acceptances (with_acceptance p from)) refl

  event_kept : (epoch : ℕ) (st : PaxosState) → Parts managers st → (event : PaxosEvent) → MayHappen epoch managers st event → Parts managers (next epoch managers st event)
  event_kept epoch st parts (Propose m round view) may = propose_kept epoch st parts m round view may.1
  event_kept epoch st parts (Stop m) may = stop_kept epoch st parts m
  event_kept epoch st parts (Deliver m (PrepareLetter b)) may = prepare_kept st parts m b may.0.known
  event_kept epoch st parts (Deliver m (AcceptLetter b view)) may = accept_kept st parts m b view may.0.known may.1
  event_kept epoch st parts (Deliver m (ChosenLetter view)) may = parts
  event_kept epoch st parts (Deliver m (PromiseLetter from promise)) may = at (st.proposer m) refl
    where
      at : (o : Option Proposer) → st.proposer m ≡ o → Parts managers (on_promise st m o from promise)
      at None e = parts
      at (Some p) e = promise_kept st parts m p e from promise may.1
  event_kept epoch st parts (Deliver m (AcceptedLetter from voted)) may = at (st.proposer m) refl
    where
      at : (o : Option Proposer) → st.proposer m ≡ o → Parts managers (on_accepted st m o from voted.ballot)
      at None e = parts
      at (Some p) e = accepted_kept st parts m p e from voted may.1

  run_kept : (epoch : ℕ) (st : PaxosState) → Parts managers st → (events : List PaxosEvent) → IsPaxosRun epoch managers st events → Parts managers (last_state epoch managers st events)
  run_kept epoch st parts [] run = parts
  run_kept epoch st parts (event ∷ events) run = run_kept epoch (next epoch managers st event) (event_kept epoch st parts event run.0) events run.1

  start_parts : Parts managers paxos_start
  start_parts = record {
    letters = λ l h. absurd h;
    acceptors = λ n. record { sent = λ v is. let e : None ≡ Some v = is in absurd cc; below = le_same None };
    proposers = λ m p is. let e : None ≡ Some p = is in absurd cc;
  }

  pub agreement : (epoch : ℕ) (events : List PaxosEvent) → IsPaxosRun epoch managers paxos_start events → Agrees managers (last_state epoch managers paxos_start events)
  agreement epoch events run =
      let parts = run_kept epoch paxos_start start_parts events run in
      record { one = agree managers (last_state epoch managers paxos_start events) parts; reported = λ v h. parts.letters (ChosenLetter v) h }
