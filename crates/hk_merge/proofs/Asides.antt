-- What events of a world leave of a Read's answer.
use Rattle.std.proofs.Common.{◌≡◌, ◌≢◌, ◌⊎◌, ◌+◌, ℕ, List, [], ◌∷◌, Bool, true, false, Option, Some, None, Result, Ok, Err, refl, sym, ap, subst, ◌∙◌, inl, inr, eqb, Equal}
use Rattle.std.proofs.lemmas.Bool.{eqb-true, eqb-false}
use Rattle.std.proofs.lemmas.Cmp.{nat_cmp_total, tied_itself, ranked}
use Rattle.hk_base.specs.declared.stamp.NodeId.{NodeId}
use Rattle.hk_base.specs.declared.call.Op.TheVariants.{Read}
use Rattle.hk_base.specs.declared.letter.Actor.{Actor}
use Rattle.hk_base.specs.declared.letter.Actor.TheVariants as Actor
use Rattle.hk_base.specs.declared.letter.Letter.{Letter}
use Rattle.hk_node.specs.declared.event.NodeEvent.TheVariants as NodeEvent
use Rattle.hk_node.specs.Node.{NodeState}
use Rattle.hk_node.specs.Calls.{called}
use Rattle.hk_node.specs.Steps.{receives, resent, replayed}
use Rattle.hk_event.specs.declared.event.Event.TheVariants.{Call, Take, Resend, Replay}
use Rattle.hk_world.specs.declared.process.Process.{Process}
use Rattle.hk_event.specs.declared.refused.Refused.{Refused}
use Rattle.hk_world.specs.World.{WorldState, Processes, by_number, process_at, put_process, numbered}
use Rattle.hk_manager.specs.declared.event.ManagerEvent.TheVariants as ManagerEvent
use Rattle.hk_manager.specs.Steps.{manager_step}
use Rattle.hk_world.specs.Steps.{Accepted, acts, manager_acts, running_at, live_at, live, live_actor, takes, calls_at}
use Rattle.hk_merge.specs.Reads.{IsServing, AsTo, read_answer, ReadsAreOfTheRow, OthersStay}
use Rattle.hk_merge.specs.Aside.{alive, LetterIsAside, Runs, EventsKeepAside, AsidesKeepReads}
use Rattle.hk_merge.proofs.Entries.{found_same, found_other}
use Rattle.hk_merge.proofs.Leaves.{as_to_itself}

numbered_node : ℕ → NodeId
numbered_node n = record { 0 = n }

pub same_number : (a b : NodeId) → a.0 ≡ b.0 → a ≡ b
unfolding numbered_node
same_number a b e = ap numbered_node e

pub equal_numbers : (a b : NodeId) → by_number a b ≡ Equal → a ≡ b
equal_numbers a b e = same_number a b (ranked a.0 b.0 Equal (sym e))

pub number_itself : (a : NodeId) → by_number a a ≡ Equal
number_itself a = tied_itself nat_cmp_total a.0

put_same : (id : NodeId) (p : Process) (ps : Processes) → process_at id (put_process id p ps) ≡ Some p
put_same id p ps = found_same by_number equal_numbers number_itself id p ps

put_other : (q id : NodeId) (p : Process) (ps : Processes) → q ≢ id → process_at q (put_process id p ps) ≡ process_at q ps
put_other q id p ps ne = found_other by_number equal_numbers number_itself q id p ps ne

same_node : (x y : NodeState) → Some (alive x) ≡ Some (alive y) → x ≡ y
same_node x y e = ap (λ (o : Option Process). node_in o) e
  where
    node_in : Option Process → NodeState
    node_in None = x
    node_in (Some p) = p.node

processes_in : Result Accepted Refused → Processes
processes_in (Ok a) = a.world.processes
processes_in (Err refused) = []

-- an accepted step of a live node
module _ (P : Type 0) (w : WorldState) (a : Accepted) where
  pub live_step : (id : NodeId) (step : NodeState → Result Accepted Refused) → ((x : NodeState) → process_at id w.processes ≡ Some (alive x) → step x ≡ Ok a → P) → live w id step ≡ Ok a → P
  live_step id step go_on e = by_process (process_at id w.processes) refl e
    where
      by_crashed : (p : Process) → process_at id w.processes ≡ Some p → (b : Bool) → p.crashed ≡ b → running_at b p.node step ≡ Ok a → P
      by_crashed p at true c e = cc
      by_crashed p at false c e = go_on p.node (at ∙ ap (λ (b : Bool). Some (record { node = p.node; crashed = b })) c) e

      by_process : (o : Option Process) → process_at id w.processes ≡ o → live_at o step ≡ Ok a → P
      by_process None at e = cc
      by_process (Some p) at e = by_crashed p at p.crashed refl e

  -- a letter to a node is taken by it
  pub takes_step : (l : Letter) (id : NodeId) → l.to ≡ Actor.Node id → (o : Option Letter) → o ≡ Some l →
      ((x : NodeState) → process_at id w.processes ≡ Some (alive x) → acts w id x (receives x l) ≡ Ok a → P) → takes w o ≡ Ok a → P
  takes_step l id to o is go_on e = live_step id (λ node. acts w id node (receives node l)) go_on
      (sym (ap (λ (actor : Actor). live_actor w actor (λ at node. acts w at node (receives node l)) (λ m manager. manager_acts w m (manager_step manager (ManagerEvent.Receive l)))) to) ∙ (sym (ap (λ (p : Option Letter). takes w p) is) ∙ e))

still_serving : (key : List ℕ) (old new : NodeState) → AsTo key old new → IsServing old → IsServing new
still_serving key old new same serving = record { ready = ap (λ (n : NodeState). n.ready) same.rest ∙ serving.ready; alone = ap (λ (n : NodeState). n.managers) same.rest ∙ serving.alone }

-- one node has moved
module _ (w : WorldState) (a : Accepted) (id : NodeId) (key : List ℕ) (node : NodeState) (there : process_at id w.processes ≡ Some (alive node)) (serving : IsServing node) where
  moved : (at : NodeId) (old new : NodeState) → process_at at w.processes ≡ Some (alive old) → put_process at (alive new) w.processes ≡ a.world.processes →
      (at ≡ id → IsServing old → AsTo key old new) → Runs a.world id key node
  moved at old new found made as_to = by_test (eqb at.0 id.0) refl
    where
      here : at ≡ id → Runs a.world id key node
      here same =
          let is : old ≡ node = same_node old node (sym found ∙ (ap (λ (n : NodeId). process_at n w.processes) same ∙ there)) in
          let so : AsTo key old new = as_to same (subst IsServing (sym is) serving) in
          let done : AsTo key node new = subst (λ (n : NodeState). AsTo key n new) is so in
          record {
            node = new;
            runs = ap (λ (ps : Processes). process_at id ps) (sym made) ∙ (ap (λ (n : NodeId). process_at n (put_process at (alive new) w.processes)) (sym same) ∙ put_same at (alive new) w.processes);
            serving = still_serving key node new done serving;
            same = done;
          }

      by_test : (b : Bool) → eqb at.0 id.0 ≡ b → Runs a.world id key node
      by_test true e = here (same_number at id (eqb-true at.0 id.0 e))
      by_test false e = record {
        node = node;
        runs = ap (λ (ps : Processes). process_at id ps) (sym made) ∙ (put_other id at (alive new) w.processes (λ s. eqb-false at.0 id.0 e (ap (λ (n : NodeId). n.0) (sym s))) ∙ there);
        serving = serving;
        same = as_to_itself key node;
      }

made_by : (w : WorldState) (a : Accepted) (made : Processes) (r : Result Accepted Refused) → processes_in r ≡ made → r ≡ Ok a → made ≡ a.world.processes
unfolding processes_in
made_by w a made r is e = sym is ∙ ap processes_in e

some_key : (k key : List ℕ) → k ≢ key → Some k ≢ Some key
some_key k key ne e = ne (key_of_some e)
  where
    key_or : Option (List ℕ) → List ℕ
    key_or None = []
    key_or (Some x) = x

    key_of_some : Some k ≡ Some key → k ≡ key
    key_of_some e = ap key_or e

one_of : {P : Type 0} (at id : NodeId) → at ≡ id → (at ≢ id) ⊎ P → P
one_of at id e (inl ne) = absurd (ne e)
one_of at id e (inr p) = p

pub events_keep_aside : OthersStay → EventsKeepAside
unfolding processes_in
events_keep_aside others w (Call at k op) a id key node e aside there serving =
    live_step (Runs a.world id key node) w a at (calls_at w at k op) (λ x found is.
    moved w a id key node there serving at x (called x (record { 0 = w.calls + 1 }) k op).node found (ap processes_in is)
    (λ same r. others x (NodeEvent.Call (record { 0 = w.calls + 1 }) k op) key r tt (by_aside aside same))) e
  where
    by_aside : (op ≡ Read) ⊎ ((at ≢ id) ⊎ (k ≢ key)) → at ≡ id → (op ≡ Read) ⊎ (Some k ≢ Some key)
    by_aside (inl read) same = inl read
    by_aside (inr far) same = inr (some_key k key (one_of at id same far))
events_keep_aside others w (Take number) a id key node e aside there serving = by_letter (numbered number w.letters) refl aside e
  where
    by_letter : (o : Option Letter) → numbered number w.letters ≡ o → LetterIsAside o id key → takes w o ≡ Ok a → Runs a.world id key node
    by_letter None numbers aside e = absurd aside
    by_letter (Some l) numbers (to, is_to, far) e =
        takes_step (Runs a.world id key node) w a l to is_to (Some l) refl (λ x found is.
        moved w a id key node there serving to x (receives x l).node found (ap processes_in is)
        (λ same r. others x (NodeEvent.Receive l) key r tt (inr (one_of to id same far)))) e
events_keep_aside others w (Resend at k) a id key node e aside there serving =
    live_step (Runs a.world id key node) w a at (λ x. acts w at x (resent x k)) (λ x found is.
    moved w a id key node there serving at x (resent x k).node found (ap processes_in is)
    (λ same r. others x (NodeEvent.Resend k) key r tt (inr (some_key k key (one_of at id same aside))))) e
events_keep_aside others w (Replay at k) a id key node e aside there serving =
    live_step (Runs a.world id key node) w a at (λ x. acts w at x (replayed x k)) (λ x found is.
    moved w a id key node there serving at x (replayed x k).node found (ap processes_in is)
    (λ same r. others x (NodeEvent.Replay k) key r tt (inr (some_key k key (one_of at id same aside))))) e
events_keep_aside others w event a id key node e aside there serving = absurd aside

pub asides_keep_reads : ReadsAreOfTheRow → EventsKeepAside → AsidesKeepReads
asides_keep_reads of keep w last [] id key node all there serving = (node, ap (λ (v : WorldState). process_at id v.processes) all ∙ there, serving, refl)
asides_keep_reads of keep w last (event ∷ events) id key node (a, accepted, aside, rest) there serving =
    let one : Runs a.world id key node = keep w event a id key node accepted aside there serving in
    let more : (later : NodeState) × (process_at id last.processes ≡ Some (alive later)) × IsServing later × (read_answer later key ≡ read_answer one.node key) =
    asides_keep_reads of keep a.world last events id key one.node rest one.runs one.serving in
    (more.0, more.1, more.2, more.3 ∙ of key node one.node one.same)
