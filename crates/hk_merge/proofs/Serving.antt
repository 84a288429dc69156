-- Nodes serve on, and what happens at them is accepted.
use Rattle.std.proofs.Common.{◌≡◌, ◌≢◌, ◌⊎◌, ◌<◌, ◌≤◌, ◌+◌, ℕ, zero, suc, List, [], ◌∷◌, map, length, cond, Option, Some, None, Result, Ok, refl, sym, ap, subst, ◌∙◌, inl, inr, arith, Ordering, Less, Equal, Greater}
use Rattle.std.specs.Ordering.{is_eq}
use Rattle.std.specs.BTreeMap.{is_at}
use Rattle.std.specs.Map.{lookup}
use Rattle.hk_base.specs.declared.stamp.NodeId.{NodeId}
use Rattle.hk_base.specs.declared.letter.Actor.{Actor}
use Rattle.hk_base.specs.declared.letter.Actor.TheVariants.{Node}
use Rattle.hk_base.specs.declared.letter.Letter.{Letter}
use Rattle.hk_manager.specs.declared.event.ManagerEvent.TheVariants as ManagerEvent
use Rattle.hk_manager.specs.Steps.{manager_step}
use Rattle.hk_node.specs.declared.event.NodeEvent.{NodeEvent}
use Rattle.hk_node.specs.declared.event.NodeEvent.TheVariants as NodeEvent
use Rattle.hk_node.specs.Laws.{key_in}
use Rattle.hk_node.specs.Made.{founder}
use Rattle.hk_node.specs.Steps.{receives, resent, replayed}
use Rattle.hk_event.specs.declared.event.Event.{Event}
use Rattle.hk_event.specs.declared.event.Event.TheVariants.{Call, Take, Resend, Replay}
use Rattle.hk_world.specs.declared.process.Process.{Process}
use Rattle.hk_world.specs.declared.shown.Shown.{Shown}
use Rattle.hk_world.specs.World.{WorldState, by_number, process_at, numbered}
use Rattle.hk_base.specs.View.{counted}
use Rattle.hk_world.specs.Start.{founding_view, founding_process}
use Rattle.hk_world.specs.Steps.{Accepted, live, live_at, live_actor, takes, acts, manager_acts, calls_at, world_step}
use Rattle.hk_merge.specs.Aside.{LetterIsAside, IsAside, Runs, EventsKeepAside}
use Rattle.hk_merge.specs.Merged.{Item, Step, LocalRead, IsEventOf, IsOf, tickets_after, Goes}
use Rattle.hk_merge.specs.Serving.{Serves, IsTo, ServingStays, FoundersServe, MergedAreAccepted}
use Rattle.hk_merge.proofs.Asides.{equal_numbers}

-- ---- a key that is not named
is_other_key : (key : List ℕ) → key ≢ 0 ∷ key
is_other_key key e = longer (length key) (ap (λ (k : List ℕ). length k) e)
  where
    longer : (n : ℕ) → n ≡ suc n → ⊥
    longer n e = omega (arith, e)

abbrev key_or : Option (List ℕ) → List ℕ
key_or None = []
key_or (Some key) = key

unnamed : (o : Option (List ℕ)) → (key : List ℕ) × (o ≢ Some key)
unnamed None = ([], λ e. cc)
unnamed (Some key) = (0 ∷ key, λ e. is_other_key key (same e))
  where
    same : Some key ≡ Some (0 ∷ key) → key ≡ 0 ∷ key
    same e = ap key_or e

-- each event of a merged run is aside of some key
AsideOfSome : WorldState → NodeId → Event → Type 0
AsideOfSome w id event = (key : List ℕ) × IsAside w id key event

event_is_aside : (w : WorldState) (tickets : List ℕ) (id n : NodeId) (ticket : ℕ) (made : NodeEvent) (event : Event) → IsEventOf w.letters tickets n ticket made event → AsideOfSome w id event
unfolding AsideOfSome
event_is_aside w tickets id n ticket (NodeEvent.Call call k op) event is = (0 ∷ k, subst (λ (e : Event). IsAside w id (0 ∷ k) e) (sym is) (inr (inr (is_other_key k))))
event_is_aside w tickets id n ticket (NodeEvent.Receive l) event (number, is, first, to) =
    let u = unnamed (key_in l.body) in
    (u.0, subst (λ (e : Event). IsAside w id u.0 e) (sym is) (subst (λ (o : Option Letter). LetterIsAside o id u.0) (sym first.there) (n, to, inr u.1)))
event_is_aside w tickets id n ticket (NodeEvent.Resend k) event is = (0 ∷ k, subst (λ (e : Event). IsAside w id (0 ∷ k) e) (sym is) (inr (is_other_key k)))
event_is_aside w tickets id n ticket (NodeEvent.Replay k) event is = (0 ∷ k, subst (λ (e : Event). IsAside w id (0 ∷ k) e) (sym is) (inr (is_other_key k)))
event_is_aside w tickets id n ticket made event is = absurd is

item_is_aside : (w : WorldState) (tickets : List ℕ) (id : NodeId) (item : Item) (event : Event) (shown : Shown) → IsOf item w.letters tickets event shown → AsideOfSome w id event
unfolding AsideOfSome
item_is_aside w tickets id (Step n entry) event shown (is, l, r) = event_is_aside w tickets id n entry.ticket entry.event event is
item_is_aside w tickets id (LocalRead listed note) event shown is = (0 ∷ note.key, subst (λ (e : Event). IsAside w id (0 ∷ note.key) e) (sym is) (inl refl))

stays : EventsKeepAside → (w : WorldState) (event : Event) (a : Accepted) (id : NodeId) → AsideOfSome w id event → world_step w event ≡ Ok a → Serves w id → Serves a.world id
unfolding AsideOfSome
stays keep w event a id chosen accepted up =
    let one : Runs a.world id chosen.0 up.node = keep w event a id chosen.0 up.node accepted chosen.1 up.runs up.serving in
    record { node = one.node; runs = one.runs; serving = one.serving }

pub serving_stays : EventsKeepAside → ServingStays
serving_stays keep w last tickets [] [] id goes up = subst (λ (v : WorldState). Serves v id) (sym goes) up
serving_stays keep w last tickets (item ∷ items) (event ∷ events) id (a, accepted, is, goes) up =
    serving_stays keep a.world last (tickets_after tickets item) items events id goes (stays keep w event a id (item_is_aside w tickets id item event a.shown is) accepted up)
serving_stays keep w last tickets [] (event ∷ events) id goes up = absurd goes
serving_stays keep w last tickets (item ∷ items) [] id goes up = absurd goes

-- ---- what happens at a node that serves
module _ (w : WorldState) (id : NodeId) (up : Serves w id) where
  live_is : (at : NodeId) → at ≡ id → (step : _ → Result Accepted _) → live w at step ≡ step up.node
  live_is at same step = ap (λ (n : NodeId). live_at (process_at n w.processes) step) same ∙ ap (λ (o : Option Process). live_at o step) up.runs

  taken : (o : Option Letter) → IsTo o id → (a : Accepted) × (takes w o ≡ Ok a)
  taken None to = absurd to
  taken (Some letter) to = (
    _,
    ap (λ (actor : Actor). live_actor w actor (λ n node. acts w n node (receives node letter)) (λ m manager. manager_acts w m (manager_step manager (ManagerEvent.Receive letter)))) to
        ∙ live_is id refl (λ node. acts w id node (receives node letter)),
  )

pub merged_are_accepted : MergedAreAccepted
merged_are_accepted w id (Call at k op) up same = (_, live_is w id up at same (calls_at w at k op))
merged_are_accepted w id (Take number) up to = taken w id up (numbered number w.letters) to
merged_are_accepted w id (Resend at k) up same = (_, live_is w id up at same (λ node. acts w at node (resent node k)))
merged_are_accepted w id (Replay at k) up same = (_, live_is w id up at same (λ node. acts w at node (replayed node k)))
merged_are_accepted w id event up at = absurd at

-- ---- founders
found_from : (f : NodeId → Process) (id : NodeId) (n k : ℕ) → n ≤ id.0 → id.0 < n + k → lookup (is_at (by_number id)) (map (λ (i : NodeId). (i, f i)) (counted n k)) ≡ Some (f id)
found_from f id n zero low high = absurd (omega (arith, low, high))
found_from f id n (suc k) low high = by_order (by_number id (record { 0 = n })) refl (λ more. found_from f id (n + 1) k more (omega (arith, high)))
  where
    by_order : (o : Ordering) → by_number id (record { 0 = n }) ≡ o → (n + 1 ≤ id.0 → lookup (is_at (by_number id)) (map (λ (i : NodeId). (i, f i)) (counted (n + 1) k)) ≡ Some (f id)) →
        cond (is_eq o) (Some (f (record { 0 = n }))) (lookup (is_at (by_number id)) (map (λ (i : NodeId). (i, f i)) (counted (n + 1) k))) ≡ Some (f id)
    by_order Equal is more = ap (λ (i : NodeId). Some (f i)) (sym (equal_numbers id (record { 0 = n }) is))
    by_order Less is more = more (grind arith)
    by_order Greater is more = more (grind arith)

pub founders_serve : FoundersServe
founders_serve h id none within = record {
  node = founder id (founding_view h) h.lease h.skew h.managers;
  runs = found_from (λ i. founding_process h i) id 0 h.nodes (omega arith) (omega (arith, within));
  serving = record { ready = refl; alone = none };
}
