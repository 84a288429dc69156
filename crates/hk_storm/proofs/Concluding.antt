-- Runs that are put together are runs, and what they come to.
use Rattle.std.proofs.Common.{◌≡◌, ℕ, zero, suc, ◌+◌, ◌<◌, ◌≤◌, Bool, true, false, not, IsTrue, List, [], ◌∷◌, ◌++◌, length, take, drop, get_or, Ok, Err, sym, ap, subst, ◌∙◌, arith}
use Rattle.std.proofs.lemmas.List.{take-append-drop}
use Rattle.std.proofs.lemmas.Bool.{false≢true}
use Rattle.hk_base.specs.declared.stamp.NodeId.{NodeId}
use Rattle.hk_base.specs.declared.letter.Letter.{Letter}
use Rattle.hk_node.specs.declared.event.NodeEvent.{NodeEvent}
use Rattle.hk_node.specs.declared.event.NodeEvent.TheVariants as NodeEvent
use Rattle.hk_event.specs.declared.event.Header.{Header}
use Rattle.hk_event.specs.declared.event.Event.{Event}
use Rattle.hk_world.specs.declared.shown.Shown.{Shown}
use Rattle.hk_world.specs.World.{WorldState}
use Rattle.hk_world.specs.Start.{start}
use Rattle.hk_world.specs.Sound.{IsHeader, IsEvent}
use Rattle.hk_safety.specs.Run.{RunState, IsRun, AreAccepted, RunsAreLegal}
use Rattle.hk_merge.specs.Merged.{Item, Step, LocalRead, IsOf, IsEventOf, tickets_after, Goes}
use Rattle.hk_assemble.specs.declared.gap.Gap.{Gap}
use Rattle.hk_assemble.specs.declared.gap.Gap.TheVariants as Gap
use Rattle.hk_assemble.specs.Assembled.{IsAssembled}
use Rattle.hk_script.specs.Drawn.{group_of}
use Rattle.hk_storm.specs.declared.groups.StormGroup.{StormGroup}
use Rattle.hk_storm.specs.Storm.{IsGroup, AreGroups}
use Rattle.hk_storm.specs.Concluded.{AreAssembled, IsFirstUnfit, EachRun, EachLegal}
use Rattle.hk_storm.proofs.Lists.{one_more, split_at}

-- ---- what is followed may happen
event_of_ok : (node : NodeId) (letters : List Letter) (tickets : List ℕ) (ticket : ℕ) (e : NodeEvent) (event : Event) → IsEventOf letters tickets node ticket e event → IsEvent event
event_of_ok node letters tickets ticket (NodeEvent.Call call key op) event is = subst IsEvent (sym is) tt
event_of_ok node letters tickets ticket (NodeEvent.Receive letter) event is = subst IsEvent (sym is.1) tt
event_of_ok node letters tickets ticket (NodeEvent.Resend key) event is = subst IsEvent (sym is) tt
event_of_ok node letters tickets ticket (NodeEvent.Replay key) event is = subst IsEvent (sym is) tt
event_of_ok node letters tickets ticket e event is = absurd is

item_ok : (item : Item) (letters : List Letter) (tickets : List ℕ) (event : Event) (shown : Shown) → IsOf item letters tickets event shown → IsEvent event
item_ok (Step node entry) letters tickets event shown is = event_of_ok node letters tickets entry.ticket entry.event event is.0
item_ok (LocalRead listed note) letters tickets event shown is = subst IsEvent (sym is) tt

goes_accepted : (world : WorldState) (tickets : List ℕ) (items : List Item) (events : List Event) (last : WorldState) → Goes world tickets items events last → AreAccepted world events
goes_accepted world tickets [] [] last goes = tt
goes_accepted world tickets (item ∷ items) (event ∷ events) last (a, made, is, rest) =
    (item_ok item world.letters tickets event a.shown is, a, made, goes_accepted a.world (tickets_after tickets item) items events last rest)
goes_accepted world tickets [] (event ∷ events) last goes = absurd goes
goes_accepted world tickets (item ∷ items) [] last goes = absurd goes

assembled_run : (header : Header) (group : StormGroup) (run : RunState) → IsHeader header → IsAssembled (Ok run) header group.journals group.notes → IsRun run
assembled_run header group run ok (items, merged, is) = record {
  header = subst IsHeader (sym is.same) ok;
  accepted = subst (λ (h : Header). AreAccepted (start h) run.events) (sym is.same) (goes_accepted (start header) [] items run.events _ is.goes);
}

pub are_runs : (header : Header) (groups : List StormGroup) (runs : List RunState) → IsHeader header → AreAssembled header groups runs → EachRun runs
are_runs header [] [] ok came = tt
are_runs header (group ∷ groups) (run ∷ runs) ok came = (assembled_run header group run ok came.0, are_runs header groups runs ok came.1)
are_runs header [] (run ∷ runs) ok came = absurd came
are_runs header (group ∷ groups) [] ok came = absurd came

pub are_legal : RunsAreLegal → (runs : List RunState) → EachRun runs → EachLegal runs
are_legal legal [] each = tt
are_legal legal (run ∷ runs) each = (legal run each.0, are_legal legal runs each.1)

pub group_header : (nodes : ℕ) → 1 ≤ nodes → nodes ≤ 8 → IsHeader (group_of nodes)
group_header nodes some few = record { some = some; few = omega (arith, few); managers = omega arith; lease = omega arith; skew = omega arith }

-- ---- group by group
pub never_both : (b : Bool) → IsTrue b → not b ≡ true → ⊥
never_both true is none = absurd (false≢true none)
never_both false is none = absurd (false≢true is)

pub group_at : (nodes : ℕ) (groups : List StormGroup) (i : ℕ) (group : StormGroup) → i < length groups → group ≡ get_or groups i group → AreGroups nodes groups → IsGroup nodes group
group_at nodes [] i group within is all = absurd (omega (arith, within))
group_at nodes (g ∷ groups) zero group within is all = subst (IsGroup nodes) (sym is) all.0
group_at nodes (g ∷ groups) (suc i) group within is all = group_at nodes groups i group (omega (arith, within)) is all.1

assembled_more : (header : Header) (groups : List StormGroup) (runs : List RunState) (group : StormGroup) (run : RunState) → AreAssembled header groups runs → IsAssembled (Ok run) header group.journals group.notes → AreAssembled header (groups ++ group ∷ []) (runs ++ run ∷ [])
assembled_more header [] [] group run came one = (one, tt)
assembled_more header (g ∷ groups) (r ∷ runs) group run came one = (came.0, assembled_more header groups runs group run came.1 one)
assembled_more header [] (r ∷ runs) group run came one = absurd came
assembled_more header (g ∷ groups) [] group run came one = absurd came

module _ (header : Header) (groups : List StormGroup) (i : ℕ) (group : StormGroup) (runs : List RunState) (within : i < length groups) (is : group ≡ get_or groups i group) (came : AreAssembled header (take i groups) runs) where
  pub came_more : (run : RunState) → IsAssembled (Ok run) header group.journals group.notes → AreAssembled header (take (i + 1) groups) (runs ++ run ∷ [])
  came_more run one = subst (λ (l : List StormGroup). AreAssembled header l (runs ++ run ∷ [])) (sym (one_more groups i group within is)) (assembled_more header (take i groups) runs group run came one)

  -- that memory was wanting behind it tells nothing
  pub first_wanting : (run : RunState) → IsAssembled (Ok run) header group.journals group.notes → IsFirstUnfit header groups Gap.Memory
  first_wanting run (items, merged, one) = record {
    front = take i groups;
    group = group;
    back = drop (i + 1) groups;
    split = sym (take-append-drop i groups) ∙ ap (λ (l : List StormGroup). take i groups ++ l) (split_at groups i group within is);
    runs = runs;
    came = came;
    told = (items, merged, tt);
  }

  pub first_unfit : (gap : Gap) → IsAssembled (Err gap) header group.journals group.notes → IsFirstUnfit header groups gap
  first_unfit gap told = record {
    front = take i groups;
    group = group;
    back = drop (i + 1) groups;
    split = sym (take-append-drop i groups) ∙ ap (λ (l : List StormGroup). take i groups ++ l) (split_at groups i group within is);
    runs = runs;
    came = came;
    told = told;
  }
