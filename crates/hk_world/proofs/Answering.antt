-- What the step of a live node makes of its world.
use Rattle.std.proofs.Common.{◌≡◌, ◌+◌, ◌++◌, ℕ, Bool, true, false, not, List, Option, Some, None, Result, Ok, Err, refl, sym, ap, subst, ◌∙◌}
use Rattle.std.specs.Result.{IsErrAnd}
use Rattle.std.specs.List.Sorted.{IsStrictlySortedBy}
use Rattle.std.proofs.lemmas.Bool.{not-true, not-false}
use Rattle.std.specs.BTreeMap.{is_at}
use Rattle.std.specs.Map.{keys_of, set_value}
use Rattle.std.proofs.lemmas.Map.Steps.{set_value_same}
use Rattle.hk_base.specs.declared.stamp.NodeId.{NodeId}
use Rattle.hk_base.specs.declared.call.CallNo.{CallNo}
use Rattle.hk_base.specs.declared.call.Op.{Op}
use Rattle.hk_base.specs.declared.call.Reply.{Reply}
use Rattle.hk_base.specs.declared.letter.Letter.{Letter}
use Rattle.hk_node.specs.declared.event.NodeEvent.{NodeEvent}
use Rattle.hk_node.specs.declared.event.NodeEvent.TheVariants.{Call}
use Rattle.hk_node.specs.declared.out.NodeOut.{NodeOut}
use Rattle.hk_node.specs.declared.report.Report.{Report}
use Rattle.hk_node.specs.Node.{NodeState}
use Rattle.hk_node.specs.Stepped.{Stepped, replies_of}
use Rattle.hk_node.specs.Steps.{node_step}
use Rattle.hk_node.specs.Outs.{IsOutOf}
use Rattle.hk_node.specs.Report.{rolled_back}
use Rattle.hk_world.specs.declared.process.Process.{Process}
use Rattle.hk_world.specs.declared.shown.Shown.{Shown}
use Rattle.hk_event.specs.declared.refused.Refused.{Refused}
use Rattle.hk_event.specs.declared.refused.Refused.TheVariants.{Crashed}
use Rattle.hk_world.specs.declared.fault.WorldFault.{WorldFault}
use Rattle.hk_world.specs.declared.fault.WorldFault.TheVariants as WorldFault
use Rattle.hk_world.specs.World.{WorldState, Processes, by_number, process_at, put_process}
use Rattle.hk_world.specs.Steps.{Accepted, live, live_at, running_at, with_step, shown_of, acts_for, calls_at, view_of, installer_of, first_number}
use Rattle.hk_world.specs.Sound.{IsAnswerOf}
use Rattle.hk_world.specs.Acting.{made_by, counting}
use Rattle.hk_world.specs.Posted.{posted}
use Rattle.hk_world.proofs.Processes.{set_is_put}

-- ---- refusals and want of memory
pub wanting : (r : Result Shown WorldFault) (old new : WorldState) (made : Result Accepted Refused) → IsErrAnd r (λ e. e ≡ WorldFault.Memory) → new ≡ old → IsAnswerOf r old new made
wanting (Ok shown) old new made err same = absurd err
wanting (Err WorldFault.Memory) old new made err same = same
wanting (Err (WorldFault.Refused refused)) old new made err same = absurd cc

pub live_is : (w : WorldState) (id : NodeId) (p : Process) (step : NodeState → Result Accepted Refused) → process_at id w.processes ≡ Some p → live w id step ≡ running_at p.crashed p.node step
live_is w id p step found = ap (λ (o : Option Process). live_at o step) found

pub crashed_is : (w old : WorldState) (id : NodeId) (p : Process) (step : WorldState → NodeState → Result Accepted Refused) → w ≡ old → process_at id w.processes ≡ Some p → p.crashed ≡ true → live old id (step old) ≡ Err Crashed
crashed_is w old id p step same found crashed = subst (λ (o : WorldState). live o id (step o) ≡ Err Crashed) same (live_is w id p (step w) found ∙ ap (λ (b : Bool). running_at b p.node (step w)) crashed)

pub runs_is : (w old : WorldState) (id : NodeId) (p : Process) (step : WorldState → NodeState → Result Accepted Refused) → w ≡ old → process_at id w.processes ≡ Some p → p.crashed ≡ false → live old id (step old) ≡ step w p.node
runs_is w old id p step same found live_now = subst (λ (o : WorldState). live o id (step o) ≡ step w p.node) same (live_is w id p (step w) found ∙ ap (λ (b : Bool). running_at b p.node (step w)) live_now)

pub stopped_from : (crashed told : Bool) → told ≡ not crashed → told ≡ false → crashed ≡ true
stopped_from crashed told is no_more = not-false crashed (sym is ∙ no_more)

pub running_from : (crashed told : Bool) → told ≡ not crashed → told ≡ true → crashed ≡ false
running_from crashed told is so = not-true crashed (sym is ∙ so)

abbrev world_with : WorldState → Processes → List Letter → ℕ → WorldState
world_with w processes letters calls = record { skew = w.skew; lease = w.lease; processes = processes; managers = w.managers; paces = w.paces; letters = letters; views = w.views; calls = calls }

abbrev process_with : Bool → NodeState → Process
process_with crashed node = record { node = node; crashed = crashed }

-- the process put back as it was
pub stays : (w : WorldState) (id : NodeId) (p : Process) (node : NodeState) (entries : Processes) (letters : List Letter) → process_at id w.processes ≡ Some p → node ≡ p.node →
    entries ≡ set_value (is_at (by_number id)) w.processes (record { node = node; crashed = p.crashed }) → letters ≡ w.letters → world_with w entries letters w.calls ≡ w
stays w id p node entries letters found same put sent =
    let back : entries ≡ w.processes = put ∙ ap (λ (n : NodeState). set_value (is_at (by_number id)) w.processes (process_with p.crashed n)) same ∙ set_value_same (is_at (by_number id)) w.processes p found in
    ap (λ (es : Processes). world_with w es letters w.calls) back ∙ ap (λ (ls : List Letter). world_with w w.processes ls w.calls) sent

pub taken_back : (out : NodeOut) (old : NodeState) (stepped : Stepped) (after node : NodeState) → IsOutOf out old stepped → after ≡ stepped.node → node ≡ rolled_back out.report.rows out.undo after → node ≡ old
taken_back out old stepped after node told made undone = undone ∙ ap (λ (n : NodeState). rolled_back out.report.rows out.undo n) made ∙ told.undone

-- ---- an accepted step
abbrev shown_with : Option CallNo → NodeId → List Letter → NodeState → Option ℕ → List Letter → List Reply → Report → Shown
shown_with call id sent node installed letters replies reports = record {
  call = call;
  view = view_of installed node;
  chosen = None;
  installed = installer_of installed id;
  first_letter = first_number sent letters;
  letters = letters;
  replies = replies;
  acted = Some (record { node = id; report = reports });
}

posted_is : (w : WorldState) (id : NodeId) (old after : NodeState) (out : NodeOut) (stepped : Stepped) (call : Option CallNo) → IsOutOf out old stepped → after ≡ stepped.node → posted w.letters id after out call ≡ shown_of w id old stepped call
posted_is w id old after out stepped call told made =
    ap (λ (n : NodeState). shown_with call id w.letters n out.installed out.letters out.replies out.report) made
    ∙ ap (λ (i : Option ℕ). shown_with call id w.letters stepped.node i out.letters out.replies out.report) told.installed
    ∙ ap (λ (l : List Letter). shown_with call id w.letters stepped.node stepped.installed l out.replies out.report) told.letters
    ∙ ap (λ (r : List Reply). shown_with call id w.letters stepped.node stepped.installed stepped.letters r out.report) told.replies
    ∙ ap (λ (r : Report). shown_with call id w.letters stepped.node stepped.installed stepped.letters (replies_of stepped) r) told.reported

-- what the code's step came to
pub record Went (w : WorldState) (event : NodeEvent) (id : NodeId) (p : Process) (out : NodeOut) (mid after : NodeState) (entries : Processes) (letters : List Letter) (call : Option CallNo) (shown : Shown) : Type 0 where
  pub found : process_at id w.processes ≡ Some p
  pub live_now : p.crashed ≡ false
  pub sorted : IsStrictlySortedBy by_number (keys_of w.processes)
  pub told : IsOutOf out p.node (node_step p.node event)
  pub made : mid ≡ (node_step p.node event).node
  pub kept : after ≡ mid
  pub put : entries ≡ set_value (is_at (by_number id)) w.processes (record { node = after; crashed = p.crashed })
  pub sent : letters ≡ w.letters ++ out.letters
  pub shows : shown ≡ posted w.letters id mid out call

module _ (w : WorldState) (event : NodeEvent) (id : NodeId) (p : Process) (out : NodeOut) (mid after : NodeState) (entries : Processes) (letters : List Letter) (call : Option CallNo) (shown : Shown)
    (went : Went w event id p out mid after entries letters call shown) where
  abbrev stepped : Stepped
  stepped = node_step p.node event

  entries_are : entries ≡ put_process id (process_with false stepped.node) w.processes
  entries_are = went.put ∙ ap (λ (n : NodeState). set_value (is_at (by_number id)) w.processes (process_with p.crashed n)) (went.kept ∙ went.made)
      ∙ ap (λ (b : Bool). set_value (is_at (by_number id)) w.processes (process_with b stepped.node)) went.live_now
      ∙ set_is_put id (process_with false stepped.node) p w.processes went.sorted went.found

  letters_are : letters ≡ w.letters ++ stepped.letters
  letters_are = went.sent ∙ ap (λ (l : List Letter). w.letters ++ l) went.told.letters

  pub went_world : world_with w entries letters w.calls ≡ with_step w id stepped
  went_world = ap (λ (es : Processes). world_with w es letters w.calls) entries_are
      ∙ ap (λ (ls : List Letter). world_with w (put_process id (process_with false stepped.node) w.processes) ls w.calls) letters_are

  abbrev told_with : WorldState → Shown → Result Accepted Refused
  told_with world shown = Ok (record { world = world; told = stepped.told; shown = shown })

  pub went_answer : (old : WorldState) → w ≡ old → IsAnswerOf (Ok shown) old (world_with w entries letters w.calls) (made_by old id call event)
  went_answer old same = (
    stepped.told,
    runs_is w old id p (λ (o : WorldState) (node : NodeState). Ok (acts_for o id call node (node_step node event))) same went.found went.live_now
        ∙ ap (λ (x : WorldState). told_with x (shown_of w id p.node stepped call)) (sym went_world)
        ∙ ap (λ (s : Shown). told_with (world_with w entries letters w.calls) s) (sym (went.shows ∙ posted_is w id p.node mid out stepped call went.told went.made)),
  )

-- ---- a call is counted
pub counted : (r : Result Shown WorldFault) (old mid new : WorldState) (calls : ℕ) (made : Result Accepted Refused) (shown : Shown) → r ≡ Ok shown → new ≡ record mid { calls = calls } →
    IsAnswerOf r old mid made → IsAnswerOf (Ok shown) old new (counting calls made)
counted r old mid new calls made shown is then answer =
    let told = subst (λ (q : Result Shown WorldFault). IsAnswerOf q old mid made) is answer in
    (told.0, ap (counting calls) told.1 ∙ ap (λ (w : WorldState). Ok (record { world = w; told = told.0; shown = shown })) (sym then))

pub uncounted : (r : Result Shown WorldFault) (old mid : WorldState) (calls : ℕ) (made : Result Accepted Refused) (fault : WorldFault) → r ≡ Err fault → IsAnswerOf r old mid made → IsAnswerOf (Err fault) old mid (counting calls made)
uncounted r old mid calls made fault is answer = by_fault fault (subst (λ (q : Result Shown WorldFault). IsAnswerOf q old mid made) is answer)
  where
    by_fault : (f : WorldFault) → IsAnswerOf (Err f) old mid made → IsAnswerOf (Err f) old mid (counting calls made)
    by_fault WorldFault.Memory told = told
    by_fault (WorldFault.Refused refused) told = (ap (counting calls) told.0, told.1)

abbrev calling : WorldState → NodeId → List ℕ → Op → NodeState → Result Accepted Refused
calling w id key op node = Ok (acts_for w id (Some (record { 0 = w.calls + 1 })) node (node_step node (Call (record { 0 = w.calls + 1 }) key op)))

pub calls_is : (w : WorldState) (id : NodeId) (key : List ℕ) (op : Op) (next : ℕ) (event : NodeEvent) → next ≡ w.calls + 1 → event ≡ Call (record { 0 = next }) key op →
    live w id (calls_at w id key op) ≡ counting next (made_by w id (Some (record { 0 = next })) event)
calls_is w id key op next event is made = by_process (process_at id w.processes)
    ∙ ap (λ (n : ℕ). counting n (made_by w id (Some (record { 0 = n })) (Call (record { 0 = n }) key op))) (sym is)
    ∙ ap (λ (e : NodeEvent). counting next (made_by w id (Some (record { 0 = next })) e)) (sym made)
  where
    by_crashed : (b : Bool) (node : NodeState) → running_at b node (calls_at w id key op) ≡ counting (w.calls + 1) (running_at b node (calling w id key op))
    by_crashed true node = refl
    by_crashed false node = refl

    by_process : (o : Option Process) → live_at o (calls_at w id key op) ≡ counting (w.calls + 1) (live_at o (calling w id key op))
    by_process None = refl
    by_process (Some p) = by_crashed p.crashed p.node

-- ---- an event that is another node's event
pub answer_as : (r : Result Shown WorldFault) (old new : WorldState) (made told : Result Accepted Refused) → told ≡ made → IsAnswerOf r old new made → IsAnswerOf r old new told
answer_as r old new made told is answer = subst (λ (m : Result Accepted Refused). IsAnswerOf r old new m) (sym is) answer
