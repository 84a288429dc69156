-- Managers that grant leases and let views begin, nodes that keep their ends and install views, and the clocks of all.
use Rattle.std.specs.Prelude.{◌≡◌, ◌⊎◌, ◌+◌, ◌*◌, ◌<◌, ◌≤◌, ℕ, zero, suc, List, [], ◌∷◌, ◌++◌, Bool, true, false, nat_lt, ◌==◌, ◌&&◌, if◌then◌else◌, max, min, Ok, ⊤}
use Rattle.hk_base.specs.declared.stamp.NodeId.{NodeId}
use Rattle.hk_base.specs.declared.view.View.{View}
use Rattle.hk_base.specs.declared.letter.Actor.{Actor}
use Rattle.hk_base.specs.declared.letter.Actor.TheVariants.{Node, Manager}
use Rattle.hk_base.specs.declared.time.TheConstants.{MAX_TIME}
use Rattle.hk_lease.specs.Wait.{wait}
use Rattle.hk_lease.specs.Grants.{with_grant}
use Rattle.hk_lease.specs.Past.{past_answer}
use Rattle.hk_base.specs.View.{is_member}
use Rattle.hk_lease.specs.Ends.{granted_end}
use Rattle.hk_clocks.specs.Clocks.{ClockState}
use Rattle.hk_clocks.specs.Steps.{ClockEvent, clock_step}
use Rattle.hk_clocks.specs.Steps.ClockEvent.{Start, Stop, Tick, TickAll}
use Rattle.hk_clocks.specs.Runs.{IsEvent, no_clocks, made_or, after, seen}

-- The views on which the managers agreed, by their epochs, and the header. The nodes below `founders` are there from the start.
pub record Setting : Type 0 where
  pub views : ℕ → View
  pub managers : ℕ
  pub lease : ℕ
  pub skew : ℕ
  pub founders : ℕ

-- Letters, by kind. A letter is never taken away: one that is lost is not taken, and one may be taken again. The ACTIVATEs to the
-- members of a view stand as one.
pub record Ask : Type 0 where
  pub node : NodeId
  pub manager : ℕ
  pub asked : ℕ

pub record Give : Type 0 where
  pub manager : ℕ
  pub node : NodeId
  pub end : ℕ

pub record Activate : Type 0 where
  pub manager : ℕ
  pub epoch : ℕ

pub record State : Type 0 where
  pub clocks : ClockState
  -- the nodes that were ever started
  pub started : NodeId → Bool
  -- of a manager: the epoch of the view that it holds, and the greatest until that it noted for each node
  pub held : ℕ → ℕ
  pub untils : ℕ → List (NodeId × ℕ)
  pub asks : List Ask
  pub gives : List Give
  pub activates : List Activate
  -- of a node: the greatest end that came from each manager, its granted end, the epoch of the ACTIVATEs that it keeps, whose they are
  pub ends : NodeId → List ℕ
  pub granted : NodeId → ℕ
  pub heard_epoch : NodeId → ℕ
  pub heard : NodeId → ℕ → Bool
  -- the epochs of the views that any node has installed
  pub installed : List ℕ

pub data Event : Type 0 where
  Clock : (event : ClockEvent) → Event
  Learn : (manager epoch : ℕ) → Event
  AskLease : (node : NodeId) → (manager : ℕ) → Event
  TakeAsk : (ask : Ask) → Event
  TakeGive : (give : Give) → Event
  SendActivate : (manager : ℕ) → Event
  TakeActivate : (node : NodeId) → (activate : Activate) → Event
  Install : (node : NodeId) → Event

-- it stands in the list
abbrev pub In : {X : Type 0} → List X → X → Type 0
In [] x = ⊥
In (y ∷ ys) x = (x ≡ y) ⊎ In ys x

-- the function with another value at one manager, or at one node
abbrev pub put : {X : Type 0} → ℕ → X → (ℕ → X) → ℕ → X
put m x f k = if k == m then x else f k

abbrev pub put_node : {X : Type 0} → NodeId → X → (NodeId → X) → NodeId → X
put_node n x f k = if k.0 == n.0 then x else f k

-- how many of the first managers pass the test, and whether more than half do
abbrev pub count_managers : (ℕ → Bool) → ℕ → ℕ
count_managers test zero = 0
count_managers test (suc k) = if test 0 then 1 + count_managers (λ m. test (suc m)) k else count_managers (λ m. test (suc m)) k

abbrev pub IsMajority : ℕ → (ℕ → Bool) → Type 0
IsMajority managers test = managers < 2 * count_managers test managers

-- the greatest end of each manager
abbrev pub with_end : ℕ → ℕ → List ℕ → List ℕ
with_end m end [] = []
with_end zero end (x ∷ xs) = max x end ∷ xs
with_end (suc m) end (x ∷ xs) = x ∷ with_end m end xs

-- so many times
abbrev pub times : ℕ → ℕ → List ℕ
times zero x = []
times (suc k) x = x ∷ times k x

-- the greatest end that a manager granted a node, by the letters that it ever sent; founders have the lease's length
abbrev pub granted_by : (lease founders : ℕ) → List Give → ℕ → NodeId → ℕ
granted_by lease founders [] m n = if nat_lt n.0 founders then lease else 0
granted_by lease founders (give ∷ gives) m n =
    if (give.manager == m) && (give.node.0 == n.0) then max (granted_by lease founders gives m n) give.end else granted_by lease founders gives m n

abbrev pub is_live : State → Actor → Bool
is_live st a = (seen st.clocks).live a

abbrev pub clock : State → Actor → ℕ
clock st a = (seen st.clocks).clock a

abbrev pub started_after : ClockEvent → (NodeId → Bool) → NodeId → Bool
started_after (Start (Node n) now) started = put_node n true started
started_after (Start (Manager m) now) started = started
started_after (Stop a) started = started
started_after (Tick a to) started = started
started_after (TickAll to) started = started

-- a node starts once, and no manager starts later than the group
abbrev pub MayBegin : State → ClockEvent → Type 0
MayBegin st (Start (Node n) now) = (st.started n ≡ false) × (1 ≤ now)
MayBegin st (Start (Manager m) now) = ⊥
MayBegin st (Stop a) = ⊤
MayBegin st (Tick a to) = ⊤
MayBegin st (TickAll to) = ⊤

-- founders and managers, whose clocks start at 1
abbrev pub begin_nodes : ℕ → List ClockEvent
begin_nodes zero = []
begin_nodes (suc k) = Start (Node (record { 0 = k })) 1 ∷ begin_nodes k

abbrev pub begin_managers : ℕ → List ClockEvent
begin_managers zero = []
begin_managers (suc k) = Start (Manager k) 1 ∷ begin_managers k

-- the until of a first lease, noted for each of the first nodes
abbrev pub first_untils : ℕ → ℕ → List (NodeId × ℕ)
first_untils lease zero = []
first_untils lease (suc k) = with_grant (first_untils lease k) (record { 0 = k }) (wait lease)

module _ (s : Setting) where
  abbrev pub member : ℕ → NodeId → Bool
  member epoch n = is_member n (s.views epoch).members

  abbrev pub end_for : ℕ → ℕ
  end_for asked = min (asked + s.lease) MAX_TIME

  -- a node keeps the ACTIVATEs of the greatest epoch alone
  abbrev pub heard_with : State → NodeId → Activate → ℕ → Bool
  heard_with st n sent = if st.heard_epoch n == sent.epoch then put sent.manager true (st.heard n) else (λ m. m == sent.manager)

  abbrev pub next : State → Event → State
  next st (Clock event) = record st { clocks = made_or st.clocks (clock_step st.clocks event); started = started_after event st.started }
  next st (Learn m epoch) = record st { held = put m epoch st.held }
  next st (AskLease n m) = record st { asks = record { node = n; manager = m; asked = clock st (Node n) } ∷ st.asks }
  next st (TakeAsk ask) = record st {
    untils = put ask.manager (with_grant (st.untils ask.manager) ask.node (clock st (Manager ask.manager) + wait s.lease)) st.untils;
    gives = record { manager = ask.manager; node = ask.node; end = end_for ask.asked } ∷ st.gives;
  }
  next st (TakeGive give) =
      let ends : List ℕ = with_end give.manager give.end (st.ends give.node) in
      record st {
        ends = put_node give.node ends st.ends;
        granted = put_node give.node (max (st.granted give.node) (granted_end ends)) st.granted;
      }
  next st (SendActivate m) = record st { activates = record { manager = m; epoch = st.held m } ∷ st.activates }
  next st (TakeActivate n sent) = record st { heard_epoch = put_node n sent.epoch st.heard_epoch; heard = put_node n (heard_with st n sent) st.heard }
  next st (Install n) = record st { installed = st.heard_epoch n ∷ st.installed }

  -- Clocks rise as their rate lets them, and a refused event changes nothing. A manager learns views of rising epochs. It answers
  -- members of the view that it holds alone, and sends ACTIVATE for that view where its clock is past every until that it noted
  -- outside. Whatever a node is sent may come late, again, or never.
  abbrev pub MayHappen : State → Event → Type 0
  MayHappen st (Clock event) = IsEvent event × MayBegin st event
  MayHappen st (Learn m epoch) = (is_live st (Manager m) ≡ true) × (st.held m < epoch)
  MayHappen st (AskLease n m) = is_live st (Node n) ≡ true
  MayHappen st (TakeAsk ask) = (is_live st (Manager ask.manager) ≡ true) × In st.asks ask × (member (st.held ask.manager) ask.node ≡ true)
  MayHappen st (TakeGive give) = (is_live st (Node give.node) ≡ true) × In st.gives give
  MayHappen st (SendActivate m) = (is_live st (Manager m) ≡ true) × (past_answer (st.untils m) (s.views (st.held m)) (clock st (Manager m)) ≡ Ok tt)
  MayHappen st (TakeActivate n sent) = (is_live st (Node n) ≡ true) × In st.activates sent × (st.heard_epoch n ≤ sent.epoch)
  MayHappen st (Install n) = (is_live st (Node n) ≡ true) × IsMajority s.managers (st.heard n)

  abbrev pub IsRun : State → List Event → Type 0
  IsRun st [] = ⊤
  IsRun st (event ∷ events) = MayHappen st event × IsRun (next st event) events

  abbrev pub last_state : State → List Event → State
  last_state st [] = st
  last_state st (event ∷ events) = last_state (next st event) events

  abbrev pub begin : List ClockEvent
  begin = begin_nodes s.founders ++ begin_managers s.managers

  -- Founders have the lease's length from every manager, and each manager notes the until for them.
  abbrev pub start : State
  start = record {
    clocks = after (no_clocks s.skew) begin;
    started = λ n. nat_lt n.0 s.founders;
    held = λ m. 1;
    untils = λ m. first_untils s.lease s.founders;
    asks = [];
    gives = [];
    activates = [];
    ends = λ n. times s.managers (if nat_lt n.0 s.founders then s.lease else 0);
    granted = λ n. if nat_lt n.0 s.founders then s.lease else 0;
    heard_epoch = λ n. 0;
    heard = λ n m. false;
    installed = 1 ∷ [];
  }
