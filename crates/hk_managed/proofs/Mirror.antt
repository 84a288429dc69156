-- A state of the machine of leases that mirrors a world: its clocks, the ends of each node, what each manager holds and noted, and
-- every letter that bears on leases.
use Rattle.std.proofs.Common.{◌≡◌, ◌≢◌, ◌≤◌, ℕ, List, [], ◌∷◌, ◌++◌, length, true, false, nat_lt, Option, Some, None, Result, Ok, is_some, unwrap_or, sym, ap, subst, ◌∙◌, inl, inr, ⊎_elim}
use Rattle.std.specs.List.{AllByRecursion}
use Rattle.std.proofs.lemmas.Bool.{cases_eq}
use Rattle.hk_base.specs.declared.stamp.NodeId.{NodeId}
use Rattle.hk_base.specs.declared.letter.Actor.{Actor}
use Rattle.hk_base.specs.declared.letter.Actor.TheVariants.{Node, Manager}
use Rattle.hk_base.specs.declared.letter.Letter.{Letter}
use Rattle.hk_base.specs.declared.letter.Body.{Body}
use Rattle.hk_base.specs.declared.letter.Body.TheVariants as Body
use Rattle.hk_base.specs.View.{is_member}
use Rattle.hk_clocks.specs.Clocks.{ClockState, clock_of}
use Rattle.hk_clocks.specs.Steps.{ClockEvent, clock_step}
use Rattle.hk_clocks.specs.Runs.{made_or, seen}
use Rattle.hk_manager.specs.Manager.{ManagerState}
use Rattle.hk_node.specs.Node.{NodeState}
use Rattle.hk_earned.specs.Machine.{Setting, State, Ask, Give, Activate, In, times}
use Rattle.hk_earned.proofs.Places.{which_node}
use Rattle.hk_earned.proofs.Clocked.{skew_kept}
use Rattle.hk_earned.proofs.Parts.{Parts}
use Rattle.hk_world.specs.declared.process.Process.{Process}
use Rattle.hk_world.specs.declared.process.ManagerProcess.{ManagerProcess}
use Rattle.hk_world.specs.World.{WorldState, Processes, process_at, put_process, manager_at, put_manager, clocks_of, paces_by}
use Rattle.hk_world.proofs.Processes.{put_same}
use Rattle.hk_managed.proofs.Places.{view_in, in_either, put_other, set_same, set_other}
use Rattle.hk_managed.proofs.NodeSteps.{IsPlain, ArePlain}

-- ---- letters
abbrev asked_in : State → Actor → Actor → ℕ → Type 0
asked_in st (Node n) (Manager m) asked = In st.asks (record { node = n; manager = m; asked = asked })
asked_in st (Node n) (Node k) asked = Unit
asked_in st (Manager m) to asked = Unit

abbrev given_in : State → Actor → Actor → ℕ → Type 0
given_in st (Manager m) (Node n) end = In st.gives (record { manager = m; node = n; end = end })
given_in st (Manager m) (Manager k) end = Unit
given_in st (Node n) to end = Unit

abbrev activated_in : State → Actor → ℕ → Type 0
activated_in st (Manager m) epoch = In st.activates (record { manager = m; epoch = epoch })
activated_in st (Node n) epoch = Unit

abbrev body_in : Body → State → Actor → Actor → Type 0
body_in (Body.LeaseAsk asked) st from to = asked_in st from to asked
body_in (Body.LeaseGive end) st from to = given_in st from to end
body_in (Body.Activate view) st from to = activated_in st from view.epoch
body_in body st from to = Unit

-- a letter that bears on leases is one of the state's
abbrev pub Stands : State → Letter → Type 0
Stands st l = body_in l.body st l.from l.to

pub stands_ask : (st : State) (l : Letter) (n : NodeId) (m asked : ℕ) → l.from ≡ Node n → l.to ≡ Manager m → l.body ≡ Body.LeaseAsk asked → Stands st l → In st.asks (record { node = n; manager = m; asked = asked })
stands_ask st l n m asked from to body h = at l.body l.from l.to body from to h
  where
    here : body_in (Body.LeaseAsk asked) st (Node n) (Manager m) → In st.asks (record { node = n; manager = m; asked = asked })
    here x = x

    at : (b : Body) (f t : Actor) → b ≡ Body.LeaseAsk asked → f ≡ Node n → t ≡ Manager m → body_in b st f t → In st.asks (record { node = n; manager = m; asked = asked })
    at b f t p q r x = here (rw (p, q, r) at x)

pub stands_give : (st : State) (l : Letter) (n : NodeId) (m end : ℕ) → l.from ≡ Manager m → l.to ≡ Node n → l.body ≡ Body.LeaseGive end → Stands st l → In st.gives (record { manager = m; node = n; end = end })
stands_give st l n m end from to body h = at l.body l.from l.to body from to h
  where
    here : body_in (Body.LeaseGive end) st (Manager m) (Node n) → In st.gives (record { manager = m; node = n; end = end })
    here x = x

    at : (b : Body) (f t : Actor) → b ≡ Body.LeaseGive end → f ≡ Manager m → t ≡ Node n → body_in b st f t → In st.gives (record { manager = m; node = n; end = end })
    at b f t p q r x = here (rw (p, q, r) at x)

pub record Widens (st next : State) : Type 0 where
  pub asks : (x : Ask) → In st.asks x → In next.asks x
  pub gives : (x : Give) → In st.gives x → In next.gives x
  pub activates : (x : Activate) → In st.activates x → In next.activates x

pub stands_on : (st next : State) → Widens st next → (l : Letter) → Stands st l → Stands next l
stands_on st next wide l = by_body l.body l.from l.to
  where
    by_ask : (from to : Actor) (asked : ℕ) → asked_in st from to asked → asked_in next from to asked
    by_ask (Node n) (Manager m) asked h = wide.asks (record { node = n; manager = m; asked = asked }) h
    by_ask (Node n) (Node k) asked h = tt
    by_ask (Manager m) to asked h = tt

    by_give : (from to : Actor) (end : ℕ) → given_in st from to end → given_in next from to end
    by_give (Manager m) (Node n) end h = wide.gives (record { manager = m; node = n; end = end }) h
    by_give (Manager m) (Manager k) end h = tt
    by_give (Node n) to end h = tt

    by_activate : (from : Actor) (epoch : ℕ) → activated_in st from epoch → activated_in next from epoch
    by_activate (Manager m) epoch h = wide.activates (record { manager = m; epoch = epoch }) h
    by_activate (Node n) epoch h = tt

    by_body : (body : Body) (from to : Actor) → body_in body st from to → body_in body next from to
    by_body (Body.LeaseAsk asked) from to h = by_ask from to asked h
    by_body (Body.LeaseGive end) from to h = by_give from to end h
    by_body (Body.Activate view) from to h = by_activate from view.epoch h
    by_body (Body.Inv k s kind content) from to h = tt
    by_body (Body.Ack k s top) from to h = tt
    by_body (Body.Val k s) from to h = tt
    by_body (Body.CopyAsk after room) from to h = tt
    by_body (Body.CopyGive after done items) from to h = tt
    by_body (Body.Prepare ballot) from to h = tt
    by_body (Body.Promise ballot vote) from to h = tt
    by_body (Body.Accept ballot view) from to h = tt
    by_body (Body.Accepted ballot) from to h = tt
    by_body (Body.Chosen view) from to h = tt

plain_stands : (st : State) (l : Letter) → IsPlain l.body → Stands st l
plain_stands st l = by_body l.body l.from l.to
  where
    by_body : (body : Body) (from to : Actor) → IsPlain body → body_in body st from to
    by_body (Body.LeaseAsk asked) from to h = absurd h
    by_body (Body.LeaseGive end) from to h = absurd h
    by_body (Body.Activate view) from to h = absurd h
    by_body (Body.Inv k s kind content) from to h = tt
    by_body (Body.Ack k s top) from to h = tt
    by_body (Body.Val k s) from to h = tt
    by_body (Body.CopyAsk after room) from to h = tt
    by_body (Body.CopyGive after done items) from to h = tt
    by_body (Body.Prepare ballot) from to h = tt
    by_body (Body.Promise ballot vote) from to h = tt
    by_body (Body.Accept ballot view) from to h = tt
    by_body (Body.Accepted ballot) from to h = tt
    by_body (Body.Chosen view) from to h = tt

pub all_plain : (st : State) (letters : List Letter) → ArePlain letters → AllByRecursion (Stands st) letters
all_plain st [] plain = tt
all_plain st (l ∷ letters) plain = (plain_stands st l plain.0, all_plain st letters plain.1)

among : (P : Letter → Type 0) (letters : List Letter) → AllByRecursion P letters → (l : Letter) → In letters l → P l
among P [] all l h = absurd h
among P (x ∷ letters) all l (inl e) = subst P (sym e) all.0
among P (x ∷ letters) all l (inr h) = among P letters all.1 l h

-- letters that were sent before, and those that are sent
pub more_stand : (st next : State) → Widens st next → (old new : List Letter) → ((l : Letter) → In old l → Stands st l) → AllByRecursion (Stands next) new → (l : Letter) → In (old ++ new) l → Stands next l
more_stand st next wide old new was are l h = ⊎_elim
    (λ (a : In old l). stands_on st next wide l (was l a))
    (λ (b : In new l). among (Stands next) new are l b) (in_either old new l h)

-- ---- nodes
pub record NodeStands (st : State) (n : NodeId) (x : NodeState) : Type 0 where
  pub started : st.started n ≡ true
  pub ends : st.ends n ≡ x.ends
  pub granted : st.granted n ≡ x.granted

pub record IsAbsent (managers : ℕ) (st : State) (n : NodeId) : Type 0 where
  pub started : st.started n ≡ false
  pub ends : st.ends n ≡ times managers 0
  pub granted : st.granted n ≡ 0

abbrev pub NodeIn : ℕ → State → NodeId → Option Process → Type 0
NodeIn managers st n None = IsAbsent managers st n
NodeIn managers st n (Some p) = NodeStands st n p.node

-- the state is the same at this node
pub record SameAt (st next : State) (n : NodeId) : Type 0 where
  pub started : next.started n ≡ st.started n
  pub ends : next.ends n ≡ st.ends n
  pub granted : next.granted n ≡ st.granted n

pub same_in : (managers : ℕ) (st next : State) (n : NodeId) → SameAt st next n → (o : Option Process) → NodeIn managers st n o → NodeIn managers next n o
same_in managers st next n same None a = record { started = same.started ∙ a.started; ends = same.ends ∙ a.ends; granted = same.granted ∙ a.granted }
same_in managers st next n same (Some p) a = record { started = same.started ∙ a.started; ends = same.ends ∙ a.ends; granted = same.granted ∙ a.granted }

-- one process is put, and the state changes at its node alone
pub nodes_put : (managers : ℕ) (st next : State) (ps : Processes) (id : NodeId) (p : Process) → ((n : NodeId) → NodeIn managers st n (process_at n ps)) → NodeStands next id p.node →
    ((n : NodeId) → n ≢ id → SameAt st next n) → (n : NodeId) → NodeIn managers next n (process_at n (put_process id p ps))
nodes_put managers st next ps id p was now others n = ⊎_elim
    (λ (e : n ≡ id). subst (λ (k : NodeId). NodeIn managers next k (process_at k (put_process id p ps))) (sym e) (subst (NodeIn managers next id) (sym (put_same id p ps)) now))
    (λ (d : n ≢ id). subst (NodeIn managers next n) (sym (put_other n id p ps d)) (same_in managers st next n (others n d) (process_at n ps) (was n)))
    (which_node n id)

-- ---- managers
pub record ManagerStands (st : State) (m : ℕ) (g : ManagerState) : Type 0 where
  pub held : st.held m ≡ g.held.epoch
  pub untils : st.untils m ≡ g.untils

abbrev pub ManagerIn : State → ℕ → Option ManagerProcess → Type 0
ManagerIn st m None = Unit
ManagerIn st m (Some p) = ManagerStands st m p.manager

pub record SameBy (st next : State) (m : ℕ) : Type 0 where
  pub held : next.held m ≡ st.held m
  pub untils : next.untils m ≡ st.untils m

pub same_by : (st next : State) (m : ℕ) → SameBy st next m → (o : Option ManagerProcess) → ManagerIn st m o → ManagerIn next m o
same_by st next m same None a = tt
same_by st next m same (Some p) a = record { held = same.held ∙ a.held; untils = same.untils ∙ a.untils }

pub managers_put : (st next : State) (ms : List ManagerProcess) (m : ℕ) (old p : ManagerProcess) → manager_at m ms ≡ Some old → ((j : ℕ) → ManagerIn st j (manager_at j ms)) → ManagerStands next m p.manager →
    ((j : ℕ) → j ≢ m → SameBy st next j) → (j : ℕ) → ManagerIn next j (manager_at j (put_manager m p ms))
managers_put st next ms m old p at was now others j = ⊎_elim
    (λ (e : j ≡ m). subst (λ (k : ℕ). ManagerIn next k (manager_at k (put_manager m p ms))) (sym e) (subst (ManagerIn next m) (sym (set_same ms m p old at)) now))
    (λ (d : j ≢ m). subst (ManagerIn next j) (sym (set_other ms m j p d)) (same_by st next j (others j d) (manager_at j ms) (was j)))
    (cases_eq j m)

-- ---- a world
pub record Mirrors (w : WorldState) (st : State) : Type 0 where
  pub clocks : st.clocks ≡ clocks_of w
  pub nodes : (n : NodeId) → NodeIn (length w.managers) st n (process_at n w.processes)
  pub managers : (m : ℕ) → ManagerIn st m (manager_at m w.managers)
  pub upto : (m : ℕ) → st.held m ≤ length w.views
  pub letters : (l : Letter) → In w.letters l → Stands st l

abbrev pub setting_of : WorldState → ℕ → Setting
setting_of w founders = record { views = view_in w.views; managers = length w.managers; lease = w.lease; skew = w.skew; founders = founders }

-- some state of the machine in which its invariant holds mirrors the world
pub record IsEarned (w : WorldState) : Type 0 where
  pub founders : ℕ
  pub state : State
  pub parts : Parts (setting_of w founders) state
  pub mirrors : Mirrors w state
  -- the members of the first view are the founders
  pub first : (n : NodeId) → is_member n (view_in w.views 1).members ≡ true → nat_lt n.0 founders ≡ true

-- ---- clocks
pub as_clocks : (c : ClockState) (skew : ℕ) → c.skew ≡ skew → c ≡ record { skew = skew; paces = c.paces }
as_clocks c skew e = ap (λ (k : ℕ). record c { skew = k }) e

-- an event of clocks makes the same of both
pub clocks_after : (w : WorldState) (c : ClockState) (event : ClockEvent) → c ≡ clocks_of w → made_or c (clock_step c event) ≡ record { skew = w.skew; paces = paces_by w event }
clocks_after w c event same =
    ap (λ (k : ClockState). made_or k (clock_step k event)) same
    ∙ as_clocks (made_or (clocks_of w) (clock_step (clocks_of w) event)) w.skew (skew_kept (clocks_of w) event)

pub paces_made : (w : WorldState) (event : ClockEvent) (next : ClockState) → clock_step (clocks_of w) event ≡ Ok next → paces_by w event ≡ next.paces
paces_made w event next is = ap (λ (r : Result ClockState _). (made_or (clocks_of w) r).paces) is

-- a clock that is kept is seen
pub live_seen : (c : ClockState) (a : Actor) (now : ℕ) → clock_of c.paces a ≡ Some now → (seen c).live a ≡ true
live_seen c a now is = ap is_some is

pub clock_seen : (c : ClockState) (a : Actor) (now : ℕ) → clock_of c.paces a ≡ Some now → (seen c).clock a ≡ now
clock_seen c a now is = ap (λ (o : Option ℕ). unwrap_or o 0) is
