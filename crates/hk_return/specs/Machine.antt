-- Managers that stop and return, grant leases and let views begin; and nodes that keep their ends and install views.
use Rattle.std.specs.Prelude.{◌≡◌, ◌+◌, ◌-◌, ◌<◌, ◌≤◌, ℕ, suc, List, [], ◌∷◌, ◌++◌, drop, length, Bool, true, false, nat_lt, ◌==◌, if◌then◌else◌, max, Ok, ⊤}
use Rattle.hk_base.specs.declared.stamp.NodeId.{NodeId}
use Rattle.hk_base.specs.declared.letter.Actor.{Actor}
use Rattle.hk_base.specs.declared.letter.Actor.TheVariants.{Node, Manager}
use Rattle.hk_lease.specs.Wait.{wait}
use Rattle.hk_lease.specs.Grants.{with_grant}
use Rattle.hk_lease.specs.Past.{past_answer}
use Rattle.hk_lease.specs.Ends.{granted_end}
use Rattle.hk_earned.specs.Machine.{Setting, Ask, Give, Activate, In, put, put_node, IsMajority, with_end, times, first_untils, member, end_for}
use Rattle.hk_return.specs.Lives.{Lives}

-- A manager. Its log is on the disk: of it matter here the epochs of the views that it holds or held, the latest first.
pub record Part : Type 0 where
  -- in which of its lives it is
  pub life : ℕ
  -- the epochs that a stop leaves in any case, and before them those of which a stop may lose the latest
  pub synced : List ℕ
  pub unsynced : List ℕ
  -- in its memory alone: the greatest until that it noted for each node, and the letters that it keeps back until all is synced
  pub untils : List (NodeId × ℕ)
  pub gives : List Give
  pub activates : List Activate

pub record State : Type 0 where
  -- which moment it is
  pub now : ℕ
  pub manager : ℕ → Part
  -- letters that went out
  pub asks : List Ask
  pub gives : List Give
  pub activates : List Activate
  -- of a node: the greatest end that came from each manager, its granted end, the epoch of the ACTIVATEs that it keeps, whose they are
  pub ends : NodeId → List ℕ
  pub granted : NodeId → ℕ
  pub heard_epoch : NodeId → ℕ
  pub heard : NodeId → ℕ → Bool
  -- the epochs of the views that any node has installed
  pub installed : List ℕ

-- `Sync`: what the manager wrote is on the disk, and the letters that it kept back go out. `Note`: it notes an until that it need not.
-- `Return`: it is made anew by its log, of which so many of the latest epochs are lost.
pub data Event : Type 0 where
  Pass : Event
  Learn : (manager epoch : ℕ) → Event
  AskLease : (node : NodeId) → (manager : ℕ) → Event
  TakeAsk : (ask : Ask) → Event
  TakeGive : (give : Give) → Event
  SendActivate : (manager : ℕ) → Event
  TakeActivate : (node : NodeId) → (activate : Activate) → Event
  Install : (node : NodeId) → Event
  Sync : (manager : ℕ) → Event
  Note : (manager : ℕ) → (node : NodeId) → (until : ℕ) → Event
  Return : (manager lost : ℕ) → Event

-- the epochs that it has by its log, and by what it wrote that a stop may lose; and that of the view that it holds
abbrev pub epochs : Part → List ℕ
epochs p = p.unsynced ++ p.synced

abbrev pub latest : List ℕ → ℕ
latest [] = 0
latest (epoch ∷ earlier) = epoch

abbrev pub held : Part → ℕ
held p = latest (epochs p)

-- the until is noted for each of these nodes
abbrev pub with_all : List (NodeId × ℕ) → List NodeId → ℕ → List (NodeId × ℕ)
with_all untils [] until = untils
with_all untils (n ∷ nodes) until = with_all (with_grant untils n until) nodes until

-- WHAT A MANAGER NOTES AT ITS RETURN: the until for each member of each view of these epochs, as if it granted a lease to each then
abbrev pub noted_again : Setting → List ℕ → ℕ → List (NodeId × ℕ)
noted_again s [] until = []
noted_again s (epoch ∷ earlier) until = with_all (noted_again s earlier until) (s.views epoch).members until

-- what a stop may lose: nothing that is synced
abbrev pub KeepsSynced : Part → ℕ → Type 0
KeepsSynced p lost = lost ≤ length p.unsynced

-- of which of the epochs of its log a manager notes the members: of every one
abbrev pub every : List ℕ → List ℕ
every epochs = epochs

-- a node keeps the ACTIVATEs of the greatest epoch alone
abbrev pub heard_with : State → NodeId → Activate → ℕ → Bool
heard_with st n sent = if st.heard_epoch n == sent.epoch then put sent.manager true (st.heard n) else (λ m. m == sent.manager)

-- All hold the first view. The nodes below `founders` have the lease's length from every manager, which notes the until for them; where
-- they have no such lease, and all begin with 0, `founders` is 0.
abbrev pub part_new : Setting → Part
part_new s = record { life = 0; synced = 1 ∷ []; unsynced = []; untils = first_untils s.lease s.founders; gives = []; activates = [] }

abbrev pub start : Setting → State
start s = record {
  now = 0;
  manager = λ m. part_new s;
  asks = [];
  gives = [];
  activates = [];
  ends = λ n. times s.managers (if nat_lt n.0 s.founders then s.lease else 0);
  granted = λ n. if nat_lt n.0 s.founders then s.lease else 0;
  heard_epoch = λ n. 0;
  heard = λ n m. false;
  installed = 1 ∷ [];
}

-- who runs when, in which life, and what the clocks read; and the views whose members a manager notes at its return
module _ (s : Setting) (lives : Lives) (noting : List ℕ → List ℕ) where
  abbrev pub is_live : State → Actor → Bool
  is_live st a = (lives.at st.now).live a

  abbrev pub clock : State → Actor → ℕ
  clock st a = (lives.at st.now).clock a

  -- the until of a lease that is granted now
  abbrev pub until_now : State → ℕ → ℕ
  until_now st m = clock st (Manager m) + wait s.lease

  abbrev pub becomes : State → ℕ → Part → State
  becomes st m p = record st { manager = put m p st.manager }

  abbrev pub next : State → Event → State
  next st Pass = record st { now = suc st.now }
  next st (Learn m epoch) = let p = st.manager m in becomes st m (record p { unsynced = epoch ∷ p.unsynced })
  next st (AskLease n m) = record st { asks = record { node = n; manager = m; asked = clock st (Node n) } ∷ st.asks }
  next st (TakeAsk ask) =
      let p = st.manager ask.manager in
      becomes st ask.manager (record p {
        untils = with_grant p.untils ask.node (until_now st ask.manager);
        gives = record { manager = ask.manager; node = ask.node; end = end_for s ask.asked } ∷ p.gives;
      })
  next st (TakeGive give) =
      let ends : List ℕ = with_end give.manager give.end (st.ends give.node) in
      record st {
        ends = put_node give.node ends st.ends;
        granted = put_node give.node (max (st.granted give.node) (granted_end ends)) st.granted;
      }
  next st (SendActivate m) = let p = st.manager m in becomes st m (record p { activates = record { manager = m; epoch = held p } ∷ p.activates })
  next st (TakeActivate n sent) = record st { heard_epoch = put_node n sent.epoch st.heard_epoch; heard = put_node n (heard_with st n sent) st.heard }
  next st (Install n) = record st { installed = st.heard_epoch n ∷ st.installed }
  next st (Sync m) =
      let p = st.manager m in
      record st {
        manager = put m (record p { synced = epochs p; unsynced = []; gives = []; activates = [] }) st.manager;
        gives = p.gives ++ st.gives;
        activates = p.activates ++ st.activates;
      }
  next st (Note m n until) = let p = st.manager m in becomes st m (record p { untils = with_grant p.untils n until })
  next st (Return m lost) =
      let p = st.manager m in
      let left : List ℕ = drop lost p.unsynced in
      let synced : List ℕ = drop (lost - length p.unsynced) p.synced in
      becomes st m (record { life = lives.life st.now m; synced = synced; unsynced = left; untils = noted_again s (noting (left ++ synced)) (until_now st m); gives = []; activates = [] })

  -- it runs, in the life that it is in
  abbrev pub IsUp : State → ℕ → Type 0
  IsUp st m = (is_live st (Manager m) ≡ true) × (lives.life st.now m ≡ (st.manager m).life)

  abbrev pub last_state : State → List Event → State
  last_state st [] = st
  last_state st (event ∷ events) = last_state (next st event) events

  module _ (Loses : Part → ℕ → Type 0) where
    -- As in the machine in which nobody returns. A manager that begins another life does nothing in it before its return; and a stop
    -- loses of its log no more than it may.
    abbrev pub MayHappen : State → Event → Type 0
    MayHappen st Pass = ⊤
    MayHappen st (Learn m epoch) = IsUp st m × (held (st.manager m) < epoch)
    MayHappen st (AskLease n m) = is_live st (Node n) ≡ true
    MayHappen st (TakeAsk ask) = IsUp st ask.manager × In st.asks ask × (member s (held (st.manager ask.manager)) ask.node ≡ true)
    MayHappen st (TakeGive give) = (is_live st (Node give.node) ≡ true) × In st.gives give
    MayHappen st (SendActivate m) = IsUp st m × (past_answer (st.manager m).untils (s.views (held (st.manager m))) (clock st (Manager m)) ≡ Ok tt)
    MayHappen st (TakeActivate n sent) = (is_live st (Node n) ≡ true) × In st.activates sent × (st.heard_epoch n ≤ sent.epoch)
    MayHappen st (Install n) = (is_live st (Node n) ≡ true) × IsMajority s.managers (st.heard n)
    MayHappen st (Sync m) = IsUp st m
    MayHappen st (Note m n until) = IsUp st m
    MayHappen st (Return m lost) = (is_live st (Manager m) ≡ true) × ((st.manager m).life < lives.life st.now m) × Loses (st.manager m) lost

    abbrev pub IsRun : State → List Event → Type 0
    IsRun st [] = ⊤
    IsRun st (event ∷ events) = MayHappen st event × IsRun (next st event) events
