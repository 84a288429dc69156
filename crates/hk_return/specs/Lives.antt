-- In which of its lives a manager is at each moment, and the one direction in which leases need clocks to keep a rate.
use Rattle.std.specs.Prelude.{◌≡◌, ◌+◌, ◌-◌, ◌*◌, ◌<◌, ◌≤◌, ℕ, true}
use Rattle.hk_base.specs.declared.stamp.NodeId.{NodeId}
use Rattle.hk_base.specs.declared.letter.Actor.TheVariants.{Node, Manager}
use Rattle.hk_clocks.specs.Paced.{Moment, AreLive}

-- Who runs at each moment and what each clock reads, and in which of its lives each manager is: the first has the number 0, and each
-- return begins a later one, with a clock that begins anew. Between two lives a manager is down for some time, or for none.
pub record Lives : Type 0 where
  pub at : ℕ → Moment
  pub life : (moment manager : ℕ) → ℕ

-- From one moment of a life of the manager to a later one of the same life, where the node runs at both, the manager's clock goes by at
-- most eleven tenths of what the node's goes by, and the skew. Between its lives its clock may stand still, jump, or fall.
abbrev pub NeverOutruns : ℕ → Lives → ℕ → ℕ → NodeId → Type 0
NeverOutruns skew lives last m n = (from to : ℕ) → from ≤ to → to ≤ last → lives.life from m ≡ lives.life to m → AreLive (lives.at from) (Manager m) (Node n) → AreLive (lives.at to) (Manager m) (Node n) →
    1000 * ((lives.at to).clock (Manager m) - (lives.at from).clock (Manager m)) ≤ 1100 * ((lives.at to).clock (Node n) - (lives.at from).clock (Node n)) + 1000 * skew

-- PACED FOR LEASES, over the moments from 0 to the last.
pub record IsPacedForLeases (skew founders : ℕ) (lives : Lives) (last : ℕ) : Type 0 where
  -- in no life does a manager's clock outrun a node's
  pub rate : (m : ℕ) (n : NodeId) → NeverOutruns skew lives last m n
  -- a node runs from when it starts to when it stops, and does not return; its clock does not fall, and reads at least 1
  pub once : (n : NodeId) (i j k : ℕ) → i ≤ j → j ≤ k → k ≤ last → (lives.at i).live (Node n) ≡ true → (lives.at k).live (Node n) ≡ true → (lives.at j).live (Node n) ≡ true
  pub rising : (n : NodeId) (from to : ℕ) → from ≤ to → to ≤ last → (lives.at from).live (Node n) ≡ true → (lives.at to).live (Node n) ≡ true → (lives.at from).clock (Node n) ≤ (lives.at to).clock (Node n)
  pub node_reads : (n : NodeId) (i : ℕ) → i ≤ last → (lives.at i).live (Node n) ≡ true → 1 ≤ (lives.at i).clock (Node n)
  pub manager_reads : (m i : ℕ) → i ≤ last → (lives.at i).live (Manager m) ≡ true → 1 ≤ (lives.at i).clock (Manager m)
  -- Where nodes have a lease from the start, they run from the first moment on, and so do managers in their first lives, from 1 on.
  pub founders_first : (n : NodeId) (i : ℕ) → n.0 < founders → i ≤ last → (lives.at i).live (Node n) ≡ true → (lives.at 0).live (Node n) ≡ true
  pub managers_first : (m i : ℕ) → 1 ≤ founders → i ≤ last → lives.life i m ≡ 0 → (lives.at i).live (Manager m) ≡ true →
      ((lives.at 0).live (Manager m) ≡ true) × (lives.life 0 m ≡ 0) × ((lives.at 0).clock (Manager m) ≡ 1)
