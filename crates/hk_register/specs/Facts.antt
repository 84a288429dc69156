-- Facts about a key so far. Each, once true, stays true.
use Rattle.std.specs.Prelude.{◌≡◌, ◌⊎◌, ℕ, true, List, ◌<◌, ◌≤◌}
use Rattle.hk_register.specs.Machine.{In, Marked, Mark, RegisterState}

-- The node covered the stamp in the epoch: its row or its pending update had it, or it acknowledged it.
pub record Covers (st : RegisterState) (n e s : ℕ) : Type 0 where
  pub mark : Mark
  pub marked : Marked st mark
  pub who : mark.who ≡ n
  pub epoch : mark.epoch ≡ e
  pub stamp : mark.stamp ≡ s

-- its row had it
pub record Exact (st : RegisterState) (n e s : ℕ) : Type 0 where
  pub mark : Mark
  pub marked : Marked st mark
  pub who : mark.who ≡ n
  pub epoch : mark.epoch ≡ e
  pub stamp : mark.stamp ≡ s
  pub exact : mark.exact ≡ true

-- the two at a moment when the node was ready
pub record ReadyCovers (st : RegisterState) (n e s : ℕ) : Type 0 where
  pub mark : Mark
  pub marked : Marked st mark
  pub who : mark.who ≡ n
  pub epoch : mark.epoch ≡ e
  pub stamp : mark.stamp ≡ s
  pub ready : mark.ready ≡ true

pub record ReadyExact (st : RegisterState) (n e s : ℕ) : Type 0 where
  pub mark : Mark
  pub marked : Marked st mark
  pub who : mark.who ≡ n
  pub epoch : mark.epoch ≡ e
  pub stamp : mark.stamp ≡ s
  pub exact : mark.exact ≡ true
  pub ready : mark.ready ≡ true

-- V e are the members of the view of epoch e
module _ (V : ℕ → List ℕ) where
  -- Every member of the epoch's view covered the stamp in it, one of them when it was ready. In the
  -- paper's words: all live replicas acknowledged it, so it may be answered.
  pub record CompleteIn (st : RegisterState) (s e : ℕ) : Type 0 where
    pub some_epoch : 1 ≤ e
    pub all : (n : ℕ) → In (V e) n → Covers st n e s
    pub one : ℕ
    pub one_member : In (V e) one
    pub one_ready : ReadyCovers st one e s

  -- Every member's row had the stamp. Only this allows a VAL.
  pub record SettledIn (st : RegisterState) (s e : ℕ) : Type 0 where
    pub some_epoch : 1 ≤ e
    pub all : (n : ℕ) → In (V e) n → Exact st n e s
    pub one : ℕ
    pub one_member : In (V e) one
    pub one_ready : ReadyExact st one e s

  abbrev pub Complete : RegisterState → ℕ → Type 0
  Complete st s = (e : ℕ) × CompleteIn st s e

  abbrev pub Settled : RegisterState → ℕ → Type 0
  Settled st s = (e : ℕ) × SettledIn st s e

  -- settled, or no update at all
  abbrev pub Rests : RegisterState → ℕ → Type 0
  Rests st s = (s ≡ 0) ⊎ Settled st s

  -- Some member of view e has gone on to a later view, and covered nothing above s up to e. So nothing above s can
  -- complete in e any more, nor was it: this is how a node that knows only its own row is bounded from below by what
  -- earlier views completed.
  pub record Bound (st : RegisterState) (e s : ℕ) : Type 0 where
    pub who : ℕ
    pub member : In (V e) who
    pub passed : e < (st.node who).epoch
    pub tops : (k : Mark) → Marked st k → k.who ≡ who → k.epoch ≤ e → k.stamp ≤ s

  -- Some member's row was in epoch e never strictly between the base and the update, and never will be: it is at the
  -- update already, or the member has gone on.
  pub record PassesOver (st : RegisterState) (e base u : ℕ) : Type 0 where
    pub who : ℕ
    pub member : In (V e) who
    pub over : (k : Mark) → Marked st k → k.who ≡ who → k.epoch ≡ e → k.exact ≡ true → (k.stamp ≤ base) ⊎ (u ≤ k.stamp)
    pub settled : (u ≤ (st.node who).stamp) ⊎ (e < (st.node who).epoch)
