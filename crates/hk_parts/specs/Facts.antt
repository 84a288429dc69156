-- What the parts speak of: facts about a key at a moment of a run. Whatever some moment shows is marked in the trace, so each
-- fact, once true, stays true. `Meaning` says the first two in moments.
use Rattle.std.specs.Prelude.{ℕ, List}
use Rattle.hk_register.specs.Facts.{Covers, Exact, SettledIn, Complete, Settled}
use Rattle.hk_effects.specs.Projection.{Trace, project}
use Rattle.hk_effects.specs.Orders.{family}

-- the members of the agreed view of an epoch
abbrev pub members_at : Trace → ℕ → List ℕ
members_at t = family t.world.views

-- At some moment at which the node was in the epoch its row or its pending update had the stamp, or its pending update had it
-- when it installed the epoch, or it acknowledged the stamp then.
abbrev pub HasCovered : List ℕ → Trace → ℕ → ℕ → ℕ → Type 0
HasCovered key t n e s = Covers (project key t) n e s

-- at some moment at which it was in the epoch its row had the stamp
abbrev pub WasExact : List ℕ → Trace → ℕ → ℕ → ℕ → Type 0
WasExact key t n e s = Exact (project key t) n e s

-- in some epoch every member of its view covered the stamp, and one of them was ready when it did
abbrev pub IsComplete : List ℕ → Trace → ℕ → Type 0
IsComplete key t s = Complete (members_at t) (project key t) s

-- in some epoch every member of its view was exact for the stamp, and one of them was ready when it was
abbrev pub IsSettled : List ℕ → Trace → ℕ → Type 0
IsSettled key t s = Settled (members_at t) (project key t) s

-- and that epoch is e
abbrev pub IsSettledThrough : List ℕ → Trace → ℕ → ℕ → Type 0
IsSettledThrough key t s e = SettledIn (members_at t) (project key t) s e
