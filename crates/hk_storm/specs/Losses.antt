-- Which parcels a storm's workers lose.
use Rattle.std.specs.Prelude.{ℕ, ◌+◌, ◌==◌, Bool, not}
use Rattle.rand_pcg.specs.Lcg.{Lcg, started, increment_of}
use Rattle.rand_pcg.specs.Pcg.{multiplier_64}
use Rattle.hk_script.specs.Drawn.{draw}

-- The numbers of a worker begin with the storm's start; each worker has a stream of its own, from 55 on.
abbrev pub worker_numbers : ℕ → ℕ → Lcg
worker_numbers start worker = started 64 multiplier_64 start (increment_of 64 (55 + worker))

-- a parcel is kept unless the number drawn for it, modulo 16, is 0
abbrev pub kept_drawn : Lcg → Bool × Lcg
kept_drawn g = (not ((draw 16 g).0 == 0), (draw 16 g).1)
