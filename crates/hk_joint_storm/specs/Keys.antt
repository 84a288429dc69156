-- The keys of a storm of joint reads, and who writes them.
use Rattle.std.specs.Prelude.{◌≡◌, ℕ, List, [], ◌∷◌, map, codes}
use Rattle.hk_base.specs.declared.call.Content.{Content}
use Rattle.hk_snap.specs.declared.snapshot.Snapshot.{Snapshot}
use Rattle.hk_shard.specs.Shard.{ShardState}

-- the four keys that are written and read
abbrev pub storm_keys : List (List ℕ)
storm_keys = codes "c" ∷ codes "k" ∷ codes "s" ∷ codes "{" ∷ []

-- one snapshot of each key, in their order
abbrev pub IsOfKeys : List Snapshot → Type 0
IsOfKeys found = map (λ s. s.key) found ≡ storm_keys

-- a writer of keys: what it writes, and the shard that it writes to
pub record KeysWriting : Type 0 where
  pub content : Content
  pub shard : ShardState
