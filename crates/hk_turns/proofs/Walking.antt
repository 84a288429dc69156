-- The walk over the open keys, a shard further.
use Rattle.std.proofs.Common.{◌≡◌, ◌⊎◌, inl, inr, ℕ, suc, ◌+◌, ◌-◌, ◌<◌, List, Option, Some, None, sym, ap, ◌∙◌, subst, arith}
use Rattle.hk_due.specs.declared.due.Due.{Due}
use Rattle.hk_due.specs.Due.{key_of}
use Rattle.hk_turns.specs.Rounds.{RoundState, behind_key, next_shard}
use Rattle.hk_turns.specs.Workers.{Walks}

module _ (finds : ℕ → Option (List ℕ) → ℕ → Option Due → Type 0) (lacks : ℕ → Type 0) where
  one_left : (shard : ℕ) → shard < 8 → 8 - shard ≡ suc (8 - (shard + 1))
  one_left shard below = omega (arith, below)

  -- the present shard is left
  pub walks_on : (shard next : ℕ) (round left after : RoundState) (found : Option (ℕ × Due)) → shard < 8 → next ≡ shard + 1 → round.shard ≡ shard → left ≡ next_shard round shard
      → finds shard round.last round.before None ⊎ lacks shard → Walks finds lacks (8 - next) left found after → Walks finds lacks (8 - shard) round found after
  walks_on shard next round left after found below is at leaves none walks =
      subst (λ n. Walks finds lacks n round found after) (sym (one_left shard below)) (inr (
        subst (λ n. finds n round.last round.before None ⊎ lacks n) (sym at) none,
        subst (λ (r : RoundState). Walks finds lacks (8 - (shard + 1)) r found after) (leaves ∙ ap (next_shard round) (sym at))
            (subst (λ n. Walks finds lacks (8 - n) left found after) is walks),
      ))

  -- at the present shard something is due
  pub walks_to : (shard : ℕ) (round after : RoundState) (due : Due) → shard < 8 → round.shard ≡ shard → finds shard round.last round.before (Some due)
      → (after ≡ behind_key round shard (key_of due)) ⊎ (after ≡ next_shard round shard) → Walks finds lacks (8 - shard) round (Some (shard, due)) after
  walks_to shard round after due below at is behind =
      subst (λ n. Walks finds lacks n round (Some (shard, due)) after) (sym (one_left shard below)) (inl (record {
        due = due;
        is = subst (λ n. finds n round.last round.before (Some due)) (sym at) is;
        goes = ap (λ n. Some (n, due)) (sym at);
        behind = subst (λ n. (after ≡ behind_key round n (key_of due)) ⊎ (after ≡ next_shard round n)) (sym at) behind;
      }))
