-- What is kept of each manager stays in its range.
use Rattle.std.proofs.Common.{◌≡◌, ◌≤◌, ℕ, zero, suc, List, [], ◌∷◌, length, max, Bool, true, false, cond, nat_lt, ◌*◌, ◌∙◌, arith, replicate, slice_index, slice_set, refl, ap}
use Rattle.std.specs.List.{AllByRecursion}
use Rattle.std.proofs.lemmas.List.{length-set}
use Rattle.hk_base.specs.declared.time.TheConstants.{MAX_TIME}
use Rattle.hk_lease.specs.Ends.{granting, greatest_passing, granted_end}
use Rattle.hk_node.specs.Heard.{raised, AreHeard}

abbrev Within : ℕ → Type 0
Within end = end ≤ MAX_TIME

all_set : (kept : List ℕ) (manager value : ℕ) → Within value → AllByRecursion Within kept → AllByRecursion Within (slice_set kept manager value)
all_set [] manager value within all = all
all_set (x ∷ kept) zero value within all = (within, all.1)
all_set (x ∷ kept) (suc m) value within all = (all.0, all_set kept m value within all.1)

index_within : (kept : List ℕ) (manager : ℕ) → AllByRecursion Within kept → Within (slice_index kept manager)
index_within [] manager all = omega arith
index_within (x ∷ kept) zero all = all.0
index_within (x ∷ kept) (suc m) all = index_within kept m all.1

max_within : (a b : ℕ) → Within a → Within b → Within (max a b)
max_within a b one other = grind arith

raised_within : (kept : List ℕ) (manager value : ℕ) → Within value → AllByRecursion Within kept → AllByRecursion Within (raised manager value kept)
raised_within kept manager value within all =
    all_set kept manager (max (slice_index kept manager) value) (max_within (slice_index kept manager) value (index_within kept manager all) within) all

passing_within : (test : ℕ → Bool) (ends : List ℕ) → AllByRecursion Within ends → Within (greatest_passing test ends)
passing_within test [] all = omega arith
passing_within test (end ∷ ends) all = by_test (test end) (passing_within test ends all.1)
  where
    by_test : (b : Bool) → Within (greatest_passing test ends) → Within (cond b (max end (greatest_passing test ends)) (greatest_passing test ends))
    by_test true more = max_within end (greatest_passing test ends) all.0 more
    by_test false more = more

pub end_within : (ends : List ℕ) → AllByRecursion Within ends → granted_end ends ≤ MAX_TIME
end_within ends all = passing_within (λ end. nat_lt (length ends) (2 * granting ends end)) ends all

-- an end that is granted
pub ends_heard : (managers : ℕ) (ends activated : List ℕ) (manager end : ℕ) → end ≤ MAX_TIME → AreHeard managers ends activated → AreHeard managers (raised manager end ends) activated
ends_heard managers ends activated manager end within heard = record {
  few = heard.few;
  each_end = length-set ends manager (max (slice_index ends manager) end) ∙ heard.each_end;
  each_epoch = heard.each_epoch;
  within = raised_within ends manager end within heard.within;
}

-- other ACTIVATEs
pub activated_heard : (managers : ℕ) (ends activated after : List ℕ) → length after ≡ managers → AreHeard managers ends activated → AreHeard managers ends after
activated_heard managers ends activated after each heard = record { few = heard.few; each_end = heard.each_end; each_epoch = each; within = heard.within }

pub length-raised : (manager value : ℕ) (kept : List ℕ) → length (raised manager value kept) ≡ length kept
length-raised manager value kept = length-set kept manager (max (slice_index kept manager) value)

-- ---- at the beginning
all_replicated : (managers end : ℕ) → Within end → AllByRecursion Within (replicate managers end)
all_replicated zero end within = tt
all_replicated (suc n) end within = (within, all_replicated n end within)

replicated : (n value : ℕ) → length (replicate n value) ≡ n
replicated zero value = refl
replicated (suc n) value = ap suc (replicated n value)

pub nothing_heard : (managers end : ℕ) → managers ≤ 9 → end ≤ MAX_TIME → AreHeard managers (replicate managers end) (replicate managers 0)
nothing_heard managers end few within = record {
  few = few;
  each_end = replicated managers end;
  each_epoch = replicated managers 0;
  within = all_replicated managers end within;
}
