-- A list at one turn of a loop over it.
use Rattle.std.proofs.Common.{◌≡◌, ◌<◌, ◌+◌, ℕ, suc, List, [], ◌∷◌, ◌++◌, map, length, take, drop, get_or, sym, ap, ◌∙◌, arith}
use Rattle.std.proofs.Math.Seq.{take-suc}
use Rattle.std.proofs.lemmas.List.{at_drop_more, take-append-drop, map-append}
use Rattle.hk_event.specs.declared.event.Header.{Header}
use Rattle.hk_safety.specs.Run.{RunState, world_of}
use Rattle.hk_merge.specs.Merged.{Item}
use Rattle.hk_assemble.specs.declared.gap.Gap.{Gap}
use Rattle.hk_assemble.specs.declared.gap.Gap.TheVariants as Gap
use Rattle.hk_assemble.specs.SentLetters.{Buckets}
use Rattle.hk_assemble.specs.Assembly.{Kepts, IsAssembly}
use Rattle.hk_assemble.specs.Assembled.{FailsFirst}
use Rattle.hk_assemble.specs.Assemblies.{OrMemory, IsFailure}

module _ {X : Type 0} (f : X → Item) (xs : List X) (i : ℕ) (x : X) (within : i < length xs) (is : x ≡ get_or xs i x) where
  -- what comes before, the item, and what comes behind
  pub split_here : map f xs ≡ map f (take i xs) ++ (f x ∷ map f (drop (i + 1) xs))
  split_here =
      let left : drop i xs ≡ x ∷ drop (i + 1) xs = at_drop_more (λ (l : List X). l) xs i x within ∙ ap (λ (y : X). y ∷ drop (i + 1) xs) (sym is) in
      ap (map f) (sym (take-append-drop i xs)) ∙ (map-append f (take i xs) (drop i xs) ∙ ap (λ (l : List X). map f (take i xs) ++ map f l) left)

  pub one_more : map f (take (i + 1) xs) ≡ map f (take i xs) ++ f x ∷ []
  one_more =
      let next : take (i + 1) xs ≡ take i xs ++ x ∷ [] = ap (λ (n : ℕ). take n xs) after ∙ (take-suc xs i x within ∙ ap (λ (y : X). take i xs ++ y ∷ []) (sym is)) in
      ap (map f) next ∙ map-append f (take i xs) (x ∷ [])
    where
      after : i + 1 ≡ suc i
      after = omega arith

-- the item that fails is the first
pub fails_first : (header : Header) (run : RunState) (sent : Buckets) (kept : Kepts) (front back items : List Item) (item : Item) (gap : Gap) → IsAssembly header run sent kept front → items ≡ front ++ (item ∷ back) →
    OrMemory gap (IsFailure gap run items front item) → OrMemory gap (FailsFirst header items gap)
fails_first header run sent kept front back items item Gap.Memory assembly split fails = tt
fails_first header run sent kept front back items item (Gap.Letter taken s) assembly split (node, entry, here, fails) =
    record { front = front; node = node; entry = entry; back = back; split = split ∙ ap (λ (x : Item). front ++ (x ∷ back)) here; events = run.events; world = world_of run; goes = assembly.goes; fails = fails }
fails_first header run sent kept front back items item (Gap.Entry at ticket given) assembly split (node, entry, here, fails) =
    record { front = front; node = node; entry = entry; back = back; split = split ∙ ap (λ (x : Item). front ++ (x ∷ back)) here; events = run.events; world = world_of run; goes = assembly.goes; fails = fails }
fails_first header run sent kept front back items item (Gap.Note call ticket told k) assembly split (node, entry, here, fails) = absurd fails
