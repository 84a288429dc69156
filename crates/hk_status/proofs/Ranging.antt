-- A shard more of those that have a view.
use Rattle.std.proofs.Common.{◌≡◌, ◌<◌, ◌++◌, ◌+◌, ℕ, List, length, drop, sym, ap, ◌∙◌, append_assoc}
use Rattle.std.proofs.lemmas.List.{at_drop_more}
use Rattle.hk_base.specs.declared.view.View.{View}
use Rattle.hk_status.specs.Views.{range_part, ranges_from}

pub ranges_more : (out put all : List ℕ) (views : List View) (view : View) (shard : ℕ) → shard < length views → put ≡ out ++ range_part views view shard →
    out ++ ranges_from views view shard (drop shard views) ≡ all → put ++ ranges_from views view (shard + 1) (drop (shard + 1) views) ≡ all
ranges_more out put all views view shard within is so_far =
    ap (λ (xs : List ℕ). xs ++ ranges_from views view (shard + 1) (drop (shard + 1) views)) is ∙
    append_assoc out (range_part views view shard) (ranges_from views view (shard + 1) (drop (shard + 1) views)) ∙
    ap (λ (xs : List ℕ). out ++ xs) (sym (at_drop_more (ranges_from views view shard) views shard view within)) ∙ so_far
