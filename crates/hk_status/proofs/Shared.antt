-- Which shards share a line.
use Rattle.std.proofs.Common.{ℕ, List, ◌++◌, codes, decimal, ap, append-nil}
use Rattle.hk_status.specs.Views.{view_line}
use Rattle.hk_status.specs.Worked.{view, views, EqualViewsShareALine}

pub equal_views_share : EqualViewsShareALine
equal_views_share = record {
  fourth = ap (λ (xs : List ℕ). decimal 0 ++ (codes "-" ++ (decimal 2 ++ (codes "," ++ xs)))) (append-nil (decimal 5));
  fifth = ap (λ (xs : List ℕ). decimal 3 ++ (codes "-" ++ (decimal 4 ++ (codes "," ++ (decimal 6 ++ (codes "-" ++ xs)))))) (append-nil (decimal 7));
  lines = ap (λ (xs : List ℕ). view_line views (view 4) ++ xs) (append-nil (view_line views (view 5)));
}
