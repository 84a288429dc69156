-- Eight shards, of which some have the view of epoch 4 and some that of epoch 5, worked out.
use Rattle.std.specs.Prelude.{◌≡◌, ℕ, List, [], ◌∷◌, ◌++◌, codes, decimal}
use Rattle.hk_base.specs.declared.view.View.{View}
use Rattle.hk_status.specs.Views.{ranges_from, view_line, views_text}

abbrev pub view : ℕ → View
view epoch = record { epoch = epoch; members = record { 0 = 0 } ∷ record { 0 = 3 } ∷ []; next = 4 }

abbrev pub views : List View
views = view 4 ∷ view 4 ∷ view 4 ∷ view 5 ∷ view 5 ∷ view 4 ∷ view 5 ∷ view 5 ∷ []

pub record EqualViewsShareALine : Type 0 where
  -- 0-2,5
  pub fourth : ranges_from views (view 4) 0 views ≡ decimal 0 ++ (codes "-" ++ (decimal 2 ++ (codes "," ++ decimal 5)))
  -- 3-4,6-7
  pub fifth : ranges_from views (view 5) 0 views ≡
      decimal 3 ++ (codes "-" ++ (decimal 4 ++ (codes "," ++ (decimal 6 ++ (codes "-" ++ decimal 7)))))
  pub lines : views_text views ≡ view_line views (view 4) ++ view_line views (view 5)
