-- The rows that a step changed, as they are published one after the other. It is private: no contract of a public call cites it.
use Rattle.std.specs.Prelude.{⊤, ℕ, List, [], ◌∷◌, map, Option}
use Rattle.hk_base.specs.Range.{IsWithin}
use Rattle.hk_base.specs.declared.call.CallNo.{CallNo}
use Rattle.hk_node.specs.declared.report.PriorRow.{PriorRow}
use Rattle.hk_node.specs.Rows.{Rows, row_at}
use Rattle.hk_snap.specs.declared.rule.Publication.{Publication}
use Rattle.hk_snap.specs.Snapshots.{cell_of, published, IsNext}
use Rattle.hk_snap.specs.Ends.{End, seen_at, with_publication}

-- the present rows of these keys, as the step with this ticket publishes them
abbrev pub publications : Rows → ℕ → Option CallNo → List PriorRow → List Publication
publications rows ticket call prior = map (λ f. published f.key (row_at f.key rows) ticket call) prior

-- these are published one after the other
abbrev pub with_all : List End → List Publication → List End
with_all ends [] = ends
with_all ends (p ∷ ps) = with_all (with_publication ends p) ps

-- and each of them may be, when its turn comes
abbrev pub MayBePublished : List End → List Publication → Type 0
MayBePublished ends [] = ⊤
MayBePublished ends (p ∷ ps) = IsNext (seen_at ends (cell_of p.key)) p × IsWithin p.row.stamp × MayBePublished (with_publication ends p) ps
