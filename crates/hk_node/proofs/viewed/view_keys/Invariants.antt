use Rattle.std.proofs.Common.{◌≡◌, ◌++◌, map}
use Rattle.std.specs.List.{flat_map}
use Rattle.hk_node.specs.Index.{at_key}
use Rattle.hk_node.specs.Viewed.{view_letters, view_told, view_new, view_old}
use Rattle.hk_node.proofs.viewed.view_keys.Given as goal

-- what was made so far, and what the rows of the keys that are left make, are all
abbrev pub invariant-loop-key : goal.invariant-loop-key
invariant-loop-key l =
    (goal.iterator-loop-key).can_next l.key-iterator ×
    (goal.iterator-loop-key).is_finite l.key-iterator ×
    (l.viewed.letters ++ flat_map (at_key (view_letters l.id l.view) l.rows.entries) l.key-iterator ≡ flat_map (at_key (view_letters l.id l.view) l.rows.entries) l.keys.keys) ×
    (l.viewed.replies ++ map (λ t. t.1) (flat_map (at_key (view_told l.id l.view) l.rows.entries) l.key-iterator) ≡ map (λ t. t.1) (flat_map (at_key (view_told l.id l.view) l.rows.entries) l.keys.keys)) ×
    (l.viewed.fresh ++ flat_map (at_key (view_new l.id l.view) l.rows.entries) l.key-iterator ≡ flat_map (at_key (view_new l.id l.view) l.rows.entries) l.keys.keys) ×
    (l.viewed.prior ++ flat_map (at_key (view_old l.id l.view) l.rows.entries) l.key-iterator ≡ flat_map (at_key (view_old l.id l.view) l.rows.entries) l.keys.keys)
