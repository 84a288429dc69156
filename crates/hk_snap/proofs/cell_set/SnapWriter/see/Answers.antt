use Rattle.std.proofs.Common.{◌≡◌, ◌<◌, length, sym, ap, ◌∙◌, arith}
use Rattle.hk_snap.specs.Ends.{names}
use Rattle.hk_snap.proofs.Lists.{met_names, names_long}
use Rattle.hk_snap.proofs.cell_set.SnapWriter.see.Goals as goal

pub see-requires : goal.see-requires
see-requires c =
    let xs = c.reader.inside.ends.items in
    let ys = c.self.inside.ends.items in
    let same : names xs ≡ names ys = ap (λ r. names r.ends) c.reader.view_is ∙ (c.requires.same ∙ sym (ap names c.self.view_is)) in
    let below : c.from-at.result < length (names xs) = omega (arith, names_long xs, c.reader.invariant, c.from-at.ensures, c.requires.cell) in
    met_names xs ys c.from-at.result _ _ same below c.index_mut-2.ensures.value c.index_mut.ensures.value
