use Rattle.std.proofs.Common.{sym, ap, ◌∙◌}
use Rattle.hk_worker.specs.Founding.{names_of_cells}
use Rattle.hk_host.proofs.serve.serve_part.Goals as goal

pub serve_founded-requires-clause-named : goal.serve_founded-requires-clause-named
serve_founded-requires-clause-named g c κs within =
    let founded = c.in-Ok.founded in
    c.requires.places founded.node c.in-Ok.ensures.node
    ∙ sym (c.in-Ok.ensures.cells ∙ ap (λ s. names_of_cells s c.args.cells) (c.founding_group-group.ensures.skew ∙ ap (λ h. h.identity.skew) c.deref.ensures))
