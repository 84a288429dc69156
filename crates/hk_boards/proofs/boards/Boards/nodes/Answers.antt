use Rattle.std.proofs.Common.{ℕ, List, sym, ap, ◌∙◌, subst}
use Rattle.std.specs.List.{list_any}
use Rattle.std.specs.List.Sorted.{IsStrictlyIncreasing}
use Rattle.hk_boards.proofs.Gathered.{are_held, gathered}
use Rattle.hk_boards.proofs.boards.Boards.nodes.Goals as goal

pub returns : goal.returns
returns c =
    let value = c.as_slice.ensures.value in
    gathered c.args.founding c.args.self.now c.as_slice.result.now c.held_among.result c.held_among.ensures
    (are_held c.args.founding c.args.self.now c.as_slice.result.now
    (subst (λ (xs : List ℕ). IsStrictlyIncreasing xs) (sym value) c.risen-numbers.ensures.rising)
    (λ test. ap (λ (xs : List ℕ). list_any test xs) value ∙ c.risen-numbers.ensures.same test ∙ ap (λ (xs : List ℕ). list_any test xs) c.in_ok-numbers.ensures))
