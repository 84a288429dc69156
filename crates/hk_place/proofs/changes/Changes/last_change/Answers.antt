use Rattle.std.proofs.Common.{◌≡◌, ℕ, List, Option, Some, unwrap_or, [], sym, ap, subst, ◌∙◌}
use Rattle.std.specs.BTreeMap.{is_at}
use Rattle.std.specs.Map.{lookup}
use Rattle.std.specs.List.Sorted.{IsNonDecreasingBy}
use Rattle.hk_copy.specs.Batches.{key_cmp}
use Rattle.hk_place.specs.Past.{tickets_of}
use Rattle.hk_place.proofs.Ordered.{rise_by_place, tickets_rise}
use Rattle.hk_place.proofs.changes.Changes.last_change.Goals as goal

pub last_upto-requires : goal.last_upto-requires
last_upto-requires c =
    let base = c.self.inside.base.now in
    let journal = c.self.inside.journal.now in
    let key = c.args.key.now in
    let found : lookup (is_at (key_cmp key)) c.self.inside.kept.entries ≡ Some c.in-Some.tickets.now = sym c.in-Some.ensures.value in
    let same : c.as_slice.result.now ≡ tickets_of base journal key =
    c.as_slice.ensures ∙ (sym (ap (λ (o : Option (List ℕ)). unwrap_or o []) found) ∙ c.self.invariant.tickets key) in
    subst (IsNonDecreasingBy (λ (t : ℕ). t)) (sym same) (rise_by_place (tickets_of base journal key) (tickets_rise key base journal c.self.invariant.rising))
