use borrow.Follows.Closed.{read_of}
use Rattle.std.proofs.Common.{◌≡◌, true, false, Some, ap, sym, ◌∙◌}
use Rattle.std.specs.Option.{ghost_name_of}
use Rattle.hk_by_call.specs.Kept.{all_kept, is_newest}
use Rattle.hk_by_call.proofs.Beside.{find_newest, find_kept, newest_written, kept_written, with_kept_written, lent_same}
use Rattle.hk_by_call.proofs.by_call.ByCall.get_mut.Goals as goal

pub invariant_of-self-lent : goal.invariant_of-self-lent
invariant_of-self-lent g c =
    let not : is_newest c.self.inside.newest c.args.call ≡ false = sym c.is_newest.ensures ∙ c.if-not-is_newest.true in
    λ found. (
      λ w. rw (c.get_mut.follows.holds w).0 (with_kept_written c.args.call c.self.inside.newest c.self.inside.kept.entries w not c.self.invariant),
      rw c.get_mut.follows.holds-at-none c.self.invariant,
    )

pub returns-then-not-is_newest : goal.returns-then-not-is_newest
returns-then-not-is_newest g c =
    let not : is_newest c.self.inside.newest c.args.call ≡ false = sym c.is_newest.ensures ∙ c.if-not-is_newest.true in
    rw (← c.self.view_is) (
      λ t. read_of (ghost_name_of c.get_mut.result)
          (λ (w : g.row.V.Denot). (ap (λ es. all_kept c.self.inside.newest es) (c.get_mut.follows.holds w).0 ∙ kept_written c.args.call c.self.inside.newest c.self.inside.kept.entries w not) t)
          (ap (λ m. all_kept c.self.inside.newest m.entries) c.get_mut.follows.holds-at-none t),
      record { writes_back = tt; value = c.get_mut.ensures.value ∙ find_kept c.args.call c.self.inside.newest c.self.inside.kept.entries not },
    )

pub returns-in-Some : goal.returns-in-Some
returns-in-Some g c =
    let is : is_newest c.self.inside.newest c.args.call ≡ true = sym c.is_newest.ensures ∙ c.if-not-is_newest.false in
    let here : is_newest (Some c.in-Some.entry) c.args.call ≡ true = ap (λ n. is_newest n c.args.call) (sym c.in-Some.is) ∙ is in
    let found = find_newest c.args.call (Some c.in-Some.entry) c.self.inside.kept.entries here in
    rw (← c.self.view_is, c.in-Some.is) (
      lent_same _ _ _ (λ (w : g.row.V.Denot). newest_written c.args.call c.in-Some.entry c.self.inside.kept.entries w here),
      record { writes_back = tt; value = found },
    )
