use Rattle.std.proofs.Common.{rules, ◌≡◌, max, sym}
use Rattle.std.specs.Map.{keys_of}
use Rattle.std.specs.List.Sorted.{IsStrictlySortedBy}
use Rattle.hk_lease.specs.Grants.{by_number, until_of, with_grant}
use Rattle.hk_lease.proofs.Noted.{granted_other}
use Rattle.hk_lease.proofs.Back.{put_undone, by_number_total}
use Rattle.hk_lease.proofs.grants.Grants.grant.Goals as goal

pub returns-clause-others : goal.returns-clause-others
returns-clause-others c = λ other apart.
    let same : c.insert.new.self.entries ≡ with_grant c.args.self.now c.args.node c.args.until = search rules in
    rw same (granted_other c.args.self.now c.args.node c.args.until other apart)

pub returns-clause-undone : goal.returns-clause-undone
returns-clause-undone c =
    let same : c.insert.new.self.entries ≡ with_grant c.args.self.now c.args.node c.args.until = search rules in
    let rising : IsStrictlySortedBy by_number (keys_of c.args.self.now) = rw (sym c.self.view_is) c.in_ok-insert.ensures.was_ordered in
    rw same (put_undone by_number by_number_total c.args.node (max (until_of c.args.self.now c.args.node) c.args.until) c.args.self.now rising)
