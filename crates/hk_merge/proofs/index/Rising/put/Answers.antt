use Rattle.std.proofs.Common.{rules, ◌≡◌, None, nat_le, ap, ◌∙◌}
use Rattle.std.specs.Ordering.{nat_cmp}
use Rattle.std.specs.List.{find}
use Rattle.std.specs.BTreeSet.{insert_key}
use Rattle.hk_merge.proofs.Indexing.{ticket_put}
use Rattle.hk_merge.proofs.index.Rising.put.Goals as goal

pub returns : goal.returns
returns c =
    let none : find (nat_le c.args.ticket) c.args.self.now ≡ None = search rules in
    ticket_put c.args.self.now c.insert.new.self.keys c.args.ticket none (c.in_ok-insert.ensures.keys ∙ ap (λ l. insert_key nat_cmp l c.args.ticket) c.self.view_is)
