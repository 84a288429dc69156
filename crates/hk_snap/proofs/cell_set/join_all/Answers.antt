use Rattle.std.proofs.Common.{rules, ◌≡◌, ◌≤◌, ◌∙◌, ◌++◌, ◌∷◌, [], length, ap, arith}
use Rattle.std.specs.Option.{option_to_list}
use Rattle.hk_snap.specs.Ends.{joined_ends}
use Rattle.hk_snap.proofs.Lists.{is_last, joins_on, joins_named, long_by}
use Rattle.hk_snap.proofs.cell_set.join_all.Goals as goal

pub join-requires : goal.join-requires
join-requires c =
    let i = c.loop-other.invariant in
    let whole : c.loop-other.others.items ≡ c.pop.new.self.items ++ c.in-Some.other ∷ [] = c.pop.ensures.items ∙ ap (λ o. c.pop.new.self.items ++ option_to_list o) c.in-Some.is in
    let last = is_last c.args.others.items c.loop-other.others.items c.pop.new.self.items c.in-Some.other i.0 whole in
    let here : c.len-at.result ≡ length c.pop.new.self.items = search rules in
    joins_named c.args.ends.now.items c.args.others.items c.loop-other.others.items c.pop.new.self.items c.loop-other.ends.items c.in-Some.other _ c.len-at.result c.requires i.1 last i.2 here c.index_mut.ensures.value

pub loop-other-preserved : goal.loop-other-preserved
loop-other-preserved c =
    let i = c.loop-other.invariant in
    let whole : c.loop-other.others.items ≡ c.pop.new.self.items ++ c.in-Some.other ∷ [] = c.pop.ensures.items ∙ ap (λ o. c.pop.new.self.items ++ option_to_list o) c.in-Some.is in
    let last = is_last c.args.others.items c.loop-other.others.items c.pop.new.self.items c.in-Some.other i.0 whole in
    let here : c.len-at.result ≡ length c.pop.new.self.items = search rules in
    let few : length c.pop.new.self.items ≤ length c.args.others.items = omega (arith, i.1, last.long) in (
      last.rest,
      few,
      joins_on c.args.ends.now.items c.args.others.items c.loop-other.others.items c.pop.new.self.items c.loop-other.ends.items c.in-Some.other _ _ c.len-at.result c.requires i.1 last i.2 here c.index_mut.ensures.value c.join.ensures,
    )

pub returns-clause-long : goal.returns-clause-long
returns-clause-long c =
    let all : c.loop-other.ends.items ≡ joined_ends c.args.ends.now.items c.args.others.items = search rules in
    long_by c.loop-other.ends.items c.args.ends.now.items c.args.others.items all
