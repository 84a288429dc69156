use Rattle.std.proofs.Common.{rules, ◌≡◌, ◌^◌, ◌≤◌, arith, Some, None}
use Rattle.hk_base.specs.Stamp.{tag_of}
use Rattle.hk_safety.specs.Kept.{KeptState, KeyState, find_key}
use Rattle.hk_safety.proofs.Asked.{moment_found, moment_unfound, moment_past}
use Rattle.hk_safety.proofs.Firsts.{told_means}
use Rattle.hk_safety.proofs.live.LiveRun.moment.Goals as goal

pub returns-then-stamp-gt-MAX_VERSION-clause-exact : goal.returns-then-stamp-gt-MAX_VERSION-clause-exact
returns-then-stamp-gt-MAX_VERSION-clause-exact c =
    let past : 2 ^ 64 ≤ tag_of c.args.stamp = omega (arith, c.if-stamp-gt-MAX_VERSION.true) in
    moment_past c.in_ok-kept.kept.now c.args.self.now c.in_ok-kept.ensures.kept c.args.key.now c.runs_keep_parts.ensures c.in_ok-kept.ensures.run (tag_of c.args.stamp) past

pub returns-then-stamp-gt-MAX_VERSION-clause-meant : goal.returns-then-stamp-gt-MAX_VERSION-clause-meant
returns-then-stamp-gt-MAX_VERSION-clause-meant c =
    told_means c.args.self.now c.args.key.now (tag_of c.args.stamp) None (returns-then-stamp-gt-MAX_VERSION-clause-exact c)

pub returns-in-Some-clause-exact : goal.returns-in-Some-clause-exact
returns-in-Some-clause-exact c =
    let k : KeptState = c.in_ok-kept.kept.now in
    let state : KeyState = c.in-Some.key_run.now in
    let found : find_key c.args.key.now k.keys ≡ Some state = search rules in
    let tag : c.tag.result ≡ tag_of c.args.stamp = c.tag.ensures in
    moment_found k c.args.self.now c.in_ok-kept.ensures.kept c.args.key.now c.runs_keep_parts.ensures c.in_ok-kept.ensures.run (tag_of c.args.stamp) state found c.moment.result
    (rw (← tag) c.moment.ensures.exact) c.moment.ensures.ordered

pub returns-in-Some-clause-meant : goal.returns-in-Some-clause-meant
returns-in-Some-clause-meant c = told_means c.args.self.now c.args.key.now (tag_of c.args.stamp) c.moment.result (returns-in-Some-clause-exact c)

pub returns-in-None-clause-exact : goal.returns-in-None-clause-exact
returns-in-None-clause-exact c =
    let k : KeptState = c.in_ok-kept.kept.now in
    let none : find_key c.args.key.now k.keys ≡ None = search rules in
    moment_unfound k c.args.self.now c.in_ok-kept.ensures.kept c.args.key.now c.runs_keep_parts.ensures c.in_ok-kept.ensures.run (tag_of c.args.stamp) none

pub returns-in-None-clause-meant : goal.returns-in-None-clause-meant
returns-in-None-clause-meant c = told_means c.args.self.now c.args.key.now (tag_of c.args.stamp) None (returns-in-None-clause-exact c)
