use Rattle.std.proofs.Common.{rules, ◌≡◌, ◌++◌, ◌∷◌, [], ℕ, List, Option, Ok, subst}
use Rattle.hk_log.specs.declared.scan.NextRecord.{NextRecord}
use Rattle.hk_log.specs.Logs.{IsNext, IsNextRecord}
use Rattle.hk_log.proofs.Standing.{more}
use Rattle.hk_log.proofs.scan.scan.Goals as goal

pub loop-starts-preserved : goal.loop-starts-preserved
loop-starts-preserved c =
    let is = subst (λ (o : Option NextRecord). IsNext (Ok o) c.loop-starts.check.0 c.loop-starts.place c.split_at.result.1.now) c.in-Some.is c.in_ok-next.ensures in
    let there = subst (λ (x : List ℕ). IsNextRecord c.in-Some.next c.loop-starts.check.0 x) c.split_at.ensures.back is in
    let e : c.push.new.self ≡ c.loop-starts.records ++ c.in-Some.next.entries ∷ [] = search rules in
    let f : c.push-in-loop-starts.new.self.items ≡ c.loop-starts.starts.items ++ c.loop-starts.place ∷ [] = search rules in
    rw (e, f) (more c.loop-starts.records c.loop-starts.starts.items c.loop-starts.check.0 c.loop-starts.place c.args.file.now c.in-Some.next c.loop-starts.invariant there).0
