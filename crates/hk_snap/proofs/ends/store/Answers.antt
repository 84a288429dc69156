use Rattle.std.proofs.Common.{sym, subst}
use mathlib.Core.List.{IsPrefix}
use Rattle.hk_snap.specs.declared.rule.Publication.{Publication}
use Rattle.hk_snap.specs.Snapshots.{snapshot_of}
use Rattle.hk_snap.specs.Layout.{words_of}
use Rattle.hk_snap.specs.Rule.{IsInRange}
use Rattle.hk_snap.proofs.ends.store.Goals as goal

pub put-requires-clause-words : goal.put-requires-clause-words
put-requires-clause-words g c = subst (λ (p : Publication). IsPrefix (words_of (snapshot_of p)) c.show_row.new.words) (sym c.requires.picked) (c.show_row.ensures.words c.args.call)

pub put-requires-clause-range : goal.put-requires-clause-range
put-requires-clause-range g c = subst IsInRange (sym c.requires.picked) (c.show_row.ensures.range c.args.call)
