use Rattle.std.proofs.Common.{◌≡◌, ◌+◌, ◌∷◌, [], List, ◌++◌, drop, arith, sym, ap, subst, ◌∙◌, append-nil}
use Rattle.std.specs.List.{AllByRecursion}
use Rattle.std.proofs.lemmas.List.{at_drop_more, at_drop_all}
use Rattle.hk_node.specs.Node.{NodeState}
use Rattle.hk_node.specs.Sound.{IsNodeEvent}
use Rattle.hk_journal.specs.declared.step_entry.JournalEntry.{JournalEntry}
use Rattle.hk_place.specs.Past.{tickets_in, tickets_of}
use Rattle.hk_place.proofs.Noting.{GoesOn, goes_on}
use Rattle.hk_place.proofs.changes.index.Goals as goal

pub loop-entry-preserved : goal.loop-entry-preserved
loop-entry-preserved c =
    let l = c.loop-entry in
    let base : NodeState = c.args.base.now in
    let all : List JournalEntry = c.args.journal.now in
    let entry : JournalEntry = c.entry-item.result in
    let rest : List JournalEntry = drop (l.entry-index + 1) all in
    let left : drop l.entry-index all ≡ entry ∷ rest =
    at_drop_more (λ es. es) all l.entry-index entry c.loop-entry-test.true ∙ ap (λ (e : JournalEntry). e ∷ rest) (sym c.entry-item.is) in
    let goes : GoesOn base all l.kept.entries l.node (entry ∷ rest) = subst (GoesOn base all l.kept.entries l.node) left l.invariant.0 in (
      subst (λ (n : NodeState). GoesOn base all c.repeat.new.kept.entries n rest) (sym c.in_ok-repeat.ensures.node)
          (goes_on base all l.kept.entries c.repeat.new.kept.entries l.node entry rest goes c.in_ok-repeat.ensures.noted),
      (subst (AllByRecursion (λ (e : JournalEntry). IsNodeEvent e.event)) left l.invariant.1).1,
    )

pub returns : goal.returns
returns c = λ k.
    let l = c.loop-entry in
    let all : List JournalEntry = c.args.journal.now in
    sym (append-nil (tickets_in l.kept.entries k))
    ∙ (sym (at_drop_all (λ (es : List JournalEntry). tickets_in l.kept.entries k ++ tickets_of l.node es k) all l.entry-index (omega (arith, c.loop-entry-test.false))) ∙ l.invariant.0 k)
