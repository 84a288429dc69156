use Rattle.std.proofs.Common.{rules, ℕ, inl, List, sym, subst}
use Rattle.std.specs.Prelude.{All}
use Rattle.std.proofs.lemmas.List.Elements.{All-push}
use Rattle.hk_base.specs.declared.letter.Letter.{Letter}
use Rattle.hk_log.specs.Entries.{IsEntryInRange}
use Rattle.hk_durable.specs.Batches.{AreNotesAlone, IsUnsaid}
use Rattle.hk_durable.proofs.Sound.{entries_behind, alone_behind}
use Rattle.hk_durable.proofs.batch.Batch.make.Goals as goal

pub returns : goal.returns
returns c = inl (record {
  letters = c.in-Ok.letters;
  step = search rules;
  entries = search rules;
  unsaid = search rules;
})

pub invariant_of-self-2 : goal.invariant_of-self-2
invariant_of-self-2 c =
    let entries : All IsEntryInRange c.push_entry.new.entries.items =
    subst (All IsEntryInRange) (sym c.push_entry.ensures) (entries_behind c.reserve.new.self.items c.entry_of.result (subst (All IsEntryInRange) (sym c.reserve.ensures.items) c.self.invariant.0) c.entry_of.ensures.range) in
    let unsaid : All IsUnsaid c.push_reserved.new.self.items =
    subst (All IsUnsaid) (sym c.push_reserved.ensures.items)
    (All-push IsUnsaid c.reserve-else-is_err.new.self.items (c.args.shard, c.in-Ok.letters) (subst (All IsUnsaid) (sym c.reserve-else-is_err.ensures.items) c.self.invariant.1) (c.requires.shard, c.in-Ok.ensures.in_range)) in (
      entries,
      unsaid,
      subst (λ (l : List (ℕ × List Letter)). AreNotesAlone c.push_entry.new.entries.items l) (sym c.push_reserved.ensures.items) (alone_behind c.push_entry.new.entries.items c.reserve-else-is_err.new.self.items (c.args.shard, c.in-Ok.letters)),
    )
