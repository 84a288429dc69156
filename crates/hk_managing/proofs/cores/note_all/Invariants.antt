use Rattle.std.proofs.Common.{◌≡◌}
use Rattle.hk_managing.specs.Turns.{all_noted}
use Rattle.hk_managing.proofs.cores.note_all.Given as goal

-- what the rest makes of the post, all make of it
abbrev pub invariant-loop-entry : goal.invariant-loop-entry
invariant-loop-entry g l =
    (all_noted l.post.batch l.entry-iterator.rest.items ≡ all_noted l.fn.post.batch l.fn.notes.items) × (l.post.inlet ≡ l.fn.post.inlet) × (l.post.outlets ≡ l.fn.post.outlets) × (l.post.writer ≡ l.fn.post.writer)
