-- Of one input one answer is told, but for want of memory.
use Rattle.std.specs.Prelude.{◌≡◌, ⊤, List, Ok, Err, length}
use Rattle.hk_base.specs.declared.stamp.NodeId.{NodeId}
use Rattle.hk_event.specs.declared.event.Header.{Header}
use Rattle.hk_safety.specs.Run.{RunState}
use Rattle.hk_merge.specs.declared.note.Note.{Note}
use Rattle.hk_merge.specs.Merged.{JournalList, Rises, journal_of}
use Rattle.hk_assemble.specs.declared.gap.Gap.{Gap}
use Rattle.hk_assemble.specs.declared.gap.Gap.TheVariants as Gap
use Rattle.hk_assemble.specs.Assembled.{IsAssembled}

-- something is told, other than want of memory
abbrev pub IsTelling : Gap → Type 0
IsTelling Gap.Memory = ⊥
IsTelling (Gap.Letter taken sent) = ⊤
IsTelling (Gap.Entry node ticket given) = ⊤
IsTelling (Gap.Note call ticket told kept) = ⊤

-- There is one run, or one entry or note that fails, and not both.
pub record IsOne (header : Header) (journals : JournalList) (notes : List Note) : Type 0 where
  pub runs : (a b : RunState) → IsAssembled (Ok a) header journals notes → IsAssembled (Ok b) header journals notes → a ≡ b
  pub gaps : (a b : Gap) → IsTelling a → IsTelling b → IsAssembled (Err a) header journals notes → IsAssembled (Err b) header journals notes → a ≡ b
  pub never_both : (run : RunState) (gap : Gap) → IsTelling gap → IsAssembled (Ok run) header journals notes → IsAssembled (Err gap) header journals notes → ⊥

abbrev pub AnswersAreOne : Type 0
AnswersAreOne = (header : Header) (journals : JournalList) (notes : List Note) → header.managers ≡ 0 → ((node : NodeId) → Rises (journal_of journals node)) → length journals ≡ header.nodes → IsOne header journals notes
