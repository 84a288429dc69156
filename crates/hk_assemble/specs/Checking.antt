-- What is told of notes.
use Rattle.std.specs.Prelude.{◌≡◌, ◌≢◌, ◌<◌, ⊤, ℕ, List, Option, Some, Result, Ok, Err, slice_get}
use Rattle.hk_base.specs.declared.call.Answer.{Answer}
use Rattle.hk_merge.specs.declared.note.Note.{Note}
use Rattle.hk_assemble.specs.declared.gap.Gap.{Gap}
use Rattle.hk_assemble.specs.declared.gap.Gap.TheVariants as Gap
use Rattle.hk_assemble.specs.Assembly.{Kepts, kept_at}

-- what is told of a note that was told something else; want of memory tells nothing
abbrev pub IsWrong : Gap → Option Answer → Note → Type 0
IsWrong (Gap.Note call ticket told kept) answer note = (call ≡ note.call) × (ticket ≡ note.ticket) × (told ≡ note.answer) × (kept ≡ answer) × (answer ≢ Some note.answer)
IsWrong Gap.Memory answer note = ⊤
IsWrong (Gap.Letter taken sent) answer note = ⊥
IsWrong (Gap.Entry node ticket given) answer note = ⊥

abbrev pub IsChecked : {U : Type 0} → Result U Gap → Option Answer → Note → Type 0
IsChecked (Ok done) answer note = answer ≡ Some note.answer
IsChecked (Err gap) answer note = IsWrong gap answer note

-- the notes before this place were told what their Reads were answered
abbrev pub AreRight : Kepts → List Note → ℕ → Type 0
AreRight kept notes place = (i : ℕ) (note : Note) → i < place → slice_get notes i ≡ Some note → kept_at i kept ≡ Some note.answer

-- this is the first that was not
pub record IsFirstWrong (kept : Kepts) (notes : List Note) (gap : Gap) : Type 0 where
  pub listed : ℕ
  pub note : Note
  pub lists : slice_get notes listed ≡ Some note
  pub wrong : IsWrong gap (kept_at listed kept) note
  pub before : AreRight kept notes listed

abbrev pub AreChecked : {U : Type 0} → Result U Gap → Kepts → List Note → Type 0
AreChecked (Ok done) kept notes = (i : ℕ) (note : Note) → slice_get notes i ≡ Some note → kept_at i kept ≡ Some note.answer
AreChecked (Err gap) kept notes = IsFirstWrong kept notes gap
