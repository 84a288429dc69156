-- The whole run, or its first failure.
use Rattle.std.proofs.Common.{◌≡◌, ◌≢◌, ◌⊎◌, ◌<◌, ◌+◌, ℕ, List, [], ◌∷◌, length, Option, Some, None, refl, sym, ap, subst, ◌∙◌, inl, inr, arith, slice_get}
use Rattle.std.specs.List.{AllByRecursion}
use Rattle.std.proofs.lemmas.Option.{slice_get_within}
use Rattle.hk_base.specs.declared.stamp.NodeId.{NodeId}
use Rattle.hk_base.specs.declared.call.Answer.{Answer}
use Rattle.hk_journal.specs.declared.step_entry.JournalEntry.{JournalEntry}
use Rattle.hk_event.specs.declared.event.Header.{Header}
use Rattle.hk_event.specs.declared.event.Event.{Event}
use Rattle.hk_world.specs.World.{WorldState}
use Rattle.hk_world.specs.Start.{start}
use Rattle.hk_safety.specs.Run.{RunState, world_of}
use Rattle.hk_merge.specs.declared.note.Note.{Note}
use Rattle.hk_merge.specs.Merged.{JournalList, Item, Step, LocalRead, In, Rises, journal_or, journal_of, IsFounded, IsItem, AreMerged}
use Rattle.hk_merge.specs.Shows.{IsKeptAt, ReadShows, KeptIsShown}
use Rattle.hk_assemble.specs.declared.gap.Gap.{Gap}
use Rattle.hk_assemble.specs.declared.gap.Gap.TheVariants as Gap
use Rattle.hk_assemble.specs.SentLetters.{Buckets}
use Rattle.hk_assemble.specs.Assembly.{Kepts, kept_at, IsAssembly}
use Rattle.hk_assemble.specs.Assemblies.{OrMemory}
use Rattle.hk_assemble.specs.Checking.{AreRight, IsFirstWrong}
use Rattle.hk_assemble.specs.Assembled.{IsKept, FailsFirst, IsGap, IsRunOf}

holds : (P : Item → Type 0) (items : List Item) (x : Item) → AllByRecursion P items → In items x → P x
holds P [] x all is = absurd is
holds P (y ∷ items) x all (inl same) = subst P (sym same) all.0
holds P (y ∷ items) x all (inr more) = holds P items x all.1 more

-- the note whose Read was answered
look_in : (w : WorldState) (items : List Item) (events : List Event) (listed : ℕ) (answer : Answer) → ReadShows w items events listed answer → (note : Note) × In items (LocalRead listed note)
look_in w [] events listed answer shows = absurd shows
look_in w (Step n entry ∷ items) [] listed answer shows = absurd shows
look_in w (LocalRead i note ∷ items) [] listed answer shows = absurd shows
look_in w (Step n entry ∷ items) (e ∷ events) listed answer (a, ok, shows) = let m = look_in a.world items events listed answer shows in (m.0, inr m.1)
look_in w (LocalRead i note ∷ items) (e ∷ events) listed answer (a, ok, inl (same, is)) = (note, inl (ap (λ (k : ℕ). LocalRead k note) (sym same)))
look_in w (LocalRead i note ∷ items) (e ∷ events) listed answer (a, ok, inr shows) = let m = look_in a.world items events listed answer shows in (m.0, inr m.1)

some_note : (a b : Note) → Some a ≡ Some b → a ≡ b
some_note a b e = ap or e
  where
    or : Option Note → Note
    or None = a
    or (Some n) = n

some_answer : (a b : Answer) → Some a ≡ Some b → a ≡ b
some_answer a b e = ap or e
  where
    or : Option Answer → Answer
    or None = a
    or (Some n) = n

-- a node with an entry has a journal
has_journal : (journals : JournalList) (node : NodeId) (entry : JournalEntry) → In (journal_of journals node) entry → node.0 < length journals
has_journal journals node entry is = by_journal (slice_get journals node.0) refl is
  where
    by_journal : (o : Option (List JournalEntry)) → slice_get journals node.0 ≡ o → In (journal_or o) entry → node.0 < length journals
    by_journal None at is = absurd is
    by_journal (Some journal) at is = slice_get_within journals node.0 journal at

module _ (header : Header) (journals : JournalList) (notes : List Note) (items : List Item) (run : RunState) (sent : Buckets) (kept : Kepts) (assembly : IsAssembly header run sent kept items) (merged_is : AreMerged journals notes items)
    (shown : KeptIsShown) (rises : (n : NodeId) → Rises (journal_of journals n)) (alone : header.managers ≡ 0) (whole : length journals ≡ header.nodes) where
  founded_kept : (listed : ℕ) (note : Note) → slice_get notes listed ≡ Some note → IsFounded journals note → (answer : Answer) × IsKeptAt header items note answer × (kept_at listed kept ≡ Some answer)
  founded_kept listed note lists (entry, has, at) =
      let k = shown header journals notes items run.events (world_of run) listed note rises merged_is assembly.goes lists (entry, has, at) alone (subst (λ (n : ℕ). note.node.0 < n) whole (has_journal journals note.node entry has)) in
      (k.0, k.1, assembly.keeps listed k.0 k.2)

  told_founded : (listed : ℕ) (note : Note) (answer : Answer) → slice_get notes listed ≡ Some note → kept_at listed kept ≡ Some answer → IsFounded journals note
  told_founded listed note answer lists is =
      let l = look_in (start header) items run.events listed answer (assembly.shows listed answer is) in
      let item : IsItem journals notes (LocalRead listed l.0) = holds (IsItem journals notes) items (LocalRead listed l.0) merged_is.only l.1 in
      subst (λ (n : Note). IsFounded journals n) (some_note l.0 note (sym item.0 ∙ lists)) item.1

  kept_is : (listed : ℕ) (note : Note) (o : Option Answer) → slice_get notes listed ≡ Some note → kept_at listed kept ≡ o → IsKept header journals items note o
  kept_is listed note None lists is = λ founded. never ((founded_kept listed note lists founded).0) (sym is ∙ (founded_kept listed note lists founded).2)
    where
      never : (x : Answer) → None ≡ Some x → ⊥
      never x e = cc
  kept_is listed note (Some answer) lists is =
      let k = founded_kept listed note lists (told_founded listed note answer lists is) in
      subst (λ (x : Answer). IsKeptAt header items note x) (some_answer k.0 answer (sym k.2 ∙ is)) k.1

  pub run_is : ((i : ℕ) (note : Note) → slice_get notes i ≡ Some note → kept_at i kept ≡ Some note.answer) → IsRunOf header notes items run
  run_is right = record { same = assembly.same; goes = assembly.goes; told = λ listed note lists. assembly.shows listed note.answer (right listed note lists) }

  pub gap_is : (gap : Gap) → IsFirstWrong kept notes gap → IsGap header journals notes items gap
  gap_is Gap.Memory wrong = tt
  gap_is (Gap.Letter taken s) wrong = absurd wrong.wrong
  gap_is (Gap.Entry node ticket given) wrong = absurd wrong.wrong
  gap_is (Gap.Note call ticket told k) wrong = (
    run.events,
    world_of run,
    assembly.goes,
    wrong.listed,
    wrong.note,
    wrong.wrong.0,
    wrong.wrong.1,
    wrong.wrong.2,
    record {
      lists = wrong.lists;
      kept_is = kept_is wrong.listed wrong.note k wrong.lists (sym wrong.wrong.3);
      other = subst (λ (o : Option Answer). o ≢ Some wrong.note.answer) (sym wrong.wrong.3) wrong.wrong.4;
      first = λ i earlier lower lists. kept_is i earlier (Some earlier.answer) lists (wrong.before i earlier lower lists);
    },
  )

-- an entry that fails
pub failed_is : (header : Header) (journals : JournalList) (notes : List Note) (items : List Item) (gap : Gap) → OrMemory gap (FailsFirst header items gap) → IsGap header journals notes items gap
failed_is header journals notes items Gap.Memory fails = tt
failed_is header journals notes items (Gap.Letter taken s) fails = fails
failed_is header journals notes items (Gap.Entry node ticket given) fails = fails
failed_is header journals notes items (Gap.Note call ticket told k) fails = absurd fails.fails

-- ---- notes, one after the other
pub right_more : (kept : Kepts) (notes : List Note) (place : ℕ) (note : Note) → AreRight kept notes place → slice_get notes place ≡ Some note → kept_at place kept ≡ Some note.answer → AreRight kept notes (place + 1)
right_more kept notes place note before lists right i n lower at = by_place (which i place lower)
  where
    which : (i place : ℕ) → i < place + 1 → (i < place) ⊎ (i ≡ place)
    which i place lower = grind arith

    by_place : (i < place) ⊎ (i ≡ place) → kept_at i kept ≡ Some n.answer
    by_place (inl low) = before i n low at
    by_place (inr here) =
        let same : note ≡ n = some_note note n (sym lists ∙ subst (λ (k : ℕ). slice_get notes k ≡ Some n) here at) in
        subst (λ (k : ℕ). kept_at k kept ≡ Some n.answer) (sym here) (subst (λ (m : Note). kept_at place kept ≡ Some m.answer) same right)

pub all_right : (kept : Kepts) (notes : List Note) → AreRight kept notes (length notes) → (i : ℕ) (note : Note) → slice_get notes i ≡ Some note → kept_at i kept ≡ Some note.answer
all_right kept notes right i note at = right i note (slice_get_within notes i note at) at
