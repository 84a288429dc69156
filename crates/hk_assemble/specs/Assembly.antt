-- What the loop over the merged list keeps.
use Rattle.std.specs.Prelude.{◌≡◌, ℕ, List, [], length, Option, Some}
use Rattle.std.specs.Ordering.{nat_cmp}
use Rattle.std.specs.BTreeMap.{is_at}
use Rattle.std.specs.Map.{lookup}
use Rattle.hk_base.specs.declared.call.Answer.{Answer}
use Rattle.hk_event.specs.declared.event.Header.{Header}
use Rattle.hk_world.specs.Start.{start}
use Rattle.hk_merge.specs.Merged.{Item, tickets_of, Goes}
use Rattle.hk_merge.specs.Shows.{ReadShows}
use Rattle.hk_safety.specs.Run.{RunState, world_of}
use Rattle.hk_assemble.specs.SentLetters.{Buckets}
use Rattle.hk_assemble.specs.Known.{Knows}

-- what a note's Read was answered, by the note's place in the list of notes
abbrev pub Kepts : Type 0
Kepts = List (ℕ × Answer)

abbrev pub kept_at : ℕ → Kepts → Option Answer
kept_at listed kept = lookup (is_at (nat_cmp listed)) kept

-- The run is that of the items so far; the letters that it sent are known, and so is what each note's Read was answered.
pub record IsAssembly (header : Header) (run : RunState) (sent : Buckets) (kept : Kepts) (front : List Item) : Type 0 where
  pub same : run.header ≡ header
  pub goes : Goes (start header) [] front run.events (world_of run)
  pub counted : length (tickets_of [] front) ≡ length (world_of run).letters
  pub knows : Knows sent (world_of run).letters (tickets_of [] front)
  pub shows : (listed : ℕ) (answer : Answer) → kept_at listed kept ≡ Some answer → ReadShows (start header) front run.events listed answer
  pub keeps : (listed : ℕ) (answer : Answer) → ReadShows (start header) front run.events listed answer → kept_at listed kept ≡ Some answer
