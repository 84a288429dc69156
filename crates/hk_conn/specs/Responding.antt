-- The replies that are written from here on, whatever comes and whatever is told.
use Rattle.std.specs.Prelude.{◌≡◌, ℕ, List, [], ◌++◌, take, map, Option, Result, Ok, Err, ⊤}
use Rattle.std.specs.Io.KnownBytes.{Appends}
use Rattle.hk_outside.specs.declared.desk.Asked.{Asked}
use Rattle.hk_outside.specs.declared.desk.DeskReply.{DeskReply}
use Rattle.hk_conn.specs.declared.ends.ConnEnd.{ConnEnd}
use Rattle.hk_conn.specs.declared.ends.ConnEnd.TheVariants as ends
use Rattle.hk_conn.specs.declared.said.Stop.{Stop}
use Rattle.hk_conn.specs.declared.said.Stop.TheVariants as stop
use Rattle.hk_conn.specs.Heard.{AsksMore, told_of}
use Rattle.hk_conn.specs.Turns.{ahead, IsReader}
use Rattle.hk_conn.specs.Served.{Out, before}
use Rattle.hk_conn.specs.Serving.{Place, replies_from, behind_stop}

-- the replies that were written between two moments
pub record Responding (m : ℕ) (held held' : Option (List ℕ)) (asks asks' : Option (List Asked)) (p : Place) (after : List ℕ → List (Option DeskReply) → Out) : Type 0 where
  pub text : List ℕ
  pub made : List Asked
  pub grown : AsksMore asks asks' made
  pub put : Appends held held' text
  pub goes : (more : List ℕ) (later : List (Option DeskReply)) → replies_from m p more (map told_of made ++ later) ≡ before text made (after more later)

-- the asks that were made are called for, and a front of the replies was written
pub record IsCutShort (m : ℕ) (held held' : Option (List ℕ)) (asks asks' : Option (List Asked)) (p : Place) : Type 0 where
  pub made : List Asked
  pub grown : AsksMore asks asks' made
  pub called : (replies_from m p [] (map told_of made)).asks ≡ made
  pub front : (n : ℕ) × Appends held held' (take n (replies_from m p [] (map told_of made)).text)

-- what is known of the reader where all that was said is answered
abbrev pub Rests : Stop → Place → Type 0
Rests stop.Need p = IsReader p.cutting p.pending × (ahead p.pending p.cutting [] ≡ [])
Rests stop.Full p = ⊥
Rests stop.Quit p = ⊤
Rests stop.TooLong p = ⊤

abbrev pub Responds : Result Stop ConnEnd → ℕ → Option (List ℕ) → Option (List ℕ) → Option (List Asked) → Option (List Asked) → Place → Place → Type 0
Responds (Ok s) m held held' asks asks' p p' = Responding m held held' asks asks' p (behind_stop s m p') × Rests s p'
Responds (Err ends.Memory) m held held' asks asks' p p' = IsCutShort m held held' asks asks' p
Responds (Err ends.WriteFault) m held held' asks asks' p p' = IsCutShort m held held' asks asks' p
Responds (Err end) m held held' asks asks' p p' = ⊥
