-- A connection between its calls.
use Rattle.std.specs.Prelude.{◌≡◌, ℕ, List, ◌++◌, map, Option}
use Rattle.std.specs.Io.KnownBytes.{Appends, Consumes}
use Rattle.hk_outside.specs.declared.desk.Asked.{Asked}
use Rattle.hk_outside.specs.declared.desk.DeskReply.{DeskReply}
use Rattle.hk_conn.specs.Counted.{HasGiven}
use Rattle.hk_conn.specs.Heard.{told_of}
use Rattle.hk_conn.specs.Heard.{AsksMore}
use Rattle.hk_conn.specs.Said.{said_in}
use Rattle.hk_conn.specs.Served.{Out, before, replies}

-- what was read, asked and written so far, and the replies that are still to come
pub record IsServing (m : ℕ) (left left' : Option (List ℕ)) (given given' : Option (List (List ℕ))) (held held' : Option (List ℕ)) (asks asks' : Option (List Asked)) (turns : ℕ) (after : List ℕ → List (Option DeskReply) → Out) : Type 0 where
  pub read : List ℕ
  pub made : List Asked
  pub text : List ℕ
  pub consumed : Consumes left left' read
  pub asked : AsksMore asks asks' made
  pub written : Appends held held' text
  pub reads : HasGiven given given' read turns
  pub goes : (more : List ℕ) (later : List (Option DeskReply)) → replies m (said_in (read ++ more)) (map told_of made ++ later) ≡ before text made (after more later)
