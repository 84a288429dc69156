-- How a connection ends, and what was served by then.
use Rattle.std.specs.Prelude.{◌≡◌, ℕ, List, [], take, map, Option, None, Some}
use Rattle.std.specs.Io.KnownBytes.{Appends, Consumes, IsAtEnd}
use Rattle.hk_outside.specs.declared.desk.Asked.{Asked}
use Rattle.hk_conn.specs.declared.said.Said.{Said}
use Rattle.hk_conn.specs.declared.said.Said.TheVariants.{LongLine, Left}
use Rattle.hk_conn.specs.declared.ends.ConnEnd.{ConnEnd}
use Rattle.hk_conn.specs.declared.ends.ConnEnd.TheVariants as ends
use Rattle.hk_conn.specs.Counted.{AreRead}
use Rattle.hk_conn.specs.Heard.{AsksMore, told_of}
use Rattle.hk_conn.specs.Served.{Out, served}

-- all that was said is answered, all replies were written, and this was said last
abbrev pub IsWhole : Option (List ℕ) → Option (List ℕ) → Out → Option Said → Type 0
IsWhole held held' out last = Appends held held' out.text × (out.last ≡ last) × (out.later ≡ Some [])

-- What was written of the replies, and what was said last, at each end. So `Quit` comes exactly at a quit, `TooLong`
-- exactly at a long line, and `End` only where the source has nothing left.
abbrev pub Written : ConnEnd → List ℕ → Option (List ℕ) → Option (List ℕ) → Option (List ℕ) → Out → Type 0
Written ends.Quit read left' held held' out = IsWhole held held' out (Some Left)
Written ends.TooLong read left' held held' out = IsWhole held held' out (Some LongLine)
Written ends.End read left' held held' out = IsWhole held held' out None × IsAtEnd left'
Written ends.ReadFault read left' held held' out = IsWhole held held' out None
Written (ends.Spent reads) read left' held held' out = IsWhole held held' out None
Written ends.WriteFault read left' held held' out = (n : ℕ) × Appends held held' (take n out.text)
Written ends.Memory read left' held held' out = (n : ℕ) × Appends held held' (take n out.text)

-- The bytes that were read and the asks that were made in a call: the asks are those that the bytes call for, and what
-- was written is the text that is served for them.
pub record Serves (patience : ℕ) (ended : ConnEnd) (left left' : Option (List ℕ)) (given given' : Option (List (List ℕ))) (held held' : Option (List ℕ)) (asks asks' : Option (List Asked)) : Type 0 where
  pub read : List ℕ
  pub made : List Asked
  pub consumed : Consumes left left' read
  pub reads : AreRead ended given given' read
  pub asked : AsksMore asks asks' made
  pub called : (served read patience (map told_of made)).asks ≡ made
  pub written : Written ended read left' held held' (served read patience (map told_of made))
