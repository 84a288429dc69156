-- What the code hears, beside what is heard.
use Rattle.std.specs.Prelude.{◌≡◌, ℕ, List, ◌∷◌, ◌++◌, map, Option, None, Some, Result, Ok, Err}
use Rattle.hk_base.specs.declared.call.Op.{Op}
use Rattle.hk_outside.specs.declared.desk.Asked.{Asked}
use Rattle.hk_outside.specs.declared.desk.DeskReply.{DeskReply}
use Rattle.hk_conn.specs.Heard.{AsksMore, told_of, ask_of, heard, Hearing}

abbrev pub told : {E : Type 0} → Result DeskReply E → Option DeskReply
told (Ok r) = Some r
told (Err e) = None

abbrev pub with_asks : List Asked → Hearing → Hearing
with_asks made h = record h { asks = made ++ h.asks }

-- these asks were made, and this is what they tell, whatever is told afterwards
pub record Hears (more : ℕ) (asks asks' : Option (List Asked)) (key : List ℕ) (o : Op) (last : Option DeskReply) : Type 0 where
  pub made : List Asked
  pub grown : AsksMore asks asks' made
  pub hears : (later : List (Option DeskReply)) → heard more key o (map told_of made ++ later) ≡ record { last = Some last; asks = made; later = later }

-- the same of the asks behind a first one, which was told this
pub record HearsOn (more : ℕ) (asks asks' : Option (List Asked)) (key : List ℕ) (o : Op) (first last : Option DeskReply) : Type 0 where
  pub made : List Asked
  pub grown : AsksMore asks asks' made
  pub hears : (later : List (Option DeskReply)) → heard more key o (first ∷ (map told_of made ++ later)) ≡ record { last = Some last; asks = ask_of key o first ∷ made; later = later }
