-- How a connection stands whose bytes may come before they are asked for, and what becomes of it.
use Rattle.std.specs.Prelude.{◌≡◌, ℕ, ◌≤◌, List, [], ◌++◌, take, Option, Result, Ok, Err}
use Rattle.std.specs.Io.KnownBytes.{Appends, Consumes, IsAtEnd}
use Rattle.hk_outside.specs.Causes.{Rose}
use Rattle.hk_outside.specs.Records.{Gave, GaveAll}

pub record Standing : Type 0 where
  -- the bytes that the connection has left, where it tells them
  pub left : Option (List ℕ)
  -- the pieces that it gave, where it records them
  pub given : Option (List (List ℕ))
  -- what was written to it, where it tells that
  pub held : Option (List ℕ)
  -- how often reading it failed, and writing
  pub read_faults : ℕ
  pub write_faults : ℕ
  -- the pieces that whoever reads it as a source was given
  pub gave : List (List ℕ)
  -- the bytes that came and that nobody took yet
  pub unread : List ℕ

-- how it stands by what is known of the connection
module _ {C : Type 0} (left : C → Option (List ℕ)) (given : C → Option (List (List ℕ))) (held : C → Option (List ℕ)) (read_faults write_faults : C → ℕ) where
  abbrev pub standing_of : C → List (List ℕ) → List ℕ → Standing
  standing_of conn gave unread = record {
    left = left conn;
    given = given conn;
    held = held conn;
    read_faults = read_faults conn;
    write_faults = write_faults conn;
    gave = gave;
    unread = unread;
  }

-- Some bytes were taken off a connection, and some were written to it, and nothing else: those that were taken are the
-- first of what was there and what came, and what came beyond them is there for whoever reads next.
pub record Passes (s s' : Standing) (taken written : List ℕ) : Type 0 where
  -- what came meanwhile
  pub came : List ℕ
  pub consumed : Consumes s.left s'.left came
  pub recorded : Gave s.given s'.given came
  pub same : s.unread ++ came ≡ taken ++ s'.unread
  pub wrote : Appends s.held s'.held written
  pub read_later : s.read_faults ≤ s'.read_faults
  pub write_later : s.write_faults ≤ s'.write_faults
  pub gave : s'.gave ≡ s.gave

-- the connection told its end
pub record IsOver (s s' : Standing) : Type 0 where
  pub none_left : IsAtEnd s'.left
  pub came : List ℕ
  pub told : GaveAll s.given s'.given came

-- all of a text was written; or a front of it, and the count of faults rose
abbrev pub Writes : {E : Type 0} → Result (Unit {0}) E → List ℕ → Standing → Standing → Type 0
Writes (Ok done) text s s' = Passes s s' [] text
Writes (Err e) text s s' = (n : ℕ) × Passes s s' [] (take n text) × Rose s.write_faults s'.write_faults
