-- The replies from here on, whatever comes and whatever is told.
use Rattle.std.specs.Prelude.{◌≡◌, ◌<◌, ⊤, ℕ, List, [], ◌++◌, length, map, Option, None, Some, Result, Ok, Err}
use Rattle.hk_lines.specs.Cut.{Cutting}
use Rattle.hk_outside.specs.declared.desk.Asked.{Asked}
use Rattle.hk_outside.specs.declared.desk.DeskReply.{DeskReply}
use Rattle.hk_request.specs.declared.request.StoreHead.{StoreHead}
use Rattle.hk_conn.specs.declared.said.Said.{Said}
use Rattle.hk_conn.specs.declared.said.Said.TheVariants.{LongLine, Left}
use Rattle.hk_conn.specs.declared.said.Stop.{Stop}
use Rattle.hk_conn.specs.declared.said.Stop.TheVariants as stop
use Rattle.hk_conn.specs.Heard.{told_of}
use Rattle.hk_conn.specs.Heard.{AsksMore}
use Rattle.hk_conn.specs.Turns.{ahead, IsReader}
use Rattle.hk_conn.specs.Served.{Out, before, replies}

-- a reader at some moment
pub record Place : Type 0 where
  pub pending : Option StoreHead
  pub cutting : Cutting

abbrev pub place_of : Option StoreHead → Cutting → Place
place_of pending cutting = record { pending = pending; cutting = cutting }

-- the replies from a place on, once more came
abbrev pub replies_from : ℕ → Place → List ℕ → List (Option DeskReply) → Out
replies_from m p more told = replies m (ahead p.pending p.cutting more) told

abbrev pub ends_with : Said → List (Option DeskReply) → Out
ends_with s later = record { text = []; asks = []; later = Some later; last = Some s }

-- the replies behind a stop
abbrev pub behind_stop : Stop → ℕ → Place → List ℕ → List (Option DeskReply) → Out
behind_stop stop.Need m p more later = replies_from m p more later
behind_stop stop.Full m p more later = replies_from m p more later
behind_stop stop.Quit m p more later = ends_with Left later
behind_stop stop.TooLong m p more later = ends_with LongLine later

-- the replies between two moments
pub record Replying (m : ℕ) (asks asks' : Option (List Asked)) (old new : List ℕ) (p : Place) (after : List ℕ → List (Option DeskReply) → Out) : Type 0 where
  pub text : List ℕ
  pub made : List Asked
  pub grown : AsksMore asks asks' made
  pub put : new ≡ old ++ text
  pub goes : (more : List ℕ) (later : List (Option DeskReply)) → replies_from m p more (map told_of made ++ later) ≡ before text made (after more later)

-- the asks that were made are called for
pub record Breaks (m : ℕ) (asks asks' : Option (List Asked)) (p : Place) : Type 0 where
  pub made : List Asked
  pub grown : AsksMore asks asks' made
  pub called : (more : List ℕ) → (replies_from m p more (map told_of made)).asks ≡ made

-- what is known of the reader at a stop; less is unread after so much was answered that it is written first
abbrev pub Idles : Stop → Place → Place → Type 0
Idles stop.Need p p' = IsReader p'.cutting p'.pending × (ahead p'.pending p'.cutting [] ≡ [])
Idles stop.Full p p' = IsReader p'.cutting p'.pending × (length p'.cutting.unread < length p.cutting.unread)
Idles stop.Quit p p' = ⊤
Idles stop.TooLong p p' = ⊤

abbrev pub Passes : {E : Type 0} → Result Stop E → ℕ → Option (List Asked) → Option (List Asked) → List ℕ → List ℕ → Place → Place → Type 0
Passes (Ok s) m asks asks' old new p p' = Replying m asks asks' old new p (behind_stop s m p') × Idles s p p'
Passes (Err e) m asks asks' old new p p' = Breaks m asks asks' p

abbrev pub stop_at : Said → Option Stop
stop_at Left = Some stop.Quit
stop_at LongLine = Some stop.TooLong
stop_at s = None
