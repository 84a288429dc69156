-- What the code appends, beside the replies.
use Rattle.std.specs.Prelude.{◌≡◌, ℕ, List, [], ◌++◌, map, Bool, Option, None, Some, Result, Ok, Err, OnOk, IfSome}
use Rattle.hk_base.specs.declared.call.Op.TheVariants.{Read}
use Rattle.hk_outside.specs.declared.desk.Asked.{Asked}
use Rattle.hk_outside.specs.declared.desk.DeskReply.{DeskReply}
use Rattle.hk_request.specs.declared.request.Request.TheVariants as request
use Rattle.hk_reply.specs.declared.reply.Reply.TheVariants as reply
use Rattle.hk_reply.specs.declared.reply.ClientText.TheVariants as client
use Rattle.hk_reply.specs.declared.reply.ServerText.{ServerText}
use Rattle.hk_reply.specs.Texts.{text_of}
use Rattle.hk_conn.specs.declared.said.Said.{Said}
use Rattle.hk_conn.specs.declared.said.Said.TheVariants as said
use Rattle.hk_conn.specs.Heard.{told_of}
use Rattle.hk_conn.specs.Heard.{AsksMore}
use Rattle.hk_conn.specs.Asking.{Hears}
use Rattle.hk_conn.specs.Served.{replied, refusal, bad_end, found_text, keys_read}

-- the reply to what asks no desk
abbrev pub plain_text : Said → List ℕ
plain_text (said.Asked request.Version) = text_of reply.Version
plain_text (said.Asked r) = []
plain_text (said.Refused c) = text_of (refusal c)
plain_text (said.BadEnd noreply) = bad_end noreply
plain_text said.LongLine = text_of (reply.ClientError client.TooLong)
plain_text said.Left = []

-- the last thing that is said, if this is it
abbrev pub last_of : Said → Option Said
last_of said.LongLine = Some said.LongLine
last_of said.Left = Some said.Left
last_of s = None

-- the reply was appended, whatever is told afterwards
pub record Replied (more : ℕ) (asks asks' : Option (List Asked)) (old new : List ℕ) (s : Said) : Type 0 where
  pub text : List ℕ
  pub made : List Asked
  pub grown : AsksMore asks asks' made
  pub put : new ≡ old ++ text
  pub replies : (later : List (Option DeskReply)) → replied more s (map told_of made ++ later) ≡ record { text = text; asks = made; later = Some later; last = last_of s }

-- the asks that were made are called for
pub record Stopped (more : ℕ) (asks asks' : Option (List Asked)) (s : Said) : Type 0 where
  pub made : List Asked
  pub grown : AsksMore asks asks' made
  pub called : (replied more s (map told_of made)).asks ≡ made
  pub none : IfSome (replied more s (map told_of made)).later (λ later. later ≡ [])

abbrev pub Answers : {E : Type 0} → Result (Unit {0}) E → ℕ → Option (List Asked) → Option (List Asked) → List ℕ → List ℕ → Said → Type 0
Answers (Ok u) more asks asks' old new s = Replied more asks asks' old new s
Answers (Err e) more asks asks' old new s = Stopped more asks asks' s

-- what one key gives was appended, or its error is told
abbrev pub Finds : {E : Type 0} → Result (Option ServerText) E → List ℕ → List ℕ → Result (List ℕ) ServerText → Type 0
Finds (Ok None) old new (Ok text) = new ≡ old ++ text
Finds (Ok None) old new (Err e) = ⊥
Finds (Ok (Some e)) old new (Ok text) = ⊥
Finds (Ok (Some e)) old new (Err e') = (e' ≡ e) × (junk : List ℕ) × (new ≡ old ++ junk)
Finds (Err m) old new found = Unit {0}

pub record KeyAnswers {E : Type 0} (result : Result (Option ServerText) E) (more : ℕ) (tags : Bool) (room : ℕ) (asks asks' : Option (List Asked)) (old new key : List ℕ) : Type 0 where
  pub last : Option DeskReply
  pub hears : Hears more asks asks' key Read last
  pub finds : Finds result old new (found_text tags key room last)

-- the values were appended, or their error is told
abbrev pub Reads : {E : Type 0} → Result (Option ServerText) E → List ℕ → List ℕ → Option (Result (List ℕ) ServerText) → Type 0
Reads (Ok None) old new (Some (Ok text)) = new ≡ old ++ text
Reads (Ok (Some e)) old new (Some (Err e')) = (e' ≡ e) × (junk : List ℕ) × (new ≡ old ++ junk)
Reads (Err m) old new read = Unit {0}
Reads r old new read = ⊥

pub record KeysAnswer {E : Type 0} (result : Result (Option ServerText) E) (more : ℕ) (tags : Bool) (room : ℕ) (asks asks' : Option (List Asked)) (old new : List ℕ) (keys : List (List ℕ)) : Type 0 where
  pub made : List Asked
  pub grown : AsksMore asks asks' made
  pub called : (keys_read more tags room keys (map told_of made)).asks ≡ made
  pub none : (keys_read more tags room keys (map told_of made)).later ≡ []
  pub read : Option (Result (List ℕ) ServerText)
  pub reads : Reads result old new read
  pub whole : OnOk result ((later : List (Option DeskReply)) → keys_read more tags room keys (map told_of made ++ later) ≡ record { text = read; asks = made; later = later })
