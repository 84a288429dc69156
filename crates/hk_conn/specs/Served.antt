-- The replies to what a client says, and what a desk is asked for it, by what the desk tells.
use Rattle.std.specs.Prelude.{ℕ, ◌-◌, List, [], ◌∷◌, ◌++◌, length, Bool, true, false, Option, None, Some, nat_lt, if◌then◌else◌, codes, Result, Ok, Err}
use Rattle.hk_base.specs.declared.call.Op.TheVariants as op
use Rattle.hk_base.specs.declared.call.Answer.TheVariants as answer
use Rattle.hk_outside.specs.declared.desk.Asked.{Asked}
use Rattle.hk_outside.specs.declared.desk.DeskReply.{DeskReply}
use Rattle.hk_outside.specs.declared.desk.DeskReply.TheVariants.{Told, Unknown, Spent}
use Rattle.hk_request.specs.declared.request.Request.TheVariants as request
use Rattle.hk_request.specs.declared.request.RequestCause.{RequestCause}
use Rattle.hk_request.specs.declared.request.RequestCause.TheVariants as cause
use Rattle.hk_reply.specs.declared.reply.Reply.{Reply}
use Rattle.hk_reply.specs.declared.reply.Reply.TheVariants as reply
use Rattle.hk_reply.specs.declared.reply.ClientText.TheVariants as client
use Rattle.hk_reply.specs.declared.reply.ServerText.{ServerText}
use Rattle.hk_reply.specs.declared.reply.ServerText.TheVariants as server
use Rattle.hk_reply.specs.Texts.{text_of, server_text, value_text}
use Rattle.hk_conn.specs.declared.said.Said.{Said}
use Rattle.hk_conn.specs.declared.said.Said.TheVariants as said
use Rattle.hk_conn.specs.Heard.{Hearing, heard}
use Rattle.hk_conn.specs.Said.{said_in}

-- Text, the asks that it took, what was told behind them, and the quit or long line that was said last, if one was.
-- No `later` where too little was told.
pub record Out : Type 0 where
  pub text : List ℕ
  pub asks : List Asked
  pub later : Option (List (Option DeskReply))
  pub last : Option Said

-- text and asks, and then more
abbrev pub before : List ℕ → List Asked → Out → Out
before text asks o = record o { text = text ++ o.text; asks = asks ++ o.asks }

-- the next, by what is told behind this one; nothing follows what is last, nor where too little was told
abbrev pub then_out : Out → (List (Option DeskReply) → Out) → Out
then_out o next = go o.last o.later
  where
    go : Option Said → Option (List (Option DeskReply)) → Out
    go (Some s) later = o
    go None None = o
    go None (Some told) = before o.text o.asks (next told)

-- text that asks nothing
abbrev pub plain : List ℕ → List (Option DeskReply) → Out
plain text told = record { text = text; asks = []; later = Some told; last = None }

-- the reply to an update, by what was told of it
abbrev pub reply_to : Option DeskReply → Reply
reply_to None = reply.ServerError server.Memory
reply_to (Some (Unknown turns)) = reply.ServerError server.Unknown
reply_to (Some (Spent asks)) = reply.ServerError server.Spent
reply_to (Some (Told answer.Stored)) = reply.Stored
reply_to (Some (Told answer.NotStored)) = reply.NotStored
reply_to (Some (Told answer.Deleted)) = reply.Deleted
reply_to (Some (Told answer.Exists)) = reply.Exists
reply_to (Some (Told (answer.Number n))) = reply.Number n
reply_to (Some (Told answer.NotNumber)) = reply.ClientError client.NotNumber
reply_to (Some (Told (answer.Busy why))) = reply.ServerError server.Busy
reply_to (Some (Told (answer.Aborted s))) = reply.ServerError server.Aborted
reply_to (Some (Told (answer.Exhausted s))) = reply.ServerError server.VersionLimit
reply_to (Some (Told a)) = reply.NotFound

-- with noreply nothing is written, whatever was told
abbrev pub update_text : Bool → Option DeskReply → List ℕ
update_text true t = []
update_text false t = text_of (reply_to t)

abbrev pub update_out : Bool → Hearing → Out
update_out noreply h = go h.last
  where
    go : Option (Option DeskReply) → Out
    go None = record { text = []; asks = h.asks; later = None; last = None }
    go (Some t) = record { text = update_text noreply t; asks = h.asks; later = Some h.later; last = None }

-- What one key of a get gives: its value, where there is room for so many bytes, or nothing; or the error that the
-- whole reply then is.
abbrev pub found_text : Bool → List ℕ → ℕ → Option DeskReply → Result (List ℕ) ServerText
found_text tags key room None = Err server.Memory
found_text tags key room (Some (Unknown turns)) = Ok []
found_text tags key room (Some (Spent asks)) = Err server.Spent
found_text tags key room (Some (Told (answer.Busy why))) = Err server.Busy
found_text tags key room (Some (Told (answer.Found c t))) = within room (value_text tags (record { key = key; flags = c.flags; bytes = c.bytes; tag = t }))
  where
    within : ℕ → List ℕ → Result (List ℕ) ServerText
    within room text = if nat_lt room (length text) then Err server.Memory else Ok text
found_text tags key room (Some (Told a)) = Ok []

-- the values of keys or their error, the asks that they took, and what was told behind; no `text` where too little was
-- told
pub record Reading : Type 0 where
  pub text : Option (Result (List ℕ) ServerText)
  pub asks : List Asked
  pub later : List (Option DeskReply)

abbrev pub prefixed : List ℕ → Option (Result (List ℕ) ServerText) → Option (Result (List ℕ) ServerText)
prefixed front None = None
prefixed front (Some (Err e)) = Some (Err e)
prefixed front (Some (Ok text)) = Some (Ok (front ++ text))

abbrev pub reading_before : List ℕ → List Asked → Reading → Reading
reading_before front asks r = record r { text = prefixed front r.text; asks = asks ++ r.asks }

-- one key, and then the others, which are asked only where it gave no error
abbrev pub key_read : Hearing → (Option DeskReply → Result (List ℕ) ServerText) → (ℕ → List (Option DeskReply) → Reading) → Reading
key_read h text_for next = go h.last
  where
    with_text : Result (List ℕ) ServerText → Reading
    with_text (Err e) = record { text = Some (Err e); asks = h.asks; later = h.later }
    with_text (Ok text) = reading_before text h.asks (next (length text) h.later)

    go : Option (Option DeskReply) → Reading
    go None = record { text = None; asks = h.asks; later = h.later }
    go (Some t) = with_text (text_for t)

-- the keys of a get, in their order, with room for so many bytes of values
unfoldable pub keys_read : ℕ → Bool → ℕ → List (List ℕ) → List (Option DeskReply) → Reading
keys_read more tags room [] told = record { text = Some (Ok []); asks = []; later = told }
keys_read more tags room (k ∷ ks) told = key_read (heard more k op.Read told) (found_text tags k room) (λ n later. keys_read more tags (room - n) ks later)

-- the reply to a get: the values and an end, or the error alone
abbrev pub get_out : Reading → Out
get_out r = go r.text
  where
    go : Option (Result (List ℕ) ServerText) → Out
    go None = record { text = []; asks = r.asks; later = None; last = None }
    go (Some (Err e)) = record { text = server_text e; asks = r.asks; later = Some r.later; last = None }
    go (Some (Ok text)) = record { text = text ++ codes "END\r\n"; asks = r.asks; later = Some r.later; last = None }

-- the reply to a line that is refused
abbrev pub refusal : RequestCause → Reply
refusal cause.Memory = reply.ServerError server.Memory
refusal cause.Unknown = reply.Error
refusal cause.WrongCount = reply.Error
refusal cause.BadKey = reply.ClientError client.BadKey
refusal (cause.BadNumber word) = reply.ClientError client.BadNumber
refusal (cause.TooLarge bytes) = reply.ServerError server.TooLarge
refusal cause.Expiry = reply.ServerError server.Expiry

-- the reply to a block with a wrong end
abbrev pub bad_end : Bool → List ℕ
bad_end true = []
bad_end false = text_of (reply.ClientError client.BadChunk)

-- the reply to one thing that was said; a get's reply has room for 64 MiB, of which its end takes five bytes
abbrev pub replied : ℕ → Said → List (Option DeskReply) → Out
replied more (said.Asked (request.Get keys tags)) told = get_out (keys_read more tags 67108859 keys told)
replied more (said.Asked (request.Update key o noreply)) told = update_out noreply (heard more key o told)
replied more (said.Asked request.Version) told = plain (text_of reply.Version) told
replied more (said.Asked request.Quit) told = plain [] told
replied more (said.Refused c) told = plain (text_of (refusal c)) told
replied more (said.BadEnd noreply) told = plain (bad_end noreply) told
replied more said.LongLine told = record { text = text_of (reply.ClientError client.TooLong); asks = []; later = Some told; last = Some said.LongLine }
replied more said.Left told = record { text = []; asks = []; later = Some told; last = Some said.Left }

-- the replies to all that was said, in its order
unfoldable pub replies : ℕ → List Said → List (Option DeskReply) → Out
replies more [] told = plain [] told
replies more (s ∷ ss) told = then_out (replied more s told) (λ later. replies more ss later)

-- What is served for the bytes of a client, where each key of a request is asked at most `patience` times and the desk
-- told this, ask by ask.
abbrev pub served : List ℕ → ℕ → List (Option DeskReply) → Out
served bytes patience told = replies (patience - 1) (said_in bytes) told
