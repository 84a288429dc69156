-- How a reply is read from the front of some bytes, part after part.
use Rattle.std.specs.Prelude.{ℕ, zero, suc, ◌+◌, ◌-◌, ◌^◌, List, [], ◌∷◌, ◌++◌, length, Bool, true, false, Option, None, Some, ◌==◌, if◌then◌else◌, codes, Result, Ok, Err}
use Rattle.std.specs.Char.{is_ascii_digit}
use Rattle.hk_base.specs.declared.data.TheConstants.{MAX_DATA_LEN}
use Rattle.hk_reply.specs.declared.scan.Stop.{Stop}
use Rattle.hk_reply.specs.declared.scan.Stop.TheVariants.{Need}
use Rattle.hk_reply.specs.declared.scan.Tail.{Tail}
use Rattle.hk_reply.specs.declared.scan.Tail.TheVariants.{Space, Return, Either}
use Rattle.hk_reply.specs.declared.reply.Item.{Item}
use Rattle.hk_reply.specs.declared.reply.Reply.{Reply}
use Rattle.hk_reply.specs.declared.reply.Reply.TheVariants as reply
use Rattle.hk_reply.specs.declared.opening.Opening.{Opening}
use Rattle.hk_reply.specs.declared.opening.Opening.TheVariants as opening
use Rattle.hk_reply.specs.Scans.{◌>>=◌, and_then, literal_at, key_from, number_at, data_at}
use Rattle.hk_reply.specs.Openings.{opening_at}

-- a tag and what ends its line, or no tag
unfoldable pub tag_at : Bool → List ℕ → Result (ℕ × List ℕ) Stop
tag_at false bytes = Ok (0, bytes)
tag_at true bytes = number_at (2 ^ 64 - 1) Return bytes >>= λ n. Ok (n.0.0, n.1)

-- the end of the line before the data, the data, and its end
unfoldable pub body_at : ℕ → List ℕ → Result (List ℕ × List ℕ) Stop
body_at len bytes = do
  line ← literal_at (codes "\n") bytes
  d ← data_at len line.1
  end ← literal_at (codes "\r\n") d.1
  Ok (d.0, end.1)

-- a value behind its first word, and whether it has a tag
unfoldable pub item_at : Tail → List ℕ → Result ((Item × Bool) × List ℕ) Stop
item_at tail bytes = do
  key ← key_from 0 bytes
  flags ← number_at 4294967295 Space key.1
  len ← number_at MAX_DATA_LEN tail flags.1
  tag ← tag_at (len.0.1 == 32) len.1
  body ← body_at len.0.0 tag.1
  Ok ((record { key = key.0; flags = flags.0.0; bytes = body.0; tag = tag.0 }, len.0.1 == 32), body.1)

-- whether one more value comes, behind a value
unfoldable pub more_at : List ℕ → Result (Bool × List ℕ) Stop
more_at [] = Err Need
more_at (b ∷ bs) =
    if b == 86 then (literal_at (codes "VALUE ") (b ∷ bs) >>= λ x. Ok (true, x.1))
    else (literal_at (codes "END\r\n") (b ∷ bs) >>= λ x. Ok (false, x.1))

abbrev pub tail_of : Bool → Tail
tail_of true = Space
tail_of false = Return

-- one more value, or the end of the values
abbrev pub turn_by : Bool → Bool → List ℕ → Result (Option Item × List ℕ) Stop
turn_by tags true bytes = item_at (tail_of tags) bytes >>= λ i. Ok (Some i.0.0, i.1)
turn_by tags false bytes = Ok (None, bytes)

unfoldable pub turn_at : Bool → List ℕ → Result (Option Item × List ℕ) Stop
turn_at tags bytes = more_at bytes >>= λ more. turn_by tags more.0 more.1

-- the other values, behind the first one; fewer than `turns` come
abbrev pub items_at : ℕ → Bool → List ℕ → Result (List Item × List ℕ) Stop
items_at zero tags bytes = Err Need
items_at (suc turns) tags bytes = turn_at tags bytes >>= λ t. and_then t.0 (Ok ([], t.1)) (λ item. items_at turns tags t.1 >>= λ others. Ok (item ∷ others.0, others.1))

-- values that were read, and the others
abbrev pub with_items : List Item → Result (List Item × List ℕ) Stop → Result (List Item × List ℕ) Stop
with_items front others = others >>= λ x. Ok (front ++ x.0, x.1)

-- values whose first word was read
unfoldable pub values_at : List ℕ → Result (Reply × List ℕ) Stop
values_at bytes = do
  first ← item_at Either bytes
  items ← with_items (first.0.0 ∷ []) (items_at (length first.1 + 1) first.0.1 first.1)
  Ok (reply.Values items.0 first.0.1, items.1)

-- the reply that begins so
unfoldable pub behind_at : Opening → List ℕ → Result (Reply × List ℕ) Stop
behind_at opening.Value bytes = values_at bytes
behind_at opening.End bytes = Ok (reply.Values [] false, bytes)
behind_at opening.Stored bytes = Ok (reply.Stored, bytes)
behind_at opening.Exists bytes = Ok (reply.Exists, bytes)
behind_at opening.NotFound bytes = Ok (reply.NotFound, bytes)
behind_at opening.NotStored bytes = Ok (reply.NotStored, bytes)
behind_at opening.Deleted bytes = Ok (reply.Deleted, bytes)
behind_at opening.Error bytes = Ok (reply.Error, bytes)
behind_at opening.Version bytes = Ok (reply.Version, bytes)
behind_at (opening.Client text) bytes = Ok (reply.ClientError text, bytes)
behind_at (opening.Server text) bytes = Ok (reply.ServerError text, bytes)

-- a number and the end of its line
unfoldable pub count_at : List ℕ → Result (Reply × List ℕ) Stop
count_at bytes = do
  n ← number_at (2 ^ 64 - 1) Return bytes
  end ← literal_at (codes "\n") n.1
  Ok (reply.Number n.0.0, end.1)

-- a reply
unfoldable pub reply_at : List ℕ → Result (Reply × List ℕ) Stop
reply_at [] = Err Need
reply_at (b ∷ bs) = if is_ascii_digit b then count_at (b ∷ bs) else (opening_at (b ∷ bs) >>= λ o. behind_at o.0 o.1)
