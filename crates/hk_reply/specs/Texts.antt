-- The text of a reply, as memcached's `protocol.txt` has it.
use Rattle.std.specs.Prelude.{◌≡◌, ℕ, List, [], ◌∷◌, ◌++◌, length, take, Bool, true, false, codes, decimal}
use Rattle.hk_reply.specs.declared.reply.Item.{Item}
use Rattle.hk_reply.specs.declared.reply.Reply.{Reply}
use Rattle.hk_reply.specs.declared.reply.Reply.TheVariants.{Values, Stored, Exists, NotFound, NotStored, Deleted, Number, Error, ClientError, ServerError, Version}
use Rattle.hk_reply.specs.declared.reply.ClientText.{ClientText}
use Rattle.hk_reply.specs.declared.reply.ClientText.TheVariants as client
use Rattle.hk_reply.specs.declared.reply.ServerText.{ServerText}
use Rattle.hk_reply.specs.declared.reply.ServerText.TheVariants as server

-- what was there stands at the front still
abbrev pub IsKept : List ℕ → List ℕ → Type 0
IsKept before after = take (length before) after ≡ before

-- a number behind a space
abbrev pub spaced_text : ℕ → List ℕ
spaced_text n = codes " " ++ decimal n

abbrev pub tag_text : Bool → ℕ → List ℕ
tag_text true tag = spaced_text tag
tag_text false tag = []

-- the line before a value, with its tag where tags are wanted: VALUE, the key, the flags, the length
unfoldable pub head_text : Bool → Item → List ℕ
head_text tags i = codes "VALUE " ++ i.key ++ codes " " ++ decimal i.flags ++ codes " " ++ decimal (length i.bytes) ++ tag_text tags i.tag ++ codes "\r\n"

-- a value
abbrev pub value_text : Bool → Item → List ℕ
value_text tags i = head_text tags i ++ i.bytes ++ codes "\r\n"

abbrev pub values_text : Bool → List Item → List ℕ
values_text tags [] = []
values_text tags (i ∷ items) = value_text tags i ++ values_text tags items

abbrev pub client_text : ClientText → List ℕ
client_text client.BadKey = codes "CLIENT_ERROR bad key\r\n"
client_text client.BadNumber = codes "CLIENT_ERROR bad number\r\n"
client_text client.BadChunk = codes "CLIENT_ERROR bad data chunk\r\n"
client_text client.NotNumber = codes "CLIENT_ERROR not a number\r\n"
client_text client.TooLong = codes "CLIENT_ERROR line too long\r\n"

abbrev pub server_text : ServerText → List ℕ
server_text server.TooLarge = codes "SERVER_ERROR object too large\r\n"
server_text server.Expiry = codes "SERVER_ERROR expiry not kept\r\n"
server_text server.Busy = codes "SERVER_ERROR busy\r\n"
server_text server.Aborted = codes "SERVER_ERROR aborted\r\n"
server_text server.Unknown = codes "SERVER_ERROR outcome unknown\r\n"
server_text server.Spent = codes "SERVER_ERROR calls spent\r\n"
server_text server.VersionLimit = codes "SERVER_ERROR version limit\r\n"
server_text server.Memory = codes "SERVER_ERROR out of memory\r\n"

-- the text of a reply
unfoldable pub text_of : Reply → List ℕ
text_of (Values items tags) = values_text tags items ++ codes "END\r\n"
text_of Stored = codes "STORED\r\n"
text_of Exists = codes "EXISTS\r\n"
text_of NotFound = codes "NOT_FOUND\r\n"
text_of NotStored = codes "NOT_STORED\r\n"
text_of Deleted = codes "DELETED\r\n"
text_of (Number n) = decimal n ++ codes "\r\n"
text_of Error = codes "ERROR\r\n"
text_of (ClientError t) = client_text t
text_of (ServerError t) = server_text t
text_of Version = codes "VERSION hermes-1\r\n"
