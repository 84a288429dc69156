-- The first texts of replies, and how one is read.
use Rattle.std.specs.Prelude.{ℕ, ◌+◌, List, [], ◌∷◌, length, codes, nat_lt, if◌then◌else◌, Result, Ok, Err}
use Rattle.hk_reply.specs.declared.scan.Stop.{Stop}
use Rattle.hk_reply.specs.declared.scan.Stop.TheVariants.{Memory, Need, Bad}
use Rattle.hk_reply.specs.declared.reply.ClientText.TheVariants as client
use Rattle.hk_reply.specs.declared.reply.ServerText.TheVariants as server
use Rattle.hk_reply.specs.declared.opening.Opening.{Opening}
use Rattle.hk_reply.specs.declared.opening.Opening.TheVariants.{Value, End, Stored, Exists, NotFound, NotStored, Deleted, Error, Version, Client, Server}
use Rattle.hk_reply.specs.Texts.{client_text, server_text}
use Rattle.hk_reply.specs.Scans.{literal_at}

abbrev pub opening_text : Opening → List ℕ
opening_text Value = codes "VALUE "
opening_text End = codes "END\r\n"
opening_text Stored = codes "STORED\r\n"
opening_text Exists = codes "EXISTS\r\n"
opening_text NotFound = codes "NOT_FOUND\r\n"
opening_text NotStored = codes "NOT_STORED\r\n"
opening_text Deleted = codes "DELETED\r\n"
opening_text Error = codes "ERROR\r\n"
opening_text Version = codes "VERSION hermes-1\r\n"
opening_text (Client text) = client_text text
opening_text (Server text) = server_text text

-- the others are tried where this text is not the one
abbrev pub or_others : Opening → Result (Unit {0} × List ℕ) Stop → (ℕ → Result (Opening × List ℕ) Stop) → Result (Opening × List ℕ) Stop
or_others opening (Ok x) others = Ok (opening, x.1)
or_others opening (Err (Bad left)) others = others left
or_others opening (Err Need) others = Err Need
or_others opening (Err Memory) others = Err Memory

abbrev pub lesser : ℕ → ℕ → ℕ
lesser left least = if nat_lt left least then left else least

-- the first of these texts; where none is one, the bad byte is the last at which one of them differs
abbrev pub opening_in : List Opening → ℕ → List ℕ → Result (Opening × List ℕ) Stop
opening_in [] least bytes = Err (Bad least)
opening_in (o ∷ os) least bytes = or_others o (literal_at (opening_text o) bytes) (λ left. opening_in os (lesser left least) bytes)

abbrev pub openings : List Opening
openings = Value ∷ End ∷ Stored ∷ Exists ∷ NotFound ∷ NotStored ∷ Deleted ∷ Error ∷ Version ∷ Client client.BadKey ∷ Client client.BadNumber ∷ Client client.BadChunk ∷ Client client.NotNumber ∷ Client client.TooLong ∷ Server server.TooLarge ∷ Server server.Expiry ∷ Server server.Busy ∷ Server server.Aborted ∷ Server server.Unknown ∷ Server server.Spent ∷ Server server.VersionLimit ∷ Server server.Memory ∷ []

unfoldable pub opening_at : List ℕ → Result (Opening × List ℕ) Stop
opening_at bytes = opening_in openings (length bytes + 1) bytes
