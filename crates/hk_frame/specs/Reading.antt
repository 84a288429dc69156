-- How the parts of a frame are read, from left to right. What comes of them is said by the frame itself: these
-- definitions say which fault is the first.
use Rattle.std.specs.Prelude.{ℕ, zero, suc, ◌+◌, ◌-◌, List, [], ◌∷◌, length, Bool, ◌==◌, if◌then◌else◌, Option, None, Some, Result, Ok, Err}
use Rattle.std.specs.Int.{w16, w32, w64}
use Rattle.hk_base.specs.declared.key.TheConstants.{MAX_KEY_LEN}
use Rattle.hk_base.specs.declared.data.TheConstants.{MAX_DATA_LEN}
use Rattle.hk_base.specs.declared.time.TheConstants.{MAX_TIME}
use Rattle.hk_base.specs.declared.stamp.TheConstants.{MAX_VERSION}
use Rattle.hk_base.specs.declared.stamp.NodeId.{NodeId}
use Rattle.hk_base.specs.declared.stamp.Stamp.{Stamp}
use Rattle.hk_base.specs.declared.stamp.Kind.{Kind}
use Rattle.hk_base.specs.declared.stamp.Kind.TheVariants.{Write, Rmw}
use Rattle.hk_base.specs.declared.call.Content.{Content}
use Rattle.hk_base.specs.declared.view.Ballot.{Ballot}
use Rattle.hk_base.specs.declared.view.View.{View}
use Rattle.hk_base.specs.declared.view.Voted.{Voted}
use Rattle.hk_base.specs.declared.letter.Actor.{Actor}
use Rattle.hk_base.specs.declared.letter.Actor.TheVariants.{Node, Manager}
use Rattle.hk_base.specs.declared.letter.CopyItem.{CopyItem}
use Rattle.hk_base.specs.declared.letter.Letter.{Letter}
use Rattle.hk_base.specs.declared.letter.Body.{Body}
use Rattle.hk_base.specs.declared.letter.Body.TheVariants.{Inv, Ack, Val, CopyAsk, CopyGive, LeaseAsk, LeaseGive, Prepare, Promise, Accept, Accepted, Chosen, Activate}
use Rattle.hk_frame.specs.declared.fault.Stop.{Stop}
use Rattle.hk_frame.specs.declared.fault.Stop.TheVariants as Stop
use Rattle.hk_frame.specs.declared.kind.LetterKind.{LetterKind}
use Rattle.hk_frame.specs.declared.kind.LetterKind.TheVariants as kinds
use Rattle.hk_frame.specs.Fields.{◌>>=◌, both, chain, made, within, byte_at, number_at, bytes_at, key_of}

unfoldable pub key_at : List ℕ → Result (List ℕ × List ℕ) Stop
key_at bytes = made (λ p. p.1) (chain (within 1 MAX_KEY_LEN byte_at) key_of) bytes

unfoldable pub after_of : ℕ → List ℕ → Result (Option (List ℕ) × List ℕ) Stop
after_of n bytes = if n == 0 then Ok (None, bytes) else made Some (key_of n) bytes

unfoldable pub after_at : List ℕ → Result (Option (List ℕ) × List ℕ) Stop
after_at bytes = made (λ p. p.1) (chain (within 0 MAX_KEY_LEN byte_at) after_of) bytes

unfoldable pub stamp_at : List ℕ → Result (Stamp × List ℕ) Stop
stamp_at bytes = made (λ p. record { version = p.0; node = p.1 }) (both (within 0 MAX_VERSION (number_at w64)) (number_at w16)) bytes

unfoldable pub data_at : List ℕ → Result (List ℕ × List ℕ) Stop
data_at bytes = made (λ p. p.1) (chain (within 0 MAX_DATA_LEN (number_at w32)) bytes_at) bytes

unfoldable pub some_content_at : List ℕ → Result (Content × List ℕ) Stop
some_content_at bytes = made (λ p. record { flags = p.0; bytes = p.1 }) (both (number_at w32) data_at) bytes

-- the kind of an update, by its byte
abbrev pub update_kind : ℕ → Kind
update_kind n = if n == 0 then Write else Rmw

-- the content behind that byte
unfoldable pub content_of : ℕ → List ℕ → Result (Option Content × List ℕ) Stop
content_of n bytes = if n == 2 then Ok (None, bytes) else made Some some_content_at bytes

unfoldable pub flag_at : List ℕ → Result (Bool × List ℕ) Stop
flag_at bytes = made (λ n. n == 1) (within 0 1 byte_at) bytes

abbrev pub item_of : List ℕ × (Stamp × (ℕ × (Bool × Option Content))) → CopyItem
item_of p = record { key = p.0; stamp = p.1.0; kind = update_kind p.1.1.0; valid = p.1.1.1.0; content = p.1.1.1.1 }

unfoldable pub item_at : List ℕ → Result (CopyItem × List ℕ) Stop
item_at bytes = made item_of (both key_at (both stamp_at (chain (within 0 2 byte_at) (λ n. both flag_at (content_of n))))) bytes

unfoldable pub items_of : ℕ → List ℕ → Result (List CopyItem × List ℕ) Stop
items_of zero bytes = Ok ([], bytes)
items_of (suc n) bytes = item_at bytes >>= λ item. items_of n item.1 >>= λ others. Ok (item.0 ∷ others.0, others.1)

unfoldable pub items_at : List ℕ → Result (List CopyItem × List ℕ) Stop
items_at bytes = made (λ p. p.1) (chain (within 0 64 byte_at) items_of) bytes

unfoldable pub actor_of : ℕ → List ℕ → Result (Actor × List ℕ) Stop
actor_of class bytes = if class == 0 then made (λ n. Node (record { 0 = n })) (number_at w16) bytes else made Manager (within 0 8 (number_at w16)) bytes

unfoldable pub actor_at : List ℕ → Result (Actor × List ℕ) Stop
actor_at bytes = made (λ p. p.1) (chain (within 0 1 byte_at) actor_of) bytes

unfoldable pub ballot_at : List ℕ → Result (Ballot × List ℕ) Stop
ballot_at bytes = made (λ p. record { round = p.0; manager = p.1 }) (both (number_at w32) (within 0 8 byte_at)) bytes

-- members that rise, the first of them not below `least`, and all below `next`
unfoldable pub members_of : ℕ → ℕ → ℕ → List ℕ → Result (List NodeId × List ℕ) Stop
members_of next least zero bytes = Ok ([], bytes)
members_of next least (suc n) bytes = within least (next - 1) (number_at w16) bytes >>= λ m. members_of next (m.0 + 1) n m.1 >>= λ others. Ok (record { 0 = m.0 } ∷ others.0, others.1)

unfoldable pub members_at : ℕ → List ℕ → Result (List NodeId × List ℕ) Stop
members_at next bytes = made (λ p. p.1) (chain (within 1 16 byte_at) (members_of next 0)) bytes

unfoldable pub view_at : List ℕ → Result (View × List ℕ) Stop
view_at bytes = made (λ p. record { epoch = p.0; members = p.1.1; next = p.1.0 }) (both (number_at w64) (chain (within 1 65536 (number_at w32)) members_at)) bytes

abbrev pub vote_with : Ballot × View → Option Voted
vote_with p = Some (record { ballot = p.0; view = p.1 })

unfoldable pub vote_of : ℕ → List ℕ → Result (Option Voted × List ℕ) Stop
vote_of flag bytes = if flag == 0 then Ok (None, bytes) else made vote_with (both ballot_at view_at) bytes

unfoldable pub vote_at : List ℕ → Result (Option Voted × List ℕ) Stop
vote_at bytes = made (λ p. p.1) (chain (within 0 1 byte_at) vote_of) bytes

unfoldable pub time_at : List ℕ → Result (ℕ × List ℕ) Stop
time_at bytes = within 0 MAX_TIME (number_at w64) bytes

abbrev pub inv_of : List ℕ × (Stamp × (ℕ × Option Content)) → Body
inv_of p = Inv p.0 p.1.0 (update_kind p.1.1.0) p.1.1.1

unfoldable pub inv_at : List ℕ → Result (Body × List ℕ) Stop
inv_at bytes = made inv_of (both key_at (both stamp_at (chain (within 0 2 byte_at) content_of))) bytes

unfoldable pub body_at : LetterKind → List ℕ → Result (Body × List ℕ) Stop
body_at kinds.Inv bytes = inv_at bytes
body_at kinds.Ack bytes = made (λ p. Ack p.0 p.1.0 p.1.1) (both key_at (both stamp_at stamp_at)) bytes
body_at kinds.Val bytes = made (λ p. Val p.0 p.1) (both key_at stamp_at) bytes
body_at kinds.CopyAsk bytes = made (λ p. CopyAsk p.0 p.1) (both after_at (within 1 64 byte_at)) bytes
body_at kinds.CopyGive bytes = made (λ p. CopyGive p.0 p.1.0 p.1.1) (both after_at (both flag_at items_at)) bytes
body_at kinds.LeaseAsk bytes = made LeaseAsk time_at bytes
body_at kinds.LeaseGive bytes = made LeaseGive time_at bytes
body_at kinds.Prepare bytes = made Prepare ballot_at bytes
body_at kinds.Promise bytes = made (λ p. Promise p.0 p.1) (both ballot_at vote_at) bytes
body_at kinds.Accept bytes = made (λ p. Accept p.0 p.1) (both ballot_at view_at) bytes
body_at kinds.Accepted bytes = made Accepted ballot_at bytes
body_at kinds.Chosen bytes = made Chosen view_at bytes
body_at kinds.Activate bytes = made Activate view_at bytes

-- the kind that a byte names
unfoldable pub kind_named : ℕ → Option LetterKind
kind_named n =
    if n == 1 then Some kinds.Inv
    else (if n == 2 then Some kinds.Ack
    else (if n == 3 then Some kinds.Val
    else (if n == 4 then Some kinds.CopyAsk
    else (if n == 5 then Some kinds.CopyGive
    else (if n == 6 then Some kinds.LeaseAsk
    else (if n == 7 then Some kinds.LeaseGive
    else (if n == 8 then Some kinds.Prepare
    else (if n == 9 then Some kinds.Promise
    else (if n == 10 then Some kinds.Accept
    else (if n == 11 then Some kinds.Accepted
    else (if n == 12 then Some kinds.Chosen
    else (if n == 13 then Some kinds.Activate
    else None))))))))))))

abbrev pub kind_or : Option LetterKind → ℕ → List ℕ → Result (LetterKind × List ℕ) Stop
kind_or None n rest = Err (Stop.Kind n)
kind_or (Some kind) n rest = Ok (kind, rest)

unfoldable pub kind_at : List ℕ → Result (LetterKind × List ℕ) Stop
kind_at bytes = byte_at bytes >>= λ n. kind_or (kind_named n.0) n.0 n.1

abbrev pub letter_of : LetterKind × (ℕ × (ℕ × (Actor × (Actor × Body)))) → ℕ × Letter
letter_of p = (p.1.0, record { epoch = p.1.1.0; from = p.1.1.1.0; to = p.1.1.1.1.0; body = p.1.1.1.1.1 })

-- the fields behind the length
unfoldable pub letter_at : List ℕ → Result ((ℕ × Letter) × List ℕ) Stop
letter_at bytes = made letter_of (chain kind_at (λ kind. both (within 0 7 byte_at) (both (number_at w64) (both actor_at (both actor_at (body_at kind)))))) bytes

-- all of them, and nothing behind
unfoldable pub fields_at : List ℕ → Result (ℕ × Letter) Stop
fields_at bytes = letter_at bytes >>= λ x. if length x.1 == 0 then Ok x.0 else Err Stop.Length
