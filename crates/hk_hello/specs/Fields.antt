-- How a hello is read from the front of some bytes. What comes of it is said by the hello's bytes: these definitions say
-- when there is none.
use Rattle.std.specs.Prelude.{ℕ, List, ◌==◌, if◌then◌else◌, Result, Ok, Err}
use Rattle.std.specs.Int.{w16, w32, w64}
use Rattle.std.specs.List.{list_all}
use Rattle.hk_base.specs.declared.letter.Actor.TheVariants.{Node, Manager}
use Rattle.hk_fields.specs.declared.tickets.Ticket.{Ticket}
use Rattle.hk_fields.specs.declared.fault.FieldFault.{FieldFault}
use Rattle.hk_fields.specs.declared.fault.FieldFault.TheVariants.{Malformed}
use Rattle.hk_fields.specs.Fields.{◌>>=◌, both, chain, made, within, byte_at, number_at, bytes_at, text_at, ticket_at}
use Rattle.hk_hello.specs.declared.hello.HostsDigest.{HostsDigest}
use Rattle.hk_hello.specs.declared.hello.Hello.{Hello}
use Rattle.hk_hello.specs.declared.hello.SignedHello.{SignedHello}
use Rattle.hk_hello.specs.declared.hello.Party.{Party}
use Rattle.hk_hello.specs.declared.hello.Party.TheVariants as parties
use Rattle.hk_hello.specs.declared.hello.Purpose.{Purpose}
use Rattle.hk_hello.specs.declared.hello.Purpose.TheVariants.{Letters, Requests}
use Rattle.hk_hello.specs.declared.mac.Proof.{Proof}
use Rattle.hk_hello.specs.declared.mac.TheConstants.{PROOF_LEN}
use Rattle.hk_hello.specs.Hellos.{is_name_byte}

abbrev pub purpose_of : ℕ → Purpose
purpose_of n = if n == 0 then Letters else Requests

unfoldable pub purpose_at : List ℕ → Result (Purpose × List ℕ) FieldFault
purpose_at bytes = made purpose_of (within 0 1 byte_at) bytes

-- a party of this class
unfoldable pub party_of : ℕ → List ℕ → Result (Party × List ℕ) FieldFault
party_of class bytes =
    if class == 0 then made (λ n. parties.Actor (Node (record { 0 = n }))) (number_at w16) bytes
    else (if class == 1 then made (λ n. parties.Actor (Manager n)) (within 0 8 (number_at w16)) bytes
    else made (λ n. parties.Neither) (within 0 0 (number_at w16)) bytes)

unfoldable pub party_at : List ℕ → Result (Party × List ℕ) FieldFault
party_at bytes = made (λ p. p.1) (chain (within 0 2 byte_at) party_of) bytes

unfoldable pub hosts_at : List ℕ → Result (HostsDigest × List ℕ) FieldFault
hosts_at bytes = made (λ b. record { 0 = b }) (bytes_at 8) bytes

-- a name, if each byte of it may stand in one
abbrev pub named : List ℕ × List ℕ → Result (List ℕ × List ℕ) FieldFault
named text = if list_all is_name_byte text.0 then Ok text else Err Malformed

unfoldable pub group_at : List ℕ → Result (List ℕ × List ℕ) FieldFault
group_at bytes = text_at 1 32 bytes >>= named

unfoldable pub parties_at : List ℕ → Result ((Purpose × (Party × Party)) × List ℕ) FieldFault
parties_at bytes = both purpose_at (both party_at party_at) bytes

unfoldable pub home_at : List ℕ → Result ((ℕ × (Ticket × HostsDigest)) × List ℕ) FieldFault
home_at bytes = both (number_at w64) (both ticket_at hosts_at) bytes

unfoldable pub terms_at : List ℕ → Result ((ℕ × (ℕ × List ℕ)) × List ℕ) FieldFault
terms_at bytes = both (number_at w32) (both (number_at w32) group_at) bytes

abbrev pub hello_of : (Purpose × (Party × Party)) × ((ℕ × (Ticket × HostsDigest)) × (ℕ × (ℕ × List ℕ))) → Hello
hello_of p = record { purpose = p.0.0; from = p.0.1.0; to = p.0.1.1; founding = p.1.0.0; ticket = p.1.0.1.0; hosts = p.1.0.1.1; lease = p.1.1.0; skew = p.1.1.1.0; group = p.1.1.1.1 }

unfoldable pub hello_at : List ℕ → Result (Hello × List ℕ) FieldFault
hello_at bytes = made hello_of (both parties_at (both home_at terms_at)) bytes

unfoldable pub proof_at : List ℕ → Result (Proof × List ℕ) FieldFault
proof_at bytes = made (λ b. record { 0 = b }) (bytes_at PROOF_LEN) bytes

unfoldable pub signed_at : List ℕ → Result (SignedHello × List ℕ) FieldFault
signed_at bytes = made (λ p. record { hello = p.0; proof = p.1 }) (both hello_at proof_at) bytes
