-- Reading fields from left to right: what a field is and what stands behind it, or a fault. And what fields are as bytes.
use Rattle.std.specs.Prelude.{◌≡◌, ℕ, zero, suc, List, [], ◌∷◌, ◌++◌, length, take, drop, ◌&&◌, ◌==◌, nat_lt, nat_le, if◌then◌else◌, Result, Ok, Err, ◌<◌, ◌^◌}
use Rattle.std.specs.Int.{Width, w16, byte_len, from_be_bytes, to_be_bytes}
use Rattle.hk_base.specs.declared.letter.Actor.{Actor}
use Rattle.hk_base.specs.declared.letter.Actor.TheVariants.{Node, Manager}
use Rattle.hk_fields.specs.declared.tickets.Ticket.{Ticket}
use Rattle.hk_fields.specs.declared.tickets.TheConstants.{TICKET_LEN}
use Rattle.hk_fields.specs.declared.hosts.HostTickets.{HostTickets}
use Rattle.hk_fields.specs.declared.fault.FieldFault.{FieldFault}
use Rattle.hk_fields.specs.declared.fault.FieldFault.TheVariants.{Memory, Malformed}

-- one step after the other, up to the first fault
infixl 10 ◌>>=◌
abbrev pub ◌>>=◌ : {A B : Type 0} → Result A FieldFault → (A → Result B FieldFault) → Result B FieldFault
(Ok x) >>= f = f x
(Err e) >>= f = Err e

-- what a reader of the code gives is what reading gives, unless an allocation was refused
abbrev pub Fails : {B : Type 0} → FieldFault → Result B FieldFault → Type 0
Fails Memory read = Unit {0}
Fails Malformed read = read ≡ Err Malformed

abbrev pub Gives : {A B : Type 0} → (A → B) → Result A FieldFault → Result B FieldFault → Type 0
Gives view (Ok x) read = read ≡ Ok (view x)
Gives view (Err e) read = Fails e read

-- a field, and another behind it
abbrev pub both : {A B : Type 0} → (List ℕ → Result (A × List ℕ) FieldFault) → (List ℕ → Result (B × List ℕ) FieldFault) → List ℕ → Result ((A × B) × List ℕ) FieldFault
both first second bytes = first bytes >>= λ a. second a.1 >>= λ b. Ok ((a.0, b.0), b.1)

-- a field, and another behind it that the first one decides
abbrev pub chain : {A B : Type 0} → (List ℕ → Result (A × List ℕ) FieldFault) → (A → List ℕ → Result (B × List ℕ) FieldFault) → List ℕ → Result ((A × B) × List ℕ) FieldFault
chain first second bytes = first bytes >>= λ a. second a.0 a.1 >>= λ b. Ok ((a.0, b.0), b.1)

-- what a field's value makes
abbrev pub made : {A B : Type 0} → (A → B) → (List ℕ → Result (A × List ℕ) FieldFault) → List ℕ → Result (B × List ℕ) FieldFault
made make read bytes = read bytes >>= λ a. Ok (make a.0, a.1)

-- so many fields of one kind
unfoldable pub many : {A : Type 0} → (List ℕ → Result (A × List ℕ) FieldFault) → ℕ → List ℕ → Result (List A × List ℕ) FieldFault
many read zero bytes = Ok ([], bytes)
many read (suc n) bytes = read bytes >>= λ a. many read n a.1 >>= λ others. Ok (a.0 ∷ others.0, others.1)

-- one byte
abbrev pub byte_at : List ℕ → Result (ℕ × List ℕ) FieldFault
byte_at [] = Err Malformed
byte_at (b ∷ rest) = Ok (b, rest)

-- a number, the highest byte first
abbrev pub number_at : Width → List ℕ → Result (ℕ × List ℕ) FieldFault
number_at w bytes = if nat_lt (length bytes) (byte_len w) then Err Malformed else Ok (from_be_bytes w (take (byte_len w) bytes), drop (byte_len w) bytes)

-- a number between two others, these included
abbrev pub within : ℕ → ℕ → (List ℕ → Result (ℕ × List ℕ) FieldFault) → List ℕ → Result (ℕ × List ℕ) FieldFault
within least most read bytes = read bytes >>= λ n. if nat_le least n.0 && nat_le n.0 most then Ok n else Err Malformed

-- so many bytes, whatever they are
abbrev pub bytes_at : ℕ → List ℕ → Result (List ℕ × List ℕ) FieldFault
bytes_at n bytes = if nat_lt (length bytes) n then Err Malformed else Ok (take n bytes, drop n bytes)

-- the length of a text, in 1 byte, and its bytes
abbrev pub text_bytes : List ℕ → List ℕ
text_bytes text = length text ∷ text

unfoldable pub text_at : ℕ → ℕ → List ℕ → Result (List ℕ × List ℕ) FieldFault
text_at least most bytes = made (λ p. p.1) (chain (within least most byte_at) bytes_at) bytes

-- the bytes of a ticket
unfoldable pub ticket_at : List ℕ → Result (Ticket × List ℕ) FieldFault
ticket_at bytes = made (λ b. record { 0 = b }) (bytes_at TICKET_LEN) bytes

-- what the type of tickets keeps
abbrev pub IsTicket : Ticket → Type 0
IsTicket ticket = length ticket.0 ≡ TICKET_LEN

-- the ticket of a host's manager, and that of its node
abbrev pub host_bytes : HostTickets → List ℕ
host_bytes host = host.manager.0 ++ host.node.0

unfoldable pub host_at : List ℕ → Result (HostTickets × List ℕ) FieldFault
host_at bytes = made (λ p. record { manager = p.0; node = p.1 }) (both ticket_at ticket_at) bytes

abbrev pub IsHostValue : HostTickets → Type 0
IsHostValue host = IsTicket host.manager × IsTicket host.node

-- a class, 0 for a node and 1 for a manager, and the number in 2 bytes
abbrev pub actor_bytes : Actor → List ℕ
actor_bytes (Node node) = 0 ∷ to_be_bytes w16 node.0
actor_bytes (Manager manager) = 1 ∷ to_be_bytes w16 manager

unfoldable pub actor_of : ℕ → List ℕ → Result (Actor × List ℕ) FieldFault
actor_of class bytes = if class == 0 then made (λ n. Node (record { 0 = n })) (number_at w16) bytes else made Manager (within 0 8 (number_at w16)) bytes

unfoldable pub actor_at : List ℕ → Result (Actor × List ℕ) FieldFault
actor_at bytes = made (λ p. p.1) (chain (within 0 1 byte_at) actor_of) bytes

-- what the type of actors keeps, and that managers are 0 to 8
abbrev pub IsActorField : Actor → Type 0
IsActorField (Node node) = node.0 < 2 ^ 16
IsActorField (Manager manager) = manager < 9
