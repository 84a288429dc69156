-- How an entry is read from the front of some bytes. What comes of it is said by the entry's bytes: these definitions
-- say when there is none.
use Rattle.std.specs.Prelude.{ℕ, ◌+◌, List, drop, ◌==◌, if◌then◌else◌, Result, Ok, Err}
use Rattle.std.specs.Int.{w16, w32, w64}
use Rattle.hk_base.specs.declared.letter.Letter.{Letter}
use Rattle.hk_base.specs.declared.view.Change.{Change}
use Rattle.hk_base.specs.declared.view.Change.TheVariants.{Drop, Add}
use Rattle.hk_fields.specs.declared.fault.FieldFault.{FieldFault}
use Rattle.hk_fields.specs.declared.fault.FieldFault.TheVariants.{Malformed}
use Rattle.hk_fields.specs.Fields.{both, chain, made, within, byte_at, number_at, many, ticket_at, host_at, actor_at}
use Rattle.hk_frame.specs.declared.fault.FrameFault.{FrameFault}
use Rattle.hk_frame.specs.Told.{frame_at}
use Rattle.hk_fields.specs.declared.hosts.HostTickets.{HostTickets}
use Rattle.hk_log.specs.declared.entry.Founding.{Founding}
use Rattle.hk_log.specs.declared.entry.Entry.{Entry}
use Rattle.hk_log.specs.declared.entry.Entry.TheVariants.{Founded, Open, Propose, Receive, Bound}
use Rattle.hk_log.specs.Entries.{is_of_paxos}

-- lease, skew and the tickets of so many hosts
unfoldable pub settings_at : ℕ → List ℕ → Result ((ℕ × (ℕ × List HostTickets)) × List ℕ) FieldFault
settings_at count bytes = both (number_at w32) (both (number_at w32) (many host_at count)) bytes

-- behind a place: how many hosts there are, more than that, and their settings
unfoldable pub hosts_at : ℕ → List ℕ → Result ((ℕ × (ℕ × (ℕ × List HostTickets))) × List ℕ) FieldFault
hosts_at place bytes = chain (within (place + 1) 9 byte_at) settings_at bytes

abbrev pub founding_of : ℕ × (ℕ × (ℕ × (ℕ × (ℕ × List HostTickets)))) → Founding
founding_of p = record { number = p.0; place = p.1.0; lease = p.1.1.1.0; skew = p.1.1.1.1.0; hosts = p.1.1.1.1.1 }

unfoldable pub founding_at : List ℕ → Result (Founding × List ℕ) FieldFault
founding_at bytes = made founding_of (both (within 1 18446744073709551615 (number_at w64)) (chain (within 0 8 byte_at) hosts_at)) bytes

unfoldable pub change_of : ℕ → List ℕ → Result (Change × List ℕ) FieldFault
change_of n bytes = if n == 0 then made (λ node. Drop (record { 0 = node })) (number_at w16) bytes else made (λ node. Add) (within 0 0 (number_at w16)) bytes

unfoldable pub change_at : List ℕ → Result (Change × List ℕ) FieldFault
change_at bytes = made (λ p. p.1) (chain (within 0 1 byte_at) change_of) bytes

unfoldable pub proposed_at : List ℕ → Result (Entry × List ℕ) FieldFault
proposed_at bytes = made (λ p. Propose p.0 p.1.0 p.1.1) (both (within 0 7 byte_at) (both (number_at w64) change_at)) bytes

-- the letter whose frame begins the bytes, if it is one of Paxos
abbrev pub received_of : Result ((ℕ × Letter) × ℕ) FrameFault → List ℕ → Result (Entry × List ℕ) FieldFault
received_of (Ok x) bytes = if is_of_paxos x.0.1.body then Ok (Receive x.0.0 x.0.1, drop x.1 bytes) else Err Malformed
received_of (Err fault) bytes = Err Malformed

unfoldable pub received_at : List ℕ → Result (Entry × List ℕ) FieldFault
received_at bytes = received_of (frame_at bytes) bytes

unfoldable pub bound_at : List ℕ → Result (Entry × List ℕ) FieldFault
bound_at bytes = made (λ p. Bound p.0 p.1) (both actor_at ticket_at) bytes

-- the fields of an entry of this kind
unfoldable pub entry_of : ℕ → List ℕ → Result (Entry × List ℕ) FieldFault
entry_of kind bytes =
    if kind == 1 then made Founded founding_at bytes
    else (if kind == 2 then Ok (Open, bytes)
    else (if kind == 3 then proposed_at bytes
    else (if kind == 4 then received_at bytes
    else (if kind == 5 then bound_at bytes
    else Err Malformed))))

unfoldable pub entry_at : List ℕ → Result (Entry × List ℕ) FieldFault
entry_at bytes = made (λ p. p.1) (chain byte_at entry_of) bytes
