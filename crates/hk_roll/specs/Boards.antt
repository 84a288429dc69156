-- What the managers' boards tell of one number: by their places the ticket to which it is bound there, or nothing.
use Rattle.std.specs.Prelude.{◌/◌, Bool, false, nat_lt, nat_eq, List, length, Option, None, Some}
use Rattle.std.specs.Cmp.Lexicographic.{pointwise}
use Rattle.std.specs.List.{count_by, find}
use Rattle.hk_fields.specs.declared.tickets.Ticket.{Ticket}

abbrev pub same_ticket : Ticket → Ticket → Bool
same_ticket one other = pointwise nat_eq one.0 other.0

-- just this ticket is named
abbrev pub names : Ticket → Option Ticket → Bool
names ticket None = false
names ticket (Some other) = same_ticket ticket other

-- more than half of all managers name what this one names
abbrev pub is_by_most : List (Option Ticket) → Option Ticket → Bool
is_by_most told None = false
is_by_most told (Some ticket) = nat_lt (length told / 2) (count_by (names ticket) told)

abbrev pub flat : Option (Option Ticket) → Option Ticket
flat None = None
flat (Some named) = named

-- the ticket that a majority names
abbrev pub named : List (Option Ticket) → Option Ticket
named told = flat (find (is_by_most told) told)
