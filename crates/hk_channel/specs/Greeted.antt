-- Connections that were dialled and greeted.
use Rattle.std.specs.Prelude.{◌≡◌, ℕ, List, [], Ok, Option, None, Some}
use Rattle.hk_base.specs.declared.letter.Actor.{Actor}
use Rattle.hk_fields.specs.declared.tickets.Ticket.{Ticket}
use Rattle.hk_hello.specs.declared.hello.Hello.{Hello}
use Rattle.hk_hello.specs.declared.hello.Party.{Party}
use Rattle.hk_hello.specs.declared.hello.Party.TheVariants as parties
use Rattle.hk_hello.specs.declared.hello.Purpose.{Purpose}
use Rattle.hk_hello.specs.declared.hello.Purpose.TheVariants.{Letters, Requests}
use Rattle.hk_greet.specs.Standing.{Standing}
use Rattle.hk_greet.specs.Greeting.{Knocks}
use Rattle.hk_shared_state.specs.declared.identity.Identity.{Identity}
use Rattle.hk_shared_state.specs.Identities.{hello_of}
use Rattle.hk_shared_state.specs.Standings.{IsOwnTicket}

-- whether a process may speak so: as an actor of its own by that one's ticket, and as nobody by the process's
abbrev pub IsOwn : Identity → Party → Ticket → Type 0
IsOwn i (parties.Actor actor) ticket = IsOwnTicket i actor (Some ticket)
IsOwn i parties.Neither ticket = ticket ≡ i.ticket

-- a hello of this process to the process of an actor
pub record Says (i : Identity) (purpose : Purpose) (from : Party) (to : Actor) (hello : Hello) : Type 0 where
  pub ticket : Ticket
  pub own : IsOwn i from ticket
  pub founding : ℕ
  pub is : hello ≡ hello_of i purpose from (parties.Actor to) founding ticket

-- one of an actor, for letters to another one
abbrev pub SaysForLetters : Identity → Actor → Actor → Hello → Type 0
SaysForLetters i from to = Says i Letters (parties.Actor from) to

-- one for requests to a manager, whoever it is from
abbrev pub SaysForRequests : Identity → Actor → Hello → Type 0
SaysForRequests i to hello = (from : Party) × Says i Requests from to hello

-- a connection as it is dialled: it has no faults, and nothing was read from it
pub record IsFresh (s : Standing) : Type 0 where
  pub no_read_faults : s.read_faults ≡ 0
  pub no_write_faults : s.write_faults ≡ 0
  pub none_given : s.gave ≡ []
  pub none_came : s.unread ≡ []

-- Whoever accepted a connection that was dialled took one of these hellos, and showed that it knows the secret; nothing
-- else was written there.
pub record IsGreeted (secret : List ℕ) (IsSaid : Hello → Type 0) (s : Standing) : Type 0 where
  pub dialled : Standing
  pub fresh : IsFresh dialled
  pub hello : Hello
  pub said : IsSaid hello
  pub knocked : Knocks (Ok tt) secret hello dialled s

-- the connection that there was, or else one that was greeted
abbrev pub IsReady : List ℕ → (Hello → Type 0) → Option Standing → Standing → Type 0
IsReady secret IsSaid (Some kept) s = s ≡ kept
IsReady secret IsSaid None s = IsGreeted secret IsSaid s
