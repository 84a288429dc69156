-- What a process is, and what it says of itself.
use Rattle.std.specs.Prelude.{◌≡◌, ⊤, ℕ, List, length, map, Result, Ok, Err}
use Rattle.hk_fields.specs.declared.tickets.Ticket.{Ticket}
use Rattle.hk_hello.specs.declared.hello.Hello.{Hello}
use Rattle.hk_hello.specs.declared.hello.Party.{Party}
use Rattle.hk_hello.specs.declared.hello.Purpose.{Purpose}
use Rattle.hk_hello.specs.declared.judging.Ours.{Ours}
use Rattle.hk_hello.specs.Mac.{hosts_digest}
use Rattle.hk_hosts.specs.Addresses.{address_text}
use Rattle.hk_host_words.specs.declared.words.NodeWords.{NodeWords}
use Rattle.hk_shared_state.specs.declared.identity.Identity.{Identity}
use Rattle.hk_shared_state.specs.declared.making.IdentityFault.{IdentityFault}
use Rattle.hk_shared_state.specs.declared.making.IdentityFault.TheVariants.{Memory, Unfit}
use Rattle.hk_shared_state.specs.Fitting.{Fits}

-- the process is what words, the secret of its group and a ticket tell
pub record Tells (words : NodeWords) (secret : List ℕ) (ticket : Ticket) (i : Identity) : Type 0 where
  pub secret_is : i.secret ≡ secret
  pub group : i.group ≡ words.group.group
  pub hosts : i.hosts ≡ words.group.hosts
  pub digest : i.digest.0 ≡ hosts_digest (map address_text words.group.hosts)
  pub lease : i.lease ≡ words.lease
  pub skew : i.skew ≡ words.skew
  pub place : i.place ≡ words.at
  pub ticket_is : i.ticket ≡ ticket
  pub inside : i.inside ≡ address_text words.inside
  pub clients : i.clients ≡ address_text words.listen

-- that process, or that none may be so; or memory was wanting
abbrev pub IsIdentityOf : Result Identity IdentityFault → NodeWords → List ℕ → Ticket → Type 0
IsIdentityOf (Ok i) words secret ticket = Tells words secret ticket i
IsIdentityOf (Err Unfit) words secret ticket =
    Fits words.group.group (length words.group.hosts) words.at (address_text words.inside) (address_text words.listen) → ⊥
IsIdentityOf (Err Memory) words secret ticket = ⊤

-- What a process says of itself to whom it dials: its hosts, its terms and its group are its own; who it is there, and
-- by which ticket and founding, its caller says.
abbrev pub hello_of : Identity → Purpose → Party → Party → ℕ → Ticket → Hello
hello_of i purpose from to founding ticket =
    record { purpose = purpose; from = from; to = to; founding = founding; ticket = ticket; hosts = i.digest; lease = i.lease; skew = i.skew; group = i.group }

-- what it holds a hello against
abbrev pub ours_of : Identity → Ours
ours_of i = record { secret = i.secret; group = i.group; hosts = i.digest; lease = i.lease; skew = i.skew }
