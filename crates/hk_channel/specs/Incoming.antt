-- The connections that other processes made, as far as one of them ends another.
use Rattle.std.specs.Prelude.{◌≡◌, ⊤, ℕ, Bool, true, false, not, ◌&&◌, ◌==◌, nat_le, if◌then◌else◌, List, [], ◌∷◌, ◌++◌, length, drop, Result, Ok, Err}
use Rattle.std.specs.List.{filter, list_any}
use Rattle.hk_base.specs.declared.letter.Actor.TheVariants.{Node, Manager}
use Rattle.hk_hello.specs.declared.hello.Party.{Party}
use Rattle.hk_hello.specs.declared.hello.Party.TheVariants.{Actor, Neither}
use Rattle.hk_hello.specs.declared.hello.Purpose.{Purpose}
use Rattle.hk_hello.specs.declared.hello.Purpose.TheVariants.{Letters, Requests}
use Rattle.hk_hosts.specs.declared.ender.Ender.{Ender}
use Rattle.hk_base.specs.declared.memory.Memory.{Memory}
use Rattle.hk_channel.specs.declared.incoming_conns.HalfOpen.{HalfOpen}
use Rattle.hk_channel.specs.declared.incoming_conns.Welcomed.{Welcomed}
use Rattle.hk_channel.specs.declared.incoming_conns.ConnUse.{ConnUse}
use Rattle.hk_channel.specs.declared.incoming_conns.IncomingConns.{IncomingConns}
use Rattle.hk_channel.specs.declared.incoming_conns.TheConstants.{MOST_GREETINGS}

-- Where so many greetings are unfinished the oldest is ended.
abbrev pub with_room : List HalfOpen → List HalfOpen
with_room greeting = if nat_le MOST_GREETINGS (length greeting) then drop 1 greeting else greeting

abbrev pub is_half_open : ℕ → HalfOpen → Bool
is_half_open number other = other.number == number

abbrev pub others_half_open : ℕ → List HalfOpen → List HalfOpen
others_half_open number greeting = filter (λ other. not (is_half_open number other)) greeting

abbrev pub is_welcomed : ℕ → Welcomed → Bool
is_welcomed number other = other.number == number

abbrev pub others_welcomed : ℕ → List Welcomed → List Welcomed
others_welcomed number welcomed = filter (λ other. not (is_welcomed number other)) welcomed

-- both are one actor; who is none is not the same as another who is none
abbrev pub same_end : Party → Party → Bool
same_end (Actor (Node n)) (Actor (Node m)) = n.0 == m.0
same_end (Actor (Node n)) (Actor (Manager q)) = false
same_end (Actor (Manager p)) (Actor (Node m)) = false
same_end (Actor (Manager p)) (Actor (Manager q)) = p == q
same_end (Actor a) Neither = false
same_end Neither other = false

abbrev pub same_purpose : Purpose → Purpose → Bool
same_purpose Letters Letters = true
same_purpose Letters Requests = false
same_purpose Requests Letters = false
same_purpose Requests Requests = true

-- a connection for the same, from the same actor and to the same one
abbrev pub is_same_use : ConnUse → Welcomed → Bool
is_same_use conn_use other = same_purpose conn_use.purpose other.conn_use.purpose && same_end conn_use.from other.conn_use.from && same_end conn_use.to other.conn_use.to

abbrev pub other_uses : ConnUse → List Welcomed → List Welcomed
other_uses conn_use welcomed = filter (λ other. not (is_same_use conn_use other)) welcomed

-- the hello of a connection was taken: it is half-open no more, and earlier ones for the same are ended
pub record TakesOver (number : ℕ) (conn_use : ConnUse) (ender : Ender) (c c' : IncomingConns) : Type 0 where
  pub newcomer : list_any (is_half_open number) c.greeting.items ≡ true
  pub greeting : c'.greeting.items ≡ others_half_open number c.greeting.items
  pub welcomed : c'.welcomed.items ≡ other_uses conn_use c.welcomed.items ++ (record { number = number; conn_use = conn_use; ender = ender }) ∷ []

-- it was ended meanwhile
pub record IsEnded (number : ℕ) (c c' : IncomingConns) : Type 0 where
  pub gone : list_any (is_half_open number) c.greeting.items ≡ false
  pub greeting : c'.greeting.items ≡ c.greeting.items
  pub welcomed : c'.welcomed.items ≡ c.welcomed.items

-- where memory is wanting, all stays as it was
pub record Stays (c c' : IncomingConns) : Type 0 where
  pub greeting : c'.greeting.items ≡ c.greeting.items
  pub welcomed : c'.welcomed.items ≡ c.welcomed.items

abbrev pub Welcomes : Result Bool Memory → ℕ → ConnUse → Ender → IncomingConns → IncomingConns → Type 0
Welcomes (Ok true) number conn_use ender c c' = TakesOver number conn_use ender c c'
Welcomes (Ok false) number conn_use ender c c' = IsEnded number c c'
Welcomes (Err memory) number conn_use ender c c' = Stays c c'
