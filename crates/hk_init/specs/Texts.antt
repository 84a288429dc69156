-- What the operator is told where a command does not do what it is for.
use Rattle.std.specs.Prelude.{ℕ, codes, List, [], ◌++◌, slice_get, Option, None, Some}
use Rattle.hk_hello.specs.declared.refusal.HelloRefusal.{HelloRefusal}
use Rattle.hk_hello.specs.declared.refusal.HelloRefusal.TheVariants.{AnotherSecret, AnotherGroup, OtherHosts, AnotherLeaseOrSkew, AnotherFounding, NoSuchActor, NumberTaken}
use Rattle.hk_hosts.specs.declared.address.Address.{Address}
use Rattle.hk_hosts.specs.Addresses.{address_text}
use Rattle.hk_init.specs.declared.fault.CommandFault.{CommandFault}
use Rattle.hk_init.specs.declared.fault.CommandFault.TheVariants.{Memory, WriteFault, Unreachable, Denied, Refused, OtherLease, NoNode, Late, NotOpen, UnknownNode, StillMember}

abbrev pub reason_text : HelloRefusal → List ℕ
reason_text AnotherSecret = codes "another secret"
reason_text AnotherGroup = codes "another group"
reason_text OtherHosts = codes "other hosts"
reason_text AnotherLeaseOrSkew = codes "another lease or skew"
reason_text AnotherFounding = codes "another founding"
reason_text NoSuchActor = codes "no such actor"
reason_text NumberTaken = codes "number taken"

abbrev pub text_of_host : Option Address → List ℕ
text_of_host None = []
text_of_host (Some host) = address_text host

-- the address of the host of a place
abbrev pub host_text : List Address → ℕ → List ℕ
host_text hosts place = text_of_host (slice_get hosts place)

-- the node of that host is not known
abbrev pub unknown_text : List Address → ℕ → List ℕ
unknown_text hosts place = codes "the node of " ++ (host_text hosts place ++ codes " is not known")

abbrev pub fault_text : List Address → CommandFault → List ℕ
fault_text hosts Memory = codes "no memory"
fault_text hosts WriteFault = codes "a write failed"
fault_text hosts (Unreachable place) = host_text hosts place ++ codes " does not answer"
fault_text hosts (Denied place reason) = host_text hosts place ++ codes " refused: " ++ reason_text reason
fault_text hosts (Refused text) = text
fault_text hosts (OtherLease place) = host_text hosts place ++ codes " has another lease or skew"
fault_text hosts NoNode = codes "wait"
fault_text hosts Late = codes "wait"
fault_text hosts (NotOpen place) = host_text hosts place ++ codes " has not opened"
fault_text hosts (UnknownNode place) = unknown_text hosts place
fault_text hosts StillMember = codes "still a member"
