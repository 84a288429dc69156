-- How long ago nodes asked the cores for leases, as other managers are told. Ages are in milliseconds.
use Rattle.std.specs.Prelude.{ℕ, Bool, min, max, if◌then◌else◌, List, map, Option, None, is_some}
use Rattle.std.specs.List.{list_all, reduce}
use Rattle.std.specs.Option.{option_map}
use Rattle.hk_base.specs.declared.view.View.{View}
use Rattle.hk_inside.specs.declared.report.NodeSeen.{NodeSeen}
use Rattle.hk_keeper.specs.declared.heard.Ask.{Ask}
use Rattle.hk_keeper.specs.declared.heard.NodeHeard.{NodeHeard}
use Rattle.hk_office.specs.declared.office.Office.{Office}
use Rattle.hk_office.specs.Seating.{heard_of}

-- it asked in each of these shards
abbrev pub asked_in_all : List Ask → Bool
asked_in_all asks = list_all (λ ask. is_some ask.epoch) asks

-- the age in the shard where it is longest
abbrev pub oldest : List Ask → Option ℕ
oldest asks = reduce max (map (λ ask. ask.age) asks)

-- A report tells 32 bits of an age, and not the greatest number.
abbrev pub age_of_ask : List Ask → Option ℕ
age_of_ask asks = if asked_in_all asks then option_map (λ age. min age 4294967294) (oldest asks) else None

-- of a node that did not ask in each shard no age is told
abbrev pub seen_of : NodeHeard → NodeSeen
seen_of n = record { node = n.node; age_of_ask = age_of_ask n.asks; unacknowledged = 0 }

-- each node of which anything is known
abbrev pub asks_seen : Office → ℕ → List View → List NodeSeen
asks_seen o now views = map seen_of (heard_of o now views).nodes
