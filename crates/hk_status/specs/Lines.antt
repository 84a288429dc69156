-- The lines of a status.
use Rattle.std.specs.Prelude.{ℕ, Bool, true, false, List, [], ◌++◌, Option, None, Some, codes}
use Rattle.std.specs.List.{flat_map}
use Rattle.hk_inside.specs.declared.report.Counts.{Counts}
use Rattle.hk_inside.specs.declared.report.ShardsTold.{ShardsTold}
use Rattle.hk_status.specs.declared.status.ManagerLine.{ManagerLine}
use Rattle.hk_status.specs.declared.status.NodeTold.{NodeTold}
use Rattle.hk_status.specs.declared.status.NodeLine.{NodeLine}
use Rattle.hk_status.specs.declared.status.WaitLine.{WaitLine}
use Rattle.hk_status.specs.declared.status.GroupStatus.{GroupStatus}
use Rattle.hk_status.specs.Words.{field, known_field, address_text, founding_text, stage_text, shown_text}
use Rattle.hk_status.specs.Views.{views_text}

-- group hermes founding=3f9c27b1d04e8a65 stage=open lease=1000 skew=10
abbrev pub clocks_text : ℕ → ℕ → List ℕ
clocks_text lease skew = field (codes " lease=") lease ++ (field (codes " skew=") skew ++ codes "\n")

abbrev pub group_line : GroupStatus → List ℕ
group_line s =
    codes "group " ++ (s.group ++ (founding_text s.founding ++ (stage_text s.stage ++ clocks_text s.lease s.skew)))

-- manager 2 10.0.0.3:11400 up=31 records=40
abbrev pub up_text : Bool → List ℕ
up_text true = codes " up="
up_text false = codes " down="

abbrev pub manager_line : ManagerLine → List ℕ
manager_line m =
    field (codes "manager ") m.place ++ (codes " " ++ (address_text m.inside ++ (known_field (up_text m.is_up) m.age ++
    (known_field (codes " records=") m.records ++ codes "\n"))))

-- node 3 10.0.0.3:11400 copying manager=2 clients=10.0.0.3:11211 shards=3 epoch=4 lease=871 keys=41200
-- bytes=4532000 gets=0 sets=0 busy=0 aborted=0 unknown=0, in one line
abbrev pub shards_text : ShardsTold → List ℕ
shards_text s =
    field (codes " shards=") s.ready ++ (field (codes " epoch=") s.least_epoch ++
    field (codes " lease=") s.least_lease_left)

abbrev pub counts_text : Counts → List ℕ
counts_text c =
    field (codes " keys=") c.keys ++ (field (codes " bytes=") c.bytes ++
    (field (codes " gets=") c.gets ++ (field (codes " sets=") c.sets ++
    (field (codes " busy=") c.busy ++ (field (codes " aborted=") c.aborted ++ field (codes " unknown=") c.unknown)))))

abbrev pub told_text : Option NodeTold → List ℕ
told_text None =
    codes " manager=- clients=- shards=- epoch=- lease=-" ++
    codes " keys=- bytes=- gets=- sets=- busy=- aborted=- unknown=-"
told_text (Some t) =
    known_field (codes " manager=") t.manager ++ (codes " clients=" ++ (address_text t.clients ++
    (shards_text t.shards ++ counts_text t.counts)))

abbrev pub node_line : NodeLine → List ℕ
node_line n =
    field (codes "node ") n.node.0 ++ (codes " " ++ (address_text n.inside ++
    (codes " " ++ (shown_text n.state ++ (told_text n.told ++ codes "\n")))))

-- waits 3 for=1 ms=1200
abbrev pub wait_line : WaitLine → List ℕ
wait_line w =
    field (codes "waits ") w.node.0 ++ (field (codes " for=") w.other.0 ++
    (field (codes " ms=") w.time ++ codes "\n"))

-- waiting 10.0.0.4:11400
abbrev pub waiting_line : List ℕ → List ℕ
waiting_line address = codes "waiting " ++ (address_text address ++ codes "\n")

abbrev pub lost_line : Bool → List ℕ
lost_line true = codes "lost\n"
lost_line false = []

-- all lines, in this order
abbrev pub status_text : GroupStatus → List ℕ
status_text s =
    group_line s ++ (flat_map manager_line s.managers ++ (views_text s.views ++ (flat_map node_line s.nodes ++
    (flat_map wait_line s.waits ++ (flat_map waiting_line s.waiting ++ lost_line s.is_lost)))))
