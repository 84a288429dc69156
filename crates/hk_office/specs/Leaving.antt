-- Who leaves.
use Rattle.std.specs.Prelude.{ℕ, ◌+◌, Bool, not, ◌&&◌, ◌==◌, nat_lt, if◌then◌else◌, List, [], ◌∷◌, ◌++◌, Option, None, Some}
use Rattle.std.specs.List.{filter, list_all}
use Rattle.hk_base.specs.declared.stamp.NodeId.{NodeId}
use Rattle.hk_base.specs.declared.view.View.{View}
use Rattle.hk_inside.specs.declared.inquiry.Leaver.{Leaver}
use Rattle.hk_inside.specs.declared.inquiry.Leaver.TheVariants.{Node, Host}
use Rattle.hk_office.specs.declared.refusal.OfficeRefusal.{OfficeRefusal}
use Rattle.hk_office.specs.declared.refusal.OfficeRefusal.TheVariants.{NoSuchMember, NoMajority, NoOtherIsReady}
use Rattle.hk_keeper.specs.declared.heard.Heard.{Heard}
use Rattle.hk_keeper.specs.declared.heard.NodeHeard.{NodeHeard}
use Rattle.hk_keeper.specs.Heard.{majority_up, another_ready}
use Rattle.hk_reports.specs.declared.kept.Came.{Came}
use Rattle.hk_reports.specs.Hearing.{last_of_manager}
use Rattle.hk_office.specs.declared.office.Leave.{Leave}
use Rattle.hk_office.specs.declared.office.Office.{Office}
use Rattle.hk_office.specs.declared.answer.OfficeAnswer.TheVariants.{Yes}
use Rattle.hk_office.specs.declared.answer.OfficeStep.{OfficeStep}
use Rattle.hk_office.specs.Marks.{is_in_view, is_to_leave}
use Rattle.hk_office.specs.Seating.{heard_of}
use Rattle.hk_office.specs.Answers.{answered, refused}

abbrev pub node_told : Option Came → Option NodeId
node_told None = None
node_told (Some c) = c.report.node

-- The node of a host is the one that the process of its manager told last.
abbrev pub leaver_of : Office → Leaver → Option NodeId
leaver_of o (Node node) = Some node
leaver_of o (Host place) = node_told (last_of_manager place o.reports.came)

-- it is not to leave
abbrev pub is_to_stay : Office → ℕ → NodeHeard → Bool
is_to_stay o now n = not (is_to_leave o now n.node)

-- what is heard without those that are to leave
abbrev pub without_leavers : Office → ℕ → Heard → Heard
without_leavers o now h = record h { nodes = filter (is_to_stay o now) h.nodes }

-- No majority is up, or in some shard no other member is ready.
abbrev pub against_by : Heard → NodeId → Option OfficeRefusal
against_by h node = if majority_up h then (if list_all (λ s. another_ready h s node) h.shards then None else Some NoOtherIsReady) else Some NoMajority

-- What stands against it that a member leaves: no majority is up, or in some shard no other member is ready that is not to leave itself.
abbrev pub against_leave : Office → ℕ → List View → NodeId → Option OfficeRefusal
against_leave o now views node = against_by (without_leavers o now (heard_of o now views)) node

-- it still is to leave, and is another node
abbrev pub stays_to_leave : ℕ → NodeId → Leave → Bool
stays_to_leave now node l = nat_lt now l.end && not (l.node.0 == node.0)

-- who else is to leave
abbrev pub others_to_leave : Office → ℕ → NodeId → List Leave
others_to_leave o now node = filter (stays_to_leave now node) o.leaves

-- the node is to leave, for the length of a lease
abbrev pub with_leave : Office → ℕ → NodeId → Office
with_leave o now node = record o { leaves = others_to_leave o now node ++ record { node = node; end = now + o.terms.lease } ∷ [] }

-- the node is not to leave, also where it was
abbrev pub without_leave : Office → ℕ → NodeId → Office
without_leave o now node = record o { leaves = others_to_leave o now node }

-- A member that is refused stays, also where it was to leave before.
abbrev pub left_by : Option OfficeRefusal → Office → ℕ → NodeId → OfficeStep × Office
left_by (Some refusal) o now node = (refused refusal, without_leave o now node)
left_by None o now node = (answered Yes, with_leave o now node)

abbrev pub left_at : Option NodeId → Office → ℕ → List View → OfficeStep × Office
left_at None o now views = (refused NoSuchMember, o)
left_at (Some node) o now views = if is_in_view views node then left_by (against_leave o now views node) o now node else (refused NoSuchMember, o)

-- LEAVE: a member is to leave, where nothing stands against it.
abbrev pub left : Office → ℕ → List View → Leaver → OfficeStep × Office
left o now views leaver = left_at (leaver_of o leaver) o now views
