-- How a process begins.
use Rattle.std.specs.Prelude.{ℕ, List, [], replicate, Option, None, Some}
use Rattle.hk_fields.specs.declared.hosts.HostTickets.{HostTickets}
use Rattle.hk_log.specs.declared.entry.Founding.{Founding}
use Rattle.hk_stage.specs.Opening.{begun}
use Rattle.hk_roll.specs.Rolls.{replayed}
use Rattle.hk_reports.specs.Reports.{at_first}
use Rattle.hk_office.specs.declared.office.Office.{Office}
use Rattle.hk_restore.specs.declared.group.Terms.{Terms}
use Rattle.hk_office.specs.declared.office.GroupLog.{GroupLog}
use Rattle.hk_office.specs.Stages.{stage_logged}
use Rattle.hk_office.specs.Founding.{roll_of}

abbrev pub hosts_of : Option Founding → List HostTickets
hosts_of None = []
hosts_of (Some f) = f.hosts

-- A process begins: stage and roll are those of its log, and nothing was heard yet.
abbrev pub began : Terms → HostTickets → GroupLog → ℕ → Office
began terms tickets logged now = record {
  terms = terms;
  tickets = tickets;
  opening = begun terms.managers terms.place (stage_logged logged.founding logged.is_open) now;
  roll = replayed (roll_of (hosts_of logged.founding)) logged.bindings;
  reports = at_first now;
  leaves = [];
  begun = replicate 8 None;
  wished = replicate 8 None;
}
