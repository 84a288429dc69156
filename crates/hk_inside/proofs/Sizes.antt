-- That inquiries fit a frame, and that no message is empty.
use Rattle.std.proofs.Common.{◌≡◌, ℕ, ◌+◌, ◌*◌, ◌≤◌, List, [], ◌∷◌, ◌++◌, length, refl, ap, ◌∙◌, arith}
use Rattle.std.specs.List.{flat_map, AllByRecursion}
use Rattle.std.proofs.lemmas.List.{length-append}
use Rattle.std.proofs.lemmas.List.Concat.{flat_map-cons}
use Rattle.std.proofs.lemmas.List.Elements.{recursion_from_All}
use Rattle.hk_inside.specs.declared.report.NodeSeen.{NodeSeen}
use Rattle.hk_inside.specs.declared.report.Report.{Report}
use Rattle.hk_fields.specs.declared.hosts.HostTickets.{HostTickets}
use Rattle.hk_fields.specs.Fields.{host_bytes, IsHostValue}
use Rattle.hk_inside.specs.declared.inquiry.Leaver.{Leaver}
use Rattle.hk_inside.specs.declared.inquiry.Leaver.TheVariants as leavers
use Rattle.hk_inside.specs.declared.inquiry.Inquiry.{Inquiry}
use Rattle.hk_inside.specs.declared.inquiry.Inquiry.TheVariants as asks
use Rattle.hk_inside.specs.declared.frames.TheConstants.{MAX_LEN}
use Rattle.hk_inside.specs.Parts.{leaver_bytes, seen_bytes, who_bytes, shards_bytes, counts_bytes, places_bytes, report_bytes, IsReportValue, IsReportInRange}
use Rattle.hk_inside.specs.Messages.{inquiry_fields, inquiry_bytes, IsInquiryValue, IsInquiryInRange, IsInquiry}

nodes_size : (nodes : List NodeSeen) → length (flat_map seen_bytes nodes) ≡ 10 * length nodes
nodes_size [] = refl
nodes_size (s ∷ nodes) = omega (arith, ap length (flat_map-cons seen_bytes s nodes), length-append (seen_bytes s) (flat_map seen_bytes nodes), nodes_size nodes)

hosts_size : (hosts : List HostTickets) → AllByRecursion IsHostValue hosts → length (flat_map host_bytes hosts) ≡ 32 * length hosts
hosts_size [] f = refl
hosts_size (h ∷ hosts) f = omega (arith, ap length (flat_map-cons host_bytes h hosts), length-append (host_bytes h) (flat_map host_bytes hosts), length-append h.manager.0 h.node.0, f.0.0, f.0.1, hosts_size hosts f.1)

places_short : (r : Report) → IsReportInRange r → length (places_bytes r) ≤ 3063
places_short r f = omega (arith, length-append r.inside ((length r.clients ∷ r.clients) ++ (length r.nodes ∷ flat_map seen_bytes r.nodes)), length-append r.clients (length r.nodes ∷ flat_map seen_bytes r.nodes), f.inside, f.clients, f.few, nodes_size r.nodes)

who_size : (r : Report) → IsReportValue r → length (who_bytes r) ≡ 28
who_size r v = length-append r.ticket.0 _ ∙ ap (λ (n : ℕ). n + 12) v.ticket

report_short : (r : Report) → IsReportValue r → IsReportInRange r → length (report_bytes r) ≤ 3200
report_short r v f = omega (arith, length-append (who_bytes r) (shards_bytes r.shards ++ (counts_bytes r.counts ++ places_bytes r)), who_size r v, places_short r f)

leaver_short : (l : Leaver) → length (leaver_bytes l) ≤ 3
leaver_short (leavers.Node node) = omega arith
leaver_short (leavers.Host place) = omega arith

fields_short : (m : Inquiry) → IsInquiryValue m → IsInquiryInRange m → length (inquiry_fields m) ≤ 3200
fields_short (asks.Report r) v f = report_short r v f
fields_short (asks.Seat t) v f = omega (arith, v)
fields_short (asks.Claim n t) v f = omega (arith, v.1)
fields_short (asks.Look n) v f = omega arith
fields_short (asks.Found n hosts) v f = omega (arith, hosts_size hosts (recursion_from_All IsHostValue hosts v.1), f.2)
fields_short (asks.Leave l) v f = omega (arith, leaver_short l)
fields_short asks.Status v f = omega arith

pub inquiry_short : (m : Inquiry) → IsInquiryValue m → IsInquiryInRange m → length (inquiry_bytes m) ≤ MAX_LEN
inquiry_short m v f = omega (arith, fields_short m v f)

pub inquiry_is : (m : Inquiry) → IsInquiry m → IsInquiry m × (length (inquiry_bytes m) ≤ MAX_LEN)
inquiry_is m f = (f, inquiry_short m f.value f.range)

pub inquiry_some : (m : Inquiry) → 1 ≤ length (inquiry_bytes m)
inquiry_some m = omega arith
