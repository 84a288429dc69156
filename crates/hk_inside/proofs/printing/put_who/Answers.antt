use Rattle.std.proofs.Common.{[], ◌∷◌, ◌++◌}
use Rattle.std.specs.Int.{w16, w64, to_be_bytes}
use Rattle.hk_fields.proofs.Puts.{two, four}
use Rattle.hk_inside.proofs.printing.put_who.Goals as goal

pub returns : goal.returns
returns c =
    let r = c.args.report.now in
    rw (← c.number_or_none.ensures, ← c.node_state_byte.ensures, ← c.place_or_none.ensures)
    (two c.put_number64.result c.args.out.now.items c.put_ticket.new.out.items c.put_number64.new.out.items r.ticket.0 (to_be_bytes w16 c.number_or_none.result ++ (c.node_state_byte.result ∷ c.place_or_none.result ∷ to_be_bytes w64 r.records)) c.in_ok-put_ticket.ensures
    (four c.put_number64.result c.put_ticket.new.out.items c.put_number16.new.out.items c.put_byte.new.out.items c.put_byte-2.new.out.items c.put_number64.new.out.items (to_be_bytes w16 c.number_or_none.result) (c.node_state_byte.result ∷ []) (c.place_or_none.result ∷ []) (to_be_bytes w64 r.records) c.in_ok-put_number16.ensures c.in_ok-put_byte.ensures c.in_ok-put_byte-2.ensures c.put_number64.ensures))
