use Rattle.std.proofs.Common.{[], ◌∷◌, ◌++◌}
use Rattle.std.specs.Int.{w16, w64, to_be_bytes}
use Rattle.hk_fields.proofs.Puts.{two, four}
use Rattle.hk_inside.specs.Parts.{lines_bytes}
use Rattle.hk_inside.proofs.printing.put_board.Goals as goal

pub returns : goal.returns
returns c =
    let b = c.args.board.now in
    rw (← c.stage_byte.ensures, ← c.as_slice.ensures)
    (two c.put_lines.result c.args.out.now.items c.put_number64.new.out.items c.put_lines.new.out.items (to_be_bytes w64 b.founding) (c.stage_byte.result ∷ (to_be_bytes w64 b.records ++ (to_be_bytes w16 b.managers_up ++ lines_bytes c.as_slice.result.now))) c.in_ok-put_number64.ensures
    (four c.put_lines.result c.put_number64.new.out.items c.put_byte.new.out.items c.put_number64-2.new.out.items c.put_number16.new.out.items c.put_lines.new.out.items (c.stage_byte.result ∷ []) (to_be_bytes w64 b.records) (to_be_bytes w16 b.managers_up) (lines_bytes c.as_slice.result.now) c.in_ok-put_byte.ensures c.in_ok-put_number64-2.ensures c.in_ok-put_number16.ensures c.put_lines.ensures))
