use Rattle.std.proofs.Common.{rules, arith, ◌≡◌, ◌<◌, ◌+◌, ◌∙◌, ℕ, [], ◌++◌, length, take, refl, sym, ap, append-nil, length-append}
use Rattle.hk_buffer.specs.Held.{Held}
use Rattle.hk_greet.proofs.Passing.{appends_same}
use Rattle.hk_greet.proofs.Filling.{came, keeps_none, gave_fault, gave_read, gave_end}
use Rattle.hk_greet.proofs.buffered.read_piece.Goals as goal

pub returns-in-Err : goal.returns-in-Err
returns-in-Err g c gave =
    let same : c.make_room.new.self.unread ≡ c.args.buffer.now.unread = ap (λ (h : Held). h.unread) c.make_room.ensures.same in (
      record {
        came = [];
        consumed = keeps_none _ _ c.in-Err.ensures.bytes;
        recorded = gave_fault _ (g.C.Source.given c.args.conn.now) (g.C.Source.given c.read_some.new.conn) c.read_some.new.room c.in-Err.field-0 c.in-Err.ensures.given;
        same = append-nil c.args.buffer.now.unread ∙ sym same;
        wrote = appends_same _ _ c.in-Err.ensures.held;
        read_later = c.in-Err.ensures.later;
        write_later = omega (arith, c.in-Err.ensures.writes);
        gave = refl;
      },
      same,
      c.in-Err.ensures.failed,
    )

pub returns : goal.returns
returns g c gave =
    let ended = c.in-Ok.ensures.bytes.1 in
    let some : 0 < length c.read_some.new.room = search rules in
    let unread : c.filled.new.self.unread ≡ c.args.buffer.now.unread ++ take c.in-Ok.count c.read_some.new.room = came c.args.buffer.now c.make_room.new.self c.filled.new.self c.read_some.new.room c.in-Ok.count c.make_room.ensures.same (search rules) c.filled.ensures in
    let long : c.in-Ok.count ≡ length (take c.in-Ok.count c.read_some.new.room) = c.in-Ok.ensures.bound.1 in (
      record {
        came = take c.in-Ok.count c.read_some.new.room;
        consumed = c.in-Ok.ensures.bytes.0;
        recorded = gave_read _ (g.C.Source.given c.args.conn.now) (g.C.Source.given c.read_some.new.conn) c.read_some.new.room c.in-Ok.count c.in-Ok.ensures.given;
        same = sym unread;
        wrote = appends_same _ _ c.in-Ok.ensures.held;
        read_later = c.in-Ok.ensures.later;
        write_later = omega (arith, c.in-Ok.ensures.writes);
        gave = refl;
      },
      ap length unread ∙ length-append c.args.buffer.now.unread (take c.in-Ok.count c.read_some.new.room) ∙ ap (λ (n : ℕ). length c.args.buffer.now.unread + n) (sym long),
      λ none. record {
        none_left = ended none some;
        came = [];
        told = gave_end _ (g.C.Source.given c.args.conn.now) (g.C.Source.given c.read_some.new.conn) c.read_some.new.room c.in-Ok.count none c.in-Ok.ensures.given;
      },
    )
