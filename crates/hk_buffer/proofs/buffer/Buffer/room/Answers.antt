use Rattle.std.proofs.Common.{◌≡◌, ◌≤◌, length, drop, refl, sym}
use Rattle.hk_buffer.proofs.Parts.{refilled, front_stays, back_is, tail_is}
use Rattle.hk_buffer.proofs.buffer.Buffer.room.Goals as goal

pub returns : goal.returns
returns c =
    let xs = c.self.inside.bytes.items in
    let e = c.self.inside.end in
    let h : e ≤ length xs = c.self.invariant.1 in
    let whole : length xs ≡ c.self.inside.bytes.len = sym c.self.inside.bytes.ok.0 in
    let lent : c.slice_mut.result.now ≡ drop e xs = tail_is xs _ _ e whole c.slice_mut.ensures.value in (
      (
        refl,
        λ w.
            let same = refilled xs c.self.inside.bytes.len e w whole h in
            let front = front_stays xs _ _ e h same in
            let back = back_is xs _ _ e h same in
            rw (← c.self.view_is) (rw (front, back) refl),
      ),
      record { writes = tt; room = rw (← c.self.view_is) lent },
    )
