use Rattle.std.proofs.Common.{rules, arith, ◌≡◌, ◌≤◌, ℕ, List, length, sym, ap, subst, ◌∙◌}
use Rattle.std.proofs.lemmas.List.{take_at}
use Rattle.hk_seq.specs.Steps.{in_use}
use Rattle.crossbeam_utils.specs.Seq.{cell_view}
use Rattle.hk_snap.specs.Snapshots.{last_shown}
use Rattle.hk_snap.specs.Layout.{Keeps}
use Rattle.hk_snap.proofs.Rooms.{put_keeps, put_long}
use Rattle.hk_snap.proofs.Shows.{last_in_range}
use Rattle.hk_snap.proofs.room.Room.keep.Goals as goal

pub invariant_of-self : goal.invariant_of-self
invariant_of-self c =
    let long : length c.args.words.now ≡ 166 = c.told-words in
    let used : c.min-used.result ≡ in_use 166 c.args.words.now = search rules in
    let before : List ℕ = c.as_mut_slice.result.now in
    let is : before ≡ c.widen.new.words.items = c.as_mut_slice.ensures.value in
    let wide : 41 ≤ length before = omega (arith, c.self.invariant.wide, c.widen.ensures, ap length is) in
    let same = put_long c.args.words.now before c.put_front.new.words c.min-used.result (omega (arith, long, used)) c.put_front.ensures in
    let kept = put_keeps (last_shown (cell_view c.args.last).seen) c.args.words.now before c.put_front.new.words c.min-used.result used long c.requires.shown (last_in_range _ c.requires.range) wide c.put_front.ensures in
    let whole : length c.widen.new.words.items ≡ c.widen.new.words.len = search rules in
    subst (λ (l : List ℕ). Keeps l (last_shown (cell_view c.args.last).seen)) (sym (take_at c.put_front.new.words _ c.widen.new.words.len (same ∙ (ap length is ∙ whole)))) kept
