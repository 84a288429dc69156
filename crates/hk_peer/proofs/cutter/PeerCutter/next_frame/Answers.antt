use Rattle.std.proofs.Common.{◌≡◌, ap, ◌∙◌}
use Rattle.hk_peer.specs.Cut.{Cutting}
use Rattle.hk_peer.proofs.Keeping.{gave}
use Rattle.hk_peer.proofs.cutter.PeerCutter.next_frame.Goals as goal

pub returns-in-Ok : goal.returns-in-Ok
returns-in-Ok c =
    let held : c.unread.result.now ≡ c.args.self.now.unread = c.unread.ensures ∙ ap (λ (x : Cutting). x.unread) c.self.view_is in
    gave c.args.self.now c.give.new.self c.unread.result.now c.in-Ok.shard c.in-Ok.letter c.in-Ok.length held c.in-Ok.ensures.exact c.give.ensures
