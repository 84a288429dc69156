use Rattle.std.proofs.Common.{◌≡◌, length}
use Rattle.std.specs.Vec.Iter.{into_iter_items, into_iter_len}
use Rattle.hk_told.specs.Held.{Asks, Delivers}
use Rattle.hk_told.specs.Kept.{asks_in}
use Rattle.hk_locked.proofs.locked.deliver_all.Given as goal

-- whatever is delivered after, this and what is left are all
abbrev pub invariant-loop-reply : goal.invariant-loop-reply
invariant-loop-reply g l = ((final : Asks) → Delivers (into_iter_items l.reply-iterator) (asks_in l.asks) final → Delivers l.fn.replies (asks_in l.fn.asks) final)
    × (into_iter_len l.reply-iterator ≡ length (into_iter_items l.reply-iterator))
