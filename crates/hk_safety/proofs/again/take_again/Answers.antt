use Rattle.std.proofs.Common.{ℕ, List, ◌≡◌, ◌++◌, rules, ap, ◌∙◌}
use Rattle.hk_base.specs.declared.call.Reply.{Reply}
use Rattle.hk_world.specs.declared.shown.Shown.{Shown}
use Rattle.hk_safety.specs.Shows.{lines_at}
use Rattle.hk_safety.specs.Again.{IsTakenAgain}
use Rattle.hk_safety.proofs.Puts.{on_ok}
use Rattle.hk_safety.proofs.Remade.{taken_again}
use Rattle.hk_safety.proofs.again.take_again.Goals as goal

pub returns : goal.returns
returns c =
    let shown : Shown = c.in_ok-shown.shown in
    let calls : c.as_slice.result.now ≡ c.note_call.new.calls.items = search rules in
    let replies : c.as_slice-2.result.now ≡ shown.replies = search rules in
    let taken : c.put_replies.new.items ≡ c.put_call.new.items ++ lines_at c.args.key.now c.as_slice.result.now c.as_slice-2.result.now →
    IsTakenAgain c.args.world.now c.remake.new.world c.args.calls.now.items c.note_call.new.calls.items c.args.items.now c.put_replies.new.items c.args.key.now c.args.event.now =
    λ put. taken_again c.args.world.now c.remake.new.world c.args.calls.now.items c.note_call.new.calls.items c.args.items.now c.put_call.new.items c.put_replies.new.items
    c.args.key.now c.args.event.now shown c.in_ok-shown.ensures c.in_ok-note_call.ensures c.in_ok-put_call.ensures
    (put ∙ ap (λ (cs : List (List ℕ)). c.put_call.new.items ++ lines_at c.args.key.now cs c.as_slice-2.result.now) calls
    ∙ ap (λ (rs : List Reply). c.put_call.new.items ++ lines_at c.args.key.now c.note_call.new.calls.items rs) replies) in
    on_ok c.put_replies.result taken c.put_replies.ensures
