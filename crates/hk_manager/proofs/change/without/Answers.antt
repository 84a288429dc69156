use Rattle.std.proofs.Common.{rules, ◌≡◌, ◌+◌, ◌∙◌, ℕ, List, not, nat_eq, ap}
use Rattle.std.specs.List.{filter}
use Rattle.std.proofs.lemmas.Fn.{filter_same}
use Rattle.hk_base.specs.declared.stamp.NodeId.{NodeId}
use Rattle.hk_base.specs.declared.view.View.{View}
use Rattle.hk_manager.proofs.change.without.Goals as goal

abbrev view_with : ℕ → List NodeId → ℕ → View
view_with epoch members next = record { epoch = epoch; members = members; next = next }

pub returns : goal.returns
returns c =
    let same : c.in_ok-members.members.items ≡ c.args.view.now.members = search rules in
    let kept : c.retain.new.self.items ≡ filter (λ (m : NodeId). not (nat_eq m.0 c.args.node.0)) c.in_ok-members.members.items = filter_same _ _ _ (λ x b f' k. search rules) _ _ c.retain.ensures.filtered in
    ap (λ (ms : List NodeId). view_with (c.args.view.now.epoch + 1) ms c.args.view.now.next) (c.from_vec.ensures ∙ kept ∙ ap (λ (ms : List NodeId). filter (λ (m : NodeId). not (nat_eq m.0 c.args.node.0)) ms) same)
