use Rattle.std.proofs.Common.{rules, ◌≡◌, ◌∙◌, ap}
use Rattle.hk_link.specs.Ends.{End}
use Rattle.hk_rows_wire.proofs.link.through_split_ends.Goals as goal

pub learn-requires : goal.learn-requires
learn-requires g c =
    let put_link : c.put.new.outlet.link ≡ c.split.new.self.link = c.put.ensures.0 in
    let put_room : c.put.new.outlet.room ≡ c.split.new.self.room = c.put.ensures.1 in
    let split_link : c.split.new.self.link ≡ c.split-2.new.self.link = search rules in
    let split_room : c.split.new.self.room ≡ c.split-2.new.self.room = search rules in
    (ap (λ (e : End). e.link) c.join.ensures ∙ (put_link ∙ split_link), ap (λ (e : End). e.room) c.join.ensures ∙ (put_room ∙ split_room))
