use Rattle.std.proofs.Common.{rules, ◌≡◌, ℕ, List, Option, Some, None, Bor, option_copied, subst, sym}
use Rattle.hk_host_words.specs.Reading.{IsReading}
use Rattle.hk_host_words.specs.Words.{IsLeaverOf}
use Rattle.hk_host_words.proofs.command.read_leaver.Goals as goal

pub returns-in-None-Some : goal.returns-in-None-Some
returns-in-None-Some c =
    let none : c.args.at ≡ None = search rules in
    let some : c.args.node ≡ Some c.in-None-Some.text = search rules in
    subst (λ (o : Option (Bor (List ℕ))). IsReading (IsLeaverOf c.args.count (option_copied o) (option_copied c.args.node)) c.read_leaving_node.result) (sym none)
    (subst (λ (o : Option (Bor (List ℕ))). IsReading (IsLeaverOf c.args.count None (option_copied o)) c.read_leaving_node.result) (sym some) (c.read_leaving_node.ensures c.args.count))
