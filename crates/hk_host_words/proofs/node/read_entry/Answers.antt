use Rattle.std.proofs.Common.{rules, ◌≡◌, ℕ, false, List, Option, Some, Bor, option_copied, subst, sym}
use Rattle.hk_hosts.specs.declared.address.Address.{Address}
use Rattle.hk_hosts.specs.Addresses.{is_same}
use Rattle.hk_host_words.specs.Words.{AgreesWith}
use Rattle.hk_host_words.proofs.HostLists.{another}
use Rattle.hk_host_words.proofs.node.read_entry.Goals as goal

pub returns-then-not-is : goal.returns-then-not-is
returns-then-not-is c =
    let is : c.args.text ≡ Some c.in-Some.text = search rules in
    let other : is_same c.in_ok-inside.inside c.args.entry.now ≡ false = search rules in
    subst (λ (o : Option (Bor (List ℕ))). (a : Address) → (a ≡ c.args.entry.now) × AgreesWith (option_copied o) a → ⊥) (sym is)
    (another c.addresses_are_read_as_printed.ensures.one c.addresses_are_read_as_printed.ensures.same c.in-Some.text.now c.args.entry.now c.in_ok-inside.inside c.in_ok-inside.ensures other)
