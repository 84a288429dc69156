use Rattle.std.proofs.Common.{rules, ◌≡◌, ℕ, List, Option, Some, Bor, option_copied, subst, sym}
use Rattle.hk_hosts.specs.declared.hosts.HostsFault.TheVariants as fault
use Rattle.hk_hosts.specs.declared.address.Address.{Address}
use Rattle.hk_host_words.specs.Words.{AreHostsOf}
use Rattle.hk_host_words.specs.declared.words.TheConstants.{INSIDE_PORT}
use Rattle.hk_host_words.proofs.HostLists.{refused}
use Rattle.hk_host_words.proofs.group.read_group_hosts.Goals as goal

pub returns-else-eq : goal.returns-else-eq
returns-else-eq c =
    let some : c.in-Err.fault ≡ fault.Memory → ⊥ = search rules in
    let is : c.args.text ≡ Some c.in-Some.text = search rules in
    subst (λ (o : Option (Bor (List ℕ))). (hosts : List Address) → AreHostsOf (option_copied o) hosts → ⊥) (sym is)
    (refused c.addresses_are_read_as_printed.ensures.one INSIDE_PORT c.in-Some.text.now c.in-Err.fault some c.in-Err.ensures)
