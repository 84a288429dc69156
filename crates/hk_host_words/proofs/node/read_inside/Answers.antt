use Rattle.std.proofs.Common.{rules, ◌≡◌, ℕ, None, Option, Some, option_copied, subst, sym}
use Rattle.std.specs.Prelude.{slice_get}
use Rattle.hk_hosts.specs.declared.address.Address.{Address}
use Rattle.hk_host_words.specs.Reading.{IsReading}
use Rattle.hk_host_words.specs.Words.{IsInsideOf}
use Rattle.hk_host_words.proofs.HostLists.{at_entry, no_entry}
use Rattle.hk_host_words.proofs.node.read_inside.Goals as goal

pub returns-in-Some-get : goal.returns-in-Some-get
returns-in-Some-get c =
    let is : c.args.place ≡ Some c.in-Some.place = search rules in
    let at : slice_get c.args.hosts.now c.in-Some.place ≡ Some c.in-Some-get.entry.now = sym c.in-Some-get.ensures in
    subst (λ (o : Option ℕ). IsReading (IsInsideOf c.args.hosts.now o (option_copied c.args.text)) c.read_entry.result) (sym is)
    (at_entry c.args.hosts.now c.in-Some.place (option_copied c.args.text) c.in-Some-get.entry.now at c.read_entry.result c.read_entry.ensures)

pub returns-in-None : goal.returns-in-None
returns-in-None c =
    let is : c.args.place ≡ Some c.in-Some.place = search rules in
    let at : slice_get c.args.hosts.now c.in-Some.place ≡ None = sym c.in-None.ensures in
    subst (λ (o : Option ℕ). (a : Address) → IsInsideOf c.args.hosts.now o (option_copied c.args.text) a → ⊥) (sym is)
    (no_entry c.args.hosts.now c.in-Some.place (option_copied c.args.text) at)
