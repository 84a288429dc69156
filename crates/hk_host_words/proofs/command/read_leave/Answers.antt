use Rattle.std.proofs.Common.{rules, ◌≡◌, List, ℕ, Option, Err, length, option_copied, subst}
use Rattle.hk_host_words.specs.declared.names.OptionName.TheVariants as option
use Rattle.hk_host_words.specs.declared.names.CommandName.TheVariants as command
use Rattle.hk_host_words.specs.Options.{value_of}
use Rattle.hk_host_words.specs.Reading.{IsReading, IsSaidBy, settings_of}
use Rattle.hk_host_words.specs.Words.{IsLeaverOf}
use Rattle.hk_host_words.proofs.Carried.{failed}
use Rattle.hk_host_words.proofs.Single.{leave_part}
use Rattle.hk_host_words.proofs.command.read_leave.Goals as goal

pub returns-in_err-who : goal.returns-in_err-who
returns-in_err-who c =
    let e : c.from_residual-in_err-who.result ≡ Err c.in_err-who.field-0.0 = search rules in
    let count : c.len.result ≡ length c.in_ok-group.group.hosts = search rules in
    let none = subst (λ (k : ℕ). IsReading (IsLeaverOf k (value_of option.At (settings_of c.args.typed.now)) (value_of option.Node (settings_of c.args.typed.now))) (Err c.in_err-who.field-0.0)) count
    (subst (λ (o : Option (List ℕ)). IsReading (IsLeaverOf c.len.result (value_of option.At (settings_of c.args.typed.now)) o) (Err c.in_err-who.field-0.0)) c.value_of-node.ensures
    (subst (λ (o : Option (List ℕ)). IsReading (IsLeaverOf c.len.result o (option_copied c.value_of-node.result)) (Err c.in_err-who.field-0.0)) c.value_of-at.ensures c.in_err-who.ensures)) in
    failed (λ x. x) (IsLeaverOf (length c.in_ok-group.group.hosts) (value_of option.At (settings_of c.args.typed.now)) (value_of option.Node (settings_of c.args.typed.now)))
    (λ x. x) (IsSaidBy command.Leave (settings_of c.args.typed.now)) c.from_residual-in_err-who.result c.in_err-who.field-0.0 e none
    (leave_part c.addresses_are_read_as_printed.ensures.one (settings_of c.args.typed.now) c.in_ok-group.group c.in_ok-group.ensures)
