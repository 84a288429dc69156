use Rattle.std.proofs.Common.{rules, ◌≡◌, ◌/◌, List, ℕ, Option, Err, option_copied, arith, subst, sym}
use Rattle.hk_host_words.specs.declared.names.OptionName.TheVariants as option
use Rattle.hk_host_words.specs.Options.{value_of}
use Rattle.hk_host_words.specs.Reading.{settings_of, AreNumbers}
use Rattle.hk_host_words.specs.Words.{IsNumberOf}
use Rattle.hk_host_words.proofs.Carried.{failed}
use Rattle.hk_host_words.proofs.Single.{number_one}
use Rattle.hk_host_words.proofs.node.read_numbers.Goals as goal

pub returns-in_err-lease : goal.returns-in_err-lease
returns-in_err-lease c =
    let e : c.from_residual.result ≡ Err c.in_err-lease.field-0.0 = search rules in
    failed (λ x. x) (IsNumberOf 200 60000 1000 (option_copied c.value_of.result)) (λ x. x) (AreNumbers (settings_of c.args.typed.now)) c.from_residual.result c.in_err-lease.field-0.0 e c.in_err-lease.ensures
    (λ n q. (n.lease, subst (λ (o : Option (List ℕ)). IsNumberOf 200 60000 1000 o n.lease) (sym c.value_of.ensures) q.0))

pub returns-in_err-skew : goal.returns-in_err-skew
returns-in_err-skew c =
    let e : c.from_residual-in_err-skew.result ≡ Err c.in_err-skew.field-0.0 = search rules in
    let own : IsNumberOf 200 60000 1000 (value_of option.Lease (settings_of c.args.typed.now)) c.in_ok-lease.lease =
    subst (λ (o : Option (List ℕ)). IsNumberOf 200 60000 1000 o c.in_ok-lease.lease) c.value_of.ensures c.in_ok-lease.ensures in
    failed (λ x. x) (IsNumberOf 0 (c.in_ok-lease.lease / 8) 10 (option_copied c.value_of-2.result)) (λ x. x) (AreNumbers (settings_of c.args.typed.now)) c.from_residual-in_err-skew.result c.in_err-skew.field-0.0 e c.in_err-skew.ensures
    (λ n q. (
      n.skew,
      subst (λ (o : Option (List ℕ)). IsNumberOf 0 (c.in_ok-lease.lease / 8) 10 o n.skew) (sym c.value_of-2.ensures)
          (subst (λ (lease : ℕ). IsNumberOf 0 (lease / 8) 10 (value_of option.Skew (settings_of c.args.typed.now)) n.skew)
          (number_one 200 60000 1000 (value_of option.Lease (settings_of c.args.typed.now)) n.lease c.in_ok-lease.lease (omega arith) q.0 own) q.1),
    ))

pub returns-in_err-workers : goal.returns-in_err-workers
returns-in_err-workers c =
    let e : c.from_residual-in_err-workers.result ≡ Err c.in_err-workers.field-0.0 = search rules in
    failed (λ x. x) (IsNumberOf 1 8 1 (option_copied c.value_of-3.result)) (λ x. x) (AreNumbers (settings_of c.args.typed.now)) c.from_residual-in_err-workers.result c.in_err-workers.field-0.0 e c.in_err-workers.ensures
    (λ n q. (n.workers, subst (λ (o : Option (List ℕ)). IsNumberOf 1 8 1 o n.workers) (sym c.value_of-3.ensures) q.2))
