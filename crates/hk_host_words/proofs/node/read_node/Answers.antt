use Rattle.std.proofs.Common.{rules, ◌≡◌, List, ℕ, Option, Err, length, option_copied, subst, sym}
use Rattle.hk_host_words.specs.declared.names.OptionName.TheVariants as option
use Rattle.hk_host_words.specs.Options.{value_of}
use Rattle.hk_host_words.specs.Reading.{IsReading, settings_of, AreNumbers}
use Rattle.hk_host_words.specs.Words.{usual_data, IsPathOf, IsPlaceOf, IsInsideOf, IsListenOf, IsGroup, IsNode}
use Rattle.hk_host_words.proofs.Carried.{failed}
use Rattle.hk_host_words.proofs.Single.{at_part, inside_part, listen_part, numbers_of}
use Rattle.hk_host_words.proofs.node.read_node.Goals as goal

pub returns-in_err-lease : goal.returns-in_err-lease
returns-in_err-lease c =
    let e : c.from_residual.result ≡ Err c.in_err-lease.field-0.0 = search rules in
    failed (λ x. x) (AreNumbers (settings_of c.args.typed.now)) (λ x. x) (IsNode (settings_of c.args.typed.now)) c.from_residual.result c.in_err-lease.field-0.0 e c.in_err-lease.ensures
    (λ n q. (numbers_of n, (q.lease_is, q.skew_is, q.workers_is)))

pub returns-in_err-data : goal.returns-in_err-data
returns-in_err-data c =
    let e : c.from_residual-in_err-data.result ≡ Err c.in_err-data.field-0.0 = search rules in
    failed (λ x. x) (IsPathOf usual_data (option_copied c.value_of.result)) (λ x. x) (IsNode (settings_of c.args.typed.now)) c.from_residual-in_err-data.result c.in_err-data.field-0.0 e c.in_err-data.ensures
    (λ n q. (n.data, subst (λ (o : Option (List ℕ)). IsPathOf usual_data o n.data) (sym c.value_of.ensures) q.data_is))

pub returns-in_err-at : goal.returns-in_err-at
returns-in_err-at c =
    let e : c.from_residual-in_err-at.result ≡ Err c.in_err-at.field-0.0 = search rules in
    let folder : c.as_slice.result.now ≡ c.in_ok-data.data = search rules in
    let count : c.len.result ≡ length c.in_ok-group.group.hosts = search rules in
    let of_data = subst (λ (o : Option (List ℕ)). IsPathOf usual_data o c.in_ok-data.data) c.value_of.ensures c.in_ok-data.ensures in
    let of_group = subst (λ (f : List ℕ). IsGroup f (settings_of c.args.typed.now) c.in_ok-group.group) folder c.in_ok-group.ensures in
    let none = subst (λ (k : ℕ). IsReading (IsPlaceOf k (value_of option.At (settings_of c.args.typed.now))) (Err c.in_err-at.field-0.0)) count
    (subst (λ (o : Option (List ℕ)). IsReading (IsPlaceOf c.len.result o) (Err c.in_err-at.field-0.0)) c.value_of-2.ensures c.in_err-at.ensures) in
    failed (λ x. x) (IsPlaceOf (length c.in_ok-group.group.hosts) (value_of option.At (settings_of c.args.typed.now))) (λ x. x) (IsNode (settings_of c.args.typed.now))
    c.from_residual-in_err-at.result c.in_err-at.field-0.0 e none
    (at_part c.addresses_are_read_as_printed.ensures.one (settings_of c.args.typed.now) c.in_ok-data.data c.in_ok-group.group of_data of_group)

pub returns-in_err-inside : goal.returns-in_err-inside
returns-in_err-inside c =
    let e : c.from_residual-in_err-inside.result ≡ Err c.in_err-inside.field-0.0 = search rules in
    let folder : c.as_slice.result.now ≡ c.in_ok-data.data = search rules in
    let count : c.len.result ≡ length c.in_ok-group.group.hosts = search rules in
    let of_data = subst (λ (o : Option (List ℕ)). IsPathOf usual_data o c.in_ok-data.data) c.value_of.ensures c.in_ok-data.ensures in
    let of_group = subst (λ (f : List ℕ). IsGroup f (settings_of c.args.typed.now) c.in_ok-group.group) folder c.in_ok-group.ensures in
    let of_at = subst (λ (k : ℕ). IsPlaceOf k (value_of option.At (settings_of c.args.typed.now)) c.in_ok-at.at) count
    (subst (λ (o : Option (List ℕ)). IsPlaceOf c.len.result o c.in_ok-at.at) c.value_of-2.ensures c.in_ok-at.ensures) in
    let none = subst (λ (o : Option (List ℕ)). IsReading (IsInsideOf c.in_ok-group.group.hosts c.in_ok-at.at o) (Err c.in_err-inside.field-0.0)) c.value_of-3.ensures c.in_err-inside.ensures in
    failed (λ x. x) (IsInsideOf c.in_ok-group.group.hosts c.in_ok-at.at (value_of option.Inside (settings_of c.args.typed.now))) (λ x. x) (IsNode (settings_of c.args.typed.now))
    c.from_residual-in_err-inside.result c.in_err-inside.field-0.0 e none
    (inside_part c.addresses_are_read_as_printed.ensures.one (settings_of c.args.typed.now) c.in_ok-data.data c.in_ok-group.group of_data of_group c.in_ok-at.at of_at)

pub returns-in_err-listen : goal.returns-in_err-listen
returns-in_err-listen c =
    let e : c.from_residual-in_err-listen.result ≡ Err c.in_err-listen.field-0.0 = search rules in
    let folder : c.as_slice.result.now ≡ c.in_ok-data.data = search rules in
    let count : c.len.result ≡ length c.in_ok-group.group.hosts = search rules in
    let of_data = subst (λ (o : Option (List ℕ)). IsPathOf usual_data o c.in_ok-data.data) c.value_of.ensures c.in_ok-data.ensures in
    let of_group = subst (λ (f : List ℕ). IsGroup f (settings_of c.args.typed.now) c.in_ok-group.group) folder c.in_ok-group.ensures in
    let of_at = subst (λ (k : ℕ). IsPlaceOf k (value_of option.At (settings_of c.args.typed.now)) c.in_ok-at.at) count
    (subst (λ (o : Option (List ℕ)). IsPlaceOf c.len.result o c.in_ok-at.at) c.value_of-2.ensures c.in_ok-at.ensures) in
    let of_inside = subst (λ (o : Option (List ℕ)). IsInsideOf c.in_ok-group.group.hosts c.in_ok-at.at o c.in_ok-inside.inside) c.value_of-3.ensures c.in_ok-inside.ensures in
    let none = subst (λ (o : Option (List ℕ)). IsReading (IsListenOf c.in_ok-inside.inside o) (Err c.in_err-listen.field-0.0)) c.value_of-4.ensures c.in_err-listen.ensures in
    failed (λ x. x) (IsListenOf c.in_ok-inside.inside (value_of option.Listen (settings_of c.args.typed.now))) (λ x. x) (IsNode (settings_of c.args.typed.now))
    c.from_residual-in_err-listen.result c.in_err-listen.field-0.0 e none
    (listen_part c.addresses_are_read_as_printed.ensures.one (settings_of c.args.typed.now) c.in_ok-data.data c.in_ok-group.group of_data of_group c.in_ok-at.at of_at c.in_ok-inside.inside of_inside)
