use Rattle.std.proofs.Common.{rules, ◌≡◌, ◌++◌, List, ℕ, Option, Err, codes, option_copied, subst, sym}
use Rattle.hk_host_words.specs.Reading.{settings_of}
use Rattle.hk_host_words.specs.Words.{AreHostsOf, IsPathOf, IsGroupNameOf, IsGroup}
use Rattle.hk_host_words.proofs.Carried.{failed}
use Rattle.hk_host_words.proofs.group.read_group.Goals as goal

pub returns-in_err-hosts : goal.returns-in_err-hosts
returns-in_err-hosts c =
    let e : c.from_residual.result ≡ Err c.in_err-hosts.field-0.0 = search rules in
    failed (λ x. x) (AreHostsOf (option_copied c.value_of.result)) (λ x. x) (IsGroup c.args.folder.now (settings_of c.args.typed.now)) c.from_residual.result c.in_err-hosts.field-0.0 e c.in_err-hosts.ensures
    (λ g q. (g.hosts, subst (λ (o : Option (List ℕ)). AreHostsOf o g.hosts) (sym c.value_of.ensures) q.hosts_are))

pub returns-in_err-secret : goal.returns-in_err-secret
returns-in_err-secret c =
    let e : c.from_residual-in_err-secret.result ≡ Err c.in_err-secret.field-0.0 = search rules in
    failed (λ x. x) (IsPathOf (c.args.folder.now ++ codes "/secret") (option_copied c.value_of-2.result)) (λ x. x) (IsGroup c.args.folder.now (settings_of c.args.typed.now)) c.from_residual-in_err-secret.result c.in_err-secret.field-0.0 e c.in_err-secret.ensures
    (λ g q. (g.secret, subst (λ (o : Option (List ℕ)). IsPathOf (c.args.folder.now ++ codes "/secret") o g.secret) (sym c.value_of-2.ensures) q.secret_is))

pub returns-in_err-group : goal.returns-in_err-group
returns-in_err-group c =
    let e : c.from_residual-in_err-group.result ≡ Err c.in_err-group.field-0.0 = search rules in
    failed (λ x. x) (IsGroupNameOf (option_copied c.value_of-3.result)) (λ x. x) (IsGroup c.args.folder.now (settings_of c.args.typed.now)) c.from_residual-in_err-group.result c.in_err-group.field-0.0 e c.in_err-group.ensures
    (λ g q. (g.group, subst (λ (o : Option (List ℕ)). IsGroupNameOf o g.group) (sym c.value_of-3.ensures) q.name_is))
