-- What was read of words, and what that tells of them.
use Rattle.std.proofs.Common.{◌≡◌, ℕ, List, Option, Some, None, refl, sym, ap}
use Rattle.hk_script.proofs.Choices.{no_some}
use Rattle.hk_cli.specs.declared.words.Command.{Command}
use Rattle.hk_cli.specs.declared.words.Command.TheVariants.{Drill, Joint, Generate, Storm, Serve, Peer, Watch, JointStorm}
use Rattle.hk_cli.specs.Words.{IsCommand, IsCommandRead}
use Rattle.hk_cli.specs.Commands.{IsNoCommand, IsInRange}
use Rattle.hk_cli.proofs.Exact.{commands_are_one}

pub read_is : (o : Option Command) (words : List (List ℕ)) (command : Command) → IsCommandRead o words → IsCommand command words → o ≡ Some command
read_is (Some other) words command read is = ap (λ c. Some c) (commands_are_one words other command read is)
read_is None words command read is = absurd (read command is)

pub none_is : (o : Option Command) (words : List (List ℕ)) → IsCommandRead o words → o ≡ None → IsNoCommand words
none_is (Some command) words read e = absurd (no_some command (sym e))
none_is None words read e = read

pub is_none : (o : Option Command) (words : List (List ℕ)) → IsCommandRead o words → IsNoCommand words → o ≡ None
is_none (Some command) words read never = absurd (never command read)
is_none None words read never = refl

pub in_range : (o : Option Command) (words : List (List ℕ)) → IsCommandRead o words → IsInRange o
in_range None words read = tt
in_range (Some Drill) words read = tt
in_range (Some Joint) words read = tt
in_range (Some (Generate start count nodes)) words read = (read.2.some_nodes, read.2.few_nodes)
in_range (Some (Storm opts)) words read = record {
  some_nodes = read.2.some_nodes;
  few_nodes = read.2.few_nodes;
  some_workers = read.2.some_workers;
  few_workers = read.2.few_workers;
  some_calls = read.2.some_calls;
  few_calls = read.2.few_calls;
}
in_range (Some (Serve group)) words read =
    let is = read.2 in
    record { some_nodes = is.some_nodes; few_nodes = is.few_nodes; few_managers = is.few_managers; lease = is.lease_fits; skew = is.skew_fits }
in_range (Some (Peer process)) words read =
    let is = read.2 in
    record { id = is.id_below; few_nodes = is.few_nodes; ports = is.ports_fit }
in_range (Some (Watch writes)) words read = tt
in_range (Some (JointStorm workers reads)) words read = tt
