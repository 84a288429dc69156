use Rattle.std.proofs.Common.{rules, ◌≡◌, false}
use Rattle.hk_host_words.specs.Verbosities.{is_usual, Stands}
use Rattle.hk_host_words.proofs.TakenOut.{taken_out}
use Rattle.hk_host_words.proofs.verbosity.take_verbosity.Goals as goal

pub returns-in-Some : goal.returns-in-Some
returns-in-Some c =
    let stands : Stands c.in-Some.verbosity c.in-Some.place c.args.words.now.items = search rules in
    let unusual : is_usual c.in-Some.verbosity ≡ false = search rules in
    taken_out c.in-Some.verbosity c.in-Some.place c.args.words.now.items c.remove-taken.new.self.items stands unusual c.remove-taken.ensures.items
