use Rattle.std.proofs.Common.{rules, ◌≡◌, None, ◌∙◌, sym}
use Rattle.hk_script.specs.Lines.{header_of}
use Rattle.hk_script.proofs.Choices.{no_some}
use Rattle.hk_script.proofs.Exact.{header_found, header_read}
use Rattle.hk_script.proofs.read.read_header.Goals as goal

pub returns-in-Some-clause-exact : goal.returns-in-Some-clause-exact
returns-in-Some-clause-exact c = header_found c.args.line.now c.in-Some.header (search rules)

pub returns-in-None-clause-exact : goal.returns-in-None-clause-exact
returns-in-None-clause-exact c =
    let none : header_of c.args.line.now ≡ None = search rules in
    λ h is. no_some h (sym none ∙ header_read c.args.line.now h is)
