use Rattle.std.proofs.Common.{rules, ◌≡◌, ◌≤◌, length}
use Rattle.std.specs.Prelude.{All}
use Rattle.hk_log.specs.declared.checks.TheConstants.{MAX_BODY_LEN}
use Rattle.hk_log.specs.Entries.{IsEntry}
use Rattle.hk_log.specs.Records.{check_of, framed, body_bytes}
use Rattle.hk_log.proofs.Bodies.{record_is}
use Rattle.hk_log.proofs.printing.print_record.Goals as goal

pub returns : goal.returns
returns c =
    let are : All IsEntry c.args.entries.now = search rules in
    let body : c.put_entries.new.out.items ≡ body_bytes c.args.entries.now = search rules in
    let short : length (body_bytes c.args.entries.now) ≤ MAX_BODY_LEN = search rules in
    let check : c.check_of-check.result.0 ≡ check_of c.args.before.0 (body_bytes c.args.entries.now) = search rules in
    let text : c.put_frame.new.out.items ≡ framed c.args.before.0 (body_bytes c.args.entries.now) = search rules in
    (text, check, record_is c.args.entries.now c.requires.some are short)
