use Rattle.std.proofs.Common.{sym, ◌∙◌, ap}
use Rattle.hk_request.specs.Reading.{head_of}
use Rattle.hk_conn.proofs.Reading.{skip_turns_at, fails_other}
use Rattle.hk_conn.proofs.reader.Reader.line.Goals as goal

pub returns-in_default-clause-turns : goal.returns-in_default-clause-turns
returns-in_default-clause-turns c =
    let e = fails_other c.in-Err.fault.cause c.in-Err.fault _ c.in_default.not-Memory c.in-Err.ensures.exact in
    skip_turns_at c.args.self.now.cutter c.skip.new.self c.in-Err.fault _ _ (sym (ap head_of c.given.ensures) ∙ e) c.requires.pending c.skip.ensures
