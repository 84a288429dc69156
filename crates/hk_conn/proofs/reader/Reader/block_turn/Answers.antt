use Rattle.std.proofs.Common.{sym, ◌∙◌}
use Rattle.hk_conn.proofs.Reading.{block_given, block_turns, wait_turns}
use Rattle.hk_conn.proofs.reader.Reader.block_turn.Goals as goal

pub block-requires-clause-whole : goal.block-requires-clause-whole
block-requires-clause-whole c = block_given c.args.self.now.cutter c.next.new.self c.args.head c.requires.reader (sym c.in-Block.ensures.step) c.in-Block.ensures.rest

pub returns-in_ok-said-in-Block-clause-reader : goal.returns-in_ok-said-in-Block-clause-reader
returns-in_ok-said-in-Block-clause-reader c = rw c.requires.pending (block_turns c.args.self.now.cutter c.next.new.self c.args.head c.in_ok-said-in-Block.said c.requires.reader (sym c.in-Block.ensures.step) c.in-Block.ensures.rest c.in-Block.ensures.free c.in_ok-said-in-Block.ensures).0

pub returns-in_ok-said-in-Block-clause-turns : goal.returns-in_ok-said-in-Block-clause-turns
returns-in_ok-said-in-Block-clause-turns c = rw c.requires.pending (block_turns c.args.self.now.cutter c.next.new.self c.args.head c.in_ok-said-in-Block.said c.requires.reader (sym c.in-Block.ensures.step) c.in-Block.ensures.rest c.in-Block.ensures.free c.in_ok-said-in-Block.ensures).1

pub returns-in_default : goal.returns-in_default
returns-in_default c =
    let w = wait_turns c.args.self.now.cutter c.next.new.self c.args.head c.requires.reader (λ h. c.in_default.not-Block (c.next.ensures.step ∙ h)) c.next.ensures.rest in
    record { reader = w.0; turns = w.1 }
