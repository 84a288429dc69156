use Rattle.hk_request.proofs.Lines.{is_head, head_is, has_its_tag}
use Rattle.hk_request.proofs.line.read_request.Goals as goal

pub returns-clause-found : goal.returns-clause-found
returns-clause-found c = is_head c.args.line.now c.read_line.result c.read_line.ensures.exact

pub returns-clause-only : goal.returns-clause-only
returns-clause-only c = head_is c.args.line.now c.read_line.result c.read_line.ensures.exact

pub returns-clause-its_tag : goal.returns-clause-its_tag
returns-clause-its_tag c = has_its_tag c.args.line.now c.read_line.result c.read_line.ensures.exact
