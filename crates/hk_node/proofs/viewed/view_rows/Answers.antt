use Rattle.std.proofs.Common.{map, ap}
use Rattle.hk_node.proofs.Walk.{if_as, letters_walk, told_walk, new_walk, old_walk}
use Rattle.hk_node.proofs.viewed.view_rows.Goals as goal

pub returns-clause-letters : goal.returns-clause-letters
returns-clause-letters c = if_as c.view_keys.result (λ v. v.letters) _ _
    (letters_walk c.args.id c.args.view.now c.args.keys.now.keys c.args.rows.now.entries c.view_keys.ensures.ordered c.requires.ordered c.requires.has c.requires.rest) c.view_keys.ensures.letters

pub returns-clause-replies : goal.returns-clause-replies
returns-clause-replies c = if_as c.view_keys.result (λ v. v.replies) _ _
    (ap (map (λ t. t.1)) (told_walk c.args.id c.args.view.now c.args.keys.now.keys c.args.rows.now.entries c.view_keys.ensures.ordered c.requires.ordered c.requires.has c.requires.rest)) c.view_keys.ensures.replies

pub returns-clause-fresh : goal.returns-clause-fresh
returns-clause-fresh c = if_as c.view_keys.result (λ v. v.fresh) _ _
    (new_walk c.args.id c.args.view.now c.args.keys.now.keys c.args.rows.now.entries c.view_keys.ensures.ordered c.requires.ordered c.requires.has c.requires.rest) c.view_keys.ensures.fresh

pub returns-clause-prior : goal.returns-clause-prior
returns-clause-prior c = if_as c.view_keys.result (λ v. v.prior) _ _
    (old_walk c.args.id c.args.view.now c.args.keys.now.keys c.args.rows.now.entries c.view_keys.ensures.ordered c.requires.ordered c.requires.has c.requires.rest) c.view_keys.ensures.prior
