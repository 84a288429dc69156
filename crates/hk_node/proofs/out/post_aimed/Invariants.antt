use Rattle.std.proofs.Common.{◌≡◌, ◌++◌, drop}
use Rattle.std.specs.List.{filter}
use Rattle.hk_node.specs.Sends.{at_view, letters_to, body_of, is_aimed}
use Rattle.hk_node.proofs.out.post_aimed.Given as goal

-- the letters so far and those to the members that are left are all
abbrev pub invariant-loop-member : goal.invariant-loop-member
invariant-loop-member l = l.letters ++ letters_to (at_view l.id l.view) (body_of l.key l.row l.what) (filter (is_aimed l.all l.id l.row) (drop l.member-index l.member-items))
    ≡ l.fn.letters ++ letters_to (at_view l.id l.view) (body_of l.key l.row l.what) (filter (is_aimed l.all l.id l.row) l.view.members)
