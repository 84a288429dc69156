-- The replies that a step's list of them has.
use Rattle.std.specs.Prelude.{List, [], ◌∷◌}
use Rattle.hk_base.specs.declared.call.Reply.{Reply}
use Rattle.hk_node.specs.declared.out.ReplyList.{ReplyList}
use Rattle.hk_node.specs.declared.out.ReplyList.TheVariants.{Nothing, One, Many}

abbrev pub listed : ReplyList → List Reply
listed Nothing = []
listed (One reply) = reply ∷ []
listed (Many replies) = replies
