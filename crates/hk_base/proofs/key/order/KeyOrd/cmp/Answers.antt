use Rattle.std.proofs.Common.{◌∙◌, ap, rules}
use Rattle.hk_base.specs.KeyForm.{in_key}
use Rattle.hk_base.proofs.Words.{first_decides, second_decides, third_decides, rest_decides, kept_word, short_length}
use Rattle.hk_base.proofs.key.order.KeyOrd.cmp.Goals as goal

pub returns-then-mine-theirs : goal.returns-then-mine-theirs
returns-then-mine-theirs c =
    rw (← c.self.view_is, ← c.other.view_is)
    (c.cmp.ensures ∙ first_decides _ _ c.self.invariant c.other.invariant _ _ c.first-mine.ensures c.first-theirs.ensures c.if-mine-theirs.true)

pub returns-then-mine-theirs-2 : goal.returns-then-mine-theirs-2
returns-then-mine-theirs-2 c =
    rw (← c.self.view_is, ← c.other.view_is)
    (c.cmp-then-mine-theirs-2.ensures ∙ second_decides _ _ c.self.invariant c.other.invariant _ _ c.first-mine.ensures c.first-theirs.ensures c.if-mine-theirs.false _ _ c.second-mine.ensures c.second-theirs.ensures c.if-mine-theirs-2.true)

pub returns-in-Short-Short : goal.returns-in-Short-Short
returns-in-Short-Short c =
    rw (← c.self.view_is, ← c.other.view_is)
    (c.cmp-in-Short-Short.ensures ∙ third_decides _ _ c.self.invariant c.other.invariant _ _ c.first-mine.ensures c.first-theirs.ensures c.if-mine-theirs.false _ _ c.second-mine.ensures c.second-theirs.ensures c.if-mine-theirs-2.false _ _
    (c.word.ensures ∙ kept_word 14 _ _ (ap in_key c.in-Short-Short.is-0) c.self.invariant (search rules))
    (c.word-in-Short-Short.ensures ∙ kept_word 14 _ _ (ap in_key c.in-Short-Short.is-1) c.other.invariant (search rules))
    (short_length _ _ _ c.in-Short-Short.is-0 c.self.invariant)
    (short_length _ _ _ c.in-Short-Short.is-1 c.other.invariant))

pub returns-in_default : goal.returns-in_default
returns-in_default c =
    rw (
      c.cmp_behind_front.ensures,
      c.bytes.ensures.same,
      c.bytes-in_default.ensures.same,
      ← c.self.view_is,
      ← c.other.view_is,
    )
    (rest_decides _ _ c.self.invariant c.other.invariant _ _ c.first-mine.ensures c.first-theirs.ensures c.if-mine-theirs.false _ _ c.second-mine.ensures c.second-theirs.ensures c.if-mine-theirs-2.false)
