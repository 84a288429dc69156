-- The lemmas on what stands at a place, in the sets that the look-ups of a case take.
use Rattle.hk_history.proofs.Found.{is_some-position_from, is_some-op_of, unwrap_or-position_from, position_or_len-le, found_at, found_none, op_of-find, answer_of-find}

pub ruleset called = (is_some-position_from, is_some-op_of)

pub ruleset placed = (is_some-position_from, unwrap_or-position_from, position_or_len-le)

pub ruleset found = (found_at, found_none)

pub ruleset read = (op_of-find, answer_of-find)
