-- The maps of a tally are those of its items.
use Rattle.hk_history.specs.declared.history.Tally.{Tally}
use Rattle.hk_history.specs.Index.{PlacesCalls, PlacesReplies, CountsCalls, CountsReplies}

pub record IsTallied (tally : Tally) : Type 0 where
  pub calls : PlacesCalls tally.calls tally.items.now
  pub replies : PlacesReplies tally.replies tally.items.now
  pub call_counts : CountsCalls tally.call_counts tally.items.now
  pub reply_counts : CountsReplies tally.reply_counts tally.items.now
