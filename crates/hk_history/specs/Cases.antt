-- An index of a history and an order.
use Rattle.hk_history.specs.declared.case.Case.{Case}
use Rattle.hk_history.specs.Index.{PlacesCalls, PlacesReplies, PlacesEntries, CountsEntries}

-- The maps of a case are those of its history and its order.
pub record IsIndexed (case : Case) : Type 0 where
  pub calls : PlacesCalls case.calls case.items.now
  pub replies : PlacesReplies case.replies case.items.now
  pub entries : PlacesEntries case.entries case.order.now
  pub counts : CountsEntries case.counts case.order.now
