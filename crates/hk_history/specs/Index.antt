-- What the maps of an index say, each of them of where something stands first.
use Rattle.std.specs.Prelude.{◌≡◌, ℕ, List, count_by, unwrap_or}
use Rattle.std.specs.List.{position_from}
use Rattle.std.specs.Ordering.{nat_cmp}
use Rattle.std.specs.BTreeMap.{BTreeMap, get}
use Rattle.hk_history.specs.declared.event.Event.{Event}
use Rattle.hk_history.specs.declared.event.Event.TheVariants.{Call, Reply}
use Rattle.hk_history.specs.declared.event.Entry.{Entry}
use Rattle.hk_history.specs.History.{is_call, is_reply}
use Rattle.hk_history.specs.Legal.{is_entry}

-- the place of each call of the history
abbrev pub PlacesCalls : BTreeMap ℕ ℕ → List Event → Type 0
PlacesCalls places history = (n : ℕ) → get nat_cmp places n ≡ position_from (is_call n) 0 history

-- of each reply
abbrev pub PlacesReplies : BTreeMap ℕ ℕ → List Event → Type 0
PlacesReplies places history = (n : ℕ) → get nat_cmp places n ≡ position_from (is_reply n) 0 history

-- the first place of each call in the order
abbrev pub PlacesEntries : BTreeMap ℕ ℕ → List Entry → Type 0
PlacesEntries places order = (n : ℕ) → get nat_cmp places n ≡ position_from (is_entry n) 0 order

-- how often each call stands in the order
abbrev pub CountsEntries : BTreeMap ℕ ℕ → List Entry → Type 0
CountsEntries counts order = (n : ℕ) → unwrap_or (get nat_cmp counts n) 0 ≡ count_by (is_entry n) order

-- the number of an event's call
unfoldable pub number_of : Event → ℕ
number_of (Call c op) = c.0
number_of (Reply c answer) = c.0

-- how often each number is called, and how many replies it has
abbrev pub CountsCalls : BTreeMap ℕ ℕ → List Event → Type 0
CountsCalls counts history = (n : ℕ) → unwrap_or (get nat_cmp counts n) 0 ≡ count_by (is_call n) history

abbrev pub CountsReplies : BTreeMap ℕ ℕ → List Event → Type 0
CountsReplies counts history = (n : ℕ) → unwrap_or (get nat_cmp counts n) 0 ≡ count_by (is_reply n) history
