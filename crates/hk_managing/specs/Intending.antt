-- What the cores are to do of themselves, and which views they let begin so.
use Rattle.std.specs.Prelude.{ℕ, zero, suc, Bool, true, false, ◌&&◌, nat_lt, if◌then◌else◌, List, [], ◌∷◌, ◌++◌, slice_get, slice_index_or, Option, None, Some, Result, Ok, Err}
use Rattle.hk_base.specs.declared.view.View.{View}
use Rattle.hk_keeper.specs.declared.heard.Wish.{Wish}
use Rattle.hk_keeper.specs.declared.heard.Wish.TheVariants as wishes
use Rattle.hk_manager.specs.declared.fault.ManagerFault.{ManagerFault}
use Rattle.hk_manager.specs.Manager.{ManagerState}
use Rattle.hk_manager.specs.Steps.{ManagerStepped, activates}
use Rattle.hk_durable.specs.declared.batch.Intent.{Intent}
use Rattle.hk_durable.specs.declared.batch.Intent.TheVariants as intents
use Rattle.hk_durable.specs.Batches.{may_begin}
use Rattle.hk_office.specs.Wishing.{by_shards, wish_at}

-- ---- what is intended

-- A change is proposed of the view that is held. A view that this manager did not let begin yet is to begin where nothing else is wished: whoever is left out by it learns of
-- that from a majority of those that let it begin, and others may have. `begun` is the epoch of the last one that it let begin.
abbrev pub intent_of : View → Wish → ℕ → Intent
intent_of view wishes.Nothing begun = if nat_lt begun view.epoch then intents.Activate else intents.Nothing
intent_of view (wishes.Propose p) begun = intents.Propose view.epoch p.change
intent_of view wishes.Activate begun = intents.Activate

abbrev pub intent_by : Option View → Wish → ℕ → Intent
intent_by None wish begun = intents.Nothing
intent_by (Some view) wish begun = intent_of view wish begun

abbrev pub intent_in : List View → List Wish → List ℕ → ℕ → Intent
intent_in views ws begun shard = intent_by (slice_get views shard) (wish_at ws shard) (slice_index_or begun shard 0)

-- what is intended in each shard, where this is wished of the views that are held
abbrev pub intents_of : List View → List Wish → List ℕ → List Intent
intents_of views ws begun = by_shards (intent_in views ws begun)

-- ---- what began

abbrev pub is_made : Result ManagerStepped ManagerFault → Bool
is_made (Ok made) = true
is_made (Err fault) = false

-- The manager lets the view begin that it holds.
abbrev pub lets_begin : ManagerState → Bool
lets_begin m = may_begin (Some m) && is_made (activates m)

abbrev pub is_to_begin : Option Intent → Bool
is_to_begin None = false
is_to_begin (Some intents.Nothing) = false
is_to_begin (Some (intents.Propose base change)) = false
is_to_begin (Some intents.Activate) = true

abbrev pub begun_of : ℕ → Option ManagerState → List (ℕ × View)
begun_of shard None = []
begun_of shard (Some m) = if lets_begin m then (shard, m.held) ∷ [] else []

-- the view of a shard, if that is intended and its manager lets it begin
abbrev pub begun_in : List Intent → List ManagerState → ℕ → List (ℕ × View)
begun_in is managers shard = if is_to_begin (slice_get is shard) then begun_of shard (slice_get managers shard) else []

-- those of the shards below this one, in their order
abbrev pub begun_below : List Intent → List ManagerState → ℕ → List (ℕ × View)
begun_below is managers zero = []
begun_below is managers (suc shard) = begun_below is managers shard ++ begun_in is managers shard
