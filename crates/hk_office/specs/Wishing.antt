-- What the cores are to do at a beat.
use Rattle.std.specs.Prelude.{ℕ, ◌-◌, Bool, true, false, ◌&&◌, ◌==◌, nat_le, if◌then◌else◌, List, [], ◌∷◌, slice_get, slice_index_or, Option, None, Some}
use Rattle.hk_base.specs.declared.view.Change.{Change}
use Rattle.hk_base.specs.declared.view.Change.TheVariants.{Drop, Add}
use Rattle.hk_base.specs.declared.view.View.{View}
use Rattle.hk_keeper.specs.declared.heard.Proposal.{Proposal}
use Rattle.hk_keeper.specs.declared.heard.Wish.{Wish}
use Rattle.hk_keeper.specs.declared.heard.Wish.TheVariants.{Nothing, Propose, Activate}
use Rattle.hk_keeper.specs.Table.{wishes}
use Rattle.hk_stage.specs.Opening.{takes_letters}
use Rattle.hk_reports.specs.Reports.{proposes}
use Rattle.hk_office.specs.declared.office.Office.{Office}
use Rattle.hk_office.specs.declared.wishing.Wished.{Wished}
use Rattle.hk_office.specs.Seating.{heard_of}

-- ---- a change that is wished on

abbrev pub same_change : Change → Change → Bool
same_change (Drop one) (Drop other) = one.0 == other.0
same_change (Drop one) Add = false
same_change Add (Drop other) = false
same_change Add Add = true

-- Since when it is wished: since now, but where the same change of the same view was wished at the beat before.
abbrev pub since_of : Option Wished → ℕ → Change → ℕ → ℕ
since_of None base change now = now
since_of (Some w) base change now = if (w.base == base) && same_change w.change change then w.since else now

abbrev pub wished_on : Option Wished → Option ℕ → Change → ℕ → Option Wished
wished_on wished None change now = None
wished_on wished (Some base) change now = Some (record { base = base; change = change; since = since_of wished base change now })

abbrev pub kept_of : Option Wished → Option ℕ → Wish → ℕ → Option Wished
kept_of wished base Nothing now = None
kept_of wished base (Propose p) now = wished_on wished base p.change now
kept_of wished base Activate now = None

-- ---- what is to be done

-- A change is proposed once it was wished for its patience.
abbrev pub due_change : Option Wished → Proposal → ℕ → Wish
due_change None p now = Nothing
due_change (Some w) p now = if nat_le p.patience (now - w.since) then Propose p else Nothing

abbrev pub due_of : Option Wished → Wish → ℕ → Wish
due_of kept Nothing now = Nothing
due_of kept (Propose p) now = due_change kept p now
due_of kept Activate now = Activate

-- ---- the eight shards

abbrev pub epoch_by : Option View → Option ℕ
epoch_by None = None
epoch_by (Some v) = Some v.epoch

abbrev pub epoch_in : List View → ℕ → Option ℕ
epoch_in views shard = epoch_by (slice_get views shard)

abbrev pub kept_in : Office → ℕ → List View → ℕ → Wish → Option Wished
kept_in o now views shard wish = kept_of (slice_index_or o.wished shard None) (epoch_in views shard) wish now

abbrev pub wish_at : List Wish → ℕ → Wish
wish_at ws shard = slice_index_or ws shard Nothing

abbrev pub kept_at : List (Option Wished) → ℕ → Option Wished
kept_at ks shard = slice_index_or ks shard None

abbrev pub by_shards : {A : Type 0} → (ℕ → A) → List A
by_shards f = f 0 ∷ f 1 ∷ f 2 ∷ f 3 ∷ f 4 ∷ f 5 ∷ f 6 ∷ f 7 ∷ []

unfoldable pub kept_in_all : Office → ℕ → List View → List Wish → List (Option Wished)
kept_in_all o now views ws = by_shards (λ shard. kept_in o now views shard (wish_at ws shard))

unfoldable pub due_in_all : List (Option Wished) → List Wish → ℕ → List Wish
due_in_all ks ws now = by_shards (λ shard. due_of (kept_at ks shard) (wish_at ws shard) now)

abbrev pub proposal_noted : Option ℕ → Office → ℕ → ℕ → Office
proposal_noted None o now shard = o
proposal_noted (Some epoch) o now shard = record o { reports = proposes now shard epoch o.reports }

-- what is proposed is noted, so that the next proposal upon the view waits longer
unfoldable pub due_noted : Office → ℕ → List View → ℕ → Wish → Office
due_noted o now views shard Nothing = o
due_noted o now views shard (Propose p) = proposal_noted (epoch_in views shard) o now shard
due_noted o now views shard Activate = o

unfoldable pub all_due_noted : Office → ℕ → List View → List Wish → Office
all_due_noted o now views ws =
    due_noted (due_noted (due_noted (due_noted (due_noted (due_noted (due_noted (due_noted o now views 0 (wish_at ws 0)) now views 1 (wish_at ws 1)) now views 2 (wish_at ws 2)) now views 3 (wish_at ws 3))
    now views 4 (wish_at ws 4)) now views 5 (wish_at ws 5)) now views 6 (wish_at ws 6)) now views 7 (wish_at ws 7)

abbrev pub intended_by : Office → ℕ → List View → List (Option Wished) → List Wish → List Wish × Office
intended_by o now views kept due = (due, all_due_noted (record o { wished = kept }) now views due)

unfoldable pub intended_open : Office → ℕ → List View → List Wish → List Wish × Office
intended_open o now views ws = intended_by o now views (kept_in_all o now views ws) (due_in_all (kept_in_all o now views ws) ws now)

-- The table's wishes, each change once it was wished for its patience, are what is to be done; before the group is open nothing is.
abbrev pub intended : Office → ℕ → List View → List Wish × Office
intended o now views = if takes_letters o.opening then intended_open o now views (wishes (heard_of o now views)) else (by_shards (λ shard. Nothing), o)
