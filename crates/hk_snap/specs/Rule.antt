-- The rule of a cell: there is one list of all that was published in it. Each pass has seen a beginning, and the writer's pass the whole.
use Rattle.std.specs.Prelude.{◌≡◌, ℕ, ◌+◌, List, [], ◌∷◌, ◌++◌, length, None, true, false, if◌then◌else◌, nat_lt}
use Rattle.std.specs.List.{AllByRecursion}
use mathlib.Core.Option.{some}
use mathlib.Core.List.{IsPrefix}
use lib.ListN.{get_elem?}
use Rattle.hk_key.specs.Table.{first_row}
use Rattle.hk_snap.specs.declared.rule.Publication.{Publication}
use Rattle.hk_snap.specs.declared.rule.Knowledge.{Knowledge}
use Rattle.hk_snap.specs.Snapshots.{last_shown, snapshot_of, published, IsRising}
use Rattle.hk_snap.specs.Layout.{words_at, IsInWords}

-- what stands where nothing was picked
abbrev pub no_publication : Publication
no_publication = published [] first_row 0 None

-- the parts of what was published are such as the words can show
abbrev pub IsInRange : Publication → Type 0
IsInRange p = IsInWords (snapshot_of p)

abbrev pub reader : List Publication → ℕ → Knowledge
reader seen loads = record { publishes = false; seen = seen; loads = loads; claim = [] }

abbrev pub opening : Knowledge
opening = record { publishes = true; seen = []; loads = 0; claim = [] }

abbrev pub longer : List Publication → List Publication → List Publication
longer xs ys = if nat_lt (length xs) (length ys) then ys else xs

abbrev pub joined : Knowledge → Knowledge → Knowledge
joined v w = record { publishes = v.publishes; seen = longer v.seen w.seen; loads = v.loads; claim = v.claim }

abbrev pub met : Knowledge → Knowledge → Knowledge
met v w = record { publishes = v.publishes; seen = w.seen; loads = v.loads + 1; claim = v.claim }

abbrev pub claimed : Knowledge → Knowledge → Knowledge
claimed v w = record { publishes = v.publishes; seen = v.seen; loads = v.loads; claim = w.seen }

abbrev pub with_published : Knowledge → Publication → Knowledge
with_published v p = record { publishes = v.publishes; seen = v.seen ++ p ∷ []; loads = v.loads; claim = v.claim }

-- what the rule says of one pass, the one at this seat being the writer's
abbrev pub Fits : ℕ → List Publication → ℕ → Knowledge → Type 0
Fits seat log by v = IsPrefix v.seen log × IsPrefix v.claim log × (v.publishes ≡ true → (by ≡ seat) × (v.seen ≡ log))

-- The words begin with those that show the last of the list, in which tickets rise.
abbrev pub Kept : List ℕ → List Knowledge → Type 0
Kept words views =
    (seat : ℕ) × (log : List Publication) × IsPrefix (words_at (last_shown log)) words × IsRising log × AllByRecursion IsInRange log
    × ((by : ℕ) (v : Knowledge) → get_elem? views by ≡ some v → Fits seat log by v)

-- a store: this is published
abbrev pub Adds : Publication → Knowledge → List ℕ → List ℕ → Knowledge → Type 0
Adds p v before after w = (w ≡ with_published v p) × (IsRising v.seen → IsRising w.seen)

-- a load: the list that is seen begins with what was seen before, and the words begin with those that show its last
abbrev pub Loaded : Knowledge → List ℕ → List ℕ → Knowledge → Type 0
Loaded v before after w =
    (w.publishes ≡ v.publishes) × (w.claim ≡ v.claim) × IsPrefix v.seen w.seen × IsPrefix (words_at (last_shown w.seen)) after × IsRising w.seen
    × AllByRecursion IsInRange w.seen × (w.loads ≡ v.loads + 1)

-- a load by the writer: what was claimed is a beginning of the list
abbrev pub Compared : Knowledge → List ℕ → List ℕ → Knowledge → Type 0
Compared v before after w =
    (w ≡ record { publishes = v.publishes; seen = v.seen; loads = v.loads + 1; claim = [] }) × IsPrefix v.claim v.seen
    × IsPrefix (words_at (last_shown v.seen)) after × IsRising v.seen × AllByRecursion IsInRange v.seen
