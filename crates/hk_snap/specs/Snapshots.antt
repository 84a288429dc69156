-- What is published of a row, and what a cell shows of that.
use Rattle.std.specs.Prelude.{◌≡◌, ⊤, ◌⊎◌, ℕ, ◌<◌, ◌/◌, ◌%◌, Bool, true, false, List, [], ◌∷◌, length, sum, Option, Some, None, nat_lt, if◌then◌else◌}
use Rattle.std.specs.Ordering.{nat_cmp}
use Rattle.std.specs.declared.cmp.Ordering.TheVariants.{Less}
use Rattle.std.specs.Cmp.Lexicographic.{slice_cmp}
use Rattle.std.specs.Str.{bytes_eq}
use Rattle.hk_base.specs.declared.call.CallNo.{CallNo}
use Rattle.hk_base.specs.declared.call.Content.{Content}
use Rattle.hk_key.specs.declared.row.Row.{Row}
use Rattle.hk_snap.specs.declared.rule.Publication.{Publication}
use Rattle.hk_snap.specs.declared.snapshot.Snapshot.{Snapshot}
use Rattle.hk_snap.specs.declared.snapshot.Glance.{Glance}
use Rattle.hk_snap.specs.declared.snapshot.Shape.{Shape}
use Rattle.hk_snap.specs.declared.snapshot.Shape.TheVariants.{Small, Large, Missing}
use Rattle.hk_snap.specs.declared.snapshot.TheConstants.{MAX_SMALL_LEN}

-- the cell of a key: the sum of its bytes, divided by 8, modulo 32
abbrev pub cell_of : List ℕ → ℕ
cell_of key = sum key / 8 % 32

abbrev pub published : List ℕ → Row → ℕ → Option CallNo → Publication
published key row ticket call = record { key = key; row = row; ticket = ticket; call = call }

-- data above 1,000 bytes is not shown
abbrev pub shape_of : Option Content → Shape
shape_of None = Missing
shape_of (Some content) = if nat_lt MAX_SMALL_LEN (length content.bytes) then Large else Small content

-- what a cell shows of what was published
abbrev pub snapshot_of : Publication → Snapshot
snapshot_of p = record { key = p.key; state = p.row.state; stamp = p.row.stamp; ticket = p.ticket; shape = shape_of p.row.content }

-- what a cell shows after these were published in it: the last, or nothing
abbrev pub last_shown : List Publication → Option Snapshot
last_shown [] = None
last_shown (p ∷ []) = Some (snapshot_of p)
last_shown (p ∷ q ∷ ps) = last_shown (q ∷ ps)

abbrev pub is_large : Shape → Bool
is_large Large = true
is_large shape = false

-- what is seen of a key without its content, where its row is shown
abbrev pub glance_of : Option Snapshot → List ℕ → Option Glance
glance_of None key = None
glance_of (Some s) key = if bytes_eq s.key key then Some (record { state = s.state; stamp = s.stamp; is_large = is_large s.shape }) else None

abbrev pub small_content : Shape → Option Content
small_content (Small content) = Some content
small_content shape = None

-- the content that is shown, if one is
abbrev pub shown_content : Option Snapshot → Option Content
shown_content None = None
shown_content (Some s) = small_content s.shape

-- A later one has a greater ticket. One step may publish several rows, in the order of their keys.
abbrev pub IsBefore : Publication → Publication → Type 0
IsBefore p q = (p.ticket < q.ticket) ⊎ ((p.ticket ≡ q.ticket) × (slice_cmp nat_cmp p.key q.key ≡ Less))

-- it may be published next after these
abbrev pub IsNext : List Publication → Publication → Type 0
IsNext [] q = ⊤
IsNext (p ∷ []) q = IsBefore p q
IsNext (p ∷ next ∷ ps) q = IsNext (next ∷ ps) q

-- the tickets rise, and equal ones by their keys
abbrev pub IsRising : List Publication → Type 0
IsRising [] = ⊤
IsRising (p ∷ []) = ⊤
IsRising (p ∷ q ∷ ps) = IsBefore p q × IsRising (q ∷ ps)
