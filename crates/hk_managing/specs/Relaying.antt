-- Letters on their way to the cores of a manager.
use Rattle.std.specs.Prelude.{◌≡◌, ◌⊎◌, ◌≤◌, ℕ, List, [], ◌∷◌, ◌++◌, length, Option, None, Some}
use Rattle.hk_base.specs.declared.stamp.NodeId.{NodeId}
use Rattle.hk_base.specs.declared.letter.Actor.{Actor}
use Rattle.hk_base.specs.declared.letter.Actor.TheVariants.{Node, Manager}
use Rattle.hk_base.specs.declared.letter.Body.{Body}
use Rattle.hk_base.specs.declared.letter.Body.TheVariants.{LeaseAsk}
use Rattle.hk_base.specs.declared.letter.Letter.{Letter}
use Rattle.hk_link.specs.declared.parcel.Parcel.{Parcel}
use Rattle.hk_link.specs.Ends.{End, IsPut, IsSameLink, WasFull}
use Rattle.hk_durable.specs.declared.post.TheConstants.{MOST_PARCELS}
use Rattle.hk_durable.specs.Turns.{AreTaken}
use Rattle.hk_reports.specs.Reports.{asked}
use Rattle.hk_office.specs.declared.office.Office.{Office}

-- ---- who asks

abbrev pub node_of : Actor → Option NodeId
node_of (Node node) = Some node
node_of (Manager place) = None

abbrev pub asker_by : Body → Actor → Option NodeId
asker_by (LeaseAsk asked) from = node_of from
asker_by body from = None

-- the node that asks for a lease, if the letter does
abbrev pub asker : Letter → Option NodeId
asker letter = asker_by letter.body letter.from

-- ---- what is noted

abbrev pub noted_of : Option NodeId → ℕ → Parcel → Office → Office
noted_of None now parcel o = o
noted_of (Some node) now parcel o = record o { reports = asked now parcel.shard node parcel.letter.epoch o.reports }

-- An ask for a lease is noted: who asks, in which shard, and of the view of which epoch.
abbrev pub noted : ℕ → Parcel → Office → Office
noted now parcel o = noted_of (asker parcel.letter) now parcel o

-- those among these parcels, in their order
abbrev pub asks_noted : ℕ → List Parcel → Office → Office
asks_noted now [] o = o
asks_noted now (parcel ∷ parcels) o = asks_noted now parcels (noted now parcel o)

-- ---- what is passed on

-- these parcels were put, one after the other
abbrev pub ArePut : List Parcel → End → End → Type 0
ArePut [] before after = after ≡ before
ArePut (parcel ∷ parcels) before after = (between : End) × IsSameLink between before × IsPut before.known parcel between.known × ArePut parcels between after

-- all of these parcels were put, or all but the last one, for which the link had no room
abbrev pub ArePassed : List Parcel → End → End → Type 0
ArePassed parcels before after =
    ArePut parcels before after ⊎ ((front : List Parcel) × (last : Parcel) × (parcels ≡ front ++ last ∷ []) × ArePut front before after × WasFull after)

-- These parcels were taken from one link, 64 at most, and passed on by another one.
pub record Relays (parcels : List Parcel) (inlet inlet' outlet outlet' : End) : Type 0 where
  pub taken : AreTaken parcels inlet inlet'
  pub most : length parcels ≤ MOST_PARCELS
  pub passed : ArePassed parcels outlet outlet'

-- Each ask among the parcels was noted.
pub record NotesAll (now : ℕ) (o o' : Office) (inlet inlet' outlet outlet' : End) : Type 0 where
  pub parcels : List Parcel
  pub relays : Relays parcels inlet inlet' outlet outlet'
  pub noted : o' ≡ asks_noted now parcels o

-- Memory was wanting for the last parcel's ask. It was noted of none but those before it.
pub record NotesFront (now : ℕ) (o o' : Office) (inlet inlet' outlet outlet' : End) : Type 0 where
  pub front : List Parcel
  pub last : Parcel
  pub relays : Relays (front ++ last ∷ []) inlet inlet' outlet outlet'
  pub noted : o' ≡ asks_noted now front o
