-- The printed order of a key: complete updates by stamp, and answered calls that changed nothing behind the update that
-- they found.
use Rattle.std.specs.Prelude.{◌≡◌, ◌⊎◌, ℕ, zero, suc, ◌+◌, ◌<◌, ◌==◌, ◌&&◌, ◌||◌, nat_lt, nat_le, Bool, List, [], ◌∷◌, ◌++◌, length, Option, Some, None, if◌then◌else◌, ⊤}
use Rattle.std.specs.List.{list_any, list_all}
use Rattle.hk_base.specs.declared.call.Content.{Content}
use Rattle.hk_base.specs.declared.call.Op.{Op}
use Rattle.hk_base.specs.declared.call.Answer.{Answer}
use Rattle.hk_history.specs.declared.event.Event.{Event}
use Rattle.hk_history.specs.declared.event.Event.TheVariants.{Call, Reply}
use Rattle.hk_history.specs.declared.event.Entry.{Entry}
use Rattle.hk_history.specs.Legal.{Legal}
use Rattle.hk_register.specs.Machine.{In, Mark, Update, Item, RegisterState}
use Rattle.hk_register.specs.Machine.Item.{Called, Answered, Dropped, ReadOnly, Rejected}
use Rattle.hk_register.specs.Facts.{Complete}
use Rattle.hk_register.specs.Runs.{Reached, is_in}
use Rattle.hk_register.specs.Parts.{Parts}
use Rattle.hk_register.specs.Calls.{CallParts}

-- an item's calls and replies
abbrev pub item_events : Item → List Event
item_events (Called c s op) = Call (record { 0 = c }) op ∷ []
item_events (Answered c s a) = Reply (record { 0 = c }) a ∷ []
item_events (Dropped c s a) = Reply (record { 0 = c }) a ∷ []
item_events (ReadOnly c s op held a) = Call (record { 0 = c }) op ∷ Reply (record { 0 = c }) a ∷ []
item_events (Rejected c op a) = Call (record { 0 = c }) op ∷ Reply (record { 0 = c }) a ∷ []

-- the history, the first event first, from items that are newest first
abbrev pub events_of : List Item → List Event
events_of [] = []
events_of (i ∷ items) = events_of items ++ item_events i

-- A call in the order: an update at its stamp, place 0, or a call that changed nothing at the stamp that it found, placed
-- by its reply.
pub record Slot : Type 0 where
  pub stamp : ℕ
  pub place : ℕ
  pub call : ℕ
  pub op : Op
  pub content : Option Content
  pub answer : Answer

-- its entry: only an update has a tag, its stamp
abbrev pub tag_at : ℕ → ℕ → Option ℕ
tag_at zero s = Some s
tag_at (suc k) s = None

abbrev pub entry_of : Slot → Entry
entry_of s = record { call = record { 0 = s.call }; tag = tag_at s.place s.stamp }

abbrev pub entries : List Slot → List Entry
entries [] = []
entries (s ∷ ss) = entry_of s ∷ entries ss

abbrev pub Below : Slot → Slot → Type 0
Below a b = (a.stamp < b.stamp) ⊎ (a.stamp ≡ b.stamp) × (a.place < b.place)

abbrev pub Sorted : List Slot → Type 0
Sorted [] = ⊤
Sorted (s ∷ ss) = ((r : Slot) → In ss r → Below s r) × Sorted ss

abbrev pub update_slot : Update → Slot
update_slot u = record { stamp = u.stamp; place = 0; call = u.call; op = u.op; content = u.content; answer = u.answer }

-- the item stands with so many behind it, itself counted
abbrev pub StandsAt : List Item → ℕ → Item → Type 0
StandsAt [] k j = ⊥
StandsAt (i ∷ items) k j = (j ≡ i) × (k ≡ length items + 1) ⊎ StandsAt items k j

-- These are the slots of the key, in order: those of the complete updates, and those of the calls that changed nothing.
pub record IsPrinted (V : ℕ → List ℕ) (st : RegisterState) (slots : List Slot) : Type 0 where
  pub sorted : Sorted slots
  pub update : (s : Slot) → In slots s → s.place ≡ 0 → (u : Update) × In st.begun u × Complete V st u.stamp × (s ≡ update_slot u)
  pub look : (s : Slot) → In slots s → 0 < s.place → StandsAt st.history s.place (ReadOnly s.call s.stamp s.op s.content s.answer)
  pub updates : (u : Update) → In st.begun u → Complete V st u.stamp → In slots (update_slot u)
  pub looks : (k c s : ℕ) (op : Op) (held : Option Content) (a : Answer) → StandsAt st.history k (ReadOnly c s op held a) → In slots (record { stamp = s; place = k; call = c; op = op; content = held; answer = a })

-- Complete, as a test: some ready member's mark of the stamp is in an epoch in which each member has one.
abbrev pub is_mark : ℕ → ℕ → ℕ → Mark → Bool
is_mark n e s k = (k.who == n) && ((k.epoch == e) && (k.stamp == s))

abbrev pub all_cover : List Mark → List ℕ → ℕ → ℕ → Bool
all_cover marks members e s = list_all (λ n. list_any (is_mark n e s) marks) members

abbrev pub completes_by : (ℕ → List ℕ) → List Mark → ℕ → Mark → Bool
completes_by V marks s k = (k.stamp == s) && (k.ready && (nat_le 1 k.epoch && (is_in k.who (V k.epoch) && all_cover marks (V k.epoch) k.epoch s)))

abbrev pub is_complete : (ℕ → List ℕ) → RegisterState → ℕ → Bool
is_complete V st s = list_any (completes_by V st.marks s) st.marks

-- The order, computed: the slots, sorted.
abbrev pub update_slots : (ℕ → List ℕ) → RegisterState → List Update → List Slot
update_slots V st [] = []
update_slots V st (u ∷ us) = if is_complete V st u.stamp then update_slot u ∷ update_slots V st us else update_slots V st us

abbrev pub look_slots : List Item → List Slot
look_slots [] = []
look_slots (ReadOnly c s op held a ∷ items) = record { stamp = s; place = length items + 1; call = c; op = op; content = held; answer = a } ∷ look_slots items
look_slots (Called c s op ∷ items) = look_slots items
look_slots (Answered c s a ∷ items) = look_slots items
look_slots (Dropped c s a ∷ items) = look_slots items
look_slots (Rejected c op a ∷ items) = look_slots items

abbrev pub is_below : Slot → Slot → Bool
is_below a b = nat_lt a.stamp b.stamp || ((a.stamp == b.stamp) && nat_lt a.place b.place)

abbrev pub insert_slot : Slot → List Slot → List Slot
insert_slot s [] = s ∷ []
insert_slot s (r ∷ rs) = if is_below s r then s ∷ r ∷ rs else (if is_below r s then r ∷ insert_slot s rs else r ∷ rs)

abbrev pub sort_slots : List Slot → List Slot
sort_slots [] = []
sort_slots (s ∷ ss) = insert_slot s (sort_slots ss)

abbrev pub printed : (ℕ → List ℕ) → RegisterState → List Slot
printed V st = sort_slots (update_slots V st st.begun ++ look_slots st.history)

-- the computed order has these slots
abbrev pub PrintedIsPrinted : Type 0
PrintedIsPrinted = (V : ℕ → List ℕ) (st : RegisterState) → Parts V st → IsPrinted V st (printed V st)

-- What has these slots is legal for the key's history: it fits, has each call once, and is timely.
abbrev pub SlotsAreLegal : Type 0
SlotsAreLegal = (V : ℕ → List ℕ) (st : RegisterState) → Parts V st → CallParts st → (slots : List Slot) → IsPrinted V st slots → Legal (events_of st.history) (entries slots)

-- For every run, the printed order of the key is legal for its history.
abbrev pub PrintedIsLegal : Type 0
PrintedIsLegal = (V : ℕ → List ℕ) (st : RegisterState) → Reached V st → Legal (events_of st.history) (entries (printed V st))
