-- Parcels that are taken from one link and passed on by another one, one after the other.
use Rattle.std.proofs.Common.{◌≡◌, ◌≤◌, ◌+◌, ℕ, Bool, true, false, List, [], ◌∷◌, ◌++◌, length, Option, None, Some, Result, Ok, Err, OnOk, OnErr, inl, inr, refl, sym, ap, ◌∙◌, subst, arith}
use Rattle.std.specs.Bool.{MatchBool}
use Rattle.std.proofs.lemmas.List.{length-append}
use Rattle.hk_base.specs.declared.memory.Memory.{Memory}
use Rattle.hk_base.specs.declared.stamp.NodeId.{NodeId}
use Rattle.hk_link.specs.declared.parcel.Parcel.{Parcel}
use Rattle.hk_link.specs.Ends.{End, IsPut, IsTaken, IsSameLink, WasFull}
use Rattle.hk_durable.specs.declared.post.TheConstants.{MOST_PARCELS}
use Rattle.hk_durable.specs.Turns.{AreTaken}
use Rattle.hk_durable.proofs.Taking.{taken_more}
use Rattle.hk_log.specs.declared.entry.Entry.{Entry}
use Rattle.hk_office.specs.declared.office.Office.{Office}
use Rattle.hk_office.specs.Laws.{logged_of}
use Rattle.hk_managing.specs.Turns.{StayTold}
use Rattle.hk_managing.specs.Relaying.{asker, noted_of, noted, asks_noted, ArePut, ArePassed, Relays, NotesAll, NotesFront}

-- so far each parcel was passed on, and its ask noted
pub record Passing (now count : ℕ) (o o' : Office) (inlet inlet' outlet outlet' : End) : Type 0 where
  pub parcels : List Parcel
  pub taken : AreTaken parcels inlet inlet'
  pub put : ArePut parcels outlet outlet'
  pub noted : o' ≡ asks_noted now parcels o
  pub most : length parcels ≤ count

pub none_passed : (now : ℕ) (o : Office) (inlet outlet : End) → Passing now 0 o o inlet inlet outlet outlet
none_passed now o inlet outlet = record { parcels = []; taken = refl; put = refl; noted = refl; most = omega arith }

-- ---- one parcel more

put_more : (parcels : List Parcel) (before between after : End) (parcel : Parcel) → ArePut parcels before between → IsSameLink after between → IsPut between.known parcel after.known →
    ArePut (parcels ++ parcel ∷ []) before after
put_more [] before between after parcel same link put =
    (after, subst (λ (e : End). IsSameLink after e) same link, subst (λ (e : End). IsPut e.known parcel after.known) same put, refl)
put_more (p ∷ parcels) before between after parcel (next, first, one, rest) link put = (next, first, one, put_more parcels next between after parcel rest link put)

noted_more : (now : ℕ) (parcels : List Parcel) (parcel : Parcel) (o : Office) → asks_noted now (parcels ++ parcel ∷ []) o ≡ noted now parcel (asks_noted now parcels o)
noted_more now [] parcel o = refl
noted_more now (p ∷ parcels) parcel o = noted_more now parcels parcel (noted now p o)

longer : (parcels : List Parcel) (parcel : Parcel) → length (parcels ++ parcel ∷ []) ≡ length parcels + 1
longer parcels parcel = length-append parcels (parcel ∷ [])

module _ (now count : ℕ) (o o' : Office) (inlet inlet' outlet outlet' : End) (p : Passing now count o o' inlet inlet' outlet outlet') where
  -- nothing waits any more, or as much came as is passed on at once
  pub all_passed : count ≤ MOST_PARCELS → NotesAll now o o' inlet inlet' outlet outlet'
  all_passed few = record {
    parcels = p.parcels;
    relays = record { taken = p.taken; most = (let most = p.most in omega (arith, most, few)); passed = inl p.put };
    noted = p.noted;
  }

  module _ (parcel : Parcel) (inlet'' outlet'' : End) (has_room : Bool) (link : IsSameLink inlet'' inlet') (took : IsTaken inlet'.known parcel inlet''.known)
      (same : IsSameLink outlet'' outlet') (handed : MatchBool has_room (IsPut outlet'.known parcel outlet''.known) ((outlet'' ≡ outlet') × WasFull outlet')) where
    took_it : AreTaken (p.parcels ++ parcel ∷ []) inlet inlet''
    took_it = taken_more p.parcels inlet inlet' inlet'' parcel p.taken link took

    count_it : count + 1 ≤ MOST_PARCELS → length (p.parcels ++ parcel ∷ []) ≤ MOST_PARCELS
    count_it few = let long = longer p.parcels parcel in let most = p.most in omega (arith, long, most, few)

    passed_by : (b : Bool) → MatchBool b (IsPut outlet'.known parcel outlet''.known) ((outlet'' ≡ outlet') × WasFull outlet') → ArePassed (p.parcels ++ parcel ∷ []) outlet outlet''
    passed_by true put = inl (put_more p.parcels outlet outlet' outlet'' parcel p.put same put)
    passed_by false (stays, full) = inr (
      p.parcels,
      parcel,
      refl,
      subst (λ (e : End). ArePut p.parcels outlet e) (sym stays) p.put,
      subst (λ (e : End). WasFull e) (sym stays) full,
    )

    relayed : count + 1 ≤ MOST_PARCELS → Relays (p.parcels ++ parcel ∷ []) inlet inlet'' outlet outlet''
    relayed few = record { taken = took_it; most = count_it few; passed = passed_by has_room handed }

    note_it : (o'' : Office) → o'' ≡ noted now parcel o' → o'' ≡ asks_noted now (p.parcels ++ parcel ∷ []) o
    note_it o'' is = is ∙ ap (λ (x : Office). noted now parcel x) p.noted ∙ sym (noted_more now p.parcels parcel o)

    -- memory was wanting to note its ask
    pub front_noted : count + 1 ≤ MOST_PARCELS → (o'' : Office) → o'' ≡ o' → NotesFront now o o'' inlet inlet'' outlet outlet''
    front_noted few o'' is = record { front = p.parcels; last = parcel; relays = relayed few; noted = is ∙ p.noted }

    -- it was noted, and there was no room for it
    pub last_noted : count + 1 ≤ MOST_PARCELS → (o'' : Office) → o'' ≡ noted now parcel o' → NotesAll now o o'' inlet inlet'' outlet outlet''
    last_noted few o'' is = record { parcels = p.parcels ++ parcel ∷ []; relays = relayed few; noted = note_it o'' is }

    put_by : (b : Bool) → b ≡ true → MatchBool b (IsPut outlet'.known parcel outlet''.known) ((outlet'' ≡ outlet') × WasFull outlet') → ArePut (p.parcels ++ parcel ∷ []) outlet outlet''
    put_by true e put = put_more p.parcels outlet outlet' outlet'' parcel p.put same put
    put_by false e put = absurd cc

    -- it was noted, and passed on
    pub next_passed : has_room ≡ true → (o'' : Office) → o'' ≡ noted now parcel o' → Passing now (count + 1) o o'' inlet inlet'' outlet outlet''
    next_passed room o'' is = record {
      parcels = p.parcels ++ parcel ∷ [];
      taken = took_it;
      put = put_by has_room room handed;
      noted = note_it o'' is;
      most = (let long = longer p.parcels parcel in let most = p.most in omega (arith, long, most));
    }

-- ---- the log tells nothing of asks

noted_stays : (asks : Option NodeId) (now : ℕ) (parcel : Parcel) (o : Office) → logged_of (noted_of asks now parcel o) ≡ logged_of o
noted_stays None now parcel o = refl
noted_stays (Some node) now parcel o = refl

asks_stay : (now : ℕ) (parcels : List Parcel) (o : Office) → logged_of (asks_noted now parcels o) ≡ logged_of o
asks_stay now [] o = refl
asks_stay now (p ∷ parcels) o = asks_stay now parcels (noted now p o) ∙ noted_stays (asker p.letter) now p o

-- whatever told the office before tells it now, where stage and roll are the same
pub stays_told : (o o' : Office) → logged_of o' ≡ logged_of o → (notes : List Entry) → StayTold o notes o' notes
stays_told o o' same notes l told = told ∙ sym same

all_stay_told : (now : ℕ) (o o' : Office) (inlet inlet' outlet outlet' : End) → NotesAll now o o' inlet inlet' outlet outlet' → (notes : List Entry) → StayTold o notes o' notes
all_stay_told now o o' inlet inlet' outlet outlet' n = stays_told o o' (ap logged_of n.noted ∙ asks_stay now n.parcels o)

front_stays_told : (now : ℕ) (o o' : Office) (inlet inlet' outlet outlet' : End) → NotesFront now o o' inlet inlet' outlet outlet' → (notes : List Entry) → StayTold o notes o' notes
front_stays_told now o o' inlet inlet' outlet outlet' n = stays_told o o' (ap logged_of n.noted ∙ asks_stay now n.front o)

-- whether memory was wanting for an ask or not
pub passing_told : (r : Result Bool Memory) (now : ℕ) (o o' : Office) (inlet inlet' outlet outlet' : End) → OnOk r (NotesAll now o o' inlet inlet' outlet outlet') → OnErr r (NotesFront now o o' inlet inlet' outlet outlet') →
    (notes : List Entry) → StayTold o notes o' notes
passing_told (Ok more) now o o' inlet inlet' outlet outlet' ok err = all_stay_told now o o' inlet inlet' outlet outlet' ok
passing_told (Err memory) now o o' inlet inlet' outlet outlet' ok err = front_stays_told now o o' inlet inlet' outlet outlet' err

pub on_err : {T E P : Type 0} (r : Result T E) → P → OnErr r P
on_err (Ok x) is = tt
on_err (Err e) is = is
