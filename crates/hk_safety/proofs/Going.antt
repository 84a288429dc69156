-- The events that are kept of a key, after what one event adds to it.
use Rattle.std.proofs.Common.{◌≡◌, ◌≢◌, ℕ, Bool, true, false, List, [], ◌∷◌, ◌++◌, Option, Some, None, is_some, ◌∙◌, sym, refl, ap, subst, ⊎_elim, eqb}
use Rattle.std.proofs.lemmas.Bool.{eqb-true}
use Rattle.hk_base.specs.declared.call.CallNo.{CallNo}
use Rattle.hk_base.specs.declared.letter.Letter.{Letter}
use Rattle.hk_base.specs.declared.view.View.{View}
use Rattle.hk_register.specs.Machine.{In}
use Rattle.hk_node.specs.Node.{NodeState}
use Rattle.hk_event.specs.declared.event.Event.{Event}
use Rattle.hk_event.specs.declared.event.Event.TheVariants.{Call}
use Rattle.hk_world.specs.declared.shown.Acted.{Acted}
use Rattle.hk_world.specs.declared.shown.Shown.{Shown}
use Rattle.hk_world.specs.World.{WorldState}
use Rattle.hk_effects.specs.Projection.{node_at}
use Rattle.hk_effects.proofs.Order.{cases_key, same_not}
use Rattle.hk_history.specs.declared.event.Event.{Event as HistoryEvent}
use Rattle.hk_safety.specs.declared.evidence.Cover.{Cover}
use Rattle.hk_safety.specs.declared.key_run.AtStamp.{AtStamp}
use Rattle.hk_safety.specs.declared.key_run.ReadOnlyCall.{ReadOnlyCall}
use Rattle.hk_safety.specs.Kept.{KeyState, Keys, at_stamp, find_key, key_at}
use Rattle.hk_safety.specs.Grown.{Stamps, stamp_in, OthersStay, IsSinceThen, AreLooked, GoesAt, IsCovered, AreTold, with_lines, IsTurned, IsCallKept, AreTouched, AreTouchedIn, AreTouchedBy, AreTouchedAt}
use Rattle.hk_safety.specs.Shows.{lines_at}
use Rattle.hk_safety.proofs.Since.{since_itself, since_same, looked_same, goes_same, goes_both}

-- ---- a call
module _ (n : ℕ) (old new : KeyState) (s : ℕ) (there : OthersStay s old.stamps new.stamps) where
  -- one stamp that has changed
  goes_stamp : IsSinceThen n (stamp_in s old.stamps).evidence (stamp_in s new.stamps).evidence → AreLooked n (stamp_in s old.stamps).read_only (stamp_in s new.stamps).read_only → GoesAt n old new
  goes_stamp since looked = record { since = λ t. since_at t (eqb t s) refl; looked = λ t. looked_at t (eqb t s) refl }
    where
      since_at : (t : ℕ) (b : Bool) → eqb t s ≡ b → IsSinceThen n (at_stamp t old).evidence (at_stamp t new).evidence
      since_at t true is = subst (λ (u : ℕ). IsSinceThen n (stamp_in u old.stamps).evidence (stamp_in u new.stamps).evidence) (sym (eqb-true t s is)) since
      since_at t false is = since_same n (at_stamp t old).evidence (at_stamp t new).evidence (ap (λ (a : AtStamp). a.evidence) (there t is))

      looked_at : (t : ℕ) (b : Bool) → eqb t s ≡ b → AreLooked n (at_stamp t old).read_only (at_stamp t new).read_only
      looked_at t true is = subst (λ (u : ℕ). AreLooked n (stamp_in u old.stamps).read_only (stamp_in u new.stamps).read_only) (sym (eqb-true t s is)) looked
      looked_at t false is = looked_same n (at_stamp t old).read_only (at_stamp t new).read_only (ap (λ (a : AtStamp). a.read_only) (there t is))

goes_stamps : (n : ℕ) (old new : KeyState) → new.stamps ≡ old.stamps → GoesAt n old new
goes_stamps n old new same = record {
  since = λ s. since_same n (at_stamp s old).evidence (at_stamp s new).evidence (ap (λ (l : Stamps). (stamp_in s l).evidence) same);
  looked = λ s. looked_same n (at_stamp s old).read_only (at_stamp s new).read_only (ap (λ (l : Stamps). (stamp_in s l).read_only) same);
}

goes_turned : (began answered : Bool) (old new : KeyState) (s : ℕ) (call : CallNo) (n : ℕ) → IsTurned began answered old.stamps new.stamps s call n → GoesAt n old new
goes_turned true answered old new s call n begun = goes_stamp n old new s begun.there
    (since_same n (stamp_in s old.stamps).evidence (stamp_in s new.stamps).evidence (ap (λ (a : AtStamp). a.evidence) begun.here))
    (looked_same n (stamp_in s old.stamps).read_only (stamp_in s new.stamps).read_only (ap (λ (a : AtStamp). a.read_only) begun.here))
goes_turned false true old new s call n looked = goes_stamp n old new s looked.there
    (since_same n (stamp_in s old.stamps).evidence (stamp_in s new.stamps).evidence (ap (λ (a : AtStamp). a.evidence) looked.here))
    (record { more = record { call = call; event = n } ∷ []; same = ap (λ (a : AtStamp). a.read_only) looked.here; here = one })
  where
    one : (l : ReadOnlyCall) → In (record { call = call; event = n } ∷ []) l → l.event ≡ n
    one l = ⊎_elim (λ (e : l ≡ record { call = call; event = n }). ap (λ (k : ReadOnlyCall). k.event) e) (λ (none : ⊥). absurd none)
goes_turned false false old new s call n same = goes_stamps n old new same

goes_called : (n : ℕ) (keys named : Keys) (w : WorldState) (event : Event) (shown : Shown) → IsCallKept n keys named w event shown → (key : List ℕ) →
    GoesAt n (key_at key keys) (key_at key named)
goes_called n keys named w (Call id k op) shown call key = ⊎_elim
    (λ (e : key ≡ k). subst (λ (j : List ℕ). GoesAt n (key_at j keys) (key_at j named)) (sym e)
    (goes_turned _ _ (key_at k keys) (key_at k named) _ _ n call.here.stamps))
    (λ (ne : key ≢ k). goes_same n (key_at key keys) (key_at key named) (call.others key (same_not key k ne))) (cases_key key k)
goes_called n keys named w event shown same key = goes_same n (key_at key keys) (key_at key named) (ap (key_at key) same)

-- ---- replies
goes_told : (n : ℕ) (named told : Keys) (lines : List ℕ → List HistoryEvent) → AreTold named told lines → (key : List ℕ) → is_some (find_key key told) ≡ true →
    GoesAt n (key_at key named) (key_at key told)
goes_told n named told lines are key there =
    goes_stamps n (key_at key named) (key_at key told) (ap (λ (k : KeyState). k.stamps) (are.each key (sym (are.there key) ∙ there)))

-- ---- covers
goes_covered : (v : View) (c : Cover) (old new : KeyState) (tags : List ℕ) → IsCovered v c old new tags → GoesAt c.event old new
goes_covered v c old new tags covered = record {
  since = covered.since;
  looked = λ s. looked_same c.event (at_stamp s old).read_only (at_stamp s new).read_only (covered.read_only s);
}

module _ (n : ℕ) (told new : Keys) (key : List ℕ) (there : is_some (find_key key told) ≡ true) where
  goes_viewed : (x : NodeState) (v : View) (r : Acted) (letters : List Letter) → AreTouched n told new x v r letters → GoesAt n (key_at key told) (key_at key new)
  goes_viewed x v r letters touched =
      let changed = touched.of_changed.there key ∙ there in
      let opened = touched.of_open.covered.there key ∙ changed in
      goes_both n (key_at key told) (key_at key touched.opened) (key_at key new)
      (goes_both n (key_at key told) (key_at key touched.changed) (key_at key touched.opened)
      (goes_covered v _ (key_at key told) (key_at key touched.changed) _ (touched.of_changed.each key there))
      (goes_covered v _ (key_at key touched.changed) (key_at key touched.opened) _ (touched.of_open.covered.each key changed)))
      (goes_covered v _ (key_at key touched.opened) (key_at key new) _ (touched.of_acks.each key opened))

  goes_in : (x : NodeState) (o : Option View) (r : Acted) (letters : List Letter) → AreTouchedIn n o told new x r letters → GoesAt n (key_at key told) (key_at key new)
  goes_in x None r letters same = goes_same n (key_at key told) (key_at key new) (ap (key_at key) same)
  goes_in x (Some v) r letters touched = goes_viewed x v r letters touched

  goes_by : (o : Option NodeState) (r : Acted) (letters : List Letter) → AreTouchedBy n o told new r letters → GoesAt n (key_at key told) (key_at key new)
  goes_by None r letters same = goes_same n (key_at key told) (key_at key new) (ap (key_at key) same)
  goes_by (Some x) r letters touched = goes_in x x.view r letters touched

  goes_touched : (by : Option Acted) (w : WorldState) (letters : List Letter) → AreTouchedAt n by told new w letters → GoesAt n (key_at key told) (key_at key new)
  goes_touched None w letters same = goes_same n (key_at key told) (key_at key new) (ap (key_at key) same)
  goes_touched (Some r) w letters touched = goes_by (node_at r.node.0 w.processes) r letters touched

-- ---- all of an event
pub goes_on : (n : ℕ) (keys named told new : Keys) (w : WorldState) (event : Event) (shown : Shown) (calls : List (List ℕ)) → IsCallKept n keys named w event shown →
    AreTold named told (λ key. lines_at key calls shown.replies) → AreTouchedAt n shown.acted told new w shown.letters → (key : List ℕ) → is_some (find_key key told) ≡ true →
    GoesAt n (key_at key keys) (key_at key new)
goes_on n keys named told new w event shown calls call replies covers key there =
    goes_both n (key_at key keys) (key_at key named) (key_at key new) (goes_called n keys named w event shown call key)
    (goes_both n (key_at key named) (key_at key told) (key_at key new) (goes_told n named told (λ key. lines_at key calls shown.replies) replies key there)
    (goes_touched n told new key there shown.acted w shown.letters covers))
