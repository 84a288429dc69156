-- What the code adds to a key is what an accepted event adds.
use Rattle.std.proofs.Common.{◌≡◌, ◌≢◌, ◌⊎◌, ℕ, List, [], ◌∷◌, ◌++◌, map, append-nil, append_assoc, Bool, true, false, cond, not, Option, Some, None, refl, sym, ap, subst, ◌∙◌, inl, inr, eqb}
use Rattle.std.specs.Option.{option_map}
use Rattle.std.proofs.lemmas.Bool.{false≢true, eq-eqb, eqb-true, ne_eqb}
use Rattle.std.proofs.lemmas.List.{map-append}
use Rattle.hk_base.specs.declared.call.CallNo.{CallNo}
use Rattle.hk_base.specs.declared.call.Op.{Op}
use Rattle.hk_base.specs.declared.call.Reply.{Reply}
use Rattle.hk_history.specs.declared.event.Event.{Event as HistoryEvent}
use Rattle.hk_history.specs.declared.event.Event.TheVariants as Event
use Rattle.hk_history.specs.History.{is_void, is_unsure}
use Rattle.hk_register.specs.Machine.{Node, Item, Update}
use Rattle.hk_register.specs.Machine.Item.{Called, Answered, Dropped, ReadOnly, Rejected}
use Rattle.hk_register.specs.Effects.{register_of}
use Rattle.hk_base.specs.Register.{act}
use Rattle.hk_node.specs.Calls.{kind_of}
use Rattle.hk_register.specs.Printed.{item_events, events_of}
use Rattle.hk_world.specs.World.{numbered}
use Rattle.hk_effects.specs.Projection.{is_same_key, told_at, reply_item, read_only_item, call_items, updates_of}
use Rattle.hk_effects.proofs.Replies.{replies_begin_none}
use Rattle.hk_register.specs.Machine.{In}
use Rattle.hk_safety.specs.declared.key_run.AtStamp.{AtStamp}
use Rattle.hk_safety.specs.declared.key_run.ReadOnlyCall.{ReadOnlyCall}
use Rattle.hk_safety.specs.Kept.{KeyState, at_stamp, looks_at, calls_in, call_of, update_at}
use Rattle.hk_safety.specs.Grown.{Stamps, stamp_in, IsBegunAt, IsLookedAt, IsTurned, is_answer}
use Rattle.hk_safety.specs.Shows.{reply_line, line_at, lines_at}
use Rattle.hk_safety.proofs.Acting.{IsLone}

-- ---- replies
pub reply_said : (s : ℕ) (r : Reply) → item_events (reply_item s r) ≡ reply_line r ∷ []
reply_said s r = by_test (is_unsure (Some r.answer))
  where
    by_test : (b : Bool) → item_events (cond b (Dropped r.call.0 s r.answer) (Answered r.call.0 s r.answer)) ≡ reply_line r ∷ []
    by_test true = refl
    by_test false = refl

reply_found_none : (t s : ℕ) (r : Reply) (items : List Item) → looks_at t (reply_item s r ∷ items) ≡ looks_at t items
reply_found_none t s r items = by_test (is_unsure (Some r.answer))
  where
    by_test : (b : Bool) → looks_at t (cond b (Dropped r.call.0 s r.answer) (Answered r.call.0 s r.answer) ∷ items) ≡ looks_at t items
    by_test true = refl
    by_test false = refl

replies_found_none : (t s : ℕ) (rs : List Reply) (items : List Item) → looks_at t (map (reply_item s) rs ++ items) ≡ looks_at t items
replies_found_none t s [] items = refl
replies_found_none t s (r ∷ rs) items = reply_found_none t s r (map (reply_item s) rs ++ items) ∙ replies_found_none t s rs items

-- one reply at most, behind what came before
pub said_behind : (s : ℕ) (rs : List Reply) (items : List Item) → IsLone rs → events_of (map (reply_item s) rs ++ items) ≡ events_of items ++ map reply_line rs
said_behind s [] items lone = sym (append-nil (events_of items))
said_behind s (r ∷ []) items lone = ap (λ (l : List HistoryEvent). events_of items ++ l) (reply_said s r)
said_behind s (r ∷ q ∷ rs) items lone = absurd lone

-- the replies that the key's calls got
pub lines_told : (key : List ℕ) (calls : List (List ℕ)) (told : List (List ℕ × Reply)) →
    ((k : List ℕ) (r : Reply) → In told (k, r) → numbered r.call.0 calls ≡ Some k) →
    lines_at key calls (map (λ t. t.1) told) ≡ map reply_line (told_at key told)
lines_told key calls [] named = refl
lines_told key calls (t ∷ told) named =
    ap (λ (o : Option (List ℕ)). line_at key o t.1 ++ lines_at key calls (map (λ t. t.1) told)) (named t.0 t.1 (inl refl))
    ∙ by_test (is_same_key key t.0) (lines_told key calls told (λ k r h. named k r (inr h)))
  where
    by_test : (b : Bool) → lines_at key calls (map (λ t. t.1) told) ≡ map reply_line (told_at key told) →
        cond b (reply_line t.1 ∷ []) [] ++ lines_at key calls (map (λ t. t.1) told) ≡ map reply_line (cond b (t.1 ∷ told_at key told) (told_at key told))
    by_test true more = ap (λ (l : List HistoryEvent). reply_line t.1 ∷ l) more
    by_test false more = more

-- ---- what is said at a key
-- the call of an update, among the new ones or before
abbrev pub begun_at : ℕ → List Update → Option CallNo → Option CallNo
begun_at s us old = elim (update_at s us) [ None ↦ old | Some call ↦ Some call ]

pub record IsSaid (old new : KeyState) (lines : List HistoryEvent) (said : List Item) (us : List Update) : Type 0 where
  pub items : new.items ++ lines ≡ old.items ++ events_of said
  pub update : (s : ℕ) → (at_stamp s new).update ≡ begun_at s us (at_stamp s old).update
  pub read_only : (s : ℕ) → calls_in (at_stamp s new).read_only ≡ calls_in (at_stamp s old).read_only ++ looks_at s said
  pub evidence : (s : ℕ) → (at_stamp s new).evidence ≡ (at_stamp s old).evidence

-- replies alone
pub said_quiet : (old new : KeyState) (id : ℕ) (z : Node) (s : ℕ) (rs : List Reply) → IsLone rs → new ≡ old →
    IsSaid old new (map reply_line rs) (map (reply_item s) rs) (updates_of id z (map (reply_item s) rs))
said_quiet old new id z s rs lone same = record {
  items = ap (λ (k : KeyState). k.items ++ map reply_line rs) same
      ∙ ap (λ (l : List HistoryEvent). old.items ++ l) (sym (ap events_of (sym (append-nil (map (reply_item s) rs))) ∙ said_behind s rs [] lone));
  update = λ t. ap (λ (k : KeyState). (at_stamp t k).update) same ∙ ap (λ (us : List Update). begun_at t us (at_stamp t old).update) (sym none);
  read_only = λ t. ap (λ (k : KeyState). calls_in (at_stamp t k).read_only) same ∙ sym (append-nil (calls_in (at_stamp t old).read_only))
      ∙ ap (λ (l : List CallNo). calls_in (at_stamp t old).read_only ++ l) (sym (ap (looks_at t) (sym (append-nil (map (reply_item s) rs))) ∙ replies_found_none t s rs []));
  evidence = λ t. ap (λ (k : KeyState). (at_stamp t k).evidence) same;
}
  where
    none : updates_of id z (map (reply_item s) rs) ≡ []
    none = ap (updates_of id z) (sym (append-nil (map (reply_item s) rs))) ∙ replies_begin_none id z s rs []

-- the update of a call, and what a key has of it
abbrev began : ℕ → Node → ℕ → ℕ → Op → Update
began id x call s op = record {
  stamp = s;
  base = x.stamp;
  kind = kind_of op;
  content = (act op (register_of x.content x.stamp) s).register.content;
  op = op;
  answer = (act op (register_of x.content x.stamp) s).answer;
  who = id;
  call = call;
}

abbrev picked : Option CallNo → Option CallNo → Option CallNo
picked o old = elim o [ None ↦ old | Some call ↦ Some call ]

-- a call that began an update
pub said_begun : (old new : KeyState) (id : ℕ) (z : Node) (s : ℕ) (call : CallNo) (op : Op) (rs : List Reply) → IsLone rs →
    new.items ≡ old.items ++ Event.Call call op ∷ [] → IsBegunAt old.stamps new.stamps s call →
    IsSaid old new (map reply_line rs) (map (reply_item s) rs ++ Called call.0 s op ∷ []) (updates_of id z (map (reply_item s) rs ++ Called call.0 s op ∷ []))
said_begun old new id z s call op rs lone items begun = record {
  items = ap (λ (l : List HistoryEvent). l ++ map reply_line rs) items ∙ append_assoc old.items (Event.Call call op ∷ []) (map reply_line rs)
      ∙ ap (λ (l : List HistoryEvent). old.items ++ l) (sym (said_behind s rs (Called call.0 s op ∷ []) lone));
  update = λ t. by_stamp t (eqb s t) refl ∙ ap (λ (us : List Update). begun_at t us (at_stamp t old).update)
      (sym (replies_begin_none id z s rs (Called call.0 s op ∷ [])));
  read_only = λ t. ap calls_in (by_looks t (eqb t s) refl) ∙ sym (append-nil (calls_in (at_stamp t old).read_only))
      ∙ ap (λ (l : List CallNo). calls_in (at_stamp t old).read_only ++ l) (sym (replies_found_none t s rs (Called call.0 s op ∷ [])));
  evidence = λ t. by_evidence t (eqb t s) refl;
}
  where
    other : (t : ℕ) → eqb s t ≡ false → eqb t s ≡ false
    other t e = ne_eqb t s (λ (is : t ≡ s). false≢true (sym e ∙ eq-eqb s t (sym is)))

    by_stamp : (t : ℕ) (b : Bool) → eqb s t ≡ b → (at_stamp t new).update ≡ begun_at t (updates_of id z (Called call.0 s op ∷ [])) (at_stamp t old).update
    by_stamp t true e =
        let is : s ≡ t = eqb-true s t e in
        subst (λ (u : ℕ). (at_stamp u new).update ≡ Some call) is (ap (λ (a : AtStamp). a.update) begun.here)
        ∙ sym (ap (λ (b : Bool). picked (option_map call_of (cond b (Some (began id z call.0 s op)) None)) (at_stamp t old).update) e)
    by_stamp t false e =
        ap (λ (a : AtStamp). a.update) (begun.there t (other t e))
        ∙ sym (ap (λ (b : Bool). picked (option_map call_of (cond b (Some (began id z call.0 s op)) None)) (at_stamp t old).update) e)

    by_looks : (t : ℕ) (b : Bool) → eqb t s ≡ b → (at_stamp t new).read_only ≡ (at_stamp t old).read_only
    by_looks t true e = subst (λ (u : ℕ). (at_stamp u new).read_only ≡ (at_stamp u old).read_only) (sym (eqb-true t s e)) (ap (λ (a : AtStamp). a.read_only) begun.here)
    by_looks t false e = ap (λ (a : AtStamp). a.read_only) (begun.there t e)

    by_evidence : (t : ℕ) (b : Bool) → eqb t s ≡ b → (at_stamp t new).evidence ≡ (at_stamp t old).evidence
    by_evidence t true e = subst (λ (u : ℕ). (at_stamp u new).evidence ≡ (at_stamp u old).evidence) (sym (eqb-true t s e)) (ap (λ (a : AtStamp). a.evidence) begun.here)
    by_evidence t false e = ap (λ (a : AtStamp). a.evidence) (begun.there t e)

-- a call that was answered at once, and one that was refused
module _ (old new : KeyState) (id : ℕ) (z was : Node) (call : CallNo) (op : Op) (r : Reply) (own : r.call ≡ call)
    (items : new.items ≡ old.items ++ Event.Call call op ∷ []) where
  said_item : (i : Item) → item_events i ≡ Event.Call call op ∷ Event.Reply call r.answer ∷ [] → new.items ++ reply_line r ∷ [] ≡ old.items ++ ([] ++ item_events i)
  said_item i e =
      ap (λ (l : List HistoryEvent). l ++ reply_line r ∷ []) items ∙ append_assoc old.items (Event.Call call op ∷ []) (reply_line r ∷ [])
      ∙ ap (λ (c : CallNo). old.items ++ (Event.Call call op ∷ Event.Reply c r.answer ∷ [])) own ∙ ap (λ (l : List HistoryEvent). old.items ++ l) (sym e)

  said_rejected : new.stamps ≡ old.stamps → IsSaid old new (reply_line r ∷ []) (Rejected call.0 op r.answer ∷ []) []
  said_rejected same = record {
    items = said_item (Rejected call.0 op r.answer) refl;
    update = λ t. ap (λ (l : Stamps). (stamp_in t l).update) same;
    read_only = λ t. ap (λ (l : Stamps). calls_in (stamp_in t l).read_only) same ∙ sym (append-nil (calls_in (at_stamp t old).read_only));
    evidence = λ t. ap (λ (l : Stamps). (stamp_in t l).evidence) same;
  }

  said_looked : (n : ℕ) → IsLookedAt old.stamps new.stamps was.stamp (record { call = call; event = n }) → IsSaid old new (reply_line r ∷ []) (ReadOnly call.0 was.stamp op was.content r.answer ∷ []) []
  said_looked n looked = record {
    items = said_item (ReadOnly call.0 was.stamp op was.content r.answer) refl;
    update = λ t. by_update t (eqb t was.stamp) refl;
    read_only = λ t. by_looks t (eqb was.stamp t) refl;
    evidence = λ t. by_evidence t (eqb t was.stamp) refl;
  }
    where
      by_update : (t : ℕ) (b : Bool) → eqb t was.stamp ≡ b → (at_stamp t new).update ≡ (at_stamp t old).update
      by_update t true e = subst (λ (u : ℕ). (at_stamp u new).update ≡ (at_stamp u old).update) (sym (eqb-true t was.stamp e))
          (ap (λ (a : AtStamp). a.update) looked.here)
      by_update t false e = ap (λ (a : AtStamp). a.update) (looked.there t e)

      by_evidence : (t : ℕ) (b : Bool) → eqb t was.stamp ≡ b → (at_stamp t new).evidence ≡ (at_stamp t old).evidence
      by_evidence t true e = subst (λ (u : ℕ). (at_stamp u new).evidence ≡ (at_stamp u old).evidence) (sym (eqb-true t was.stamp e))
          (ap (λ (a : AtStamp). a.evidence) looked.here)
      by_evidence t false e = ap (λ (a : AtStamp). a.evidence) (looked.there t e)

      by_looks : (t : ℕ) (b : Bool) → eqb was.stamp t ≡ b → calls_in (at_stamp t new).read_only ≡ calls_in (at_stamp t old).read_only ++ ([] ++ cond b (call ∷ []) [])
      by_looks t true e = subst (λ (u : ℕ). calls_in (at_stamp u new).read_only ≡ calls_in (at_stamp u old).read_only ++ call ∷ []) (eqb-true was.stamp t e)
          (ap (λ (a : AtStamp). calls_in a.read_only) looked.here
          ∙ map-append (λ (l : ReadOnlyCall). l.call) (at_stamp was.stamp old).read_only (record { call = call; event = n } ∷ []))
      by_looks t false e =
          ap (λ (a : AtStamp). calls_in a.read_only) (looked.there t (ne_eqb t was.stamp (λ (is : t ≡ was.stamp). false≢true (sym e ∙ eq-eqb was.stamp t (sym is)))))
          ∙ sym (append-nil (calls_in (at_stamp t old).read_only))

  -- by whether its answer is one
  pub said_answered : (n : ℕ) → IsTurned false (not (is_void (Some r.answer))) old.stamps new.stamps was.stamp call n →
      IsSaid old new (reply_line r ∷ []) (read_only_item call.0 op was r ∷ []) (updates_of id z (read_only_item call.0 op was r ∷ []))
  said_answered n turned = by_void (is_void (Some r.answer)) turned
    where
      by_void : (b : Bool) → IsTurned false (not b) old.stamps new.stamps was.stamp call n →
          IsSaid old new (reply_line r ∷ []) (cond b (Rejected call.0 op r.answer) (ReadOnly call.0 was.stamp op was.content r.answer) ∷ [])
          (updates_of id z (cond b (Rejected call.0 op r.answer) (ReadOnly call.0 was.stamp op was.content r.answer) ∷ []))
      by_void true turned = said_rejected turned
      by_void false turned = said_looked n turned

-- what a call is told: a reply of its own, or nothing where its row has a new stamp
abbrev pub IsToldOf : List Reply → CallNo → Node → Node → Type 0
IsToldOf rs call was now = ((r : Reply) × (rs ≡ r ∷ []) × (r.call ≡ call)) ⊎ ((rs ≡ []) × (now.stamp ≢ was.stamp))

pub said_call : (old new : KeyState) (id : ℕ) (was now : Node) (n : ℕ) (call : CallNo) (op : Op) (rs : List Reply) → new.items ≡ old.items ++ Event.Call call op ∷ [] →
    IsTurned (not (eqb now.stamp was.stamp)) (is_answer rs) old.stamps new.stamps now.stamp call n → IsToldOf rs call was now →
    IsSaid old new (map reply_line rs) (call_items (eqb now.stamp was.stamp) call.0 op was now rs)
    (updates_of id was (call_items (eqb now.stamp was.stamp) call.0 op was now rs))
said_call old new id was now n call op rs items turned told = by_same (eqb now.stamp was.stamp) refl turned told
  where
    looked : (r : Reply) → r.call ≡ call → now.stamp ≡ was.stamp → IsTurned false (not (is_void (Some r.answer))) old.stamps new.stamps now.stamp call n →
        IsSaid old new (map reply_line (r ∷ [])) (call_items true call.0 op was now (r ∷ [])) (updates_of id was (call_items true call.0 op was now (r ∷ [])))
    looked r own same turned = said_answered old new id was was call op r own items n
        (subst (λ (s : ℕ). IsTurned false (not (is_void (Some r.answer))) old.stamps new.stamps s call n) same turned)

    by_same : (b : Bool) → eqb now.stamp was.stamp ≡ b → IsTurned (not b) (is_answer rs) old.stamps new.stamps now.stamp call n → IsToldOf rs call was now →
        IsSaid old new (map reply_line rs) (call_items b call.0 op was now rs) (updates_of id was (call_items b call.0 op was now rs))
    by_same true e turned (inl t) =
        subst (λ (l : List Reply). IsSaid old new (map reply_line l) (call_items true call.0 op was now l)
        (updates_of id was (call_items true call.0 op was now l))) (sym t.1)
        (looked t.0 t.2 (eqb-true now.stamp was.stamp e)
        (subst (λ (l : List Reply). IsTurned false (is_answer l) old.stamps new.stamps now.stamp call n) t.1 turned))
    by_same true e turned (inr q) = absurd (q.1 (eqb-true now.stamp was.stamp e))
    by_same false e turned (inl t) = said_begun old new id was now.stamp call op rs (subst IsLone (sym t.1) tt) items turned
    by_same false e turned (inr q) = said_begun old new id was now.stamp call op rs (subst IsLone (sym q.0) tt) items turned
