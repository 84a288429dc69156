-- A line is read as an event, or as a header, exactly where it is that one's line.
use Rattle.std.proofs.Common.{◌≤◌, Option, None, ◌≡◌, ℕ, List, [], ◌∷◌, Some, None, codes, decimal, refl, sym, ap, ◌∙◌, arith}
use Rattle.std.specs.List.{join_with_byte, AllByRecursion}
use Rattle.std.proofs.lemmas.List.Splits.{join_with_byte-slice_split}
use Rattle.hk_base.specs.declared.call.Op.{Op}
use Rattle.hk_base.specs.declared.call.Op.TheVariants.{Read, Write, Cas, Incr, Decr, Replace, Delete}
use Rattle.hk_base.specs.declared.call.Op.TheVariants as operation
use Rattle.hk_base.specs.declared.view.Change.{Change}
use Rattle.hk_base.specs.declared.view.Change.TheVariants.{Drop, Add}
use Rattle.hk_event.specs.declared.event.Header.{Header}
use Rattle.hk_event.specs.declared.event.Event.{Event}
use Rattle.hk_event.specs.declared.event.Event.TheVariants.{Call, Take, Tick, TickAll, Crash, Resend, Replay, Copy, Start, Agree, Install, Lease, AskLease, Propose, Activate}
use Rattle.hk_script.specs.Grammar.{IsOp, IsChange, IsWritten, IsEventLine, IsHeaderWritten, IsHeaderLine, op_words, change_words, event_words, header_words}
use Rattle.hk_script.specs.Parts.{is_text, fields, number_of}
use Rattle.hk_script.specs.Lines.{one, two, three, call_of, propose_of, group_event_of, actor_event_of, event_of_words, event_of, header, header_with, is_header, header_of_words, header_of}
use Rattle.hk_script.specs.Reading.{LinesTellEvents, LinesTellHeaders}
use Rattle.hk_script.proofs.Choices.{held, both, text_is, some_same}
use Rattle.hk_script.proofs.Spaces.{NoSpace, plain_no_space, fields_of}
use Rattle.hk_script.proofs.Spelling.{IsPart, number_part, word_no_space}
use Rattle.hk_script.proofs.Actors.{number_64_part, flags_part, time_part, some_part, node_part, manager_part, actor_part, target_part, key_part}
use Rattle.hk_script.proofs.Lines.{op_words_are, op_again, change_again, event_takes, three_takes}

event_again : (event : Event) → IsWritten event → event_of_words (event_words event) ≡ Some event
unfolding event_of_words actor_event_of group_event_of call_of propose_of one two three
event_again (Call id key op) is = rw (op_words_are key op) (rw (node_part.again id is.0, key_part.again key is.1, op_again op is.2) refl)
event_again (Take letter) is = rw (number_64_part.again letter is) refl
event_again (Tick actor to) is = rw (target_part.again (Some actor) is.0, time_part.again to is.1) refl
event_again (TickAll to) is = rw (target_part.again None tt, time_part.again to is) refl
event_again (Crash actor) is = rw (actor_part.again actor is) refl
event_again (Resend id key) is = rw (node_part.again id is.0, key_part.again key is.1) refl
event_again (Replay id key) is = rw (node_part.again id is.0, key_part.again key is.1) refl
event_again (Copy id from room) is = rw (node_part.again id is.0, node_part.again from is.1, (some_part 64 (omega arith)).again room (is.2.some, is.2.few)) refl
event_again (Start id) is = rw (node_part.again id is) refl
event_again (Agree change) is = rw (change_again change is) refl
event_again (Install id epoch) is = rw (node_part.again id is.0, number_64_part.again epoch is.1) refl
event_again (Lease id end) is = rw (node_part.again id is.0, time_part.again end is.1) refl
event_again (AskLease id manager) is = rw (node_part.again id is.0, manager_part.again manager is.1) refl
event_again (Propose manager base change) is = rw (manager_part.again manager is.0, number_64_part.again base is.1, change_again change is.2) refl
event_again (Activate manager) is = rw (manager_part.again manager is) refl

-- ---- no word has a space
abbrev AllNoSpace : List (List ℕ) → Type 0
AllNoSpace words = AllByRecursion NoSpace words

op_no_space : (key : List ℕ) (op : Op) → IsOp op → AllNoSpace (op_words key op)
op_no_space key Read is = (plain_no_space (codes "get") refl, (word_no_space key, tt))
op_no_space key (Write c) is = (plain_no_space (codes "set") refl, (word_no_space key, (flags_part.spaceless c.flags is.flags_fit, (word_no_space c.bytes, tt))))
op_no_space key (Cas tag c) is = (plain_no_space (codes "cas") refl, (word_no_space key, (flags_part.spaceless c.flags is.1.flags_fit, (word_no_space c.bytes, (number_64_part.spaceless tag is.0, tt)))))
op_no_space key (Incr by) is = (plain_no_space (codes "incr") refl, (word_no_space key, (number_64_part.spaceless by is, tt)))
op_no_space key (Decr by) is = (plain_no_space (codes "decr") refl, (word_no_space key, (number_64_part.spaceless by is, tt)))
op_no_space key (operation.Add c) is = (plain_no_space (codes "add") refl, (word_no_space key, (flags_part.spaceless c.flags is.flags_fit, (word_no_space c.bytes, tt))))
op_no_space key (Replace c) is = (plain_no_space (codes "replace") refl, (word_no_space key, (flags_part.spaceless c.flags is.flags_fit, (word_no_space c.bytes, tt))))
op_no_space key Delete is = (plain_no_space (codes "delete") refl, (word_no_space key, tt))

change_no_space : (change : Change) → IsChange change → AllNoSpace (change_words change)
change_no_space (Drop id) is = (plain_no_space (codes "drop") refl, (node_part.spaceless id is, tt))
change_no_space Add is = (plain_no_space (codes "add") refl, tt)

event_no_space : (event : Event) → IsWritten event → AllNoSpace (event_words event)
event_no_space (Call id key op) is = (plain_no_space (codes "call") refl, (node_part.spaceless id is.0, op_no_space key op is.2))
event_no_space (Take letter) is = (plain_no_space (codes "take") refl, (number_64_part.spaceless letter is, tt))
event_no_space (Tick actor to) is = (plain_no_space (codes "tick") refl, (actor_part.spaceless actor is.0, (time_part.spaceless to is.1, tt)))
event_no_space (TickAll to) is = (plain_no_space (codes "tick") refl, (plain_no_space (codes "all") refl, (time_part.spaceless to is, tt)))
event_no_space (Crash actor) is = (plain_no_space (codes "crash") refl, (actor_part.spaceless actor is, tt))
event_no_space (Resend id key) is = (plain_no_space (codes "resend") refl, (node_part.spaceless id is.0, (word_no_space key, tt)))
event_no_space (Replay id key) is = (plain_no_space (codes "replay") refl, (node_part.spaceless id is.0, (word_no_space key, tt)))
event_no_space (Copy id from room) is = (plain_no_space (codes "copy") refl, (node_part.spaceless id is.0, (node_part.spaceless from is.1, ((some_part 64 (omega arith)).spaceless room (is.2.some, is.2.few), tt))))
event_no_space (Start id) is = (plain_no_space (codes "start") refl, (node_part.spaceless id is, tt))
event_no_space (Agree change) is = (plain_no_space (codes "agree") refl, change_no_space change is)
event_no_space (Install id epoch) is = (plain_no_space (codes "install") refl, (node_part.spaceless id is.0, (number_64_part.spaceless epoch is.1, tt)))
event_no_space (Lease id end) is = (plain_no_space (codes "lease") refl, (node_part.spaceless id is.0, (time_part.spaceless end is.1, tt)))
event_no_space (AskLease id manager) is = (plain_no_space (codes "asklease") refl, (node_part.spaceless id is.0, (manager_part.spaceless manager is.1, tt)))
event_no_space (Propose manager base change) is = (plain_no_space (codes "propose") refl, (manager_part.spaceless manager is.0, (number_64_part.spaceless base is.1, change_no_space change is.2)))
event_no_space (Activate manager) is = (plain_no_space (codes "activate") refl, (manager_part.spaceless manager is, tt))

event_fields : (event : Event) → AllNoSpace (event_words event) → fields (join_with_byte 32 (event_words event)) ≡ event_words event
event_fields (Call id key op) all = fields_of _ _ all
event_fields (Take letter) all = fields_of _ _ all
event_fields (Tick actor to) all = fields_of _ _ all
event_fields (TickAll to) all = fields_of _ _ all
event_fields (Crash actor) all = fields_of _ _ all
event_fields (Resend id key) all = fields_of _ _ all
event_fields (Replay id key) all = fields_of _ _ all
event_fields (Copy id from room) all = fields_of _ _ all
event_fields (Start id) all = fields_of _ _ all
event_fields (Agree change) all = fields_of _ _ all
event_fields (Install id epoch) all = fields_of _ _ all
event_fields (Lease id end) all = fields_of _ _ all
event_fields (AskLease id manager) all = fields_of _ _ all
event_fields (Propose manager base change) all = fields_of _ _ all
event_fields (Activate manager) all = fields_of _ _ all

-- ---- events
pub event_found : (line : List ℕ) (event : Event) → event_of line ≡ Some event → IsEventLine line event
event_found line event e =
    let t = event_takes (fields line) event e in
    record { written = t.0; line_is = sym (join_with_byte-slice_split 32 line) ∙ ap (join_with_byte 32) t.1 }

pub event_read : (line : List ℕ) (event : Event) → IsEventLine line event → event_of line ≡ Some event
event_read line event is = ap event_of is.line_is ∙ ap event_of_words (event_fields event (event_no_space event is.written)) ∙ event_again event is.written

pub events_are_one : LinesTellEvents
events_are_one line a b p q = some_same a b (sym (event_read line a p) ∙ event_read line b q)

-- ---- headers
abbrev ReadHeader : ℕ → List (List ℕ) → Header → Type 0
ReadHeader managers ws h = IsHeaderWritten h × (ws ≡ decimal h.nodes ∷ decimal h.lease ∷ decimal h.skew ∷ []) × (h.managers ≡ managers)

same_header : (a b m d e n l s u x y z : List ℕ) → a ≡ codes "group" → b ≡ codes "managers" → m ≡ u → d ≡ codes "lease" → e ≡ codes "skew" → n ∷ l ∷ s ∷ [] ≡ x ∷ y ∷ z ∷ []
    → a ∷ n ∷ b ∷ m ∷ d ∷ l ∷ e ∷ s ∷ [] ≡ codes "group" ∷ x ∷ codes "managers" ∷ u ∷ codes "lease" ∷ y ∷ codes "skew" ∷ z ∷ []
same_header a b m d e n l s u x y z f g h i j k = cc

managers_part : IsPart (λ n. n ≤ 9) decimal (number_of 9)
managers_part = number_part 9 (omega arith)

with_takes : (word : List ℕ) (n l s : List ℕ) (h : Header) (o : Option ℕ) → number_of 9 word ≡ o → header_with o (n ∷ l ∷ s ∷ []) ≡ Some h → (IsHeaderWritten h × (n ∷ l ∷ s ∷ [] ≡ decimal h.nodes ∷ decimal h.lease ∷ decimal h.skew ∷ [])) × (word ≡ decimal h.managers)
with_takes word n l s h None read is = cc
with_takes word n l s h (Some managers) read is =
    let m = managers_part.takes word managers read in
    let r = three_takes (some_part 16 (omega arith)) time_part time_part (header managers) (ReadHeader managers) (λ n l s v w x. (record { some = v.0; few = v.1; managers = m.0; lease = w; skew = x }, refl, refl)) (n ∷ l ∷ s ∷ []) h is in
    ((r.0, r.1), m.1 ∙ ap decimal (sym r.2))

header_takes : (ws : List (List ℕ)) (h : Header) → header_of_words ws ≡ Some h → IsHeaderWritten h × (ws ≡ header_words h)
unfolding header_of_words
header_takes (a ∷ n ∷ b ∷ m ∷ d ∷ l ∷ e ∷ s ∷ []) h is =
    let t = held (is_header a b d e) _ h is in
    let u = both (is_text a (codes "group")) _ t.0 in
    let v = both (is_text b (codes "managers")) _ u.1 in
    let x = both (is_text d (codes "lease")) (is_text e (codes "skew")) v.1 in
    let r = with_takes m n l s h (number_of 9 m) refl t.1 in
    (r.0.0, same_header a b m d e n l s _ _ _ _ (text_is a _ u.0) (text_is b _ v.0) r.1 (text_is d _ x.0) (text_is e _ x.1) r.0.1)
header_takes ws h is = cc

header_again : (h : Header) → IsHeaderWritten h → header_of_words (header_words h) ≡ Some h
unfolding header_of_words three
header_again h is = rw (managers_part.again h.managers is.managers, (some_part 16 (omega arith)).again h.nodes (is.some, is.few), time_part.again h.lease is.lease, time_part.again h.skew is.skew) refl

header_no_space : (h : Header) → IsHeaderWritten h → AllNoSpace (header_words h)
header_no_space h is = (
  plain_no_space (codes "group") refl,
  (
    (some_part 16 (omega arith)).spaceless h.nodes (is.some, is.few),
    (
      plain_no_space (codes "managers") refl,
      (
        managers_part.spaceless h.managers is.managers,
        (plain_no_space (codes "lease") refl, (time_part.spaceless h.lease is.lease, (plain_no_space (codes "skew") refl, (time_part.spaceless h.skew is.skew, tt)))),
      ),
    ),
  ),
)

pub header_found : (line : List ℕ) (h : Header) → header_of line ≡ Some h → IsHeaderLine line h
header_found line h e =
    let t = header_takes (fields line) h e in
    record { written = t.0; line_is = sym (join_with_byte-slice_split 32 line) ∙ ap (join_with_byte 32) t.1 }

pub header_read : (line : List ℕ) (h : Header) → IsHeaderLine line h → header_of line ≡ Some h
header_read line h is = ap header_of is.line_is ∙ ap header_of_words (fields_of _ _ (header_no_space h is.written)) ∙ header_again h is.written

pub headers_are_one : LinesTellHeaders
headers_are_one line a b p q = some_same a b (sym (header_read line a p) ∙ header_read line b q)
