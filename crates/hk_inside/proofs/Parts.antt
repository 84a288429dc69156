-- That the parts of messages are read exactly.
use Rattle.std.proofs.Common.{true≢false, ◌≡◌, ℕ, zero, suc, ◌+◌, ◌≤◌, ◌<◌, Bool, true, false, cond, eqb, ltb, List, [], ◌∷◌, ◌++◌, length, Option, Some, None, Result, Ok, Err, refl, sym, ap, subst, ◌∙◌, arith}
use Rattle.std.specs.Prelude.{All, IfSome}
use Rattle.std.specs.Int.{w16, w32, w64, to_be_bytes}
use Rattle.std.specs.List.{flat_map, AllByRecursion}
use Rattle.std.proofs.lemmas.Bool.{eqb-true, eqb-false, eq-eqb, ne_eqb, ltb-true, ltb-false}
use Rattle.std.proofs.lemmas.List.Elements.{All-from_recursion, recursion_from_All}
use Rattle.hk_base.specs.declared.stamp.NodeId.{NodeId}
use Rattle.hk_base.specs.declared.letter.Actor.{Actor}
use Rattle.hk_base.specs.declared.letter.Actor.TheVariants as actors
use Rattle.hk_fields.specs.declared.tickets.Ticket.{Ticket}
use Rattle.hk_fields.specs.declared.fault.FieldFault.{FieldFault}
use Rattle.hk_fields.specs.declared.fault.FieldFault.TheVariants.{Malformed}
use Rattle.hk_fields.specs.Fields.{both, chain, made, within, byte_at, number_at, many, text_bytes, text_at, ticket_at, IsTicket, host_bytes, host_at, IsHostValue, actor_bytes, actor_at, IsActorField}
use Rattle.hk_fields.proofs.Exact.{IsExact, Stands, IsBetween, IsByte, byte_text, IsBelow16, IsBelow32, IsBelow64, byte_exact, both_exact, chain_exact, made_exact, same_exact, cond_exact, nothing_exact, within_exact, byte_within_exact, number16_exact, number32_exact, number64_exact, IsTextOf, text_exact, ticket_exact, host_exact, actor_exact}
use Rattle.hk_fields.proofs.Many.{AreOf, many_exact}
use Rattle.hk_inside.specs.declared.report.NodeState.{NodeState}
use Rattle.hk_inside.specs.declared.report.NodeState.TheVariants as states
use Rattle.hk_inside.specs.declared.report.ShardsTold.{ShardsTold}
use Rattle.hk_inside.specs.declared.report.Counts.{Counts}
use Rattle.hk_inside.specs.declared.report.NodeSeen.{NodeSeen}
use Rattle.hk_inside.specs.declared.report.Report.{Report}
use Rattle.hk_inside.specs.declared.board.Stage.{Stage}
use Rattle.hk_inside.specs.declared.board.Stage.TheVariants as stages
use Rattle.hk_fields.specs.declared.hosts.HostTickets.{HostTickets}
use Rattle.hk_inside.specs.declared.inquiry.Leaver.{Leaver}
use Rattle.hk_inside.specs.declared.inquiry.Leaver.TheVariants as leavers
use Rattle.hk_inside.specs.Parts.{IsText, leaver_bytes, IsLeaverValue, IsLeaverInRange, stage_byte, number_or_none, place_or_none, age_or_none, node_state_byte, shards_bytes, counts_bytes, seen_bytes, report_bytes, IsShardsValue, IsCountsValue, IsSeenValue, IsReportValue, IsSeenInRange, IsReportInRange}
use Rattle.hk_inside.specs.Reading.{node_of, node_at, founding_at, counted_at, stage_of, stage_at, some_node, node_state_of, place_of, place_at, some_age, who_at, shards_of, shards_at, counts_of, counts_at, seen_of, seen_at, places_at, report_of, report_at, leaver_of, leaver_at}

-- ---- parts with all that is known of them

pub record Part (A : Type 0) : Type 1 where
  pub text : A → List ℕ
  pub Fits : A → Type 0
  pub read : List ℕ → Result (A × List ℕ) FieldFault
  pub exact : IsExact text Fits read

-- one behind the other
abbrev pub before : {A B : Type 0} → Part A → Part B → Part (A × B)
before {A} {B} p q = record {
  text = λ (x : A × B). p.text x.0 ++ q.text x.1;
  Fits = λ (x : A × B). p.Fits x.0 × q.Fits x.1;
  read = both p.read q.read;
  exact = both_exact p.text p.Fits p.read q.text q.Fits q.read p.exact q.exact;
}

-- what a part makes
abbrev pub makes : {A B : Type 0} (make : A → B) (p : Part A) (text : B → List ℕ) (Fits : B → Type 0) → Stands make p.text p.Fits text Fits → Part B
makes make p text Fits s = record { text = text; Fits = Fits; read = made make p.read; exact = made_exact make p.text p.Fits p.read text Fits p.exact s }

abbrev pub number16 : Part ℕ
number16 = record { text = to_be_bytes w16; Fits = IsBelow16; read = number_at w16; exact = number16_exact }

abbrev pub number32 : Part ℕ
number32 = record { text = to_be_bytes w32; Fits = IsBelow32; read = number_at w32; exact = number32_exact }

abbrev pub number64 : Part ℕ
number64 = record { text = to_be_bytes w64; Fits = IsBelow64; read = number_at w64; exact = number64_exact }

abbrev pub byte_from : ℕ → ℕ → Part ℕ
byte_from least most = record { text = byte_text; Fits = IsBetween IsByte least most; read = within least most byte_at; exact = byte_within_exact least most }

abbrev pub number16_from : ℕ → ℕ → Part ℕ
number16_from least most = record { text = to_be_bytes w16; Fits = IsBetween IsBelow16 least most; read = within least most (number_at w16); exact = within_exact (to_be_bytes w16) IsBelow16 least most (number_at w16) number16_exact }

abbrev pub ticket : Part Ticket
ticket = record { text = λ t. t.0; Fits = IsTicket; read = ticket_at; exact = ticket_exact }

pub text_is_exact : IsExact text_bytes IsText (text_at 0 255)
text_is_exact = same_exact text_bytes (IsTextOf 0 255) text_bytes IsText (text_at 0 255) (text_exact 0 255) (λ t f. (refl, f.short)) (λ t f. (refl, record { low = omega arith; high = omega (arith, f); short = f }))

abbrev pub text : Part (List ℕ)
text = record { text = text_bytes; Fits = IsText; read = text_at 0 255; exact = text_is_exact }

-- ---- counted lists

pub record AreCounted {A : Type 0} (Fits : A → Type 0) (least most : ℕ) (xs : List A) : Type 0 where
  pub low : least ≤ length xs
  pub high : length xs ≤ most
  pub short : length xs < 256
  pub each : AllByRecursion Fits xs

abbrev counted_text : {A : Type 0} → (A → List ℕ) → List A → List ℕ
counted_text text xs = length xs ∷ flat_map text xs

pub counted_exact : {A : Type 0} (p : Part A) (least most : ℕ) → IsExact (counted_text p.text) (AreCounted p.Fits least most) (counted_at least most p.read)
counted_exact {A} p least most = made_exact (λ x. x.1) (λ (x : ℕ × List A). byte_text x.0 ++ flat_map p.text x.1) (λ (x : ℕ × List A). IsBetween IsByte least most x.0 × AreOf p.Fits x.0 x.1) (chain (within least most byte_at) (many p.read)) (counted_text p.text) (AreCounted p.Fits least most)
    (chain_exact byte_text (IsBetween IsByte least most) (within least most byte_at) (λ n. flat_map p.text) (AreOf p.Fits) (many p.read) (byte_within_exact least most) (many_exact p.text p.Fits p.read p.exact))
    (record {
      forth = λ x f. (ap (λ (n : ℕ). n ∷ flat_map p.text x.1) (sym f.1.0), record { low = omega (arith, f.0.low, f.1.0); high = omega (arith, f.0.high, f.1.0); short = omega (arith, f.0.fits, f.1.0); each = f.1.1 });
      back = λ xs f. ((length xs, xs), (record { fits = f.short; low = f.low; high = f.high }, (refl, f.each)), refl);
    })

abbrev pub counted : {A : Type 0} → ℕ → ℕ → Part A → Part (List A)
counted least most p = record { text = counted_text p.text; Fits = AreCounted p.Fits least most; read = counted_at least most p.read; exact = counted_exact p least most }

-- two facts of each item
pub split_all : {A : Type 0} (P Q : A → Type 0) (xs : List A) → AllByRecursion (λ x. P x × Q x) xs → All P xs × All Q xs
split_all {A} P Q xs h =
    let b = parts xs h in
    (All-from_recursion P xs b.0, All-from_recursion Q xs b.1)
  where
    parts : (xs : List A) → AllByRecursion (λ x. P x × Q x) xs → AllByRecursion P xs × AllByRecursion Q xs
    parts [] h = (tt, tt)
    parts (x ∷ xs) h =
        let b = parts xs h.1 in
        ((h.0.0, b.0), (h.0.1, b.1))

pub join_all : {A : Type 0} (P Q : A → Type 0) (xs : List A) → All P xs → All Q xs → AllByRecursion (λ x. P x × Q x) xs
join_all {A} P Q xs h k = parts xs (recursion_from_All P xs h) (recursion_from_All Q xs k)
  where
    parts : (xs : List A) → AllByRecursion P xs → AllByRecursion Q xs → AllByRecursion (λ x. P x × Q x) xs
    parts [] h k = tt
    parts (x ∷ xs) h k = ((h.0, k.0), parts xs h.1 k.1)

-- ---- one of a few, by a byte

abbrev pub Any : {A : Type 0} → A → Type 0
Any a = Unit {0}

pub one_of : {A : Type 0} (of : ℕ → A) (byte : A → ℕ) (most : ℕ) → most < 256 → ((n : ℕ) → n ≤ most → n ≡ byte (of n)) → ((a : A) → byte a ≤ most) → ((a : A) → of (byte a) ≡ a) → Stands of byte_text (IsBetween IsByte 0 most) (λ a. byte_text (byte a)) Any
one_of of byte most small forth below back = record {
  forth = λ n f. (ap byte_text (forth n f.high), tt);
  back = λ a f. (byte a, record { fits = omega (arith, below a, small); low = omega arith; high = below a }, back a);
}

stage_forth : (n : ℕ) → n ≤ 2 → n ≡ stage_byte (stage_of n)
unfolding stage_of
stage_forth zero le = refl
stage_forth (suc zero) le = refl
stage_forth (suc (suc zero)) le = refl
stage_forth (suc (suc (suc n))) le = absurd (omega (arith, le))

stage_below : (s : Stage) → stage_byte s ≤ 2
stage_below stages.Empty = omega arith
stage_below stages.Founded = omega arith
stage_below stages.Open = omega arith

stage_back : (s : Stage) → stage_of (stage_byte s) ≡ s
unfolding stage_of
stage_back stages.Empty = refl
stage_back stages.Founded = refl
stage_back stages.Open = refl

pub stage_exact : IsExact (λ s. byte_text (stage_byte s)) Any stage_at
unfolding stage_at
stage_exact = (makes stage_of (byte_from 0 2) (λ s. byte_text (stage_byte s)) Any (one_of stage_of stage_byte 2 (omega arith) stage_forth stage_below stage_back)).exact

abbrev pub stage : Part Stage
stage = record { text = λ s. byte_text (stage_byte s); Fits = Any; read = stage_at; exact = stage_exact }

pub node_state_forth : (n : ℕ) → n ≤ 4 → n ≡ node_state_byte (node_state_of n)
unfolding node_state_of
node_state_forth zero le = refl
node_state_forth (suc zero) le = refl
node_state_forth (suc (suc zero)) le = refl
node_state_forth (suc (suc (suc zero))) le = refl
node_state_forth (suc (suc (suc (suc zero)))) le = refl
node_state_forth (suc (suc (suc (suc (suc n))))) le = absurd (omega (arith, le))

pub node_state_below : (s : NodeState) → node_state_byte s ≤ 4
node_state_below states.Waiting = omega arith
node_state_below states.Seated = omega arith
node_state_below states.Copying = omega arith
node_state_below states.Ready = omega arith
node_state_below states.Leaving = omega arith

pub node_state_back : (s : NodeState) → node_state_of (node_state_byte s) ≡ s
unfolding node_state_of
node_state_back states.Waiting = refl
node_state_back states.Seated = refl
node_state_back states.Copying = refl
node_state_back states.Ready = refl
node_state_back states.Leaving = refl

abbrev node_state : Part NodeState
node_state = makes node_state_of (byte_from 0 4) (λ s. byte_text (node_state_byte s)) Any (one_of node_state_of node_state_byte 4 (omega arith) node_state_forth node_state_below node_state_back)

-- ---- nodes, foundings, hosts

pub node_exact : IsExact (λ (n : NodeId). to_be_bytes w16 n.0) (λ (n : NodeId). IsBelow16 n.0) node_at
unfolding node_at
node_exact = (makes node_of number16 (λ (n : NodeId). to_be_bytes w16 n.0) (λ (n : NodeId). IsBelow16 n.0) (record { forth = λ n f. (refl, f); back = λ node f. (node.0, f, refl) })).exact

abbrev pub node : Part NodeId
node = record { text = λ n. to_be_bytes w16 n.0; Fits = λ n. IsBelow16 n.0; read = node_at; exact = node_exact }

pub founding_exact : IsExact (to_be_bytes w64) (IsBetween IsBelow64 1 18446744073709551615) founding_at
unfolding founding_at
founding_exact = within_exact (to_be_bytes w64) IsBelow64 1 18446744073709551615 (number_at w64) number64_exact

abbrev pub founding : Part ℕ
founding = record { text = to_be_bytes w64; Fits = IsBetween IsBelow64 1 18446744073709551615; read = founding_at; exact = founding_exact }

abbrev pub host : Part HostTickets
host = record { text = host_bytes; Fits = IsHostValue; read = host_at; exact = host_exact }

-- ---- what may be missing

-- the number that says so, and others
abbrev some_of : {A : Type 0} → ℕ → (ℕ → A) → ℕ → Option A
some_of last wrap n = cond (eqb n last) None (Some (wrap n))

abbrev or_last : {A : Type 0} → ℕ → (A → ℕ) → Option A → ℕ
or_last last number None = last
or_last last number (Some a) = number a

abbrev IsBelowLast : {A : Type 0} → ℕ → (A → ℕ) → Option A → Type 0
IsBelowLast last number o = IfSome o (λ a. number a < last)

module _ {A : Type 0} (last : ℕ) (wrap : ℕ → A) (number : A → ℕ) (there : (n : ℕ) → number (wrap n) ≡ n) (here : (a : A) → wrap (number a) ≡ a) where
  some_forth : (n : ℕ) → n < last + 1 → (n ≡ or_last last number (some_of last wrap n)) × IsBelowLast last number (some_of last wrap n)
  some_forth n lt = at (eqb n last) refl
    where
      at : (b : Bool) → eqb n last ≡ b → (n ≡ or_last last number (cond b None (Some (wrap n)))) × IsBelowLast last number (cond b None (Some (wrap n)))
      at true h = (eqb-true n last h, tt)
      at false h =
          let below : n < last = omega (arith, lt, eqb-false n last h) in
          (sym (there n), subst (λ (m : ℕ). m < last) (sym (there n)) below)

  some_back : (o : Option A) → IsBelowLast last number o → (n : ℕ) × (n < last + 1) × (some_of last wrap n ≡ o)
  some_back None f = (last, omega arith, ap (λ (b : Bool). cond b None (Some (wrap last))) (eq-eqb last last refl))
  some_back (Some a) f =
      let other : eqb (number a) last ≡ false = ne_eqb (number a) last (λ e. omega (arith, f, e)) in
      (number a, omega (arith, f), rw other (ap Some (here a)))

pub node_there : (n : ℕ) → (node_of n).0 ≡ n
node_there n = refl

pub node_here : (a : NodeId) → node_of a.0 ≡ a
node_here a = refl

abbrev number_of_node : NodeId → ℕ
number_of_node a = a.0

abbrev same_number : ℕ → ℕ
same_number n = n

abbrev pub IsSomeNode : Option NodeId → Type 0
IsSomeNode o = IfSome o (λ n. n.0 < 65535)

pub some_node_stands : Stands some_node (to_be_bytes w16) IsBelow16 (λ o. to_be_bytes w16 (number_or_none o)) IsSomeNode
unfolding some_node
some_node_stands = record {
  forth = λ n f.
      (let h = some_forth 65535 node_of number_of_node node_there node_here n (omega (arith, f)) in
      (ap (to_be_bytes w16) (h.0 ∙ or_number (some_node n)), h.1));
  back = λ o f.
      (let h = some_back 65535 node_of number_of_node node_there node_here o f in
      (h.0, omega (arith, h.1), h.2));
}
  where
    or_number : (o : Option NodeId) → or_last 65535 number_of_node o ≡ number_or_none o
    or_number None = refl
    or_number (Some a) = refl

abbrev some_node' : Part (Option NodeId)
some_node' = makes some_node number16 (λ o. to_be_bytes w16 (number_or_none o)) IsSomeNode some_node_stands

abbrev pub IsSomeAge : Option ℕ → Type 0
IsSomeAge o = IfSome o (λ age. age < 4294967295)

pub some_age_stands : Stands some_age (to_be_bytes w32) IsBelow32 (λ o. to_be_bytes w32 (age_or_none o)) IsSomeAge
unfolding some_age
some_age_stands = record {
  forth = λ n f.
      (let h = some_forth 4294967295 same_number same_number (λ m. refl) (λ m. refl) n (omega (arith, f)) in
      (ap (to_be_bytes w32) (h.0 ∙ or_number (some_age n)), h.1));
  back = λ o f.
      (let h = some_back 4294967295 same_number same_number (λ m. refl) (λ m. refl) o f in
      (h.0, omega (arith, h.1), h.2));
}
  where
    or_number : (o : Option ℕ) → or_last 4294967295 same_number o ≡ age_or_none o
    or_number None = refl
    or_number (Some a) = refl

abbrev some_age' : Part (Option ℕ)
some_age' = makes some_age number32 (λ o. to_be_bytes w32 (age_or_none o)) IsSomeAge some_age_stands

-- ---- the place of a manager, or none

abbrev pub IsSomePlace : Option ℕ → Type 0
IsSomePlace o = IfSome o (λ place. place < 9)

abbrev no_text : Option ℕ → List ℕ
no_text o = []

abbrev OfPlace : ℕ → Option ℕ → Type 0
OfPlace n o = (place_or_none o ≡ n) × IsSomePlace o

none_there : (n : ℕ) → n ≡ 255 → (o : Option ℕ) → OfPlace n o → o ≡ None
none_there n e None f = refl
none_there n e (Some place) f = absurd (omega (arith, e, f.0, f.1))

none_exact : (n : ℕ) → n ≡ 255 → IsExact no_text (OfPlace n) (λ bytes. Ok (None, bytes))
none_exact n e = same_exact no_text (λ o. o ≡ None) no_text (OfPlace n) (λ bytes. Ok (None, bytes)) (nothing_exact None) (λ o f. (refl, subst (OfPlace n) (sym f) (sym e, tt))) (λ o f. (refl, none_there n e o f))

some_there : (n : ℕ) → (n ≡ 255 → true ≡ false) → (o : Option ℕ) → OfPlace n o → (o ≡ Some n) × (n < 9)
some_there n other None f = absurd (true≢false (other (sym f.0)))
some_there n other (Some place) f = (ap Some f.0, omega (arith, f.0, f.1))

some_exact : (n : ℕ) → (n ≡ 255 → true ≡ false) → n < 9 → IsExact no_text (OfPlace n) (λ bytes. Ok (Some n, bytes))
some_exact n other lt = same_exact no_text (λ o. o ≡ Some n) no_text (OfPlace n) (λ bytes. Ok (Some n, bytes)) (nothing_exact (Some n)) (λ o f. (refl, subst (OfPlace n) (sym f) (refl, lt))) (λ o f. (refl, (some_there n other o f).0))

no_place : (n : ℕ) → (n ≡ 255 → true ≡ false) → 8 < n → IsExact no_text (OfPlace n) (λ bytes. Err Malformed)
no_place n other lt = record {
  takes = λ bytes o rest fits h. absurd cc;
  again = λ o rest f. absurd (omega (arith, lt, (some_there n other o f).1));
}

place_of_exact : (n : ℕ) → IsExact no_text (OfPlace n) (place_of n)
unfolding place_of
place_of_exact n = cond_exact no_text (OfPlace n) (λ bytes. Ok (None, bytes)) (λ bytes. cond (ltb 8 n) (Err Malformed) (Ok (Some n, bytes))) (eqb n 255) (λ h. none_exact n (eqb-true n 255 h))
    (λ h. cond_exact no_text (OfPlace n) (λ bytes. Err Malformed) (λ bytes. Ok (Some n, bytes)) (ltb 8 n) (λ g. no_place n (other h) (ltb-true 8 n g)) (λ g. some_exact n (other h) (below (ltb-false 8 n g))))
  where
    other : eqb n 255 ≡ false → n ≡ 255 → true ≡ false
    other h e = absurd (eqb-false n 255 h e)

    below : n ≤ 8 → n < 9
    below le = omega (arith, le)

place_small : (o : Option ℕ) → IsSomePlace o → IsByte (place_or_none o)
place_small None f = omega arith
place_small (Some place) f = omega (arith, f)

pub place_exact : IsExact (λ o. byte_text (place_or_none o)) IsSomePlace place_at
unfolding place_at
place_exact = made_exact (λ p. p.1) (λ (p : ℕ × Option ℕ). byte_text p.0 ++ no_text p.1) (λ (p : ℕ × Option ℕ). IsByte p.0 × OfPlace p.0 p.1) (chain byte_at place_of) (λ o. byte_text (place_or_none o)) IsSomePlace
    (chain_exact byte_text IsByte byte_at (λ n. no_text) OfPlace place_of byte_exact place_of_exact)
    (record { forth = λ p f. (ap byte_text (sym f.1.0), f.1.1); back = λ o f. ((place_or_none o, o), (place_small o f, (refl, f)), refl) })

abbrev place : Part (Option ℕ)
place = record { text = λ o. byte_text (place_or_none o); Fits = IsSomePlace; read = place_at; exact = place_exact }

-- ---- reports

abbrev who_parts : Part (Ticket × (Option NodeId × (NodeState × (Option ℕ × ℕ))))
who_parts = before ticket (before some_node' (before node_state (before place number64)))

pub who_exact : IsExact who_parts.text who_parts.Fits who_at
unfolding who_at
who_exact = who_parts.exact

abbrev who : Part (Ticket × (Option NodeId × (NodeState × (Option ℕ × ℕ))))
who = record { text = who_parts.text; Fits = who_parts.Fits; read = who_at; exact = who_exact }

pub record AreShards (s : ShardsTold) : Type 0 where
  pub value : IsShardsValue s
  pub ready : s.ready ≤ 8

pub shards_exact : IsExact shards_bytes AreShards shards_at
unfolding shards_at
shards_exact = (makes shards_of (before (byte_from 0 8) (before number64 number32)) shards_bytes AreShards
    (record {
      forth = λ p f. (refl, record { value = record { ready = f.0.fits; least_epoch = f.1.0; least_lease_left = f.1.1 }; ready = f.0.high });
      back = λ s f. ((s.ready, (s.least_epoch, s.least_lease_left)), (record { fits = f.value.ready; low = omega arith; high = f.ready }, (f.value.least_epoch, f.value.least_lease_left)), refl);
    })).exact

abbrev shards : Part ShardsTold
shards = record { text = shards_bytes; Fits = AreShards; read = shards_at; exact = shards_exact }

pub counts_exact : IsExact counts_bytes IsCountsValue counts_at
unfolding counts_at
counts_exact = (makes counts_of (before number64 (before number64 (before number64 (before number64 (before number64 (before number64 number64)))))) counts_bytes IsCountsValue
    (record {
      forth = λ p f. (refl, record { keys = f.0; bytes = f.1.0; gets = f.1.1.0; sets = f.1.1.1.0; busy = f.1.1.1.1.0; aborted = f.1.1.1.1.1.0; unknown = f.1.1.1.1.1.1 });
      back = λ c f. ((c.keys, (c.bytes, (c.gets, (c.sets, (c.busy, (c.aborted, c.unknown)))))), (f.keys, (f.bytes, (f.gets, (f.sets, (f.busy, (f.aborted, f.unknown)))))), refl);
    })).exact

abbrev counts : Part Counts
counts = record { text = counts_bytes; Fits = IsCountsValue; read = counts_at; exact = counts_exact }

abbrev pub IsSeen : NodeSeen → Type 0
IsSeen s = IsSeenValue s × IsSeenInRange s

pub seen_exact : IsExact seen_bytes IsSeen seen_at
unfolding seen_at
seen_exact = (makes seen_of (before node (before some_age' number32)) seen_bytes IsSeen
    (record {
      forth = λ p f. (refl, (record { node = f.0; unacknowledged = f.1.1 }, f.1.0));
      back = λ s f. ((s.node, (s.age_of_ask, s.unacknowledged)), (f.0.node, (f.1, f.0.unacknowledged)), refl);
    })).exact

abbrev seen : Part NodeSeen
seen = record { text = seen_bytes; Fits = IsSeen; read = seen_at; exact = seen_exact }

abbrev places_parts : Part (List ℕ × (List ℕ × List NodeSeen))
places_parts = before text (before text (counted 0 255 seen))

pub places_exact : IsExact places_parts.text places_parts.Fits places_at
unfolding places_at
places_exact = places_parts.exact

abbrev places : Part (List ℕ × (List ℕ × List NodeSeen))
places = record { text = places_parts.text; Fits = places_parts.Fits; read = places_at; exact = places_exact }

pub record IsReport (r : Report) : Type 0 where
  pub value : IsReportValue r
  pub range : IsReportInRange r

abbrev report_parts : Part ((Ticket × (Option NodeId × (NodeState × (Option ℕ × ℕ)))) × (ShardsTold × (Counts × (List ℕ × (List ℕ × List NodeSeen)))))
report_parts = before who (before shards (before counts places))

report_forth : (p : (Ticket × (Option NodeId × (NodeState × (Option ℕ × ℕ)))) × (ShardsTold × (Counts × (List ℕ × (List ℕ × List NodeSeen))))) → report_parts.Fits p → (report_parts.text p ≡ report_bytes (report_of p)) × IsReport (report_of p)
report_forth p f =
    let nodes = f.1.1.1.1.1 in
    let each = split_all IsSeenValue IsSeenInRange p.1.1.1.1.1 nodes.each in (
      refl,
      record {
        value = record { ticket = f.0.0; records = f.0.1.1.1.1; shards = f.1.0.value; counts = f.1.1.0; nodes = each.0 };
        range = record { node = f.0.1.0; manager = f.0.1.1.1.0; ready = f.1.0.ready; inside = f.1.1.1.0; clients = f.1.1.1.1.0; few = nodes.short; nodes = each.1 };
      },
    )

report_back : (r : Report) → IsReport r → (p : (Ticket × (Option NodeId × (NodeState × (Option ℕ × ℕ)))) × (ShardsTold × (Counts × (List ℕ × (List ℕ × List NodeSeen))))) × report_parts.Fits p × (report_of p ≡ r)
report_back r f =
    let v = f.value in
    let g = f.range in
    let nodes : AreCounted IsSeen 0 255 r.nodes = record { low = omega arith; high = omega (arith, g.few); short = g.few; each = join_all IsSeenValue IsSeenInRange r.nodes v.nodes g.nodes } in (
      ((r.ticket, (r.node, (r.state, (r.manager, r.records)))), (r.shards, (r.counts, (r.inside, (r.clients, r.nodes))))),
      ((v.ticket, (g.node, (tt, (g.manager, v.records)))), (record { value = v.shards; ready = g.ready }, (v.counts, (g.inside, (g.clients, nodes))))),
      refl,
    )

pub report_exact : IsExact report_bytes IsReport report_at
unfolding report_at
report_exact = (makes report_of report_parts report_bytes IsReport (record { forth = report_forth; back = report_back })).exact

abbrev pub report : Part Report
report = record { text = report_bytes; Fits = IsReport; read = report_at; exact = report_exact }

-- ---- who is to leave

abbrev pub IsLeaver : Leaver → Type 0
IsLeaver l = IsLeaverValue l × IsLeaverInRange l

leaver_forth : (a : Actor) → IsActorField a → (actor_bytes a ≡ leaver_bytes (leaver_of a)) × IsLeaver (leaver_of a)
leaver_forth (actors.Node node) f = (refl, (f, tt))
leaver_forth (actors.Manager place) f = (refl, (omega (arith, f), f))

leaver_back : (l : Leaver) → IsLeaver l → (a : Actor) × IsActorField a × (leaver_of a ≡ l)
leaver_back (leavers.Node node) f = (actors.Node node, f.0, refl)
leaver_back (leavers.Host place) f = (actors.Manager place, f.1, refl)

pub leaver_exact : IsExact leaver_bytes IsLeaver leaver_at
unfolding leaver_at
leaver_exact = made_exact leaver_of actor_bytes IsActorField actor_at leaver_bytes IsLeaver actor_exact (record { forth = leaver_forth; back = leaver_back })

abbrev pub leaver : Part Leaver
leaver = record { text = leaver_bytes; Fits = IsLeaver; read = leaver_at; exact = leaver_exact }
