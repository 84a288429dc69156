-- What reading a letter's frame tells of an entry.
use Rattle.std.proofs.Common.{◌≡◌, ℕ, true, false, List, ◌++◌, length, take, drop, Result, Ok, Err, refl, sym, ap, subst, ◌∙◌, arith}
use Rattle.std.proofs.lemmas.List.{take-append-drop, drop_at}
use Rattle.hk_base.specs.declared.letter.Letter.{Letter}
use Rattle.hk_frame.specs.declared.fault.FrameFault.{FrameFault}
use Rattle.hk_frame.specs.Frames.{frame}
use Rattle.hk_frame.specs.Sendable.{IsSendable}
use Rattle.hk_frame.specs.Told.{frame_at}
use Rattle.hk_frame.proofs.Whole.{frame_take, frame_again}
use Rattle.hk_fields.specs.declared.fault.FieldFault.TheVariants.{Malformed}
use Rattle.hk_fields.proofs.Exact.{IsBytes, IsBytes-drop, passed, Takes, IsExact}
use Rattle.hk_log.specs.declared.entry.Entry.{Entry}
use Rattle.hk_log.specs.declared.entry.Entry.TheVariants.{Founded, Open, Propose, Receive, Bound}
use Rattle.hk_log.specs.Entries.{entry_kind, entry_fields, is_of_paxos, IsEntry}
use Rattle.hk_log.specs.Fields.{received_of, received_at}

abbrev pub OfKind : ℕ → Entry → Type 0
OfKind kind entry = IsEntry entry × (entry_kind entry ≡ kind)

abbrev Found : Type 0
Found = (ℕ × Letter) × ℕ

-- what the code's reader tells, as what reading gives
pub read_found : (bytes : List ℕ) (shard : ℕ) (letter : Letter) (len : ℕ) → IsSendable shard letter × (take len bytes ≡ frame shard letter) × (len ≡ length (frame shard letter)) → frame_at bytes ≡ Ok ((shard, letter), len)
read_found bytes shard letter len f =
    let parts : bytes ≡ frame shard letter ++ drop len bytes = sym (take-append-drop len bytes) ∙ ap (λ (x : List ℕ). x ++ drop len bytes) f.1 in
    let read : frame_at bytes ≡ Ok ((shard, letter), length (frame shard letter)) = ap frame_at parts ∙ frame_again shard letter (drop len bytes) f.0 in
    subst (λ (n : ℕ). frame_at bytes ≡ Ok ((shard, letter), n)) (sym f.2) read

pub received_is : (bytes : List ℕ) (shard : ℕ) (letter : Letter) (len : ℕ) → IsSendable shard letter × (take len bytes ≡ frame shard letter) × (len ≡ length (frame shard letter)) → is_of_paxos letter.body ≡ true → received_at bytes ≡ Ok (Receive shard letter, drop len bytes)
unfolding received_at
received_is bytes shard letter len f paxos = rw (read_found bytes shard letter len f, paxos) refl

pub received_other : (bytes : List ℕ) (shard : ℕ) (letter : Letter) (len : ℕ) → IsSendable shard letter × (take len bytes ≡ frame shard letter) × (len ≡ length (frame shard letter)) → is_of_paxos letter.body ≡ false → received_at bytes ≡ Err Malformed
unfolding received_at
received_other bytes shard letter len f paxos = rw (read_found bytes shard letter len f, paxos) refl

received_ok : (r : Result Found FrameFault) (bytes : List ℕ) (y : Entry × List ℕ) → received_of r bytes ≡ Ok y → (x : Found) × (r ≡ Ok x) × (is_of_paxos x.0.1.body ≡ true) × ((Receive x.0.0 x.0.1, drop x.1 bytes) ≡ y)
received_ok (Ok x) bytes y e =
    let p = passed (is_of_paxos x.0.1.body) Malformed (Receive x.0.0 x.0.1, drop x.1 bytes) y e in
    (x, refl, p.0, p.1)
received_ok (Err fault) bytes y e = absurd cc

received_takes : (bytes : List ℕ) (entry : Entry) (rest : List ℕ) → IsBytes bytes → received_at bytes ≡ Ok (entry, rest) → Takes bytes (entry_fields entry) rest × OfKind 4 entry
unfolding received_at
received_takes bytes entry rest fits e =
    let r = received_ok (frame_at bytes) bytes (entry, rest) e in
    let x = r.0 in
    let t = frame_take bytes r.0 fits r.1 in
    let parts : bytes ≡ frame r.0.0.0 r.0.0.1 ++ drop r.0.1 bytes = sym (take-append-drop r.0.1 bytes) ∙ ap (λ (z : List ℕ). z ++ drop r.0.1 bytes) t.1 in
    let is : IsEntry (Receive r.0.0.0 r.0.0.1) = record { value = t.0.value; range = (t.0.low, record { parts = t.0.range; fits = t.0.fits }, r.2) } in
    subst (λ (y : Entry × List ℕ). Takes bytes (entry_fields y.0) y.1 × OfKind 4 y.0) r.3 (record { parts = parts; rest_fits = IsBytes-drop r.0.1 bytes fits }, (is, refl))

received_again : (entry : Entry) (rest : List ℕ) → OfKind 4 entry → received_at (entry_fields entry ++ rest) ≡ Ok (entry, rest)
unfolding received_at
received_again (Receive shard letter) rest f =
    let range = f.0.range in
    let s : IsSendable shard letter = record { low = range.0; value = f.0.value; range = range.1.parts; fits = range.1.fits } in
    rw (frame_again shard letter rest s, range.2, drop_at (frame shard letter) rest (length (frame shard letter)) refl) refl
received_again (Founded founding) rest f = absurd (omega (arith, f.1))
received_again Open rest f = absurd (omega (arith, f.1))
received_again (Propose shard base change) rest f = absurd (omega (arith, f.1))
received_again (Bound actor ticket) rest f = absurd (omega (arith, f.1))

pub received_exact : IsExact entry_fields (OfKind 4) received_at
received_exact = record { takes = received_takes; again = received_again }
