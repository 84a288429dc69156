-- That bodies, and all the fields of a letter, are read exactly.
use Rattle.std.proofs.Common.{◌≡◌, ℕ, ◌<◌, Bool, true, false, cond, eqb, List, [], ◌∷◌, ◌++◌, length, Option, Some, None, Ok, Err, refl, sym, ap, subst, ◌∙◌, arith, inl, inr, ◌⊎◌, append-nil}
use Rattle.std.specs.Prelude.{IfSome, ⊤, All}
use Rattle.std.specs.Int.{w64, to_be_bytes}
use Rattle.std.specs.List.{AllByRecursion}
use Rattle.std.proofs.lemmas.Bool.{eqb-true}
use Rattle.std.proofs.lemmas.List.{nil_from_length}
use Rattle.std.proofs.lemmas.List.Elements.{All-from_recursion, recursion_from_All}
use Rattle.hk_base.specs.Key.{IsKey}
use Rattle.hk_base.specs.Range.{IsWithin, Leaves, IsBody, IsLetter, IsBatch, IsVote}
use Rattle.hk_base.specs.declared.time.TheConstants.{MAX_TIME}
use Rattle.hk_base.specs.declared.stamp.Stamp.{Stamp}
use Rattle.hk_base.specs.declared.stamp.Kind.{Kind}
use Rattle.hk_base.specs.declared.call.Content.{Content}
use Rattle.hk_base.specs.declared.view.Voted.{Voted}
use Rattle.hk_base.specs.declared.letter.Actor.{Actor}
use Rattle.hk_base.specs.declared.letter.CopyItem.{CopyItem}
use Rattle.hk_base.specs.declared.letter.Letter.{Letter}
use Rattle.hk_base.specs.declared.letter.Body.{Body}
use Rattle.hk_base.specs.declared.letter.Body.TheVariants.{Inv, Ack, Val, CopyAsk, CopyGive, LeaseAsk, LeaseGive, Prepare, Promise, Accept, Accepted, Chosen, Activate}
use Rattle.hk_frame.specs.declared.fault.Stop.TheVariants.{Length}
use Rattle.hk_frame.specs.declared.kind.LetterKind.{LetterKind}
use Rattle.hk_frame.specs.declared.kind.LetterKind.TheVariants as kinds
use Rattle.hk_frame.specs.Frames.{key_bytes, after_bytes, stamp_bytes, update_byte, content_bytes, items_bytes, ballot_bytes, view_bytes, vote_bytes, actor_bytes, letter_kind, kind_byte, body_bytes, field_bytes}
use Rattle.hk_frame.specs.Sendable.{IsItemValue, IsVoteValue, IsBodyValue, IsLetterValue}
use Rattle.hk_frame.specs.Fields.{both, chain, made, within, byte_at, number_at}
use Rattle.hk_frame.specs.Reading.{key_at, after_at, stamp_at, content_of, flag_at, items_at, actor_at, ballot_at, view_at, vote_at, time_at, inv_of, inv_at, body_at, kind_named, kind_or, kind_at, letter_of, letter_at, fields_at}
use Rattle.hk_frame.proofs.Exact.{IsBytes, bind_ok, passed, ok_is, Takes, IsExact, IsBetween, chain_exact, both_exact, made_takes, made_again, made_exact, byte_exact, within_exact}
use Rattle.hk_frame.proofs.Pieces.{IsByte, byte_text, byte_within_exact, Below64, number64_exact, key_exact, after_exact, IsStamp, stamp_exact, OfUpdate, content_of_exact, update_forth, update_back, flag_text, flag_exact, IsItem, IsBatchRead, items_exact, IsActorRead, actor_exact, IsBallotRead, ballot_exact}
use Rattle.hk_frame.proofs.Views.{IsViewRead, view_exact, IsVoteRead, vote_exact}

abbrev pub IsBodyRead : Body → Type 0
IsBodyRead body = IsBodyValue body × IsBody body

abbrev pub IsOfKind : LetterKind → Body → Type 0
IsOfKind kind body = IsBodyRead body × (letter_kind body ≡ kind)

-- ---- what each body is read from

abbrev InvParts : Type 0
InvParts = List ℕ × (Stamp × (ℕ × Option Content))

abbrev inv_text : InvParts → List ℕ
inv_text p = key_bytes p.0 ++ (stamp_bytes p.1.0 ++ (byte_text p.1.1.0 ++ content_bytes p.1.1.1))

abbrev AreInvParts : InvParts → Type 0
AreInvParts p = IsKey p.0 × (IsStamp p.1.0 × (IsBetween IsByte 0 2 p.1.1.0 × OfUpdate p.1.1.0 p.1.1.1))

inv_exact : IsExact inv_text AreInvParts (both key_at (both stamp_at (chain (within 0 2 byte_at) content_of)))
inv_exact = both_exact key_bytes IsKey key_at (λ q. stamp_bytes q.0 ++ (byte_text q.1.0 ++ content_bytes q.1.1)) (λ q. IsStamp q.0 × (IsBetween IsByte 0 2 q.1.0 × OfUpdate q.1.0 q.1.1)) (both stamp_at (chain (within 0 2 byte_at) content_of)) key_exact
    (both_exact stamp_bytes IsStamp stamp_at (λ q. byte_text q.0 ++ content_bytes q.1) (λ q. IsBetween IsByte 0 2 q.0 × OfUpdate q.0 q.1) (chain (within 0 2 byte_at) content_of) stamp_exact
    (chain_exact byte_text (IsBetween IsByte 0 2) (within 0 2 byte_at) (λ n. content_bytes) OfUpdate content_of (byte_within_exact 0 2) content_of_exact))

ack_exact : IsExact (λ p. key_bytes p.0 ++ (stamp_bytes p.1.0 ++ stamp_bytes p.1.1)) (λ p. IsKey p.0 × (IsStamp p.1.0 × IsStamp p.1.1)) (both key_at (both stamp_at stamp_at))
ack_exact = both_exact key_bytes IsKey key_at (λ q. stamp_bytes q.0 ++ stamp_bytes q.1) (λ q. IsStamp q.0 × IsStamp q.1) (both stamp_at stamp_at) key_exact (both_exact stamp_bytes IsStamp stamp_at stamp_bytes IsStamp stamp_at stamp_exact stamp_exact)

val_exact : IsExact (λ p. key_bytes p.0 ++ stamp_bytes p.1) (λ p. IsKey p.0 × IsStamp p.1) (both key_at stamp_at)
val_exact = both_exact key_bytes IsKey key_at stamp_bytes IsStamp stamp_at key_exact stamp_exact

copy_ask_exact : IsExact (λ p. after_bytes p.0 ++ byte_text p.1) (λ p. IfSome p.0 IsKey × IsBetween IsByte 1 64 p.1) (both after_at (within 1 64 byte_at))
copy_ask_exact = both_exact after_bytes (λ o. IfSome o IsKey) after_at byte_text (IsBetween IsByte 1 64) (within 1 64 byte_at) after_exact (byte_within_exact 1 64)

copy_give_exact : IsExact (λ p. after_bytes p.0 ++ (flag_text p.1.0 ++ items_bytes p.1.1)) (λ p. IfSome p.0 IsKey × (⊤ × IsBatchRead p.1.1)) (both after_at (both flag_at items_at))
copy_give_exact = both_exact after_bytes (λ o. IfSome o IsKey) after_at (λ q. flag_text q.0 ++ items_bytes q.1) (λ q. ⊤ × IsBatchRead q.1) (both flag_at items_at) after_exact (both_exact flag_text (λ b. ⊤) flag_at items_bytes IsBatchRead items_at flag_exact items_exact)

time_exact : IsExact (to_be_bytes w64) (IsBetween Below64 0 MAX_TIME) time_at
unfolding time_at
time_exact = within_exact (to_be_bytes w64) Below64 0 MAX_TIME (number_at w64) number64_exact

promise_exact : IsExact (λ p. ballot_bytes p.0 ++ vote_bytes p.1) (λ p. IsBallotRead p.0 × IfSome p.1 IsVoteRead) (both ballot_at vote_at)
promise_exact = both_exact ballot_bytes IsBallotRead ballot_at vote_bytes (λ o. IfSome o IsVoteRead) vote_at ballot_exact vote_exact

accept_exact : IsExact (λ p. ballot_bytes p.0 ++ view_bytes p.1) (λ p. IsBallotRead p.0 × IsViewRead p.1) (both ballot_at view_at)
accept_exact = both_exact ballot_bytes IsBallotRead ballot_at view_bytes IsViewRead view_at ballot_exact view_exact

-- ---- batches and votes, in the words of ranges

split_items : (items : List CopyItem) → AllByRecursion IsItem items → AllByRecursion IsItemValue items × (AllByRecursion (λ item. IsWithin item.stamp) items × AllByRecursion (λ item. Leaves item.kind item.content) items)
split_items [] f = (tt, (tt, tt))
split_items (item ∷ items) f =
    let r = split_items items f.1 in
    ((f.0.0, r.0), ((f.0.1.0, r.1.0), (f.0.1.1, r.1.1)))

join_items : (items : List CopyItem) → AllByRecursion IsItemValue items → AllByRecursion (λ item. IsWithin item.stamp) items → AllByRecursion (λ item. Leaves item.kind item.content) items → AllByRecursion IsItem items
join_items [] v w l = tt
join_items (item ∷ items) v w l = ((v.0, (w.0, l.0)), join_items items v.1 w.1 l.1)

batch_forth : (items : List CopyItem) → IsBatchRead items → All IsItemValue items × IsBatch items
batch_forth items f =
    let r = split_items items f.1 in
    (All-from_recursion IsItemValue items r.0, record { few = f.0; within = All-from_recursion (λ item. IsWithin item.stamp) items r.1.0; leaves = All-from_recursion (λ item. Leaves item.kind item.content) items r.1.1 })

batch_back : (items : List CopyItem) → All IsItemValue items → IsBatch items → IsBatchRead items
batch_back items v b = (b.few, join_items items (recursion_from_All IsItemValue items v) (recursion_from_All (λ item. IsWithin item.stamp) items b.within) (recursion_from_All (λ item. Leaves item.kind item.content) items b.leaves))

vote_parts : (o : Option Voted) → IfSome o IsVoteRead → IfSome o IsVoteValue × IfSome o IsVote
vote_parts None f = (tt, tt)
vote_parts (Some vote) f = f

vote_whole : (o : Option Voted) → IfSome o IsVoteValue → IfSome o IsVote → IfSome o IsVoteRead
vote_whole None v f = tt
vote_whole (Some vote) v f = (v, f)

-- ---- bodies

inv_forth : (p : InvParts) → AreInvParts p → (inv_text p ≡ body_bytes (inv_of p)) × IsOfKind kinds.Inv (inv_of p)
unfolding body_bytes
inv_forth p f =
    let u = update_forth p.1.1.0 p.1.1.1 f.1.1.0.high f.1.1.1 in
    (ap (λ (n : ℕ). key_bytes p.0 ++ (stamp_bytes p.1.0 ++ (n ∷ content_bytes p.1.1.1))) (sym u.0), (((f.0, f.1.0.0, u.1.1), (f.1.0.1, u.1.0)), refl))

body_takes : (kind : LetterKind) (bytes : List ℕ) (body : Body) (rest : List ℕ) → IsBytes bytes → body_at kind bytes ≡ Ok (body, rest) → Takes bytes (body_bytes body) rest × IsOfKind kind body
unfolding body_at inv_at body_bytes
body_takes kinds.Inv = made_takes inv_of inv_text AreInvParts (both key_at (both stamp_at (chain (within 0 2 byte_at) content_of))) body_bytes (IsOfKind kinds.Inv) inv_exact inv_forth
body_takes kinds.Ack = made_takes (λ p. Ack p.0 p.1.0 p.1.1) (λ p. key_bytes p.0 ++ (stamp_bytes p.1.0 ++ stamp_bytes p.1.1)) (λ p. IsKey p.0 × (IsStamp p.1.0 × IsStamp p.1.1)) (both key_at (both stamp_at stamp_at)) body_bytes (IsOfKind kinds.Ack) ack_exact
    (λ p f. (refl, (((f.0, f.1.0.0, f.1.1.0), (f.1.0.1, f.1.1.1)), refl)))
body_takes kinds.Val = made_takes (λ p. Val p.0 p.1) (λ p. key_bytes p.0 ++ stamp_bytes p.1) (λ p. IsKey p.0 × IsStamp p.1) (both key_at stamp_at) body_bytes (IsOfKind kinds.Val) val_exact
    (λ p f. (refl, (((f.0, f.1.0), f.1.1), refl)))
body_takes kinds.CopyAsk = made_takes (λ p. CopyAsk p.0 p.1) (λ p. after_bytes p.0 ++ byte_text p.1) (λ p. IfSome p.0 IsKey × IsBetween IsByte 1 64 p.1) (both after_at (within 1 64 byte_at)) body_bytes (IsOfKind kinds.CopyAsk) copy_ask_exact
    (λ p f. (refl, (((f.0, f.1.fits), record { some = f.1.low; few = f.1.high }), refl)))
body_takes kinds.CopyGive = made_takes (λ p. CopyGive p.0 p.1.0 p.1.1) (λ p. after_bytes p.0 ++ (flag_text p.1.0 ++ items_bytes p.1.1)) (λ p. IfSome p.0 IsKey × (⊤ × IsBatchRead p.1.1)) (both after_at (both flag_at items_at)) body_bytes (IsOfKind kinds.CopyGive) copy_give_exact
    (λ p f. (refl, (((f.0, (batch_forth p.1.1 f.1.1).0), (batch_forth p.1.1 f.1.1).1), refl)))
body_takes kinds.LeaseAsk = made_takes LeaseAsk (to_be_bytes w64) (IsBetween Below64 0 MAX_TIME) time_at body_bytes (IsOfKind kinds.LeaseAsk) time_exact (λ t f. (refl, ((f.fits, f.high), refl)))
body_takes kinds.LeaseGive = made_takes LeaseGive (to_be_bytes w64) (IsBetween Below64 0 MAX_TIME) time_at body_bytes (IsOfKind kinds.LeaseGive) time_exact (λ t f. (refl, ((f.fits, f.high), refl)))
body_takes kinds.Prepare = made_takes Prepare ballot_bytes IsBallotRead ballot_at body_bytes (IsOfKind kinds.Prepare) ballot_exact (λ b f. (refl, (f, refl)))
body_takes kinds.Promise = made_takes (λ p. Promise p.0 p.1) (λ p. ballot_bytes p.0 ++ vote_bytes p.1) (λ p. IsBallotRead p.0 × IfSome p.1 IsVoteRead) (both ballot_at vote_at) body_bytes (IsOfKind kinds.Promise) promise_exact
    (λ p f. (refl, (((f.0.0, (vote_parts p.1 f.1).0), (f.0.1, (vote_parts p.1 f.1).1)), refl)))
body_takes kinds.Accept = made_takes (λ p. Accept p.0 p.1) (λ p. ballot_bytes p.0 ++ view_bytes p.1) (λ p. IsBallotRead p.0 × IsViewRead p.1) (both ballot_at view_at) body_bytes (IsOfKind kinds.Accept) accept_exact
    (λ p f. (refl, (((f.0.0, f.1.0), (f.0.1, f.1.1)), refl)))
body_takes kinds.Accepted = made_takes Accepted ballot_bytes IsBallotRead ballot_at body_bytes (IsOfKind kinds.Accepted) ballot_exact (λ b f. (refl, (f, refl)))
body_takes kinds.Chosen = made_takes Chosen view_bytes IsViewRead view_at body_bytes (IsOfKind kinds.Chosen) view_exact (λ v f. (refl, (f, refl)))
body_takes kinds.Activate = made_takes Activate view_bytes IsViewRead view_at body_bytes (IsOfKind kinds.Activate) view_exact (λ v f. (refl, (f, refl)))

inv_again : (key : List ℕ) (s : Stamp) (kind : Kind) (content : Option Content) (rest : List ℕ) → IsBodyRead (Inv key s kind content) → inv_at (body_bytes (Inv key s kind content) ++ rest) ≡ Ok (Inv key s kind content, rest)
unfolding inv_at body_bytes
inv_again key s kind content rest f =
    let u = update_back kind content f.1.1 f.0.2 in
    let parts : InvParts = (key, (s, (update_byte kind content, content))) in
    subst (λ (k : Kind). made inv_of (both key_at (both stamp_at (chain (within 0 2 byte_at) content_of))) (inv_text parts ++ rest) ≡ Ok (Inv key s k content, rest)) u.2
    (made_again inv_of inv_text AreInvParts (both key_at (both stamp_at (chain (within 0 2 byte_at) content_of))) inv_exact parts rest (f.0.0, ((f.0.1, f.1.0), (u.0, u.1))))

body_again : (body : Body) (rest : List ℕ) → IsBodyRead body → body_at (letter_kind body) (body_bytes body ++ rest) ≡ Ok (body, rest)
unfolding body_at body_bytes
body_again (Inv key s kind content) rest f = inv_again key s kind content rest f
body_again (Ack key s top) rest f = made_again (λ p. Ack p.0 p.1.0 p.1.1) (λ p. key_bytes p.0 ++ (stamp_bytes p.1.0 ++ stamp_bytes p.1.1)) (λ p. IsKey p.0 × (IsStamp p.1.0 × IsStamp p.1.1)) (both key_at (both stamp_at stamp_at)) ack_exact (key, (s, top)) rest (f.0.0, ((f.0.1, f.1.0), (f.0.2, f.1.1)))
body_again (Val key s) rest f = made_again (λ p. Val p.0 p.1) (λ p. key_bytes p.0 ++ stamp_bytes p.1) (λ p. IsKey p.0 × IsStamp p.1) (both key_at stamp_at) val_exact (key, s) rest (f.0.0, (f.0.1, f.1))
body_again (CopyAsk after room) rest f = made_again (λ p. CopyAsk p.0 p.1) (λ p. after_bytes p.0 ++ byte_text p.1) (λ p. IfSome p.0 IsKey × IsBetween IsByte 1 64 p.1) (both after_at (within 1 64 byte_at)) copy_ask_exact (after, room) rest (f.0.0, record { fits = f.0.1; low = f.1.some; high = f.1.few })
body_again (CopyGive after done items) rest f = made_again (λ p. CopyGive p.0 p.1.0 p.1.1) (λ p. after_bytes p.0 ++ (flag_text p.1.0 ++ items_bytes p.1.1)) (λ p. IfSome p.0 IsKey × (⊤ × IsBatchRead p.1.1)) (both after_at (both flag_at items_at)) copy_give_exact (after, (done, items)) rest (f.0.0, (tt, batch_back items f.0.1 f.1))
body_again (LeaseAsk asked) rest f = made_again LeaseAsk (to_be_bytes w64) (IsBetween Below64 0 MAX_TIME) time_at time_exact asked rest (record { fits = f.0; low = omega arith; high = f.1 })
body_again (LeaseGive end) rest f = made_again LeaseGive (to_be_bytes w64) (IsBetween Below64 0 MAX_TIME) time_at time_exact end rest (record { fits = f.0; low = omega arith; high = f.1 })
body_again (Prepare ballot) rest f = made_again Prepare ballot_bytes IsBallotRead ballot_at ballot_exact ballot rest f
body_again (Promise ballot vote) rest f = made_again (λ p. Promise p.0 p.1) (λ p. ballot_bytes p.0 ++ vote_bytes p.1) (λ p. IsBallotRead p.0 × IfSome p.1 IsVoteRead) (both ballot_at vote_at) promise_exact (ballot, vote) rest ((f.0.0, f.1.0), vote_whole vote f.0.1 f.1.1)
body_again (Accept ballot view) rest f = made_again (λ p. Accept p.0 p.1) (λ p. ballot_bytes p.0 ++ view_bytes p.1) (λ p. IsBallotRead p.0 × IsViewRead p.1) (both ballot_at view_at) accept_exact (ballot, view) rest ((f.0.0, f.1.0), (f.0.1, f.1.1))
body_again (Accepted ballot) rest f = made_again Accepted ballot_bytes IsBallotRead ballot_at ballot_exact ballot rest f
body_again (Chosen view) rest f = made_again Chosen view_bytes IsViewRead view_at view_exact view rest f
body_again (Activate view) rest f = made_again Activate view_bytes IsViewRead view_at view_exact view rest f

body_exact : (kind : LetterKind) → IsExact body_bytes (IsOfKind kind) (body_at kind)
body_exact kind = record {
  takes = body_takes kind;
  again = λ body rest f. subst (λ (k : LetterKind). body_at k (body_bytes body ++ rest) ≡ Ok (body, rest)) f.1 (body_again body rest f.0);
}

-- ---- kinds

chosen : {A : Type 0} (b : Bool) (x y z : A) → cond b x y ≡ z → ((b ≡ true) × (x ≡ z)) ⊎ ((b ≡ false) × (y ≡ z))
chosen true x y z e = inl (refl, e)
chosen false x y z e = inr (refl, e)

some_is : (x y : LetterKind) → Some x ≡ Some y → x ≡ y
some_is x y e = cc

named_step : (n : ℕ) (kind : LetterKind) (others : Option LetterKind) (k : LetterKind) → (others ≡ Some k → n ≡ kind_byte k) → cond (eqb n (kind_byte kind)) (Some kind) others ≡ Some k → n ≡ kind_byte k
named_step n kind others k more e = elim (chosen (eqb n (kind_byte kind)) (Some kind) others (Some k) e) [ inl p ↦ eqb-true n (kind_byte kind) p.0 ∙ ap kind_byte (some_is kind k p.1) | inr p ↦ more p.1 ]

named : (n : ℕ) (k : LetterKind) → kind_named n ≡ Some k → n ≡ kind_byte k
unfolding kind_named
named n k = named_step n kinds.Inv _ k (named_step n kinds.Ack _ k (named_step n kinds.Val _ k (named_step n kinds.CopyAsk _ k (named_step n kinds.CopyGive _ k (named_step n kinds.LeaseAsk _ k (named_step n kinds.LeaseGive _ k (named_step n kinds.Prepare _ k (named_step n kinds.Promise _ k (named_step n kinds.Accept _ k (named_step n kinds.Accepted _ k (named_step n kinds.Chosen _ k (named_step n kinds.Activate None k (λ e. absurd cc)))))))))))))

named_again : (k : LetterKind) → kind_named (kind_byte k) ≡ Some k
unfolding kind_named
named_again kinds.Inv = refl
named_again kinds.Ack = refl
named_again kinds.Val = refl
named_again kinds.CopyAsk = refl
named_again kinds.CopyGive = refl
named_again kinds.LeaseAsk = refl
named_again kinds.LeaseGive = refl
named_again kinds.Prepare = refl
named_again kinds.Promise = refl
named_again kinds.Accept = refl
named_again kinds.Accepted = refl
named_again kinds.Chosen = refl
named_again kinds.Activate = refl

kind_ok : (o : Option LetterKind) (n : ℕ) (rest : List ℕ) (y : LetterKind × List ℕ) → kind_or o n rest ≡ Ok y → (o ≡ Some y.0) × (rest ≡ y.1)
kind_ok None n rest y e = absurd cc
kind_ok (Some kind) n rest y e =
    let p = ok_is (kind, rest) y e in
    (ap (λ (z : LetterKind × List ℕ). Some z.0) p, ap (λ (z : LetterKind × List ℕ). z.1) p)

kind_takes : (bytes : List ℕ) (kind : LetterKind) (rest : List ℕ) → IsBytes bytes → kind_at bytes ≡ Ok (kind, rest) → Takes bytes (byte_text (kind_byte kind)) rest × ⊤
unfolding kind_at
kind_takes bytes kind rest fits e =
    let a = bind_ok (byte_at bytes) (λ n. kind_or (kind_named n.0) n.0 n.1) (kind, rest) e in
    let t = byte_exact.takes bytes a.0.0 a.0.1 fits a.1 in
    let o = kind_ok (kind_named a.0.0) a.0.0 a.0.1 (kind, rest) a.2 in
    (subst (λ (n : ℕ). Takes bytes (byte_text n) rest) (named a.0.0 kind o.0) (subst (λ (r : List ℕ). Takes bytes (byte_text a.0.0) r) o.1 t.0), tt)

kind_again : (kind : LetterKind) (rest : List ℕ) → ⊤ → kind_at (byte_text (kind_byte kind) ++ rest) ≡ Ok (kind, rest)
unfolding kind_at
kind_again kind rest f = rw (named_again kind) refl

kind_exact : IsExact (λ kind. byte_text (kind_byte kind)) (λ kind. ⊤) kind_at
kind_exact = record { takes = kind_takes; again = kind_again }

-- ---- letters

abbrev pub IsLetterRead : ℕ × Letter → Type 0
IsLetterRead q = (q.0 < 8) × (IsLetterValue q.1 × IsLetter q.1)

abbrev Parts : Type 0
Parts = LetterKind × (ℕ × (ℕ × (Actor × (Actor × Body))))

abbrev tail_text : ℕ × (Actor × (Actor × Body)) → List ℕ
tail_text q = to_be_bytes w64 q.0 ++ (actor_bytes q.1.0 ++ (actor_bytes q.1.1.0 ++ body_bytes q.1.1.1))

abbrev IsTail : LetterKind → ℕ × (Actor × (Actor × Body)) → Type 0
IsTail kind q = Below64 q.0 × (IsActorRead q.1.0 × (IsActorRead q.1.1.0 × IsOfKind kind q.1.1.1))

tail_exact : (kind : LetterKind) → IsExact tail_text (IsTail kind) (both (number_at w64) (both actor_at (both actor_at (body_at kind))))
tail_exact kind = both_exact (to_be_bytes w64) Below64 (number_at w64) (λ q. actor_bytes q.0 ++ (actor_bytes q.1.0 ++ body_bytes q.1.1)) (λ q. IsActorRead q.0 × (IsActorRead q.1.0 × IsOfKind kind q.1.1)) (both actor_at (both actor_at (body_at kind))) number64_exact
    (both_exact actor_bytes IsActorRead actor_at (λ q. actor_bytes q.0 ++ body_bytes q.1) (λ q. IsActorRead q.0 × IsOfKind kind q.1) (both actor_at (body_at kind)) actor_exact
    (both_exact actor_bytes IsActorRead actor_at body_bytes (IsOfKind kind) (body_at kind) actor_exact (body_exact kind)))

abbrev parts_text : Parts → List ℕ
parts_text p = byte_text (kind_byte p.0) ++ (byte_text p.1.0 ++ tail_text p.1.1)

abbrev AreParts : Parts → Type 0
AreParts p = ⊤ × (IsBetween IsByte 0 7 p.1.0 × IsTail p.0 p.1.1)

parts_forth : (p : Parts) → AreParts p → (parts_text p ≡ field_bytes (letter_of p).0 (letter_of p).1) × IsLetterRead (letter_of p)
parts_forth p f =
    let tail = f.1.1 in
    let body = tail.1.1.1 in (
      ap (λ (k : LetterKind). kind_byte k ∷ p.1.0 ∷ tail_text p.1.1) (sym body.1),
      (omega (arith, f.1.0.high), (record { epoch = tail.0; from = tail.1.0.0; to = tail.1.1.0.0; body = body.0.0 }, record { from = tail.1.0.1; to = tail.1.1.0.1; body = body.0.1 })),
    )

parts_back : (q : ℕ × Letter) → IsLetterRead q → (p : Parts) × AreParts p × (letter_of p ≡ q)
parts_back q f =
    let v = f.1.0 in
    let l = f.1.1 in (
      (letter_kind q.1.body, (q.0, (q.1.epoch, (q.1.from, (q.1.to, q.1.body))))),
      (tt, (record { fits = omega (arith, f.0); low = omega arith; high = omega (arith, f.0) }, (v.epoch, ((v.from, l.from), ((v.to, l.to), ((v.body, l.body), refl)))))),
      refl,
    )

letter_exact : IsExact (λ (q : ℕ × Letter). field_bytes q.0 q.1) IsLetterRead letter_at
unfolding letter_at
letter_exact = made_exact letter_of parts_text AreParts (chain kind_at (λ kind. both (within 0 7 byte_at) (both (number_at w64) (both actor_at (both actor_at (body_at kind)))))) (λ (q : ℕ × Letter). field_bytes q.0 q.1) IsLetterRead
    (chain_exact (λ kind. byte_text (kind_byte kind)) (λ kind. ⊤) kind_at (λ kind. λ q. byte_text q.0 ++ tail_text q.1) (λ kind. λ q. IsBetween IsByte 0 7 q.0 × IsTail kind q.1) (λ kind. both (within 0 7 byte_at) (both (number_at w64) (both actor_at (both actor_at (body_at kind))))) kind_exact
    (λ kind. both_exact byte_text (IsBetween IsByte 0 7) (within 0 7 byte_at) tail_text (IsTail kind) (both (number_at w64) (both actor_at (both actor_at (body_at kind)))) (byte_within_exact 0 7) (tail_exact kind)))
    (record { forth = parts_forth; back = parts_back })

pub fields_take : (bytes : List ℕ) (q : ℕ × Letter) → IsBytes bytes → fields_at bytes ≡ Ok q → (bytes ≡ field_bytes q.0 q.1) × IsLetterRead q
unfolding fields_at
fields_take bytes q fits e =
    let a = bind_ok (letter_at bytes) (λ x. cond (eqb (length x.1) 0) (Ok x.0) (Err Length)) q e in
    let g = passed (eqb (length a.0.1) 0) Length a.0.0 q a.2 in
    let t = letter_exact.takes bytes a.0.0 a.0.1 fits a.1 in
    let nothing : a.0.1 ≡ [] = nil_from_length a.0.1 (eqb-true _ _ g.0) in
    let whole : bytes ≡ field_bytes a.0.0.0 a.0.0.1 = t.0.parts ∙ ap (λ (r : List ℕ). field_bytes a.0.0.0 a.0.0.1 ++ r) nothing ∙ append-nil (field_bytes a.0.0.0 a.0.0.1) in
    subst (λ (y : ℕ × Letter). (bytes ≡ field_bytes y.0 y.1) × IsLetterRead y) g.1 (whole, t.1)

pub fields_again : (q : ℕ × Letter) → IsLetterRead q → fields_at (field_bytes q.0 q.1) ≡ Ok q
unfolding fields_at
fields_again q f =
    let read : letter_at (field_bytes q.0 q.1) ≡ Ok (q, []) = ap letter_at (sym (append-nil (field_bytes q.0 q.1))) ∙ letter_exact.again q [] f in
    rw read refl
