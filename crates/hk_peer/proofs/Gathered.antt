-- What was read and put, call by call.
use Rattle.std.proofs.Common.{◌≡◌, ℕ, ◌+◌, ◌<◌, ◌≤◌, List, [], ◌∷◌, ◌++◌, length, Option, Some, None, Err, refl, ap, subst, ◌∙◌, sym, arith}
use Rattle.std.specs.Prelude.{◌≢◌}
use Rattle.std.specs.List.{concat}
use Rattle.std.specs.Io.KnownBytes.{Consumes, Keeps}
use Rattle.hk_outside.proofs.Streams.{consumes_more}
use Rattle.hk_link.specs.declared.rule.Known.{Known}
use Rattle.hk_peer.specs.declared.course.Course.{Course}
use Rattle.hk_peer.specs.declared.ends.PeerEnd.{PeerEnd}
use Rattle.hk_peer.specs.declared.ends.PeerEnd.TheVariants as ends
use Rattle.hk_peer.specs.Cut.{Cutting, IsPart}
use Rattle.hk_peer.specs.Counted.{GivesMore, IsCount, end_mark}
use Rattle.hk_peer.specs.Parcels.{AreFrames, NoFrame, Passes}
use Rattle.hk_peer.specs.Serving.{IsRest, IsOver, IsFirst, GoOn, Serves}
use Rattle.hk_peer.specs.Turns.{IsStop, Comes, Pieces, PassesUnlessEnded, IsServing}
use Rattle.hk_peer.proofs.Counting.{given_none, given_more, read_now, read_on}
use Rattle.hk_peer.proofs.Framing.{passes_none, passes_more, passes_on, no_frame_in_part, no_frame_in_bad}

consumes_none : (left : Option (List ℕ)) → Consumes left left []
consumes_none None = tt
consumes_none (Some xs) = refl

consumes_kept : (a b c : Option (List ℕ)) (xs : List ℕ) → Consumes a b xs → Keeps b c → Consumes a c xs
consumes_kept None b c xs h k = tt
consumes_kept (Some x) None c xs h k = absurd h
consumes_kept (Some x) (Some y) None xs h k = absurd k
consumes_kept (Some x) (Some y) (Some z) xs h k = h ∙ ap (λ w. xs ++ w) (sym k)

pub serving_starts : (course : Course) (left : Option (List ℕ)) (given : Option (List (List ℕ))) (known : Known) (unread : List ℕ) → unread ≡ [] → IsServing course left left given given known known 0 unread
serving_starts course left given known unread e = record { read = []; consumed = consumes_none left; reads = given_none given; passed = rw e (passes_none course [] known) }

pub some_bytes : (piece : List ℕ) (count : ℕ) → length piece ≡ count → (count ≡ 0 → ⊥) → 1 ≤ length piece
some_bytes piece count l n = omega (arith, l, n)

-- a piece came
abbrev pub serving_fed : (course : Course) (left left' left'' : Option (List ℕ)) (given given' given'' : Option (List (List ℕ))) (before after : Known) (turns count : ℕ) (c c' : Cutting) → IsServing course left left' given given' before after turns c.unread → Comes count left' left'' given' given'' c c' → (count ≡ 0 → ⊥) → IsServing course left left'' given given'' before after (turns + 1) c'.unread
serving_fed course left left' left'' given given' given'' before after turns count c c' s k some = record {
  read = s.read ++ k.piece;
  consumed = consumes_more left left' left'' s.read k.piece s.consumed k.taken;
  reads = given_more given given' given'' s.read k.piece turns s.reads k.grown (some_bytes k.piece count k.long some);
  passed = rw (ap (λ (x : Cutting). x.unread) k.come) (passes_more course s.read k.piece c.unread before after s.passed);
}

-- what was there was passed on
abbrev pub serving_passed : (course : Course) (left left' : Option (List ℕ)) (given given' : Option (List (List ℕ))) (before middle after : Known) (turns : ℕ) (unread rest : List ℕ) → IsServing course left left' given given' before middle turns unread → Passes course unread rest middle after → IsServing course left left' given given' before after turns rest
serving_passed course left left' given given' before middle after turns unread rest s p = record { read = s.read; consumed = s.consumed; reads = s.reads; passed = passes_on course s.read unread rest before middle after s.passed p }

no_frame : (ended : PeerEnd) (rest : List ℕ) → IsRest ended rest → ended ≢ ends.Memory → NoFrame rest
no_frame ends.Memory rest r n = absurd (n refl)
no_frame ends.End rest r n = no_frame_in_part rest r
no_frame ends.ReadFault rest r n = no_frame_in_part rest r
no_frame (ends.BadFrame fault) rest r n = no_frame_in_bad fault rest r
no_frame (ends.Spent reads) rest r n = no_frame_in_part rest r

-- nothing came with the end
serves_now : (course : Course) (ended : PeerEnd) (left left' : Option (List ℕ)) (given given' : Option (List (List ℕ))) (before after : Known) (turns : ℕ) (rest : List ℕ) (s : IsServing course left left' given given' before after turns rest) → IsRest ended rest → end_mark ended ≡ [] → IsCount ended turns → IsOver ended left' → IsFirst ended s.reads.pieces → Serves course ended left left' given given' before after
serves_now course ended left left' given given' before after turns rest s r none count over first = record {
  read = s.read;
  consumed = s.consumed;
  reads = read_now ended given given' s.read turns s.reads none count;
  over = over;
  first = first;
  parcels = s.passed.parcels;
  rest = rest;
  frames = s.passed.frames;
  put = s.passed.put;
  rests = r;
  all = no_frame ended rest r;
}

-- there was no memory for a cutter
pub serves_nothing : (course : Course) (left : Option (List ℕ)) (given : Option (List (List ℕ))) (known : Known) → Serves course ends.Memory left left given given known known
serves_nothing course left given known = serves_now course ends.Memory left left given given known known 0 [] (serving_starts course left given known [] refl) tt refl (omega arith) tt tt

-- the last read that may be made was made
pub serves_spent : (course : Course) (reads : ℕ) (left left' : Option (List ℕ)) (given given' : Option (List (List ℕ))) (before after : Known) (turns : ℕ) (rest : List ℕ) → IsServing course left left' given given' before after turns rest → IsPart rest → reads ≡ 4294967295 → turns ≡ 4294967295 → Serves course (ends.Spent reads) left left' given given' before after
serves_spent course reads left left' given given' before after turns rest s r all spent = serves_now course (ends.Spent reads) left left' given given' before after turns rest s r refl (all, spent) tt tt

-- a read that gave nothing, or failed
serves_on : (course : Course) (ended : PeerEnd) (left left' left'' : Option (List ℕ)) (given given' given'' : Option (List (List ℕ))) (before after : Known) (turns : ℕ) (rest : List ℕ) (s : IsServing course left left' given given' before after turns rest) → IsRest ended rest → Keeps left' left'' → GivesMore given' given'' (end_mark ended) → IsCount ended turns → IsOver ended left'' → IsFirst ended s.reads.pieces → Serves course ended left left'' given given'' before after
serves_on course ended left left' left'' given given' given'' before after turns rest s r kept grown count over first = record {
  read = s.read;
  consumed = consumes_kept left left' left'' s.read s.consumed kept;
  reads = read_on ended given given' given'' s.read turns s.reads grown count;
  over = over;
  first = first;
  parcels = s.passed.parcels;
  rest = rest;
  frames = s.passed.frames;
  put = s.passed.put;
  rests = r;
  all = no_frame ended rest r;
}

keeps_of : (a b : Option (List ℕ)) (piece : List ℕ) → piece ≡ [] → Consumes a b piece → Keeps a b
keeps_of None b piece e k = tt
keeps_of (Some x) None piece e k = absurd k
keeps_of (Some x) (Some y) piece e k = sym (k ∙ ap (λ (w : List ℕ). w ++ y) e)

nothing : (piece : List ℕ) (count : ℕ) → length piece ≡ count → count ≡ 0 → piece ≡ []
nothing [] count l n = refl
nothing (x ∷ xs) count l n = absurd (omega (arith, l, n))

pub serves_end : (course : Course) (count : ℕ) (left left' left'' : Option (List ℕ)) (given given' given'' : Option (List (List ℕ))) (before after : Known) (turns : ℕ) (c c' : Cutting) → IsServing course left left' given given' before after turns c.unread → IsPart c.unread → Comes count left' left'' given' given'' c c' → count ≡ 0 → turns < 4294967295 → Serves course ends.End left left'' given given'' before after
serves_end course count left left' left'' given given' given'' before after turns c c' s r k none few =
    let empty = nothing k.piece count k.long none in
    serves_on course ends.End left left' left'' given given' given'' before after turns c.unread s r (keeps_of left' left'' k.piece empty k.taken) (rw empty at k.grown) few (k.ended none) tt

-- a read that did not come about
pub serves_unread : (course : Course) (ended : PeerEnd) (left left' left'' : Option (List ℕ)) (given given' given'' : Option (List (List ℕ))) (before after : Known) (turns : ℕ) (c c' : Cutting) → IsServing course left left' given given' before after turns c.unread → IsPart c.unread → Pieces (Err ended) left' left'' given' given'' c c' → turns < 4294967295 → Serves course ended left left'' given given'' before after
serves_unread course ends.Memory left left' left'' given given' given'' before after turns c c' s r k few = rw (k.0, k.1) (serves_now course ends.Memory left left' given given' before after turns c.unread s tt refl (omega (arith, few)) tt tt)
serves_unread course ends.ReadFault left left' left'' given given' given'' before after turns c c' s r k few = serves_on course ends.ReadFault left left' left'' given given' given'' before after turns c.unread s r k.0 k.1 few tt tt
serves_unread course ends.End left left' left'' given given' given'' before after turns c c' s r k few = absurd k
serves_unread course (ends.BadFrame fault) left left' left'' given given' given'' before after turns c c' s r k few = absurd k
serves_unread course (ends.Spent reads) left left' left'' given given' given'' before after turns c c' s r k few = absurd k

-- the bytes that were read before a piece went on
goes_on : (course : Course) (left left' : Option (List ℕ)) (given given' : Option (List (List ℕ))) (before after : Known) (turns : ℕ) (unread : List ℕ) (s : IsServing course left left' given given' before after turns unread) → IsPart unread → GoOn (concat s.reads.pieces)
goes_on course left left' given given' before after turns unread s part = record { parcels = s.passed.parcels; rest = unread; frames = subst (λ (b : List ℕ). AreFrames b s.passed.parcels unread) (sym s.reads.joined) s.passed.frames; part = part }

-- a pass that did not come to its end
pub serves_stopped : (course : Course) (ended : PeerEnd) (left left' left'' : Option (List ℕ)) (given given' given'' : Option (List (List ℕ))) (before middle after : Known) (turns count : ℕ) (c c' : Cutting) (rest : List ℕ) → IsServing course left left' given given' before middle turns c.unread → IsPart c.unread → Comes count left' left'' given' given'' c c' → (count ≡ 0 → ⊥) → PassesUnlessEnded (Err ended) course c'.unread rest middle after → IsStop (Err ended) rest → turns < 4294967295
    → Serves course ended left left'' given given'' before after
serves_stopped course ends.Memory left left' left'' given given' given'' before middle after turns count c c' rest s part k some p stop few =
    let fed = serving_fed course left left' left'' given given' given'' before middle turns count c c' s k some in
    serves_now course ends.Memory left left'' given given'' before after (turns + 1) p.0 (serving_passed course left left'' given given'' before middle after (turns + 1) c'.unread p.0 fed p.1) tt refl (omega (arith, few)) tt tt
serves_stopped course (ends.BadFrame fault) left left' left'' given given' given'' before middle after turns count c c' rest s part k some p stop few =
    let fed = serving_fed course left left' left'' given given' given'' before middle turns count c c' s k some in
    serves_now course (ends.BadFrame fault) left left'' given given'' before after (turns + 1) rest (serving_passed course left left'' given given'' before middle after (turns + 1) c'.unread rest fed p) stop refl (omega (arith, few)) tt (s.reads.pieces, k.piece, refl, goes_on course left left' given given' before middle turns c.unread s part)
serves_stopped course ends.ReadFault left left' left'' given given' given'' before middle after turns count c c' rest s part k some p stop few = absurd stop
serves_stopped course ends.End left left' left'' given given' given'' before middle after turns count c c' rest s part k some p stop few = absurd stop
serves_stopped course (ends.Spent reads) left left' left'' given given' given'' before middle after turns count c c' rest s part k some p stop few = absurd stop
