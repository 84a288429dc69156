-- What was served, call by call.
use Rattle.std.proofs.Common.{◌≡◌, ℕ, zero, suc, ◌+◌, ◌-◌, ◌≤◌, ◌<◌, List, [], ◌∷◌, ◌++◌, length, map, take, drop, Option, Some, None, refl, ap, ◌∙◌, sym, arith, append_assoc, append-nil}
use Rattle.std.specs.Prelude.{Err}
use Rattle.std.specs.Io.KnownBytes.{Appends, Consumes, Keeps}
use Rattle.std.proofs.Math.Seq.{take-append_seam}
use Rattle.hk_lines.specs.Cut.{Cutting, fed}
use Rattle.hk_lines.specs.declared.due.Due.TheVariants as due
use Rattle.hk_lines.proofs.Joined.{drop_both}
use Rattle.hk_outside.specs.declared.desk.Asked.{Asked}
use Rattle.hk_outside.specs.declared.desk.DeskReply.{DeskReply}
use Rattle.hk_request.specs.declared.request.StoreHead.{StoreHead}
use Rattle.hk_conn.specs.declared.said.Said.{Said}
use Rattle.hk_conn.specs.declared.ends.ConnEnd.{ConnEnd}
use Rattle.hk_conn.specs.declared.ends.ConnEnd.TheVariants as ends
use Rattle.hk_conn.specs.Heard.{told_of}
use Rattle.hk_conn.specs.Counted.{GivesMore, AreRead, IsCount, end_mark}
use Rattle.hk_conn.specs.Said.{said_in, said_behind}
use Rattle.hk_conn.specs.Turns.{said_after, ahead}
use Rattle.hk_conn.specs.Served.{Out, before, replies, served, plain}
use Rattle.hk_conn.specs.Serving.{Place, place_of, replies_from, ends_with, behind_stop, Replying, Breaks, Idles}
use Rattle.hk_conn.specs.Responding.{Responding, IsCutShort, Responds, Rests}
use Rattle.hk_conn.specs.Pieces.{Comes, Pieces}
use Rattle.hk_conn.specs.declared.said.Stop.{Stop}
use Rattle.hk_conn.specs.declared.said.Stop.TheVariants as stop
use Rattle.hk_conn.specs.Moments.{IsServing}
use Rattle.hk_conn.specs.Ends.{IsWhole, Written, Serves}
use Rattle.hk_conn.proofs.Hearings.{asks_none, asks_more, map_append}
use Rattle.hk_conn.proofs.Passing.{none_asked, before_both}
use Rattle.hk_conn.proofs.Streams.{appends_more, consumes_more}
use Rattle.hk_conn.proofs.Counting.{given_none, given_more, read_now, read_on}

consumes_none : (left : Option (List ℕ)) → Consumes left left []
consumes_none None = tt
consumes_none (Some xs) = refl

appends_none : (held : Option (List ℕ)) → Appends held held []
appends_none None = tt
appends_none (Some xs) = sym (append-nil xs)

pub serving_starts : (m : ℕ) (left : Option (List ℕ)) (given : Option (List (List ℕ))) (held : Option (List ℕ)) (asks : Option (List Asked)) (c : Cutting) → c ≡ record { unread = []; dropping = 0; limit = 65536; due = due.Line; given = []; room = [] } → IsServing m left left given given held held asks asks 0 (replies_from m (record { pending = None; cutting = c }))
serving_starts m left given held asks c e = rw e (record { read = []; made = []; text = []; consumed = consumes_none left; reads = given_none given; asked = asks_none asks; written = appends_none held; goes = λ more later. refl })

pub fed_ahead : (h : Option StoreHead) (c : Cutting) (piece more : List ℕ) → ahead h (fed c piece) more ≡ ahead h c (piece ++ more)
fed_ahead h c piece more = ap (said_after h) (append_assoc c.unread (drop c.dropping piece) (drop (c.dropping - length piece) more) ∙ ap (λ x. c.unread ++ x) (drop_both c.dropping piece more))

consumes_kept : (a b c : Option (List ℕ)) (xs : List ℕ) → Consumes a b xs → Consumes b c [] → Consumes a c xs
consumes_kept None b c xs h k = tt
consumes_kept (Some x) None c xs h k = absurd h
consumes_kept (Some x) (Some y) None xs h k = absurd k
consumes_kept (Some x) (Some y) (Some z) xs h k = h ∙ ap (λ w. xs ++ w) k

pub consumes_keeps : (a b : Option (List ℕ)) → Keeps a b → Consumes a b []
consumes_keeps None b h = tt
consumes_keeps (Some x) None h = absurd h
consumes_keeps (Some x) (Some y) h = sym h

-- nothing came
abbrev serving_kept : (m : ℕ) (left left' left'' : Option (List ℕ)) (given given' : Option (List (List ℕ))) (held held' held'' : Option (List ℕ)) (asks asks' : Option (List Asked)) (turns : ℕ) (f : List ℕ → List (Option DeskReply) → Out) → IsServing m left left' given given' held held' asks asks' turns f → Consumes left' left'' [] → held'' ≡ held' → IsServing m left left'' given given' held held'' asks asks' turns f
serving_kept m left left' left'' given given' held held' held'' asks asks' turns f s k e = record { read = s.read; made = s.made; text = s.text; consumed = consumes_kept left left' left'' s.read s.consumed k; asked = s.asked; written = rw e s.written; reads = s.reads; goes = s.goes }

some_bytes : (piece : List ℕ) (count : ℕ) → length piece ≡ count → (count ≡ 0 → ⊥) → 1 ≤ length piece
some_bytes piece count l n = omega (arith, l, n)

-- a piece came
pub serving_fed : (m : ℕ) (left left' left'' : Option (List ℕ)) (given given' given'' : Option (List (List ℕ))) (held held' held'' : Option (List ℕ)) (asks asks' : Option (List Asked)) (turns count : ℕ) (h h1 : Option StoreHead) (c c1 : Cutting) → IsServing m left left' given given' held held' asks asks' turns (replies_from m (place_of h c)) → Comes count left' left'' given' given'' c c1 → (count ≡ 0 → ⊥) → held'' ≡ held' → h1 ≡ h → IsServing m left left'' given given'' held held'' asks asks' (turns + 1) (replies_from m (place_of h1 c1))
serving_fed m left left' left'' given given' given'' held held' held'' asks asks' turns count h h1 c c1 s k some w n = rw (w, n) (record {
  read = s.read ++ k.piece;
  made = s.made;
  text = s.text;
  consumed = consumes_more left left' left'' s.read k.piece s.consumed k.taken;
  asked = s.asked;
  written = s.written;
  reads = given_more given given' given'' s.read k.piece turns s.reads k.grown (some_bytes k.piece count k.long some);
  goes = λ more later.
      let there : ahead h c1 more ≡ ahead h c (k.piece ++ more) = ap (λ x. ahead h x more) k.come ∙ fed_ahead h c k.piece more in
      rw (append_assoc s.read k.piece more, there) (s.goes (k.piece ++ more) later);
})

clean : (old out text : List ℕ) → old ≡ [] → out ≡ old ++ text → out ≡ text
clean old out text n h = rw n at h

-- what was said is answered, and the replies are written
pub serving_responded : (m : ℕ) (left left' : Option (List ℕ)) (given given' : Option (List (List ℕ))) (held held' held'' : Option (List ℕ)) (asks asks' asks'' : Option (List Asked)) (turns : ℕ) (p : Place) (f : List ℕ → List (Option DeskReply) → Out) → IsServing m left left' given given' held held' asks asks' turns (replies_from m p) → Responding m held' held'' asks' asks'' p f → IsServing m left left' given given' held held'' asks asks'' turns f
serving_responded m left left' given given' held held' held'' asks asks' asks'' turns p f s r = record {
  read = s.read;
  made = s.made ++ r.made;
  text = s.text ++ r.text;
  consumed = s.consumed;
  asked = asks_more asks asks' asks'' s.made r.made s.asked r.grown;
  written = appends_more held held' held'' s.text r.text s.written r.put;
  reads = s.reads;
  goes = λ more later. rw (map_append s.made r.made, append_assoc (map told_of s.made) (map told_of r.made) later, s.goes more (map told_of r.made ++ later), r.goes more later) (before_both s.text r.text s.made r.made (f more later));
}

-- all that is served for what was read
served_now : (m : ℕ) (left left' : Option (List ℕ)) (given given' : Option (List (List ℕ))) (held held' : Option (List ℕ)) (asks asks' : Option (List Asked)) (turns : ℕ) (f : List ℕ → List (Option DeskReply) → Out) (s : IsServing m left left' given given' held held' asks asks' turns f) → replies m (said_in s.read) (map told_of s.made) ≡ before s.text s.made (f [] [])
served_now m left left' given given' held held' asks asks' turns f s = rw (append-nil s.read, append-nil (map told_of s.made)) at (s.goes [] [])

-- a quit or a line that is too long
pub serves_last : (patience : ℕ) (ended : ConnEnd) (l : Said) (left left' : Option (List ℕ)) (given given' : Option (List (List ℕ))) (held held' : Option (List ℕ)) (asks asks' : Option (List Asked)) (turns : ℕ) → IsServing (patience - 1) left left' given given' held held' asks asks' turns (λ more later. ends_with l later) → end_mark ended ≡ [] → IsCount ended turns → ((read : List ℕ) (out : Out) → Written ended read left' held held' out ≡ IsWhole held held' out (Some l)) → Serves patience ended left left' given given' held held' asks asks'
serves_last patience ended l left left' given given' held held' asks asks' turns s unmarked n w =
    let e : served s.read patience (map told_of s.made) ≡ record { text = s.text; asks = s.made; later = Some []; last = Some l } = served_now _ left left' given given' held held' asks asks' turns _ s ∙ rw (append-nil s.text, append-nil s.made) refl in
    record { read = s.read; made = s.made; consumed = s.consumed; reads = read_now ended given given' s.read turns s.reads unmarked n; asked = s.asked; called = ap (λ o. o.asks) e; written = rw (w s.read (served s.read patience (map told_of s.made)), e) (s.written, refl, refl) }

pub no_replies : (m : ℕ) → replies m [] [] ≡ plain [] []
unfolding replies
no_replies m = refl

idle_now : (patience : ℕ) (left left' : Option (List ℕ)) (given given' : Option (List (List ℕ))) (held held' : Option (List ℕ)) (asks asks' : Option (List Asked)) (turns : ℕ) (p : Place) (s : IsServing (patience - 1) left left' given given' held held' asks asks' turns (replies_from (patience - 1) p)) → ahead p.pending p.cutting [] ≡ [] → served s.read patience (map told_of s.made) ≡ record { text = s.text; asks = s.made; later = Some []; last = None }
idle_now patience left left' given given' held held' asks asks' turns p s i = served_now _ left left' given given' held held' asks asks' turns _ s ∙ rw (i, no_replies (patience - 1), append-nil s.text, append-nil s.made) refl

-- nothing more is said: the end, a fault of the source, or the last read
pub serves_idle : (patience : ℕ) (ended : ConnEnd) (left left' : Option (List ℕ)) (given given' given'' : Option (List (List ℕ))) (held held' : Option (List ℕ)) (asks asks' : Option (List Asked)) (turns : ℕ) (p : Place) → (s : IsServing (patience - 1) left left' given given' held held' asks asks' turns (replies_from (patience - 1) p)) → AreRead ended given given'' s.read → ahead p.pending p.cutting [] ≡ [] → ((out : Out) → IsWhole held held' out None → Written ended s.read left' held held' out) → Serves patience ended left left' given given'' held held' asks asks'
serves_idle patience ended left left' given given' given'' held held' asks asks' turns p s r i w =
    let e = idle_now patience left left' given given' held held' asks asks' turns p s i in
    record { read = s.read; made = s.made; consumed = s.consumed; reads = r; asked = s.asked; called = ap (λ o. o.asks) e; written = w (served s.read patience (map told_of s.made)) (rw e (s.written, refl, refl)) }

front_of : (x y : List ℕ) → take (length x) (x ++ y) ≡ x
front_of x y = take-append_seam x y

-- no memory where nothing was asked since the last write
pub serves_front : (patience : ℕ) (ended : ConnEnd) (left left' : Option (List ℕ)) (given given' : Option (List (List ℕ))) (held held' : Option (List ℕ)) (asks asks' : Option (List Asked)) (turns : ℕ) (p : Place) → (s : IsServing (patience - 1) left left' given given' held held' asks asks' turns (replies_from (patience - 1) p)) → end_mark ended ≡ [] → IsCount ended turns → ((out : Out) → ((n : ℕ) × Appends held held' (take n out.text)) → Written ended s.read left' held held' out) → Serves patience ended left left' given given' held held' asks asks'
serves_front patience ended left left' given given' held held' asks asks' turns p s unmarked n w =
    let e = served_now _ left left' given given' held held' asks asks' turns _ s in
    record {
      read = s.read;
      made = s.made;
      consumed = s.consumed;
      reads = read_now ended given given' s.read turns s.reads unmarked n;
      asked = s.asked;
      called = ap (λ o. o.asks) e ∙ ap (λ x. s.made ++ x) (none_asked (patience - 1) (ahead p.pending p.cutting [])) ∙ append-nil s.made;
      written = w (served s.read patience (map told_of s.made)) (length s.text, rw (e, front_of s.text (replies_from (patience - 1) p [] []).text) s.written);
    }

front_more : (x y : List ℕ) (n : ℕ) → take (length x + length (take n y)) (x ++ y) ≡ x ++ take n y
front_more [] y n = let e : 0 + length (take n y) ≡ length (take n y) = omega arith in rw e (front_taken n y)
  where
    front_taken : (n : ℕ) (y : List ℕ) → take (length (take n y)) y ≡ take n y
    front_taken zero y = refl
    front_taken (suc n) [] = refl
    front_taken (suc n) (b ∷ y) = ap (λ w. b ∷ w) (front_taken n y)
front_more (b ∷ x) y n = let e : length (b ∷ x) + length (take n y) ≡ suc (length x + length (take n y)) = grind arith in rw e (ap (λ w. b ∷ w) (front_more x y n))

-- a front of y is written behind x
appends_front : (old mid new : Option (List ℕ)) (x y z : List ℕ) (n : ℕ) → z ≡ x ++ y → Appends old mid x → Appends mid new (take n y) → (k : ℕ) × Appends old new (take k z)
appends_front old mid new x y z n e h k = (length x + length (take n y), rw (e, front_more x y n) (appends_more old mid new x (take n y) h k))

-- the replies were cut short
pub serves_cut : (patience : ℕ) (ended : ConnEnd) (left left' : Option (List ℕ)) (given given' : Option (List (List ℕ))) (held held' held'' : Option (List ℕ)) (asks asks' asks'' : Option (List Asked)) (turns : ℕ) (p : Place) → (s : IsServing (patience - 1) left left' given given' held held' asks asks' turns (replies_from (patience - 1) p)) → IsCutShort (patience - 1) held' held'' asks' asks'' p → end_mark ended ≡ [] → IsCount ended turns → ((out : Out) → ((n : ℕ) × Appends held held'' (take n out.text)) → Written ended s.read left' held held'' out) → Serves patience ended left left' given given' held held'' asks asks''
serves_cut patience ended left left' given given' held held' held'' asks asks' asks'' turns p s b unmarked n w =
    let e : replies (patience - 1) (said_in s.read) (map told_of (s.made ++ b.made)) ≡ before s.text s.made (replies_from (patience - 1) p [] (map told_of b.made)) = rw (map_append s.made b.made) (rw (append-nil s.read) at (s.goes [] (map told_of b.made))) in
    record {
      read = s.read;
      made = s.made ++ b.made;
      consumed = s.consumed;
      reads = read_now ended given given' s.read turns s.reads unmarked n;
      asked = asks_more asks asks' asks'' s.made b.made s.asked b.grown;
      called = ap (λ o. o.asks) e ∙ ap (λ x. s.made ++ x) b.called;
      written = w (served s.read patience (map told_of (s.made ++ b.made))) (appends_front held held' held'' s.text (replies_from (patience - 1) p [] (map told_of b.made)).text _ b.front.0 (ap (λ o. o.text) e) s.written b.front.1);
    }

-- writing what was answered so far
pub responding_starts : (m : ℕ) (held : Option (List ℕ)) (asks : Option (List Asked)) (p : Place) → Responding m held held asks asks p (replies_from m p)
responding_starts m held asks p = record { text = []; made = []; grown = asks_none asks; put = appends_none held; goes = λ more later. refl }

pub responding_more : (m : ℕ) (held held' held'' : Option (List ℕ)) (a b c : Option (List Asked)) (p q : Place) (old out : List ℕ) (f : List ℕ → List (Option DeskReply) → Out) → Responding m held held' a b p (replies_from m q) → old ≡ [] → Replying m b c old out q f → Appends held' held'' out → Responding m held held'' a c p f
responding_more m held held' held'' a b c p q old out f h n r w = record {
  text = h.text ++ r.text;
  made = h.made ++ r.made;
  grown = asks_more a b c h.made r.made h.grown r.grown;
  put = appends_more held held' held'' h.text r.text h.put (rw (clean old out r.text n r.put) at w);
  goes = λ more later. rw (map_append h.made r.made, append_assoc (map told_of h.made) (map told_of r.made) later, h.goes more (map told_of r.made ++ later), r.goes more later) (before_both h.text r.text h.made r.made (f more later));
}

both_made : (m : ℕ) (held held' : Option (List ℕ)) (a b : Option (List Asked)) (p q : Place) (h : Responding m held held' a b p (replies_from m q)) (made : List Asked) → replies_from m p [] (map told_of (h.made ++ made)) ≡ before h.text h.made (replies_from m q [] (map told_of made))
both_made m held held' a b p q h made = rw (map_append h.made made) (h.goes [] (map told_of made))

-- no memory in a pass
pub cut_in_pass : (m : ℕ) (held held' : Option (List ℕ)) (a b c : Option (List Asked)) (p q : Place) → Responding m held held' a b p (replies_from m q) → Breaks m b c q → IsCutShort m held held' a c p
cut_in_pass m held held' a b c p q h k =
    let e = both_made m held held' a b p q h k.made in
    record {
      made = h.made ++ k.made;
      grown = asks_more a b c h.made k.made h.grown k.grown;
      called = ap (λ o. o.asks) e ∙ ap (λ x. h.made ++ x) (k.called []);
      front = (length h.text, rw (e, front_of h.text (replies_from m q [] (map told_of k.made)).text) h.put);
    }

-- a write failed
pub cut_in_write : (m : ℕ) (held held' held'' : Option (List ℕ)) (a b c : Option (List Asked)) (p q : Place) (old out : List ℕ) (f : List ℕ → List (Option DeskReply) → Out) → Responding m held held' a b p (replies_from m q) → old ≡ [] → (r : Replying m b c old out q f) → ((f [] []).asks ≡ []) → ((n : ℕ) × Appends held' held'' (take n out)) → IsCutShort m held held'' a c p
cut_in_write m held held' held'' a b c p q old out f h n r g w =
    let now : replies_from m q [] (map told_of r.made) ≡ before r.text r.made (f [] []) = rw (append-nil (map told_of r.made)) at (r.goes [] []) in
    let e : replies_from m p [] (map told_of (h.made ++ r.made)) ≡ before (h.text ++ r.text) (h.made ++ r.made) (f [] []) = both_made m held held' a b p q h r.made ∙ ap (λ o. before h.text h.made o) now ∙ before_both h.text r.text h.made r.made (f [] []) in
    let same : out ≡ r.text = clean old out r.text n r.put in
    let split : (h.text ++ r.text) ++ (f [] []).text ≡ h.text ++ (r.text ++ (f [] []).text) = append_assoc h.text r.text (f [] []).text in
    let less : take (length (take w.0 r.text)) (r.text ++ (f [] []).text) ≡ take w.0 r.text = taken_within w.0 r.text (f [] []).text in
    record {
      made = h.made ++ r.made;
      grown = asks_more a b c h.made r.made h.grown r.grown;
      called = ap (λ o. o.asks) e ∙ rw g (append-nil (h.made ++ r.made));
      front = appends_front held held' held'' h.text (r.text ++ (f [] []).text) _ (length (take w.0 r.text)) (ap (λ o. o.text) e ∙ split) h.put (rw less (rw same at w.1));
    }
  where
    taken_within : (n : ℕ) (y z : List ℕ) → take (length (take n y)) (y ++ z) ≡ take n y
    taken_within zero y z = refl
    taken_within (suc n) [] z = refl
    taken_within (suc n) (b ∷ y) z = ap (λ w. b ∷ w) (taken_within n y z)

-- no read was made, or it failed
pub serves_unread : (patience : ℕ) (end : ConnEnd) (left left' left'' : Option (List ℕ)) (given given' given'' : Option (List (List ℕ))) (held held' held'' : Option (List ℕ)) (asks asks' : Option (List Asked)) (turns : ℕ) (h : Option StoreHead) (c c1 : Cutting) → IsServing (patience - 1) left left' given given' held held' asks asks' turns (replies_from (patience - 1) (place_of h c)) → ahead h c [] ≡ [] → Pieces (Err end) left' left'' given' given'' c c1 → held'' ≡ held' → turns < 4294967295 → Serves patience end left left'' given given'' held held'' asks asks'
serves_unread patience ends.Memory left left' left'' given given' given'' held held' held'' asks asks' turns h c c1 s i k e below = rw (e, k.0, k.1) (serves_front patience ends.Memory left left' given given' held held' asks asks' turns (place_of h c) s refl (omega (arith, below)) (λ out w. w))
serves_unread patience ends.ReadFault left left' left'' given given' given'' held held' held'' asks asks' turns h c c1 s i k e below = serves_idle patience ends.ReadFault left left'' given given' given'' held held'' asks asks' turns (place_of h c) (serving_kept (patience - 1) left left' left'' given given' held held' held'' asks asks' turns (replies_from (patience - 1) (place_of h c)) s (consumes_keeps left' left'' k.0) e) (read_on ends.ReadFault given given' given'' s.read turns s.reads k.1 below) i (λ out w. w)
serves_unread patience ends.Quit left left' left'' given given' given'' held held' held'' asks asks' turns h c c1 s i k e below = absurd k
serves_unread patience ends.End left left' left'' given given' given'' held held' held'' asks asks' turns h c c1 s i k e below = absurd k
serves_unread patience ends.WriteFault left left' left'' given given' given'' held held' held'' asks asks' turns h c c1 s i k e below = absurd k
serves_unread patience ends.TooLong left left' left'' given given' given'' held held' held'' asks asks' turns h c c1 s i k e below = absurd k
serves_unread patience (ends.Spent n) left left' left'' given given' given'' held held' held'' asks asks' turns h c c1 s i k e below = absurd k

-- a read of nothing
pub serves_end : (patience count : ℕ) (left left' left'' : Option (List ℕ)) (given given' given'' : Option (List (List ℕ))) (held held' held'' : Option (List ℕ)) (asks asks' : Option (List Asked)) (turns : ℕ) (h : Option StoreHead) (c c1 : Cutting) → IsServing (patience - 1) left left' given given' held held' asks asks' turns (replies_from (patience - 1) (place_of h c)) → ahead h c [] ≡ [] → Comes count left' left'' given' given'' c c1 → count ≡ 0 → held'' ≡ held' → turns < 4294967295 → Serves patience ends.End left left'' given given'' held held'' asks asks'
serves_end patience count left left' left'' given given' given'' held held' held'' asks asks' turns h c c1 s i k z e below =
    let none : k.piece ≡ [] = no_bytes k.piece (k.long ∙ z) in
    let taken : Consumes left' left'' [] = rw none at k.taken in
    let mark : GivesMore given' given'' ([] ∷ []) = rw none at k.grown in
    serves_idle patience ends.End left left'' given given' given'' held held'' asks asks' turns (place_of h c) (serving_kept (patience - 1) left left' left'' given given' held held' held'' asks asks' turns (replies_from (patience - 1) (place_of h c)) s taken e) (read_on ends.End given given' given'' s.read turns s.reads mark below) i (λ out w. (w, k.ended z))
  where
    no_bytes : (xs : List ℕ) → length xs ≡ 0 → xs ≡ []
    no_bytes [] h = refl
    no_bytes (x ∷ xs) h = absurd (grind (arith, h))

-- the replies were not all written
pub serves_unanswered : (patience : ℕ) (end : ConnEnd) (left left' : Option (List ℕ)) (given given' : Option (List (List ℕ))) (held held' held'' : Option (List ℕ)) (asks asks' asks'' : Option (List Asked)) (turns : ℕ) (p p' : Place) → IsServing (patience - 1) left left' given given' held held' asks asks' turns (replies_from (patience - 1) p) → Responds (Err end) (patience - 1) held' held'' asks' asks'' p p' → turns ≤ 4294967295 → Serves patience end left left' given given' held held'' asks asks''
serves_unanswered patience ends.Memory left left' given given' held held' held'' asks asks' asks'' turns p p' s k below = serves_cut patience ends.Memory left left' given given' held held' held'' asks asks' asks'' turns p s k refl below (λ out w. w)
serves_unanswered patience ends.WriteFault left left' given given' held held' held'' asks asks' asks'' turns p p' s k below = serves_cut patience ends.WriteFault left left' given given' held held' held'' asks asks' asks'' turns p s k refl below (λ out w. w)
serves_unanswered patience ends.ReadFault left left' given given' held held' held'' asks asks' asks'' turns p p' s k below = absurd k
serves_unanswered patience ends.Quit left left' given given' held held' held'' asks asks' asks'' turns p p' s k below = absurd k
serves_unanswered patience ends.End left left' given given' held held' held'' asks asks' asks'' turns p p' s k below = absurd k
serves_unanswered patience ends.TooLong left left' given given' held held' held'' asks asks' asks'' turns p p' s k below = absurd k
serves_unanswered patience (ends.Spent n) left left' given given' held held' held'' asks asks' asks'' turns p p' s k below = absurd k

pub nothing_at_first : said_in [] ≡ []
unfolding said_behind
nothing_at_first = refl

pub stop_asks : (s : Stop) (m : ℕ) (p : Place) → (behind_stop s m p [] []).asks ≡ []
stop_asks stop.Need m p = none_asked m (ahead p.pending p.cutting [])
stop_asks stop.Full m p = none_asked m (ahead p.pending p.cutting [])
stop_asks stop.Quit m p = refl
stop_asks stop.TooLong m p = refl

-- a stop that is not for a write rests
pub rests_of : (s : Stop) (p p' : Place) → (s ≡ stop.Full → ⊥) → Idles s p p' → Rests s p'
rests_of stop.Need p p' n i = i
rests_of stop.Full p p' n i = absurd (n refl)
rests_of stop.Quit p p' n i = tt
rests_of stop.TooLong p p' n i = tt

-- a rest at which the connection goes on
pub rests_need : (s : Stop) (p : Place) → (s ≡ stop.Quit → ⊥) → (s ≡ stop.TooLong → ⊥) → Rests s p → s ≡ stop.Need
rests_need stop.Need p q t r = refl
rests_need stop.Full p q t r = absurd r
rests_need stop.Quit p q t r = absurd (q refl)
rests_need stop.TooLong p q t r = absurd (t refl)
