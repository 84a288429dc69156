-- The replies to all that was said so far.
use Rattle.std.proofs.Common.{◌≡◌, ◌≢◌, ℕ, zero, suc, List, [], ◌∷◌, ◌++◌, map, Option, Some, None, refl, ◌∙◌, append_assoc, append-nil}
use Rattle.std.specs.Prelude.{IfSome}
use Rattle.hk_outside.specs.declared.desk.Asked.{Asked}
use Rattle.hk_outside.specs.declared.desk.DeskReply.{DeskReply}
use Rattle.hk_request.specs.declared.request.Request.TheVariants as request
use Rattle.hk_conn.specs.declared.said.Said.{Said}
use Rattle.hk_conn.specs.declared.said.Said.TheVariants as said
use Rattle.hk_conn.specs.declared.said.ReaderStep.{ReaderStep}
use Rattle.hk_conn.specs.declared.said.ReaderStep.TheVariants as turn
use Rattle.hk_conn.specs.declared.said.Stop.TheVariants as stop
use Rattle.hk_conn.specs.Heard.{told_of, heard}
use Rattle.hk_conn.specs.Served.{Out, before, then_out, replied, replies, keys_read}
use Rattle.hk_conn.specs.Answering.{Replied, Stopped, last_of}
use Rattle.hk_conn.specs.Serving.{ends_with, stop_at}
use Rattle.hk_conn.proofs.Answered.{no_asks, no_later, get_asks, get_later}

pub before_both : (x y : List ℕ) (a b : List Asked) (o : Out) → before x a (before y b o) ≡ before (x ++ y) (a ++ b) o
before_both x y a b o = rw (append_assoc a b o.asks, append_assoc x y o.text) refl

heard_nothing : (m : ℕ) (key : List ℕ) (o : _) → heard m key o [] ≡ record { last = None; asks = []; later = [] }
unfolding heard
heard_nothing zero key o = refl
heard_nothing (suc m) key o = refl

-- with nothing told nothing is asked
pub nothing_asked : (m : ℕ) (s : Said) → ((replied m s []).asks ≡ []) × IfSome (replied m s []).later (λ l. l ≡ [])
nothing_asked m (said.Asked (request.Get keys tags)) = (get_asks (keys_read m tags 67108859 keys []) ∙ no_asks m tags 67108859 keys, get_later (keys_read m tags 67108859 keys []) (no_later m tags 67108859 keys))
nothing_asked m (said.Asked (request.Update key o noreply)) = (rw (heard_nothing m key o) refl, rw (heard_nothing m key o) tt)
nothing_asked m (said.Asked request.Version) = (refl, refl)
nothing_asked m (said.Asked request.Quit) = (refl, refl)
nothing_asked m (said.Refused c) = (refl, refl)
nothing_asked m (said.BadEnd noreply) = (refl, refl)
nothing_asked m said.LongLine = (refl, refl)
nothing_asked m said.Left = (refl, refl)

then_asks : (o : Out) (next : List (Option DeskReply) → Out) (made : List Asked) → o.asks ≡ made → IfSome o.later (λ l. l ≡ []) → (next []).asks ≡ [] → (then_out o next).asks ≡ made
then_asks o next made e n h = at o.last refl o.later refl n
  where
    at : (l : Option Said) → o.last ≡ l → (t : Option (List (Option DeskReply))) → o.later ≡ t → IfSome t (λ l. l ≡ []) → (then_out o next).asks ≡ made
    at (Some s) f t g k = rw f e
    at None f None g k = rw (f, g) e
    at None f (Some ts) g k = rw (f, g, k, h, append-nil o.asks) e

pub none_asked : (m : ℕ) (ss : List Said) → (replies m ss []).asks ≡ []
unfolding replies
none_asked m [] = refl
none_asked m (s ∷ ss) = let n = nothing_asked m s in then_asks (replied m s []) (λ l. replies m ss l) [] n.0 n.1 (none_asked m ss)

pub stopped_asks : (m : ℕ) (a b : Option (List Asked)) (s : Said) (ss : List Said) (h : Stopped m a b s) → (replies m (s ∷ ss) (map told_of h.made)).asks ≡ h.made
unfolding replies
stopped_asks m a b s ss h = then_asks (replied m s (map told_of h.made)) (λ l. replies m ss l) h.made h.called h.none (none_asked m ss)

pub says_on : (m : ℕ) (a b : Option (List Asked)) (old new : List ℕ) (s : Said) (ss : List Said) (later : List (Option DeskReply)) (h : Replied m a b old new s) → last_of s ≡ None → replies m (s ∷ ss) (map told_of h.made ++ later) ≡ before h.text h.made (replies m ss later)
unfolding replies
says_on m a b old new s ss later h n = rw (h.replies later, n) refl

pub says_last : (m : ℕ) (a b : Option (List Asked)) (old new : List ℕ) (s l : Said) (ss : List Said) (later : List (Option DeskReply)) (h : Replied m a b old new s) → last_of s ≡ Some l → replies m (s ∷ ss) (map told_of h.made ++ later) ≡ before h.text h.made (ends_with l later)
unfolding replies
says_last m a b old new s l ss later h n = rw (h.replies later, n, append-nil h.text, append-nil h.made) refl

-- what is no stop is no line that is too long
pub goes_on : (t : ReaderStep) (s : Said) → t ≡ turn.Says s → None ≡ stop_at s → t ≢ turn.Says said.LongLine
goes_on t s is none long = let same : s ≡ said.LongLine = cc in absurd (let stops : None ≡ Some stop.TooLong = rw same at none in cc)
