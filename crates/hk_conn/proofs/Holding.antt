-- The replies so far, some of which wait.
use Rattle.std.proofs.Common.{◌≡◌, ◌≢◌, ◌<◌, inl, inr, ℕ, length, List, [], ◌∷◌, ◌++◌, map, false, Option, Some, None, refl, ap, ◌∙◌, sym, subst, append_assoc, append-nil}
use Rattle.std.specs.Prelude.{Bool, Result, Ok, Err, OnOk, if◌then◌else◌}
use Rattle.hk_base.specs.declared.call.Op.{Op}
use Rattle.hk_outside.specs.Desk.{Asks, Finishes, IsSettled}
use Rattle.hk_outside.specs.declared.desk.Asked.{Asked}
use Rattle.hk_outside.specs.declared.desk.DeskReply.{DeskReply}
use Rattle.hk_outside.specs.declared.desk.DeskReply.TheVariants.{Told, Unknown, Spent}
use Rattle.hk_base.specs.declared.call.Answer.TheVariants as answer
use Rattle.hk_request.specs.declared.request.Request.TheVariants as request
use Rattle.hk_conn.specs.declared.pending.PendingUpdate.{PendingUpdate}
use Rattle.hk_conn.specs.declared.said.Said.{Said}
use Rattle.hk_conn.specs.declared.said.Said.TheVariants as said
use Rattle.hk_conn.specs.declared.said.Stop.{Stop}
use Rattle.hk_conn.specs.declared.said.Stop.TheVariants as stop
use Rattle.hk_conn.specs.Heard.{AsksMore, told_of, ask_of, is_busy}
use Rattle.hk_conn.specs.Asking.{told, HearsOn}
use Rattle.hk_lines.specs.Cut.{Cutting}
use Rattle.hk_request.specs.declared.request.StoreHead.{StoreHead}
use Rattle.hk_conn.specs.declared.said.ReaderStep.{ReaderStep}
use Rattle.hk_conn.specs.declared.said.ReaderStep.TheVariants as turn
use Rattle.hk_conn.specs.Said.{is_last}
use Rattle.hk_conn.specs.Turns.{ahead, IsReader, Turns}
use Rattle.hk_conn.specs.Answering.{Answers, Replied, Stopped, last_of}
use Rattle.hk_conn.specs.Served.{Out, before, replies, update_text}
use Rattle.hk_conn.specs.Serving.{Place, replies_from, ends_with, behind_stop, place_of, stop_at, Idles, Breaks, Replying}
use Rattle.hk_conn.specs.Exchange.{behind}
use Rattle.hk_conn.specs.Pending.{pending_text, Settle, wills, IfTells, AreTold, FinishesAll, FinishesUpdates, FinishesOne, LetsGo, LetsOneGo, Holding, Parting, HasBegun, Waited, AnswersPending, RepliesPending}
use Rattle.hk_conn.proofs.Hearings.{asks_none, asks_more, asks_one, hears_joined, map_append, heard_end, told_ask}
use Rattle.hk_conn.proofs.Answered.{update_answers}
use Rattle.hk_conn.proofs.Passing.{before_both, none_asked, says_on, says_last, stopped_asks}

-- ---- the list of asks
grown_on : (P : Type 0) (a b c : Option (List Asked)) (made more : List Asked) → (IfTells b P → AsksMore a b made) → AsksMore b c more → IfTells c P → AsksMore a c (made ++ more)
grown_on P a b None made more h k e = tt
grown_on P a None (Some z) made more h k e = absurd k
grown_on P a (Some y) (Some z) made more h k e = asks_more a (Some y) (Some z) made more (h e) k

grown_kept : (P : Type 0) (a b c : Option (List Asked)) (made : List Asked) → (IfTells b P → AsksMore a b made) → AsksMore b c [] → IfTells c P → AsksMore a c made
grown_kept P a b c made h k e = rw (append-nil made) at (grown_on P a b c made [] h k e)

grown_begun : {E : Type 0} (P Q : Type 0) (a b c : Option (List Asked)) (made : List Asked) (key : List ℕ) (op : Op) (will : Result DeskReply E) (t : Option DeskReply) → (IfTells b P → AsksMore a b made) → Asks b c key op will → (Q → P × (t ≡ told will))
    → IfTells c Q → AsksMore a c (made ++ ask_of key op t ∷ [])
grown_begun P Q a b None made key op will t h k f e = tt
grown_begun P Q a None (Some z) made key op will t h k f e = absurd k
grown_begun P Q a (Some y) (Some z) made key op will t h k f e = let p = f e in rw p.1 (asks_more a (Some y) (Some z) made (ask_of key op (told will) ∷ []) (h p.0) (asks_one (Some y) (Some z) key op will k))

-- ---- what goes on
pub holding_starts : {W E : Type 0} (will : W → Result DeskReply E) (a : Option (List Asked)) (front : List ℕ → List (Option DeskReply) → Out) → Holding will a a [] [] [] front front
holding_starts will a front [] s = record { text = []; made = []; put = refl; grown = λ e. asks_none a; goes = λ more later. refl }
holding_starts will a front (t ∷ ts) s = absurd s

pub holding_moves : {W E : Type 0} (will : W → Result DeskReply E) (a b : Option (List Asked)) (old out : List ℕ) (updates : List (PendingUpdate W)) (front f g : List ℕ → List (Option DeskReply) → Out) → Holding will a b old out updates front f
    → ((more : List ℕ) (later : List (Option DeskReply)) → f more later ≡ g more later) → Holding will a b old out updates front g
holding_moves will a b old out updates front f g h e ts s =
    let k = h ts s in record { text = k.text; made = k.made; put = k.put; grown = k.grown; goes = λ more later. k.goes more later ∙ ap (λ o. before k.text k.made o) (e more later) }

holding_more : {W E : Type 0} (will : W → Result DeskReply E) (a b c : Option (List Asked)) (old out new : List ℕ) (updates : List (PendingUpdate W)) (front mid after : List ℕ → List (Option DeskReply) → Out) (text : List ℕ) (made : List Asked)
    → Holding will a b old out updates front mid → AsksMore b c made → new ≡ out ++ text
    → ((more : List ℕ) (later : List (Option DeskReply)) → mid more (map told_of made ++ later) ≡ before text made (after more later)) → Holding will a c old new updates front after
holding_more will a b c old out new updates front mid after text made h g n e ts s = let k = h ts s in record {
  text = k.text ++ text;
  made = k.made ++ made;
  put = ap (λ x. old ++ (pending_text updates ts ++ x)) n ∙ ap (λ x. old ++ x) (sym (append_assoc (pending_text updates ts) out text)) ∙ sym (append_assoc old (pending_text updates ts ++ out) text) ∙ ap (λ x. x ++ text) k.put;
  grown = λ w. grown_on (ts ≡ wills will updates) a b c k.made made k.grown g w;
  goes = λ more later. rw (map_append k.made made, append_assoc (map told_of k.made) (map told_of made) later, k.goes more (map told_of made ++ later), e more later) (before_both k.text text k.made made (after more later));
}

pub holding_replied : {W E : Type 0} (will : W → Result DeskReply E) (m : ℕ) (a b c : Option (List Asked)) (old out new : List ℕ) (updates : List (PendingUpdate W)) (front : List ℕ → List (Option DeskReply) → Out) (ss : List ℕ → List Said) (s : Said)
    → Holding will a b old out updates front (λ more later. replies m (s ∷ ss more) later) → Replied m b c out new s → last_of s ≡ None → Holding will a c old new updates front (λ more later. replies m (ss more) later)
holding_replied will m a b c old out new updates front ss s h q n =
    holding_more will a b c old out new updates front (λ more later. replies m (s ∷ ss more) later) (λ more later. replies m (ss more) later) q.text q.made h q.grown q.put (λ more later. says_on m b c out new s (ss more) later q n)

pub holding_last : {W E : Type 0} (will : W → Result DeskReply E) (m : ℕ) (a b c : Option (List Asked)) (old out new : List ℕ) (updates : List (PendingUpdate W)) (front : List ℕ → List (Option DeskReply) → Out) (ss : List ℕ → List Said) (s l : Said)
    → Holding will a b old out updates front (λ more later. replies m (s ∷ ss more) later) → Replied m b c out new s → last_of s ≡ Some l → Holding will a c old new updates front (λ more later. ends_with l later)
holding_last will m a b c old out new updates front ss s l h q n =
    holding_more will a b c old out new updates front (λ more later. replies m (s ∷ ss more) later) (λ more later. ends_with l later) q.text q.made h q.grown q.put (λ more later. says_last m b c out new s l (ss more) later q n)

pub parting_stopped : {W E : Type 0} (will : W → Result DeskReply E) (m : ℕ) (a b c : Option (List Asked)) (old out : List ℕ) (updates : List (PendingUpdate W)) (front : List ℕ → List (Option DeskReply) → Out) (ss : List ℕ → List Said) (s : Said)
    → Holding will a b old out updates front (λ more later. replies m (s ∷ ss more) later) → Stopped m b c s → Parting will a c updates front
parting_stopped will m a b c old out updates front ss s h q ts st = let k = h ts st in record {
  made = k.made ++ q.made;
  grown = λ w. grown_on (ts ≡ wills will updates) a b c k.made q.made k.grown q.grown w;
  called = λ more. rw (map_append k.made q.made, k.goes more (map told_of q.made)) (ap (λ x. k.made ++ x) (stopped_asks m b c s (ss more) q));
}

pub parting_ends : {W E : Type 0} (will : W → Result DeskReply E) (a b : Option (List Asked)) (old out : List ℕ) (updates : List (PendingUpdate W)) (front after : List ℕ → List (Option DeskReply) → Out) → Holding will a b old out updates front after
    → ((more : List ℕ) → (after more []).asks ≡ []) → Parting will a b updates front
parting_ends will a b old out updates front after h n ts st = let k = h ts st in record {
  made = k.made;
  grown = k.grown;
  called = λ more.
      let e : front more (map told_of k.made) ≡ before k.text k.made (after more []) = rw (append-nil (map told_of k.made)) at (k.goes more []) in
      ap (λ o. o.asks) e ∙ ap (λ x. k.made ++ x) (n more) ∙ append-nil k.made;
}

-- ---- an update that waits
record Split {W E : Type 0} (will : W → Result DeskReply E) (updates : List (PendingUpdate W)) (l : PendingUpdate W) (all : List (Option DeskReply)) : Type 0 where
  pub ts : List (Option DeskReply)
  pub t : Option DeskReply
  pub settle : Settle updates ts
  pub settled : is_busy t ≡ false
  pub text : pending_text (updates ++ l ∷ []) all ≡ pending_text updates ts ++ (l.front.items ++ update_text l.noreply t)
  pub same : all ≡ wills will (updates ++ l ∷ []) → (ts ≡ wills will updates) × (t ≡ told (will l.waits))

same_head : (t u : Option DeskReply) (ts us : List (Option DeskReply)) → t ∷ ts ≡ u ∷ us → t ≡ u
same_head t u ts us e = cc

same_rest : (t u : Option DeskReply) (ts us : List (Option DeskReply)) → t ∷ ts ≡ u ∷ us → ts ≡ us
same_rest t u ts us e = cc

text_on : (a b x y : List ℕ) → a ++ (b ++ (x ++ y)) ≡ (a ++ (b ++ x)) ++ y
text_on a b x y = ap (λ z. a ++ z) (sym (append_assoc b x y)) ∙ sym (append_assoc a (b ++ x) y)

split : {W E : Type 0} (will : W → Result DeskReply E) (updates : List (PendingUpdate W)) (l : PendingUpdate W) (all : List (Option DeskReply)) → Settle (updates ++ l ∷ []) all → Split will updates l all
split will [] l [] s = absurd s
split will [] l (t ∷ []) s = record {
  ts = [];
  t = t;
  settle = tt;
  settled = s.0;
  text = ap (λ x. l.front.items ++ x) (append-nil (update_text l.noreply t));
  same = λ e. (refl, same_head t (told (will l.waits)) [] [] e);
}
split will [] l (t ∷ u ∷ ts) s = absurd s.1
split will (k ∷ ks) l [] s = absurd s
split will (k ∷ ks) l (t ∷ ts) s = let r = split will ks l ts s.1 in record {
  ts = t ∷ r.ts;
  t = r.t;
  settle = (s.0, r.settle);
  settled = r.settled;
  text = ap (λ x. k.front.items ++ (update_text k.noreply t ++ x)) r.text ∙ text_on k.front.items (update_text k.noreply t) (pending_text ks r.ts) (l.front.items ++ update_text l.noreply r.t);
  same = λ e.
      let first = same_head t (told (will k.waits)) ts (wills will (ks ++ l ∷ [])) e in
      let rest = r.same (same_rest t (told (will k.waits)) ts (wills will (ks ++ l ∷ [])) e) in
      (ap (λ x. x ∷ r.ts) first ∙ ap (λ x. told (will k.waits) ∷ x) rest.0, rest.1);
}

update_on : (m : ℕ) (key : List ℕ) (op : Op) (noreply : Bool) (ss : List Said) (t : Option DeskReply) (later : List (Option DeskReply)) → is_busy t ≡ false
    → replies m (said.Asked (request.Update key op noreply) ∷ ss) (t ∷ later) ≡ before (update_text noreply t) (ask_of key op t ∷ []) (replies m ss later)
unfolding replies
update_on m key op noreply ss t later e = rw (heard_end m key op t later (λ lt. e)) refl

put_begun : (lt front out old kt : List ℕ) (a b : Bool) (t : Option DeskReply) → front ≡ out → a ≡ b → old ++ (lt ++ out) ≡ kt → old ++ (lt ++ (front ++ update_text a t)) ≡ kt ++ update_text b t
put_begun lt front out old kt a b t f n p = rw (f, n) (ap (λ x. old ++ x) (sym (append_assoc lt out (update_text b t))) ∙ sym (append_assoc old (lt ++ out) (update_text b t)) ∙ ap (λ x. x ++ update_text b t) p)

begun_at : {W E : Type 0} (will : W → Result DeskReply E) (m : ℕ) (a b c : Option (List Asked)) (old out : List ℕ) (updates : List (PendingUpdate W)) (front : List ℕ → List (Option DeskReply) → Out) (ss : List ℕ → List Said) (key : List ℕ) (op : Op) (noreply : Bool) (pending : PendingUpdate W)
    → Holding will a b old out updates front (λ more later. replies m (said.Asked (request.Update key op noreply) ∷ ss more) later) → pending.front.items ≡ out → pending.noreply ≡ noreply → Asks b c key op (will pending.waits)
    → Holding will a c old [] (updates ++ pending ∷ []) front (λ more later. replies m (ss more) later)
begun_at will m a b c old out updates front ss key op noreply pending h f n g all st =
    let r = split will updates pending all st in
    let k = h r.ts r.settle in
    let text : old ++ (pending_text updates r.ts ++ (pending.front.items ++ update_text pending.noreply r.t)) ≡ k.text ++ update_text noreply r.t =
    put_begun (pending_text updates r.ts) pending.front.items out old k.text pending.noreply noreply r.t f n k.put in
    record {
      text = k.text ++ update_text noreply r.t;
      made = k.made ++ ask_of key op r.t ∷ [];
      put = ap (λ x. old ++ x) (append-nil (pending_text (updates ++ pending ∷ []) all) ∙ r.text) ∙ text;
      grown = λ e. grown_begun (r.ts ≡ wills will updates) (all ≡ wills will (updates ++ pending ∷ [])) a b c k.made key op (will pending.waits) r.t k.grown g r.same e;
      goes = λ more later.
          rw (map_append k.made (ask_of key op r.t ∷ []), told_ask key op r.t, append_assoc (map told_of k.made) (r.t ∷ []) later, k.goes more (r.t ∷ later), update_on m key op noreply (ss more) r.t later r.settled)
          (before_both k.text (update_text noreply r.t) k.made (ask_of key op r.t ∷ []) (replies m (ss more) later));
    }

pub holding_begun : {W E : Type 0} (will : W → Result DeskReply E) (m : ℕ) (a b c : Option (List Asked)) (old out new : List ℕ) (updates updates' : List (PendingUpdate W)) (front : List ℕ → List (Option DeskReply) → Out) (ss : List ℕ → List Said) (key : List ℕ) (op : Op) (noreply : Bool)
    → Holding will a b old out updates front (λ more later. replies m (said.Asked (request.Update key op noreply) ∷ ss more) later) → Waited will b c updates updates' out new key op noreply
    → Holding will a c old new updates' front (λ more later. replies m (ss more) later)
holding_begun will m a b c old out new updates updates' front ss key op noreply h w = rw (w.added, w.rest) (begun_at will m a b c old out updates front ss key op noreply w.pending h w.front w.noreply_is w.begun)

-- ---- all that wait are told
finished_at : {W E : Type 0} (will : W → Result DeskReply E) (a b c : Option (List Asked)) (old out new : List ℕ) (updates : List (PendingUpdate W)) (front after : List ℕ → List (Option DeskReply) → Out) (ts : List (Option DeskReply)) → Holding will a b old out updates front after → AreTold will b c updates ts
    → new ≡ pending_text updates ts ++ out → Holding will a c old new [] front after
finished_at will a b c old out new updates front after ts h t n [] s = let k = h ts t.settle in record {
  text = k.text;
  made = k.made;
  put = ap (λ x. old ++ x) n ∙ k.put;
  grown = λ e. grown_kept (ts ≡ wills will updates) a b c k.made k.grown t.kept t.same;
  goes = k.goes;
}
finished_at will a b c old out new updates front after ts h t n (u ∷ us) s = absurd s

pub holding_finished : {W E : Type 0} (will : W → Result DeskReply E) (a b c : Option (List Asked)) (old out new : List ℕ) (updates updates' : List (PendingUpdate W)) (front after : List ℕ → List (Option DeskReply) → Out) (ts : List (Option DeskReply)) → updates' ≡ [] → AreTold will b c updates ts
    → new ≡ pending_text updates ts ++ out → Holding will a b old out updates front after → Holding will a c old new updates' front after
holding_finished will a b c old out new updates updates' front after ts e t n h = rw e (finished_at will a b c old out new updates front after ts h t n)

parted_at : {W E : Type 0} (will : W → Result DeskReply E) (a b c : Option (List Asked)) (updates : List (PendingUpdate W)) (front : List ℕ → List (Option DeskReply) → Out) (ts : List (Option DeskReply)) → Parting will a b updates front → AreTold will b c updates ts → Parting will a c [] front
parted_at will a b c updates front ts h t [] s = let k = h ts t.settle in record { made = k.made; grown = λ e. grown_kept (ts ≡ wills will updates) a b c k.made k.grown t.kept t.same; called = k.called }
parted_at will a b c updates front ts h t (u ∷ us) s = absurd s

pub parting_finished : {W E : Type 0} (will : W → Result DeskReply E) (a b c : Option (List Asked)) (updates updates' : List (PendingUpdate W)) (front : List ℕ → List (Option DeskReply) → Out) (ts : List (Option DeskReply)) → updates' ≡ [] → AreTold will b c updates ts → Parting will a b updates front → Parting will a c updates' front
parting_finished will a b c updates updates' front ts e t h = rw e (parted_at will a b c updates front ts h t)

no_asks_behind : (s : Stop) (m : ℕ) (p : Place) (more : List ℕ) → (behind_stop s m p more []).asks ≡ []
no_asks_behind stop.Need m p more = none_asked m (ahead p.pending p.cutting more)
no_asks_behind stop.Full m p more = none_asked m (ahead p.pending p.cutting more)
no_asks_behind stop.Quit m p more = refl
no_asks_behind stop.TooLong m p more = refl

none_behind : (s : Stop) (held : Option Said) (m : ℕ) (p : Place) (more : List ℕ) → (behind s held m p more []).asks ≡ []
none_behind s None m p more = no_asks_behind s m p more
none_behind s (Some said) m p more = none_asked m (said ∷ (if is_last said then [] else ahead p.pending p.cutting more))

pub breaks : {W E : Type 0} (will : W → Result DeskReply E) (m : ℕ) (a b c : Option (List Asked)) (updates : List (PendingUpdate W)) (p : Place) (ts : List (Option DeskReply)) → Parting will a b updates (replies_from m p) → AreTold will b c updates ts → Breaks m a c p
breaks will m a b c updates p ts h t = let k = h ts t.settle in record { made = k.made; grown = grown_kept (ts ≡ wills will updates) a b c k.made k.grown t.kept t.same; called = k.called }

-- what was said goes on so to a stop
pub holding_breaks : {W E : Type 0} (will : W → Result DeskReply E) (m : ℕ) (a b c : Option (List Asked)) (old out : List ℕ) (updates : List (PendingUpdate W)) (p q : Place) (s : Stop) (held : Option Said) (ts : List (Option DeskReply)) → Holding will a b old out updates (replies_from m p) (behind s held m q) → AreTold will b c updates ts → Breaks m a c p
holding_breaks will m a b c old out updates p q s held ts h t = breaks will m a b c updates p ts (parting_ends will a b old out updates (replies_from m p) (behind s held m q) h (none_behind s held m q)) t

-- ---- one thing that is said
replied_now : {W E : Type 0} (will : W → Result DeskReply E) (m : ℕ) (b c : Option (List Asked)) (updates : List (PendingUpdate W)) (out new : List ℕ) (s : Said) (o : Option Stop) → Replied m b c out new s → o ≡ stop_at s → RepliesPending {F = E} will (Ok o) m b c updates updates out new s
replied_now will m b c updates out new (said.Asked q) None h e = (e, λ a old front ss k. holding_replied will m a b c old out new updates front ss (said.Asked q) k h refl)
replied_now will m b c updates out new (said.Refused q) None h e = (e, λ a old front ss k. holding_replied will m a b c old out new updates front ss (said.Refused q) k h refl)
replied_now will m b c updates out new (said.BadEnd q) None h e = (e, λ a old front ss k. holding_replied will m a b c old out new updates front ss (said.BadEnd q) k h refl)
replied_now will m b c updates out new said.LongLine None h e = absurd (cc)
replied_now will m b c updates out new said.Left None h e = absurd (cc)
replied_now will m b c updates out new (said.Asked q) (Some o) h e = absurd (cc)
replied_now will m b c updates out new (said.Refused q) (Some o) h e = absurd (cc)
replied_now will m b c updates out new (said.BadEnd q) (Some o) h e = absurd (cc)
replied_now will m b c updates out new said.LongLine (Some o) h e = (e, λ a old front ss q k. let f : o ≡ stop.TooLong = cc in rw f (holding_last will m a b c old out new updates front ss said.LongLine said.LongLine k h refl))
replied_now will m b c updates out new said.Left (Some o) h e = (e, λ a old front ss q k. let f : o ≡ stop.Quit = cc in rw f (holding_last will m a b c old out new updates front ss said.Left said.Left k h refl))

-- an update waits
begun_now : {W E : Type 0} (will : W → Result DeskReply E) (m : ℕ) (b c : Option (List Asked)) (updates updates' : List (PendingUpdate W)) (out new : List ℕ) (s : Said) (o : Option Stop) → HasBegun will b c updates updates' out new s → o ≡ stop_at s → RepliesPending {F = E} will (Ok o) m b c updates updates' out new s
begun_now will m b c updates updates' out new (said.Asked (request.Update key op noreply)) None w e = (e, λ a old front ss k. holding_begun will m a b c old out new updates updates' front ss key op noreply k w)
begun_now will m b c updates updates' out new (said.Asked (request.Update key op noreply)) (Some o) w e = absurd (cc)
begun_now will m b c updates updates' out new (said.Asked (request.Get keys tags)) o w e = absurd w
begun_now will m b c updates updates' out new (said.Asked request.Version) o w e = absurd w
begun_now will m b c updates updates' out new (said.Asked request.Quit) o w e = absurd w
begun_now will m b c updates updates' out new (said.Refused q) o w e = absurd w
begun_now will m b c updates updates' out new (said.BadEnd q) o w e = absurd w
begun_now will m b c updates updates' out new said.LongLine o w e = absurd w
begun_now will m b c updates updates' out new said.Left o w e = absurd w

pub replies_on : {W E : Type 0} (will : W → Result DeskReply E) (m : ℕ) (b c : Option (List Asked)) (updates updates' : List (PendingUpdate W)) (out new : List ℕ) (s : Said) (u : Unit {0}) (o : Option Stop) → AnswersPending {F = E} will (Ok u) m b c updates updates' out new s → o ≡ stop_at s
    → RepliesPending {F = E} will (Ok o) m b c updates updates' out new s
replies_on will m b c updates updates' out new s u o (inl h) e = rw h.0 (replied_now will m b c updates out new s o h.1 e)
replies_on will m b c updates updates' out new s u o (inr w) e = begun_now will m b c updates updates' out new s o w e

pub replies_stop : {W E : Type 0} (will : W → Result DeskReply E) (m : ℕ) (b c : Option (List Asked)) (updates updates' : List (PendingUpdate W)) (out : List ℕ) (s : Said) → (updates' ≡ updates) × Stopped m b c s
    → (a : Option (List Asked)) (old : List ℕ) (front : List ℕ → List (Option DeskReply) → Out) (ss : List ℕ → List Said)
    → Holding will a b old out updates front (λ more later. replies m (s ∷ ss more) later) → Parting will a c updates' front
replies_stop will m b c updates updates' out s h a old front ss k = rw h.0 (parting_stopped will m a b c old out updates front ss s k h.1)

-- ---- finishing, one after the other
told_none : {W E : Type 0} (will : W → Result DeskReply E) (a : Option (List Asked)) → AreTold will a a [] []
told_none will None = record { settle = tt; kept = tt; same = tt }
told_none will (Some x) = record { settle = tt; kept = asks_none (Some x); same = refl }

told_more : {W E : Type 0} (will : W → Result DeskReply E) (a b c : Option (List Asked)) (l : PendingUpdate W) (ls : List (PendingUpdate W)) (ts : List (Option DeskReply)) → (g : LetsOneGo will l a b) → AreTold will b c ls ts → AreTold will a c (l ∷ ls) (g.t ∷ ts)
told_more will a b c l ls ts g h = record { settle = (g.settled, h.settle); kept = asks_more a b c [] [] g.kept h.kept; same = at b c g.same h.kept h.same }
  where
    at : (b c : Option (List Asked)) → IfTells b (g.t ≡ told (will l.waits)) → AsksMore b c [] → IfTells c (ts ≡ wills will ls) → IfTells c (g.t ∷ ts ≡ told (will l.waits) ∷ wills will ls)
    at b None e k f = tt
    at None (Some z) e k f = absurd k
    at (Some y) (Some z) e k f = ap (λ x. x ∷ ts) e ∙ ap (λ x. told (will l.waits) ∷ x) f

-- what the rest are told, with those before, all are
pub record Going {W E : Type 0} (will : W → Result DeskReply E) (a b : Option (List Asked)) (updates rest : List (PendingUpdate W)) : Type 0 where
  pub whole : (after : Option (List Asked)) (ts : List (Option DeskReply)) → AreTold will b after rest ts → (all : List (Option DeskReply)) × AreTold will a after updates all

pub going_starts : {W E : Type 0} (will : W → Result DeskReply E) (a : Option (List Asked)) (updates : List (PendingUpdate W)) → Going will a a updates updates
going_starts will a updates = record { whole = λ after ts h. (ts, h) }

pub going_on : {W E : Type 0} (will : W → Result DeskReply E) (a b c : Option (List Asked)) (updates rest rest' : List (PendingUpdate W)) (l : PendingUpdate W) → Going will a b updates rest → rest ≡ l ∷ rest' → LetsOneGo will l b c → Going will a c updates rest'
going_on will a b c updates rest rest' l h e g = record { whole = λ after ts k. h.whole after (g.t ∷ ts) (rw e (told_more will b c after l rest' ts g k)) }

pub going_done : {W E : Type 0} (will : W → Result DeskReply E) (a b : Option (List Asked)) (updates rest left : List (PendingUpdate W)) → Going will a b updates rest → rest ≡ left → left ≡ [] → LetsGo will a b updates left
going_done will a b updates rest left h e n = let w = h.whole b [] (rw (e, n) (told_none will b)) in (n, w.0, w.1)

-- the same with their replies
pub record Finishing {W E : Type 0} (will : W → Result DeskReply E) (a b : Option (List Asked)) (updates rest : List (PendingUpdate W)) (old out : List ℕ) : Type 0 where
  pub whole : (after : Option (List Asked)) (ts : List (Option DeskReply)) → AreTold will b after rest ts → (all : List (Option DeskReply)) × AreTold will a after updates all × (out ++ pending_text rest ts ≡ old ++ pending_text updates all)

pub finishing_starts : {W E : Type 0} (will : W → Result DeskReply E) (a : Option (List Asked)) (updates : List (PendingUpdate W)) (old : List ℕ) → Finishing will a a updates updates old old
finishing_starts will a updates old = record { whole = λ after ts h. (ts, h, refl) }

text_more : (x a b y : List ℕ) → (x ++ (a ++ b)) ++ y ≡ x ++ (a ++ (b ++ y))
text_more x a b y = append_assoc x (a ++ b) y ∙ ap (λ z. x ++ z) (append_assoc a b y)

pub finishing_on : {W E : Type 0} (will : W → Result DeskReply E) (a b c : Option (List Asked)) (updates rest rest' : List (PendingUpdate W)) (l : PendingUpdate W) (old out new : List ℕ) → Finishing will a b updates rest old out → rest ≡ l ∷ rest' → (g : LetsOneGo will l b c)
    → new ≡ out ++ (l.front.items ++ update_text l.noreply g.t) → Finishing will a c updates rest' old new
finishing_on will a b c updates rest rest' l old out new h e g n = record {
  whole = λ after ts k.
      let w = h.whole after (g.t ∷ ts) (rw e (told_more will b c after l rest' ts g k)) in
      let put : out ++ pending_text (l ∷ rest') (g.t ∷ ts) ≡ old ++ pending_text updates w.0 = rw e at w.2 in
      (w.0, w.1, ap (λ x. x ++ pending_text rest' ts) n ∙ text_more out l.front.items (update_text l.noreply g.t) (pending_text rest' ts) ∙ put);
}

pub finishing_done : {W E : Type 0} (will : W → Result DeskReply E) (a b : Option (List Asked)) (updates rest left : List (PendingUpdate W)) (old out : List ℕ) (u : Unit {0}) → Finishing will a b updates rest old out → rest ≡ left → left ≡ []
    → FinishesUpdates {F = E} will (Ok u) a b updates left old out
finishing_done will a b updates rest left old out u h e n =
    let w = h.whole b [] (rw (e, n) (told_none will b)) in
    let put : out ++ [] ≡ old ++ pending_text updates w.0 = rw (e, n) at w.2 in
    (n, w.0, w.1, sym (append-nil out) ∙ put)

pub finishing_fails : {W E : Type 0} (will : W → Result DeskReply E) (a b c d : Option (List Asked)) (updates rest rest' updates' : List (PendingUpdate W)) (l : PendingUpdate W) (old out : List ℕ) → Finishing will a b updates rest old out → rest ≡ l ∷ rest' → LetsOneGo will l b c → LetsGo will c d rest' updates' → LetsGo will a d updates updates'
finishing_fails will a b c d updates rest rest' updates' l old out h e g k = let w = h.whole d (g.t ∷ k.1) (rw e (told_more will b c d l rest' k.1 g k.2)) in (k.0, w.0, w.1)

-- one of them
not_busy : {E : Type 0} (r : Result DeskReply E) → IsSettled r → is_busy (told r) ≡ false
not_busy (Ok (Told (answer.Busy w))) s = s
not_busy (Ok (Told a)) s = refl
not_busy (Ok (Unknown turns)) s = refl
not_busy (Ok (Spent asks)) s = refl
not_busy (Err e) s = refl

finishes_kept : {E : Type 0} (a b : Option (List Asked)) (will r : Result DeskReply E) → Finishes a b will r → AsksMore a b []
finishes_kept a None will r h = tt
finishes_kept None (Some y) will r h = absurd h
finishes_kept (Some x) (Some y) will r h = h.0 ∙ sym (append-nil x)

finishes_same : {E : Type 0} (a b : Option (List Asked)) (will r : Result DeskReply E) → Finishes a b will r → IfTells b (told r ≡ told will)
finishes_same a None will r h = tt
finishes_same None (Some y) will r h = absurd h
finishes_same (Some x) (Some y) will r h = ap told h.1

pub one_goes : {W E : Type 0} (will : W → Result DeskReply E) (l : PendingUpdate W) (a b : Option (List Asked)) (r : Result DeskReply E) → Finishes a b (will l.waits) r → IsSettled r → LetsOneGo will l a b
one_goes will l a b r h s = record { t = told r; settled = not_busy r s; kept = finishes_kept a b (will l.waits) r h; same = finishes_same a b (will l.waits) r h }

pub one_finishes : {W E F : Type 0} (will : W → Result DeskReply E) (l : PendingUpdate W) (a b : Option (List Asked)) (r : Result DeskReply E) (p : Result (Unit {0}) F) (old new : List ℕ) → Finishes a b (will l.waits) r → IsSettled r
    → OnOk p (new ≡ old ++ (l.front.items ++ update_text l.noreply (told r))) → FinishesOne will l p a b old new
unfolding one_goes
one_finishes will l a b r p old new h s put = record { goes = one_goes will l a b r h s; put = put }

-- ---- an update
pub answers_pending : {W E F : Type 0} (will : W → Result DeskReply E) (r : Result (Unit {0}) F) (m : ℕ) (a b : Option (List Asked)) (updates updates' : List (PendingUpdate W)) (out new : List ℕ) (s : Said) → updates' ≡ updates → Answers r m a b out new s → AnswersPending will r m a b updates updates' out new s
answers_pending will (Ok u) m a b updates updates' out new s same h = inl (same, h)
answers_pending will (Err e) m a b updates updates' out new s same h = (same, h)

pub told_at_once : {W E F G : Type 0} (will : W → Result DeskReply E) (r : Result (Unit {0}) F) (m : ℕ) (a b c : Option (List Asked)) (updates updates' : List (PendingUpdate W)) (out new key : List ℕ) (op : Op) (noreply : Bool) (first : Result DeskReply G) (last : Option DeskReply) → updates' ≡ updates
    → Asks a b key op first → HearsOn m b c key op (told first) last → OnOk r (new ≡ out ++ update_text noreply last) → AnswersPending will r m a c updates updates' out new (said.Asked (request.Update key op noreply))
told_at_once will r m a b c updates updates' out new key op noreply first last same h k p =
    answers_pending will r m a c updates updates' out new (said.Asked (request.Update key op noreply)) same
    (update_answers r m a c out new key op noreply last (hears_joined m a b c key op (told first) last (asks_one a b key op first h) k) p)

-- the replies to those that waited, before what was put behind them
pub finished_before : {W E F : Type 0} (will : W → Result DeskReply E) (r : Result (Unit {0}) F) (a b : Option (List Asked)) (updates updates' : List (PendingUpdate W)) (old behind none mid new : List ℕ) (e : updates' ≡ []) (ts : List (Option DeskReply)) → AreTold will a b updates ts
    → none ≡ [] → mid ≡ none ++ pending_text updates ts → behind ≡ old → OnOk r (new ≡ mid ++ behind) → FinishesAll will r a b updates updates' old new
finished_before will (Ok u) a b updates updates' old behind none mid new e ts t z m q n = (e, ts, t, n ∙ ap (λ x. x ++ behind) (m ∙ ap (λ x. x ++ pending_text updates ts) z) ∙ ap (λ x. pending_text updates ts ++ x) q)
finished_before will (Err x) a b updates updates' old behind none mid new e ts t z m q n = (e, ts, t, tt)

-- ---- turns of the reader
module _ {W E : Type 0} (will : W → Result DeskReply E) (m : ℕ) (a b : Option (List Asked)) (old out : List ℕ) (updates : List (PendingUpdate W)) (front : List ℕ → List (Option DeskReply) → Out) (p : Place) (h h' : Option StoreHead) (c c' : Cutting) where
  abbrev Before : Type 0
  Before = Holding will a b old out updates front (replies_from m (place_of h c))

  pub holding_need : Before → Turns turn.Need h c h' c' → IsReader c' h' → Holding will a b old out updates front (behind_stop stop.Need m (place_of h' c')) × Idles stop.Need p (place_of h' c')
  holding_need k t r = (holding_moves will a b old out updates front _ _ k (λ more later. ap (λ ss. replies m ss later) (t.next more)), (r, t.need refl))

  pub holding_head : Before → Turns turn.Head h c h' c' → Holding will a b old out updates front (replies_from m (place_of h' c'))
  holding_head k t = holding_moves will a b old out updates front _ _ k (λ more later. ap (λ ss. replies m ss later) (t.next more))

  pub parting_now : Before → Parting will a b updates front
  parting_now k = parting_ends will a b old out updates front (replies_from m (place_of h c)) k (λ more. none_asked m (ahead h c more))

  module _ (s : Said) (t : Turns (turn.Says s) h c h' c') where
    abbrev pub behind_it : List ℕ → List Said
    behind_it more = if is_last s then [] else ahead h' c' more

    pub said_next : Before → Holding will a b old out updates front (λ more later. replies m (s ∷ behind_it more) later)
    said_next k = holding_moves will a b old out updates front _ _ k (λ more later. ap (λ ss. replies m ss later) (t.next more))

    pub holding_said : (d : Option (List Asked)) (new : List ℕ) (updates' : List (PendingUpdate W)) → Before → RepliesPending {F = E} will (Ok None) m b d updates updates' out new s → is_last s ≡ false
        → Holding will a d old new updates' front (replies_from m (place_of h' c')) × (length c'.unread < length c.unread)
    holding_said d new updates' k r n = (
      holding_moves will a d old new updates' front _ _ (r.1 a old front behind_it (said_next k)) (λ more later. ap (λ (last : Bool). replies m (if last then [] else ahead h' c' more) later) n),
      t.less n,
    )

    pub holding_stops : (d : Option (List Asked)) (new : List ℕ) (updates' : List (PendingUpdate W)) (o : Stop) → Before → RepliesPending {F = E} will (Ok (Some o)) m b d updates updates' out new s
        → Holding will a d old new updates' front (behind_stop o m (place_of h' c')) × Idles o p (place_of h' c')
    holding_stops d new updates' o k r = (r.1 a old front behind_it (place_of h' c') (said_next k), at s o r.0)
      where
        at : (s : Said) (o : Stop) → Some o ≡ stop_at s → Idles o p (place_of h' c')
        at (said.Asked q) o e = absurd (cc)
        at (said.Refused q) o e = absurd (cc)
        at (said.BadEnd q) o e = absurd (cc)
        at said.LongLine o e = let f : o ≡ stop.TooLong = cc in rw f tt
        at said.Left o e = let f : o ≡ stop.Quit = cc in rw f tt

    pub parting_said : {F : Type 0} (d : Option (List Asked)) (new : List ℕ) (updates' : List (PendingUpdate W)) (e : F) → Before → RepliesPending will (Err e) m b d updates updates' out new s → Parting will a d updates' front
    parting_said d new updates' e k r = r a old front behind_it (said_next k)

pub no_stop : (s : Said) → None ≡ stop_at s → is_last s ≡ false
no_stop (said.Asked q) e = refl
no_stop (said.Refused q) e = refl
no_stop (said.BadEnd q) e = refl
no_stop said.LongLine e = absurd (cc)
no_stop said.Left e = absurd (cc)

pub waits_now : {W E : Type 0} (will : W → Result DeskReply E) (m : ℕ) (b c : Option (List Asked)) (updates mid updates' : List (PendingUpdate W)) (out new key : List ℕ) (op : Op) (noreply : Bool) (pending : PendingUpdate W) (u : Unit {0}) → mid ≡ updates → updates' ≡ mid ++ pending ∷ [] → pending.front.items ≡ out → new ≡ []
    → pending.noreply ≡ noreply → Asks b c key op (will pending.waits) → AnswersPending {F = E} will (Ok u) m b c updates updates' out new (said.Asked (request.Update key op noreply))
waits_now will m b c updates mid updates' out new key op noreply pending u same added front rest n begun = inr (record { pending = pending; added = added ∙ ap (λ x. x ++ pending ∷ []) same; front = front; rest = rest; noreply_is = n; begun = begun })

pub no_long_line : (t : ReaderStep) → t ≡ turn.Need → t ≢ turn.Says said.LongLine
no_long_line t is long = absurd (let e : turn.Need ≡ turn.Says said.LongLine = sym is ∙ long in cc)

pub no_long_head : (t : ReaderStep) → t ≡ turn.Head → t ≢ turn.Says said.LongLine
no_long_head t is long = absurd (let e : turn.Head ≡ turn.Says said.LongLine = sym is ∙ long in cc)

pub of_key : {W E F : Type 0} (will : W → Result DeskReply E) (r : Result (Unit {0}) F) (m : ℕ) (a b : Option (List Asked)) (updates updates' : List (PendingUpdate W)) (out new kept key : List ℕ) (op : Op) (noreply : Bool) → kept ≡ key
    → AnswersPending will r m a b updates updates' out new (said.Asked (request.Update kept op noreply)) → AnswersPending will r m a b updates updates' out new (said.Asked (request.Update key op noreply))
of_key will r m a b updates updates' out new kept key op noreply e h = subst (λ (k : List ℕ). AnswersPending will r m a b updates updates' out new (said.Asked (request.Update k op noreply))) e h

-- an update that waits is told
stays_waiting : {W : Type 0} (updates updates' : List (PendingUpdate W)) → updates' ≡ updates → updates' ≡ [] → updates ≡ []
stays_waiting updates updates' e n = sym e ∙ n

waits_on : {W : Type 0} (updates updates' : List (PendingUpdate W)) (l : PendingUpdate W) → updates' ≡ updates ++ l ∷ [] → updates' ≡ [] → updates ≡ []
waits_on [] updates' l e n = refl
waits_on (u ∷ us) updates' l e n = absurd (let z : u ∷ (us ++ l ∷ []) ≡ [] = sym e ∙ n in cc)

begun_waits : {W E : Type 0} (will : W → Result DeskReply E) (b c : Option (List Asked)) (updates updates' : List (PendingUpdate W)) (out new : List ℕ) (s : Said) → HasBegun will b c updates updates' out new s → updates' ≡ [] → updates ≡ []
begun_waits will b c updates updates' out new (said.Asked (request.Update key op noreply)) w n = waits_on updates updates' w.pending w.added n
begun_waits will b c updates updates' out new (said.Asked (request.Get keys tags)) w n = absurd w
begun_waits will b c updates updates' out new (said.Asked request.Version) w n = absurd w
begun_waits will b c updates updates' out new (said.Asked request.Quit) w n = absurd w
begun_waits will b c updates updates' out new (said.Refused q) w n = absurd w
begun_waits will b c updates updates' out new (said.BadEnd q) w n = absurd w
begun_waits will b c updates updates' out new said.LongLine w n = absurd w
begun_waits will b c updates updates' out new said.Left w n = absurd w

pub answered_waits : {W E F : Type 0} (will : W → Result DeskReply E) (r : Result (Unit {0}) F) (m : ℕ) (b c : Option (List Asked)) (updates updates' : List (PendingUpdate W)) (out new : List ℕ) (s : Said) → AnswersPending will r m b c updates updates' out new s → updates' ≡ [] → updates ≡ []
answered_waits will (Ok u) m b c updates updates' out new s (inl h) n = stays_waiting updates updates' h.0 n
answered_waits will (Ok u) m b c updates updates' out new s (inr w) n = begun_waits will b c updates updates' out new s w n
answered_waits will (Err e) m b c updates updates' out new s h n = stays_waiting updates updates' h.0 n

grown_heard : (P Q R : Type 0) (a b c : Option (List Asked)) (made : List Asked) → (IfTells b R → AsksMore a b made) → AsksMore b c [] → IfTells c P → (P → Q → R) → IfTells c Q → AsksMore a c made
grown_heard P Q R a b None made h k p f q = tt
grown_heard P Q R a None (Some z) made h k p f q = absurd k
grown_heard P Q R a (Some y) (Some z) made h k p f q = rw (append-nil made) at (asks_more a (Some y) (Some z) made [] (h (f p q)) k)

heard_text : (old fr u rest out : List ℕ) → (old ++ (fr ++ u)) ++ (rest ++ out) ≡ old ++ ((fr ++ (u ++ rest)) ++ out)
heard_text old fr u rest out = append_assoc old (fr ++ u) (rest ++ out) ∙ ap (λ x. old ++ x) (append_assoc fr u (rest ++ out) ∙ ap (λ x. fr ++ x) (sym (append_assoc u rest out)) ∙ sym (append_assoc fr (u ++ rest) out))

pub holding_heard : {W E : Type 0} (will : W → Result DeskReply E) (a b c : Option (List Asked)) (old out : List ℕ) (l : PendingUpdate W) (ls : List (PendingUpdate W)) (front after : List ℕ → List (Option DeskReply) → Out) → Holding will a b old out (l ∷ ls) front after → (g : LetsOneGo will l b c)
    → Holding will a c (old ++ (l.front.items ++ update_text l.noreply g.t)) out ls front after
holding_heard will a b c old out l ls front after h g ts s = let k = h (g.t ∷ ts) (g.settled, s) in record {
  text = k.text;
  made = k.made;
  put = heard_text old l.front.items (update_text l.noreply g.t) (pending_text ls ts) out ∙ k.put;
  grown = grown_heard (g.t ≡ told (will l.waits)) (ts ≡ wills will ls) (g.t ∷ ts ≡ told (will l.waits) ∷ wills will ls) a b c k.made k.grown g.kept g.same (λ p q. ap (λ x. x ∷ ts) p ∙ ap (λ x. told (will l.waits) ∷ x) q);
  goes = k.goes;
}

pub parting_heard : {W E : Type 0} (will : W → Result DeskReply E) (a b c : Option (List Asked)) (l : PendingUpdate W) (ls : List (PendingUpdate W)) (front : List ℕ → List (Option DeskReply) → Out) → Parting will a b (l ∷ ls) front → LetsOneGo will l b c → Parting will a c ls front
parting_heard will a b c l ls front h g ts s = let k = h (g.t ∷ ts) (g.settled, s) in record {
  made = k.made;
  grown = grown_heard (g.t ≡ told (will l.waits)) (ts ≡ wills will ls) (g.t ∷ ts ≡ told (will l.waits) ∷ wills will ls) a b c k.made k.grown g.kept g.same (λ p q. ap (λ x. x ∷ ts) p ∙ ap (λ x. told (will l.waits) ∷ x) q);
  called = k.called;
}

-- with none that waits the replies may be parted anywhere
pub holding_joined : {W E : Type 0} (will : W → Result DeskReply E) (a b : Option (List Asked)) (old told out told' out' : List ℕ) (front after : List ℕ → List (Option DeskReply) → Out) → told' ++ out' ≡ told ++ out → Holding will a b (old ++ told) out [] front after → Holding will a b (old ++ told') out' [] front after
holding_joined will a b old told out told' out' front after e h [] s = let k = h [] s in record {
  text = k.text;
  made = k.made;
  put = append_assoc old told' out' ∙ ap (λ x. old ++ x) e ∙ sym (append_assoc old told out) ∙ k.put;
  grown = k.grown;
  goes = k.goes;
}
holding_joined will a b old told out told' out' front after e h (t ∷ ts) s = absurd s

-- what was said and is answered whole
pub if_tells : (d : Option (List Asked)) (P : Type 0) → P → IfTells d P
if_tells None P p = tt
if_tells (Some x) P p = p

pub holding_done : {W E : Type 0} (will : W → Result DeskReply E) (m : ℕ) (b d : Option (List Asked)) (out : List ℕ) (updates : List (PendingUpdate W)) (p : Place) (after : List ℕ → List (Option DeskReply) → Out) → updates ≡ [] → Holding will b d [] out updates (replies_from m p) after → Replying m b d [] out p after
holding_done will m b d out updates p after e h =
    let now : Holding will b d [] out [] (replies_from m p) after = rw e at h in
    let k = now [] tt in
    record { text = k.text; made = k.made; grown = k.grown (if_tells d ([] ≡ wills will []) refl); put = k.put; goes = k.goes }
