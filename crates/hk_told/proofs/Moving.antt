-- Each step of the table moves its row as the law says. No row need be sound for it.
use Rattle.std.proofs.Common.{List, unwrap_or, ◌≡◌, ◌⊎◌, inl, inr, Bool, true, false, true≢false, [], Option, Some, None, if◌then◌else◌, ◌==◌, refl, sym, ap, ◌∙◌, subst, arith}
use Rattle.std.specs.Option.{IsSomeAnd}
use Rattle.std.proofs.lemmas.Option.{none-some}
use Rattle.std.specs.Ordering.{nat_cmp}
use Rattle.std.specs.declared.cmp.Ordering.{Ordering}
use Rattle.std.specs.declared.cmp.Ordering.TheVariants.{Less, Equal, Greater}
use Rattle.hk_base.specs.declared.stamp.Stamp.{Stamp}
use Rattle.hk_base.specs.declared.stamp.NodeId.{NodeId}
use Rattle.hk_base.specs.declared.stamp.Kind.{Kind}
use Rattle.hk_base.specs.declared.call.Content.{Content}
use Rattle.hk_base.specs.declared.call.Answer.TheVariants.{Aborted}
use Rattle.hk_base.specs.declared.stamp.Kind.TheVariants as Kind
use Rattle.hk_base.specs.declared.call.State.{State}
use Rattle.hk_base.specs.declared.call.State.TheVariants.{Valid, Invalid, Write, Replay, Trans}
use Rattle.hk_base.specs.declared.call.Reply.{Reply}
use Rattle.hk_base.specs.Stamp.{tag_of}
use Rattle.hk_key.specs.declared.row.Pending.{Pending}
use Rattle.hk_key.specs.declared.row.Row.{Row}
use Rattle.hk_key.specs.declared.out.Sending.{Sending}
use Rattle.hk_key.specs.Notes.{all_noted, all_exact, note_in}
use Rattle.hk_key.specs.Table.{Done, begin, replay, on_inv, on_ack, on_val, on_view, resend, displaced, displaced_write, given_up, given_up_write, aborted, completed_at, started_at, noted_at, with_acks, unnoted, still, replay_at, on_inv_at, on_ack_at, on_ack_pending, on_val_at, validated, on_view_at, resend_at}
use Rattle.hk_told.specs.Moves.{WaitsFor, Ends, Goes, HasReply, Moves}

pub some_same : {A : Type 0} (a b : A) → Some a ≡ Some b → a ≡ b
some_same {A} a b e = ap (λ (o : Option A). unwrap_or o a) e

abbrev MovesTo : Row → Done → Type 0
MovesTo row done = Moves row done.row done.out.reply

-- the row kept a reply of the call that is told
abbrev HadCall : Row → Reply → Type 0
HadCall row told = (kept : Reply) × HasReply kept row × (kept.call ≡ told.call)

-- an update that begins with no others is complete at once, Valid at its stamp
pub record CompletesAtOnce (stamp : Stamp) (kept : Reply) (row : Row) (told : Option Reply) : Type 0 where
  pub tells : told ≡ Some kept
  pub gone : row.pending ≡ None
  pub state : row.state ≡ Valid
  pub own : row.stamp ≡ stamp

pub record BeginsAt (stamp : Stamp) (kind : Kind) (content : Option Content) (kept : Reply) (done : Done) : Type 0 where
  pub content_of : done.row.content ≡ content
  pub kind_of : done.row.kind ≡ kind
  pub goes : (WaitsFor stamp kind kept done.row × (done.row.state ≡ Write) × (done.out.reply ≡ None)) ⊎ CompletesAtOnce stamp kept done.row done.out.reply

-- nothing is told, and the update with its reply, the state and the stamp stay
pub unmoved : (old new : Row) → new ≡ old → Moves old new None
unmoved old new e = record {
  goes = λ s k kept w. inl (subst (WaitsFor s k kept) (sym e) w, refl);
  waited = λ kept h. subst (HasReply kept) e h;
  answers = λ r t. absurd (none-some r t);
}

-- the update p of this row is complete
completes : (own exact : Bool) (row : Row) (p q : Pending) → row.pending ≡ Some p → q.stamp ≡ p.stamp → q.kind ≡ p.kind → q.reply ≡ p.reply → MovesTo row (completed_at own exact row q)
completes own exact row p q e es ek er = record { goes = goes; waited = waited own exact; answers = answers own exact }
  where
    now : (s : Stamp) (k : Kind) (kept : Reply) → WaitsFor s k kept row → (p.stamp ≡ s) × (p.kind ≡ k) × (p.reply ≡ Some kept)
    now s k kept w = subst (λ (o : Option Pending). IsSomeAnd o (λ p. (p.stamp ≡ s) × (p.kind ≡ k) × (p.reply ≡ Some kept))) e w.update

    stays : (s : Stamp) (k : Kind) (kept : Reply) → WaitsFor s k kept row → k ≡ Kind.Rmw → row.stamp ≡ s
    stays s k kept w rmw = by w.state
      where
        by : ((row.state ≡ Write) × (row.stamp ≡ s)) ⊎ ((row.state ≡ Trans) × (k ≡ Kind.Write)) → row.stamp ≡ s
        by (inl h) = h.1
        by (inr h) = grind (arith, h.1, rmw)

    by_val : (b : Bool) → ((if b then Valid else Invalid) ≡ Valid) ⊎ ((if b then Valid else Invalid) ≡ Invalid)
    by_val true = inl refl
    by_val false = inr refl

    by_tests : (own exact : Bool) (s : Stamp) (k : Kind) (kept : Reply) → WaitsFor s k kept row → Ends s k kept (completed_at own exact row q).row (completed_at own exact row q).out.reply
    by_tests true true s k kept w = record { tells = er ∙ (now s k kept w).2; gone = refl; state = inl refl; own = stays s k kept w }
    by_tests true false s k kept w = record { tells = er ∙ (now s k kept w).2; gone = refl; state = inr refl; own = stays s k kept w }
    by_tests false exact s k kept w = record { tells = er ∙ (now s k kept w).2; gone = refl; state = by_val row.kept_val; own = stays s k kept w }

    goes : (s : Stamp) (k : Kind) (kept : Reply) → WaitsFor s k kept row → Goes s k kept (completed_at own exact row q).row (completed_at own exact row q).out.reply
    goes s k kept w = inr (inl (by_tests own exact s k kept w))

    waited : (own exact : Bool) (kept : Reply) → HasReply kept (completed_at own exact row q).row → HasReply kept row
    waited true true kept h = absurd h
    waited true false kept h = absurd h
    waited false exact kept h = absurd h

    told : (r : Reply) → q.reply ≡ Some r → HadCall row r
    told r t = (r, subst (λ (o : Option Pending). IsSomeAnd o (λ p. p.reply ≡ Some r)) (sym e) (sym er ∙ t), refl)

    answers : (own exact : Bool) (r : Reply) → (completed_at own exact row q).out.reply ≡ Some r → HadCall row r
    answers true true r t = told r t
    answers true false r t = told r t
    answers false exact r t = told r t

-- the update is kept, with other notes
renoted : (row : Row) (p q : Pending) (send : Option Sending) → row.pending ≡ Some p → q.stamp ≡ p.stamp → q.kind ≡ p.kind → q.reply ≡ p.reply →
    Moves row (record row { pending = Some q }) None
renoted row p q send e es ek er = record {
  goes = λ s k kept w. let n = now s k kept w in inl (record { update = (es ∙ n.0, ek ∙ n.1, er ∙ n.2); state = w.state }, refl);
  waited = λ kept h. subst (λ (o : Option Pending). IsSomeAnd o (λ p. p.reply ≡ Some kept)) (sym e) (sym er ∙ h);
  answers = λ r t. absurd (none-some r t);
}
  where
    now : (s : Stamp) (k : Kind) (kept : Reply) → WaitsFor s k kept row → (p.stamp ≡ s) × (p.kind ≡ k) × (p.reply ≡ Some kept)
    now s k kept w = subst (λ (o : Option Pending). IsSomeAnd o (λ p. (p.stamp ≡ s) × (p.kind ≡ k) × (p.reply ≡ Some kept))) e w.update

starts : (alone : Bool) (row : Row) (p q : Pending) → row.pending ≡ Some p → q.stamp ≡ p.stamp → q.kind ≡ p.kind → q.reply ≡ p.reply → MovesTo row (started_at alone row q)
starts true row p q e es ek er = completes (tag_of row.stamp == tag_of q.stamp) (all_exact q.acks) row p q e es ek er
starts false row p q e es ek er = renoted row p q None e es ek er

pub begin_starts : (me : NodeId) (members : List NodeId) (reply : Reply) (s : Stamp) (kind : Kind) (content : Option Content) → BeginsAt s kind content reply (begin me members reply s kind content)
begin_starts me members reply s kind content = by (all_noted me members [])
  where
    row : Row
    row = record { state = Write; stamp = s; kind = kind; content = content; kept_val = false; pending = None }

    update : Pending
    update = unnoted (Some reply) s kind content

    ended : (own : Bool) → own ≡ true → BeginsAt s kind content reply (completed_at own true row update)
    ended true e = record { content_of = refl; kind_of = refl; goes = inr (record { tells = refl; gone = refl; state = refl; own = refl }) }
    ended false e = absurd (true≢false (sym e))

    by : (alone : Bool) → BeginsAt s kind content reply (started_at alone row update)
    by true = ended (tag_of s == tag_of s) (grind arith)
    by false = record { content_of = refl; kind_of = refl; goes = inl (record { update = (refl, refl, refl); state = inl (refl, refl) }, refl, refl) }

-- a row with no call's update
pub silent : (row new : Row) → ((s : Stamp) (k : Kind) (kept : Reply) → WaitsFor s k kept row → ⊥) → ((kept : Reply) → HasReply kept new → ⊥) → Moves row new None
silent row new none after = record { goes = λ s k kept w. absurd (none s k kept w); waited = λ kept h. absurd (after kept h); answers = λ r t. absurd (none-some r t) }

-- in another state than Write and Trans no call waits
pub waits_not : (row : Row) (state : State) → row.state ≡ state → (state ≡ Write → ⊥) → (state ≡ Trans → ⊥) → (s : Stamp) (k : Kind) (kept : Reply) → WaitsFor s k kept row → ⊥
waits_not row state e a b s k kept w = by w.state
  where
    by : ((row.state ≡ Write) × (row.stamp ≡ s)) ⊎ ((row.state ≡ Trans) × (k ≡ Kind.Write)) → ⊥
    by (inl h) = a (sym e ∙ h.0)
    by (inr h) = b (sym e ∙ h.0)

pub replay_moves : (me : NodeId) (members : List NodeId) (row : Row) → MovesTo row (replay me members row)
replay_moves me members row = at row.state refl
  where
    in_replay : Row
    in_replay = record row { state = Replay }

    q : Pending
    q = unnoted None row.stamp row.kind row.content

    nothing : (own exact : Bool) → ((s : Stamp) (k : Kind) (kept : Reply) → WaitsFor s k kept row → ⊥) → MovesTo row (completed_at own exact in_replay q)
    nothing true true none = silent row _ none (λ kept h. h)
    nothing true false none = silent row _ none (λ kept h. h)
    nothing false exact none = silent row _ none (λ kept h. h)

    out : (alone : Bool) → ((s : Stamp) (k : Kind) (kept : Reply) → WaitsFor s k kept row → ⊥) → MovesTo row (started_at alone in_replay q)
    out true none = nothing (tag_of row.stamp == tag_of row.stamp) true none
    out false none = silent row _ none (λ kept h. none-some kept h)

    at : (state : State) → row.state ≡ state → MovesTo row (replay_at state me members row)
    at Invalid e = out (all_noted me members []) (waits_not row Invalid e (λ h. grind (arith, h)) (λ h. grind (arith, h)))
    at Valid e = unmoved row row refl
    at Write e = unmoved row row refl
    at Replay e = unmoved row row refl
    at Trans e = unmoved row row refl

pub ack_moves : (me : NodeId) (members : List NodeId) (row : Row) (from : NodeId) (s top : Stamp) → MovesTo row (on_ack me members row from s top)
ack_moves me members row from s top = by_pending row.pending refl
  where
    noted : (last : Bool) (p q : Pending) → row.pending ≡ Some p → q.stamp ≡ p.stamp → q.kind ≡ p.kind → q.reply ≡ p.reply → MovesTo row (noted_at last row q)
    noted true p q e es ek er = completes (tag_of row.stamp == tag_of q.stamp) (all_exact q.acks) row p q e es ek er
    noted false p q e es ek er = renoted row p q None e es ek er

    by_test : (p : Pending) (mine exact : Bool) → row.pending ≡ Some p → MovesTo row (on_ack_at mine exact me members row p from)
    by_test p false exact e = unmoved row row refl
    by_test p true exact e = noted (all_noted me members (note_in from exact p.acks)) p (with_acks p (note_in from exact p.acks)) e refl refl refl

    by_pending : (o : Option Pending) → row.pending ≡ o → MovesTo row (on_ack_pending o me members row from s top)
    by_pending None e = unmoved row row refl
    by_pending (Some p) e = by_test p (tag_of s == tag_of p.stamp) (tag_of top == tag_of s) e

pub view_moves : (me : NodeId) (members : List NodeId) (row : Row) → MovesTo row (on_view me members row)
view_moves me members row = by_pending row.pending refl
  where
    by_pending : (o : Option Pending) → row.pending ≡ o → MovesTo row (on_view_at o me members row)
    by_pending None e = unmoved row row refl
    by_pending (Some p) e = starts (all_noted me members []) row p (with_acks p []) e refl refl refl

pub resend_moves : (row : Row) → MovesTo row (resend row)
resend_moves row = by_pending row.pending
  where
    by_pending : (o : Option Pending) → MovesTo row (resend_at o row)
    by_pending None = unmoved row row refl
    by_pending (Some p) = unmoved row row refl

pub val_moves : (row : Row) (s : Stamp) → MovesTo row (still (on_val row s))
val_moves row s = by_test (tag_of row.stamp == tag_of s)
  where
    by_state : (state : State) → row.state ≡ state → MovesTo row (still (validated state row))
    by_state Invalid e = record {
      goes = λ s k kept w. absurd (waits_not row Invalid e (λ h. grind (arith, h)) (λ h. grind (arith, h)) s k kept w);
      waited = λ kept h. h;
      answers = λ r t. absurd (none-some r t);
    }
    by_state Trans e = record {
      goes = λ s k kept w. inl (record { update = w.update; state = w.state }, refl);
      waited = λ kept h. h;
      answers = λ r t. absurd (none-some r t);
    }
    by_state Valid e = unmoved row row refl
    by_state Write e = unmoved row row refl
    by_state Replay e = unmoved row row refl

    by_test : (b : Bool) → MovesTo row (still (on_val_at b row))
    by_test true = by_state row.state refl
    by_test false = unmoved row row refl

pub inv_moves : (row : Row) (from : NodeId) (s : Stamp) (kind : Kind) (content : Option Content) → MovesTo row (on_inv row from s kind content)
inv_moves row from s kind content = by_order (nat_cmp (tag_of row.stamp) (tag_of s))
  where
    -- the row with the letter's stamp
    taken : State → Option Pending → Row
    taken state o = record { state = (displaced state o).0; stamp = s; kind = kind; content = content; kept_val = false; pending = (displaced state o).1 }

    invalid : (state : State) → row.state ≡ state → (state ≡ Write → ⊥) → (state ≡ Trans → ⊥) → Moves row (record { state = Invalid; stamp = s; kind = kind; content = content; kept_val = false; pending = None }) None
    invalid state e a b = silent row _ (waits_not row state e a b) (λ kept h. h)

    by_kind : (k : Kind) (p : Pending) → p.kind ≡ k → row.pending ≡ Some p → row.state ≡ Write →
        Moves row (record { state = (displaced_write k p).0; stamp = s; kind = kind; content = content; kept_val = false; pending = (displaced_write k p).1 }) (given_up_write k p.reply s)
    by_kind Kind.Write p ek e es = record {
      goes = λ t k kept w. let n = subst (λ (o : Option Pending). IsSomeAnd o (λ p. (p.stamp ≡ t) × (p.kind ≡ k) × (p.reply ≡ Some kept))) e w.update in inl (record { update = n; state = inr (refl, sym n.1 ∙ ek) }, refl);
      waited = λ kept h. subst (λ (o : Option Pending). IsSomeAnd o (λ p. p.reply ≡ Some kept)) (sym e) h;
      answers = λ r t. absurd (none-some r t);
    }
    by_kind Kind.Rmw p ek e es = record {
      goes = λ t k kept w. let n = subst (λ (o : Option Pending). IsSomeAnd o (λ p. (p.stamp ≡ t) × (p.kind ≡ k) × (p.reply ≡ Some kept))) e w.update in
          inr (inr (record { tells = ap (λ (o : Option Reply). aborted o s) n.2; gone = refl; state = refl; rmw = sym n.1 ∙ ek }));
      waited = λ kept h. absurd h;
      answers = λ r t. had p.reply refl r t;
    }
      where
        had : (o : Option Reply) → p.reply ≡ o → (r : Reply) → aborted o s ≡ Some r → HadCall row r
        had None w r t = absurd (none-some r t)
        had (Some kept) w r t =
            (kept, subst (λ (o : Option Pending). IsSomeAnd o (λ p. p.reply ≡ Some kept)) (sym e) w, ap (λ (reply : Reply). reply.call) (some_same (record kept { answer = Aborted s }) r t))

    above : (state : State) (o : Option Pending) → row.state ≡ state → row.pending ≡ o → Moves row (taken state o) (given_up state o s)
    above Valid o es e = invalid Valid es (λ h. grind (arith, h)) (λ h. grind (arith, h))
    above Invalid o es e = invalid Invalid es (λ h. grind (arith, h)) (λ h. grind (arith, h))
    above Replay o es e = invalid Replay es (λ h. grind (arith, h)) (λ h. grind (arith, h))
    above Trans o es e = record {
      goes = λ t k kept w. inl (record { update = subst (λ (o : Option Pending). IsSomeAnd o (λ p. (p.stamp ≡ t) × (p.kind ≡ k) × (p.reply ≡ Some kept))) e w.update; state = plain t k w.state }, refl);
      waited = λ kept h. subst (λ (o : Option Pending). IsSomeAnd o (λ p. p.reply ≡ Some kept)) (sym e) h;
      answers = λ r t. absurd (none-some r t);
    }
      where
        plain : (t : Stamp) (k : Kind) → ((row.state ≡ Write) × (row.stamp ≡ t)) ⊎ ((row.state ≡ Trans) × (k ≡ Kind.Write)) → ((Trans ≡ Write) × (s ≡ t)) ⊎ ((Trans ≡ Trans) × (k ≡ Kind.Write))
        plain t k (inl h) = absurd (wrong (sym es ∙ h.0))
          where
            wrong : Trans ≡ Write → ⊥
            wrong h = grind (arith, h)
        plain t k (inr h) = inr (refl, h.1)
    above Write None es e = silent row _ (λ t k kept w. subst (λ (o : Option Pending). IsSomeAnd o (λ p. (p.stamp ≡ t) × (p.kind ≡ k) × (p.reply ≡ Some kept))) e w.update) (λ kept h. h)
    above Write (Some p) es e = by_kind p.kind p refl e es

    by_order : (o : Ordering) → MovesTo row (on_inv_at o row from s kind content)
    by_order Less = above row.state row.pending refl refl
    by_order Equal = unmoved row row refl
    by_order Greater = at kind
      where
        at : (k : Kind) → MovesTo row (on_inv_at Greater row from s k content)
        at Kind.Write = unmoved row row refl
        at Kind.Rmw = unmoved row row refl
