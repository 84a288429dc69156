-- What is marked was so at a moment of the run, and whatever was so is marked.
use Rattle.std.proofs.Common.{◌≡◌, ◌⊎◌, ℕ, Bool, true, false, cond, List, [], ◌∷◌, ◌++◌, ◌∙◌, sym, refl, ap, subst, inl, inr, ⊎_elim, append-nil, Option, Some, None, Ok}
use Rattle.std.proofs.lemmas.Bool.{false≢true}
use Rattle.hk_base.specs.declared.stamp.NodeId.{NodeId}
use Rattle.hk_base.specs.declared.letter.Body.{Body}
use Rattle.hk_base.specs.declared.letter.Body.TheVariants as Body
use Rattle.hk_base.specs.declared.letter.Letter.{Letter}
use Rattle.hk_base.specs.Stamp.{tag_of}
use Rattle.hk_register.specs.Machine.{In, Mark, Node, Message}
use Rattle.hk_register.specs.Machine.Message.{Inv, Ack, Val, Give}
use Rattle.hk_register.proofs.Grow.{in_right, in_either}
use Rattle.hk_event.specs.declared.event.Event.{Event}
use Rattle.hk_event.specs.declared.event.Header.{Header}
use Rattle.hk_world.specs.Steps.{acting_of, Accepted, world_step}
use Rattle.hk_world.specs.Sound.{IsHeader, IsEvent}
use Rattle.hk_world.specs.World.{WorldState, node_of}
use Rattle.hk_effects.specs.Projection.{Trace, project, traced, traced_by, key_node, node_at, number_of, letter_of, letters_of, step_marks, item_at, covers, is_same_key}
use Rattle.hk_effects.specs.Runs.{start_trace, Follows, IsKept, RunsKeepParts}
use Rattle.hk_effects.proofs.Accepting.{alive}
use Rattle.hk_effects.proofs.Processes.{numbered_node, node-put_same}
use Rattle.hk_effects.proofs.Rests.{letters_append, node_holds}
use Rattle.hk_node.specs.Node.{NodeState}
use Rattle.hk_effects.proofs.TwoEffects.{append_three}
use Rattle.hk_effects.proofs.Worlds.{the_some}
use Rattle.hk_parts.specs.Meaning.{RowWas, CoverWas}
use Rattle.hk_parts.specs.Moments.{Run, Moment}
use Rattle.hk_parts.proofs.Moments.{follows_then, world_is}
use Rattle.hk_parts.proofs.Cases.{Stepping, Beside, event_case}
use Rattle.hk_parts.proofs.Given.{wire_of}
use Rattle.hk_parts.proofs.LettersTell.{Says}
use Rattle.hk_parts.proofs.Sending.{event_later}
use Rattle.hk_parts.proofs.Sources.{Source, source_of}
use Rattle.hk_parts.proofs.Steps.{step_said, of_replicas}

-- ---- an ACK tells its sender and epoch
module _ (key : List ℕ) (l : Letter) (m f s top : ℕ) where
  abbrev FromIt : Type 0
  FromIt = (m ≡ number_of l.from) × (f ≡ l.epoch)

  ack_is : (n e c d : ℕ) → Ack m f s top ≡ Ack n e c d → (m ≡ n) × (f ≡ e)
  ack_is n e c d is =
      let one : m ≡ n = cc in
      let two : f ≡ e = cc in
      (one, two)

  no_other : (b : Bool) (x : Message) → (Ack m f s top ≡ x → ⊥) → In (cond b (x ∷ []) []) (Ack m f s top) → FromIt
  no_other true x no_ack (inl e) = absurd (no_ack e)
  no_other true x no_ack (inr none) = absurd none
  no_other false x no_ack none = absurd none

  the_ack : (b : Bool) (c d : ℕ) → In (cond b (Ack (number_of l.from) l.epoch c d ∷ []) []) (Ack m f s top) → FromIt
  the_ack true c d (inl is) = ack_is (number_of l.from) l.epoch c d is
  the_ack true c d (inr none) = absurd none
  the_ack false c d none = absurd none

  ack_from : (b : Body) → In (letter_of key l b) (Ack m f s top) → FromIt
  ack_from (Body.Inv k c kd ct) h = no_other (is_same_key key k) (Inv (number_of l.from) l.epoch (tag_of c) kd ct) (λ e. cc) h
  ack_from (Body.Ack k c d) h = the_ack (is_same_key key k) (tag_of c) (tag_of d) h
  ack_from (Body.Val k c) h = no_other (is_same_key key k) (Val (number_of l.from) l.epoch (tag_of c)) (λ e. cc) h
  ack_from (Body.CopyGive after done items) h = no_other (covers key after done items)
      (Give (number_of l.from) l.epoch (tag_of (item_at key items).stamp) (item_at key items).kind (item_at key items).content (item_at key items).valid) (λ e. cc) h
  ack_from (Body.CopyAsk after room) h = absurd h
  ack_from (Body.LeaseAsk asked) h = absurd h
  ack_from (Body.LeaseGive end) h = absurd h
  ack_from (Body.Prepare ballot) h = absurd h
  ack_from (Body.Promise ballot vote) h = absurd h
  ack_from (Body.Accept ballot v) h = absurd h
  ack_from (Body.Accepted ballot) h = absurd h
  ack_from (Body.Chosen v) h = absurd h
  ack_from (Body.Activate v) h = absurd h

-- ---- what was so in a run was so in a longer one
module _ (key : List ℕ) (h : Header) (past : List Event) (event : Event) where
  abbrev Short : Run
  Short = record { header = h; events = past }

  abbrev Long : Run
  Long = record { header = h; events = past ++ event ∷ [] }

  moment_later : (p : Trace) → Moment key Short p → Moment key Long p
  moment_later p m = record { past = m.past; later = m.later ++ event ∷ []; split = ap (λ (xs : List Event). xs ++ event ∷ []) m.split ∙ append_three m.past m.later (event ∷ []); follows = m.follows }

  row_later : (n e s : ℕ) → RowWas key Short n e s → RowWas key Long n e s
  row_later n e s o = record { when = o.when; moment = moment_later o.when o.moment; some = o.some; epoch = o.epoch; stamp = o.stamp }

  cover_later : (n e s : ℕ) → CoverWas key Short n e s → CoverWas key Long n e s
  cover_later n e s (inl o) = inl (row_later n e s o)
  cover_later n e s (inr (inl o)) = inr (inl (record { when = o.when; moment = moment_later o.when o.moment; epoch = o.epoch; pending = o.pending; has = o.has; stamp = o.stamp }))
  cover_later n e s (inr (inr (inl o))) = inr (inr (inl (record { at = event_later key h past event o.at; acts = o.acts; pending = o.pending; has = o.has; stamp = o.stamp; before = o.before; epoch = o.epoch })))
  cover_later n e s (inr (inr (inr o))) = inr (inr (inr (record { when = o.when; moment = moment_later o.when o.moment; top = o.top; sent = o.sent })))

-- what a mark says was so
abbrev pub MarkWas : List ℕ → Run → Mark → Type 0
MarkWas key run k = (k.exact ≡ true → RowWas key run k.who k.epoch k.stamp) × CoverWas key run k.who k.epoch k.stamp

module _ (runs : RunsKeepParts) (key : List ℕ) (h : Header) (header : IsHeader h) where
  module _ (past : List Event) (t : Trace) (event : Event) (a : Accepted) (f : Follows key (start_trace h) past t) (e : world_step t.world event ≡ Ok a) (event_ok : IsEvent event) where
    abbrev Longer : Run
    Longer = record { header = h; events = past ++ event ∷ [] }

    now_follows : Follows key (start_trace h) (past ++ event ∷ []) (traced key t event a)
    now_follows = follows_then key past (event ∷ []) (start_trace h) t (traced key t event a) f (a, e, event_ok, refl)

    moment : Moment key Longer (traced key t event a)
    moment = record { past = past ++ event ∷ []; later = []; split = sym (append-nil (past ++ event ∷ [])); follows = now_follows }

    now_is : (n : ℕ) → (project key (traced key t event a)).node n ≡ key_node key (node_at n a.world.processes)
    now_is n = ap (λ (w : WorldState). key_node key (node_at n w.processes)) (world_is key t event a (acting_of a))

    -- an ACK of the step is the acting node's, in its epoch
    acked : (id : NodeId) → acting_of a ≡ Some id → (from c s top : ℕ) → In (letters_of key a.shown.letters) (Ack from c s top) →
        In (project key (traced key t event a)).letters (Ack id.0 (key_node key (node_at id.0 a.world.processes)).epoch s top)
    acked id acts from c s top there = by_case (event_case t.world event a e)
      where
        by_case : Stepping t.world event a ⊎ Beside t.world a → In (project key (traced key t event a)).letters (Ack id.0 (key_node key (node_at id.0 a.world.processes)).epoch s top)
        by_case (inl k) =
            let same : k.id ≡ id = the_some k.id id (sym (ap acting_of k.is) ∙ acts) in
            let mine : In (letters_of key k.s.letters) (Ack from c s top) = subst (λ (b : Accepted). In (letters_of key b.shown.letters) (Ack from c s top)) k.is there in
            let w = wire_of key k.s.letters (Ack from c s top) mine in
            let o = ack_from key w.0 from c s top w.0.body w.2 in
            let before : IsKept key t = runs h header key past t f in
            let now : IsKept key (traced key t event a) = runs h header key (past ++ event ∷ []) (traced key t event a) now_follows in
            let says : Says k.s.node w.0 = step_said k.x (node_holds t.world before.own.sound k.id.0 k.x (ap node_of k.there)).1 t.world event k.s k.how w.0 w.1 (of_replicas key w.0 w.0.body _ w.2) in
            let at : node_at k.id.0 a.world.processes ≡ Some k.s.node = ap (λ (b : Accepted). node_at k.id.0 b.world.processes) k.is ∙ node-put_same k.id (alive k.s.node) t.world.processes in
            let at' : node_at k.id.0 (traced key t event a).world.processes ≡ Some k.s.node = ap (λ (w : WorldState). node_at k.id.0 w.processes) (world_is key t event a (acting_of a)) ∙ at in
            let id_is : k.s.node.id ≡ numbered_node k.id.0 = (node_holds (traced key t event a).world now.own.sound k.id.0 k.s.node at').0 in
            let who : from ≡ id.0 = o.0 ∙ (ap number_of says.from ∙ (ap (λ (i : NodeId). i.0) id_is ∙ ap (λ (i : NodeId). i.0) same)) in
            let epoch : c ≡ (key_node key (node_at id.0 a.world.processes)).epoch = o.1 ∙ (says.epoch ∙ (sym (ap (λ (z : Option NodeState). (key_node key z).epoch) at) ∙ ap (λ (i : NodeId). (key_node key (node_at i.0 a.world.processes)).epoch) same)) in
            let all : In (letters_of key (t.world.letters ++ k.s.letters)) (Ack from c s top) = rw (letters_append key t.world.letters k.s.letters) (in_right (letters_of key t.world.letters) (letters_of key k.s.letters) (Ack from c s top) mine) in
            let sent : In (letters_of key a.world.letters) (Ack from c s top) = subst (λ (b : Accepted). In (letters_of key b.world.letters) (Ack from c s top)) (sym k.is) all in
            let sent' : In (project key (traced key t event a)).letters (Ack from c s top) = subst (λ (w : WorldState). In (letters_of key w.letters) (Ack from c s top)) (sym (world_is key t event a (acting_of a))) sent in
            subst (λ (i : ℕ). In (project key (traced key t event a)).letters (Ack i (key_node key (node_at id.0 a.world.processes)).epoch s top)) who (subst (λ (i : ℕ). In (project key (traced key t event a)).letters (Ack from i s top)) epoch sent')
        by_case (inr b) = absurd (none_acts (sym b.acting ∙ acts))
          where
            none_acts : None ≡ Some id → ⊥
            none_acts is = cc

    new_mark : (id : NodeId) → acting_of a ≡ Some id → (k : Mark) →
        Source id.0 (key_node key (node_at id.0 t.world.processes)) (key_node key (node_at id.0 a.world.processes)) (letters_of key a.shown.letters) k → MarkWas key Longer k
    new_mark id acts k (Source.Row some is) =
        let z = now_is id.0 in
        let o : RowWas key Longer id.0 (key_node key (node_at id.0 a.world.processes)).epoch (key_node key (node_at id.0 a.world.processes)).stamp =
        record { when = traced key t event a; moment = moment; some = some; epoch = ap (λ (x : Node). x.epoch) z; stamp = ap (λ (x : Node). x.stamp) z } in
        rw is (λ exact. o, inl o)
    new_mark id acts k (Source.Waiting p has is) =
        rw is (λ no_exact. absurd (false≢true no_exact), inr (inl (record { when = traced key t event a; moment = moment; epoch = ap (λ (x : Node). x.epoch) (now_is id.0); pending = p; has = rw (now_is id.0) has; stamp = refl })))
    new_mark id acts k (Source.Installing p has up is) =
        rw is (
          λ no_exact. absurd (false≢true no_exact),
          inr (inr (inl (record {
            at = record { past = past; event = event; later = []; split = refl; was = t; follows = f; accepted = a; accepts = e };
            acts = acts;
            pending = p;
            has = has;
            stamp = refl;
            before = up;
            epoch = ap (λ (x : Node). x.epoch) (now_is id.0);
          }))),
        )
    new_mark id acts k (Source.Acking from c s top there is) =
        rw is (λ no_exact. absurd (false≢true no_exact), inr (inr (inr (record { when = traced key t event a; moment = moment; top = top; sent = acked id acts from c s top there }))))

    pub goes_on : ((k : Mark) → In t.marks k → MarkWas key (record { header = h; events = past }) k) → (k : Mark) → In (traced key t event a).marks k → MarkWas key Longer k
    goes_on was k i = by_acting (acting_of a) refl i
      where
        old : In t.marks k → MarkWas key Longer k
        old j = let o = was k j in (λ exact. row_later key h past event k.who k.epoch k.stamp (o.0 exact), cover_later key h past event k.who k.epoch k.stamp o.1)

        by_acting : (acting : Option NodeId) → acting_of a ≡ acting → In (traced_by key t event a acting).marks k → MarkWas key Longer k
        by_acting None acts j = old j
        by_acting (Some id) acts j =
            let x = key_node key (node_at id.0 t.world.processes) in
            let z = key_node key (node_at id.0 a.world.processes) in
            ⊎_elim
            (λ (new : In (step_marks id.0 x z (letters_of key a.shown.letters)) k). new_mark id acts k (source_of id.0 x z (letters_of key a.shown.letters) k new))
            old (in_either (step_marks id.0 x z (letters_of key a.shown.letters)) t.marks k j)
