-- In every run each copied row rests on a member of each earlier view, and so does each row in a batch.
use Rattle.std.proofs.Common.{◌≡◌, ◌⊎◌, ◌≢◌, ℕ, Bool, true, false, List, [], ◌∷◌, ◌++◌, ◌<◌, ◌≤◌, ◌∙◌, sym, refl, ap, subst, inl, inr, ⊎_elim, arith, le_refl, Option, Some, Ok, eq-zero-or-pos}
use Rattle.std.proofs.lemmas.Bool.{false≢true, cases_eq, cases_lt, cases_Bool}
use Rattle.hk_base.specs.declared.call.Content.{Content}
use Rattle.hk_base.specs.declared.stamp.Kind.{Kind}
use Rattle.hk_base.specs.declared.stamp.NodeId.{NodeId}
use Rattle.hk_base.specs.declared.letter.Actor.TheVariants as Actor
use Rattle.hk_base.specs.declared.letter.Body.{Body}
use Rattle.hk_base.specs.declared.letter.Body.TheVariants.{CopyGive}
use Rattle.hk_base.specs.declared.letter.Letter.{Letter}
use Rattle.hk_base.specs.Stamp.{tag_of}
use Rattle.hk_base.specs.View.{member_numbers}
use Rattle.hk_register.specs.Machine.{In, Node}
use Rattle.hk_register.specs.Machine.Message.{Give}
use Rattle.hk_register.specs.Parts.{Parts}
use Rattle.hk_node.specs.Node.{NodeState, epoch_of}
use Rattle.hk_node.specs.Rows.{row_at}
use Rattle.hk_event.specs.declared.event.Event.{Event}
use Rattle.hk_event.specs.declared.event.Header.{Header}
use Rattle.hk_world.specs.Steps.{acting_of, Accepted, world_step}
use Rattle.hk_world.specs.Sound.{IsHeader, IsEvent}
use Rattle.hk_world.specs.World.{WorldState, last_view, node_of}
use Rattle.hk_effects.specs.Projection.{Trace, project, traced, key_node, node_at, has_copied, number_of, letters_of, item_at}
use Rattle.hk_effects.specs.Own.{IsChain, Agrees}
use Rattle.hk_effects.specs.Runs.{start_trace, Follows, IsKept, RunsKeepParts}
use Rattle.hk_effects.proofs.Accepting.{alive}
use Rattle.hk_effects.proofs.Frames.{itself, in_letters_append}
use Rattle.hk_effects.proofs.Processes.{numbered_node, node-put_same, node-put_other}
use Rattle.hk_effects.proofs.Rests.{letter_sent, node_holds, numbered_in}
use Rattle.hk_parts.specs.Moments.{Run}
use Rattle.hk_parts.proofs.Moments.{follows_then, world_is, always}
use Rattle.hk_parts.proofs.Cases.{Stepping, Beside, event_case}
use Rattle.hk_parts.proofs.Given.{given_of, wire_of}
use Rattle.hk_parts.proofs.Copied.{Took, step_copies}
use Rattle.hk_parts.proofs.Resting.{Below, rises, below_later}
use Rattle.hk_parts.proofs.LettersTell.{BodyTells, Says}
use Rattle.hk_parts.proofs.Steps.{step_said, of_replicas}
use Rattle.hk_parts.proofs.Views.{views_stay}

in_cases : (n : ℕ) (xs : List ℕ) → In xs n ⊎ (In xs n → ⊥)
in_cases n [] = inr (λ none. none)
in_cases n (x ∷ xs) = ⊎_elim
    (λ (e : n ≡ x). inl (inl e))
    (λ (ne : n ≢ x). ⊎_elim (λ (h : In xs n). inl (inr h)) (λ (out : In xs n → ⊥). inr (λ h. ⊎_elim ne out h)) (in_cases n xs)) (cases_eq n x)

-- of a key so far
pub record AllBelow (key : List ℕ) (run : Run) (V : ℕ → List ℕ) (t : Trace) : Type 0 where
  pub node : (n : ℕ) → ((project key t).node n).copied ≡ true → (e : ℕ) → 1 ≤ e → e < ((project key t).node n).epoch → Below key run V t e n ((project key t).node n).stamp
  pub letter : (m f s : ℕ) (kind : Kind) (content : Option Content) (valid : Bool) → In (project key t).letters (Give m f s kind content valid) → (e : ℕ) → 1 ≤ e → e < f → Below key run V t e m s

-- a member of an earlier view and of a later one is one of each between
between : (w : WorldState) (V : ℕ → List ℕ) → IsChain w.views → Agrees w V → (p e q n : ℕ) → 1 ≤ p → p ≤ e → e ≤ q → q ≤ (last_view w.views).epoch → In (V p) n → In (V q) n → In (V e) n
between w V chain agrees p e q n one low high top in_p in_q =
    let u = chain.each p one (omega arith) in
    let v = chain.each e (omega arith) (omega arith) in
    let z = chain.each q (omega arith) top in
    let in_u : In (member_numbers u.0.members) n = rw (agrees u.0 u.1, u.2) in_p in
    let in_z : In (member_numbers z.0.members) n = rw (agrees z.0 z.1, z.2) in_q in
    let in_v = chain.chain u.0 v.0 z.0 u.1 v.1 z.1 (rw (u.2, v.2) low) (rw (v.2, z.2) high) n in_u in_z in
    rw (agrees v.0 v.1, v.2) at in_v

module _ (runs : RunsKeepParts) (key : List ℕ) (h : Header) (header : IsHeader h) (V : ℕ → List ℕ) where
  module _ (past : List Event) (t : Trace) (event : Event) (a : Accepted) (f : Follows key (start_trace h) past t) (e : world_step t.world event ≡ Ok a) (event_ok : IsEvent event) (agrees : Agrees (traced key t event a).world V) (rest : AllBelow key (record { header = h; events = past }) V t) where
    abbrev Longer : Run
    Longer = record { header = h; events = past ++ event ∷ [] }

    before : IsKept key t
    before = runs h header key past t f

    now : IsKept key (traced key t event a)
    now = runs h header key (past ++ event ∷ []) (traced key t event a) (follows_then key past (event ∷ []) (start_trace h) t (traced key t event a) f (a, e, event_ok, refl))

    agreed_before : Agrees t.world V
    agreed_before v i = agrees v (views_stay key (event ∷ []) t (traced key t event a) (a, e, event_ok, refl) v i)

    parts : Parts V (project key t)
    parts = before.parts V agreed_before

    parts_now : Parts V (project key (traced key t event a))
    parts_now = now.parts V agrees

    abbrev Was : ℕ → Node
    Was n = (project key t).node n

    abbrev Now : ℕ → Node
    Now n = (project key (traced key t event a)).node n

    abbrev Rested : ℕ → ℕ → ℕ → Type 0
    Rested i n s = Below key Longer V (traced key t event a) i n s

    later : (i n s c : ℕ) → s ≤ c → Below key (record { header = h; events = past }) V t i n s → Rested i n c
    later i n s c up o = below_later key t event a before now h past V i n s c up o

    -- a member rests on itself
    own : (n i : ℕ) → In (V i) n → i < (Now n).epoch → Rested i n (Now n).stamp
    own n i inside below = record {
      who = n;
      member = inside;
      later = below;
      covered = λ k there whose low. let top = (parts_now.marks k (k, itself k, there)).top in rw (sym whose) top;
      givers = [];
      rests = (inside, refl);
    }

    -- a node that had copied the key before it installed a later view is a member of those between
    passed_inside : (n i : ℕ) → (Was n).copied ≡ true → (Was n).epoch ≤ i → i < (Now n).epoch → In (V i) n
    passed_inside n i copied low below =
        let some : 1 ≤ (Was n).epoch = ⊎_elim
        (λ (zero_is : (Was n).epoch ≡ 0). absurd (false≢true (sym ((parts.nodes n).resting zero_is).2 ∙ copied)))
        (λ (pos : 0 < (Was n).epoch). pos) (eq-zero-or-pos (Was n).epoch) in
        let j = (parts_now.nodes n).marked (omega arith) in
        let top : (Now n).epoch ≤ (last_view (traced key t event a).world.views).epoch = rw (sym j.1.epoch) at (now.trace.guarded j.0 j.2).upto in
        between (traced key t event a).world V now.own.views agrees (Was n).epoch i (Now n).epoch n some low (omega arith) top ((parts.nodes n).member some) ((parts_now.nodes n).member (omega arith))

    -- what the world has of a node afterwards
    now_of : (n : ℕ) (y : NodeState) → node_at n a.world.processes ≡ Some y → Now n ≡ key_node key (Some y)
    now_of n y at = ap (λ (w : WorldState). key_node key (node_at n w.processes)) (world_is key t event a (acting_of a)) ∙ ap (key_node key) at

    stepped_there : (c : Stepping t.world event a) → node_at c.id.0 a.world.processes ≡ Some c.s.node
    stepped_there c = ap (λ (b : Accepted). node_at c.id.0 b.world.processes) c.is ∙ node-put_same c.id (alive c.s.node) t.world.processes

    -- a key that is copied by a batch rests on the batch
    by_batch : (c : Stepping t.world event a) → has_copied c.x key ≡ false → (Now c.id.0).copied ≡ true → Took key t.world event c.x c.s → (i : ℕ) → 1 ≤ i → i < (Now c.id.0).epoch → (In (V i) c.id.0 → ⊥) → Rested i c.id.0 (Now c.id.0).stamp
    by_batch c not_yet copied k i one below outside =
        let item = item_at key k.items in
        let is_now = now_of c.id.0 c.s.node (stepped_there c) in
        let number : c.x.id ≡ numbered_node c.id.0 = (node_holds t.world before.own.sound c.id.0 c.x (ap node_of c.there)).0 in
        let sent : In (letters_of key t.world.letters) (Give k.from.0 (epoch_of c.x) (tag_of item.stamp) item.kind item.content item.valid) =
        letter_sent key t.world.letters k.letter (Give k.from.0 (epoch_of c.x) (tag_of item.stamp) item.kind item.content item.valid) (numbered_in k.number t.world.letters k.letter k.taken) (rw (k.body, k.covered, k.sender, k.epoch) (inl refl)) in
        let epoch : (Now c.id.0).epoch ≡ epoch_of c.x = ap (λ (z : Node). z.epoch) is_now ∙ k.same in
        let stamp : (Now c.id.0).stamp ≡ tag_of (row_at key c.s.node.rows).stamp = ap (λ (z : Node). z.stamp) is_now in
        let o = later i k.from.0 (tag_of item.stamp) (Now c.id.0).stamp (rw stamp k.stamp) (rest.letter k.from.0 (epoch_of c.x) (tag_of item.stamp) item.kind item.content item.valid sent i one (rw (← epoch) below)) in
        record {
          who = o.who;
          member = o.member;
          later = o.later;
          covered = o.covered;
          givers = k.from.0 ∷ o.givers;
          rests = (
            outside,
            record {
              at = record { past = past; event = event; later = []; split = refl; was = t; follows = f; accepted = a; accepts = e };
              number = k.number;
              event = k.is;
              letter = k.letter;
              taken = k.taken;
              from = k.sender;
              to = k.to ∙ ap (λ (j : NodeId). Actor.Node j) number;
              node = c.x;
              there = ap node_of c.there;
              epoch = k.epoch;
              done = k.done;
              items = k.items;
              body = k.body;
              covered = k.covered;
              not_yet = not_yet;
              now = copied;
            },
            o.rests,
          );
        }

    fresh_copy : (n i : ℕ) → (Now n).copied ≡ true → (Was n).copied ≡ false → 1 ≤ i → i < (Now n).epoch → (In (V i) n → ⊥) → Rested i n (Now n).stamp
    fresh_copy n i copied not_yet one below outside = by_case (event_case t.world event a e)
      where
        unchanged : Now n ≡ Was n → Rested i n (Now n).stamp
        unchanged same = absurd (false≢true (sym not_yet ∙ (sym (ap (λ (z : Node). z.copied) same) ∙ copied)))

        here : (c : Stepping t.world event a) → n ≡ c.id.0 → Rested i n (Now n).stamp
        here c same =
            let now_is : (Now c.id.0).copied ≡ has_copied c.s.node key = ap (λ (z : Node). z.copied) (now_of c.id.0 c.s.node (stepped_there c)) in
            let was_is : (Was c.id.0).copied ≡ has_copied c.x key = ap (λ (o : Option NodeState). (key_node key o).copied) (ap node_of c.there) in
            let copied' : (Now c.id.0).copied ≡ true = subst (λ (k : ℕ). (Now k).copied ≡ true) same copied in
            let not_yet' : (Was c.id.0).copied ≡ false = subst (λ (k : ℕ). (Was k).copied ≡ false) same not_yet in
            subst (λ (k : ℕ). Rested i k (Now k).stamp) (sym same) (⊎_elim
            (λ (had : has_copied c.x key ≡ true). absurd (false≢true (sym not_yet' ∙ (was_is ∙ had))))
            (λ (k : Took key t.world event c.x c.s). by_batch c (sym was_is ∙ not_yet') copied' k i one (subst (λ (k : ℕ). i < (Now k).epoch) same below) (subst (λ (k : ℕ). In (V i) k → ⊥) same outside))
            (step_copies key t.world c.x before.own.letter (node_holds t.world before.own.sound c.id.0 c.x (ap node_of c.there)).1.touched event c.s c.how (sym now_is ∙ copied')))

        by_case : Stepping t.world event a ⊎ Beside t.world a → Rested i n (Now n).stamp
        by_case (inl c) = ⊎_elim (here c)
            (λ (other : n ≢ c.id.0). unchanged (ap (λ (w : WorldState). key_node key (node_at n w.processes)) (world_is key t event a (acting_of a)) ∙ (ap (λ (b : Accepted). key_node key (node_at n b.world.processes)) c.is ∙ ap (key_node key) (node-put_other n c.id (alive c.s.node) t.world.processes other)))) (cases_eq n c.id.0)
        by_case (inr b) = unchanged (ap (λ (w : WorldState). key_node key (node_at n w.processes)) (world_is key t event a (acting_of a)) ∙ b.seen key n)

    node_rests : (n : ℕ) → (Now n).copied ≡ true → (i : ℕ) → 1 ≤ i → i < (Now n).epoch → Rested i n (Now n).stamp
    node_rests n copied i one below = ⊎_elim
        (λ (inside : In (V i) n). own n i inside below)
        (λ (outside : In (V i) n → ⊥).
        ⊎_elim
        (λ (had : (Was n).copied ≡ true).
        ⊎_elim
        (λ (less : i < (Was n).epoch). later i n (Was n).stamp (Now n).stamp (rises key t event a before now n).0 (rest.node n had i one less))
        (λ (up : (Was n).epoch ≤ i). absurd (outside (passed_inside n i had up below))) (cases_lt i (Was n).epoch))
        (λ (not_yet : (Was n).copied ≡ false). fresh_copy n i copied not_yet one below outside) (cases_Bool (Was n).copied)) (in_cases n (V i))

    -- a batch that is sent tells its giver's row
    fresh_give : (c : Stepping t.world event a) (m g s : ℕ) (kind : Kind) (content : Option Content) (valid : Bool) → In (letters_of key c.s.letters) (Give m g s kind content valid) → (i : ℕ) → 1 ≤ i → i < g → Rested i m s
    fresh_give c m g s kind content valid there i one below =
        let w = wire_of key c.s.letters (Give m g s kind content valid) there in
        let o = given_of key w.0 m g s kind content valid w.0.body w.2 in
        let says : Says c.s.node w.0 = step_said c.x (node_holds t.world before.own.sound c.id.0 c.x (ap node_of c.there)).1 t.world event c.s c.how w.0 w.1 (of_replicas key w.0 w.0.body _ w.2) in
        let tells : BodyTells c.s.node (CopyGive o.after o.done o.items) = subst (λ (b : Body). BodyTells c.s.node b) o.body says.tells in
        let at' : node_at c.id.0 (traced key t event a).world.processes ≡ Some c.s.node = ap (λ (w : WorldState). node_at c.id.0 w.processes) (world_is key t event a (acting_of a)) ∙ stepped_there c in
        let id : c.s.node.id ≡ numbered_node c.id.0 = (node_holds (traced key t event a).world now.own.sound c.id.0 c.s.node at').0 in
        let is_now = now_of c.id.0 c.s.node (stepped_there c) in
        let copied : (Now c.id.0).copied ≡ true = ap (λ (z : Node). z.copied) is_now ∙ rw tells.0 refl in
        let epoch : (Now c.id.0).epoch ≡ g = ap (λ (z : Node). z.epoch) is_now ∙ (sym says.epoch ∙ sym o.epoch) in
        let stamp : (Now c.id.0).stamp ≡ s = ap (λ (z : Node). z.stamp) is_now ∙ (sym (ap tag_of (tells.2 key o.covered)) ∙ sym o.stamp) in
        let who : m ≡ c.id.0 = o.who ∙ (ap number_of says.from ∙ ap (λ (k : NodeId). k.0) id) in
        rw (who, ← stamp) (node_rests c.id.0 copied i one (rw epoch below))

    letter_rests : (m g s : ℕ) (kind : Kind) (content : Option Content) (valid : Bool) → In (project key (traced key t event a)).letters (Give m g s kind content valid) → (i : ℕ) → 1 ≤ i → i < g → Rested i m s
    letter_rests m g s kind content valid there i one below = by_case (event_case t.world event a e) (subst (λ (w : WorldState). In (letters_of key w.letters) (Give m g s kind content valid)) (world_is key t event a (acting_of a)) there)
      where
        old : In (letters_of key t.world.letters) (Give m g s kind content valid) → Rested i m s
        old was = later i m s s (le_refl s) (rest.letter m g s kind content valid was i one below)

        by_case : Stepping t.world event a ⊎ Beside t.world a → In (letters_of key a.world.letters) (Give m g s kind content valid) → Rested i m s
        by_case (inl c) there' = ⊎_elim old (λ (new : In (letters_of key c.s.letters) (Give m g s kind content valid)). fresh_give c m g s kind content valid new i one below)
            (in_letters_append key t.world.letters c.s.letters (Give m g s kind content valid) (subst (λ (b : Accepted). In (letters_of key b.world.letters) (Give m g s kind content valid)) c.is there'))
        by_case (inr b) there' = ⊎_elim old
            (λ (new : In (letters_of key b.letters) (Give m g s kind content valid)). let w = wire_of key b.letters (Give m g s kind content valid) new in absurd (b.silent w.0 w.1 (of_replicas key w.0 w.0.body (Give m g s kind content valid) w.2)))
            (in_letters_append key t.world.letters b.letters (Give m g s kind content valid) (subst (λ (ls : List Letter). In (letters_of key ls) (Give m g s kind content valid)) b.sent there'))

    all_rest : AllBelow key Longer V (traced key t event a)
    all_rest = record { node = node_rests; letter = letter_rests }

  -- founders are in the first view
  begins : Agrees (start_trace h).world V → AllBelow key (record { header = h; events = [] }) V (start_trace h)
  begins agrees = record {
    node = λ n copied e one below. absurd (none n e one below);
    letter = λ m f s kind content valid there. absurd there;
  }
    where
      kept : IsKept key (start_trace h)
      kept = runs h header key [] (start_trace h) refl

      none : (n e : ℕ) → 1 ≤ e → e < ((project key (start_trace h)).node n).epoch → ⊥
      none n e one below =
          let j = ((kept.parts V agrees).nodes n).marked (omega arith) in
          let top : ((project key (start_trace h)).node n).epoch ≤ 1 = rw (sym j.1.epoch) at (kept.trace.guarded j.0 j.2).upto in
          omega arith

  pub rows_rest : (events : List Event) (last : Trace) → Follows key (start_trace h) events last → Agrees last.world V → AllBelow key (record { header = h; events = events }) V last
  rows_rest events last f = always key h (λ (past : List Event) (t : Trace). Agrees t.world V → AllBelow key (record { header = h; events = past }) V t)
      (λ past t event a f e event_ok rest agrees. all_rest past t event a f e event_ok agrees (rest (λ v i. agrees v (views_stay key (event ∷ []) t (traced key t event a) (a, e, event_ok, refl) v i)))) begins events last f
