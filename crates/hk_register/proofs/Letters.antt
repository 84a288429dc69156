-- Letters that a node takes keep the parts.
use Rattle.std.proofs.Common.{◌≡◌, ◌⊎◌, ℕ, true, false, List, [], ◌∷◌, ◌++◌, Option, Some, None, ◌<◌, ◌≤◌, ◌∙◌, sym, refl, ap, inl, inr, ⊎_elim, arith}
use Rattle.std.proofs.lemmas.Bool.{false≢true}
use Rattle.hk_base.specs.declared.call.Content.{Content}
use Rattle.hk_base.specs.declared.call.Reply.{Reply}
use Rattle.hk_base.specs.declared.call.Answer.{Answer}
use Rattle.hk_register.specs.Machine.{In, Each, Item, Marked, Phase, Node, Mark, Update, RegisterState}
use Rattle.hk_base.specs.declared.stamp.Kind.{Kind}
use Rattle.hk_base.specs.declared.stamp.Kind.TheVariants as Kind
use Rattle.hk_register.specs.Machine.Phase.{Valid, Invalid, Write, Replay, Trans}
use Rattle.hk_register.specs.Machine.Message.{Inv, Ack}
use Rattle.hk_register.specs.Effects.{Change, row_mark, cover_mark, overtaken, dropped, drop_of}
use Rattle.hk_register.specs.Parts.{PhaseOk, Twin, ItemOk, TimelyAfter, Parts}
use Rattle.hk_register.proofs.Grow.{Rises, known_grows, bound_grows}
use Rattle.hk_register.proofs.Keep.{keep, rises, arrives, phase_grows, node_grows}
use Rattle.hk_register.proofs.Helps.{pending_at, begun_from, twin_itself}

module _ (V : ℕ → List ℕ) (old new : RegisterState) (parts : Parts V old) where
  -- a pending update that is overtaken, or dropped
  overtaken_ok : (n : ℕ) (x y : Node) (phase : Phase) → y.ready ≡ x.ready → y.epoch ≡ x.epoch → x.stamp ≤ y.stamp → 1 ≤ y.stamp → PhaseOk V new n x phase → PhaseOk V new n y (overtaken phase)
  overtaken_ok n x y Valid ready epoch up one o = one
  overtaken_ok n x y Invalid ready epoch up one o = one
  overtaken_ok n x y (Replay p) ready epoch up one o = one
  overtaken_ok n x y (Trans p) ready epoch up one o = (pending_at V ready epoch up o.0, o.1)
  overtaken_ok n x y (Write p) ready epoch up one o = by_kind p.kind refl
    where
      by_kind : (kind : Kind) → p.kind ≡ kind → PhaseOk V new n y (elim kind [ Kind.Write ↦ Trans p | Kind.Rmw ↦ Invalid ])
      by_kind Kind.Write is = (pending_at V ready epoch up o.0, is)
      by_kind Kind.Rmw is = one

  dropped_ok : (st : RegisterState) (phase : Phase) (why : Answer) → Each (ItemOk V st) (dropped phase why)
  dropped_ok st Valid why = tt
  dropped_ok st Invalid why = tt
  dropped_ok st (Replay p) why = tt
  dropped_ok st (Trans p) why = tt
  dropped_ok st (Write p) why = by_kind p.kind
    where
      by_reply : (r : Option Reply) → Each (ItemOk V st) (drop_of r p.stamp why)
      by_reply None = tt
      by_reply (Some r) = (tt, tt)

      by_kind : (kind : Kind) → Each (ItemOk V st) (elim kind as (λ _. List Item) [ Kind.Write ↦ [] | Kind.Rmw ↦ drop_of p.reply p.stamp why ])
      by_kind Kind.Write = tt
      by_kind Kind.Rmw = by_reply p.reply

  dropped_timely : (phase : Phase) (why : Answer) (h : List Item) → TimelyAfter V h → TimelyAfter V (dropped phase why ++ h)
  dropped_timely Valid why h t = t
  dropped_timely Invalid why h t = t
  dropped_timely (Replay p) why h t = t
  dropped_timely (Trans p) why h t = t
  dropped_timely (Write p) why h t = by_kind p.kind
    where
      by_reply : (r : Option Reply) → TimelyAfter V (drop_of r p.stamp why ++ h)
      by_reply None = t
      by_reply (Some r) = t

      by_kind : (kind : Kind) → TimelyAfter V ((elim kind as (λ _. List Item) [ Kind.Write ↦ [] | Kind.Rmw ↦ drop_of p.reply p.stamp why ]) ++ h)
      by_kind Kind.Write = t
      by_kind Kind.Rmw = by_reply p.reply

  pub take_inv_kept : (n m s : ℕ) (kind : Kind) (content : Option Content) (why : Answer) → In old.letters (Inv m (old.node n).epoch s kind content) → (old.node n).stamp < s → 1 ≤ (old.node n).epoch → Change old new n (record (old.node n) { phase = overtaken (old.node n).phase; stamp = s; kind = kind; content = content; kept_val = false }) (Ack n (old.node n).epoch s s ∷ []) (record { who = n; epoch = (old.node n).epoch; stamp = s; exact = true; ready = (old.node n).ready } ∷ []) [] (dropped (old.node n).phase why) → Parts V new
  take_inv_kept n m s kind content why sent above some ch =
      let x = old.node n in
      let y : Node = record x { phase = overtaken x.phase; stamp = s; kind = kind; content = content; kept_val = false } in
      let k : Mark = record { who = n; epoch = x.epoch; stamp = s; exact = true; ready = x.ready } in
      let ms : List Mark = k ∷ [] in
      let was = parts.nodes n in
      let told = parts.letters _ sent in
      let r : Rises old new n y ms = rises ch (omega arith) (omega arith) (record { who = refl; epoch = refl; row = λ _. refl; within = omega arith }, tt) in
      let here : Marked new k = arrives ch k (inl refl) in
      let from = parts.marks told.0.mark told.0.marked in
      keep V old new n y _ ms _ _ (record {
        parts = parts;
        change = ch;
        rise = r;
        node = record {
          member = was.member;
          marked = λ _. here;
          resting = λ zero_is. absurd (omega arith);
          copied = was.copied;
          bound = λ c e one below. bound_grows V old new n y ms r (omega arith) (was.bound c e one below);
          known = inr (known_grows V old new n y ms r told.1);
          kept = λ is. absurd (false≢true is);
          phase = overtaken_ok n x y x.phase refl refl (omega arith) (omega arith) (phase_grows V old new n y ms r n x x.phase was.phase);
        };
        letters = ((record { mark = k; marked = here; who = refl; epoch = refl; stamp = refl }, λ _. record { mark = k; marked = here; who = refl; epoch = refl; stamp = refl; exact = refl }), tt);
        marks = (
          record {
            some_epoch = some;
            epoch = rw ch.here (omega arith);
            member = was.member some;
            top = rw ch.here (omega arith);
            bound = λ _ ready e one below. bound_grows V old new n y ms r (omega arith) (was.bound (was.copied ready) e one below);
            begun = begun_from V old new n y ms r k kind told.0.mark told.0.stamp (omega (arith, told.0.epoch)) (λ _ _ _ _. twin_itself V old new n y ms r k here refl) from.begun;
          },
          tt,
        );
        updates = tt;
        once = λ u v h. absurd h;
        unlike = λ u v h. absurd h;
        items = dropped_ok new (old.node n).phase why;
        timely = dropped_timely (old.node n).phase why old.history parts.timely;
      })

  pub ack_inv_kept : (n m s : ℕ) (kind : Kind) (content : Option Content) → In old.letters (Inv m (old.node n).epoch s kind content) → s ≤ (old.node n).stamp → 1 ≤ (old.node n).epoch → (kind ≡ Kind.Write) ⊎ (s ≡ (old.node n).stamp) → Change old new n (old.node n) (Ack n (old.node n).epoch s (old.node n).stamp ∷ []) (cover_mark n (old.node n) s ∷ []) [] [] → Parts V new
  ack_inv_kept n m s kind content sent upto some why ch =
      let x = old.node n in
      let k : Mark = cover_mark n x s in
      let row : Mark = row_mark n x in
      let ms : List Mark = k ∷ [] in
      let was = parts.nodes n in
      let told = parts.letters _ sent in
      let r : Rises old new n x ms = rises ch (omega arith) (omega arith) (record { who = refl; epoch = refl; row = λ no. absurd (false≢true no); within = upto }, tt) in
      let here : Marked new k = arrives ch k (inl refl) in
      let row_here : Marked new row = r.marks row (was.marked some) in
      let from = parts.marks told.0.mark told.0.marked in
      let twin : (u : Update) → In old.begun u → u.stamp ≡ s → u.kind ≡ Kind.Rmw → Twin V new k = λ u begun is rmw.
      ⊎_elim
      (λ (plain : kind ≡ Kind.Write).
      let same : told.1.update ≡ u = parts.once told.1.update u told.1.begun begun (told.1.stamp ∙ sym is) in
      let kinds : Kind.Write ≡ Kind.Rmw = sym (told.1.same_kind ∙ plain) ∙ ap (λ (v : Update). v.kind) same ∙ rmw in
      cc)
      (λ (top : s ≡ x.stamp). record { mark = row; marked = row_here; who = refl; epoch = refl; stamp = sym top; ready = λ y. y; exact = refl }) why in
      keep V old new n x _ ms _ _ (record {
        parts = parts;
        change = ch;
        rise = r;
        node = node_grows V old new n x ms r was;
        letters = ((record { mark = k; marked = here; who = refl; epoch = refl; stamp = refl }, λ top. record { mark = row; marked = row_here; who = refl; epoch = refl; stamp = top; exact = refl }), tt);
        marks = (
          record {
            some_epoch = some;
            epoch = rw ch.here (omega arith);
            member = was.member some;
            top = rw ch.here upto;
            bound = λ no. absurd (false≢true no);
            begun = begun_from V old new n x ms r k kind told.0.mark told.0.stamp (omega (arith, told.0.epoch)) twin from.begun;
          },
          tt,
        );
        updates = tt;
        once = λ u v h. absurd h;
        unlike = λ u v h. absurd h;
        items = tt;
        timely = parts.timely;
      })
