-- What holds of an exchange between its calls holds behind each of them.
use Rattle.std.proofs.Common.{◌≡◌, ◌≤◌, ◌<◌, ℕ, zero, suc, ◌+◌, ◌-◌, length, List, [], ◌∷◌, ◌++◌, drop, true, false, Option, Some, None, refl, ap, ◌∙◌, sym, arith}
use Rattle.std.specs.Prelude.{Bool, Result, Ok, nat_lt, ◌==◌, if◌then◌else◌}
use Rattle.std.proofs.lemmas.List.{drop_all, length-drop}
use Rattle.hk_lines.specs.Cut.{Cutting, fed}
use Rattle.hk_outside.specs.declared.desk.Asked.{Asked}
use Rattle.hk_outside.specs.declared.desk.DeskReply.{DeskReply}
use Rattle.hk_request.specs.declared.request.StoreHead.{StoreHead}
use Rattle.hk_conn.specs.declared.exchange.Exchange.{Exchange}
use Rattle.hk_conn.specs.declared.said.Said.{Said}
use Rattle.hk_conn.specs.declared.said.Stop.{Stop}
use Rattle.hk_conn.specs.declared.said.Stop.TheVariants as stop
use Rattle.hk_conn.specs.Exchange.{place_in, more_came, unwritten, Stands, IsExchange, Gives, Steps, HearsNext, Writes}
use Rattle.hk_conn.specs.Serving.{Place}
use Rattle.hk_conn.specs.Turns.{IsReader}

-- ---- bytes came
pub reader_fed : (c : Cutting) (h : Option StoreHead) (piece : List ℕ) → IsReader c h → IsReader (fed c piece) h
reader_fed c h piece r = record {
  limit = r.limit;
  due = r.due;
  small = r.small;
  its_tag = r.its_tag;
  free = λ lt. ap (λ x. x ++ drop c.dropping piece) (r.free (omega (arith, lt))) ∙ drop_all c.dropping piece (omega (arith, lt));
}

pub reader_cut : (c c' : Cutting) (h h' : Option StoreHead) (piece : List ℕ) → c' ≡ fed c piece → h' ≡ h → IsReader c h → IsReader c' h'
reader_cut c c' h h' piece e f r = rw (e, f) (reader_fed c h piece r)

pub fed_stands : (s : Stop) (held : Option Said) (p p' : Place) → (IsReader p.cutting p.pending → IsReader p'.cutting p'.pending) → Stands s held p → Stands (more_came s) held p'
fed_stands stop.Need None p p' f k = f k.0
fed_stands stop.Full None p p' f k = f k
fed_stands stop.Quit None p p' f k = tt
fed_stands stop.TooLong None p p' f k = tt
fed_stands stop.Need (Some it) p p' f k = absurd k
fed_stands stop.Full (Some it) p p' f k = (f k.0, k.1)
fed_stands stop.Quit (Some it) p p' f k = absurd k
fed_stands stop.TooLong (Some it) p p' f k = absurd k

pub stands_kept : (s s' : Stop) (held held' : Option Said) (p : Place) → s' ≡ s → held' ≡ held → Stands s held p → Stands s' held' p
stands_kept s s' held held' p e h k = rw (e, h) k

-- ---- text was written
pub some_wait : {A : Type 0} (u : A) (us : List A) → nat_lt 0 (length (u ∷ us)) ≡ false → ⊥
some_wait u us is = let le : length (u ∷ us) ≤ 0 = grind (arith, is) in let none : length (u ∷ us) ≡ 0 = omega (arith, le) in absurd (grind (arith, none))

pub unwritten_now : {A : Type 0} (us : List A) (out : List ℕ) (at n : ℕ) → 1 ≤ n → n ≤ length (if nat_lt 0 (length us) then [] else drop at out) → (us ≡ []) × (n ≤ length (drop at out)) × ((if nat_lt 0 (length us) then [] else drop at out) ≡ drop at out)
unwritten_now [] out at n some le = (refl, le, refl)
unwritten_now (u ∷ us) out at n some le = absurd (by_test (nat_lt 0 (length (u ∷ us))) refl le)
  where
    by_test : (b : Bool) → nat_lt 0 (length (u ∷ us)) ≡ b → n ≤ length (if b then [] else drop at out) → ⊥
    by_test true is none = absurd (omega (arith, some, none))
    by_test false is some_out = absurd (some_wait u us is)

module _ {W : Type 0} (e e' : Exchange W) where
  pub given_sound : (piece : List ℕ) → IsExchange e → Gives piece e e' → IsExchange e'
  given_sound piece s g =
      let same_at : e'.at ≡ e.at = g.keeps.at in
      let out : e'.out.items ≡ e.out.items = ap (λ x. x.items) g.keeps.out in
      let updates : e'.updates.items ≡ e.updates.items = ap (λ x. x.items) g.keeps.updates in
      let told : e'.told.items ≡ e.told.items = ap (λ x. x.items) g.keeps.told in
      record {
        stands = stands_kept (more_came e.stop) e'.stop e.held e'.held (place_in e') g.stops g.keeps.held
            (fed_stands e.stop e.held (place_in e) (place_in e') (reader_cut e.reader.cutter e'.reader.cutter e.reader.pending e'.reader.pending piece g.cutter g.pending) s.stands);
        none_told = λ i. told ∙ s.none_told (sym updates ∙ i);
        within = rw (same_at, out) s.within;
        alone = λ lt. updates ∙ s.alone (rw same_at at lt);
      }

  pub stepped_sound : {E : Type 0} (will : W → Result DeskReply E) (m : ℕ) (a b : Option (List Asked)) → IsExchange e → Steps will m a b e e' → IsExchange e'
  stepped_sound will m a b s y =
      let told : e'.told.items ≡ e.told.items = ap (λ x. x.items) y.told in
      record { stands = y.stands; none_told = λ i. told ∙ s.none_told (y.waits i); within = (by_at e.at refl y.at).0; alone = (by_at e.at refl y.at).1 }
    where
      by_at : (n : ℕ) → e.at ≡ n → e'.at ≡ e.at → (e'.at ≤ length e'.out.items) × (0 < e'.at → e'.updates.items ≡ [])
      by_at zero z same = (let w : e'.at ≡ 0 = same ∙ z in omega (arith, w), λ lt. absurd (let w : e'.at ≡ 0 = same ∙ z in omega (arith, w, lt)))
      by_at (suc n) z same =
          let kept = y.kept (omega (arith, z)) in
          let out : e'.out.items ≡ e.out.items = ap (λ x. x.items) kept.0 in
          let updates : e'.updates.items ≡ e.updates.items = ap (λ x. x.items) kept.1 in
          (rw (same, out) s.within, λ lt. updates ∙ s.alone (rw same at lt))

  pub heard_sound : {E F : Type 0} (will : W → Result DeskReply E) (a b : Option (List Asked)) → IsExchange e → HearsNext {F = F} will (Ok tt) a b e e' → IsExchange e'
  heard_sound {E} {F} will a b s y = record {
    stands = rw (y.kept.0, y.kept.1, y.kept.2) s.stands;
    none_told = y.none_told s.none_told;
    within = (by_at e.at refl).0;
    alone = (by_at e.at refl).1;
  }
    where
      by_at : (n : ℕ) → e.at ≡ n → (e'.at ≤ length e'.out.items) × (0 < e'.at → e'.updates.items ≡ [])
      by_at zero z = (let w : e'.at ≡ 0 = y.kept.3 ∙ z in omega (arith, w), λ lt. absurd (let w : e'.at ≡ 0 = y.kept.3 ∙ z in omega (arith, w, lt)))
      by_at (suc n) z =
          let none = s.alone (omega (arith, z)) in
          let out : e'.out.items ≡ e.out.items = ap (λ x. x.items) (y.none none) in
          (rw (y.kept.3, out) s.within, λ lt. y.next ∙ ap (λ x. drop 1 x) none)

  pub wrote_sound : (count : ℕ) → IsExchange e → 1 ≤ count → count ≤ length (unwritten e) → Writes count e e' → IsExchange e'
  wrote_sound count s some le w = at (e.at + count == length e.out.items) refl
    where
      now : (e.updates.items ≡ []) × (count ≤ length (drop e.at e.out.items)) × (unwritten e ≡ drop e.at e.out.items)
      now = unwritten_now e.updates.items e.out.items e.at count some le

      none_told : e'.told.items ≡ []
      none_told = ap (λ x. x.items) w.told ∙ s.none_told now.0

      none_waits : e'.updates.items ≡ []
      none_waits = ap (λ x. x.items) w.updates ∙ now.0

      stands : Stands e'.stop e'.held (place_in e')
      stands = rw (w.reader, w.held, w.stops) s.stands

      at : (all : Bool) → (e.at + count == length e.out.items) ≡ all → IsExchange e'
      at true is =
          let zero_at : e'.at ≡ 0 = rw is at w.at in
          record { stands = stands; none_told = λ i. none_told; within = omega (arith, zero_at); alone = λ lt. none_waits }
      at false is =
          let out : e'.out.items ≡ e.out.items = rw is at w.out in
          let further : e'.at ≡ e.at + count = rw is at w.at in
          record { stands = stands; none_told = λ i. none_told; within = rw (further, out) (let le : count ≤ length e.out.items - e.at = rw (length-drop e.at e.out.items) at now.1 in omega (arith, le, s.within, some)); alone = λ lt. none_waits }
