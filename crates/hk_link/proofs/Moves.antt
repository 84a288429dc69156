-- Each step keeps the rule of a link.
use Rattle.std.proofs.Common.{◌≡◌, inl, inr, ⊎_elim, ℕ, zero, suc, ◌+◌, ◌<◌, nat_lt, if◌then◌else◌, Bool, true, false, List, [], ◌∷◌, ◌++◌, length, refl, sym, ap, ◌∙◌, subst, arith, append_assoc, length-append}
use Rattle.std.proofs.lemmas.List.{append-nil}
use Rattle.std.proofs.lemmas.Bool.{ltb-true, ltb-false}
use mathlib.Core.Option.{some, some-ne-none, some-injective}
use mathlib.Core.List.{IsPrefix}
use lib.ListN.{get_elem?}
use Rattle.crossbeam_queue.specs.Fifo.{Pushes, Pops, Forks, Merges, Learns}
use Rattle.crossbeam_queue.proofs.Lists.{at_set}
use Rattle.hk_link.specs.declared.parcel.Parcel.{Parcel}
use Rattle.hk_link.specs.declared.rule.Side.{Side}
use Rattle.hk_link.specs.declared.rule.Known.{Known}
use Rattle.hk_link.specs.Share.{all, halved, sizes, IsWhole}
use Rattle.hk_link.specs.Ends.{side, knowing, opening, nothing, seen_of, putting, taking, telling, left_half, right_half, longer, side_joined, joined, spent, IsPut, IsTaken, Moment}
use Rattle.hk_link.specs.Rule.{HasShare, Fits, Told, put_of, taken_of, Linked}
use Rattle.hk_link.proofs.Shares.{deepest_halved, two_halves}
use Rattle.hk_link.proofs.Sides.{Forked, stays, adds, forks, joins, agrees}

opens : (of : Known → Side) → of opening ≡ side all [] 0 → Told of [] (opening ∷ [])
opens of is = record {
  whole = λ scale deep. let e : sizes scale (of opening).share ≡ sizes scale all = ap (λ (s : Side). sizes scale s.share) is in omega (arith, e);
  counted = let e : (of opening).own ≡ 0 = ap (λ (s : Side). s.own) is in omega (arith, e);
  fits = one;
  last = inl refl;
}
  where
    one : (j : ℕ) (u : Known) → get_elem? (opening ∷ []) j ≡ some u → Fits [] (of u)
    one zero u e = subst (λ (u : Known). Fits [] (of u)) (some-injective _ _ e) (subst (Fits []) (sym is) (record { beginning = ([], refl); idle = λ none. refl }))
    one (suc j) u e = absurd (some-ne-none u (sym e))

pub begins : Linked [] (opening ∷ [])
begins = record { put = []; taken = []; in_order = refl; puts = opens put_of refl; takes = opens taken_of refl }

none_between : (seen between parcels : List Parcel) → seen ++ between ≡ parcels → seen ≡ parcels → between ≡ []
none_between seen [] parcels e same = refl
none_between seen (x ∷ between) parcels e same = let n = ap length e in let m = ap length same in absurd (omega (arith, n, m, length-append seen (x ∷ between)))

pub puts : (n by : ℕ) (v : Known) (x : Parcel) → HasShare v.put → Pushes Linked n by v x (IsPut v x)
puts n by v x some_share items views room h at =
    let agree = agrees put_of h.put views by v at h.puts in
    let pre = agree.beginning in
    let w : Known = knowing (side v.put.share ((v.put.seen ++ pre.0) ++ x ∷ []) (v.put.own + 1)) v.taken in
    let is : put_of w ≡ side v.put.share (h.put ++ x ∷ []) (v.put.own + 1) = ap (λ l. side v.put.share (l ++ x ∷ []) (v.put.own + 1)) pre.1 in (
      w,
      record {
        put = h.put ++ x ∷ [];
        taken = h.taken;
        in_order = ap (λ l. l ++ x ∷ []) h.in_order ∙ append_assoc h.taken items (x ∷ []);
        puts = adds put_of h.put views by v w x at some_share is h.puts;
        takes = stays taken_of h.taken views by v w at refl h.takes;
      },
      record { put = record { between = pre.0; added = refl; alone = λ whole. none_between v.put.seen pre.0 h.put pre.1 (agree.all_seen whole) }; taken = refl },
    )

pub takes : (by : ℕ) (v : Known) → HasShare v.taken → Pops Linked by v (IsTaken v)
takes by v some_share x items views h at =
    let agree = agrees taken_of h.taken views by v at h.takes in
    let pre = agree.beginning in
    let w : Known = knowing v.put (side v.taken.share ((v.taken.seen ++ pre.0) ++ x ∷ []) (v.taken.own + 1)) in
    let is : taken_of w ≡ side v.taken.share (h.taken ++ x ∷ []) (v.taken.own + 1) = ap (λ l. side v.taken.share (l ++ x ∷ []) (v.taken.own + 1)) pre.1 in (
      w,
      record {
        put = h.put;
        taken = h.taken ++ x ∷ [];
        in_order = h.in_order ∙ sym (append_assoc h.taken (x ∷ []) items);
        puts = stays put_of h.put views by v w at refl h.puts;
        takes = adds taken_of h.taken views by v w x at some_share is h.takes;
      },
      record { taken = record { between = pre.0; added = refl; alone = λ whole. none_between v.taken.seen pre.0 h.taken pre.1 (agree.all_seen whole) }; put = refl },
    )

pub looks : (by : ℕ) (v : Known) → Learns Linked by v (Moment v)
looks by v items views h at = record {
  all_put = h.put;
  all_taken = h.taken;
  in_order = h.in_order;
  put = agrees put_of h.put views by v at h.puts;
  taken = agrees taken_of h.taken views by v at h.takes;
}

nothing_fits : (parcels : List Parcel) → Fits parcels nothing
nothing_fits parcels = record { beginning = (parcels, refl); idle = λ none. refl }

nothing_right : (s : Side) → Forked s s nothing
nothing_right s = record {
  splits = record { deep = λ scale a b. a; sums = λ scale a b. omega arith };
  own = omega arith;
  left = λ parcels f. f;
  right = λ parcels f. nothing_fits parcels;
  some_left = λ h. inl (h, refl);
}

nothing_left : (s : Side) → Forked s nothing s
nothing_left s = record {
  splits = record { deep = λ scale a b. b; sums = λ scale a b. omega arith };
  own = omega arith;
  left = λ parcels f. nothing_fits parcels;
  right = λ parcels f. f;
  some_left = λ h. inr (h, refl);
}

seen_right : (s : Side) → Forked s s (seen_of s)
seen_right s = record {
  splits = record { deep = λ scale a b. a; sums = λ scale a b. omega arith };
  own = omega arith;
  left = λ parcels f. f;
  right = λ parcels f. record { beginning = f.beginning; idle = λ none. refl };
  some_left = λ h. inl (h, refl);
}

none_halved : (share : List ℕ) → halved share ≡ [] → share ≡ []
none_halved [] e = refl
none_halved (depth ∷ share) e = let n = ap length e in absurd (omega (arith, n))

some_halved : (share : List ℕ) → 0 < length share → 0 < length (halved share)
some_halved [] h = absurd (omega arith)
some_halved (depth ∷ share) h = omega arith

two : (s : Side) → Forked s (side (halved s.share) s.seen s.own) (side (halved s.share) s.seen 0)
two s = record {
  splits = record { deep = λ scale a b. let d = deepest_halved s.share in omega (arith, d, a); sums = λ scale a b. two_halves scale s.share a };
  own = omega arith;
  left = λ parcels f. record { beginning = f.beginning; idle = λ none. f.idle (none_halved s.share none) };
  right = λ parcels f. record { beginning = f.beginning; idle = λ none. refl };
  some_left = λ h. inl (some_halved s.share h, refl);
}

forked : (by : ℕ) (v left right : Known) → Forked v.put left.put right.put → Forked v.taken left.taken right.taken → Forks Linked by v left right
forked by v left right p t items views h at = record {
  put = h.put;
  taken = h.taken;
  in_order = h.in_order;
  puts = forks put_of h.put views by v left right at p h.puts;
  takes = forks taken_of h.taken views by v left right at t h.takes;
}

pub parts : (by : ℕ) (v : Known) → Forks Linked by v (putting v) (taking v)
parts by v = forked by v (putting v) (taking v) (nothing_right v.put) (nothing_left v.taken)

pub halves : (by : ℕ) (v : Known) → Forks Linked by v (left_half v) (right_half v)
halves by v = forked by v (left_half v) (right_half v) (two v.put) (two v.taken)

pub tells : (by : ℕ) (v : Known) → Forks Linked by v v (telling v)
tells by v = forked by v v (telling v) (seen_right v.put) (nothing_right v.taken)

pub merges : (by : ℕ) (v : Known) (other : ℕ) (w : Known) → Merges Linked by v other w (joined v w) spent
merges by v other w items views h at apart there_w = record {
  put = h.put;
  taken = h.taken;
  in_order = h.in_order;
  puts = joins put_of h.put views by v other w (joined v w) spent at apart was refl refl h.puts;
  takes = joins taken_of h.taken views by v other w (joined v w) spent at apart was refl refl h.takes;
}
  where
    was : get_elem? views other ≡ some w
    was = ⊎_elim (λ x. absurd (apart x.0)) (λ x. x.1) (at_set views by other (joined v w) w there_w)

-- what one has seen of the one side and what the other has of the other
longer_nil : (xs : List Parcel) → longer xs [] ≡ xs
longer_nil xs = go (nat_lt (length xs) 0) refl
  where
    go : (b : Bool) → nat_lt (length xs) 0 ≡ b → (if b then [] else xs) ≡ xs
    go true t = let less = ltb-true (length xs) 0 t in absurd (omega (arith, less))
    go false t = refl

nil_longer : (ys : List Parcel) → longer [] ys ≡ ys
nil_longer [] = refl
nil_longer (y ∷ ys) = go (nat_lt 0 (suc (length ys))) refl
  where
    go : (b : Bool) → nat_lt 0 (suc (length ys)) ≡ b → (if b then y ∷ ys else []) ≡ y ∷ ys
    go true t = refl
    go false t = let less = ltb-false 0 (suc (length ys)) t in absurd (omega (arith, less))

joined_right : (s : Side) → side_joined s nothing ≡ s
joined_right s = let e : s.own + 0 ≡ s.own = omega arith in rw (append-nil s.share, longer_nil s.seen, e) refl

joined_left : (s : Side) → side_joined nothing s ≡ s
joined_left s = let e : 0 + s.own ≡ s.own = omega arith in rw (nil_longer s.seen, e) refl

pub united : (p t : Side) → joined (knowing p nothing) (knowing nothing t) ≡ knowing p t
united p t = rw (joined_right p, joined_left t) refl

pub prefix_of_moment : (known : Known) (held : List Parcel) → Moment known held → IsWhole known.put.share → IsPrefix known.taken.seen known.put.seen
prefix_of_moment known held m whole =
    let t = m.taken.beginning in
    (t.0 ++ held, sym (append_assoc known.taken.seen t.0 held) ∙ (ap (λ l. l ++ held) t.1 ∙ (sym m.in_order ∙ sym (m.put.all_seen whole))))

pub united_at : (v w taker after : Known) → v.taken ≡ nothing → taker ≡ taking w → after ≡ joined v taker → after ≡ knowing v.put w.taken
united_at v w taker after apart is e = e ∙ (ap (joined v) is ∙ (ap (λ s. knowing (side_joined v.put nothing) (side_joined s w.taken)) apart ∙ united v.put w.taken))
