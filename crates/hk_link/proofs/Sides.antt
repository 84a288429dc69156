-- What is told of one side of a link stays told: as an end adds to it, is split or is joined.
use Rattle.std.proofs.Common.{◌≡◌, ◌≢◌, ◌⊎◌, inl, inr, ⊎_elim, ℕ, ◌+◌, ◌<◌, ◌≤◌, nat_lt, if◌then◌else◌, Bool, true, false, List, [], ◌∷◌, ◌++◌, length, set, refl, sym, ap, ◌∙◌, subst, arith, append_assoc, length-append}
use Rattle.std.proofs.lemmas.List.{append-nil}
use Rattle.std.proofs.lemmas.Bool.{ltb-true, ltb-false}
use mathlib.Core.Option.{some, some-injective}
use mathlib.Core.List.{IsPrefix}
use lib.ListN.{get_elem?}
use native.Mathlib.Decide.{ℕ_discrete}
use Rattle.crossbeam_queue.proofs.Lists.{at_longer, at_last, set_here, set_else}
use Rattle.hk_link.specs.declared.parcel.Parcel.{Parcel}
use Rattle.hk_link.specs.declared.rule.Side.{Side}
use Rattle.hk_link.specs.declared.rule.Known.{Known}
use Rattle.hk_link.specs.Share.{deepest, sizes, IsWhole}
use Rattle.hk_link.specs.Ends.{side, nothing, side_joined, Agrees}
use Rattle.hk_link.specs.Rule.{total, HasShare, Fits, Each, IsLast, Told}
use Rattle.hk_link.proofs.Shares.{sizes_some, sizes_append, deepest_append}
use Rattle.hk_link.proofs.Totals.{total_set, total_snoc, total_at, total_two, total_lone, there, each_set, each_snoc, each_front, each_back}

pub prefix_self : (xs : List Parcel) → IsPrefix xs xs
prefix_self xs = ([], append-nil xs)

pub prefix_more : (xs ys zs : List Parcel) → IsPrefix xs ys → IsPrefix xs (ys ++ zs)
prefix_more xs ys zs p = (p.0 ++ zs, sym (append_assoc xs p.0 zs) ∙ ap (λ w. w ++ zs) p.1)

pub prefix_whole : (a b : List Parcel) → IsPrefix a b → length b ≤ length a → a ≡ b
prefix_whole [] [] p le = refl
prefix_whole [] (y ∷ b) p le = absurd (omega arith)
prefix_whole (x ∷ a) b p le = go p.0 p.1
  where
    go : (rest : List Parcel) → (x ∷ a) ++ rest ≡ b → x ∷ a ≡ b
    go [] e = sym (append-nil (x ∷ a)) ∙ e
    go (r ∷ rest) e = let n : length ((x ∷ a) ++ r ∷ rest) ≡ length b = ap length e in absurd (omega (arith, n, length-append (x ∷ a) (r ∷ rest)))

longer_fits : (log xs ys : List Parcel) (b : Bool) → IsPrefix xs log → IsPrefix ys log → IsPrefix (if b then ys else xs) log
longer_fits log xs ys true p q = q
longer_fits log xs ys false p q = p

-- where one of two beginnings is the whole, the longer is
longer_whole : (log xs ys : List Parcel) (b : Bool) → nat_lt (length xs) (length ys) ≡ b → IsPrefix xs log → IsPrefix ys log → (xs ≡ log) ⊎ (ys ≡ log) → (if b then ys else xs) ≡ log
longer_whole log xs ys true t p q h = ⊎_elim (λ (e : xs ≡ log). let n = ap length e in let less = ltb-true (length xs) (length ys) t in prefix_whole ys log q (omega (arith, n, less))) (λ e. e) h
longer_whole log xs ys false t p q h = ⊎_elim (λ e. e) (λ (e : ys ≡ log). let n = ap length e in let less = ltb-false (length xs) (length ys) t in prefix_whole xs log p (omega (arith, n, less))) h

-- a share in two parts, at each scale
pub record Splits (share a b : List ℕ) : Type 0 where
  pub deep : (scale : ℕ) → deepest a ≤ scale → deepest b ≤ scale → deepest share ≤ scale
  pub sums : (scale : ℕ) → deepest a ≤ scale → deepest b ≤ scale → sizes scale a + sizes scale b ≡ sizes scale share

-- a side in two: the share, what was added itself, and whoever has a share has seen as much
pub record Forked (s l r : Side) : Type 0 where
  pub splits : Splits s.share l.share r.share
  pub own : l.own + r.own ≡ s.own
  pub left : (parcels : List Parcel) → Fits parcels s → Fits parcels l
  pub right : (parcels : List Parcel) → Fits parcels s → Fits parcels r
  pub some_left : HasShare s → (HasShare l × (l.seen ≡ s.seen)) ⊎ (HasShare r × (r.seen ≡ s.seen))

module _ (of : Known → Side) where
  deep_at : ℕ → Known → Type 0
  deep_at scale v = deepest (of v).share ≤ scale

  size_at : ℕ → Known → ℕ
  size_at scale v = sizes scale (of v).share

  -- an end does something else
  pub stays : (parcels : List Parcel) (views : List Known) (by : ℕ) (v w : Known) → get_elem? views by ≡ some v → of w ≡ of v → Told of parcels views → Told of parcels (set views by w)
  stays parcels views by v w at same told = record {
    whole = λ scale deep.
        let mine : deepest (of v).share ≤ scale = subst (λ (s : Side). deepest s.share ≤ scale) same (deep by w (set_here views by w (there views by v at))) in
        let s = total_set (λ v. sizes scale (of v).share) views by v w at in
        let e : sizes scale (of w).share ≡ sizes scale (of v).share = ap (λ (s : Side). sizes scale s.share) same in
        let t = told.whole scale (each_back (λ v. deepest (of v).share ≤ scale) views by v w at mine deep) in omega (arith, s, e, t);
    counted =
        let s = total_set (λ v. (of v).own) views by v w at in
        let e : (of w).own ≡ (of v).own = ap (λ (s : Side). s.own) same in
        let t = told.counted in omega (arith, s, e, t);
    fits = each_set (λ v. Fits parcels (of v)) views by w told.fits (subst (Fits parcels) (sym same) (told.fits by v at));
    last = ⊎_elim (λ e. inl e) (λ (k : IsLast of parcels views). inr (last_set k (ℕ_discrete k.at by))) told.last;
  }
    where
      last_set : (k : IsLast of parcels views) → Dec (k.at ≡ by) → IsLast of parcels (set views by w)
      last_set k (yes is) =
          let v_is : k.view ≡ v = some-injective _ _ (sym k.there ∙ (ap (get_elem? views) is ∙ at)) in
          let of_is : of k.view ≡ of w = ap of v_is ∙ sym same in
          record { at = by; view = w; there = set_here views by w (there views by v at); all = ap (λ (s : Side). s.seen) (sym of_is) ∙ k.all; share = subst HasShare of_is k.share }
      last_set k (no apart) = record { at = k.at; view = k.view; there = set_else views by k.at w apart ∙ k.there; all = k.all; share = k.share }

  -- an end adds a parcel
  pub adds : (parcels : List Parcel) (views : List Known) (by : ℕ) (v w : Known) (x : Parcel) → get_elem? views by ≡ some v → HasShare (of v) → of w ≡ side (of v).share (parcels ++ x ∷ []) ((of v).own + 1) → Told of parcels views
      → Told of (parcels ++ x ∷ []) (set views by w)
  adds parcels views by v w x at some_share is told = record {
    whole = λ scale deep.
        let mine : deepest (of v).share ≤ scale = subst (λ (s : Side). deepest s.share ≤ scale) is (deep by w (set_here views by w (there views by v at))) in
        let s = total_set (λ v. sizes scale (of v).share) views by v w at in
        let e : sizes scale (of w).share ≡ sizes scale (of v).share = ap (λ (s : Side). sizes scale s.share) is in
        let t = told.whole scale (each_back (λ v. deepest (of v).share ≤ scale) views by v w at mine deep) in omega (arith, s, e, t);
    counted =
        let s = total_set (λ v. (of v).own) views by v w at in
        let e : (of w).own ≡ (of v).own + 1 = ap (λ (s : Side). s.own) is in
        let t = told.counted in omega (arith, s, e, t, length-append parcels (x ∷ []));
    fits = each_set (λ v. Fits (parcels ++ x ∷ []) (of v)) views by w (λ j u e. let f = told.fits j u e in record { beginning = prefix_more (of u).seen parcels (x ∷ []) f.beginning; idle = f.idle }) (subst (Fits (parcels ++ x ∷ [])) (sym is) (record { beginning = prefix_self (parcels ++ x ∷ []); idle = λ (none : (of v).share ≡ []). let n = ap length none in absurd (omega (arith, n, some_share)) }));
    last = inr (record { at = by; view = w; there = set_here views by w (there views by v at); all = ap (λ (s : Side). s.seen) is; share = subst HasShare (sym is) some_share });
  }

  -- an end is split
  pub forks : (parcels : List Parcel) (views : List Known) (by : ℕ) (v left right : Known) → get_elem? views by ≡ some v → Forked (of v) (of left) (of right) → Told of parcels views → Told of parcels (set views by left ++ right ∷ [])
  forks parcels views by v left right at forked told = record {
    whole = λ scale deep.
        let others = each_front (λ v. deepest (of v).share ≤ scale) (set views by left) right deep in
        let l : deepest (of left).share ≤ scale = others by left (set_here views by left (there views by v at)) in
        let r : deepest (of right).share ≤ scale = deep (length (set views by left)) right (at_last (set views by left) right (length (set views by left)) refl) in
        let mine = forked.splits.deep scale l r in
        let s = total_set (λ v. sizes scale (of v).share) views by v left at in
        let n = total_snoc (λ v. sizes scale (of v).share) (set views by left) right in
        let e = forked.splits.sums scale l r in
        let t = told.whole scale (each_back (λ v. deepest (of v).share ≤ scale) views by v left at mine others) in omega (arith, s, n, e, t);
    counted =
        let s = total_set (λ v. (of v).own) views by v left at in
        let n = total_snoc (λ v. (of v).own) (set views by left) right in
        let e = forked.own in
        let t = told.counted in omega (arith, s, n, e, t);
    fits =
        let mine = told.fits by v at in
        each_snoc (λ v. Fits parcels (of v)) (set views by left) right (each_set (λ v. Fits parcels (of v)) views by left told.fits (forked.left parcels mine)) (forked.right parcels mine);
    last = ⊎_elim (λ e. inl e) (λ (k : IsLast of parcels views). inr (last_of k (ℕ_discrete k.at by))) told.last;
  }
    where
      last_of : (k : IsLast of parcels views) → Dec (k.at ≡ by) → IsLast of parcels (set views by left ++ right ∷ [])
      last_of k (yes is) =
          let v_is : k.view ≡ v = some-injective _ _ (sym k.there ∙ (ap (get_elem? views) is ∙ at)) in
          let all : (of v).seen ≡ parcels = ap (λ (v : Known). (of v).seen) (sym v_is) ∙ k.all in
          ⊎_elim
          (λ (l : HasShare (of left) × ((of left).seen ≡ (of v).seen)). record { at = by; view = left; there = at_longer (set views by left) (right ∷ []) by left (set_here views by left (there views by v at)); all = l.1 ∙ all; share = l.0 })
          (λ (r : HasShare (of right) × ((of right).seen ≡ (of v).seen)). record { at = length (set views by left); view = right; there = at_last (set views by left) right (length (set views by left)) refl; all = r.1 ∙ all; share = r.0 })
          (forked.some_left (subst (λ (v : Known). HasShare (of v)) v_is k.share))
      last_of k (no apart) = record { at = k.at; view = k.view; there = at_longer (set views by left) (right ∷ []) k.at k.view (set_else views by k.at left apart ∙ k.there); all = k.all; share = k.share }

  join_share : (a b : List ℕ) → (0 < length a) ⊎ (0 < length b) → 0 < length (a ++ b)
  join_share a b h = let n = length-append a b in ⊎_elim (λ (x : 0 < length a). omega (arith, n, x)) (λ (x : 0 < length b). omega (arith, n, x)) h

  join_idle : (a b : List ℕ) (m n : ℕ) → (a ≡ [] → m ≡ 0) → (b ≡ [] → n ≡ 0) → a ++ b ≡ [] → m + n ≡ 0
  join_idle [] b m n x y e = let p = x refl in let q = y e in omega (arith, p, q)
  join_idle (k ∷ a) b m n x y e = let z = ap length e in absurd (omega (arith, z))

  -- two ends become one
  pub joins : (parcels : List Parcel) (views : List Known) (by : ℕ) (v : Known) (other : ℕ) (w both spent : Known) → get_elem? views by ≡ some v → other ≢ by → get_elem? views other ≡ some w
      → of both ≡ side_joined (of v) (of w) → of spent ≡ nothing → Told of parcels views → Told of parcels (set (set views by both) other spent)
  joins parcels views by v other w both spent at apart was both_is spent_is told = record {
    whole = λ scale deep.
        let joint : deepest (of both).share ≤ scale = deep by both both_there in
        let parts = deepest_append (of v).share (of w).share in
        let e : (of both).share ≡ (of v).share ++ (of w).share = ap (λ (s : Side). s.share) both_is in
        let d : deepest (of both).share ≡ deepest ((of v).share ++ (of w).share) = ap deepest e in
        let mine : deepest (of v).share ≤ scale = omega (arith, joint, parts, d) in
        let theirs : deepest (of w).share ≤ scale = omega (arith, joint, parts, d) in
        let once = each_back (λ v. deepest (of v).share ≤ scale) (set views by both) other w spent there_w theirs deep in
        let s = total_set (λ v. sizes scale (of v).share) views by v both at in
        let n = total_set (λ v. sizes scale (of v).share) (set views by both) other w spent there_w in
        let a : sizes scale (of both).share ≡ sizes scale (of v).share + sizes scale (of w).share = ap (sizes scale) e ∙ sizes_append scale (of v).share (of w).share in
        let z : sizes scale (of spent).share ≡ 0 = ap (λ (s : Side). sizes scale s.share) spent_is in
        let t = told.whole scale (each_back (λ v. deepest (of v).share ≤ scale) views by v both at mine once) in omega (arith, s, n, a, z, t);
    counted =
        let s = total_set (λ v. (of v).own) views by v both at in
        let n = total_set (λ v. (of v).own) (set views by both) other w spent there_w in
        let a : (of both).own ≡ (of v).own + (of w).own = ap (λ (s : Side). s.own) both_is in
        let z : (of spent).own ≡ 0 = ap (λ (s : Side). s.own) spent_is in
        let t = told.counted in omega (arith, s, n, a, z, t);
    fits =
        each_set (λ v. Fits parcels (of v)) (set views by both) other spent
        (each_set (λ v. Fits parcels (of v)) views by both told.fits (subst (Fits parcels) (sym both_is) (record {
          beginning = longer_fits parcels (of v).seen (of w).seen (nat_lt (length (of v).seen) (length (of w).seen)) mine.beginning theirs.beginning;
          idle = join_idle (of v).share (of w).share (of v).own (of w).own mine.idle theirs.idle;
        })))
        (subst (Fits parcels) (sym spent_is) (record { beginning = (parcels, refl); idle = λ none. refl }));
    last = ⊎_elim (λ e. inl e) (λ (k : IsLast of parcels views). inr (last_of k (ℕ_discrete k.at by) (ℕ_discrete k.at other))) told.last;
  }
    where
      mine : Fits parcels (of v)
      mine = told.fits by v at

      theirs : Fits parcels (of w)
      theirs = told.fits other w was

      both_there : get_elem? (set (set views by both) other spent) by ≡ some both
      both_there = set_else (set views by both) other by spent (λ k. apart (sym k)) ∙ set_here views by both (there views by v at)

      there_w : get_elem? (set views by both) other ≡ some w
      there_w = set_else views by other both apart ∙ was

      whole_list : ((of v).seen ≡ parcels) ⊎ ((of w).seen ≡ parcels) → (of both).seen ≡ parcels
      whole_list h = ap (λ (s : Side). s.seen) both_is ∙ longer_whole parcels (of v).seen (of w).seen (nat_lt (length (of v).seen) (length (of w).seen)) refl mine.beginning theirs.beginning h

      share_of : HasShare (of v) ⊎ HasShare (of w) → HasShare (of both)
      share_of h = subst HasShare (sym both_is) (join_share (of v).share (of w).share h)

      last_of : (k : IsLast of parcels views) → Dec (k.at ≡ by) → Dec (k.at ≡ other) → IsLast of parcels (set (set views by both) other spent)
      last_of k (yes is) d =
          let v_is : k.view ≡ v = some-injective _ _ (sym k.there ∙ (ap (get_elem? views) is ∙ at)) in
          record { at = by; view = both; there = both_there; all = whole_list (inl (ap (λ (v : Known). (of v).seen) (sym v_is) ∙ k.all)); share = share_of (inl (subst (λ (v : Known). HasShare (of v)) v_is k.share)) }
      last_of k (no n) (yes is) =
          let w_is : k.view ≡ w = some-injective _ _ (sym k.there ∙ (ap (get_elem? views) is ∙ was)) in
          record { at = by; view = both; there = both_there; all = whole_list (inr (ap (λ (v : Known). (of v).seen) (sym w_is) ∙ k.all)); share = share_of (inr (subst (λ (v : Known). HasShare (of v)) w_is k.share)) }
      last_of k (no n) (no m) =
          record { at = k.at; view = k.view; there = set_else (set views by both) other k.at spent m ∙ (set_else views by k.at both n ∙ k.there); all = k.all; share = k.share }

  -- the scale at which each share is a number
  abbrev depth_of : List Known → ℕ
  depth_of views = total (λ v. deepest (of v).share) views

  -- whoever has the whole right is the only one with a share
  lone : (parcels : List Parcel) (views : List Known) (by j : ℕ) (v u : Known) → Told of parcels views → get_elem? views by ≡ some v → IsWhole (of v).share → j ≢ by → get_elem? views j ≡ some u → HasShare (of u) → ⊥
  lone parcels views by j v u told at whole apart e some_share =
      let scale = depth_of views in
      let deep : Each (λ v. deepest (of v).share ≤ scale) views = λ k w g. total_at (λ v. deepest (of v).share) views k w g in
      let all = told.whole scale deep in
      let mine = whole scale (deep by v at) in
      let theirs = sizes_some scale (of u).share some_share (deep j u e) in
      let two = total_two (λ v. sizes scale (of v).share) views j by u v apart e at in
      omega (arith, all, mine, theirs, two)

  no_share : (s : List ℕ) → (0 < length s → ⊥) → s ≡ []
  no_share [] h = refl
  no_share (k ∷ s) h = absurd (h (omega arith))

  -- what an end knows of the side at a moment
  pub agrees : (parcels : List Parcel) (views : List Known) (by : ℕ) (v : Known) → get_elem? views by ≡ some v → Told of parcels views → Agrees parcels (of v)
  agrees parcels views by v at told = record {
    beginning = mine.beginning;
    all_seen = λ whole. ⊎_elim
        (λ (e : parcels ≡ []). prefix_whole (of v).seen parcels mine.beginning (let n = ap length e in omega (arith, n)))
        (λ (k : IsLast of parcels views). seen_of_last k whole (ℕ_discrete k.at by)) told.last;
    each_once = λ whole. sym (total_lone (λ v. (of v).own) views by v at (λ j u apart e. (told.fits j u e).idle (no_share (of u).share (λ some_share. lone parcels views by j v u told at whole apart e some_share)))) ∙ told.counted;
  }
    where
      mine : Fits parcels (of v)
      mine = told.fits by v at

      seen_of_last : (k : IsLast of parcels views) → IsWhole (of v).share → Dec (k.at ≡ by) → (of v).seen ≡ parcels
      seen_of_last k whole (yes is) =
          let v_is : k.view ≡ v = some-injective _ _ (sym k.there ∙ (ap (get_elem? views) is ∙ at)) in
          ap (λ (v : Known). (of v).seen) (sym v_is) ∙ k.all
      seen_of_last k whole (no apart) = absurd (lone parcels views by k.at v k.view told at whole apart k.there k.share)
