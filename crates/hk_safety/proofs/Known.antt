-- What evidence tells of marks, and how it grows with them.
use Rattle.std.proofs.Common.{◌≡◌, ℕ, Bool, true, false, ◌&&◌, ◌||◌, List, [], ◌∷◌, ◌∙◌, sym, refl, ap, ap₂, subst, eqb}
use Rattle.std.specs.List.{list_all}
use Rattle.std.proofs.lemmas.Bool.{false≢true, eqb-true, eq-eqb, and_parts, and_from, or_right}
use Rattle.hk_base.specs.declared.stamp.NodeId.{NodeId}
use Rattle.hk_base.specs.declared.view.View.{View}
use Rattle.hk_base.specs.View.{member_numbers}
use Rattle.hk_register.specs.Machine.{Mark}
use Rattle.hk_register.specs.Printed.{is_mark}
use Rattle.hk_register.proofs.Tests.{all_in, in_all}
use Rattle.hk_safety.specs.declared.evidence.Cover.{Cover}
use Rattle.hk_safety.specs.declared.evidence.Evidence.{Evidence}
use Rattle.hk_safety.specs.declared.evidence.Evidence.TheVariants.{Covers}
use Rattle.hk_safety.specs.declared.evidence.Evidence.TheVariants as Evidence
use Rattle.hk_safety.specs.Kept.{Groups, group_at, is_among, covers_in, is_ready_mark, ready_in, AreToldBy}
use Rattle.hk_safety.specs.Grown.{IsGroupPut, completes, IsShown, CompleteBy, IsKnownBy, mark_by}

-- ---- lists of marks that tell the same of a stamp, or no less
pub record TellNoLess (few more : List Mark) (s : ℕ) : Type 0 where
  pub covers : (n e : ℕ) → covers_in few s n e ≡ true → covers_in more s n e ≡ true
  pub ready : (e : ℕ) → ready_in few s e ≡ true → ready_in more s e ≡ true

pub record TellSame (ms ns : List Mark) (s : ℕ) : Type 0 where
  pub covers : (n e : ℕ) → covers_in ms s n e ≡ covers_in ns s n e
  pub ready : (e : ℕ) → ready_in ms s e ≡ ready_in ns s e

same_bits : (a b : Bool) → (a ≡ true → b ≡ true) → (b ≡ true → a ≡ true) → a ≡ b
same_bits true b f g = sym (f refl)
same_bits false true f g = absurd (false≢true (g refl))
same_bits false false f g = refl

pub same_of_both : (ms ns : List Mark) (s : ℕ) → TellNoLess ms ns s → TellNoLess ns ms s → TellSame ms ns s
same_of_both ms ns s a b = record {
  covers = λ n e. same_bits (covers_in ms s n e) (covers_in ns s n e) (a.covers n e) (b.covers n e);
  ready = λ e. same_bits (ready_in ms s e) (ready_in ns s e) (a.ready e) (b.ready e);
}

pub more_complete : (V : ℕ → List ℕ) (few more : List Mark) (s : ℕ) → TellNoLess few more s → CompleteBy V few s → CompleteBy V more s
more_complete V few more s less (e, r, all) = (
  e,
  less.ready e r,
  in_all (λ n. covers_in more s n e) (V e) (λ n h. less.covers n e (all_in (λ n. covers_in few s n e) (V e) all n h)),
)

pub same_less : (ms ns : List Mark) (s : ℕ) → TellSame ms ns s → TellNoLess ms ns s
same_less ms ns s same = record { covers = λ n e h. sym (same.covers n e) ∙ h; ready = λ e h. sym (same.ready e) ∙ h }

pub same_back : (ms ns : List Mark) (s : ℕ) → TellSame ms ns s → TellSame ns ms s
same_back ms ns s same = record { covers = λ n e. sym (same.covers n e); ready = λ e. sym (same.ready e) }

pub same_known : (V : ℕ → List ℕ) (ms ns : List Mark) (s : ℕ) (ev : Evidence) → TellSame ms ns s → IsKnownBy V ms s ev → IsKnownBy V ns s ev
same_known V ms ns s (Evidence.Complete event) same k = more_complete V ms ns s (same_less ms ns s same) k
same_known V ms ns s (Covers groups) same k = (
  λ c. k.0 (more_complete V ns ms s (same_less ns ms s (same_back ms ns s same)) c),
  record { nodes = λ n e. k.1.nodes n e ∙ same.covers n e; ready = λ e. k.1.ready e ∙ same.ready e },
)

-- ---- a mark more
swapped : (a b : ℕ) → eqb a b ≡ eqb b a
swapped a b = same_bits (eqb a b) (eqb b a) (λ e. eq-eqb b a (sym (eqb-true a b e))) (λ e. eq-eqb a b (sym (eqb-true b a e)))

with_true : (b : Bool) → b && true ≡ b
with_true true = refl
with_true false = refl

-- whom a cover's mark names
own_covers : (c : Cover) (v : View) (s n e : ℕ) → is_mark n e s (mark_by c v s) ≡ (eqb n c.node.0 && eqb e v.epoch)
own_covers c v s n e =
    ap₂ (λ (x y : Bool). x && (y && eqb s s)) (swapped c.node.0 n) (swapped v.epoch e)
    ∙ ap (λ (z : Bool). eqb n c.node.0 && (eqb e v.epoch && z)) (eq-eqb s s refl) ∙ ap (λ (z : Bool). eqb n c.node.0 && z) (with_true (eqb e v.epoch))

own_ready : (c : Cover) (v : View) (s e : ℕ) → is_ready_mark e s (mark_by c v s) ≡ (c.ready && eqb e v.epoch)
own_ready c v s e =
    ap (λ (y : Bool). c.ready && (y && eqb s s)) (swapped v.epoch e) ∙ ap (λ (z : Bool). c.ready && (eqb e v.epoch && z)) (eq-eqb s s refl)
    ∙ ap (λ (z : Bool). c.ready && z) (with_true (eqb e v.epoch))

pub more_marks : (m : Mark) (marks : List Mark) (s : ℕ) → TellNoLess marks (m ∷ marks) s
more_marks m marks s = record {
  covers = λ n e h. or_right (is_mark n e s m) (covers_in marks s n e) h;
  ready = λ e h. or_right (is_ready_mark e s m) (ready_in marks s e) h;
}

either : (a b : Bool) → (a || b) ≡ (b || a)
either true true = refl
either true false = refl
either false true = refl
either false false = refl

pub all_numbers : (p : ℕ → Bool) (members : List NodeId) → list_all (λ m. p m.0) members ≡ list_all p (member_numbers members)
all_numbers p [] = refl
all_numbers p (m ∷ members) = ap (λ (b : Bool). p m.0 && b) (all_numbers p members)

module _ (V : ℕ → List ℕ) (v : View) (c : Cover) (fits : member_numbers v.members ≡ V v.epoch) (marks : List Mark) (s : ℕ) where
  abbrev now : List Mark
  now = mark_by c v s ∷ marks

  covers_now : (n e : ℕ) (b : Bool) → eqb e v.epoch ≡ b → covers_in now s n e ≡ ((eqb n c.node.0 && b) || covers_in marks s n e)
  covers_now n e b is = ap (λ (x : Bool). x || covers_in marks s n e) (own_covers c v s n e ∙ ap (λ (x : Bool). eqb n c.node.0 && x) is)

  ready_now : (e : ℕ) (b : Bool) → eqb e v.epoch ≡ b → ready_in now s e ≡ ((c.ready && b) || ready_in marks s e)
  ready_now e b is = ap (λ (x : Bool). x || ready_in marks s e) (own_ready c v s e ∙ ap (λ (x : Bool). c.ready && x) is)

  none_covers : (n e : ℕ) → eqb e v.epoch ≡ false → covers_in now s n e ≡ covers_in marks s n e
  none_covers n e other = covers_now n e false other ∙ by_test (eqb n c.node.0)
    where
      by_test : (a : Bool) → ((a && false) || covers_in marks s n e) ≡ covers_in marks s n e
      by_test true = refl
      by_test false = refl

  none_ready : (e : ℕ) → eqb e v.epoch ≡ false → ready_in now s e ≡ ready_in marks s e
  none_ready e other = ready_now e false other ∙ by_test c.ready
    where
      by_test : (a : Bool) → ((a && false) || ready_in marks s e) ≡ ready_in marks s e
      by_test true = refl
      by_test false = refl

  put_told : (old new : Groups) → AreToldBy marks s old → IsGroupPut old new v.epoch c → AreToldBy now s new
  put_told old new told put = record { nodes = λ n e. nodes n e (eqb e v.epoch) refl; ready = λ e. ready e (eqb e v.epoch) refl }
    where
      nodes : (n e : ℕ) (b : Bool) → eqb e v.epoch ≡ b → is_among n (group_at e new).nodes ≡ covers_in now s n e
      nodes n e true is =
          let same : e ≡ v.epoch = eqb-true e v.epoch is in
          ap (λ (f : ℕ). is_among n (group_at f new).nodes) same ∙ put.here.nodes n
          ∙ ap (λ (x : Bool). eqb n c.node.0 || x) (told.nodes n v.epoch ∙ ap (λ (f : ℕ). covers_in marks s n f) (sym same))
          ∙ sym (covers_now n e true is ∙ ap (λ (x : Bool). x || covers_in marks s n e) (with_true (eqb n c.node.0)))
      nodes n e false other = ap (λ (g : _). is_among n g.nodes) (put.there e other) ∙ told.nodes n e ∙ sym (none_covers n e other)

      ready : (e : ℕ) (b : Bool) → eqb e v.epoch ≡ b → (group_at e new).ready ≡ ready_in now s e
      ready e true is =
          let same : e ≡ v.epoch = eqb-true e v.epoch is in
          ap (λ (f : ℕ). (group_at f new).ready) same ∙ put.here.ready
          ∙ ap (λ (x : Bool). x || c.ready) (told.ready v.epoch ∙ ap (ready_in marks s) (sym same)) ∙ either (ready_in marks s e) c.ready
          ∙ sym (ready_now e true is ∙ ap (λ (x : Bool). x || ready_in marks s e) (with_true c.ready))
      ready e false other = ap (λ (g : _). g.ready) (put.there e other) ∙ told.ready e ∙ sym (none_ready e other)

  -- the group of the view's epoch is whole just where the stamp is complete by it
  whole_all : (new : Groups) → AreToldBy now s new → completes new v ≡ true → CompleteBy V now s
  whole_all new told whole =
      let parts = and_parts (group_at v.epoch new).ready (list_all (λ m. is_among m.0 (group_at v.epoch new).nodes) v.members) whole in
      let all : list_all (λ n. is_among n (group_at v.epoch new).nodes) (V v.epoch) ≡ true =
      subst (λ (ns : List ℕ). list_all (λ n. is_among n (group_at v.epoch new).nodes) ns ≡ true) fits
      (sym (all_numbers (λ n. is_among n (group_at v.epoch new).nodes) v.members) ∙ parts.1) in (
        v.epoch,
        sym (told.ready v.epoch) ∙ parts.0,
        in_all (λ n. covers_in now s n v.epoch) (V v.epoch)
            (λ n h. sym (told.nodes n v.epoch) ∙ all_in (λ n. is_among n (group_at v.epoch new).nodes) (V v.epoch) all n h),
      )

  all_whole : (new : Groups) → AreToldBy now s new → completes new v ≡ false → (CompleteBy V marks s → ⊥) → CompleteBy V now s → ⊥
  all_whole new told part not (e, r, all) = by_epoch (eqb e v.epoch) refl
    where
      by_epoch : (b : Bool) → eqb e v.epoch ≡ b → ⊥
      by_epoch true is =
          let same : e ≡ v.epoch = eqb-true e v.epoch is in
          let ready : (group_at v.epoch new).ready ≡ true = told.ready v.epoch ∙ subst (λ (f : ℕ). ready_in now s f ≡ true) same r in
          let each : list_all (λ n. is_among n (group_at v.epoch new).nodes) (V v.epoch) ≡ true =
          in_all (λ n. is_among n (group_at v.epoch new).nodes) (V v.epoch)
          (λ n h. told.nodes n v.epoch ∙ all_in (λ n. covers_in now s n v.epoch) (V v.epoch)
          (subst (λ (f : ℕ). list_all (λ n. covers_in now s n f) (V f) ≡ true) same all) n h) in
          let members : list_all (λ m. is_among m.0 (group_at v.epoch new).nodes) v.members ≡ true =
          all_numbers (λ n. is_among n (group_at v.epoch new).nodes) v.members
          ∙ subst (λ (ns : List ℕ). list_all (λ n. is_among n (group_at v.epoch new).nodes) ns ≡ true) (sym fits) each in
          false≢true (sym part ∙ and_from (group_at v.epoch new).ready _ ready members)
      by_epoch false other = not (
        e,
        sym (none_ready e other) ∙ r,
        in_all (λ n. covers_in marks s n e) (V e) (λ n h. sym (none_covers n e other) ∙ all_in (λ n. covers_in now s n e) (V e) all n h),
      )

  pub shown_known : (old new : Evidence) → IsShown old new v c → IsKnownBy V marks s old → IsKnownBy V now s new
  shown_known (Evidence.Complete event) new shown k = subst (IsKnownBy V now s) (sym shown) (more_complete V marks now s (more_marks (mark_by c v s) marks s) k)
  shown_known (Covers old) (Evidence.Complete event) shown k = whole_all shown.0 (put_told old shown.0 k.1 shown.1) shown.2
  shown_known (Covers old) (Covers new) shown k =
      let told = put_told old new k.1 shown.0 in
      (all_whole new told shown.1 k.0, told)
