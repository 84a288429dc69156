-- What is kept of a key gives the moment of each stamp whose update is complete, and of no other.
use Rattle.std.proofs.Common.{◌≡◌, ℕ, Bool, true, false, cond, ◌^◌, ◌<◌, ◌≤◌, List, [], ◌∷◌, ◌∙◌, sym, refl, ap, ap₂, subst, arith, eqb, Option, Some, None, IfSome}
use Rattle.std.specs.Prelude.{nat_le}
use Rattle.std.specs.Ordering.{nat_cmp}
use Rattle.std.specs.Option.{option_map}
use Rattle.std.specs.BTreeMap.Range.{range_contains, entries_between}
use Rattle.std.specs.declared.ops.Bound.TheVariants.{Included, Unbounded}
use Rattle.std.proofs.lemmas.Bool.{eqb-true, eqb-false, false_from_ne_true}
use Rattle.std.proofs.lemmas.Bool.Decides.{nat_tests}
use Rattle.hk_register.specs.Machine.{In, Update}
use Rattle.hk_register.specs.Parts.{Parts}
use Rattle.hk_node.specs.Node.{NodeState}
use Rattle.hk_effects.specs.Projection.{Trace, project, key_node, node_at}
use Rattle.hk_effects.specs.Orders.{family}
use Rattle.hk_effects.specs.Runs.{IsKept}
use Rattle.hk_effects.proofs.Legality.{own_agrees}
use Rattle.hk_effects.proofs.Rests.{row_sound, node_holds}
use Rattle.hk_safety.specs.declared.evidence.Evidence.{Evidence}
use Rattle.hk_safety.specs.declared.evidence.Evidence.TheVariants.{Covers}
use Rattle.hk_safety.specs.declared.evidence.Evidence.TheVariants as Evidence
use Rattle.hk_safety.specs.Run.{RunState, trace_of}
use Rattle.hk_safety.specs.Moment.{is_completed, moment, moment_of}
use Rattle.hk_safety.specs.Kept.{KeyState, IsKnown, IsKeyOf, HasEvents, IsSince, at_stamp}
use Rattle.hk_safety.specs.Placed.{completion, earliest, stamps_from, kept_moment}
use Rattle.hk_safety.proofs.Events.{completed, complete_of}
use Rattle.hk_safety.proofs.KeptOrder.{Kept, Ordered, some_stamp}
use Rattle.hk_safety.proofs.Moments.{earliest_whole}

-- ---- the stamps of a map from one on
from_test : (s x : ℕ) → nat_le s x ≡ range_contains nat_cmp (Included s) Unbounded x
from_test s x = grind (arith, nat_tests)

pub from_between : (s : ℕ) (stamps : List Kept) → stamps_from s stamps ≡ entries_between nat_cmp (Included s) Unbounded stamps
from_between s [] = refl
from_between s (p ∷ stamps) = ap₂ (λ (b : Bool) (rest : List Kept). cond b (p ∷ rest) rest) (from_test s p.0) (from_between s stamps)

-- ---- which stamps updates have
module _ (key : List ℕ) (t : Trace) (kept : IsKept key t) where
  abbrev V : ℕ → List ℕ
  V = family t.world.views

  parts : Parts V (project key t)
  parts = kept.parts V (own_agrees t.world kept.own)

  -- a row's stamp is within the last version
  row_within : (id : ℕ) (o : Option NodeState) → node_at id t.world.processes ≡ o → (key_node key o).stamp < 2 ^ 64
  row_within id None e = omega arith
  row_within id (Some x) e =
      let version = (row_sound x (node_holds t.world kept.own.sound id x e).1 key).within in
      let node = ((kept.own.node id x e).row key).small in
      omega (arith, version, node)

  begun_within : (u : Update) → In t.begun u → (1 ≤ u.stamp) × (u.stamp < 2 ^ 64)
  begun_within u h =
      let ok = parts.updates u h in
      let below = ok.below in
      let row = row_within u.who (node_at u.who t.world.processes) refl in
      (subst (λ (r : ℕ). 1 ≤ r) (sym ok.next) (some_stamp u.kind u.base u.who), omega (arith, below, row))

  uncompleted : (s : ℕ) → ((u : Update) → In t.begun u → u.stamp ≡ s → ⊥) → is_completed key s t ≡ false
  uncompleted s none = false_from_ne_true (is_completed key s t) (λ e. let c = complete_of key t s e in none c.0 c.1 c.2)

  none_first : is_completed key 0 t ≡ false
  none_first = uncompleted 0 (λ u h at. let within = (begun_within u h).0 in omega (arith, within, at))

  none_past : (s : ℕ) → 2 ^ 64 ≤ s → is_completed key s t ≡ false
  none_past s l = uncompleted s (λ u h at. let within = (begun_within u h).1 in omega (arith, within, at, l))

-- ---- what is told of a stamp
module _ (run : RunState) (key : List ℕ) (trace : IsKept key (trace_of key run)) where
  abbrev t : Trace
  t = trace_of key run

  none_told : (s : ℕ) → is_completed key s t ≡ false → None ≡ moment_of run key s
  none_told s none = sym (ap (λ (b : Bool). cond b (Some (moment run key s)) None) none)

  -- no update has a version past the last one
  pub told_past : (s : ℕ) → 2 ^ 64 ≤ s → None ≡ moment_of run key s
  told_past s l = none_told s (none_past key t trace s l)

  pub told_kept : (k : KeyState) → IsKeyOf key k t → HasEvents run key k → (s : ℕ) (told : Option ℕ) → told ≡ kept_moment s k → IfSome told (λ event. Ordered k.stamps) →
      told ≡ moment_of run key s
  told_kept k is had s told same ordered = by_zero (eqb s 0) refl same
    where
      by_evidence : (ev : Evidence) → (at_stamp s k).evidence ≡ ev → 1 ≤ s → IsKnown (family t.world.views) (project key t) s ev → IsSince run key s ev →
          told ≡ option_map (λ event. earliest event (stamps_from s k.stamps)) (completion ev) → told ≡ moment_of run key s
      by_evidence (Covers groups) e some known since none =
          none ∙ none_told s (false_from_ne_true (is_completed key s t) (λ c. known.0 (complete_of key t s c).3))
      by_evidence (Evidence.Complete event) e some known since found =
          let rise : Ordered k.stamps = subst (λ (o : Option ℕ). IfSome o (λ event. Ordered k.stamps)) found ordered in
          let whole = earliest_whole run key k trace is had rise s some event since.0 since.1 in
          found ∙ ap Some whole ∙ sym (ap (λ (b : Bool). cond b (Some (moment run key s)) None) (completed key t trace s some known))

      by_zero : (b : Bool) → eqb s 0 ≡ b → told ≡ cond b None (option_map (λ event. earliest event (stamps_from s k.stamps)) (completion (at_stamp s k).evidence)) →
          told ≡ moment_of run key s
      by_zero true e none = none ∙ none_told s (subst (λ (r : ℕ). is_completed key r t ≡ false) (sym (eqb-true s 0 e)) (none_first key t trace))
      by_zero false e found =
          let not = eqb-false s 0 e in
          let some : 1 ≤ s = omega (arith, not) in
          by_evidence (at_stamp s k).evidence refl some (is.known s some) (had.since s some) found
