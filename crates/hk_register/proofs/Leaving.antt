-- An update that leaves nothing is a read-modify-write.
use Rattle.std.proofs.Common.{◌≡◌, ℕ, true, List, [], Option, Some, None, refl, ap, ◌∙◌, subst}
use Rattle.std.proofs.lemmas.Bool.{false≢true}
use Rattle.hk_base.specs.declared.call.Content.{Content}
use Rattle.hk_base.specs.declared.call.Op.{Op}
use Rattle.hk_base.specs.declared.call.Op.TheVariants as Op
use Rattle.hk_base.specs.declared.stamp.Kind.{Kind}
use Rattle.hk_base.specs.declared.stamp.Kind.TheVariants as Kind
use Rattle.hk_base.specs.Range.{Leaves}
use Rattle.hk_base.specs.Register.{Register, Acted, first, act}
use Rattle.hk_register.specs.Machine.{In, Update, RegisterState}
use Rattle.hk_register.specs.Effects.{register_of, IsBlind}
use Rattle.hk_register.specs.Parts.{Parts, Made}
use Rattle.hk_register.specs.Laws.{OnlyRmwLeavesNothing}
use Rattle.hk_register.proofs.Runs.{reached_parts}

-- where something is held
abbrev full : Register
full = record { content = Some (record { flags = 0; bytes = [] }); tag = 0 }

-- an operation that changes each register, and what it leaves does not depend on what was there, leaves a content
blind_leaves : (op : Op) (tag : ℕ) (left : Option Content) → IsBlind op → ((r : Register) → (act op r tag).changed ≡ true) → ((r : Register) → (act op r tag).register.content ≡ left) → Leaves Kind.Write left
blind_leaves Op.Read tag left blind changed leaves = absurd (false≢true (changed first))
blind_leaves (Op.Write c) tag left blind changed leaves = subst (Leaves Kind.Write) (leaves first) tt
blind_leaves (Op.Cas t c) tag left blind changed leaves = absurd (false≢true (changed first))
blind_leaves (Op.Incr n) tag left blind changed leaves = absurd (false≢true (changed first))
blind_leaves (Op.Decr n) tag left blind changed leaves = absurd (false≢true (changed first))
blind_leaves (Op.Add c) tag left blind changed leaves = absurd (false≢true (changed full))
blind_leaves (Op.Replace c) tag left blind changed leaves = absurd (false≢true (changed first))
blind_leaves Op.Delete tag left blind changed leaves = absurd (false≢true (changed first))

made_leaves : (st : RegisterState) (u : Update) → Made st u → (kind : Kind) → u.kind ≡ kind → Leaves kind u.content
made_leaves st u made Kind.Rmw e = by_content u.content
  where
    by_content : (content : Option Content) → Leaves Kind.Rmw content
    by_content (Some c) = tt
    by_content None = refl
made_leaves st u made Kind.Write e =
    let blind : IsBlind u.op = made.blind e in
    let was : Register = register_of made.base_content u.base in
    blind_leaves u.op u.stamp u.content blind
    (λ r. ap (λ (a : Acted). a.changed) (blind r was u.stamp) ∙ made.changes.changed)
    (λ r. ap (λ (a : Acted). a.register.content) (blind r was u.stamp) ∙ ap (λ (q : Register). q.content) made.changes.register)

pub only_rmw_leaves_nothing : OnlyRmwLeavesNothing
only_rmw_leaves_nothing V st reached u begun = made_leaves st u ((reached_parts V st reached).updates u begun).made u.kind refl
