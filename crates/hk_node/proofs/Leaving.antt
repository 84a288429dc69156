-- What updates leave, and that they stand above `0.0`.
use Rattle.std.proofs.Common.{◌≡◌, ◌<◌, ℕ, List, [], ◌∷◌, true, nat_lt, Option, Some, None, refl, arith}
use Rattle.std.specs.List.{AllByRecursion}
use Rattle.std.proofs.lemmas.Bool.Decides.{nat_tests}
use Rattle.std.proofs.lemmas.List.Elements.{recursion_from_All}
use Rattle.hk_base.specs.declared.call.Content.{Content}
use Rattle.hk_base.specs.declared.call.Op.{Op}
use Rattle.hk_base.specs.declared.letter.CopyItem.{CopyItem}
use Rattle.hk_base.specs.declared.stamp.Kind.TheVariants.{Rmw}
use Rattle.hk_base.specs.declared.stamp.Stamp.{Stamp}
use Rattle.hk_base.specs.Range.{IsWithin, Leaves, IsBatch}
use Rattle.hk_base.specs.Register.{act}
use Rattle.hk_base.specs.Stamp.{tag_of}
use Rattle.hk_node.specs.Calls.{kind_of}

-- a read-modify-write may leave anything
rmw_leaves : (content : Option Content) → Leaves Rmw content
rmw_leaves (Some c) = tt
rmw_leaves None = refl

-- an operation leaves what an update of its kind may leave
pub act_leaves : (op : Op) (held : Option Content) (tag newtag : ℕ) → Leaves (kind_of op) (act op (record { content = held; tag = tag }) newtag).register.content
act_leaves (Op.Write c) None tag newtag = tt
act_leaves (Op.Write c) (Some held) tag newtag = tt
act_leaves Op.Read held tag newtag = rmw_leaves _
act_leaves (Op.Cas t c) held tag newtag = rmw_leaves _
act_leaves (Op.Incr n) held tag newtag = rmw_leaves _
act_leaves (Op.Decr n) held tag newtag = rmw_leaves _
act_leaves (Op.Add c) held tag newtag = rmw_leaves _
act_leaves (Op.Replace c) held tag newtag = rmw_leaves _
act_leaves Op.Delete held tag newtag = rmw_leaves _

-- a stamp of a later version is above `0.0`
pub later_above : (a s : Stamp) → a.version < s.version → 0 < tag_of s
later_above a s later = omega arith

pub touched_above : (s : Stamp) → nat_lt 0 (tag_of s) ≡ true → 0 < tag_of s
touched_above s touched = grind (arith, nat_tests)

-- a copied row that is in range
abbrev pub IsItem : CopyItem → Type 0
IsItem item = IsWithin item.stamp × Leaves item.kind item.content

both_all : {X : Type 0} (P Q : X → Type 0) (xs : List X) → AllByRecursion P xs → AllByRecursion Q xs → AllByRecursion (λ x. P x × Q x) xs
both_all P Q [] p q = tt
both_all P Q (x ∷ xs) p q = ((p.0, q.0), both_all P Q xs p.1 q.1)

pub batch_items : (items : List CopyItem) → IsBatch items → AllByRecursion IsItem items
batch_items items batch = both_all (λ item. IsWithin item.stamp) (λ item. Leaves item.kind item.content) items
    (recursion_from_All (λ item. IsWithin item.stamp) items batch.within)
    (recursion_from_All (λ item. Leaves item.kind item.content) items batch.leaves)
