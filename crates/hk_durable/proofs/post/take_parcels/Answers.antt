use Rattle.std.proofs.Common.{◌≡◌, ◌+◌, ◌++◌, ◌∷◌, [], List, length, sym, ap, ◌∙◌, subst, arith}
use Rattle.std.proofs.lemmas.List.{length-append}
use Rattle.hk_link.specs.declared.parcel.Parcel.{Parcel}
use Rattle.hk_durable.specs.Turns.{AreTaken}
use Rattle.hk_durable.proofs.Taking.{taken_more}
use Rattle.hk_durable.proofs.post.take_parcels.Goals as goal

pub loop-taken-preserved : goal.loop-taken-preserved
loop-taken-preserved g c =
    let before = c.loop-taken.parcels.items in
    let grown : c.push_reserved.new.self.items ≡ before ++ c.in-Some.parcel ∷ [] = c.push_reserved.ensures.items ∙ ap (λ (l : List Parcel). l ++ c.in-Some.parcel ∷ []) c.reserve.ensures.items in
    let longer : length c.push_reserved.new.self.items ≡ length before + 1 = ap (λ (l : List Parcel). length l) grown ∙ length-append before (c.in-Some.parcel ∷ []) in
    let so_far = c.loop-taken.invariant.1 in (
      subst (λ (l : List Parcel). AreTaken l c.args.inlet.now c.take.new.self) (sym grown)
          (taken_more before c.args.inlet.now c.loop-taken.inlet c.take.new.self c.in-Some.parcel c.loop-taken.invariant.0 c.take.ensures.link c.in-Some.ensures.taken),
      omega (arith, longer, so_far),
    )
