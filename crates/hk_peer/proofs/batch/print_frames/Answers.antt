use Rattle.std.proofs.Common.{◌+◌, List, ◌∷◌, drop, sym, ap, ◌∙◌}
use Rattle.std.proofs.lemmas.List.{at_drop_more}
use Rattle.hk_link.specs.declared.parcel.Parcel.{Parcel}
use Rattle.hk_peer.proofs.Batched.{printed_more}
use Rattle.hk_peer.proofs.batch.print_frames.Goals as goal

pub loop-parcel-preserved : goal.loop-parcel-preserved
loop-parcel-preserved c =
    let l = c.loop-parcel in
    let all = c.args.parcels.now in
    let next = at_drop_more (λ (ps : List Parcel). ps) all l.parcel-index c.parcel-item.result c.loop-parcel-test.true
    ∙ ap (λ (p : Parcel). p ∷ drop (l.parcel-index + 1) all) (sym c.parcel-item.is) in
    printed_more _ _ _ _ c.parcel-item.result _ l.invariant next c.in_ok-print_letter.ensures.printed
