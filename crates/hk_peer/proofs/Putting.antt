-- What several puts come to.
use Rattle.std.proofs.Common.{◌≡◌, ◌+◌, List, [], ◌∷◌, ◌++◌, length, sym, ap, subst, ◌∙◌, arith, append_assoc, append-nil}
use Rattle.hk_link.specs.declared.parcel.Parcel.{Parcel}
use Rattle.hk_link.specs.declared.rule.Side.{Side}
use Rattle.hk_link.specs.declared.rule.Known.{Known}
use Rattle.hk_link.specs.Share.{IsWhole}
use Rattle.hk_peer.specs.Parcels.{ArePut}

pub own_more : (before after : Known) (parcels : List Parcel) → ArePut before parcels after → after.put.own ≡ before.put.own + length parcels
own_more before after [] put = ap (λ (k : Known). k.put.own) put ∙ omega arith
own_more before after (p ∷ parcels) put =
    let one : put.0.put.own ≡ before.put.own + 1 = ap (λ (s : Side). s.own) put.1.put.added in
    let rest = own_more put.0 after parcels put.2 in
    omega (arith, one, rest)

pub alone_more : (before after : Known) (parcels : List Parcel) → ArePut before parcels after → IsWhole before.put.share → after.put.seen ≡ before.put.seen ++ parcels
alone_more before after [] put whole = ap (λ (k : Known). k.put.seen) put ∙ sym (append-nil before.put.seen)
alone_more before after (p ∷ parcels) put whole =
    let share : put.0.put.share ≡ before.put.share = ap (λ (s : Side). s.share) put.1.put.added in
    let none = put.1.put.alone whole in
    let one : put.0.put.seen ≡ before.put.seen ++ p ∷ [] = ap (λ (s : Side). s.seen) put.1.put.added ∙ ap (λ (xs : List Parcel). xs ++ p ∷ []) (ap (λ (xs : List Parcel). before.put.seen ++ xs) none ∙ append-nil before.put.seen) in
    let rest = alone_more put.0 after parcels put.2 (subst IsWhole (sym share) whole) in
    rest ∙ ap (λ (xs : List Parcel). xs ++ parcels) one ∙ append_assoc before.put.seen (p ∷ []) parcels
