use Rattle.std.proofs.Common.{rules, ◌≡◌, ◌<◌, Some, length, refl, inl}
use Rattle.std.proofs.lemmas.List.Quantifiers.{position-Some}
use Rattle.std.proofs.lemmas.Option.{slice_get_read}
use Rattle.hk_overseer.specs.Sends.{is_same, place_of}
use Rattle.hk_overseer.proofs.outlets.send.Goals as goal

pub returns : goal.returns
returns g c =
    let xs = c.args.outlets.now.items in
    let found : place_of c.args.letter.to xs ≡ Some c.in-Some.place = search rules in
    let below : c.in-Some.place < length xs = (position-Some (λ o. is_same c.args.letter.to o.0) xs c.in-Some.place c.index_mut.result.now found).0 in
    let there = slice_get_read xs (length xs) c.in-Some.place c.index_mut.result.now refl below c.index_mut.ensures.value in
    inl (c.in-Some.place, found, record { actor = c.index_mut.result.now.0; old = c.index_mut.result.now.1; new = c.offer.new.outlet; there = there; offered = c.offer.ensures; after_it = refl })
