use Rattle.std.proofs.Common.{refl, inl}
use Rattle.hk_overseer.proofs.outlets.offer.Goals as goal

pub returns-in-Ok : goal.returns-in-Ok
returns-in-Ok g c = (c.put_quietly.ensures.link, inl (record { parcel = _; to_shard = refl; with_letter = refl; put = c.in-Ok.ensures.put }))
