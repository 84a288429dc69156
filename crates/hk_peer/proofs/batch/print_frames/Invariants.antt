use Rattle.std.proofs.Common.{◌≡◌, ◌++◌, drop}
use Rattle.hk_peer.specs.Parcels.{frames_of}
use Rattle.hk_peer.proofs.batch.print_frames.Given as goal

-- what was printed, and then the frames of the parcels that are left, are the frames of all
abbrev pub invariant-loop-parcel : goal.invariant-loop-parcel
invariant-loop-parcel l = l.frames.items ++ frames_of (drop l.parcel-index l.parcels) ≡ frames_of l.parcels
