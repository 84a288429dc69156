-- What a pass of a link knows.
use Rattle.crossbeam_queue.specs.Passes.{Pass, view}
use Rattle.hk_link.specs.declared.parcel.Parcel.{Parcel}
use Rattle.hk_link.specs.declared.rule.Known.{Known}

abbrev pub known_of : Pass Parcel Known → Known
known_of pass = view pass
