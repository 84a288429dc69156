-- What one read is told, if it found the keys. It is private: no contract of a public call cites it.
use Rattle.std.specs.Prelude.{⊤}
use Rattle.hk_joint_reads.specs.declared.read.Joint.{Joint}
use Rattle.hk_joint_reads.specs.declared.read.Joint.TheVariants.{Found, Elsewhere, Moved, Busy, Large}
use Rattle.hk_joint_storm.specs.Keys.{IsOfKeys}

abbrev pub IsOfStorm : Joint → Type 0
IsOfStorm (Found found) = IsOfKeys found
IsOfStorm (Elsewhere key) = ⊤
IsOfStorm (Moved key first second) = ⊤
IsOfStorm (Busy why) = ⊤
IsOfStorm (Large key) = ⊤
