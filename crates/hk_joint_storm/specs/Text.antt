-- The lines that a storm of joint reads writes.
use Rattle.std.specs.Prelude.{ℕ, List, ◌++◌, ◌-◌, Option, None, Some, codes, decimal}
use Rattle.hk_joint_storm.specs.declared.gaps.JointGap.{JointGap}

-- what was asked for
abbrev pub request_line : ℕ → ℕ → List ℕ
request_line workers reads = codes "joint-storm " ++ decimal workers ++ codes " " ++ decimal reads ++ codes "\n"

-- how many reads were Found, and how many were told something else
abbrev pub founds_line : ℕ → ℕ → List ℕ
founds_line reads founds = codes "found " ++ decimal founds ++ codes " moved " ++ decimal (reads - founds) ++ codes " legal\n"

abbrev pub kept_text : Option ℕ → List ℕ
kept_text None = codes "none"
kept_text (Some ticket) = decimal ticket

-- a key was shown as one step left it, and another one, or none, had changed it last
abbrev pub gap_line : JointGap → List ℕ
gap_line gap = codes "gap joint " ++ decimal gap.shown ++ codes " " ++ kept_text gap.kept ++ codes "\n"

abbrev pub text_of : ℕ → ℕ → ℕ → Option JointGap → List ℕ
text_of workers reads founds None = request_line workers reads ++ founds_line reads founds
text_of workers reads founds (Some gap) = gap_line gap
