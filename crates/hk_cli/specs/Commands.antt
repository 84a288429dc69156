-- What becomes of the words that a program is called with.
use Rattle.std.specs.Prelude.{ℕ, ◌≤◌, List, map, Option, None, Some, String, string_bytes, codes, ⊤}
use Rattle.hk_outside.specs.declared.status.Status.{Status}
use Rattle.hk_drill.specs.Drilled.{EndsDrill}
use Rattle.hk_generate.specs.Generated.{EndsGenerate}
use Rattle.hk_storm.specs.Storm.{IsStorm}
use Rattle.hk_storm.specs.Concluded.{EndsStorm}
use Rattle.hk_accept.specs.Serving.{EndsServe}
use Rattle.hk_group.specs.Founding.{IsGroup}
use Rattle.hk_process.specs.Process.{IsProcess}
use Rattle.hk_watching.specs.Watching.{EndsWatch}
use Rattle.hk_joint_storm.specs.Concluded.{EndsJointStorm}
use Rattle.hk_cli.specs.declared.words.Command.{Command}
use Rattle.hk_cli.specs.declared.words.Command.TheVariants.{Drill, Joint, Generate, Storm, Serve, Peer, Watch, JointStorm}
use Rattle.hk_cli.specs.Words.{IsCommand}

-- the bytes of each word
abbrev pub texts : {A : Type 0} → List (String A) → List (List ℕ)
texts words = map (λ w. string_bytes w) words

-- the words are no command's
abbrev pub IsNoCommand : List (List ℕ) → Type 0
IsNoCommand words = (command : Command) → IsCommand command words → ⊥

-- the one line that is written then
abbrev pub usage_line : List ℕ
usage_line = codes "usage: hermes drill | generate | storm | serve\n"

-- the statuses with which a command may end
abbrev pub MayEnd : Command → Status → Type 0
MayEnd Drill status = EndsDrill status
MayEnd Joint status = EndsDrill status
MayEnd (Generate start count nodes) status = EndsGenerate status
MayEnd (Storm opts) status = EndsStorm status
MayEnd (Serve group) status = EndsServe status
MayEnd (Peer process) status = EndsServe status
MayEnd (Watch writes) status = EndsWatch status
MayEnd (JointStorm workers reads) status = EndsJointStorm status

-- what words read as a command are within
abbrev pub IsInRange : Option Command → Type 0
IsInRange None = ⊤
IsInRange (Some Drill) = ⊤
IsInRange (Some Joint) = ⊤
IsInRange (Some (Generate start count nodes)) = (1 ≤ nodes) × (nodes ≤ 16)
IsInRange (Some (Storm opts)) = IsStorm opts
IsInRange (Some (Serve group)) = IsGroup group
IsInRange (Some (Peer process)) = IsProcess process
IsInRange (Some (Watch writes)) = ⊤
IsInRange (Some (JointStorm workers reads)) = ⊤
