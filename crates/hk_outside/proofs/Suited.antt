-- That what an operation answers on a register suits it.
use Rattle.std.proofs.Common.{◌≡◌, ℕ, ◌==◌, Bool, true, false, Option, Some, None, refl}
use Rattle.std.specs.Prelude.{if◌then◌else◌}
use Rattle.hk_base.specs.declared.call.Content.{Content}
use Rattle.hk_base.specs.declared.call.Op.{Op}
use Rattle.hk_base.specs.declared.call.Op.TheVariants.{Read, Write, Cas, Incr, Decr, Add, Replace, Delete}
use Rattle.hk_base.specs.declared.call.Answer.TheVariants.{Stored, Exists}
use Rattle.hk_base.specs.Register.{Register, act, act_on, act_on_nothing, acts_number, number_in, changes, stays}
use Rattle.hk_outside.specs.Desk.{answers, ActSuits}

on_nothing : (op : Op) (register : Register) (newtag : ℕ) → answers op (act_on_nothing op register newtag).answer ≡ true
on_nothing Read register newtag = refl
on_nothing (Write c) register newtag = refl
on_nothing (Cas t c) register newtag = refl
on_nothing (Incr n) register newtag = refl
on_nothing (Decr n) register newtag = refl
on_nothing (Add c) register newtag = refl
on_nothing (Replace c) register newtag = refl
on_nothing Delete register newtag = refl

at_tag : (t newtag : ℕ) (c : Content) (register : Register) (same : Bool) → answers (Cas t c) (if same then changes Stored c newtag else stays Exists register).answer ≡ true
at_tag t newtag c register true = refl
at_tag t newtag c register false = refl

raised : (n newtag : ℕ) (step : ℕ → ℕ) (held : Content) (register : Register) (number : Option ℕ) → answers (Incr n) (acts_number number step held register newtag).answer ≡ true
raised n newtag step held register None = refl
raised n newtag step held register (Some v) = refl

lowered : (n newtag : ℕ) (step : ℕ → ℕ) (held : Content) (register : Register) (number : Option ℕ) → answers (Decr n) (acts_number number step held register newtag).answer ≡ true
lowered n newtag step held register None = refl
lowered n newtag step held register (Some v) = refl

on_content : (op : Op) (held : Content) (register : Register) (newtag : ℕ) → answers op (act_on op held register newtag).answer ≡ true
on_content Read held register newtag = refl
on_content (Write c) held register newtag = refl
on_content (Cas t c) held register newtag = at_tag t newtag c register (t == register.tag)
on_content (Incr n) held register newtag = raised n newtag _ held register (number_in held.bytes)
on_content (Decr n) held register newtag = lowered n newtag _ held register (number_in held.bytes)
on_content (Add c) held register newtag = refl
on_content (Replace c) held register newtag = refl
on_content Delete held register newtag = refl

pub suited : ActSuits
suited op register newtag = at register.content refl
  where
    at : (held : Option Content) → register.content ≡ held → answers op (act op register newtag).answer ≡ true
    at None is = rw is (on_nothing op _ newtag)
    at (Some c) is = rw is (on_content op c _ newtag)
