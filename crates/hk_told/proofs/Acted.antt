-- What an operation answers by whether it changes the register; whether it does, does not depend on the new tag.
use Rattle.std.proofs.Common.{◌≡◌, ℕ, Bool, true, false, ◌==◌, if◌then◌else◌, Option, Some, None, refl, subst}
use Rattle.hk_base.specs.declared.call.Content.{Content}
use Rattle.hk_base.specs.declared.call.Answer.{Answer}
use Rattle.hk_base.specs.declared.call.Answer.TheVariants.{Stored, Exists}
use Rattle.hk_base.specs.declared.call.Op.{Op}
use Rattle.hk_base.specs.declared.call.Op.TheVariants.{Read, Write, Cas, Incr, Decr, Add, Replace, Delete}
use Rattle.hk_base.specs.Register.{Register, Acted, act, act_on, act_on_nothing, acts_number, number_in, changes, stays}
use Rattle.hk_told.specs.Answers.{tells_stay, tells_change}

abbrev tells_by : Bool → Answer → Bool
tells_by true answer = tells_change answer
tells_by false answer = tells_stay answer

-- two of one operation on one register, with two tags
record Alike (a b : Acted) : Type 0 where
  fits : tells_by a.changed a.answer ≡ true
  changed : a.changed ≡ b.changed

on_nothing : (op : Op) (r : Register) (s t : ℕ) → Alike (act_on_nothing op r s) (act_on_nothing op r t)
on_nothing Read r s t = record { fits = refl; changed = refl }
on_nothing (Write c) r s t = record { fits = refl; changed = refl }
on_nothing (Cas own c) r s t = record { fits = refl; changed = refl }
on_nothing (Incr n) r s t = record { fits = refl; changed = refl }
on_nothing (Decr n) r s t = record { fits = refl; changed = refl }
on_nothing (Add c) r s t = record { fits = refl; changed = refl }
on_nothing (Replace c) r s t = record { fits = refl; changed = refl }
on_nothing Delete r s t = record { fits = refl; changed = refl }

on_number : (o : Option ℕ) (step : ℕ → ℕ) (old : Content) (r : Register) (s t : ℕ) → Alike (acts_number o step old r s) (acts_number o step old r t)
on_number None step old r s t = record { fits = refl; changed = refl }
on_number (Some v) step old r s t = record { fits = refl; changed = refl }

on_own : (own : Bool) (c : Content) (r : Register) (s t : ℕ) → Alike (if own then changes Stored c s else stays Exists r) (if own then changes Stored c t else stays Exists r)
on_own true c r s t = record { fits = refl; changed = refl }
on_own false c r s t = record { fits = refl; changed = refl }

on_content : (op : Op) (held : Content) (r : Register) (s t : ℕ) → Alike (act_on op held r s) (act_on op held r t)
on_content Read held r s t = record { fits = refl; changed = refl }
on_content (Write c) held r s t = record { fits = refl; changed = refl }
on_content (Cas own c) held r s t = on_own (own == r.tag) c r s t
on_content (Incr n) held r s t = on_number (number_in held.bytes) _ held r s t
on_content (Decr n) held r s t = on_number (number_in held.bytes) _ held r s t
on_content (Add c) held r s t = record { fits = refl; changed = refl }
on_content (Replace c) held r s t = record { fits = refl; changed = refl }
on_content Delete held r s t = record { fits = refl; changed = refl }

alike : (op : Op) (content : Option Content) (tag s t : ℕ) → Alike (act op (record { content = content; tag = tag }) s) (act op (record { content = content; tag = tag }) t)
alike op None tag s t = on_nothing op (record { content = None; tag = tag }) s t
alike op (Some held) tag s t = on_content op held (record { content = Some held; tag = tag }) s t

pub changes_alike : (op : Op) (content : Option Content) (tag s t : ℕ) → (act op (record { content = content; tag = tag }) s).changed ≡ (act op (record { content = content; tag = tag }) t).changed
changes_alike op content tag s t = (alike op content tag s t).changed

pub stays_tell : (op : Op) (content : Option Content) (tag s : ℕ) → (act op (record { content = content; tag = tag }) s).changed ≡ false →
    tells_stay (act op (record { content = content; tag = tag }) s).answer ≡ true
stays_tell op content tag s e = subst (λ (b : Bool). tells_by b (act op (record { content = content; tag = tag }) s).answer ≡ true) e (alike op content tag s s).fits

pub changes_tell : (op : Op) (content : Option Content) (tag s : ℕ) → (act op (record { content = content; tag = tag }) s).changed ≡ true →
    tells_change (act op (record { content = content; tag = tag }) s).answer ≡ true
changes_tell op content tag s e = subst (λ (b : Bool). tells_by b (act op (record { content = content; tag = tag }) s).answer ≡ true) e (alike op content tag s s).fits

pub read_stays : (content : Option Content) (tag s : ℕ) → (act Read (record { content = content; tag = tag }) s).changed ≡ false
read_stays None tag s = refl
read_stays (Some held) tag s = refl
