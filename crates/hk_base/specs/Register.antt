-- A register, and what one operation on it answers and leaves: memcached's `protocol.txt`, in the profile of this store.
use Rattle.std.specs.Prelude.{ℕ, ◌+◌, ◌-◌, ◌%◌, ◌^◌, List, length, Bool, true, false, Option, Some, None, nat_lt, nat_le, ◌==◌, ◌&&◌, if◌then◌else◌, decimal}
use Rattle.std.specs.Str.{all_ascii_digits}
use Rattle.std.specs.Str.Parse.{digits_value}
use Rattle.hk_base.specs.declared.call.Content.{Content}
use Rattle.hk_base.specs.declared.call.Op.{Op}
use Rattle.hk_base.specs.declared.call.Op.TheVariants.{Read, Write, Cas, Incr, Decr, Add, Replace, Delete}
use Rattle.hk_base.specs.declared.call.Answer.{Answer}
use Rattle.hk_base.specs.declared.call.Answer.TheVariants.{Found, Missing, Stored, Number, Exists, NotFound, NotNumber, NotStored, Deleted}

-- A key that no update touched holds nothing and has tag 0. A deleted key holds nothing and has the tag of its deletion.
pub record Register : Type 0 where
  pub content : Option Content
  pub tag : ℕ

-- nothing, and tag 0
abbrev pub first : Register
first = record { content = None; tag = 0 }

pub record Acted : Type 0 where
  pub answer : Answer
  pub changed : Bool
  pub register : Register

abbrev pub stays : Answer → Register → Acted
stays a r = record { answer = a; changed = false; register = r }

-- what the register holds is replaced, by a content or by nothing
abbrev pub leaves : Answer → Option Content → ℕ → Acted
leaves a content newtag = record { answer = a; changed = true; register = record { content = content; tag = newtag } }

abbrev pub changes : Answer → Content → ℕ → Acted
changes a c newtag = leaves a (Some c) newtag

-- the value of 1 to 20 decimal digits, if it is below 2 ^ 64
abbrev pub number_in : List ℕ → Option ℕ
number_in bytes =
    if nat_le 1 (length bytes) && nat_le (length bytes) 20 && all_ascii_digits bytes && nat_lt (digits_value 10 bytes) (2 ^ 64)
    then Some (digits_value 10 bytes) else None

abbrev pub content_of_number : Content → ℕ → Content
content_of_number old n = record { flags = old.flags; bytes = decimal n }

-- a write of the number, where there was one
abbrev pub acts_number : Option ℕ → (ℕ → ℕ) → Content → Register → ℕ → Acted
acts_number None step old r newtag = stays NotNumber r
acts_number (Some v) step old r newtag = changes (Number (step v)) (content_of_number old (step v)) newtag

-- an operation on a register that holds nothing
abbrev pub act_on_nothing : Op → Register → ℕ → Acted
act_on_nothing Read r newtag = stays Missing r
act_on_nothing (Write c) r newtag = changes Stored c newtag
act_on_nothing (Cas t c) r newtag = stays NotFound r
act_on_nothing (Incr n) r newtag = stays NotFound r
act_on_nothing (Decr n) r newtag = stays NotFound r
act_on_nothing (Add c) r newtag = changes Stored c newtag
act_on_nothing (Replace c) r newtag = stays NotStored r
act_on_nothing Delete r newtag = stays NotFound r

-- an operation on a register that holds something
abbrev pub act_on : Op → Content → Register → ℕ → Acted
act_on Read held r newtag = stays (Found held r.tag) r
act_on (Write c) held r newtag = changes Stored c newtag
act_on (Cas t c) held r newtag = if t == r.tag then changes Stored c newtag else stays Exists r
act_on (Incr n) held r newtag = acts_number (number_in held.bytes) (λ v. (v + n) % 2 ^ 64) held r newtag
act_on (Decr n) held r newtag = acts_number (number_in held.bytes) (λ v. v - n) held r newtag
act_on (Add c) held r newtag = stays NotStored r
act_on (Replace c) held r newtag = changes Stored c newtag
act_on Delete held r newtag = leaves Deleted None newtag

-- an operation on a register, where a change takes the new tag
abbrev pub act : Op → Register → ℕ → Acted
act op r newtag = act_at op r.content r newtag
  where
    act_at : Op → Option Content → Register → ℕ → Acted
    act_at op None r newtag = act_on_nothing op r newtag
    act_at op (Some held) r newtag = act_on op held r newtag
