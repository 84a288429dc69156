use Rattle.std.proofs.Common.{rules, ◌≡◌, ◌+◌, ◌≤◌, length, take, drop, Err, subst, sym, ◌∙◌}
use Rattle.hk_fields.specs.declared.fault.FieldFault.{FieldFault}
use Rattle.hk_hello.specs.Told.{told_length, IsBodyRead}
use Rattle.hk_hello.proofs.Hellos.{no_body, not_short}
use Rattle.hk_hello.proofs.reading.read_hello.Goals as goal

pub returns-in-Err-Malformed : goal.returns-in-Err-Malformed
returns-in-Err-Malformed c =
    let told : told_length c.args.bytes.now ≡ c.told_length-len.result = search rules in
    let low : 81 ≤ c.told_length-len.result = search rules in
    let high : c.told_length-len.result ≤ 112 = search rules in
    let long : 2 + c.told_length-len.result ≤ length c.args.bytes.now = search rules in
    let body : take c.told_length-len.result (drop 2 c.args.bytes.now) ≡ c.split_at-2.result.0.now = search rules in
    let none = subst (λ (f : FieldFault). IsBodyRead (Err f) c.split_at-2.result.0.now) c.in-Err-Malformed.field-0-is c.in-Err-Malformed.ensures in
    (not_short c.args.bytes.now c.told_length-len.result told low high long, no_body c.args.bytes.now c.told_length-len.result told (λ s is e. none s is (sym body ∙ e)))
