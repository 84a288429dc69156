use Rattle.std.proofs.Common.{rules, ◌≡◌, length, arith}
use Rattle.hk_hello.specs.Hellos.{fields_bytes}
use Rattle.hk_hello.proofs.Hellos.{length_fields}
use Rattle.hk_hello.proofs.printing.hello_bytes.Goals as goal

pub overflow_cast-len : goal.overflow_cast-len
overflow_cast-len c =
    let is : length c.put_fields.new.out.items ≡ length (fields_bytes c.args.hello.now) = search rules in
    let len : c.len.result ≡ length c.put_fields.new.out.items = search rules in
    let short = c.requires.short in
    omega (arith, is, len, short, length_fields c.args.hello.now c.home_is_value.ensures.ticket c.home_is_value.ensures.hosts)
