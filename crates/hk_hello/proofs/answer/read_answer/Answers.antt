use Rattle.std.proofs.Common.{rules, ◌≡◌, ◌+◌, ◌∷◌, length, take}
use Rattle.hk_hello.proofs.Greetings.{welcome_is}
use Rattle.hk_hello.proofs.answer.read_answer.Goals as goal

pub returns-in-Some-split_first_chunk : goal.returns-in-Some-split_first_chunk
returns-in-Some-split_first_chunk c =
    let all : c.args.bytes.now ≡ 0 ∷ c.in-Some.rest.now = search rules in
    let front : c.in-Some-split_first_chunk.proof.now ≡ take 32 c.in-Some.rest.now = search rules in
    let long : length c.in-Some-split_first_chunk.field-0-1.now + 32 ≡ length c.in-Some.rest.now = search rules in
    welcome_is c.args.bytes.now c.in-Some.rest.now c.in-Some-split_first_chunk.proof.now c.in-Some-split_first_chunk.field-0-1.now all front long
