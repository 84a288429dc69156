use Rattle.std.proofs.Common.{ℕ, List, ◌++◌, codes, decimal, ap, ◌∙◌}
use Rattle.hk_joint_storm.proofs.Texts.{on_ok, grown}
use Rattle.hk_joint_storm.proofs.text.put_request.Goals as goal

pub returns : goal.returns
returns c =
    let out : List ℕ = c.args.out.now.items in
    let one : List ℕ = codes "joint-storm " in
    let two : List ℕ = one ++ decimal c.args.workers in
    let three : List ℕ = two ++ codes " " in
    let four : List ℕ = three ++ decimal c.args.reads in
    let a = c.in_ok-put_text.ensures in
    let b = grown out one (decimal c.args.workers) c.put_text.new.out.items c.put_number.new.out.items a (c.in_ok-put_number.ensures ∙ ap (λ (n : ℕ). c.put_text.new.out.items ++ decimal n) c.from.ensures) in
    let d = grown out two (codes " ") c.put_number.new.out.items c.put_text-2.new.out.items b c.in_ok-put_text-2.ensures in
    let e = grown out three (decimal c.args.reads) c.put_text-2.new.out.items c.put_number-2.new.out.items d (c.in_ok-put_number-2.ensures ∙ ap (λ (n : ℕ). c.put_text-2.new.out.items ++ decimal n) c.from-2.ensures) in
    on_ok c.put_text-3.result (λ f. grown out four (codes "\n") c.put_number-2.new.out.items c.put_text-3.new.out.items e f) c.put_text-3.ensures
