use Rattle.std.proofs.Common.{rules, ◌≡◌, true, Global, [], ◌∷◌, ◌++◌, Err, subst, sym, ap, ◌∙◌}
use Rattle.hk_host_words.specs.Reading.{texts, setting_of, settings_of, next_of, Begins}
use Rattle.hk_host_words.proofs.Carried.{failed}
use Rattle.hk_host_words.proofs.Coming.{Come, more, ended, goes_on, map_none, none_left, settings_more}
use Rattle.hk_host_words.proofs.settings.read_typed.Goals as goal

pub returns-in_err-next : goal.returns-in_err-next
returns-in_err-next c =
    let e : c.from_residual.result ≡ Err c.in_err-next.field-0.0 = search rules in
    let some : c.loop-left.left.now ≡ [] → ⊥ = search rules in
    failed (next_of {A = Global}) (Begins (texts c.loop-left.left.now)) _ _ c.from_residual.result c.in_err-next.field-0.0 e c.in_err-next.ensures
    (goes_on (texts c.args.words.now) (texts c.loop-left.left.now) [] (settings_of c.loop-left.typed.items) c.loop-left.invariant (λ none. some (map_none _ _ none)))

pub loop-left-preserved : goal.loop-left-preserved
loop-left-preserved c =
    let grown : c.push.new.self.items ≡ c.loop-left.typed.items ++ c.in_ok-next.next ∷ [] = search rules in
    subst (Come (texts c.args.words.now) (texts c.in_ok-next.behind.now)) (sym (ap settings_of grown ∙ settings_more c.loop-left.typed.items c.in_ok-next.next))
    (more (texts c.args.words.now) (texts c.loop-left.left.now) (texts c.in_ok-next.behind.now) (settings_of c.loop-left.typed.items) c.loop-left.invariant (setting_of c.in_ok-next.next) c.in_ok-next.ensures)

pub returns : goal.returns
returns c =
    let empty : c.is_empty.result ≡ true = search rules in
    ended (texts c.args.words.now) (texts c.loop-left.left.now) [] (settings_of c.loop-left.typed.items) c.loop-left.invariant (ap texts (none_left c.loop-left.left.now (sym c.is_empty.ensures ∙ empty)))
